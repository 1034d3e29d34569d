-- How many queued transfers name a block, after one more and after one less, and what holds of each of them.
use Rattle.std.proofs.Common.{ℕ, zero, suc, ◌≡◌, ◌+◌, ◌<◌, ◌≤◌, refl, ◌∙◌, ap, Bool, true, false, cond, List, [], ◌∷◌, ◌++◌, length, Some, None, arith}
use Rattle.std.specs.Prelude.{◌==◌, nat_le, drop, slice_get, slice_index_or, slice_set, Ok}
use Rattle.std.specs.List.{AllByRecursion}
use Rattle.std.proofs.lemmas.Bool.Decides.{nat_tests}
use Rattle.std.proofs.lemmas.List.{length-set, get_or_past, set_past}
use Rattle.std.proofs.lemmas.List.Sums.{sum_by-cons, sum_by-set, sum_by_push}
use Rattle.acc_base.specs.Words.{Transfer, Block}
use Rattle.acc_base.specs.Limits.{Limits}
use Rattle.acc_base.specs.Queues.{queue_at, head_of, put, popped, pins_in, pins_of, queue_room}
use Rattle.acc_base.specs.Accounts.{IsTransferSound, AreQueuesSound}
use Rattle.acc_base.proofs.Results.{refused_not}
use Rattle.acc_base.proofs.Elements.{AllByRecursion-append}

-- ---- lists of lists

-- what all have stays, where another that has it takes a place
pub all-set : {X : Type 0} (P : X → Type 0) (xs : List X) (i : ℕ) (x : X) → P x → AllByRecursion P xs → AllByRecursion P (slice_set xs i x)
all-set P [] i x p h = h
all-set P (y ∷ ys) zero x p h = (p, h.1)
all-set P (y ∷ ys) (suc i) x p h = (h.0, all-set P ys i x p h.1)

-- what all have, and what is there otherwise, the one at a place has
pub all-at : {X : Type 0} (P : X → Type 0) (xs : List X) (i : ℕ) (d : X) → P d → AllByRecursion P xs → P (slice_index_or xs i d)
all-at P [] i d p h = p
all-at P (x ∷ xs) zero d p h = h.0
all-at P (x ∷ xs) (suc i) d p h = all-at P xs i d p h.1

-- ---- one more

pub pins-put : (block q : ℕ) (t : Transfer) (queues : List (List Transfer)) → q < length queues → pins_of block (put q t queues) ≡ pins_of block queues + cond (t.block == block) 1 0
pins-put block q t queues there =
    let other : pins_of block (put q t queues) + pins_in block (queue_at q queues) ≡ pins_of block queues + pins_in block (queue_at q queues ++ t ∷ []) = sum_by-set (pins_in block) queues q (queue_at q queues ++ t ∷ []) [] there in
    let more : pins_in block (queue_at q queues ++ t ∷ []) ≡ pins_in block (queue_at q queues) + cond (t.block == block) 1 0 = sum_by_push (λ (x : Transfer). cond (x.block == block) 1 0) (queue_at q queues) t in
    omega arith

-- a number that is no queue's takes nothing
pub put-past : (q : ℕ) (t : Transfer) (queues : List (List Transfer)) → length queues ≤ q → put q t queues ≡ queues
put-past q t queues past = set_past queues q (queue_at q queues ++ t ∷ []) past

-- no block has fewer pins
pub pins-le_put : (block q : ℕ) (t : Transfer) (queues : List (List Transfer)) → pins_of block queues ≤ pins_of block (put q t queues)
pins-le_put block q t queues = go (nat_le (length queues) q) refl
  where
    go : (b : Bool) → nat_le (length queues) q ≡ b → pins_of block queues ≤ pins_of block (put q t queues)
    go true e = let past : length queues ≤ q = grind (arith, nat_tests) in rw (put-past q t queues past) (omega arith)
    go false e =
        let there : q < length queues = grind (arith, nat_tests) in
        let more : pins_of block (put q t queues) ≡ pins_of block queues + cond (t.block == block) 1 0 = pins-put block q t queues there in
        omega arith

-- ---- the first one is gone

-- a queue that has a first transfer is there
pub head_there : (q : ℕ) (t : Transfer) (queues : List (List Transfer)) → head_of q queues ≡ Some t → q < length queues
head_there q t queues e = go (nat_le (length queues) q) refl
  where
    go : (b : Bool) → nat_le (length queues) q ≡ b → q < length queues
    go true b =
        let past : length queues ≤ q = grind (arith, nat_tests) in
        let none : queue_at q queues ≡ [] = get_or_past queues q [] past in
        absurd (let empty : head_of q queues ≡ None = ap (λ (ts : List Transfer). slice_get ts 0) none in cc)
    go false b = grind (arith, nat_tests)

-- it is its first transfer, and then the others
pub head_first : (ts : List Transfer) (t : Transfer) → slice_get ts 0 ≡ Some t → ts ≡ t ∷ drop 1 ts
head_first [] t e = cc
head_first (x ∷ xs) t e = let same : x ≡ t = cc in rw same refl

pub pins-popped : (block q : ℕ) (t : Transfer) (queues : List (List Transfer)) → head_of q queues ≡ Some t → pins_of block (popped q queues) + cond (t.block == block) 1 0 ≡ pins_of block queues
pins-popped block q t queues e =
    let there : q < length queues = head_there q t queues e in
    let other : pins_of block (popped q queues) + pins_in block (queue_at q queues) ≡ pins_of block queues + pins_in block (drop 1 (queue_at q queues)) = sum_by-set (pins_in block) queues q (drop 1 (queue_at q queues)) [] there in
    let split : pins_in block (queue_at q queues) ≡ pins_in block (t ∷ drop 1 (queue_at q queues)) = ap (pins_in block) (head_first (queue_at q queues) t e) in
    let first : pins_in block (t ∷ drop 1 (queue_at q queues)) ≡ cond (t.block == block) 1 0 + pins_in block (drop 1 (queue_at q queues)) = sum_by-cons (λ (x : Transfer). cond (x.block == block) 1 0) t (drop 1 (queue_at q queues)) in
    omega arith

-- ---- a block that no queued transfer names

abbrev pub AreOthers : ℕ → List Transfer → Type 0
AreOthers block ts = AllByRecursion (λ (t : Transfer). (t.block == block) ≡ false) ts

no_pins : (block : ℕ) (ts : List Transfer) → pins_in block ts ≡ 0 → AreOthers block ts
no_pins block [] e = tt
no_pins block (t ∷ ts) e =
    let parts : pins_in block (t ∷ ts) ≡ cond (t.block == block) 1 0 + pins_in block ts = sum_by-cons (λ (x : Transfer). cond (x.block == block) 1 0) t ts in
    (first (t.block == block) refl parts, no_pins block ts (omega arith))
  where
    first : (b : Bool) → (t.block == block) ≡ b → pins_in block (t ∷ ts) ≡ cond b 1 0 + pins_in block ts → (t.block == block) ≡ false
    first true is parts = absurd (omega (arith, e, parts))
    first false is parts = is

pub none_named : (block : ℕ) (queues : List (List Transfer)) → pins_of block queues ≡ 0 → AllByRecursion (AreOthers block) queues
none_named block [] e = tt
none_named block (ts ∷ queues) e =
    let parts : pins_of block (ts ∷ queues) ≡ pins_in block ts + pins_of block queues = sum_by-cons (pins_in block) ts queues in
    (no_pins block ts (omega arith), none_named block queues (omega arith))

-- ---- queues that are sound

pub queues-put : (l : Limits) (blocks : List Block) (q : ℕ) (t : Transfer) (queues : List (List Transfer)) → IsTransferSound l blocks t → queue_room l.queue_cap q queues ≡ Ok tt → AreQueuesSound l blocks queues → AreQueuesSound l blocks (put q t queues)
queues-put l blocks q t queues sound room h =
    let free : nat_le l.queue_cap (length (queue_at q queues)) ≡ false = refused_not _ _ room in
    let more : length (queue_at q queues ++ t ∷ []) ≡ length (queue_at q queues) + 1 = length-push (queue_at q queues) t in
    record {
      all = length-set queues q (queue_at q queues ++ t ∷ []) ∙ h.all;
      limit = all-set (λ (ts : List Transfer). length ts ≤ l.queue_cap) queues q (queue_at q queues ++ t ∷ []) (within (length (queue_at q queues)) free more) h.limit;
      transfers = all-set (AllByRecursion (IsTransferSound l blocks)) queues q (queue_at q queues ++ t ∷ [])
          (AllByRecursion-append (IsTransferSound l blocks) (queue_at q queues) (t ∷ []) (all-at (AllByRecursion (IsTransferSound l blocks)) queues q [] tt h.transfers) (sound, tt)) h.transfers;
    }
  where
    length-push : (ts : List Transfer) (x : Transfer) → length (ts ++ x ∷ []) ≡ length ts + 1
    length-push [] x = refl
    length-push (y ∷ ys) x = let later : length (ys ++ x ∷ []) ≡ length ys + 1 = length-push ys x in omega arith

    within : (n : ℕ) → nat_le l.queue_cap n ≡ false → length (queue_at q queues ++ t ∷ []) ≡ n + 1 → length (queue_at q queues ++ t ∷ []) ≤ l.queue_cap
    within n e more = let room : n < l.queue_cap = grind (arith, nat_tests) in omega (arith, more, room)

-- a queue without its first transfer
pub queues-popped : (l : Limits) (blocks : List Block) (q : ℕ) (queues : List (List Transfer)) → AreQueuesSound l blocks queues → AreQueuesSound l blocks (popped q queues)
queues-popped l blocks q queues h = record {
  all = length-set queues q (drop 1 (queue_at q queues)) ∙ h.all;
  limit = all-set (λ (ts : List Transfer). length ts ≤ l.queue_cap) queues q (drop 1 (queue_at q queues)) (fewer (queue_at q queues) (all-at (λ (ts : List Transfer). length ts ≤ l.queue_cap) queues q [] (omega arith) h.limit)) h.limit;
  transfers = all-set (AllByRecursion (IsTransferSound l blocks)) queues q (drop 1 (queue_at q queues))
      (later (queue_at q queues) (all-at (AllByRecursion (IsTransferSound l blocks)) queues q [] tt h.transfers)) h.transfers;
}
  where
    fewer : (ts : List Transfer) → length ts ≤ l.queue_cap → length (drop 1 ts) ≤ l.queue_cap
    fewer [] e = e
    fewer (x ∷ xs) e = omega arith

    later : (ts : List Transfer) → AllByRecursion (IsTransferSound l blocks) ts → AllByRecursion (IsTransferSound l blocks) (drop 1 ts)
    later [] h = tt
    later (x ∷ xs) h = h.1

-- where the blocks that queued transfers name stay
pub queues-blocks : (l : Limits) (P : Transfer → Type 0) (bs cs : List Block) (queues : List (List Transfer)) → ((t : Transfer) → P t → IsTransferSound l bs t → IsTransferSound l cs t)
    → AllByRecursion (AllByRecursion P) queues → AreQueuesSound l bs queues → AreQueuesSound l cs queues
queues-blocks l P bs cs queues f p h = record { all = h.all; limit = h.limit; transfers = each queues p h.transfers }
  where
    one : (ts : List Transfer) → AllByRecursion P ts → AllByRecursion (IsTransferSound l bs) ts → AllByRecursion (IsTransferSound l cs) ts
    one [] a b = tt
    one (t ∷ ts) a b = (f t a.0 b.0, one ts a.1 b.1)

    each : (qs : List (List Transfer)) → AllByRecursion (AllByRecursion P) qs → AllByRecursion (AllByRecursion (IsTransferSound l bs)) qs → AllByRecursion (AllByRecursion (IsTransferSound l cs)) qs
    each [] a b = tt
    each (ts ∷ qs) a b = (one ts a.0 b.0, each qs a.1 b.1)
