-- The marks of blocks: how many queued transfers name each, and whether its mapping has ended. They are right after
-- each change.
use Rattle.std.proofs.Common.{ℕ, ◌≡◌, ◌+◌, ◌*◌, ◌^◌, ◌<◌, ◌≤◌, refl, sym, ◌∙◌, ap, false, cond, List, [], ◌∷◌, ◌++◌, length, Option, Some, arith}
use Rattle.std.specs.Prelude.{◌==◌, map, is_none, IsSome, option_map}
use Rattle.std.specs.List.{AllByRecursion, AllZip}
use Rattle.std.proofs.lemmas.Bool.Decides.{nat_tests}
use Rattle.std.proofs.lemmas.List.Sums.{sum_by-cons, count_by-le-length}
use Rattle.acc_clauses.specs.Words.{Range, Block, Transfer}
use Rattle.acc_base.specs.Limits.{Limits}
use Rattle.acc_base.specs.Ranges.{range_of, changed_at, with_range, without_range}
use Rattle.acc_base.specs.Blocks.{block_at}
use Rattle.acc_base.specs.Queues.{head_of, put, popped, pins_in, pins_of}
use Rattle.acc_base.specs.Accounts.{AreQueuesSound, IsTransferSound}
use Rattle.acc_base.proofs.Results.{equal, equal_self}
use Rattle.acc_base.proofs.Elements.{AllByRecursion-weaker, AllByRecursion-append, found_has}
use Rattle.acc_base.proofs.Lookups.{at-changed, at-without_same, at-without_other}
use Rattle.acc_base.proofs.Counting.{with_new}
use Rattle.acc_base.proofs.Queued.{pins-put, pins-popped}
use Rattle.acc_present.specs.Queued.{AreQueues}
use Rattle.acc_dev.specs.Marks.{Mark, new_mark, pins_at, is_ended_at, mark_changed, with_pin, without_pin, with_end, without_mark, IsMarkOf}
use Rattle.acc_clauses.specs.Contents.{IsMarkRight}

-- ---- marks that change or go

-- each mark keeps something, where the one of a block changes
marks_changed : (P Q : Mark → Type 0) (k : ℕ) (change : Mark → Mark) (ms : List Mark) → ((m : Mark) → m.block ≡ k → P m → Q (change m)) → ((m : Mark) → (m.block == k) ≡ false → P m → Q m)
    → AllByRecursion P ms → AllByRecursion Q (map (mark_changed k change) ms)
marks_changed P Q k change [] own other h = tt
marks_changed P Q k change (m ∷ ms) own other h = grind (arith, nat_tests, marks_changed P Q k change ms own other h.1)

-- and where it goes
marks_without : (P Q : Mark → Type 0) (k : ℕ) (ms : List Mark) → ((m : Mark) → (m.block == k) ≡ false → P m → Q m) → AllByRecursion P ms → AllByRecursion Q (without_mark k ms)
marks_without P Q k [] other h = tt
marks_without P Q k (m ∷ ms) other h = grind (arith, nat_tests, marks_without P Q k ms other h.1)

-- ---- what the mark of a block says

-- the mark of a block that is there, which is right
pub record IsMarkAt (ranges : List Range) (queues : List (List Transfer)) (marks : List Mark) (k : ℕ) : Type 0 where
  pub pins : pins_at k marks ≡ pins_of k queues
  pub ended : is_ended_at k marks ≡ is_none (range_of k ranges)

pub mark_told : (ranges : List Range) (queues : List (List Transfer)) (k : ℕ) (marks : List Mark) (blocks : List Block) → AllZip IsMarkOf marks blocks → IsSome (block_at k blocks) → AllByRecursion (IsMarkRight ranges queues) marks
    → IsMarkAt ranges queues marks k
mark_told ranges queues k [] [] zip there h = cc
mark_told ranges queues k (m ∷ ms) (b ∷ bs) zip there h = grind (arith, nat_tests, mark_told ranges queues k ms bs zip.1)
mark_told ranges queues k _ _ zip there h = absurd zip

-- ---- how many transfers name a block

-- no more than wait
pins-few : (k : ℕ) (queues : List (List Transfer)) → AllByRecursion (λ (ts : List Transfer). length ts ≤ 4096) queues → pins_of k queues ≤ length queues * 4096
pins-few k [] h = omega arith
pins-few k (ts ∷ queues) h = grind (arith, nat_tests, pins-few k queues h.1, sum_by-cons (pins_in k) ts queues, count_by-le-length (λ (t : Transfer). t.block == k) ts)

-- no mark says more
pins_at-le : (ranges : List Range) (queues : List (List Transfer)) (k : ℕ) (marks : List Mark) → AllByRecursion (IsMarkRight ranges queues) marks → pins_at k marks ≤ pins_of k queues
pins_at-le ranges queues k [] h = omega arith
pins_at-le ranges queues k (m ∷ ms) h = grind (arith, nat_tests, pins_at-le ranges queues k ms h.1)

pub pins_below : (ranges : List Range) (limit : ℕ) (queues : List (List Transfer)) (k : ℕ) (marks : List Mark) → AreQueues limit queues → AllByRecursion (IsMarkRight ranges queues) marks → pins_at k marks < 2 ^ 32
pins_below ranges limit queues k marks laws h =
    let most : limit ≤ 4096 = laws.limit.1 in
    let few : pins_of k queues ≤ length queues * 4096 = pins-few k queues (AllByRecursion-weaker (λ (ts : List Transfer). length ts ≤ limit) (λ (ts : List Transfer). length ts ≤ 4096) queues (λ ts le. omega (arith, le, most)) laws.each) in
    let told : pins_at k marks ≤ pins_of k queues = pins_at-le ranges queues k marks h in
    let all : length queues ≡ 16 = laws.count in
    omega (arith, few, told, all)

-- a block that no queued transfer can name, since it is yet to be born
pub unborn_unpinned : (l : Limits) (blocks : List Block) (births : ℕ) (queues : List (List Transfer)) → AllByRecursion (λ b. b.number ≤ births) blocks → AreQueuesSound l blocks queues → pins_of (births + 1) queues ≡ 0
unborn_unpinned l blocks births queues born h = all queues h.transfers
  where
    one : (ts : List Transfer) → AllByRecursion (IsTransferSound l blocks) ts → pins_in (births + 1) ts ≡ 0
    one [] p = refl
    one (t ∷ ts) p = grind (arith, nat_tests, one ts p.1, sum_by-cons, found_has, equal)

    all : (qs : List (List Transfer)) → AllByRecursion (AllByRecursion (IsTransferSound l blocks)) qs → pins_of (births + 1) qs ≡ 0
    all [] p = refl
    all (ts ∷ qs) p = grind (arith, nat_tests, all qs p.1, sum_by-cons, one)

-- ---- a transfer is put, or the first one is gone

-- two numbers that are equal, the one way and the other
swapped : (a b : ℕ) → (a == b) ≡ false → (b == a) ≡ false
swapped a b e = grind (arith, nat_tests)

pub marks_put : (ranges : List Range) (q : ℕ) (t : Transfer) (queues : List (List Transfer)) (marks : List Mark) → q < length queues → AllByRecursion (IsMarkRight ranges queues) marks
    → AllByRecursion (IsMarkRight ranges (put q t queues)) (map (mark_changed t.block with_pin) marks)
marks_put ranges q t queues marks known h = marks_changed (IsMarkRight ranges queues) (IsMarkRight ranges (put q t queues)) t.block with_pin marks own other h
  where
    own : (m : Mark) → m.block ≡ t.block → IsMarkRight ranges queues m → IsMarkRight ranges (put q t queues) (with_pin m)
    own m e r = grind (arith, nat_tests, equal_self, pins-put)

    other : (m : Mark) → (m.block == t.block) ≡ false → IsMarkRight ranges queues m → IsMarkRight ranges (put q t queues) m
    other m e r = grind (arith, nat_tests, pins-put, swapped)

-- the mark of another block than that of the first transfer stays right
popped_other : (ranges : List Range) (q : ℕ) (t : Transfer) (queues : List (List Transfer)) → head_of q queues ≡ Some t → (m : Mark) → (m.block == t.block) ≡ false → IsMarkRight ranges queues m → IsMarkRight ranges (popped q queues) m
popped_other ranges q t queues first m e r = grind (arith, nat_tests, pins-popped m.block q t queues first)

-- the block of the first transfer has one pin fewer
pub pins_popped : (q : ℕ) (t : Transfer) (queues : List (List Transfer)) → head_of q queues ≡ Some t → pins_of t.block (popped q queues) + 1 ≡ pins_of t.block queues
pins_popped q t queues first = ap (λ b. pins_of t.block (popped q queues) + cond b 1 0) (sym (equal_self t.block)) ∙ pins-popped t.block q t queues first

pub marks_unpinned : (ranges : List Range) (q : ℕ) (t : Transfer) (queues : List (List Transfer)) (marks : List Mark) → head_of q queues ≡ Some t → AllByRecursion (IsMarkRight ranges queues) marks
    → AllByRecursion (IsMarkRight ranges (popped q queues)) (map (mark_changed t.block without_pin) marks)
marks_unpinned ranges q t queues marks first h = marks_changed (IsMarkRight ranges queues) (IsMarkRight ranges (popped q queues)) t.block without_pin marks own (popped_other ranges q t queues first) h
  where
    own : (m : Mark) → m.block ≡ t.block → IsMarkRight ranges queues m → IsMarkRight ranges (popped q queues) (without_pin m)
    own m e r = grind (arith, nat_tests, pins_popped)

pub marks_drained : (ranges : List Range) (q : ℕ) (t : Transfer) (queues : List (List Transfer)) (marks : List Mark) → head_of q queues ≡ Some t → AllByRecursion (IsMarkRight ranges queues) marks
    → AllByRecursion (IsMarkRight ranges (popped q queues)) (without_mark t.block marks)
marks_drained ranges q t queues marks first h = marks_without (IsMarkRight ranges queues) (IsMarkRight ranges (popped q queues)) t.block marks (popped_other ranges q t queues first) h

-- ---- the ranges change

-- the counters of a range
pub marks_counted : (ranges : List Range) (k : ℕ) (change : Range → Range) (queues : List (List Transfer)) (marks : List Mark) → ((r : Range) → (change r).block ≡ r.block) → AllByRecursion (IsMarkRight ranges queues) marks
    → AllByRecursion (IsMarkRight (changed_at k change ranges) queues) marks
marks_counted ranges k change queues marks keeps h = AllByRecursion-weaker (IsMarkRight ranges queues) (IsMarkRight (changed_at k change ranges) queues) marks
    (λ m r. record { pins = r.pins; ended = r.ended ∙ sym (ap is_none (at-changed (λ (x : Range). x.block) k m.block change ranges keeps) ∙ none_of (λ (x : Range). cond (x.block == k) (change x) x) (range_of m.block ranges)) }) h
  where
    none_of : (f : Range → Range) (o : Option Range) → is_none (option_map f o) ≡ is_none o
    none_of f o = grind (arith, nat_tests)

-- a new range for a new block
pub marks_born : (new : Range) (ranges : List Range) (queues : List (List Transfer)) (marks : List Mark) → AllByRecursion (λ (m : Mark). m.block ≡ new.block → ⊥) marks → pins_of new.block queues ≡ 0 → AllByRecursion (IsMarkRight ranges queues) marks
    → AllByRecursion (IsMarkRight (with_range new ranges) queues) (marks ++ new_mark new.block ∷ [])
marks_born new ranges queues marks others unpinned h = AllByRecursion-append (IsMarkRight (with_range new ranges) queues) marks (new_mark new.block ∷ []) (olds marks others h)
    (record { pins = sym unpinned; ended = sym (none_not (range_of new.block (with_range new ranges)) (with_new new ranges)) }, tt)
  where
    none_not : (o : Option Range) → IsSome o → is_none o ≡ false
    none_not o some = grind (arith, nat_tests)

    skipped : (m : Mark) → (new.block == m.block) ≡ false → (rs : List Range) → is_none (range_of m.block (with_range new rs)) ≡ is_none (range_of m.block rs)
    skipped m e [] = rw e refl
    skipped m e (r ∷ rs) = grind (arith, nat_tests, skipped m e rs)

    apart : (a b : ℕ) → (a ≡ b → ⊥) → (b == a) ≡ false
    apart a b differs = grind (arith, nat_tests)

    olds : (ms : List Mark) → AllByRecursion (λ (m : Mark). m.block ≡ new.block → ⊥) ms → AllByRecursion (IsMarkRight ranges queues) ms → AllByRecursion (IsMarkRight (with_range new ranges) queues) ms
    olds [] o p = tt
    olds (m ∷ ms) o p = (record { pins = p.0.pins; ended = p.0.ended ∙ sym (skipped m (apart m.block new.block o.0) ranges) }, olds ms o.1 p.1)

-- no mark is that of a block that is yet to be born
pub marks_old : (births : ℕ) (marks : List Mark) (blocks : List Block) → AllZip IsMarkOf marks blocks → AllByRecursion (λ b. b.number ≤ births) blocks → AllByRecursion (λ (m : Mark). m.block ≡ births + 1 → ⊥) marks
marks_old births [] [] zip born = tt
marks_old births (m ∷ ms) (b ∷ bs) zip born = grind (arith, nat_tests, marks_old births ms bs zip.1 born.1)
marks_old births _ _ zip born = absurd zip

-- ---- the range of a block is gone

gone_other : (ranges : List Range) (k : ℕ) (queues : List (List Transfer)) (m : Mark) → (m.block == k) ≡ false → IsMarkRight ranges queues m → IsMarkRight (without_range k ranges) queues m
gone_other ranges k queues m e r = record { pins = r.pins; ended = r.ended ∙ sym (ap is_none (at-without_other (λ (x : Range). x.block) k m.block ranges e)) }

-- and the block is kept
pub marks_ended : (ranges : List Range) (k : ℕ) (queues : List (List Transfer)) (marks : List Mark) → AllByRecursion (IsMarkRight ranges queues) marks → AllByRecursion (IsMarkRight (without_range k ranges) queues) (map (mark_changed k with_end) marks)
marks_ended ranges k queues marks h = marks_changed (IsMarkRight ranges queues) (IsMarkRight (without_range k ranges) queues) k with_end marks
    (λ m e r. record { pins = r.pins; ended = sym (ap (λ n. is_none (range_of n (without_range k ranges))) e ∙ ap is_none (at-without_same (λ (x : Range). x.block) k ranges)) })
    (gone_other ranges k queues) h

-- or the block is gone, too
pub marks_gone : (ranges : List Range) (k : ℕ) (queues : List (List Transfer)) (marks : List Mark) → AllByRecursion (IsMarkRight ranges queues) marks → AllByRecursion (IsMarkRight (without_range k ranges) queues) (without_mark k marks)
marks_gone ranges k queues marks h = marks_without (IsMarkRight ranges queues) (IsMarkRight (without_range k ranges) queues) k marks (gone_other ranges k queues) h
