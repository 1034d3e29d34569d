-- A lease that was lent, and that no call has brought back, is found by its number, whatever other calls are made.
use Rattle.std.proofs.Common.{ℕ, ◌≡◌, ◌∙◌, refl, sym, ap, subst, arith, cond, inl, inr, List, [], ◌∷◌, ◌++◌, length, Option, Some, None, IsSome, Result, Ok, Err}
use Rattle.std.specs.Prelude.{Bool, true, false, find, ◌==◌, MatchResult, MatchOption, MatchBool}
use Rattle.std.specs.List.{position_or_len}
use Rattle.std.proofs.lemmas.Bool.Decides.{nat_tests}
use Rattle.acc_base.specs.declared.items.Section.{Section}
use Rattle.acc_base.specs.declared.directives.Directive.{Directive}
use Rattle.acc_base.specs.declared.calls.Call.TheVariants.{Lend, Gather}
use Rattle.acc_base.specs.declared.faults.Fault.{Fault}
use Rattle.acc_base.specs.declared.faults.Fault.TheVariants.{NoLease}
use Rattle.acc_base.specs.Loans.{Leased}
use Rattle.acc_lend.specs.Loans.{with_section}
use Rattle.acc_base.specs.Calls.{judge, world_after}
use Rattle.acc_base.specs.Judge.{Verdict, Makes, Idle}
use Rattle.acc_table.specs.declared.calls.Reply.{Reply}
use Rattle.acc_table.specs.declared.calls.Reply.TheVariants as replies
use Rattle.acc_table.specs.Calls.{IsCarriedOut, IsDone, reply_in}
use Rattle.acc_table.specs.Replies.{HasLease}
use Rattle.acc_table.specs.Turns.{lent_by}
use Rattle.acc_table.proofs.Replying.{done_replied}
use Rattle.lamwiest_c.specs.declared.statuses.Refusal.{Refusal}
use Rattle.lamwiest_c.specs.declared.statuses.Refusal.TheVariants.{OfTable, BadLength}
use Rattle.lamwiest_c.specs.Environments.{DataEnvironment}
use Rattle.lamwiest_c.specs.Answers.{Told, is_serial, number_in, lease_of, leases_without, IsAsked, IsRebased, IsLent, CameOfLoan, IsGathered, CameOfLease}
use Rattle.lamwiest_c.specs.Leases.{leases_with, IsLeaseWritten}
use Rattle.lamwiest_c.proofs.Keeping.{remove_later, set_later}

-- the lease of a number is there
abbrev pub IsOut : ℕ → DataEnvironment → Type 0
IsOut n e = IsSome (lease_of n e)

-- ---- calls that move no lease

out_same : (n : ℕ) (e v : DataEnvironment) → v.leases ≡ e.leases → IsOut n e → IsOut n v
out_same n e v same out = subst (λ (ls : List Leased). IsSome (find (is_serial n) ls)) (sym same) out

pub out_asked : (n : ℕ) (e v : DataEnvironment) (asked : Result Directive Refusal) (T : Told) → IsAsked e asked T v → IsOut n e → IsOut n v
out_asked n e v (Err refusal) T h out = subst (IsOut n) (sym h.1) out
out_asked n e v (Ok directive) T (inl h) out = subst (IsOut n) (sym h.2) out
out_asked n e v (Ok directive) T (inr h) out = out_same n e v h.1 out

pub out_rebased : (n : ℕ) (e v : DataEnvironment) (T : Told) → IsRebased e T v → IsOut n e → IsOut n v
out_rebased n e v T (inl h) out = subst (IsOut n) (sym h.1) out
out_rebased n e v T (inr h) out = subst (IsOut n) (sym h.1) out

-- ---- loans

find_front : (n : ℕ) (xs ys : List Leased) → IsSome (find (is_serial n) xs) → IsSome (find (is_serial n) (xs ++ ys))
find_front n [] ys h = cc
find_front n (x ∷ xs) ys h = go (is_serial n x) refl (find_front n xs ys) h
  where
    go : (b : Bool) → is_serial n x ≡ b → (IsSome (find (is_serial n) xs) → IsSome (find (is_serial n) (xs ++ ys))) → IsSome (cond b (Some x) (find (is_serial n) xs)) → IsSome (find (is_serial n) (x ∷ xs ++ ys))
    go true t rest s = rw t refl
    go false t rest s = rw t (rest s)

-- those before it stay
pub out_lent : (n : ℕ) (e v : DataEnvironment) (region : ℕ) (s : Section) (T : Told) → IsLent e region s T v → IsOut n e → IsOut n v
out_lent n e v region s T (inl h) out = subst (IsOut n) (sym h.1) out
out_lent n e v region s T (inr h) out = go (judge e.world (Lend region s)) h
  where
    go : (r : Result Verdict Fault) → CameOfLoan e (Lend region s) r T v → IsOut n v
    go (Err fault) h = subst (IsOut n) (sym h.1) out
    go (Ok Idle) h = absurd h
    go (Ok (Makes event)) h = subst (IsOut n) (sym h.1) (find_front n e.leases _ out)

own_found : (xs : List Leased) (reply : Reply) → HasLease reply → IsSome (find (is_serial (number_in reply)) (xs ++ lent_by reply))
own_found [] (replies.Lease lease) h = let own : (lease.serial == lease.serial) ≡ true = grind (arith, nat_tests) in rw own refl
own_found [] replies.Done h = absurd h
own_found [] (replies.Entered number) h = absurd h
own_found [] (replies.Drained count) h = absurd h
own_found [] replies.Idle h = absurd h
own_found (x ∷ xs) reply h = go (is_serial (number_in reply) x) refl (own_found xs reply h)
  where
    go : (b : Bool) → is_serial (number_in reply) x ≡ b → IsSome (find (is_serial (number_in reply)) (xs ++ lent_by reply)) → IsSome (find (is_serial (number_in reply)) (x ∷ xs ++ lent_by reply))
    go true t rest = rw t refl
    go false t rest = rw t rest

-- and so is its own
pub out_own : (n : ℕ) (e v : DataEnvironment) (region : ℕ) (s : Section) → IsLent e region s (λ r. r ≡ Ok n) v → IsOut n v
out_own n e v region s (inl h) = cc
out_own n e v region s (inr h) = go (judge e.world (Lend region s)) refl h
  where
    go : (r : Result Verdict Fault) → judge e.world (Lend region s) ≡ r → CameOfLoan e (Lend region s) r (λ r. r ≡ Ok n) v → IsOut n v
    go (Err fault) is h = cc
    go (Ok Idle) is h = absurd h
    go (Ok (Makes event)) is h =
        let reply : Reply = reply_in event e.world in
        let after = world_after (Lend region s) event e.world in
        let done : IsDone e.world (Lend region s) reply after = subst (λ (r : Result Verdict Fault). MatchResult r (λ verdict. IsCarriedOut e.world (Lend region s) verdict reply after) (λ fault. ⊥)) (sym is) (refl, refl) in
        let number : number_in reply ≡ n = cc in
        let found = own_found e.leases reply (done_replied e.world (Lend region s) reply after done) in
        subst (IsOut n) (sym h.1) (subst (λ (m : ℕ). IsSome (find (is_serial m) (e.leases ++ lent_by reply))) number found)

-- ---- leases that are brought back

find_rest : (n m : ℕ) (ls : List Leased) → (n ≡ m → ⊥) → IsSome (find (is_serial n) ls) → IsSome (find (is_serial n) (leases_without m ls))
find_rest n m [] other h = cc
find_rest n m (l ∷ ls) other h = go (is_serial m l) (is_serial n l) refl refl (find_rest n m ls other) h
  where
    later : IsSome (find (is_serial n) (l ∷ leases_without m ls)) → is_serial m l ≡ false → IsSome (find (is_serial n) (leases_without m (l ∷ ls)))
    later s t = rw t (subst (λ (xs : List Leased). IsSome (find (is_serial n) xs)) (sym (remove_later l ls (position_or_len (is_serial m) ls))) s)

    go : (b c : Bool) → is_serial m l ≡ b → is_serial n l ≡ c → (IsSome (find (is_serial n) ls) → IsSome (find (is_serial n) (leases_without m ls))) → IsSome (cond c (Some l) (find (is_serial n) ls)) → IsSome (find (is_serial n) (leases_without m (l ∷ ls)))
    go true true t u rest s = let same : n ≡ m = grind (arith, nat_tests) in absurd (other same)
    go true false t u rest s = rw t s
    go false true t u rest s = later (rw u refl) t
    go false false t u rest s = later (rw u (rest s)) t

-- all but the one that is brought back stay
pub out_gathered : (n m : ℕ) (e v : DataEnvironment) (T : Told) → (n ≡ m → ⊥) → IsGathered e m T v → IsOut n e → IsOut n v
out_gathered n m e v T other h out = go (lease_of m e) h
  where
    came : (lease : Leased) (r : Result Verdict Fault) → CameOfLease e m (Gather lease) r T v → IsOut n v
    came lease (Err fault) h = subst (IsOut n) (sym h.1) out
    came lease (Ok Idle) h = absurd h
    came lease (Ok (Makes event)) (inl h) = subst (IsOut n) (sym h.1) out
    came lease (Ok (Makes event)) (inr h) = subst (IsOut n) (sym h.1) (find_rest n m e.leases other out)

    go : (found : Option Leased) → MatchOption found (T (Err (OfTable (NoLease m))) × (v ≡ e)) (λ lease. CameOfLease e m (Gather lease) (judge e.world (Gather lease)) T v) → IsOut n v
    go None h = subst (IsOut n) (sym h.1) out
    go (Some lease) h = came lease (judge e.world (Gather lease)) h

-- ---- leases that are written over

pub serial_found : (m : ℕ) (ls : List Leased) (lease : Leased) → find (is_serial m) ls ≡ Some lease → lease.serial ≡ m
serial_found m [] lease h = cc
serial_found m (l ∷ ls) lease h = go (is_serial m l) refl (serial_found m ls lease) h
  where
    go : (b : Bool) → is_serial m l ≡ b → (find (is_serial m) ls ≡ Some lease → lease.serial ≡ m) → cond b (Some l) (find (is_serial m) ls) ≡ Some lease → lease.serial ≡ m
    go true t rest s =
        let number : l.serial ≡ m = grind (arith, nat_tests) in
        let same : l ≡ lease = cc in
        sym (ap (λ (x : Leased). x.serial) same) ∙ number
    go false t rest s = rest s

find_other : (n m : ℕ) (x : Leased) (ls : List Leased) → x.serial ≡ m → IsSome (find (is_serial n) ls) → IsSome (find (is_serial n) (leases_with m x ls))
find_other n m x [] same h = cc
find_other n m x (l ∷ ls) same h = go (is_serial m l) (is_serial n l) (is_serial n x) refl refl refl (find_other n m x ls same) h
  where
    later : IsSome (find (is_serial n) (l ∷ leases_with m x ls)) → is_serial m l ≡ false → IsSome (find (is_serial n) (leases_with m x (l ∷ ls)))
    later s t = rw t (subst (λ (xs : List Leased). IsSome (find (is_serial n) xs)) (sym (set_later l x ls (position_or_len (is_serial m) ls))) s)

    go : (b c d : Bool) → is_serial m l ≡ b → is_serial n l ≡ c → is_serial n x ≡ d → (IsSome (find (is_serial n) ls) → IsSome (find (is_serial n) (leases_with m x ls))) → IsSome (cond c (Some l) (find (is_serial n) ls)) → IsSome (find (is_serial n) (leases_with m x (l ∷ ls)))
    go true c true t u d rest s = rw (t, d) refl
    go true true false t u d rest s = let wrong : true ≡ false = grind (arith, nat_tests) in cc
    go true false false t u d rest s = rw (t, d) s
    go false true d t u v rest s = later (rw u refl) t
    go false false d t u v rest s = later (rw u (rest s)) t

-- all stay
pub out_written : (n m : ℕ) (e v : DataEnvironment) (bytes : List ℕ) (T : Told) → IsLeaseWritten e m bytes T v → IsOut n e → IsOut n v
out_written n m e v bytes T h out = go (lease_of m e) refl h
  where
    wrote : (lease : Leased) (b : Bool) → lease.serial ≡ m → MatchBool b (T (Ok lease.len) × (v ≡ record { world = e.world; leases = leases_with m (with_section lease bytes) e.leases })) (T (Err (BadLength lease.len)) × (v ≡ e)) → IsOut n v
    wrote lease true same h = subst (IsOut n) (sym h.1) (find_other n m (with_section lease bytes) e.leases same out)
    wrote lease false same h = subst (IsOut n) (sym h.1) out

    go : (found : Option Leased) → lease_of m e ≡ found → MatchOption found (T (Err (OfTable (NoLease m))) × (v ≡ e)) (λ lease. MatchBool (length bytes == lease.len) (T (Ok lease.len) × (v ≡ record { world = e.world; leases = leases_with m (with_section lease bytes) e.leases })) (T (Err (BadLength lease.len)) × (v ≡ e))) → IsOut n v
    go None is h = subst (IsOut n) (sym h.1) out
    go (Some lease) is h = wrote lease (length bytes == lease.len) (serial_found m e.leases lease is) h
