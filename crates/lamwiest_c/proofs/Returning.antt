-- A lease that was lent, and that no call has brought back, is never refused for want of a lease: each lease of a
-- handle is that of a loan of its table. Each call that changes a table keeps that, and all others leave the table as it
-- is. What a kernel writes where `lw_lease_bytes` tells is no call: it has to be the section's bytes alone.
use Rattle.std.proofs.Common.{ℕ, ◌≡◌, ◌∙◌, ◌+◌, ◌≤◌, refl, sym, ap, subst, arith, cond, inl, inr, List, [], ◌∷◌, ◌++◌, length, take, drop, Option, Some, None, IsSome, Result, Ok, Err, length-append, length-drop}
use Rattle.std.specs.Prelude.{Bool, true, false, find, ◌==◌, MatchOption, MatchBool}
use Rattle.std.specs.List.{AllByRecursion, position_or_len}
use Rattle.std.proofs.lemmas.Bool.Decides.{nat_tests}
use Rattle.std.proofs.lemmas.List.{length-take-le}
use Rattle.acc_base.specs.declared.items.Section.{Section}
use Rattle.acc_base.specs.declared.calls.Call.{Call}
use Rattle.acc_base.specs.declared.calls.Call.TheVariants.{Do, Lend, Gather}
use Rattle.acc_base.specs.declared.directives.Directive.{Directive}
use Rattle.acc_base.specs.declared.events.Event.{Event}
use Rattle.acc_base.specs.declared.faults.Fault.{Fault}
use Rattle.acc_base.specs.declared.faults.Fault.TheVariants.{Memory, NoLease}
use Rattle.acc_base.specs.Limits.{Limits, IsWithinBounds}
use Rattle.acc_base.specs.Loans.{Leased}
use Rattle.acc_base.specs.Accounts.{EachPair, IsAccounted}
use Rattle.acc_base.specs.Judge.{Verdict, Makes, Idle}
use Rattle.acc_base.specs.Calls.{World, judge, world_after}
use Rattle.acc_base.proofs.Elements.{AllByRecursion-weaker, AllByRecursion-both, AllByRecursion-append, EachPair-push, find_none, found_has}
use Rattle.acc_base.proofs.Queued.{all-set}
use Rattle.acc_base.proofs.Accounted.{accepted_accounted, new_accounted, rebased_accounted}
use Rattle.acc_lend.specs.Loans.{IsLoan, with_section}
use Rattle.acc_lend.proofs.Writing.{kept_outside}
use Rattle.acc_table.specs.Calls.{reply_in}
use Rattle.acc_table.specs.Turns.{lent_by}
use Rattle.lamwiest_c.specs.declared.statuses.Refusal.{Refusal}
use Rattle.lamwiest_c.specs.declared.statuses.Refusal.TheVariants.{OfTable, BadLength}
use Rattle.lamwiest_c.specs.Environments.{DataEnvironment}
use Rattle.lamwiest_c.specs.Begins.{new_environment}
use Rattle.lamwiest_c.specs.Answers.{Told, is_serial, number_in, lease_of, leases_without, CameOf, IsMadeIn, IsAsked, IsRebased, IsLent, CameOfLoan, IsGathered, CameOfLease}
use Rattle.lamwiest_c.specs.Leases.{leases_with, IsLeaseWritten}
use Rattle.lamwiest_c.proofs.Keeping.{remove_later, set_later}
use Rattle.lamwiest_c.proofs.Lasting.{IsOut, serial_found}
use Rattle.lamwiest_c.proofs.Owed.{IsOwed, owed_returns, owed_laws, IsNoGathering, not_back, stays_after, lent_to, other_stays}

-- each lease of a handle is owed to its table, and no two have the same number
pub record OwesAll (e : DataEnvironment) : Type 0 where
  pub bounds : IsWithinBounds e.world.limits
  pub accounted : IsAccounted e.world
  pub owed : AllByRecursion (IsOwed e.world) e.leases
  pub distinct : EachPair (λ (l : Leased) (m : Leased). l.serial ≡ m.serial → ⊥) e.leases

-- ---- a new table

pub owes_new : (l : Limits) → IsWithinBounds l → OwesAll (new_environment l)
owes_new l bounds = record { bounds = bounds; accounted = new_accounted l bounds; owed = tt; distinct = tt }

-- ---- calls that move no lease

-- an event that brings no lease back
owes_event : (w : World) (call : Call Leased) (event : Event) (leases : List Leased) → IsWithinBounds w.limits → IsAccounted w → judge w call ≡ Ok (Makes event) → IsNoGathering call → AllByRecursion (IsOwed w) leases → AllByRecursion (IsOwed (world_after call event w)) leases
owes_event w call event leases bounds accounted is plain owed =
    AllByRecursion-weaker (IsOwed w) (IsOwed (world_after call event w)) leases (λ lease h. stays_after w call event lease bounds accounted is (λ _. not_back w call event lease.block plain is) h) owed

within_after : (w : World) (call : Call Leased) (event : Event) → IsWithinBounds w.limits → IsWithinBounds (world_after call event w).limits
unfolding world_after
within_after w call event bounds = bounds

pub owes_made : (e v : DataEnvironment) (call : Call Leased) (T : Told) → IsNoGathering call → IsMadeIn e call T v → OwesAll e → OwesAll v
owes_made e v call T plain h owes = go (judge e.world call) refl h.0
  where
    in_world : (w : World) → v.world ≡ w → IsWithinBounds w.limits → IsAccounted w → AllByRecursion (IsOwed w) e.leases → OwesAll v
    in_world w is bounds accounted owed = record {
      bounds = subst (λ (x : World). IsWithinBounds x.limits) (sym is) bounds;
      accounted = subst IsAccounted (sym is) accounted;
      owed = subst (λ (x : World). AllByRecursion (IsOwed x) v.leases) (sym is) (subst (λ (ls : List Leased). AllByRecursion (IsOwed w) ls) (sym h.1) owed);
      distinct = subst (λ (ls : List Leased). EachPair (λ (l : Leased) (m : Leased). l.serial ≡ m.serial → ⊥) ls) (sym h.1) owes.distinct;
    }

    same : v.world ≡ e.world → OwesAll v
    same is = in_world e.world is owes.bounds owes.accounted owes.owed

    go : (r : Result Verdict Fault) → judge e.world call ≡ r → CameOf e.world call r T v.world → OwesAll v
    go (Err fault) is h = same h.1
    go (Ok Idle) is h = same h.1
    go (Ok (Makes event)) is (inl h) = same h.1
    go (Ok (Makes event)) is (inr h) =
        in_world (world_after call event e.world) h.1 (within_after e.world call event owes.bounds) (accepted_accounted e.world call event owes.bounds is owes.accounted) (owes_event e.world call event e.leases owes.bounds owes.accounted is plain owes.owed)

-- a directive with the items of an array, under a name of its own or named as an event names it
pub owes_asked : (e v : DataEnvironment) (asked : Result Directive Refusal) (T : Told) → IsAsked e asked T v → OwesAll e → OwesAll v
owes_asked e v (Err refusal) T h owes = subst OwesAll (sym h.1) owes
owes_asked e v (Ok directive) T (inl h) owes = subst OwesAll (sym h.2) owes
owes_asked e v (Ok directive) T (inr h) owes = owes_made e v (Do directive) T tt h owes

pub owes_rebased : (e v : DataEnvironment) (T : Told) → IsRebased e T v → OwesAll e → OwesAll v
owes_rebased e v T (inl h) owes = subst OwesAll (sym h.1) owes
owes_rebased e v T (inr h) owes = subst OwesAll (sym h.1) (record {
  bounds = owes.bounds;
  accounted = rebased_accounted e.world owes.bounds owes.accounted;
  owed = AllByRecursion-weaker (IsOwed e.world) _ e.leases (λ lease o. record { loan = o.loan; copy = o.copy }) owes.owed;
  distinct = owes.distinct;
})

-- ---- loans

pub owes_lent : (e v : DataEnvironment) (region : ℕ) (s : Section) (T : Told) → IsLent e region s T v → OwesAll e → OwesAll v
owes_lent e v region s T (inl h) owes = subst OwesAll (sym h.1) owes
owes_lent e v region s T (inr h) owes = go (judge e.world (Lend region s)) refl h
  where
    go : (r : Result Verdict Fault) → judge e.world (Lend region s) ≡ r → CameOfLoan e (Lend region s) r T v → OwesAll v
    go (Err fault) is h = subst OwesAll (sym h.1) owes
    go (Ok Idle) is h = absurd h
    go (Ok (Makes event)) is h =
        let w : World = e.world in
        let by = lent_to w region s event owes.bounds owes.accounted is in
        let own : lent_by (reply_in event w) ≡ by.0 ∷ [] = subst (λ (x : Event). lent_by (reply_in x w) ≡ by.0 ∷ []) by.1.event_is (ap (λ (l : Leased). l ∷ []) by.1.lease_is) in
        let number : number_in (reply_in event w) ≡ by.0.serial = subst (λ (x : Event). number_in (reply_in x w) ≡ by.0.serial) by.1.event_is (ap (λ (l : Leased). l.serial) by.1.lease_is) in
        let none : find (is_serial by.0.serial) e.leases ≡ None = subst (λ (n : ℕ). find (is_serial n) e.leases ≡ None) number h.2 in
        let others : AllByRecursion (λ (l : Leased). l.serial ≡ by.0.serial → ⊥) e.leases =
        AllByRecursion-weaker (λ (l : Leased). (l.serial == by.0.serial) ≡ false) (λ (l : Leased). l.serial ≡ by.0.serial → ⊥) e.leases (λ l differs same. grind (arith, nat_tests)) (find_none (is_serial by.0.serial) e.leases none) in
        subst OwesAll (sym h.1) (record {
          bounds = within_after w (Lend region s) event owes.bounds;
          accounted = accepted_accounted w (Lend region s) event owes.bounds is owes.accounted;
          owed = subst (λ (ls : List Leased). AllByRecursion (IsOwed (world_after (Lend region s) event w)) (e.leases ++ ls)) (sym own)
              (AllByRecursion-append (IsOwed (world_after (Lend region s) event w)) e.leases (by.0 ∷ []) (owes_event w (Lend region s) event e.leases owes.bounds owes.accounted is tt owes.owed) (by.1.has, tt));
          distinct = subst (λ (ls : List Leased). EachPair (λ (l : Leased) (m : Leased). l.serial ≡ m.serial → ⊥) (e.leases ++ ls)) (sym own) (EachPair-push (λ (l : Leased) (m : Leased). l.serial ≡ m.serial → ⊥) e.leases by.0 others owes.distinct);
        })

-- ---- leases that are brought back

-- what all have, all others have
all_without : (P : Leased → Type 0) (m : ℕ) (ls : List Leased) → AllByRecursion P ls → AllByRecursion P (leases_without m ls)
all_without P m [] h = tt
all_without P m (l ∷ ls) h = go (is_serial m l) refl (all_without P m ls h.1)
  where
    go : (b : Bool) → is_serial m l ≡ b → AllByRecursion P (leases_without m ls) → AllByRecursion P (leases_without m (l ∷ ls))
    go true t rest = rw t h.1
    go false t rest = rw t (subst (AllByRecursion P) (sym (remove_later l ls (position_or_len (is_serial m) ls))) (h.0, rest))

pairs_without : (R : Leased → Leased → Type 0) (m : ℕ) (ls : List Leased) → EachPair R ls → EachPair R (leases_without m ls)
pairs_without R m [] h = tt
pairs_without R m (l ∷ ls) h = go (is_serial m l) refl (pairs_without R m ls h.1)
  where
    go : (b : Bool) → is_serial m l ≡ b → EachPair R (leases_without m ls) → EachPair R (leases_without m (l ∷ ls))
    go true t rest = rw t h.1
    go false t rest = rw t (subst (EachPair R) (sym (remove_later l ls (position_or_len (is_serial m) ls))) (all_without (R l) m ls h.0, rest))

-- the others have other numbers
others_without : (m : ℕ) (ls : List Leased) (lease : Leased) → find (is_serial m) ls ≡ Some lease → EachPair (λ (l : Leased) (k : Leased). l.serial ≡ k.serial → ⊥) ls → AllByRecursion (λ (l : Leased). l.serial ≡ lease.serial → ⊥) (leases_without m ls)
others_without m [] lease is h = tt
others_without m (l ∷ ls) lease is h = go (is_serial m l) refl (others_without m ls lease) (serial_found m (l ∷ ls) lease is) is
  where
    go : (b : Bool) → is_serial m l ≡ b → (find (is_serial m) ls ≡ Some lease → EachPair (λ (x : Leased) (k : Leased). x.serial ≡ k.serial → ⊥) ls → AllByRecursion (λ (x : Leased). x.serial ≡ lease.serial → ⊥) (leases_without m ls))
        → lease.serial ≡ m → cond b (Some l) (find (is_serial m) ls) ≡ Some lease → AllByRecursion (λ (x : Leased). x.serial ≡ lease.serial → ⊥) (leases_without m (l ∷ ls))
    go true t rest own s =
        let same : l ≡ lease = cc in
        rw t (AllByRecursion-weaker (λ (x : Leased). l.serial ≡ x.serial → ⊥) (λ (x : Leased). x.serial ≡ lease.serial → ⊥) ls (λ x differs e. differs (ap (λ (y : Leased). y.serial) same ∙ sym e)) h.0)
    go false t rest own s =
        rw t (subst (AllByRecursion (λ (x : Leased). x.serial ≡ lease.serial → ⊥)) (sym (remove_later l ls (position_or_len (is_serial m) ls))) ((λ e. grind (arith, nat_tests)), rest s h.1))

-- a lease that is there is owed
owed_found : (w : World) (m : ℕ) (ls : List Leased) (lease : Leased) → AllByRecursion (IsOwed w) ls → find (is_serial m) ls ≡ Some lease → IsOwed w lease
owed_found w m ls lease owed is = (found_has (IsOwed w) (is_serial m) ls lease owed is).0

pub owes_gathered : (e v : DataEnvironment) (m : ℕ) (T : Told) → IsGathered e m T v → OwesAll e → OwesAll v
owes_gathered e v m T h owes = go (lease_of m e) refl h
  where
    came : (lease : Leased) → lease_of m e ≡ Some lease → (r : Result Verdict Fault) → judge e.world (Gather lease) ≡ r → CameOfLease e m (Gather lease) r T v → OwesAll v
    came lease found (Err fault) is h = subst OwesAll (sym h.1) owes
    came lease found (Ok Idle) is h = absurd h
    came lease found (Ok (Makes event)) is (inl h) = subst OwesAll (sym h.1) owes
    came lease found (Ok (Makes event)) is (inr h) =
        let w : World = e.world in
        let own : IsOwed w lease = owed_found w m e.leases lease owes.owed found in
        subst OwesAll (sym h.1) (record {
          bounds = within_after w (Gather lease) event owes.bounds;
          accounted = accepted_accounted w (Gather lease) event owes.bounds is owes.accounted;
          owed = AllByRecursion-both (IsOwed w) (λ (l : Leased). l.serial ≡ lease.serial → ⊥) (IsOwed (world_after (Gather lease) event w)) (leases_without m e.leases)
              (λ l o differs. stays_after w (Gather lease) event l owes.bounds owes.accounted is (other_stays w lease l event is own o differs) o)
              (all_without (IsOwed w) m e.leases owes.owed) (others_without m e.leases lease found owes.distinct);
          distinct = pairs_without (λ (l : Leased) (k : Leased). l.serial ≡ k.serial → ⊥) m e.leases owes.distinct;
        })

    go : (found : Option Leased) → lease_of m e ≡ found → MatchOption found (T (Err (OfTable (NoLease m))) × (v ≡ e)) (λ lease. CameOfLease e m (Gather lease) (judge e.world (Gather lease)) T v) → OwesAll v
    go None is h = subst OwesAll (sym h.1) owes
    go (Some lease) is h = came lease is (judge e.world (Gather lease)) refl h

-- ---- leases that are written over

-- how many bytes a lease has stays
written_long : (lease : Leased) (bytes : List ℕ) → IsLoan lease → length bytes ≡ lease.len → length (with_section lease bytes).bytes ≡ length lease.bytes
written_long lease bytes loan long =
    let old : List ℕ = lease.bytes in
    let low : lease.offset ≤ length old = omega (arith, loan.within) in
    length-take-le (length old) (take lease.offset old ++ (bytes ++ drop (lease.offset + length bytes) old)) (simp (length-append, length-drop) (omega (arith, length-take-le lease.offset old low)))

owed_written : (w : World) (lease : Leased) (bytes : List ℕ) → IsLoan lease → length bytes ≡ lease.len → IsOwed w lease → IsOwed w (with_section lease bytes)
owed_written w lease bytes loan long h =
    let kept = kept_outside lease bytes loan long in
    let as_long = written_long lease bytes loan long in
    record {
      loan = record { loan = h.loan.loan; loan_is = h.loan.loan_is; serial = h.loan.serial; offset = h.loan.offset; len = h.loan.len; bytes = h.loan.bytes ∙ sym as_long };
      copy = λ full. record { memory = (h.copy full).memory; memory_is = (h.copy full).memory_is; kept = rw (as_long, kept.before, kept.behind) (h.copy full).kept };
    }

pairs_with : (m : ℕ) (x : Leased) (ls : List Leased) → x.serial ≡ m → EachPair (λ (l : Leased) (k : Leased). l.serial ≡ k.serial → ⊥) ls → EachPair (λ (l : Leased) (k : Leased). l.serial ≡ k.serial → ⊥) (leases_with m x ls)
pairs_with m x [] same h = tt
pairs_with m x (l ∷ ls) same h = go (is_serial m l) refl (pairs_with m x ls same h.1)
  where
    go : (b : Bool) → is_serial m l ≡ b → EachPair (λ (y : Leased) (k : Leased). y.serial ≡ k.serial → ⊥) (leases_with m x ls) → EachPair (λ (y : Leased) (k : Leased). y.serial ≡ k.serial → ⊥) (leases_with m x (l ∷ ls))
    go true t rest =
        let own : x.serial ≡ l.serial = grind (arith, nat_tests) in
        rw t (AllByRecursion-weaker (λ (y : Leased). l.serial ≡ y.serial → ⊥) (λ (y : Leased). x.serial ≡ y.serial → ⊥) ls (λ y differs e. differs (sym own ∙ e)) h.0, h.1)
    go false t rest =
        rw t (subst (EachPair (λ (y : Leased) (k : Leased). y.serial ≡ k.serial → ⊥)) (sym (set_later l x ls (position_or_len (is_serial m) ls))) (all-set (λ (y : Leased). l.serial ≡ y.serial → ⊥) ls (position_or_len (is_serial m) ls) x (λ e. grind (arith, nat_tests)) h.0, rest))

pub owes_written : (e v : DataEnvironment) (m : ℕ) (bytes : List ℕ) (T : Told) → IsLeaseWritten e m bytes T v → OwesAll e → OwesAll v
owes_written e v m bytes T h owes = go (lease_of m e) refl h
  where
    wrote : (lease : Leased) → lease_of m e ≡ Some lease → (b : Bool) → (length bytes == lease.len) ≡ b → MatchBool b (T (Ok lease.len) × (v ≡ record { world = e.world; leases = leases_with m (with_section lease bytes) e.leases })) (T (Err (BadLength lease.len)) × (v ≡ e)) → OwesAll v
    wrote lease found true long h =
        let as_long : length bytes ≡ lease.len = grind (arith, nat_tests) in
        let own : IsOwed e.world lease = owed_found e.world m e.leases lease owes.owed found in
        let laws : IsLoan lease = owed_laws e.world lease owes.bounds owes.accounted own in
        subst OwesAll (sym h.1) (record {
          bounds = owes.bounds;
          accounted = owes.accounted;
          owed = all-set (IsOwed e.world) e.leases (position_or_len (is_serial m) e.leases) (with_section lease bytes) (owed_written e.world lease bytes laws as_long own) owes.owed;
          distinct = pairs_with m (with_section lease bytes) e.leases (serial_found m e.leases lease found) owes.distinct;
        })
    wrote lease found false long h = subst OwesAll (sym h.1) owes

    go : (found : Option Leased) → lease_of m e ≡ found → MatchOption found (T (Err (OfTable (NoLease m))) × (v ≡ e)) (λ lease. MatchBool (length bytes == lease.len) (T (Ok lease.len) × (v ≡ record { world = e.world; leases = leases_with m (with_section lease bytes) e.leases })) (T (Err (BadLength lease.len)) × (v ≡ e))) → OwesAll v
    go None is h = subst OwesAll (sym h.1) owes
    go (Some lease) is h = wrote lease is (length bytes == lease.len) refl h

-- ---- so a lease that is out comes back

-- the outcome is not that no lease is out
abbrev pub IsNotMissing : Result ℕ Refusal → Type 0
IsNotMissing r = (m : ℕ) → r ≡ Err (OfTable (NoLease m)) → ⊥

-- that of a lease that is out is another
pub never_missing : (e v : DataEnvironment) (n : ℕ) (T : Told) → OwesAll e → IsOut n e → IsGathered e n T v → (r : Result ℕ Refusal) × T r × IsNotMissing r
never_missing e v n T owes out h = go (lease_of n e) refl out h
  where
    fault_is : (fault : Fault) (m : ℕ) → ◌≡◌ {A = Result ℕ Refusal} (Err (OfTable fault)) (Err (OfTable (NoLease m))) → fault ≡ NoLease m
    fault_is fault m same = cc

    came : (lease : Leased) → lease_of n e ≡ Some lease → (r : Result Verdict Fault) → judge e.world (Gather lease) ≡ r → CameOfLease e n (Gather lease) r T v → (o : Result ℕ Refusal) × T o × IsNotMissing o
    came lease found (Err fault) is h =
        (Err (OfTable fault), h.0, λ m same. owed_returns e.world lease m (owed_found e.world n e.leases lease owes.owed found) (is ∙ ap Err (fault_is fault m same)))
    came lease found (Ok Idle) is h = absurd h
    came lease found (Ok (Makes event)) is (inl h) = (Err (OfTable Memory), h.0, λ m same. cc)
    came lease found (Ok (Makes event)) is (inr h) = (Ok (number_in (reply_in event e.world)), h.0, λ m same. cc)

    go : (found : Option Leased) → lease_of n e ≡ found → IsSome found → MatchOption found (T (Err (OfTable (NoLease n))) × (v ≡ e)) (λ lease. CameOfLease e n (Gather lease) (judge e.world (Gather lease)) T v) → (o : Result ℕ Refusal) × T o × IsNotMissing o
    go None is some h = absurd cc
    go (Some lease) is some h = came lease is (judge e.world (Gather lease)) refl h
