-- The lease that a serial number names: what comes of it.
use Rattle.std.proofs.Common.{ℕ, ◌≡◌, sym, ap, subst, ◌∙◌, List, ◌++◌, length, Option, Some, None, Result, Ok, Err, inl, inr, refl}
use Rattle.std.specs.Prelude.{Bool, true, false, MatchBool, MatchResult, MatchOption, ◌==◌}
use Rattle.acc_base.proofs.Results.{equal, equal_self}
use Rattle.acc_base.specs.declared.items.Section.{Section}
use Rattle.acc_base.specs.declared.calls.Call.{Call}
use Rattle.acc_base.specs.declared.calls.Call.TheVariants.{Lend, Gather}
use Rattle.acc_base.specs.declared.faults.Fault.{Fault}
use Rattle.acc_base.specs.declared.faults.Fault.TheVariants.{NoLease}
use Rattle.acc_base.specs.Loans.{Leased}
use Rattle.acc_lend.specs.Loans.{section, with_section}
use Rattle.acc_base.specs.Calls.{World, judge}
use Rattle.acc_base.specs.Judge.{Verdict, Makes, Idle}
use Rattle.acc_table.specs.declared.calls.Reply.{Reply}
use Rattle.acc_table.specs.declared.calls.Reply.TheVariants as replies
use Rattle.acc_table.specs.Replies.{HasLease}
use Rattle.acc_table.specs.Turns.{lent_by}
use Rattle.acc_table.specs.Calls.{IsCarriedOut, IsDone, MayWantMemory, IsRefusal}
use Rattle.acc_table.proofs.Replying.{done_replied}
use Rattle.lamwiest_c.specs.declared.statuses.Refusal.TheVariants.{BadLength, OfTable}
use Rattle.lamwiest_c.specs.declared.loans.RawPlace.{RawPlace}
use Rattle.lamwiest_c.specs.Environments.{DataEnvironment}
use Rattle.lamwiest_c.specs.Leases.{leases_with, IsLeaseRead, IsLeaseWritten, IsLeasePlaced}
use Rattle.lamwiest_c.specs.Answers.{Told, number_in, IsLent, CameOfLoan, CameOfLease, lease_of, leases_without, IsGathered}

-- ---- an environment by its parts

environment_is : (v : DataEnvironment) (w : World) (leases : List Leased) → v.world ≡ w → v.leases ≡ leases → v ≡ record { world = w; leases = leases }
environment_is v w leases a b i = record { world = a i; leases = b i }

-- ---- a block that is lent

module _ (e v : DataEnvironment) (region : ℕ) (s : Section) (T : Told) where
  abbrev asked : Call Leased
  asked = Lend region s

  came : (r : Result Verdict Fault) (reply : Reply) → MatchResult r (λ verdict. IsCarriedOut e.world asked verdict reply v.world) (λ fault. ⊥) → HasLease reply → v.leases ≡ e.leases ++ lent_by reply → lease_of (number_in reply) e ≡ None → T (Ok (number_in reply)) → CameOfLoan e asked r T v
  came (Err fault) reply h lease leases new t = absurd h
  came (Ok Idle) reply h lease leases new t = subst HasLease h.0 lease
  came (Ok (Makes event)) reply h lease leases new t = (
    subst (λ (x : Reply). T (Ok (number_in x))) h.0 t,
    environment_is v _ _ h.1 (leases ∙ ap (λ (x : Reply). e.leases ++ lent_by x) h.0),
    subst (λ (x : Reply). lease_of (number_in x) e ≡ None) h.0 new,
  )

  -- it is lent, and its lease is the last one
  pub done_lent : (reply : Reply) → IsDone e.world asked reply v.world → v.leases ≡ e.leases ++ lent_by reply → lease_of (number_in reply) e ≡ None → T (Ok (number_in reply)) → IsLent e region s T v
  done_lent reply h leases new t = inr (came (judge e.world asked) reply h (done_replied e.world asked reply v.world h) leases new t)

-- ---- a lease that is brought back

module _ (e v : DataEnvironment) (serial : ℕ) (lease : Leased) (T : Told) (found : lease_of serial e ≡ Some lease) where
  abbrev back : Call Leased
  back = Gather lease

  of_lease : CameOfLease e serial back (judge e.world back) T v → IsGathered e serial T v
  of_lease h = subst (λ (o : Option Leased). MatchOption o (T (Err (OfTable (NoLease serial))) × (v ≡ e)) (λ l. CameOfLease e serial (Gather l) (judge e.world (Gather l)) T v)) (sym found) h

  gathered : (r : Result Verdict Fault) (reply : Reply) → MatchResult r (λ verdict. IsCarriedOut e.world back verdict reply v.world) (λ fault. ⊥) → reply ≡ replies.Done → v.leases ≡ leases_without serial e.leases → T (Ok (number_in reply)) → CameOfLease e serial back r T v
  gathered (Err fault) reply h done leases t = absurd h
  gathered (Ok Idle) reply h done leases t = let wrong : replies.Idle ≡ replies.Done = sym h.0 ∙ done in cc
  gathered (Ok (Makes event)) reply h done leases t =
      inr (subst (λ (x : Reply). T (Ok (number_in x))) h.0 t, environment_is v _ _ h.1 leases)

  -- it is back, and its lease is spent
  pub done_gathered : (reply : Reply) → IsDone e.world back reply v.world → v.leases ≡ leases_without serial e.leases → T (Ok (number_in reply)) → IsGathered e serial T v
  done_gathered reply h leases t = of_lease (gathered (judge e.world back) reply h (done_replied e.world back reply v.world h) leases t)

  ungathered : (r : Result Verdict Fault) (fault : Fault) → MatchResult r (λ verdict. MayWantMemory verdict fault) (λ refusal. fault ≡ refusal) → v ≡ e → T (Err (OfTable fault)) → CameOfLease e serial back r T v
  ungathered (Err refusal) fault h same t = (subst (λ (x : Fault). T (Err (OfTable x))) h t, same)
  ungathered (Ok Idle) fault h same t = absurd h
  ungathered (Ok (Makes event)) fault h same t = inl (subst (λ (x : Fault). T (Err (OfTable x))) h t, same)

  -- it is refused, and stays
  pub refused_gathered : (fault : Fault) → IsRefusal e.world back fault → v.world ≡ e.world → v.leases ≡ e.leases → T (Err (OfTable fault)) → IsGathered e serial T v
  refused_gathered fault h world leases t = of_lease (ungathered (judge e.world back) fault h (environment_is v e.world e.leases world leases) t)

-- no lease has the number
pub none_gathered : (e v : DataEnvironment) (serial : ℕ) (T : Told) → lease_of serial e ≡ None → v ≡ e → T (Err (OfTable (NoLease serial))) → IsGathered e serial T v
none_gathered e v serial T none same t =
    subst (λ (o : Option Leased). MatchOption o (T (Err (OfTable (NoLease serial))) × (v ≡ e)) (λ l. CameOfLease e serial (Gather l) (judge e.world (Gather l)) T v)) (sym none) (t, same)

-- ---- the bytes of a lease

-- the test distinguishes numbers
equal_true : (a b : ℕ) → a ≡ b → (a == b) ≡ true
equal_true a b same = subst (λ (n : ℕ). (a == n) ≡ true) same (equal_self a)

equal_false : (a b : ℕ) → (a ≡ b → ⊥) → (a == b) ≡ false
equal_false a b other = go (a == b) refl
  where
    go : (s : Bool) → (a == b) ≡ s → s ≡ false
    go true e = absurd (other (equal a b e))
    go false e = refl

module _ (e : DataEnvironment) (serial : ℕ) (old new : List ℕ) (T : Told) where
  -- what is read of a lease
  abbrev IsRead : Leased → Type 0
  IsRead lease = MatchBool (length old == lease.len) (T (Ok lease.len) × (new ≡ section lease)) (T (Err (BadLength lease.len)) × (new ≡ old))

  abbrev IsReadOf : Option Leased → Type 0
  IsReadOf found = MatchOption found (T (Err (OfTable (NoLease serial))) × (new ≡ old)) IsRead

  pub none_read : lease_of serial e ≡ None → new ≡ old → T (Err (OfTable (NoLease serial))) → IsLeaseRead e serial old new T
  none_read none same t = subst IsReadOf (sym none) (t, same)

  module _ (lease : Leased) (found : lease_of serial e ≡ Some lease) (n : ℕ) (len : n ≡ lease.len) where
    pub whole_read : length old ≡ n → T (Ok n) → new ≡ section lease → IsLeaseRead e serial old new T
    whole_read same t read = subst IsReadOf (sym found) (subst (λ (b : Bool). MatchBool b (T (Ok lease.len) × (new ≡ section lease)) (T (Err (BadLength lease.len)) × (new ≡ old))) (sym (equal_true (length old) lease.len (same ∙ len))) (subst (λ (k : ℕ). T (Ok k)) len t, read))

    pub short_read : (length old ≡ n → ⊥) → T (Err (BadLength n)) → new ≡ old → IsLeaseRead e serial old new T
    short_read other t same = subst IsReadOf (sym found) (subst (λ (b : Bool). MatchBool b (T (Ok lease.len) × (new ≡ section lease)) (T (Err (BadLength lease.len)) × (new ≡ old))) (sym (equal_false (length old) lease.len (λ k. other (k ∙ sym len)))) (subst (λ (k : ℕ). T (Err (BadLength k))) len t, same))

module _ (e v : DataEnvironment) (serial : ℕ) (bytes : List ℕ) (T : Told) where
  -- what is written over a lease
  abbrev WroteIf : Bool → Leased → Type 0
  WroteIf fits lease = MatchBool fits (T (Ok lease.len) × (v ≡ record { world = e.world; leases = leases_with serial (with_section lease bytes) e.leases })) (T (Err (BadLength lease.len)) × (v ≡ e))

  abbrev IsWrittenOf : Option Leased → Type 0
  IsWrittenOf found = MatchOption found (T (Err (OfTable (NoLease serial))) × (v ≡ e)) (λ lease. WroteIf (length bytes == lease.len) lease)

  pub none_written : lease_of serial e ≡ None → v ≡ e → T (Err (OfTable (NoLease serial))) → IsLeaseWritten e serial bytes T v
  none_written none same t = subst IsWrittenOf (sym none) (t, same)

  module _ (lease : Leased) (found : lease_of serial e ≡ Some lease) (n : ℕ) (len : n ≡ lease.len) where
    pub whole_written : length bytes ≡ n → T (Ok n) → v.world ≡ e.world → v.leases ≡ leases_with serial (with_section lease bytes) e.leases → IsLeaseWritten e serial bytes T v
    whole_written same t world leases =
        let after : v ≡ record { world = e.world; leases = leases_with serial (with_section lease bytes) e.leases } = environment_is v _ _ world leases in
        subst IsWrittenOf (sym found) (subst (λ (b : Bool). WroteIf b lease) (sym (equal_true (length bytes) lease.len (same ∙ len))) (subst (λ (k : ℕ). T (Ok k)) len t, after))

    pub short_written : (length bytes ≡ n → ⊥) → T (Err (BadLength n)) → v ≡ e → IsLeaseWritten e serial bytes T v
    short_written other t same = subst IsWrittenOf (sym found) (subst (λ (b : Bool). WroteIf b lease) (sym (equal_false (length bytes) lease.len (λ k. other (k ∙ sym len)))) (subst (λ (k : ℕ). T (Err (BadLength k))) len t, same))

-- ---- the place of a lease

module _ (e : DataEnvironment) (serial : ℕ) (old new : RawPlace) (T : Told) where
  -- what is told of the place of a lease
  abbrev IsPlacedIf : Option Leased → Type 0
  IsPlacedIf found = MatchOption found (T (Err (OfTable (NoLease serial))) × (new ≡ old)) (λ lease. T (Ok lease.len) × (new.offset ≡ lease.offset) × (new.len ≡ lease.len))

  pub none_placed : lease_of serial e ≡ None → new ≡ old → T (Err (OfTable (NoLease serial))) → IsLeasePlaced e serial old new T
  none_placed none same t = subst IsPlacedIf (sym none) (t, same)

  pub there_placed : (lease : Leased) → lease_of serial e ≡ Some lease → T (Ok lease.len) → new.offset ≡ lease.offset → new.len ≡ lease.len → IsLeasePlaced e serial old new T
  there_placed lease found t offset len = subst IsPlacedIf (sym found) (t, offset, len)
