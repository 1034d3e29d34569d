-- The leases that a table keeps stand by serial number, each below that of the next loan.
use Rattle.std.proofs.Common.{ℕ, suc, ◌≡◌, ◌<◌, ◌≤◌, ◌+◌, refl, sym, ap, subst, ◌∙◌, cond, arith, List, [], ◌∷◌, ◌++◌, Some, None, IsSome, Result, Ok, Err}
use Rattle.std.specs.Prelude.{Bool, true, false, find, option_map, not, ◌==◌, slice_set, MatchResult, IfOk, IfErr}
use Rattle.std.specs.List.{AllByRecursion, position_or_len, remove}
use Rattle.std.proofs.lemmas.Bool.Decides.{nat_tests}
use Rattle.acc_base.specs.declared.items.Section.{Section}
use Rattle.acc_base.specs.declared.events.Event.{Event}
use Rattle.acc_base.specs.declared.events.Event.TheVariants.{Entered, Left, Lent}
use Rattle.acc_base.specs.declared.calls.Call.{Call}
use Rattle.acc_base.specs.declared.calls.Call.TheVariants.{Lend}
use Rattle.acc_base.specs.declared.faults.Fault.{Fault}
use Rattle.acc_base.specs.Limits.{limits_on}
use Rattle.acc_base.specs.Loans.{Leased}
use Rattle.acc_base.specs.Register.{Register}
use Rattle.acc_base.specs.Walk.{register_after}
use Rattle.acc_base.specs.Devices.{view, device_in, device_of_region}
use Rattle.acc_base.specs.Calls.{World, judge, ticket, trace_room, loan_on, bytes_brought, world_after}
use Rattle.acc_base.specs.Judge.{Verdict, Makes, Idle}
use Rattle.acc_base.proofs.Accounted.{register-after}
use Rattle.acc_base.proofs.Elements.{AllByRecursion-weaker, AllByRecursion-filter, AllByRecursion-append, find-none}
use Rattle.acc_base.proofs.LegalEvents.{lend_legal}
use Rattle.acc_index.specs.Indexed.{IsIndexRising, value_at, without_number, with_other}
use Rattle.acc_table.specs.declared.calls.Reply.{Reply}
use Rattle.acc_table.specs.declared.calls.Reply.TheVariants as replies
use Rattle.acc_table.specs.Calls.{IsCarriedOut, IsDone}
use Rattle.acc_table.specs.Turns.{lent_by}
use Rattle.acc_table.proofs.Replying.{made_of}
use Rattle.lamwiest_c.specs.declared.environments.KeptLease.{KeptLease}
use Rattle.lamwiest_c.specs.Answers.{number_in, is_serial, leases_without}
use Rattle.lamwiest_c.specs.Keeps.{Entries, leases_in, IsLeaseKept, AreLeasesKept, entries_by, kept, lease_of_nothing}
use Rattle.lamwiest_c.specs.Leases.{leases_with}

-- ---- the serial number of the next loan

serial_grows : (e : Event) (g : Register) → g.serial ≤ (register_after e g).serial
serial_grows (Entered device number items did) g = omega arith
serial_grows (Left device number did) g = omega arith
serial_grows (Lent device region section block serial) g = omega arith
serial_grows _ g = omega arith

serial_after : (call : Call Leased) (e : Event) (w : World) → w.state.serial ≤ (world_after call e w).state.serial
unfolding world_after
serial_after call e w = subst (λ (g : Register). w.state.serial ≤ g.serial) (sym (register-after w.limits.full e (bytes_brought call) (view (device_in e) w.state))) (serial_grows e (view (device_in e) w.state).register)

-- no call makes it less
pub serial_rises : (w v : World) (call : Call Leased) (reply : Reply) → IsDone w call reply v → w.state.serial ≤ v.state.serial
serial_rises w v call reply done = go (judge w call) done
  where
    go : (r : Result Verdict Fault) → MatchResult r (λ verdict. IsCarriedOut w call verdict reply v) (λ fault. ⊥) → w.state.serial ≤ v.state.serial
    go (Err fault) h = absurd h
    go (Ok Idle) h = subst (λ (x : World). w.state.serial ≤ x.state.serial) (sym h.1) (omega arith)
    go (Ok (Makes e)) h = subst (λ (x : World). w.state.serial ≤ x.state.serial) (sym h.1) (serial_after call e w)

-- a loan has it, and the one after it is the next
pub record IsNumbered (w v : World) (reply : Reply) : Type 0 where
  pub number : number_in reply ≡ w.state.serial
  pub next : v.state.serial ≡ w.state.serial + 1

lent_next : (w v : World) (d region block : ℕ) (s : Section) (reply : Reply) → IsCarriedOut w (Lend region s) (Makes (Lent d region s block w.state.serial)) reply v → IsNumbered w v reply
unfolding world_after
lent_next w v d region block s reply h =
    let e : Event = Lent d region s block w.state.serial in
    record {
      number = ap number_in h.0;
      next = ap (λ (x : World). x.state.serial) h.1 ∙ ap (λ (g : Register). g.serial) (register-after w.limits.full e (bytes_brought (Lend region s)) (view d w.state));
    }

judged_next : (w v : World) (region : ℕ) (s : Section) (reply : Reply) (verdict : Verdict) → judge w (Lend region s) ≡ Ok verdict → IsCarriedOut w (Lend region s) verdict reply v → IsNumbered w v reply
unfolding judge
judged_next w v region s reply verdict is h =
    let d : ℕ = device_of_region region w.state in
    let made = made_of (ticket w) (trace_room w) (loan_on w d region s) verdict is in
    let lent = lend_legal (limits_on d w.limits) d region s (view d w.state) made.0 made.1 in
    lent_next w v d region lent.0 s reply (subst (λ (x : Verdict). IsCarriedOut w (Lend region s) x reply v) (sym (ap Makes lent.1 ∙ made.2)) h)

pub loan_numbered : (w v : World) (region : ℕ) (s : Section) (reply : Reply) → IsDone w (Lend region s) reply v → IsNumbered w v reply
loan_numbered w v region s reply done = go (judge w (Lend region s)) refl done
  where
    go : (r : Result Verdict Fault) → judge w (Lend region s) ≡ r → MatchResult r (λ verdict. IsCarriedOut w (Lend region s) verdict reply v) (λ fault. ⊥) → IsNumbered w v reply
    go (Err fault) is h = absurd h
    go (Ok verdict) is h = judged_next w v region s reply verdict is h

-- ---- the leases stay kept

pub kept_from : (m n : ℕ) (es : Entries) → m ≤ n → AllByRecursion (IsLeaseKept m) es → AllByRecursion (IsLeaseKept n) es
kept_from m n es le h = AllByRecursion-weaker (IsLeaseKept m) (IsLeaseKept n) es (λ e k. (k.0, omega (arith, k.1))) h

-- after a call
pub kept_done : (w v : World) (call : Call Leased) (reply : Reply) (es : Entries) → IsDone w call reply v → AreLeasesKept w es → AreLeasesKept v es
kept_done w v call reply es done h = kept_from w.state.serial v.state.serial es (serial_rises w v call reply done) h

-- whether it was done or refused
pub kept_asked : (w v : World) (call : Call Leased) (r : Result Reply (Call Leased × Fault)) (es : Entries) → IfOk r (λ reply. IsDone w call reply v) → IfErr r (λ back. (back.0 ≡ call) × (v ≡ w)) → AreLeasesKept w es → AreLeasesKept v es
kept_asked w v call (Ok reply) es done same h = kept_done w v call reply es done h
kept_asked w v call (Err back) es done same h = subst (λ (x : World). AreLeasesKept x es) (sym same.1) h

pub kept_without : (w : World) (n : ℕ) (es : Entries) → AreLeasesKept w es → AreLeasesKept w (without_number n es)
kept_without w n es h = AllByRecursion-filter (IsLeaseKept w.state.serial) (λ (e : ℕ × KeptLease). not (e.0 == n)) es h

-- each number is below that of a loan
pub kept_below : (w v : World) (reply : Reply) (es : Entries) → IsNumbered w v reply → AreLeasesKept w es → AllByRecursion (λ (e : ℕ × KeptLease). e.0 < number_in reply) es
kept_below w v reply es numbered h = AllByRecursion-weaker (IsLeaseKept w.state.serial) (λ (e : ℕ × KeptLease). e.0 < number_in reply) es (λ e k. omega (arith, k.1, numbered.number)) h

-- with that of a loan
pub kept_more : (w v : World) (reply : Reply) (es : Entries) → IsNumbered w v reply → AreLeasesKept w es → AreLeasesKept v (es ++ entries_by reply)
kept_more w v reply es numbered h = AllByRecursion-append (IsLeaseKept v.state.serial) es (entries_by reply) (kept_from w.state.serial v.state.serial es (omega (arith, numbered.next)) h) (own reply numbered.number)
  where
    own : (r : Reply) → number_in r ≡ w.state.serial → AllByRecursion (IsLeaseKept v.state.serial) (entries_by r)
    own (replies.Lease lease) is = ((refl, omega (arith, is, numbered.next)), tt)
    own replies.Done is = tt
    own (replies.Entered number) is = tt
    own (replies.Drained count) is = tt
    own replies.Idle is = tt

pub leases-more : (es : Entries) (reply : Reply) → leases_in (es ++ entries_by reply) ≡ leases_in es ++ lent_by reply
leases-more [] (replies.Lease lease) = refl
leases-more [] replies.Done = refl
leases-more [] (replies.Entered number) = refl
leases-more [] (replies.Drained count) = refl
leases-more [] replies.Idle = refl
leases-more (e ∷ es) reply = ap (λ (ls : List Leased). e.1.lease ∷ ls) (leases-more es reply)

-- ---- the lease of a number

number_is : (next n : ℕ) (e : ℕ × KeptLease) → IsLeaseKept next e → (b : Bool) → (e.0 == n) ≡ b → is_serial n e.1.lease ≡ b
number_is next n e h b t = ap (λ (m : ℕ). m == n) (sym h.0) ∙ t

-- it is found by its serial number as by its entry
pub lease_found : (next n : ℕ) (es : Entries) → AllByRecursion (IsLeaseKept next) es → find (is_serial n) (leases_in es) ≡ option_map (λ (k : KeptLease). k.lease) (value_at n es)
lease_found next n [] h = refl
lease_found next n (e ∷ es) h = go (e.0 == n) refl (lease_found next n es h.1)
  where
    go : (b : Bool) → (e.0 == n) ≡ b → find (is_serial n) (leases_in es) ≡ option_map (λ (k : KeptLease). k.lease) (value_at n es) → find (is_serial n) (leases_in (e ∷ es)) ≡ option_map (λ (k : KeptLease). k.lease) (value_at n (e ∷ es))
    go true t rest = rw (t, number_is next n e h.0 true t) refl
    go false t rest = rw (t, number_is next n e h.0 false t) rest

pub found_kept : (next n : ℕ) (es : Entries) (k : KeptLease) → AllByRecursion (IsLeaseKept next) es → value_at n es ≡ Some k → find (is_serial n) (leases_in es) ≡ Some k.lease
found_kept next n es k h is = lease_found next n es h ∙ ap (option_map (λ (x : KeptLease). x.lease)) is

pub none_kept : (next n : ℕ) (es : Entries) → AllByRecursion (IsLeaseKept next) es → value_at n es ≡ None → find (is_serial n) (leases_in es) ≡ None
none_kept next n es h is = lease_found next n es h ∙ ap (option_map (λ (x : KeptLease). x.lease)) is

-- behind the entry of a number no other one has it
none_later : (n : ℕ) (e : ℕ × KeptLease) (es : Entries) → (e.0 == n) ≡ true → IsIndexRising (e ∷ es) → AllByRecursion (λ (d : ℕ × KeptLease). (d.0 == n) ≡ false) es
none_later n e es t rise = AllByRecursion-weaker (λ (d : ℕ × KeptLease). e.0 < d.0) (λ (d : ℕ × KeptLease). (d.0 == n) ≡ false) es (λ d less. grind (arith, nat_tests)) rise.0

without_none : (n : ℕ) (es : Entries) → AllByRecursion (λ (d : ℕ × KeptLease). (d.0 == n) ≡ false) es → without_number n es ≡ es
without_none n [] h = refl
without_none n (e ∷ es) h = rw h.0 (ap (λ (ds : Entries). e ∷ ds) (without_none n es h.1))

other_none : (n : ℕ) (k : KeptLease) (es : Entries) → AllByRecursion (λ (d : ℕ × KeptLease). (d.0 == n) ≡ false) es → with_other n k es ≡ es
other_none n k [] h = refl
other_none n k (e ∷ es) h = rw h.0 (ap (λ (ds : Entries). e ∷ ds) (other_none n k es h.1))

-- a list behind another lease: what is taken out of it, and what is written into it
pub remove_later : (l : Leased) (ls : List Leased) (k : ℕ) → remove (l ∷ ls) (1 + k) ≡ l ∷ remove ls k
remove_later l ls k = let next : 1 + k ≡ suc k = omega arith in ap (remove (l ∷ ls)) next

pub set_later : (l x : Leased) (ls : List Leased) (k : ℕ) → slice_set (l ∷ ls) (1 + k) x ≡ l ∷ slice_set ls k x
set_later l x ls k = let next : 1 + k ≡ suc k = omega arith in ap (λ (i : ℕ). slice_set (l ∷ ls) i x) next

-- the leases without it
pub leases-without : (next n : ℕ) (es : Entries) → IsIndexRising es → AllByRecursion (IsLeaseKept next) es → leases_in (without_number n es) ≡ leases_without n (leases_in es)
leases-without next n [] rise h = refl
leases-without next n (e ∷ es) rise h = go (e.0 == n) refl (leases-without next n es rise.1 h.1)
  where
    go : (b : Bool) → (e.0 == n) ≡ b → leases_in (without_number n es) ≡ leases_without n (leases_in es) → leases_in (without_number n (e ∷ es)) ≡ leases_without n (leases_in (e ∷ es))
    go true t rest = rw (t, number_is next n e h.0 true t) (ap leases_in (without_none n es (none_later n e es t rise)))
    go false t rest = rw (t, number_is next n e h.0 false t) (ap (λ (ls : List Leased). e.1.lease ∷ ls) rest ∙ sym (remove_later e.1.lease (leases_in es) (position_or_len (is_serial n) (leases_in es))))

-- the leases with another one in its place
pub leases-other : (next n : ℕ) (k : KeptLease) (es : Entries) → IsIndexRising es → AllByRecursion (IsLeaseKept next) es → leases_in (with_other n k es) ≡ leases_with n k.lease (leases_in es)
leases-other next n k [] rise h = refl
leases-other next n k (e ∷ es) rise h = go (e.0 == n) refl (leases-other next n k es rise.1 h.1)
  where
    go : (b : Bool) → (e.0 == n) ≡ b → leases_in (with_other n k es) ≡ leases_with n k.lease (leases_in es) → leases_in (with_other n k (e ∷ es)) ≡ leases_with n k.lease (leases_in (e ∷ es))
    go true t rest = rw (t, number_is next n e h.0 true t) (ap (λ (ds : Entries). k.lease ∷ leases_in ds) (other_none n k es (none_later n e es t rise)))
    go false t rest = rw (t, number_is next n e h.0 false t) (ap (λ (ls : List Leased). e.1.lease ∷ ls) rest ∙ sym (set_later e.1.lease k.lease (leases_in es) (position_or_len (is_serial n) (leases_in es))))

-- which stays kept where it has the number
pub kept_other : (w : World) (n : ℕ) (k : KeptLease) (es : Entries) → n ≡ k.lease.serial → AreLeasesKept w es → AreLeasesKept w (with_other n k es)
kept_other w n k [] is h = tt
kept_other w n k (e ∷ es) is h = go (e.0 == n) refl (kept_other w n k es is h.1)
  where
    go : (b : Bool) → (e.0 == n) ≡ b → AreLeasesKept w (with_other n k es) → AreLeasesKept w (with_other n k (e ∷ es))
    go true t rest = rw t ((is, below), rest)
      where
        below : n < w.state.serial
        below = let less = h.0.1 in let same : e.0 ≡ n = grind (arith, nat_tests) in omega (arith, less, same)
    go false t rest = rw t (h.0, rest)

-- ---- what stands in its place for a while

-- an entry of another number
other_passes : (n : ℕ) (k : KeptLease) (e : ℕ × KeptLease) (es : Entries) → (e.0 == n) ≡ false → with_other n k (e ∷ es) ≡ e ∷ with_other n k es
other_passes n k e es t = rw t refl

without_passes : (n : ℕ) (e : ℕ × KeptLease) (es : Entries) → (e.0 == n) ≡ false → without_number n (e ∷ es) ≡ e ∷ without_number n es
without_passes n e es t = rw t refl

later_there : (n : ℕ) (e : ℕ × KeptLease) (es : Entries) → (e.0 == n) ≡ false → IsSome (value_at n es) → IsSome (value_at n (e ∷ es))
later_there n e es t s = rw t s

pub other_there : (n : ℕ) (k : KeptLease) (es : Entries) → IsSome (value_at n es) → IsSome (value_at n (with_other n k es))
other_there n k [] h = h
other_there n k (e ∷ es) h = go (e.0 == n) refl (other_there n k es) h
  where
    go : (b : Bool) → (e.0 == n) ≡ b → (IsSome (value_at n es) → IsSome (value_at n (with_other n k es))) → IsSome (option_map (λ (d : ℕ × KeptLease). d.1) (cond b (Some e) (find (λ (d : ℕ × KeptLease). d.0 == n) es))) → IsSome (value_at n (with_other n k (e ∷ es)))
    go true t rest s = let own : (n == n) ≡ true = grind (arith, nat_tests) in rw (t, own) s
    go false t rest s = subst (λ (ds : Entries). IsSome (value_at n ds)) (sym (other_passes n k e es t)) (later_there n e (with_other n k es) t (rest s))

-- the lease of a number is there while another one stands in its place
pub taken_there : (n : ℕ) (es taken : Entries) (lease : Leased) → value_at n es ≡ Some (kept lease) → taken ≡ with_other n (kept lease_of_nothing) es → IsSome (value_at n taken)
taken_there n es taken lease value is =
    let some : IsSome (value_at n es) = subst IsSome (sym value) refl in
    subst (λ (xs : Entries). IsSome (value_at n xs)) (sym is) (other_there n (kept lease_of_nothing) es some)

-- leaves no trace when it is taken out
pub without_other : (n : ℕ) (k : KeptLease) (es : Entries) → without_number n (with_other n k es) ≡ without_number n es
without_other n k [] = refl
without_other n k (e ∷ es) = go (e.0 == n) refl (without_other n k es)
  where
    go : (b : Bool) → (e.0 == n) ≡ b → without_number n (with_other n k es) ≡ without_number n es → without_number n (with_other n k (e ∷ es)) ≡ without_number n (e ∷ es)
    go true t rest = let own : (n == n) ≡ true = grind (arith, nat_tests) in rw (t, own) rest
    go false t rest =
        ap (without_number n) (other_passes n k e es t) ∙ without_passes n e (with_other n k es) t ∙ ap (λ (ds : Entries). e ∷ ds) rest ∙ sym (without_passes n e es t)

-- nor when what stood there comes back
pub other_back : (n : ℕ) (k l : KeptLease) (es : Entries) → IsIndexRising es → value_at n es ≡ Some l → with_other n l (with_other n k es) ≡ es
other_back n k l [] rise is = cc
other_back n k l (e ∷ es) rise is = go (e.0 == n) refl (other_back n k l es rise.1) is
  where
    go : (b : Bool) → (e.0 == n) ≡ b → (value_at n es ≡ Some l → with_other n l (with_other n k es) ≡ es) → option_map (λ (d : ℕ × KeptLease). d.1) (cond b (Some e) (find (λ (d : ℕ × KeptLease). d.0 == n) es)) ≡ Some l → with_other n l (with_other n k (e ∷ es)) ≡ e ∷ es
    go true t rest s =
        let own : (n == n) ≡ true = grind (arith, nat_tests) in
        let number : e.0 ≡ n = grind (arith, nat_tests) in
        let value : e.1 ≡ l = cc in
        let same : (n, l) ≡ e = λ i. (sym number i, sym value i) in
        let later = none_later n e es t rise in
        rw (t, own) (ap (λ (d : ℕ × KeptLease). d ∷ with_other n l (with_other n k es)) same ∙ ap (λ (ds : Entries). e ∷ ds) (ap (with_other n l) (other_none n k es later) ∙ other_none n l es later))
    go false t rest s = ap (with_other n l) (other_passes n k e es t) ∙ other_passes n l e (with_other n k es) t ∙ ap (λ (ds : Entries). e ∷ ds) (rest s)

-- no lease has the number of a loan
pub number_new : (w v : World) (reply : Reply) (es : Entries) → IsNumbered w v reply → AreLeasesKept w es → find (is_serial (number_in reply)) (leases_in es) ≡ None
number_new w v reply es numbered h =
    let below = AllByRecursion-weaker (λ (e : ℕ × KeptLease). e.0 < number_in reply) (λ (e : ℕ × KeptLease). (e.0 == number_in reply) ≡ false) es (λ e less. grind (arith, nat_tests)) (kept_below w v reply es numbered h) in
    none_kept w.state.serial (number_in reply) es h (ap (option_map (λ (e : ℕ × KeptLease). e.1)) (find-none (λ (e : ℕ × KeptLease). e.0 == number_in reply) es below))

-- the lease of a number has it
pub number_kept : (next n : ℕ) (es : Entries) (k : KeptLease) → AllByRecursion (IsLeaseKept next) es → value_at n es ≡ Some k → n ≡ k.lease.serial
number_kept next n [] k h is = cc
number_kept next n (e ∷ es) k h is = go (e.0 == n) refl (number_kept next n es k h.1) is
  where
    go : (b : Bool) → (e.0 == n) ≡ b → (value_at n es ≡ Some k → n ≡ k.lease.serial) → option_map (λ (d : ℕ × KeptLease). d.1) (cond b (Some e) (find (λ (d : ℕ × KeptLease). d.0 == n) es)) ≡ Some k → n ≡ k.lease.serial
    go true t rest s =
        let number : n ≡ e.0 = grind (arith, nat_tests) in
        let value : e.1 ≡ k = cc in
        number ∙ h.0.0 ∙ ap (λ (x : KeptLease). x.lease.serial) value
    go false t rest s = rest s
