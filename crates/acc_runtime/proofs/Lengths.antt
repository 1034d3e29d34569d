-- A lease is as long as the section that was asked for, and so are the bytes of host memory that are read.
use Rattle.std.proofs.Common.{ℕ, ◌≡◌, ◌-◌, ◌≤◌, refl, sym, ◌∙◌, ap, subst, Bool, true, false, cond, List, length, Some, None, Result, Ok, Err, arith, length-drop}
use Rattle.std.proofs.lemmas.List.{length-take-le}
use Rattle.std.specs.Prelude.{◌||◌, ◌&&◌, not, take, drop, MatchResult, IfOk}
use Rattle.std.proofs.lemmas.Bool.Decides.{nat_tests}
use Rattle.acc_base.specs.Section.{is_empty, is_within, host_base, host_memory}
use Rattle.acc_table.specs.Queries.{host_read_of}
use Rattle.acc_base.specs.declared.items.Section.{Section}
use Rattle.acc_base.specs.declared.mappings.Found.{Found}
use Rattle.acc_base.specs.declared.events.Event.{Event}
use Rattle.acc_base.specs.declared.faults.Fault.{Fault}
use Rattle.acc_base.specs.declared.calls.Call.TheVariants.{Lend}
use Rattle.acc_base.specs.declared.mappings.Found.TheVariants.{Inside}
use Rattle.acc_base.specs.declared.events.Event.TheVariants as events
use Rattle.acc_base.specs.declared.faults.Fault.TheVariants.{OutOfHost}
use Rattle.acc_base.specs.Results.{◌>>◌, refuse_if}
use Rattle.acc_base.specs.Limits.{Limits, limits_on}
use Rattle.acc_base.specs.Loans.{Leased, not_lent}
use Rattle.acc_base.specs.Records.{State}
use Rattle.acc_base.specs.Ranges.{where_is}
use Rattle.acc_base.specs.Clauses.{in_host}
use Rattle.acc_base.specs.Walk.{loan_at}
use Rattle.acc_base.specs.Devices.{view, device_in, device_of_region}
use Rattle.acc_base.specs.Judge.{Verdict, region_open, lend_there, lend_event, leased}
use Rattle.acc_base.specs.Calls.{World, judge, ticket, trace_room, loan_on}
use Rattle.acc_base.proofs.Results.{then_ok, ok_same}
use Rattle.acc_table.specs.declared.calls.Reply.TheVariants as replies
use Rattle.acc_table.specs.Calls.{reply_of, IsCarriedOut, IsDone}
use Rattle.acc_table.specs.Laws.{IsLawful}
use Rattle.acc_table.proofs.Replying.{made_of}
use Rattle.acc_runtime.specs.Shares.{Shares}
use Rattle.acc_runtime.specs.Acts.{IsActed}
use Rattle.acc_runtime.specs.Shared.{WasAccepted}

-- ---- a lease

event_long : (found : Found) (d region : ℕ) (section : Section) (s t : State) (e : Event) (lease : Leased) → lend_there found d region section s ≡ Ok e → replies.Lease lease ≡ reply_of e t → lease.len ≡ section.len
event_long (Inside block offset) d region section s t e lease h is =
    let made = then_ok (not_lent (Some block) s.records.loans) (Ok (events.Lent d region section block s.register.serial)) e h in
    let same : events.Lent d region section block s.register.serial ≡ e = ok_same _ _ made.1 in
    let told : replies.Lease lease ≡ replies.Lease (leased d (loan_at s.register.serial block section t.records.ranges) t) = is ∙ ap (λ x. reply_of x t) (sym same) in
    let lent : lease ≡ leased d (loan_at s.register.serial block section t.records.ranges) t = cc in
    ap (λ (x : Leased). x.len) lent
event_long _ d region section s t e lease h is = absurd cc

-- what is lent
pub lease_long : (w : World) (region : ℕ) (section : Section) (lease : Leased) (next : World) → IsDone w (Lend region section) (replies.Lease lease) next → lease.len ≡ section.len
unfolding judge lend_event
lease_long w region section lease next h = go (judge w (Lend region section)) refl h
  where
    by : (v : Verdict) → judge w (Lend region section) ≡ Ok v → IsCarriedOut w (Lend region section) v (replies.Lease lease) next → lease.len ≡ section.len
    by v is done =
        let d : ℕ = device_of_region region w.state in
        let s : State = view d w.state in
        let made = made_of (ticket w) (trace_room w) (loan_on w d region section) v is in
        let there = lend_there (where_is section s.records.ranges) d region section s in
        let opened = then_ok (region_open region s.register) (in_host (limits_on d w.limits) 0 section >> there) made.0 made.1 in
        let inside = then_ok (in_host (limits_on d w.limits) 0 section) there made.0 opened.1 in
        event_long (where_is section s.records.ranges) d region section s (view (device_in made.0) w.state) made.0 lease inside.1 (subst (λ x. IsCarriedOut w (Lend region section) x (replies.Lease lease) next) (sym made.2) done).0

    go : (r : Result Verdict Fault) → judge w (Lend region section) ≡ r → MatchResult r (λ verdict. IsCarriedOut w (Lend region section) verdict (replies.Lease lease) next) (λ fault. ⊥) → lease.len ≡ section.len
    go (Ok v) is x = by v is x
    go (Err fault) is x = absurd x

-- what a call lent, on the table and on one that was shared
pub lent_long : {E : Type 0} (r : Result Leased E) (p q : Shares) (w v : World) (region : ℕ) (section : Section)
    → IfOk r (λ lease. IsActed p w (Lend region section) (replies.Lease lease) q v) → IfOk r (λ (lease : Leased). lease.len ≡ section.len)
lent_long (Ok lease) p q w v region section acted = lease_long w region section lease v acted.done
lent_long (Err back) p q w v region section acted = tt

pub was_lent_long : {E : Type 0} (l : Limits) (r : Result Leased E) (p q : Shares) (region : ℕ) (section : Section)
    → IfOk r (λ lease. WasAccepted l p (Lend region section) (replies.Lease lease) q) → IfOk r (λ (lease : Leased). lease.len ≡ section.len)
was_lent_long l (Ok lease) p q region section accepted = lease_long accepted.before region section lease accepted.next accepted.acted.done
was_lent_long l (Err back) p q region section accepted = tt

-- ---- bytes of host memory

pub read_long : (s : Section) (host bytes : List ℕ) → host_read_of s host ≡ Some bytes → length bytes ≡ s.len
read_long s host bytes h = go (is_empty s || is_within s (host_memory (length host))) refl h
  where
    all_of : List ℕ
    all_of = take s.len (drop (s.start - host_base) host)

    go : (b : Bool) → (is_empty s || is_within s (host_memory (length host))) ≡ b → cond b (Some all_of) None ≡ Some bytes → length bytes ≡ s.len
    go true inside is =
        let same : all_of ≡ bytes = cc in
        let room : s.len ≤ length host - (s.start - host_base) = grind (arith, nat_tests) in
        subst (λ (xs : List ℕ). length xs ≡ s.len) same (length-take-le s.len (drop (s.start - host_base) host) (omega (arith, room, length-drop (s.start - host_base) host)))
    go false inside is = absurd cc

-- host memory has the bytes of each section that lies in it
pub read_inside : (l : Limits) (w : World) (s : Section) → IsLawful w → w.limits ≡ l → in_host l 0 s ≡ Ok tt → host_read_of s w.state.host ≡ None → ⊥
read_inside l w s lawful same inside none =
    let bounds = lawful.bounds in
    let size : length w.state.host ≡ w.limits.host = (lawful.devices 0 (omega (arith, bounds.devices))).memories.host in
    let host : length w.state.host ≡ l.host = size ∙ ap (λ (x : Limits). x.host) same in
    go (is_empty s) (is_within s (host_memory l.host)) (take s.len (drop (s.start - host_base) w.state.host)) inside (ap (λ (n : ℕ). cond (is_empty s || is_within s (host_memory n)) (Some (take s.len (drop (s.start - host_base) w.state.host))) None) (sym host) ∙ none)
  where
    go : (empty within : Bool) (bytes : List ℕ) → refuse_if (not empty && not within) (OutOfHost 0) ≡ Ok tt → cond (empty || within) (Some bytes) None ≡ None → ⊥
    go true within bytes inside none = absurd cc
    go false true bytes inside none = absurd cc
    go false false bytes inside none = absurd cc
