-- The reply to a call has the form that its kind says.
use Rattle.std.proofs.Common.{ℕ, ◌≡◌, refl, sym, ◌∙◌, subst, List, length, Option, Some, None, Result, Ok, Err, inl, inr}
use Rattle.std.specs.Prelude.{⊤, not, MatchResult}
use Rattle.acc_clauses.specs.Words.{Section, Directive, Call, Event, Did, Task, Transfer, Found, Fault}
use Rattle.acc_base.proofs.Results.{then_ok, bind_ok, ok_same}
use Rattle.acc_base.specs.declared.directives.Directive.TheVariants.{Enter, Wait, Step}
use Rattle.acc_base.specs.declared.calls.Call.TheVariants.{Do, HostWrite, Lend, Gather}
use Rattle.acc_base.specs.declared.mappings.Found.TheVariants.{Inside}
use Rattle.acc_base.specs.declared.events.Event.TheVariants as events
use Rattle.acc_base.specs.declared.faults.Fault.TheVariants.{NoLease}
use Rattle.acc_base.specs.Results.{◌>>=◌, ◌>>◌, refuse_if}
use Rattle.acc_base.specs.Limits.{Limits, limits_on}
use Rattle.acc_base.specs.Devices.{view, device_in, device_of_region}
use Rattle.acc_base.specs.Loans.{Leased, not_lent, none_lent}
use Rattle.acc_base.specs.Leases.{is_returnable}
use Rattle.acc_base.specs.Records.{State}
use Rattle.acc_base.specs.Ranges.{where_is}
use Rattle.acc_base.specs.Clauses.{in_host}
use Rattle.acc_base.specs.Acting.{judge_all}
use Rattle.acc_base.specs.Queues.{head_of, queue_named}
use Rattle.acc_base.specs.Judge.{Verdict, Makes, tasks_of, queue_in, transfers_in, step_verdict, verdict_of, directive_verdict, region_open, lend_there, lend_event, written, gathered, gather_event}
use Rattle.acc_base.specs.Calls.{World, judge, ticket, trace_room, device_for, verdict_on, loan_on}
use Rattle.acc_table.specs.declared.calls.Reply.{Reply}
use Rattle.acc_table.specs.declared.calls.Reply.TheVariants as replies
use Rattle.acc_table.specs.Calls.{reply_of, reply_in, IsCarriedOut, IsDone}
use Rattle.acc_table.specs.Making.{admitted, write_admitted}
use Rattle.acc_table.specs.Replies.{HasLease, IsReplyToDirective, IsReplyTo}
use Rattle.acc_table.proofs.Verdicts.{planned_on, planned_judged, judge_directive, judge_write}

-- ---- directives

-- the verdict on a directive that is not refused is that on what its tasks did
verdict_made : (l : Limits) (n : ℕ) (d : Directive) (s : State) (v : Verdict) → directive_verdict l n d s ≡ Ok v → (dids : List Did) × (verdict_of n d s dids ≡ v)
unfolding directive_verdict
verdict_made l n d s v h =
    let last : List Did → Result Verdict Fault = λ dids. none_lent (transfers_in d s.records.queues) s.records.loans >> Ok (verdict_of n d s dids) in
    let then : List Task → Result Verdict Fault = λ ts. judge_all l 0 ts s >>= last in
    let found : (ts : List Task) × (tasks_of d s.register ≡ Ok ts) × ((queue_named (queue_in d) >> then ts) ≡ Ok v) = bind_ok (tasks_of d s.register) (λ ts. queue_named (queue_in d) >> then ts) v h in
    let known : (queue_named (queue_in d) ≡ Ok tt) × (then found.0 ≡ Ok v) = then_ok (queue_named (queue_in d)) (then found.0) v found.2 in
    let acted : (dids : List Did) × (judge_all l 0 found.0 s ≡ Ok dids) × (last dids ≡ Ok v) = bind_ok (judge_all l 0 found.0 s) last v known.1 in
    let free : (none_lent (transfers_in d s.records.queues) s.records.loans ≡ Ok tt) × (Ok (verdict_of n d s acted.0) ≡ Ok v) = then_ok (none_lent (transfers_in d s.records.queues) s.records.loans) (Ok (verdict_of n d s acted.0)) v acted.2 in
    (acted.0, ok_same _ _ free.1)

step_replied : (w : World) (n device queue : ℕ) (o : Option Transfer) (reply : Reply) (next : World) → IsCarriedOut w (Do (Step device queue)) (step_verdict n queue o) reply next → IsReplyToDirective (Step device queue) reply
step_replied w n device queue None reply next h = inr h.0
step_replied w n device queue (Some t) reply next h = inl h.0

verdict_replied : (w : World) (n : ℕ) (d : Directive) (s : State) (dids : List Did) (reply : Reply) (next : World) → IsCarriedOut w (Do d) (verdict_of n d s dids) reply next → IsReplyToDirective d reply
verdict_replied w n (Enter device items) s dids reply next h = rw h.0 tt
verdict_replied w n (Wait device queue) s dids reply next h = rw h.0 tt
verdict_replied w n (Step device queue) s dids reply next h = step_replied w n device queue (head_of queue s.records.queues) reply next h
verdict_replied w n _ s dids reply next h = h.0

-- the device for which a directive is, and its view
abbrev pub seen_by : World → Directive → State
seen_by w d = view (device_for d w.state) w.state

pub judged_as : (w : World) (d : Directive) (v : Verdict) → judge w (Do d) ≡ Ok v → (dids : List Did) × (verdict_of (device_for d w.state) d (seen_by w d) dids ≡ v)
judged_as w d v h =
    let n : ℕ = device_for d w.state in
    let planned : planned_on w d ≡ Ok v = (then_ok (admitted w d) (planned_on w d) v (sym (judge_directive w d) ∙ h)).1 in
    let judged : verdict_on w n d ≡ Ok v = planned_judged w d v planned in
    verdict_made (limits_on n w.limits) n d (view n w.state) v judged

directive_replied : (w : World) (d : Directive) (v : Verdict) (reply : Reply) (next : World) → judge w (Do d) ≡ Ok v → IsCarriedOut w (Do d) v reply next → IsReplyToDirective d reply
directive_replied w d v reply next h done =
    let made : (dids : List Did) × (verdict_of (device_for d w.state) d (seen_by w d) dids ≡ v) = judged_as w d v h in
    verdict_replied w (device_for d w.state) d (seen_by w d) made.0 reply next (subst (λ x. IsCarriedOut w (Do d) x reply next) (sym made.1) done)

-- ---- the other calls

write_replied : (w : World) (addr : ℕ) (bytes : List ℕ) (v : Verdict) (reply : Reply) (next : World) → judge w (HostWrite addr bytes) ≡ Ok v → IsCarriedOut w (HostWrite addr bytes) v reply next → reply ≡ replies.Done
write_replied w addr bytes v reply next h done =
    let is = then_ok (write_admitted w (record { start = addr; len = length bytes })) (Ok (Makes (written w.limits.full addr bytes))) v (sym (judge_write w addr bytes) ∙ h) in
    (subst (λ x. IsCarriedOut w (HostWrite addr bytes) x reply next) (sym (ok_same (Makes (written w.limits.full addr bytes)) v is.1)) done).0

-- what is made of the event of a call is that event
pub made_of : (a b : Result ⊤ Fault) (r : Result Event Fault) (v : Verdict) → (a >> (b >> (r >>= λ e. Ok (Makes e)))) ≡ Ok v → (e : Event) × (r ≡ Ok e) × (Makes e ≡ v)
made_of a b r v h =
    let rest = then_ok a (b >> (r >>= λ e. Ok (Makes e))) v h in
    let last = then_ok b (r >>= λ e. Ok (Makes e)) v rest.1 in
    let found : (e : Event) × (r ≡ Ok e) × (◌≡◌ {A = Result Verdict Fault} (Ok (Makes e)) (Ok v)) = bind_ok r (λ e. Ok (Makes e)) v last.1 in
    (found.0, found.1, ok_same (Makes found.0) v found.2)

loan_replied : (found : Found) (d region : ℕ) (section : Section) (s t : State) (e : Event) (reply : Reply) → lend_there found d region section s ≡ Ok e → reply ≡ reply_of e t → HasLease reply
loan_replied (Inside block offset) d region section s t e reply h is =
    let made = then_ok (not_lent (Some block) s.records.loans) (Ok (events.Lent d region section block s.register.serial)) e h in
    let same : events.Lent d region section block s.register.serial ≡ e = ok_same _ _ made.1 in
    rw is (subst (λ x. HasLease (reply_of x t)) same tt)
loan_replied _ d region section s t e reply h is = cc

lend_replied : (w : World) (region : ℕ) (section : Section) (v : Verdict) (reply : Reply) (next : World) → judge w (Lend region section) ≡ Ok v → IsCarriedOut w (Lend region section) v reply next → HasLease reply
unfolding judge lend_event
lend_replied w region section v reply next h done =
    let d : ℕ = device_of_region region w.state in
    let s : State = view d w.state in
    let l : Limits = limits_on d w.limits in
    let made = made_of (ticket w) (trace_room w) (loan_on w d region section) v h in
    let there = lend_there (where_is section s.records.ranges) d region section s in
    let opened = then_ok (region_open region s.register) (in_host l 0 section >> there) made.0 made.1 in
    let inside = then_ok (in_host l 0 section) there made.0 opened.1 in
    loan_replied (where_is section s.records.ranges) d region section s (view (device_in made.0) w.state) made.0 reply inside.1 (subst (λ x. IsCarriedOut w (Lend region section) x reply next) (sym made.2) done).0

gather_replied : (w : World) (lease : Leased) (v : Verdict) (reply : Reply) (next : World) → judge w (Gather lease) ≡ Ok v → IsCarriedOut w (Gather lease) v reply next → reply ≡ replies.Done
unfolding judge gather_event
gather_replied w lease v reply next h done =
    let s : State = view lease.device w.state in
    let made = made_of (ticket w) (trace_room w) (gather_event (limits_on lease.device w.limits) lease s) v h in
    let fits = then_ok (refuse_if (not (is_returnable w.limits.full lease.device lease s.records.blocks s.records.loans s.memories)) (NoLease lease.serial)) (Ok (gathered w.limits.full lease)) made.0 made.1 in
    let same : gathered w.limits.full lease ≡ made.0 = ok_same _ _ fits.1 in
    subst (λ x. reply ≡ reply_in x w) (sym same) (subst (λ x. IsCarriedOut w (Gather lease) x reply next) (sym made.2) done).0

-- ---- a call

verdict_fits : (w : World) (call : Call Leased) (v : Verdict) (reply : Reply) (next : World) → judge w call ≡ Ok v → IsCarriedOut w call v reply next → IsReplyTo call reply
verdict_fits w (Do d) v reply next h done = directive_replied w d v reply next h done
verdict_fits w (HostWrite addr bytes) v reply next h done = write_replied w addr bytes v reply next h done
verdict_fits w (Lend region section) v reply next h done = lend_replied w region section v reply next h done
verdict_fits w (Gather lease) v reply next h done = gather_replied w lease v reply next h done

-- the reply to a call that is done is as its kind says
pub done_replied : (w : World) (call : Call Leased) (reply : Reply) (next : World) → IsDone w call reply next → IsReplyTo call reply
done_replied w call reply next h = go (judge w call) refl h
  where
    go : (r : Result Verdict Fault) → judge w call ≡ r → MatchResult r (λ verdict. IsCarriedOut w call verdict reply next) (λ fault. ⊥) → IsReplyTo call reply
    go (Ok v) is x = verdict_fits w call v reply next is x
    go (Err fault) is x = absurd x
