-- What an accepted call finds: a ticket, places in the trace and the register, and a layout in which its event is
-- legal.
use Rattle.std.proofs.Common.{ℕ, zero, suc, ◌≡◌, ◌<◌, ◌≤◌, refl, sym, subst, Bool, true, false, List, [], ◌∷◌, length, Option, Some, None, Result, Ok, arith}
use Rattle.std.specs.Prelude.{nat_lt, IsSome, ⊤}
use Rattle.std.proofs.lemmas.Bool.{true≢false}
use Rattle.std.proofs.lemmas.Bool.Decides.{nat_tests}
use Rattle.acc_base.specs.Words.{Transfer, Directive, Call, Did, Event, Fault, Loan}
use Rattle.acc_base.specs.declared.directives.Directive.TheVariants.{Enter}
use Rattle.acc_base.specs.declared.directives.Directive.TheVariants as directives
use Rattle.acc_base.specs.declared.calls.Call.TheVariants.{Do, HostWrite, Lend, Gather}
use Rattle.acc_base.specs.declared.events.Event.TheVariants.{Entered, Lent}
use Rattle.acc_base.specs.Results.{◌>>=◌, ◌>>◌}
use Rattle.acc_base.specs.Limits.{IsWithinBounds, limits_on}
use Rattle.acc_base.specs.Records.{Records, State, layout_of}
use Rattle.acc_base.specs.Register.{holdings_at}
use Rattle.acc_base.specs.Loans.{Leased, loan_of}
use Rattle.acc_base.specs.Queues.{head_of}
use Rattle.acc_base.specs.Replay.{bytes_told}
use Rattle.acc_base.specs.Devices.{OneDevice, device_at, view, device_in, device_of_region, open_regions}
use Rattle.acc_base.specs.Judge.{Verdict, Makes, few_items, step_verdict, verdict_of, written, host_write_event, lend_event, gathered, gather_event}
use Rattle.acc_base.specs.History.{NamesRight, IsLegal}
use Rattle.acc_base.specs.Calls.{World, judge, ticket, allowance, trace_room, device_for, device_there, verdict_on, bytes_brought, event_count}
use Rattle.acc_base.specs.Accounts.{AreRecordsSound, IsMadeIn}
use Rattle.acc_base.proofs.Results.{bind_ok, then_ok, refused_not, below_most}
use Rattle.acc_base.proofs.Memories.{AreBrought}
use Rattle.acc_base.proofs.LegalEvents.{same_event, none_made, IsMadeBy, made_by, host_write_legal, lend_legal, IsGathered, gather_legal}

-- an entry names at most 64 items, and finds fewer open regions than the limit says
abbrev pub IsEntryAllowed : ℕ → ℕ → Event → Type 0
IsEntryAllowed most regions (Entered device number items did) = (length items ≤ 64) × (regions < most)
IsEntryAllowed most regions _ = ⊤

-- what an accepted call's event finds: a ticket, a place in the trace, its device, and a place among the open regions
-- of all devices. It is legal in the view of its device. The bytes that it brings back are as many as the block has,
-- and a full trace stores the bytes that it brought. Its items did what they are judged to do
pub record IsAccepted (w : World) (brought : List ℕ) (e : Event) : Type 0 where
  pub tickets : event_count w.history < w.limits.tickets
  pub trace : length w.history.trace < w.limits.trace_cap
  pub there : device_in e < length w.state.devices
  pub room : IsEntryAllowed w.limits.regions (open_regions w.state) e
  pub legal : IsLegal (limits_on (device_in e) w.limits) e (layout_of (view (device_in e) w.state))
  pub fits : AreBrought e brought (view (device_in e) w.state).records
  pub told : w.limits.full ≡ true → bytes_told e (view (device_in e) w.state) ≡ brought
  pub made : IsMadeIn (limits_on (device_in e) w.limits) e (view (device_in e) w.state)

-- the verdict on a directive, a write, a loan or a lease on a device
pub record IsFor (w : World) (d : ℕ) (brought : List ℕ) (e : Event) : Type 0 where
  pub on : device_in e ≡ d
  pub room : IsEntryAllowed w.limits.regions (open_regions w.state) e
  pub legal : IsLegal (limits_on d w.limits) e (layout_of (view d w.state))
  pub fits : AreBrought e brought (view d w.state).records
  pub told : w.limits.full ≡ true → bytes_told e (view d w.state) ≡ brought
  pub made : IsMadeIn (limits_on d w.limits) e (view d w.state)

accepted_for : (w : World) (d : ℕ) (brought : List ℕ) (e : Event) → event_count w.history < w.limits.tickets → length w.history.trace < w.limits.trace_cap → d < length w.state.devices → IsFor w d brought e → IsAccepted w brought e
accepted_for w d brought e tickets trace there h = record {
  tickets = tickets;
  trace = trace;
  there = subst (λ n. n < length w.state.devices) (sym h.on) there;
  room = h.room;
  legal = subst (λ n. IsLegal (limits_on n w.limits) e (layout_of (view n w.state))) (sym h.on) h.legal;
  fits = subst (λ n. AreBrought e brought (view n w.state).records) (sym h.on) h.fits;
  told = λ full. subst (λ n. bytes_told e (view n w.state) ≡ brought) (sym h.on) (h.told full);
  made = subst (λ n. IsMadeIn (limits_on n w.limits) e (view n w.state)) (sym h.on) h.made;
}

at_most : (most n : ℕ) → nat_lt most n ≡ false → n ≤ most
at_most most n e = grind (arith, nat_tests)

-- what the verdict on a directive says of its event: its device, that an entry finds a place, and that it brings no
-- bytes
record IsPlain (most regions d : ℕ) (e : Event) : Type 0 where
  on : device_in e ≡ d
  room : IsEntryAllowed most regions e
  fits : (w : Records) → AreBrought e [] w
  told : (s : State) → bytes_told e s ≡ []

plain : (w : World) (d : ℕ) (directive : Directive) (s : State) (dids : List Did) (e : Event) → allowance w directive ≡ Ok tt → few_items directive ≡ Ok tt → verdict_of d directive s dids ≡ Makes e → IsPlain w.limits.regions (open_regions w.state) d e
plain w d (Enter device items) s dids e a f h = subst (IsPlain w.limits.regions (open_regions w.state) d) (same_event _ _ h)
    (record { on = refl; room = (at_most 64 (length items) (refused_not _ _ f), below_most w.limits.regions (open_regions w.state) (refused_not _ _ a)); fits = λ v. tt; told = λ v. refl })
plain w d (directives.Step device queue) s dids e a f h = go (head_of queue s.records.queues) h
  where
    go : (o : Option Transfer) → step_verdict d queue o ≡ Makes e → IsPlain w.limits.regions (open_regions w.state) d e
    go None made = cc
    go (Some t) made = subst (IsPlain w.limits.regions (open_regions w.state) d) (same_event _ _ made) (record { on = refl; room = tt; fits = λ v. tt; told = λ v. refl })
plain w d _ s dids e a f h = subst (IsPlain w.limits.regions (open_regions w.state) d) (same_event _ _ h) (record { on = refl; room = tt; fits = λ v. tt; told = λ v. refl })

made_same : (x e : Event) → ◌≡◌ {A = Result Verdict Fault} (Ok (Makes x)) (Ok (Makes e)) → x ≡ e
made_same x e h = cc

-- the verdict on an event
abbrev makes : Result Event Fault → Result Verdict Fault
makes r = r >>= λ e. Ok (Makes e)

made : (r : Result Event Fault) (e : Event) → makes r ≡ Ok (Makes e) → r ≡ Ok e
made r e h =
    let found : (x : Event) × (r ≡ Ok x) × (Ok (Makes x) ≡ Ok (Makes e)) = bind_ok r (λ x. Ok (Makes x)) (Makes e) h in
    subst (λ y. r ≡ Ok y) (made_same found.0 e found.2) found.1

-- the event of a write has its bytes
written_told : (full : Bool) (addr : ℕ) (bytes : List ℕ) (s : State) → full ≡ true → bytes_told (written full addr bytes) s ≡ bytes
written_told true addr bytes s set = refl
written_told false addr bytes s set = absurd (true≢false (sym set))

-- a call with a ticket and a place in the trace, whose judgement is the event's
event_admitted : (w : World) (r : Result Event Fault) (e : Event) → (ticket w >> (trace_room w >> makes r)) ≡ Ok (Makes e) → (event_count w.history < w.limits.tickets) × (length w.history.trace < w.limits.trace_cap) × (r ≡ Ok e)
event_admitted w r e h =
    let first : (ticket w ≡ Ok tt) × ((trace_room w >> makes r) ≡ Ok (Makes e)) = then_ok (ticket w) (trace_room w >> makes r) (Makes e) h in
    let second : (trace_room w ≡ Ok tt) × (makes r ≡ Ok (Makes e)) = then_ok (trace_room w) (makes r) (Makes e) first.1 in
    (below_most w.limits.tickets (event_count w.history) (refused_not _ _ first.0), below_most w.limits.trace_cap (length w.history.trace) (refused_not _ _ second.0), made r e second.1)

-- a directive on a device that is there
directive_for : (w : World) (d : ℕ) (directive : Directive) (e : Event) → allowance w directive ≡ Ok tt → few_items directive ≡ Ok tt → verdict_on w d directive ≡ Ok (Makes e) → IsFor w d [] e
directive_for w d directive e a f h =
    let s : State = view d w.state in
    let by : IsMadeBy (limits_on d w.limits) d directive s e = made_by (limits_on d w.limits) d directive s e h in
    let is = plain w d directive s by.dids e a f by.verdict_is in
    record { on = is.on; room = is.room; legal = by.legal; fits = is.fits s.records; told = λ full. is.told s; made = by.made }

-- a device on which a region is open, or a block lent, is there: a new device has none
open_there : (number d : ℕ) (devices : List OneDevice) → IsSome (holdings_at number (device_at d devices).regions) → d < length devices
open_there number d [] h = absurd cc
open_there number zero (x ∷ devices) h = omega arith
open_there number (suc d) (x ∷ devices) h = let later : d < length devices = open_there number d devices h in omega arith

lent_there : (block d : ℕ) (devices : List OneDevice) (loan : Loan) → loan_of block (device_at d devices).records.loans ≡ Some loan → d < length devices
lent_there block d [] loan h = absurd cc
lent_there block zero (x ∷ devices) loan h = omega arith
lent_there block (suc d) (x ∷ devices) loan h = let later : d < length devices = lent_there block d devices loan h in omega arith

-- a call that is judged to make an event is accepted
pub accepted : (w : World) (call : Call Leased) (e : Event) → IsWithinBounds w.limits → length w.state.devices ≡ w.limits.devices → ((d : ℕ) → AreRecordsSound (limits_on d w.limits) (view d w.state).records) → judge w call ≡ Ok (Makes e) → IsAccepted w (bytes_brought call) e
unfolding judge host_write_event
accepted w (Do directive) e bounds as_many sound h =
    let d : ℕ = device_for directive w.state in
    let last : Result Verdict Fault = verdict_on w d directive in
    let first : (ticket w ≡ Ok tt) × ((allowance w directive >> (few_items directive >> (trace_room w >> (device_there w d >> last)))) ≡ Ok (Makes e)) = then_ok (ticket w) (allowance w directive >> (few_items directive >> (trace_room w >> (device_there w d >> last)))) (Makes e) h in
    let second : (allowance w directive ≡ Ok tt) × ((few_items directive >> (trace_room w >> (device_there w d >> last))) ≡ Ok (Makes e)) = then_ok (allowance w directive) (few_items directive >> (trace_room w >> (device_there w d >> last))) (Makes e) first.1 in
    let third : (few_items directive ≡ Ok tt) × ((trace_room w >> (device_there w d >> last)) ≡ Ok (Makes e)) = then_ok (few_items directive) (trace_room w >> (device_there w d >> last)) (Makes e) second.1 in
    let fourth : (trace_room w ≡ Ok tt) × ((device_there w d >> last) ≡ Ok (Makes e)) = then_ok (trace_room w) (device_there w d >> last) (Makes e) third.1 in
    let fifth : (device_there w d ≡ Ok tt) × (last ≡ Ok (Makes e)) = then_ok (device_there w d) last (Makes e) fourth.1 in
    let there : d < w.limits.devices = below_most w.limits.devices d (refused_not _ _ fifth.0) in
    accepted_for w d [] e (below_most w.limits.tickets (event_count w.history) (refused_not _ _ first.0)) (below_most w.limits.trace_cap (length w.history.trace) (refused_not _ _ fourth.0)) (omega (arith, there, as_many)) (directive_for w d directive e second.0 third.0 fifth.1)
accepted w (HostWrite addr bytes) e bounds as_many sound h =
    let by = event_admitted w (host_write_event w.limits addr bytes) e h in
    let wrote : (written w.limits.full addr bytes ≡ e) × IsLegal (limits_on 0 w.limits) e (layout_of (view 0 w.state)) = host_write_legal (limits_on 0 w.limits) addr bytes (layout_of (view 0 w.state)) e by.2 in
    accepted_for w 0 bytes e by.0 by.1 (omega (arith, as_many, bounds.devices.0)) (record {
      on = subst (λ x. device_in x ≡ 0) wrote.0 refl;
      room = subst (IsEntryAllowed w.limits.regions (open_regions w.state)) wrote.0 tt;
      legal = wrote.1;
      fits = subst (λ x. AreBrought x bytes (view 0 w.state).records) wrote.0 tt;
      told = λ full. subst (λ x. bytes_told x (view 0 w.state) ≡ bytes) wrote.0 (written_told w.limits.full addr bytes (view 0 w.state) full);
      made = subst (λ x. IsMadeIn (limits_on 0 w.limits) x (view 0 w.state)) wrote.0 (none_made (limits_on 0 w.limits) (view 0 w.state));
    })
accepted w (Lend region section) e bounds as_many sound h =
    let d : ℕ = device_of_region region w.state in
    let s : State = view d w.state in
    let by = event_admitted w (lend_event (limits_on d w.limits) d region section s) e h in
    let lent : (block : ℕ) × (Lent d region section block s.register.serial ≡ e) × IsLegal (limits_on d w.limits) (Lent d region section block s.register.serial) (layout_of s) = lend_legal (limits_on d w.limits) d region section s e by.2 in
    accepted_for w d [] e by.0 by.1 (open_there region d w.state.devices lent.2.names.0) (record {
      on = subst (λ x. device_in x ≡ d) lent.1 refl;
      room = subst (IsEntryAllowed w.limits.regions (open_regions w.state)) lent.1 tt;
      legal = subst (λ x. IsLegal (limits_on d w.limits) x (layout_of s)) lent.1 lent.2;
      fits = subst (λ x. AreBrought x [] s.records) lent.1 tt;
      told = λ full. subst (λ x. bytes_told x s ≡ []) lent.1 refl;
      made = subst (λ x. IsMadeIn (limits_on d w.limits) x s) lent.1 (none_made (limits_on d w.limits) s);
    })
accepted w (Gather lease) e bounds as_many sound h =
    let d : ℕ = lease.device in
    let s : State = view d w.state in
    let by = event_admitted w (gather_event (limits_on d w.limits) lease s) e h in
    let back : IsGathered (limits_on d w.limits) lease s e = gather_legal (limits_on d w.limits) lease s e (sound d) by.2 in
    let names : NamesRight (limits_on d w.limits) (gathered w.limits.full lease) (layout_of s) = subst (λ x. NamesRight (limits_on d w.limits) x (layout_of s)) (sym back.event_is) back.legal.names in
    accepted_for w d lease.bytes e by.0 by.1 (lent_there lease.block d w.state.devices names.0 names.1) (record {
      on = subst (λ x. device_in x ≡ d) back.event_is refl;
      room = subst (IsEntryAllowed w.limits.regions (open_regions w.state)) back.event_is tt;
      legal = back.legal;
      fits = back.fits;
      told = back.told;
      made = subst (λ x. IsMadeIn (limits_on d w.limits) x s) back.event_is (none_made (limits_on d w.limits) s);
    })
