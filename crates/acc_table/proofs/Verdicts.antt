-- A directive that was judged becomes its event, and a call its verdict.
use Rattle.std.proofs.Common.{ℕ, ◌≡◌, ◌+◌, ◌-◌, ◌<◌, ◌≤◌, Bool, true, false, arith, refl, sym, ◌∙◌, ap, subst, length-append, length-drop, List, [], ◌∷◌, ◌++◌, length, Option, Some, None, Result, Ok, Err}
use Rattle.std.specs.Prelude.{⊤, not, nat_le, take, drop, option_map, ◌&&◌, IfOk, IfErr, OnErr, OnOk}
use Rattle.std.proofs.lemmas.List.{take_all, length-take-le}
use Rattle.std.proofs.lemmas.Bool.Decides.{nat_tests}
use Rattle.acc_clauses.specs.Words.{Section, Directive, Call, Event, Did, Transfer, Fault}
use Rattle.acc_base.specs.Section.{is_empty, is_within, host_memory}
use Rattle.acc_base.proofs.Results.{equal_self, then_ok, ok_same, refused_not}
use Rattle.acc_base.proofs.LegalEvents.{IsMadeBy, made_by}
use Rattle.acc_base.specs.declared.directives.Directive.TheVariants.{Enter, Exit, EnterData, ExitData, Update, Wait, Step}
use Rattle.acc_base.specs.declared.calls.Call.TheVariants.{Do, HostWrite, Gather}
use Rattle.acc_base.specs.declared.events.Event.TheVariants.{Stepped}
use Rattle.acc_base.specs.declared.faults.Fault.TheVariants.{Memory, NoLease}
use Rattle.acc_base.specs.Results.{◌>>=◌, ◌>>◌, refuse_if}
use Rattle.acc_base.specs.Loans.{Leased}
use Rattle.acc_base.specs.Walk.{loaned}
use Rattle.acc_base.specs.Limits.{Limits, limits_on}
use Rattle.acc_base.specs.Records.{State}
use Rattle.acc_base.specs.Devices.{OneDevice, Whole, view, with_view, device_in}
use Rattle.acc_base.specs.Queues.{head_of}
use Rattle.acc_base.specs.Bytes.{host_after_write}
use Rattle.acc_base.specs.Waits.{drained}
use Rattle.acc_base.specs.Acting.{act_all_state, after}
use Rattle.acc_base.specs.Clauses.{in_host}
use Rattle.acc_base.specs.Judge.{few_items, device_named, own_device, step_verdict, verdict_of, plan_of, written, host_write_event, gathered, gather_event}
use Rattle.acc_base.specs.Calls.{Base, World, judge, ticket, allowance, trace_room, device_for, device_there, verdict_on, bytes_brought, world_after}
use Rattle.acc_base.specs.Judge.{Verdict, Makes, Idle}
use Rattle.acc_clauses.specs.Devices.{DeviceContents, SharedContents, contents_with}
use Rattle.acc_clauses.specs.Planned.{Planned, in_written_order}
use Rattle.acc_base.specs.Leases.{is_returnable}
use Rattle.acc_lend.specs.Loans.{IsLoan, with_section, written_over}
use Rattle.acc_lend.proofs.Writing.{kept_outside}
use Rattle.acc_table.specs.declared.calls.Reply.{Reply}
use Rattle.acc_table.specs.Calls.{reply_of, IsCarriedOut, IsDone, IsRefusal}
use Rattle.acc_table.specs.declared.devices.Devices.{Devices}
use Rattle.acc_table.specs.Devices.{whole_with, whole_of}
use Rattle.acc_table.specs.Tables.{world_of}
use Rattle.acc_table.proofs.DeviceLists.{set_own}
use Rattle.acc_table.proofs.InUse.{with_device, world_in, AreDevicesOf, IsUsed, number_used, in_view, seen_in, event_made, unchanged}
use Rattle.acc_table.specs.Making.{number_told, event_told, reply_told, is_loan, admitted, write_admitted, planned_verdict, MayBeToldOf, IsMadeInto, IsCommitted, IsAsBefore}

-- ---- the event

-- where there is something to do, the verdict on a directive is the event with the number
pub told : (n : ℕ) (d : Directive) (s : State) (dids : List Did) (number : ℕ) → number_told d s ≡ Some number → verdict_of n d s dids ≡ Makes (event_told n d number (in_written_order d dids))
told n (Step device queue) s dids number e = go (head_of queue s.records.queues) e
  where
    go : (o : Option Transfer) → option_map (λ (t : Transfer). t.block) o ≡ Some number → step_verdict n queue o ≡ Makes (Stepped n queue number)
    go None x = cc
    go (Some t) x = cc
told n _ s dids number e = cc

-- its reply is the one with the number
pub replied : (k : ℕ) (d : Directive) (n : ℕ) (did : List Did) (s : State) → reply_told d n ≡ reply_of (event_told k d n did) s
replied k (Enter device items) n did s = refl
replied k _ n did s = refl

-- where it has no number, there is nothing to do
pub told_idle : (n : ℕ) (d : Directive) (s : State) (dids : List Did) → number_told d s ≡ None → verdict_of n d s dids ≡ Idle
told_idle n (Step device queue) s dids e = go (head_of queue s.records.queues) e
  where
    go : (o : Option Transfer) → option_map (λ (t : Transfer). t.block) o ≡ None → step_verdict n queue o ≡ Idle
    go None x = refl
    go (Some t) x = cc
told_idle n _ s dids e = cc

-- ---- the world

-- the world of the devices and a trace after a write of the host
write_whole : (n : ℕ) (w : Whole) (host : List ℕ) → with_view n (record (view n w) { host = host }) w ≡ record w { host = host }
write_whole n w host = ap (λ (ds : List OneDevice). let v : Whole = record { devices = ds; next = w.next; serial = w.serial; host = host } in v) (set_own n w.devices)

pub write_made : (l : Limits) (base : Base) (x : Devices) (s : SharedContents) (addr : ℕ) (bytes : List ℕ) (trace longer : List Event) → s.host ≡ host_after_write addr (length bytes) bytes x.shared.host → s.numbers ≡ x.shared.numbers → longer ≡ trace ++ written l.full addr bytes ∷ []
    → world_in l base (record { shared = s; each = x.each }) longer ≡ world_after (HostWrite addr bytes) (written l.full addr bytes) (world_in l base x trace)
unfolding world_after after loaned drained act_all_state
write_made l base x s addr bytes trace longer host numbers is =
    let new : List ℕ = host_after_write addr (length bytes) bytes x.shared.host in
    let whole : whole_with x.each.items s ≡ with_view 0 (record (view 0 (whole_of x)) { host = new }) (whole_of x) =
    ap (λ h. whole_with x.each.items (record { host = h; numbers = s.numbers })) host ∙ (ap (λ m. whole_with x.each.items (record { host = new; numbers = m })) numbers ∙ sym (write_whole 0 (whole_of x) new)) in
    ap (λ w. world_of l base w longer) whole ∙ ap (λ t. world_of l base (with_view 0 (record (view 0 (whole_of x)) { host = new }) (whole_of x)) t) is

-- ---- the verdict

-- what a directive is planned to be on its device, in that device's view
abbrev pub planned_on : World → Directive → Result Verdict Fault
planned_on w d = plan_of (limits_on (device_for d w.state) w.limits) d (view (device_for d w.state) w.state)

-- it is the device that the directive names, if it names one
pub own_named : (w : World) (d : Directive) → own_device (device_for d w.state) (device_named d) ≡ Ok tt
own_named w (Exit number) = refl
own_named w (Enter device items) = rw (equal_self device) refl
own_named w (EnterData device items queue) = rw (equal_self device) refl
own_named w (ExitData device items finalize queue) = rw (equal_self device) refl
own_named w (Update device items if_present queue) = rw (equal_self device) refl
own_named w (Wait device queue) = rw (equal_self device) refl
own_named w (Step device queue) = rw (equal_self device) refl

-- the verdict on a directive, from what is refused before its items are judged and from the plan of the items
pub judge_directive : (w : World) (d : Directive) → judge w (Do d) ≡ (admitted w d >> planned_on w d)
unfolding judge admitted plan_of
judge_directive w d = rw (own_named w d) (go (ticket w) (allowance w d) (few_items d) (trace_room w) (device_there w (device_for d w.state)))
  where
    go : (a b c t k : Result ⊤ Fault)
        → (a >> (b >> (c >> (t >> (k >> verdict_on w (device_for d w.state) d))))) ≡ ((a >> (b >> (c >> (t >> k)))) >> (c >> verdict_on w (device_for d w.state) d))
    go (Ok x) (Ok y) (Ok z) (Ok u) (Err f) = refl
    go (Ok x) (Ok y) (Ok z) (Err f) _ = refl
    go _ _ _ _ _ = refl

-- what was planned was judged so
pub planned_judged : (w : World) (d : Directive) (v : Verdict) → planned_on w d ≡ Ok v → verdict_on w (device_for d w.state) d ≡ Ok v
unfolding plan_of
planned_judged w d v h =
    let n : ℕ = device_for d w.state in
    let few = then_ok (few_items d) (own_device n (device_named d) >> verdict_on w n d) v h in
    (then_ok (own_device n (device_named d)) (verdict_on w n d) v few.1).1

-- the result of a plan is the verdict, where nothing was refused before
pub judged_plan : (w : World) (d : Directive) (v : Verdict) → admitted w d ≡ Ok tt → planned_on w d ≡ Ok v → judge w (Do d) ≡ Ok v
judged_plan w d v ok h = judge_directive w d ∙ rw (ok, h) refl

-- so is the refusal of a plan
pub refused_plan : (w : World) (d : Directive) (fault : Fault) → admitted w d ≡ Ok tt → MayBeToldOf (planned_on w d) fault → IsRefusal w (Do d) fault
refused_plan w d fault ok told = go (planned_on w d) refl told
  where
    go : (r : Result Verdict Fault) → planned_on w d ≡ r → MayBeToldOf r fault → IsRefusal w (Do d) fault
    go (Ok v) is h = let says : judge w (Do d) ≡ Ok v = judged_plan w d v ok is in rw says h
    go (Err refusal) is h = let says : judge w (Do d) ≡ Err refusal = judge_directive w d ∙ rw (ok, is) refl in rw says h

-- and what is refused before
pub refused_before : (w : World) (d : Directive) (fault : Fault) → admitted w d ≡ Err fault → IsRefusal w (Do d) fault
refused_before w d fault e = let v : judge w (Do d) ≡ Err fault = judge_directive w d ∙ rw e refl in rw v refl

-- what is known of a directive that is not refused before its items are judged: it has few items, and its device is there
pub record IsAdmitted (w : World) (d : Directive) : Type 0 where
  pub few : few_items d ≡ Ok tt
  pub there : device_for d w.state < w.limits.devices

pub is_admitted : (w : World) (d : Directive) → admitted w d ≡ Ok tt → IsAdmitted w d
unfolding admitted
is_admitted w d ok =
    let tickets = then_ok (ticket w) (allowance w d >> (few_items d >> (trace_room w >> device_there w (device_for d w.state)))) tt ok in
    let regions = then_ok (allowance w d) (few_items d >> (trace_room w >> device_there w (device_for d w.state))) tt tickets.1 in
    let items = then_ok (few_items d) (trace_room w >> device_there w (device_for d w.state)) tt regions.1 in
    let room = then_ok (trace_room w) (device_there w (device_for d w.state)) tt items.1 in
    let there : nat_le w.limits.devices (device_for d w.state) ≡ false = refused_not _ _ room.1 in
    record { few = items.0; there = grind (arith, nat_tests) }

-- the verdict on a write of the host
pub judge_write : (w : World) (addr : ℕ) (bytes : List ℕ) → judge w (HostWrite addr bytes) ≡ (write_admitted w (record { start = addr; len = length bytes }) >> Ok (Makes (written w.limits.full addr bytes)))
unfolding judge write_admitted host_write_event
judge_write w addr bytes = go (ticket w) (trace_room w) (in_host w.limits 0 (record { start = addr; len = length bytes }))
  where
    go : (a b c : Result ⊤ Fault) → (a >> (b >> ((c >> Ok (written w.limits.full addr bytes)) >>= λ x. Ok (Makes x)))) ≡ ((a >> (b >> c)) >> Ok (Makes (written w.limits.full addr bytes)))
    go (Ok x) (Ok y) (Err f) = refl
    go _ _ _ = refl

pub judged_write : (w : World) (addr : ℕ) (bytes : List ℕ) → write_admitted w (record { start = addr; len = length bytes }) ≡ Ok tt → judge w (HostWrite addr bytes) ≡ Ok (Makes (written w.limits.full addr bytes))
judged_write w addr bytes a = judge_write w addr bytes ∙ rw a refl

-- where a write of the host is not refused, its addresses are in host memory
pub can_write : (w : World) (s : Section) → write_admitted w s ≡ Ok tt → length w.state.host ≡ w.limits.host → 0 < s.len → is_within s (host_memory (length w.state.host)) ≡ true
unfolding write_admitted
can_write w s admitted size some =
    let rest : (trace_room w >> in_host w.limits 0 s) ≡ Ok tt = (then_ok (ticket w) (trace_room w >> in_host w.limits 0 s) tt admitted).1 in
    let last : in_host w.limits 0 s ≡ Ok tt = (then_ok (trace_room w) (in_host w.limits 0 s) tt rest).1 in
    let inside : (not (is_empty s) && not (is_within s (host_memory w.limits.host))) ≡ false = refused_not _ _ last in
    let filled : is_empty s ≡ false = grind (arith, nat_tests) in
    subst (λ n. is_within s (host_memory n) ≡ true) (sym size) (go (is_within s (host_memory w.limits.host)) (subst (λ b. (not b && not (is_within s (host_memory w.limits.host))) ≡ false) filled inside))
  where
    go : (b : Bool) → not b ≡ false → b ≡ true
    go true e = refl
    go false e = cc

-- ---- the verdict on a lease that comes back

-- how many bytes a lease has stays
written-len : (offset : ℕ) (bytes old : List ℕ) → length (written_over offset bytes old) ≡ length old
written-len offset bytes old = length-take-le (length old) (take offset old ++ (bytes ++ drop (offset + length bytes) old)) (simp (length-append, length-drop) (go (nat_le offset (length old)) refl))
  where
    go : (b : Bool) → nat_le offset (length old) ≡ b → length old ≤ length (take offset old) + (length bytes + (length old - (offset + length bytes)))
    go true e = let low : offset ≤ length old = grind (arith, nat_tests) in omega (arith, length-take-le offset old low)
    go false e = let high : length old < offset = grind (arith, nat_tests) in omega (arith, ap length (take_all offset old (omega arith)))

-- no judgement reads the bytes of a section
returnable_rewritten : (full : Bool) (d : ℕ) (lease : Leased) (bytes : List ℕ) (s : State) → IsLoan lease → length bytes ≡ lease.len
    → is_returnable full d (with_section lease bytes) s.records.blocks s.records.loans s.memories ≡ is_returnable full d lease s.records.blocks s.records.loans s.memories
returnable_rewritten full d lease bytes s loan long =
    let kept = kept_outside lease bytes loan long in
    rw (written-len lease.offset bytes lease.bytes, kept.before, kept.behind) refl

made_alike : (c : Result ⊤ Fault) (x y : Event) → (c >> Ok x) ≡ Ok x → (c >> Ok y) ≡ Ok y
made_alike (Ok t) x y h = refl
made_alike (Err fault) x y h = cc

-- so a lease makes its event with other bytes there too
pub gather_rewritten : (l : Limits) (lease : Leased) (bytes : List ℕ) (s : State) → IsLoan lease → length bytes ≡ lease.len → gather_event l lease s ≡ Ok (gathered l.full lease) → gather_event l (with_section lease bytes) s ≡ Ok (gathered l.full (with_section lease bytes))
unfolding gather_event
gather_rewritten l lease bytes s loan long h =
    rw (returnable_rewritten l.full l.number lease bytes s loan long) (made_alike (refuse_if (not (is_returnable l.full l.number lease s.records.blocks s.records.loans s.memories)) (NoLease lease.serial)) (gathered l.full lease) (gathered l.full (with_section lease bytes)) h)

pub judged_rewritten : (w : World) (lease : Leased) (bytes : List ℕ) → IsLoan lease → length bytes ≡ lease.len → judge w (Gather lease) ≡ Ok (Makes (gathered w.limits.full lease)) → judge w (Gather (with_section lease bytes)) ≡ Ok (Makes (gathered w.limits.full (with_section lease bytes)))
unfolding judge gather_event
judged_rewritten w lease bytes loan long h =
    let v : State = view lease.device w.state in
    rw (returnable_rewritten w.limits.full lease.device lease bytes v loan long) (go (ticket w) (trace_room w) (refuse_if (not (is_returnable w.limits.full lease.device lease v.records.blocks v.records.loans v.memories)) (NoLease lease.serial)) (gathered w.limits.full lease) (gathered w.limits.full (with_section lease bytes)) h)
  where
    go : (a b c : Result ⊤ Fault) (x y : Event) → (a >> (b >> ((c >> Ok x) >>= λ e. Ok (Makes e)))) ≡ Ok (Makes x) → (a >> (b >> ((c >> Ok y) >>= λ e. Ok (Makes e)))) ≡ Ok (Makes y)
    go (Ok r) (Ok s) (Ok t) x y k = refl
    go _ _ _ x y k = cc

-- and is refused for the same
pub refused_rewritten : (w : World) (lease : Leased) (bytes : List ℕ) (fault : Fault) → IsLoan lease → length bytes ≡ lease.len → judge w (Gather lease) ≡ Err fault → judge w (Gather (with_section lease bytes)) ≡ Err fault
unfolding judge gather_event
refused_rewritten w lease bytes fault loan long h =
    let v : State = view lease.device w.state in
    rw (returnable_rewritten w.limits.full lease.device lease bytes v loan long) (go (ticket w) (trace_room w) (refuse_if (not (is_returnable w.limits.full lease.device lease v.records.blocks v.records.loans v.memories)) (NoLease lease.serial)) (gathered w.limits.full lease) (gathered w.limits.full (with_section lease bytes)) h)
  where
    go : (a b c : Result ⊤ Fault) (x y : Event) → (a >> (b >> ((c >> Ok x) >>= λ e. Ok (Makes e)))) ≡ Err fault → (a >> (b >> ((c >> Ok y) >>= λ e. Ok (Makes e)))) ≡ Err fault
    go (Ok r) (Ok s) (Ok t) x y k = cc
    go _ _ _ x y k = k

-- ---- a directive or a write of the host is no loan

no_loan_made : (e f : Event) → ◌≡◌ {A = Verdict} (Makes f) (Makes e) → is_loan f ≡ false → is_loan e ≡ false
no_loan_made e f h p = let same : f ≡ e = cc in subst (λ (x : Event). is_loan x ≡ false) same p

told_no_loan : (k : ℕ) (d : Directive) (n : ℕ) (did : List Did) → is_loan (event_told k d n did) ≡ false
told_no_loan k (Enter device items) n did = refl
told_no_loan k _ n did = refl

verdict_no_loan : (n : ℕ) (d : Directive) (s : State) (dids : List Did) (e : Event) → verdict_of n d s dids ≡ Makes e → is_loan e ≡ false
verdict_no_loan n d s dids e h = go (number_told d s) refl
  where
    go : (o : Option ℕ) → number_told d s ≡ o → is_loan e ≡ false
    go None idle = let none : verdict_of n d s dids ≡ Idle = told_idle n d s dids idle in cc
    go (Some number) is = no_loan_made e _ (sym (told n d s dids number is) ∙ h) (told_no_loan n d number (in_written_order d dids))

-- so is the event that a directive makes
pub directive_no_loan : (w : World) (d : Directive) (e : Event) → judge w (Do d) ≡ Ok (Makes e) → is_loan e ≡ false
directive_no_loan w d e h =
    let n : ℕ = device_for d w.state in
    let s : State = view n w.state in
    let planned : planned_on w d ≡ Ok (Makes e) = (then_ok (admitted w d) (planned_on w d) (Makes e) (sym (judge_directive w d) ∙ h)).1 in
    let judged : verdict_on w n d ≡ Ok (Makes e) = planned_judged w d (Makes e) planned in
    let event_made : IsMadeBy (limits_on n w.limits) n d s e = made_by (limits_on n w.limits) n d s e judged in
    verdict_no_loan n d s event_made.dids e event_made.verdict_is

-- and that of a write of the host
pub write_no_loan : (w : World) (addr : ℕ) (bytes : List ℕ) (e : Event) → judge w (HostWrite addr bytes) ≡ Ok (Makes e) → is_loan e ≡ false
write_no_loan w addr bytes e h =
    let is = then_ok (write_admitted w (record { start = addr; len = length bytes })) (Ok (Makes (written w.limits.full addr bytes))) (Makes e) (sym (judge_write w addr bytes) ∙ h) in
    no_loan_made e (written w.limits.full addr bytes) (ok_same (Makes (written w.limits.full addr bytes)) (Makes e) is.1) refl

-- ---- a call that was carried out

-- it may be refused for lack of memory
pub made_wanted : (w : World) (call : Call Leased) (e : Event) → judge w call ≡ Ok (Makes e) → IsRefusal w call Memory
made_wanted w call e h = rw h refl

-- a refusal is returned
pub judged_refused : (w : World) (call : Call Leased) (fault : Fault) → judge w call ≡ Err fault → IsRefusal w call fault
judged_refused w call fault h = rw h refl

-- the device of the event of a directive
pub device_told : (n : ℕ) (d : Directive) (s : State) (dids : List Did) (e : Event) → verdict_of n d s dids ≡ Makes e → device_in e ≡ n
device_told n d s dids e h = go (number_told d s) refl
  where
    same : (f : Event) → ◌≡◌ {A = Verdict} (Makes f) (Makes e) → device_in f ≡ n → device_in e ≡ n
    same f p is = let one : f ≡ e = cc in subst (λ x. device_in x ≡ n) one is

    on : (x : Directive) (k : ℕ) (did : List Did) → device_in (event_told n x k did) ≡ n
    on (Enter device items) k did = refl
    on _ k did = refl

    go : (o : Option ℕ) → number_told d s ≡ o → device_in e ≡ n
    go None idle = let none : verdict_of n d s dids ≡ Idle = told_idle n d s dids idle in cc
    go (Some number) is = same _ (sym (told n d s dids number is) ∙ h) (on d number (in_written_order d dids))

module _ {l : Limits} {base : Base} {x : Devices} {trace : List Event} {w : World} (t : AreDevicesOf l base x trace w) {n : ℕ} {y : DeviceContents} (u : IsUsed x n y) where
  -- a call that was judged so and made its event is done
  pub made_done : (z : DeviceContents) (s : SharedContents) (call : Call Leased) (e : Event) (reply : Reply) (longer : List Event) → device_in e ≡ n → judge w call ≡ Ok (Makes e) → IsMadeInto e (bytes_brought call) reply (contents_with y x.shared) (contents_with z s) trace longer
      → IsDone w call reply (world_in l base (with_device x n z s) longer)
  made_done z s call e reply longer on h m = rw h (m.reply ∙ ap (reply_of e) (seen_in t u e on), event_made t u z s call e reply longer on m)

  -- the event of a directive is one of its device
  pub told_on : (d : Directive) (p : Planned) (e : Event) → planned_verdict d p (contents_with y x.shared) ≡ Makes e → device_in e ≡ n
  told_on d p e is = device_told y.limits.number d (contents_with y x.shared).state p.dids e is ∙ number_used t u

  -- what a directive came to, which was judged so, is done
  carried_out : (z : DeviceContents) (s : SharedContents) (d : Directive) (p : Planned) (v : Verdict) (reply : Reply) (longer : List Event) → planned_verdict d p (contents_with y x.shared) ≡ v → IsCommitted v reply (contents_with y x.shared) (contents_with z s) trace longer → IsCarriedOut w (Do d) v reply (world_in l base (with_device x n z s) longer)
  carried_out z s d p (Makes e) reply longer is h = (h.reply ∙ ap (reply_of e) (seen_in t u e (told_on d p e is)), event_made t u z s (Do d) e reply longer (told_on d p e is) h)
  carried_out z s d p Idle reply longer is h = (h.0, unchanged t u z s longer h.1)

  pub directive_done : (z : DeviceContents) (s : SharedContents) (d : Directive) (p : Planned) (longer : List Event) (r : Result Reply (Directive × Fault)) → OnOk r (judge w (Do d) ≡ Ok (planned_verdict d p (contents_with y x.shared)))
      → IfOk r (λ reply. IsCommitted (planned_verdict d p (contents_with y x.shared)) reply (contents_with y x.shared) (contents_with z s) trace longer) → IfOk r (λ reply. IsDone w (Do d) reply (world_in l base (with_device x n z s) longer))
  directive_done z s d p longer (Ok reply) h done = rw h (carried_out z s d p (planned_verdict d p (contents_with y x.shared)) reply longer refl done)
  directive_done z s d p longer (Err back) h done = tt

  -- what is planned for the device is judged on it
  pub directive_judged : (d : Directive) (p : Planned) (r : Result Reply (Directive × Fault)) → n ≡ device_for d w.state → admitted w d ≡ Ok tt → OnOk r (plan_of y.limits d (contents_with y x.shared).state ≡ Ok (planned_verdict d p (contents_with y x.shared))) → OnOk r (judge w (Do d) ≡ Ok (planned_verdict d p (contents_with y x.shared)))
  directive_judged d p (Ok reply) for ok h = judged_plan w d (planned_verdict d p (contents_with y x.shared)) ok (in_view t u (device_for d w.state) (λ m s. plan_of m d s ≡ Ok (planned_verdict d p (contents_with y x.shared))) for h)
  directive_judged d p (Err back) for ok h = tt

  pub directive_refused : (d : Directive) (r : Result Reply (Directive × Fault)) → n ≡ device_for d w.state → admitted w d ≡ Ok tt → IfErr r (λ back. MayBeToldOf (plan_of y.limits d (contents_with y x.shared).state) back.1) → IfErr r (λ back. IsRefusal w (Do d) back.1)
  directive_refused d (Ok reply) for ok h = tt
  directive_refused d (Err back) for ok h = refused_plan w d back.1 ok (in_view t u (device_for d w.state) (λ m s. MayBeToldOf (plan_of m d s) back.1) for h)

  -- a refused call leaves the world as it was
  pub same_refused : {E : Type 0} (z : DeviceContents) (s : SharedContents) (longer : List Event) (r : Result Reply E) → OnErr r (IsAsBefore (contents_with y x.shared) (contents_with z s) trace longer) → OnErr r (world_in l base (with_device x n z s) longer ≡ w)
  same_refused z s longer (Ok reply) same = tt
  same_refused z s longer (Err back) same = unchanged t u z s longer same

  -- and hands back what it was asked
  pub back_refused : {X : Type 0} (z : DeviceContents) (s : SharedContents) (asked : X) (longer : List Event) (r : Result Reply (X × Fault)) → IfErr r (λ back. back.0 ≡ asked) → OnErr r (IsAsBefore (contents_with y x.shared) (contents_with z s) trace longer)
      → IfErr r (λ back. (back.0 ≡ asked) × (world_in l base (with_device x n z s) longer ≡ w))
  back_refused z s asked longer (Ok reply) is same = tt
  back_refused z s asked longer (Err back) is same = (is, unchanged t u z s longer same)
