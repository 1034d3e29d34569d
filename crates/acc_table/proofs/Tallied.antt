-- What an accepted call takes of tickets and of regions.
use Rattle.std.proofs.Common.{ℕ, ◌≡◌, ◌+◌, ◌≤◌, refl, sym, ◌∙◌, ap, subst, Bool, true, false, cond, List, [], ◌∷◌, ◌++◌, length, Option, Some, None, Result, Ok, Err, arith, length-append}
use Rattle.std.specs.Prelude.{nat_lt, if◌then◌else◌, ◌==◌, not, unwrap_or, option_map, MatchResult}
use Rattle.std.specs.List.{AllByRecursion}
use Rattle.acc_clauses.specs.Words.{Section, Range, Directive, Call, Event, Did, Transfer, Fault}
use Rattle.acc_base.specs.declared.directives.Directive.TheVariants.{Enter, Exit, Step}
use Rattle.acc_base.specs.declared.calls.Call.TheVariants.{Do, HostWrite, Lend, Gather}
use Rattle.acc_base.specs.declared.events.Event.TheVariants as events
use Rattle.acc_base.specs.declared.faults.Fault.TheVariants.{NoLease}
use Rattle.acc_base.specs.Results.{refuse_if}
use Rattle.acc_base.specs.Clauses.{in_host}
use Rattle.acc_base.specs.declared.mappings.Counters.{Counters}
use Rattle.acc_base.specs.declared.mappings.Found.{Found}
use Rattle.acc_base.specs.declared.mappings.Found.TheVariants.{Inside}
use Rattle.acc_base.specs.Ranges.{where_is, range_of, structured_of, dynamic_of}
use Rattle.acc_base.specs.Loans.{Leased}
use Rattle.acc_base.specs.Leases.{is_returnable}
use Rattle.acc_base.specs.Limits.{Limits, limits_on}
use Rattle.acc_base.specs.Devices.{OneDevice, view, with_view, device_in, device_of_region, open_regions}
use Rattle.acc_base.specs.Records.{Records, State, Layout, layout_of}
use Rattle.acc_base.specs.Register.{Region, Register, held_in}
use Rattle.acc_base.specs.Queues.{head_of}
use Rattle.acc_base.specs.Walk.{register_after, holdings_of}
use Rattle.acc_base.specs.Acting.{after}
use Rattle.acc_base.specs.History.{NamesRight}
use Rattle.acc_base.specs.Accounts.{EachPair, AreRecordsSound, IsRegisterSound}
use Rattle.acc_base.specs.Judge.{Verdict, Makes, Idle, verdict_of, step_verdict, written, host_write_event, lend_event, gathered, gather_event}
use Rattle.acc_base.specs.Calls.{World, judge, ticket, trace_room, device_for, loan_on, world_after, bytes_brought}
use Rattle.acc_base.proofs.Results.{then_ok, ok_same}
use Rattle.acc_base.proofs.LegalEvents.{lend_legal}
use Rattle.acc_base.proofs.Elements.{AllByRecursion-weaker}
use Rattle.acc_base.proofs.Lookups.{at-own}
use Rattle.acc_base.proofs.Registers.{IsNumbered, opened_count, closed_one}
use Rattle.acc_base.proofs.Accepted.{accepted}
use Rattle.acc_base.proofs.Accounted.{open_after, open_on}
use Rattle.acc_base.proofs.Sound.{new_sound}
use Rattle.acc_base.proofs.Views.{device_beyond}
use Rattle.std.proofs.lemmas.Bool.Decides.{nat_tests}
use Rattle.acc_table.specs.declared.calls.Reply.{Reply}
use Rattle.acc_table.specs.declared.calls.Reply.TheVariants as replies
use Rattle.acc_table.specs.Calls.{reply_of, reply_in, IsCarriedOut, IsDone}
use Rattle.acc_table.specs.Counts.{is_entry, is_exit, answers_idle, IsCountedOnce}
use Rattle.acc_table.specs.Laws.{IsLawful, IsLawfulOn}
use Rattle.acc_table.specs.Queries.{counters_inside, counters_of_section}
use Rattle.acc_table.proofs.Replying.{seen_by, judged_as, made_of}

-- ---- an event, and the call that made it

abbrev is_entered : Event → Bool
is_entered (events.Entered device number items did) = true
is_entered _ = false

abbrev is_left : Event → Bool
is_left (events.Left device number did) = true
is_left _ = false

-- the event is an entry exactly where the call is one, and an exit exactly where the call is one
abbrev IsOfKind : Event → Call Leased → Type 0
IsOfKind e call = (is_entered e ≡ is_entry call) × (is_left e ≡ is_exit call)

same_event : (x e : Event) → Makes x ≡ Makes e → x ≡ e
same_event x e h = cc

verdict_kind : (n : ℕ) (d : Directive) (s : State) (dids : List Did) (e : Event) → verdict_of n d s dids ≡ Makes e → IsOfKind e (Do d)
verdict_kind n (Step device queue) s dids e h = go (head_of queue s.records.queues) h
  where
    go : (o : Option Transfer) → step_verdict n queue o ≡ Makes e → IsOfKind e (Do (Step device queue))
    go None made = absurd cc
    go (Some t) made = subst (λ x. IsOfKind x (Do (Step device queue))) (same_event _ _ made) (refl, refl)
verdict_kind n d s dids e h = subst (λ x. IsOfKind x (Do d)) (same_event _ _ h) (refl, refl)

kind : (w : World) (call : Call Leased) (e : Event) → judge w call ≡ Ok (Makes e) → IsOfKind e call
unfolding judge host_write_event lend_event gather_event
kind w (Do d) e h = let told = judged_as w d (Makes e) h in verdict_kind (device_for d w.state) d (seen_by w d) told.0 e told.1
kind w (HostWrite addr bytes) e h =
    let made = made_of (ticket w) (trace_room w) (host_write_event w.limits addr bytes) (Makes e) h in
    let last = then_ok (in_host w.limits 0 (record { start = addr; len = length bytes })) (Ok (written w.limits.full addr bytes)) made.0 made.1 in
    let same : written w.limits.full addr bytes ≡ e = ok_same _ _ last.1 ∙ same_event _ _ made.2 in
    subst (λ x. IsOfKind x (HostWrite addr bytes)) same (refl, refl)
kind w (Lend region section) e h =
    let d : ℕ = device_of_region region w.state in
    let made = made_of (ticket w) (trace_room w) (loan_on w d region section) (Makes e) h in
    let lent = lend_legal (limits_on d w.limits) d region section (view d w.state) made.0 made.1 in
    subst (λ x. IsOfKind x (Lend region section)) (lent.1 ∙ same_event _ _ made.2) (refl, refl)
kind w (Gather lease) e h =
    let s : State = view lease.device w.state in
    let made = made_of (ticket w) (trace_room w) (gather_event (limits_on lease.device w.limits) lease s) (Makes e) h in
    let last = then_ok (refuse_if (not (is_returnable w.limits.full lease.device lease s.records.blocks s.records.loans s.memories)) (NoLease lease.serial)) (Ok (gathered w.limits.full lease)) made.0 made.1 in
    let same : gathered w.limits.full lease ≡ e = ok_same _ _ last.1 ∙ same_event _ _ made.2 in
    subst (λ x. IsOfKind x (Gather lease)) same (refl, refl)

-- where there is nothing to do, the call is neither
idle_kind : (w : World) (call : Call Leased) → judge w call ≡ Ok Idle → (is_entry call ≡ false) × (is_exit call ≡ false)
idle_kind w (Do (Enter device items)) h = let told = judged_as w (Enter device items) Idle h in absurd cc
idle_kind w (Do (Exit number)) h = let told = judged_as w (Exit number) Idle h in absurd cc
idle_kind w (Do _) h = (refl, refl)
idle_kind w _ h = (refl, refl)

-- ---- what it takes

not_idle : (e : Event) (s : State) → answers_idle (reply_of e s) ≡ false
not_idle (events.Entered device number items did) s = refl
not_idle (events.Waited device queue count) s = refl
not_idle (events.Lent device region section block serial) s = refl
not_idle _ s = refl

-- an entry opens one region, and an exit closes one
regions_after : (l : Limits) (e : Event) (lay : Layout) → IsNumbered lay.register → NamesRight l e lay
    → length (register_after e lay.register).regions + (if is_left e then 1 else 0) ≡ length lay.register.regions + (if is_entered e then 1 else 0)
regions_after l (events.Entered device number items did) lay h names = rw names (omega (arith, opened_count (holdings_of items did) lay.register h))
regions_after l (events.Left device number did) lay h names = omega (arith, closed_one number lay.register h names)
regions_after l _ lay h names = refl

numbered : (g : Register) → IsRegisterSound g → IsNumbered g
numbered g h = record { first = h.first; rising = h.rising; known = h.known }

-- the records of each device are sound, and so are the new ones of a device that is not there
records_sound : (w : World) → IsLawful w → (d : ℕ) → AreRecordsSound (limits_on d w.limits) (view d w.state).records
records_sound w h d = go (nat_lt d w.limits.devices) refl
  where
    go : (b : Bool) → nat_lt d w.limits.devices ≡ b → AreRecordsSound (limits_on d w.limits) (view d w.state).records
    go true there =
        let on : IsLawfulOn w d = h.devices d (grind (arith, nat_tests)) in
        record { ranges_apart = on.ranges; blocks_apart = on.blocks; one_block_each = on.owned; counted = on.counted; attached = on.attached; queues = on.queues; loans = on.loans }
    go false beyond =
        let high : w.limits.devices ≤ d = grind (arith, nat_tests) in
        subst (λ (x : OneDevice). AreRecordsSound (limits_on d w.limits) x.records) (sym (device_beyond d w.state.devices (omega (arith, h.count, high)))) (new_sound (limits_on d w.limits))

event_counted : (w : World) (call : Call Leased) (e : Event) → IsLawful w → judge w call ≡ Ok (Makes e) → IsCountedOnce call (reply_in e w) w (world_after call e w)
unfolding world_after after
event_counted w call e lawful h =
    let d : ℕ = device_in e in
    let s : State = view d w.state in
    let of = kind w call e h in
    let acc = accepted w call e lawful.bounds lawful.count (records_sound w lawful) h in
    let on : IsLawfulOn w d = lawful.devices d (omega (arith, acc.there, lawful.count)) in
    let none : answers_idle (reply_in e w) ≡ false = not_idle e s in
    let more : length (w.history.trace ++ e ∷ []) ≡ length w.history.trace + 1 = length-append w.history.trace (e ∷ []) in
    let entry : is_entry call ≡ is_entered e = sym of.0 in
    let exit : is_exit call ≡ is_left e = sym of.1 in
    let made : State = after w.limits.full e (bytes_brought call) s in
    let count : length (register_after e s.register).regions + (if is_left e then 1 else 0) ≡ length s.register.regions + (if is_entered e then 1 else 0) = regions_after (limits_on d w.limits) e (layout_of s) (numbered s.register on.regions) acc.legal.names in
    let all_of : open_regions (with_view d made w.state) + length s.register.regions ≡ open_regions w.state + length made.register.regions = open_after d made w.state acc.there in
    record {
      limits = refl;
      events = rw none (omega (arith, more));
      regions = rw (entry, exit) (omega (arith, count, all_of));
      idle = λ nothing. absurd cc;
    }

idle_counted : (w : World) (call : Call Leased) → judge w call ≡ Ok Idle → IsCountedOnce call replies.Idle w w
idle_counted w call h =
    let neither = idle_kind w call h in
    let entry : is_entry call ≡ false = neither.0 in
    let exit : is_exit call ≡ false = neither.1 in
    record { limits = refl; events = omega arith; regions = rw (entry, exit) refl; idle = λ nothing. refl }

-- an accepted call on a table that keeps the laws is counted once
pub done_counted : (w : World) (call : Call Leased) (reply : Reply) (next : World) → IsLawful w → IsDone w call reply next → IsCountedOnce call reply w next
done_counted w call reply next lawful h = go (judge w call) refl h
  where
    go : (r : Result Verdict Fault) → judge w call ≡ r → MatchResult r (λ verdict. IsCarriedOut w call verdict reply next) (λ fault. ⊥) → IsCountedOnce call reply w next
    go (Ok (Makes e)) is x = subst (λ (v : World). IsCountedOnce call reply w v) (sym x.1) (subst (λ (r : Reply). IsCountedOnce call r w (world_after call e w)) (sym x.0) (event_counted w call e lawful is))
    go (Ok Idle) is x = subst (λ (v : World). IsCountedOnce call reply w v) (sym x.1) (subst (λ (r : Reply). IsCountedOnce call r w w) (sym x.0) (idle_counted w call is))
    go (Err fault) is x = absurd x

-- ---- no region, and no structured counter

-- where no region is open on any device, every structured counter is zero on each
none_structured : (w : World) (d : ℕ) → IsLawfulOn w d → open_regions w.state ≡ 0 → (block : ℕ) → structured_of block (view d w.state).records.ranges ≡ 0
none_structured w d on none block = on.held block ∙ go (view d w.state).register.regions (omega (arith, open_on d w.state, none))
  where
    go : (regions : List Region) → length regions ≡ 0 → held_in block regions ≡ 0
    go [] h = refl
    go (r ∷ rs) h = absurd (omega arith)

-- what is read of a range by its block is its own
own_structured : (ranges : List Range) → EachPair (λ (r : Range) (t : Range). r.block ≡ t.block → ⊥) ranges → ((block : ℕ) → structured_of block ranges ≡ 0) → AllByRecursion (λ (r : Range). r.structured ≡ 0) ranges
own_structured ranges distinct none =
    AllByRecursion-weaker (λ (r : Range). range_of r.block ranges ≡ Some r) (λ (r : Range). r.structured ≡ 0) ranges
    (λ r is. sym (ap (λ (o : Option Range). unwrap_or (option_map (λ (x : Range). x.structured) o) 0) is) ∙ none r.block)
    (at-own (λ (r : Range). r.block) ranges distinct)

pub none_open : (w : World) (d : ℕ) → IsLawfulOn w d → open_regions w.state ≡ 0 → AllByRecursion (λ (r : Range). r.structured ≡ 0) (view d w.state).records.ranges
none_open w d on none = own_structured (view d w.state).records.ranges on.owned.distinct (none_structured w d on none)

-- where every structured counter is zero, so is that which is read by a block
none_read : (ranges : List Range) → AllByRecursion (λ (r : Range). r.structured ≡ 0) ranges → (block : ℕ) → structured_of block ranges ≡ 0
none_read [] h block = refl
none_read (r ∷ rs) h block = go (none_read rs h.1 block) (r.block == block)
  where
    go : structured_of block rs ≡ 0 → (t : Bool) → unwrap_or (option_map (λ (x : Range). x.structured) (cond t (Some r) (range_of block rs))) 0 ≡ 0
    go rest true = h.0
    go rest false = rest

-- and so is what a query says of a section
pub none_told : (section : Section) (w : Records) (c : Counters) → AllByRecursion (λ (r : Range). r.structured ≡ 0) w.ranges → Some c ≡ counters_of_section section w → c.structured ≡ 0
none_told section w c none h = go (where_is section w.ranges) (sym h)
  where
    go : (found : Found) → counters_inside found w.ranges ≡ Some c → c.structured ≡ 0
    go (Inside block offset) is =
        let same : record { structured = structured_of block w.ranges; dynamic = dynamic_of block w.ranges } ≡ c = cc in
        sym (ap (λ (x : Counters). x.structured) same) ∙ none_read w.ranges none block
    go _ is = absurd cc
