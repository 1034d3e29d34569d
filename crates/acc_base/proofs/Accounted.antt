-- Every world that accepted calls lead to is accounted for, on each of its devices.
use Rattle.std.proofs.Common.{ℕ, zero, suc, ◌≡◌, ◌+◌, ◌<◌, ◌≤◌, refl, sym, ◌∙◌, ap, subst, Bool, true, false, List, [], ◌∷◌, ◌++◌, length, Option, Some, Ok, arith, length-append}
use Rattle.std.specs.Prelude.{◌-◌, ◌==◌, nat_lt, map, replicate, unwrap_or, option_map, sum_by}
use Rattle.std.specs.List.{AllByRecursion}
use Rattle.std.proofs.lemmas.Bool.{true≢false}
use Rattle.std.proofs.lemmas.Bool.Decides.{nat_tests}
use Rattle.std.proofs.lemmas.List.{length-map, length-set, length-replicate}
use Rattle.std.proofs.lemmas.List.Sums.{sum_by-set, sum_by-cons}
use Rattle.acc_base.specs.Words.{Range, Call, Event}
use Rattle.acc_base.specs.declared.events.Event.TheVariants.{Entered, Left}
use Rattle.acc_base.specs.Limits.{Limits, IsWithinBounds, limits_on}
use Rattle.acc_base.specs.Records.{Layout, State, layout_of, new_state}
use Rattle.acc_base.specs.Register.{Register}
use Rattle.acc_base.specs.Ranges.{range_of}
use Rattle.acc_base.specs.Loans.{Leased}
use Rattle.acc_base.specs.Acting.{after}
use Rattle.acc_base.specs.Walk.{register_after, holdings_of}
use Rattle.acc_base.specs.Replay.{bytes_told}
use Rattle.acc_base.specs.Devices.{OneDevice, Whole, DeviceLayout, WholeLayout, device_at, device_layout_of, whole_layout_of, new_device, new_device_layout, new_whole, new_whole_layout, view, with_view, open_regions, device_in, walk_on, walk_all_on, after_on, after_told, replayed, recorded_device, recorded_whole}
use Rattle.acc_base.specs.Calls.{History, World, base_of, new_history, with_event, event_count, rebased, judge, world_after, new_world, bytes_brought}
use Rattle.acc_base.specs.Judge.{Makes}
use Rattle.acc_base.specs.History.{Past, NamesRight, entries_in, exits_in, IsLegal, IsLegalOn, AreLegal}
use Rattle.acc_base.specs.Accounts.{IsRegisterSound, AreMemoriesSized, AreRecordsSound, IsTraced, AreMadeIn, IsReplay, IsFounded, IsHistoryLegal, IsReplayed, IsAccountedOn, IsAccounted, past_on}
use Rattle.acc_base.proofs.Results.{equal, differ}
use Rattle.acc_base.proofs.Elements.{AllByRecursion-weaker}
use Rattle.acc_base.proofs.Lookups.{at-own}
use Rattle.acc_base.proofs.Sound.{new_sound}
use Rattle.acc_base.proofs.Registers.{IsNumbered, AreFew, register_sound, opened_few, opened_count, holdings_short, closed_few, closed_count}
use Rattle.acc_base.proofs.Told.{IsLedTo}
use Rattle.acc_base.proofs.Used.{used_le}
use Rattle.acc_base.proofs.Memories.{event_sized, new_sized}
use Rattle.acc_base.proofs.Accepted.{IsEntryAllowed, IsAccepted, accepted}
use Rattle.acc_base.proofs.Views.{device_beyond, view-own, view-other, layout-view, whole_layout-after}
use Rattle.acc_base.proofs.OnDevices.{IsDeviceTold, device_told}
use Rattle.acc_base.proofs.Isolated.{device_alone, founded_alone}

-- ---- the history with one event more

walk_all-push : (events : List Event) (e : Event) (w : WholeLayout) → walk_all_on (events ++ e ∷ []) w ≡ walk_on e (walk_all_on events w)
unfolding walk_all_on
walk_all-push [] e w = refl
walk_all-push (x ∷ events) e w = walk_all-push events e (walk_on x w)

legal-push : (l : Limits) (events : List Event) (e : Event) (w : WholeLayout) → AreLegal l events w → IsLegalOn l e (walk_all_on events w) → AreLegal l (events ++ e ∷ []) w
unfolding walk_all_on
legal-push l [] e w h k = (k, tt)
legal-push l (x ∷ events) e w h k = (h.0, legal-push l events e (walk_on x w) h.1 k)

-- a history that is legal and leads to what the devices have, with one event more that is legal there
pub history_after : (l : Limits) (h : History) (e : Event) (w new : WholeLayout) → IsHistoryLegal l h w → IsLegalOn l e w → new ≡ walk_on e w → IsHistoryLegal l (with_event e h) new
history_after l h e w new legal now is = record {
  founded = legal.founded;
  legal = legal-push l h.trace e (whole_layout_of h.base.state) legal.legal (subst (IsLegalOn l e) (sym legal.leads) now);
  leads = walk_all-push h.trace e (whole_layout_of h.base.state) ∙ (ap (walk_on e) legal.leads ∙ sym is);
}

-- ---- the register after an event

is_numbered : (g : Register) → IsRegisterSound g → IsNumbered g
is_numbered g h = record { first = h.first; rising = h.rising; known = h.known }

-- each region holds few items
few_after : (l : Limits) (most regions : ℕ) (e : Event) (lay : Layout) → NamesRight l e lay → IsRegisterSound lay.register → IsEntryAllowed most regions e → AreFew (register_after e lay.register)
few_after l most regions (Entered device number items did) lay names h room = rw names (opened_few (holdings_of items did) lay.register (is_numbered lay.register h) h.few (omega (arith, holdings_short items did, room.0)))
few_after l most regions (Left device number did) lay names h room = closed_few number lay.register h.few
few_after l most regions _ lay names h room = h.few

-- and with those of other devices there are no more regions than the limit says
regions_after : (l : Limits) (most others : ℕ) (e : Event) (lay : Layout) → NamesRight l e lay → IsRegisterSound lay.register → IsEntryAllowed most (length lay.register.regions + others) e → length lay.register.regions + others ≤ most → length (register_after e lay.register).regions + others ≤ most
regions_after l most others (Entered device number items did) lay names h room le = rw names (omega (arith, opened_count (holdings_of items did) lay.register (is_numbered lay.register h), room.1))
regions_after l most others (Left device number did) lay names h room le = omega (arith, closed_count number lay.register)
regions_after l most others _ lay names h room le = le

-- the register after an event
pub register-after : (full : Bool) (e : Event) (brought : List ℕ) (s : State) → (after full e brought s).register ≡ register_after e s.register
unfolding after
register-after full e brought s = refl

-- both counters of each range are those of its device's past
pub traced : (l : Limits) (p : Past) (lay : Layout) → IsLedTo l p lay → AllByRecursion (IsTraced p) lay.records.ranges
traced l p lay told = AllByRecursion-weaker (λ r. range_of r.block lay.records.ranges ≡ Some r) (IsTraced p) lay.records.ranges
    (λ r own. record {
      structured = subst (λ n. n + exits_in r.block p ≡ entries_in r.block p) (ap (λ (o : Option Range). unwrap_or (option_map (λ (t : Range). t.structured) o) 0) own) (told.structured r.block);
      dynamic = sym (ap (λ (o : Option Range). unwrap_or (option_map (λ (t : Range). t.dynamic) o) 0) own) ∙ told.dynamic r.block;
    })
    (at-own (λ (r : Range). r.block) lay.records.ranges told.sound.one_block_each.distinct)

-- ---- a device, by the history of all

-- what holds of a view beside its history
pub record IsKept (l : Limits) (s : State) : Type 0 where
  pub few : AreFew s.register
  pub sized : AreMemoriesSized l s

accounted_on : (l : Limits) (h : History) (d : ℕ) (w : Whole) → IsWithinBounds l → IsHistoryLegal l h (whole_layout_of w) → d < l.devices → d < length w.devices → IsKept (limits_on d l) (view d w) → IsAccountedOn l h d w
accounted_on l h d w bounds history known there kept =
    let s : State = view d w in
    let t : IsDeviceTold l h d (layout_of s) = subst (IsDeviceTold l h d) (layout-view d w) (device_told l h (whole_layout_of w) d bounds history known (omega (arith, there, length-map w.devices device_layout_of))) in
    record {
      sound = record {
        layout = record { records = t.led.sound; register = register_sound s.register t.led.numbered kept.few; held = t.led.held };
        bytes_accounted = used_le (limits_on d l) s.records t.led.sound.blocks_apart;
        memories_sized = kept.sized;
      };
      counters_traced = traced (limits_on d l) (past_on d h) (layout_of s) t.led;
      attachments_traced = t.pointers;
      entries_held = λ block. subst (λ n. n + exits_in block (past_on d h) ≡ entries_in block (past_on d h)) (t.led.held block) (t.led.structured block);
      alone = device_alone l h w d history;
    }

-- ---- what stored events lead to

-- one list of events and then another
replayed-append : (events more : List Event) (w : Whole) → replayed (events ++ more) w ≡ replayed more (replayed events w)
unfolding replayed
replayed-append [] more w = refl
replayed-append (e ∷ events) more w = replayed-append events more (after_told e w)

made-append : (l : Limits) (events more : List Event) (w : Whole) → AreMadeIn l events w → AreMadeIn l more (replayed events w) → AreMadeIn l (events ++ more) w
unfolding replayed
made-append l [] more w h k = k
made-append l (e ∷ events) more w h k = (h.0, made-append l events more (after_told e w) h.1 k)

replay-append : (l : Limits) (events more : List Event) (from between to : Whole) → IsReplay l events from between → IsReplay l more between to → IsReplay l (events ++ more) from to
replay-append l events more from between to h k = record {
  made = made-append l events more from h.made (subst (AreMadeIn l more) (sym h.leads) k.made);
  leads = replayed-append events more from ∙ (ap (replayed more) h.leads ∙ k.leads);
}

-- one event, which stores what its call brought
replayed-one : (full : Bool) (e : Event) (brought : List ℕ) (w : Whole) → full ≡ true → bytes_told e (view (device_in e) w) ≡ brought → replayed (e ∷ []) w ≡ after_on full e brought w
unfolding replayed
replayed-one true e brought w set told = ap (λ bytes. after_on true e bytes w) told
replayed-one false e brought w set told = absurd (true≢false (sym set))

-- the world after an accepted call
replayed_after : (w : World) (call : Call Leased) (e : Event) → IsAccepted w (bytes_brought call) e → IsReplayed w → IsReplayed (world_after call e w)
unfolding world_after
replayed_after w call e ok h full =
    let one : IsReplay w.limits (e ∷ []) w.state (after_on w.limits.full e (bytes_brought call) w.state) = record { made = (ok.made, tt); leads = replayed-one w.limits.full e (bytes_brought call) w.state full (ok.told full) } in
    replay-append w.limits w.history.trace (e ∷ []) w.history.base.state w.state (after_on w.limits.full e (bytes_brought call) w.state) (h full) one

recorded_all : (devices : List OneDevice) → map (recorded_device true) devices ≡ devices
recorded_all [] = refl
recorded_all (x ∷ devices) = ap (λ xs. x ∷ xs) (recorded_all devices)

-- a full base is what it was made of
state_kept : (full : Bool) (w : Whole) → full ≡ true → recorded_whole full w ≡ w
state_kept true w set = ap (λ (xs : List OneDevice). let v : Whole = record { devices = xs; next = w.next; serial = w.serial; host = w.host } in v) (recorded_all w.devices)
state_kept false w set = absurd (true≢false (sym set))

-- and any base has all but the bytes
whole_layout_all : (full : Bool) (devices : List OneDevice) → map device_layout_of (map (recorded_device full) devices) ≡ map device_layout_of devices
whole_layout_all full [] = refl
whole_layout_all full (x ∷ devices) = ap (λ xs. device_layout_of x ∷ xs) (whole_layout_all full devices)

whole_layout_kept : (full : Bool) (w : Whole) → whole_layout_of (recorded_whole full w) ≡ whole_layout_of w
whole_layout_kept full w = ap (λ (xs : List DeviceLayout). let v : WholeLayout = record { devices = xs; next = w.next; serial = w.serial } in v) (whole_layout_all full w.devices)

-- ---- the world after an accepted call

-- how many regions are open on all devices, after those of one change
pub open_after : (d : ℕ) (s : State) (w : Whole) → d < length w.devices → open_regions (with_view d s w) + length (view d w).register.regions ≡ open_regions w + length s.register.regions
open_after d s w there = sum_by-set (λ (x : OneDevice). length x.regions) w.devices d (record { records = s.records; regions = s.register.regions; memories = s.memories }) new_device there

-- on one device there are no more than on all
pub open_on : (d : ℕ) (w : Whole) → length (view d w).register.regions ≤ open_regions w
open_on d w = go d w.devices
  where
    go : (k : ℕ) (devices : List OneDevice) → length (device_at k devices).regions ≤ sum_by (λ (x : OneDevice). length x.regions) devices
    go k [] = omega arith
    go zero (x ∷ devices) = omega (arith, sum_by-cons (λ (y : OneDevice). length y.regions) x devices)
    go (suc k) (x ∷ devices) = let later = go k devices in omega (arith, sum_by-cons (λ (y : OneDevice). length y.regions) x devices)

-- the world after an accepted call is accounted for
pub accounted_after : (w : World) (call : Call Leased) (e : Event) → IsWithinBounds w.limits → IsAccepted w (bytes_brought call) e → IsAccounted w → IsAccounted (world_after call e w)
unfolding world_after
accounted_after w call e bounds ok h =
    let more : length (w.history.trace ++ e ∷ []) ≡ length w.history.trace + 1 = length-append w.history.trace (e ∷ []) in
    record {
      as_many = many ∙ h.as_many;
      devices = λ k within. accounted_on l longer k next bounds history within (omega (arith, within, many, h.as_many)) (kept k within (k == d) refl);
      history_legal = history;
      memories_replayed = replayed_after w call e ok h.memories_replayed;
      books_counted = record { tickets = omega (arith, ok.tickets); trace = omega (arith, ok.trace); regions = regions };
    }
  where
    l : Limits
    l = w.limits

    d : ℕ
    d = device_in e

    made : State
    made = after l.full e (bytes_brought call) (view d w.state)

    next : Whole
    next = after_on l.full e (bytes_brought call) w.state

    longer : History
    longer = with_event e w.history

    many : length next.devices ≡ length w.state.devices
    many = length-set w.state.devices d (record { records = made.records; regions = made.register.regions; memories = made.memories })

    history : IsHistoryLegal l longer (whole_layout_of next)
    history =
        let now : IsLegalOn l e (whole_layout_of w.state) = record { there = omega (arith, ok.there, length-map w.state.devices device_layout_of); legal = subst (IsLegal (limits_on d l) e) (sym (layout-view d w.state)) ok.legal } in
        history_after l w.history e (whole_layout_of w.state) (whole_layout_of next) h.history_legal now (whole_layout-after l.full e (bytes_brought call) w.state)

    here : IsAccountedOn l w.history d w.state
    here = h.devices d (omega (arith, ok.there, h.as_many))

    register_is : made.register ≡ register_after e (view d w.state).register
    register_is = register-after l.full e (bytes_brought call) (view d w.state)

    own : IsKept (limits_on d l) made
    own = record {
      few = subst (λ (g : Register). AreFew g) (sym register_is) (few_after (limits_on d l) l.regions (open_regions w.state) e (layout_of (view d w.state)) ok.legal.names here.sound.layout.register ok.room);
      sized = event_sized (limits_on d l) l.full e (bytes_brought call) (view d w.state) ok.fits here.sound.memories_sized;
    }

    kept : (k : ℕ) → k < l.devices → (b : Bool) → (k == d) ≡ b → IsKept (limits_on k l) (view k next)
    kept k within true same = subst (λ m. IsKept (limits_on m l) (view m next)) (sym (equal k d same)) (subst (λ (s : State). IsKept (limits_on d l) s) (sym (view-own d made w.state ok.there)) own)
    kept k within false same =
        let other : IsAccountedOn l w.history k w.state = h.devices k within in
        subst (λ (s : State). IsKept (limits_on k l) s) (sym (view-other d k made w.state (differ k d same)))
        (record { few = other.sound.layout.register.few; sized = record { host = own.sized.host; blocks = other.sound.memories_sized.blocks } })

    regions : open_regions next ≤ l.regions
    regions =
        let others : ℕ = open_regions w.state - length (view d w.state).register.regions in
        let all_of : length (view d w.state).register.regions + others ≡ open_regions w.state = omega (arith, open_on d w.state) in
        let after_it : length (register_after e (view d w.state).register).regions + others ≤ l.regions
        = regions_after (limits_on d l) l.regions others e (layout_of (view d w.state)) ok.legal.names here.sound.layout.register (subst (λ n. IsEntryAllowed l.regions n e) (sym all_of) ok.room) (omega (arith, all_of, h.books_counted.regions)) in
        let count : length made.register.regions ≡ length (register_after e (view d w.state).register).regions = ap (λ (g : Register). length g.regions) register_is in
        omega (arith, after_it, count, all_of, open_after d made w.state ok.there)

not_below : (a b : ℕ) → nat_lt a b ≡ false → b ≤ a
not_below a b e = grind (arith, nat_tests)

-- a device that is not there has sound records too: those of a new one
pub sound_on : (w : World) → IsAccounted w → (d : ℕ) → AreRecordsSound (limits_on d w.limits) (view d w.state).records
sound_on w h d = go (nat_lt d w.limits.devices) refl
  where
    go : (b : Bool) → nat_lt d w.limits.devices ≡ b → AreRecordsSound (limits_on d w.limits) (view d w.state).records
    go true there = (h.devices d (grind (arith, nat_tests))).sound.layout.records
    go false beyond =
        let le : length w.state.devices ≤ d = omega (arith, h.as_many, not_below d w.limits.devices beyond) in
        subst (λ (x : OneDevice). AreRecordsSound (limits_on d w.limits) x.records) (sym (device_beyond d w.state.devices le)) (new_sound (limits_on d w.limits))

-- the world after a call that is judged to make an event
pub accepted_accounted : (w : World) (call : Call Leased) (e : Event) → IsWithinBounds w.limits → judge w call ≡ Ok (Makes e) → IsAccounted w → IsAccounted (world_after call e w)
accepted_accounted w call e bounds h accounted = accounted_after w call e bounds (accepted w call e bounds accounted.as_many (sound_on w accounted) h) accounted

-- ---- a new world

devices_new : (count d : ℕ) → device_at d (replicate count new_device) ≡ new_device
devices_new zero d = refl
devices_new (suc n) zero = refl
devices_new (suc n) (suc d) = devices_new n d

whole_layout_new : (count : ℕ) → map device_layout_of (replicate count new_device) ≡ replicate count new_device_layout
whole_layout_new zero = refl
whole_layout_new (suc n) = ap (λ xs. new_device_layout ∷ xs) (whole_layout_new n)

none_open : (count : ℕ) → sum_by (λ (x : OneDevice). length x.regions) (replicate count new_device) ≡ 0
none_open zero = refl
none_open (suc n) = let later : sum_by (λ (x : OneDevice). length x.regions) (replicate n new_device) ≡ 0 = none_open n in omega (arith, sum_by-cons (λ (x : OneDevice). length x.regions) new_device (replicate n new_device))

pub new_accounted : (l : Limits) → IsWithinBounds l → IsAccounted (new_world l)
unfolding walk_all_on replayed
new_accounted l bounds =
    let w : Whole = new_whole l.devices l.host in
    let h : History = new_history l in
    let start : new_whole_layout l.devices ≡ whole_layout_of w = sym (ap (λ (xs : List DeviceLayout). let v : WholeLayout = record { devices = xs; next = 1; serial = 1 } in v) (whole_layout_new l.devices)) in
    let based : whole_layout_of h.base.state ≡ whole_layout_of w = whole_layout_kept l.full w in
    let founded : IsFounded l h.base = record { events = []; count = refl; legal = tt; leads = start ∙ sym based; alone = λ d. founded_alone l [] h.base.state d tt (start ∙ sym based); replayed = λ full. record { made = tt; leads = sym (state_kept l.full w full) } } in
    let history : IsHistoryLegal l h (whole_layout_of w) = record { founded = founded; legal = tt; leads = based } in
    let count : length w.devices ≡ l.devices = length-replicate l.devices new_device in
    record {
      as_many = count;
      devices = λ d within.
          let is : view d w ≡ new_state l.host = ap (λ (x : OneDevice). let s : State = record { records = x.records; register = record { regions = x.regions; next = 1; serial = 1 }; host = w.host; memories = x.memories } in s) (devices_new l.devices d) in
          accounted_on l h d w bounds history within (omega (arith, within, count)) (subst (λ (s : State). IsKept (limits_on d l) s) (sym is) (record { few = tt; sized = new_sized (limits_on d l) }));
      history_legal = history;
      memories_replayed = λ full. record { made = tt; leads = state_kept l.full w full };
      books_counted = record { tickets = omega arith; trace = omega arith; regions = omega (arith, none_open l.devices) };
    }

-- ---- a world with a new base

-- what one list of events and then another lead to
walk_all-append : (events more : List Event) (w : WholeLayout) → walk_all_on (events ++ more) w ≡ walk_all_on more (walk_all_on events w)
unfolding walk_all_on
walk_all-append [] more w = refl
walk_all-append (e ∷ events) more w = walk_all-append events more (walk_on e w)

-- they are legal, one after the other
legal-append : (l : Limits) (events more : List Event) (w : WholeLayout) → AreLegal l events w → AreLegal l more (walk_all_on events w) → AreLegal l (events ++ more) w
unfolding walk_all_on
legal-append l [] more w h k = k
legal-append l (e ∷ events) more w h k = (h.0, legal-append l events more (walk_on e w) h.1 k)

-- the history of a world founds its base
founded_by : (w : World) → IsHistoryLegal w.limits w.history (whole_layout_of w.state) → IsReplayed w → IsFounded w.limits (base_of w.limits.full w.state (event_count w.history))
founded_by w legal replay =
    let l : Limits = w.limits in
    let h : History = w.history in
    let before = legal.founded in
    let new : WholeLayout = new_whole_layout l.devices in
    let after : Whole = recorded_whole l.full w.state in
    let legally : AreLegal l (before.events ++ h.trace) new = legal-append l before.events h.trace new before.legal (subst (AreLegal l h.trace) (sym before.leads) legal.legal) in
    let to : walk_all_on (before.events ++ h.trace) new ≡ whole_layout_of after = walk_all-append before.events h.trace new ∙ (ap (walk_all_on h.trace) before.leads ∙ (legal.leads ∙ sym (whole_layout_kept l.full w.state))) in
    record {
      events = before.events ++ h.trace;
      count = length-append before.events h.trace ∙ ap (λ n. n + length h.trace) before.count;
      legal = legally;
      leads = to;
      alone = λ d. founded_alone l (before.events ++ h.trace) after d legally to;
      replayed = λ full. subst (IsReplay l (before.events ++ h.trace) (new_whole l.devices l.host)) (sym (state_kept l.full w.state full)) (replay-append l before.events h.trace (new_whole l.devices l.host) h.base.state w.state (before.replayed full) (replay full));
    }

-- so the world is accounted for
pub rebased_accounted : (w : World) → IsWithinBounds w.limits → IsAccounted w → IsAccounted (rebased w)
unfolding walk_all_on replayed
rebased_accounted w bounds h =
    let l : Limits = w.limits in
    let since : History = (rebased w).history in
    let history : IsHistoryLegal l since (whole_layout_of w.state) = record { founded = founded_by w h.history_legal h.memories_replayed; legal = tt; leads = whole_layout_kept l.full w.state } in
    record {
      as_many = h.as_many;
      devices = λ d within.
          let old : IsAccountedOn l w.history d w.state = h.devices d within in
          accounted_on l since d w.state bounds history within (omega (arith, within, h.as_many)) (record { few = old.sound.layout.register.few; sized = old.sound.memories_sized });
      history_legal = history;
      memories_replayed = λ full. record { made = tt; leads = state_kept l.full w.state full };
      books_counted = record { tickets = omega (arith, h.books_counted.tickets); trace = omega arith; regions = h.books_counted.regions };
    }
