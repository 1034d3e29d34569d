-- Over every legal history of several devices: each device's records stay sound, and its counters are counts over its
-- own events.
use Rattle.std.proofs.Common.{ℕ, zero, suc, ◌≡◌, ◌+◌, ◌<◌, ◌≤◌, refl, sym, ◌∙◌, ap, subst, Bool, true, false, List, [], ◌∷◌, length, arith}
use Rattle.std.specs.Prelude.{◌==◌, fold, sum_by, replicate, slice_index_or}
use Rattle.std.proofs.lemmas.List.Sums.{sum_by-cons}
use Rattle.acc_base.specs.Words.{Event}
use Rattle.acc_base.specs.declared.events.Event.TheVariants.{Entered, Left, Lent}
use Rattle.acc_base.specs.Limits.{Limits, IsWithinBounds, limits_on}
use Rattle.acc_base.specs.Records.{Layout, layout_of, new_layout}
use Rattle.acc_base.specs.Register.{Region, Register}
use Rattle.acc_base.specs.Ranges.{structured_of, dynamic_of}
use Rattle.acc_base.specs.Attachments.{count_at}
use Rattle.acc_base.specs.Walk.{register_after, walk}
use Rattle.acc_base.specs.Calls.{Base, History}
use Rattle.acc_base.specs.History.{IsLegal, AreLegal, entries_of, exits_of, dynamic_after, attached_after}
use Rattle.acc_base.specs.Accounts.{AreAttachmentsTraced, IsFounded, IsHistoryLegal, past_on}
use Rattle.acc_base.specs.Devices.{DeviceLayout, WholeLayout, new_device_layout, new_whole_layout, whole_layout_of, layout_in, with_layout, view, device_in, events_on, walk_on, walk_all_on}
use Rattle.acc_base.proofs.Results.{equal, differ}
use Rattle.acc_base.proofs.Elements.{AllByRecursion-weaker}
use Rattle.acc_base.proofs.Told.{IsTold, IsLedTo, walk_told, new_told}
use Rattle.acc_base.proofs.Traced.{ArePointersTold, event_pointed, own_pointers_told}
use Rattle.acc_base.proofs.Views.{numbers_from, layout-own, layout-other, devices-layout, layout-view}

-- the bounds of a table are those of each of its devices
pub bounds_on : (d : ℕ) (l : Limits) → d < l.devices → IsWithinBounds l → IsWithinBounds (limits_on d l)
bounds_on d l there h = record { host = h.host; number = omega (arith, there, h.devices.1); device = h.device; regions = h.regions; tickets = h.tickets; counter_max = h.counter_max; queue_cap = h.queue_cap; trace_cap = h.trace_cap; devices = h.devices }

-- ---- the events of a device

-- those of a list that begins with one of its own
pub events-own : (d : ℕ) (e : Event) (events : List Event) → (device_in e == d) ≡ true → events_on d (e ∷ events) ≡ e ∷ events_on d events
events-own d e events own = rw own refl

-- and with one of another device
pub events-other : (d : ℕ) (e : Event) (events : List Event) → (device_in e == d) ≡ false → events_on d (e ∷ events) ≡ events_on d events
events-other d e events other = rw other refl

-- ---- one event

-- numbers rise
numbers_grow : (e : Event) (g : Register) → g.next ≤ (register_after e g).next
numbers_grow (Entered device number items did) g = omega arith
numbers_grow (Left device number did) g = omega arith
numbers_grow (Lent device region section block serial) g = omega arith
numbers_grow _ g = omega arith

numbers_after : (e : Event) (lay : Layout) → lay.register.next ≤ (walk e lay).register.next
unfolding walk
numbers_after e lay = numbers_grow e lay.register

-- another device's event changes the numbers alone
told_beside : (l : Limits) (g : Register) (lay : Layout) (entries exits dynamics : ℕ → ℕ) → lay.register.next ≤ g.next → IsTold l lay entries exits dynamics → IsTold l (record { records = lay.records; register = numbers_from g lay.register }) entries exits dynamics
told_beside l g lay entries exits dynamics le h = record {
  sound = h.sound;
  numbered = record { first = omega (arith, h.numbered.first); rising = h.numbered.rising; known = AllByRecursion-weaker (λ (r : Region). r.number < lay.register.next) (λ (r : Region). r.number < g.next) lay.register.regions (λ r p. omega arith) h.numbered.known };
  held = h.held;
  structured = h.structured;
  dynamic = h.dynamic;
}

-- a device's layout is sound, and its counters are what these functions say, the attachment counters too
pub record IsToldOn (l : Limits) (lay : Layout) (entries exits dynamics : ℕ → ℕ) (pointers : ℕ → ℕ → ℕ) : Type 0 where
  pub told : IsTold l lay entries exits dynamics
  pub pointed : ArePointersTold pointers lay.records

-- the same, where so many events of the device come after what the functions say
abbrev pub IsToldBy : Limits → Layout → (ℕ → ℕ) → (ℕ → ℕ) → (ℕ → ℕ) → (ℕ → ℕ → ℕ) → List Event → Type 0
IsToldBy l lay entries exits dynamics pointers events = IsToldOn l lay (λ b. entries b + sum_by (entries_of b) events) (λ b. exits b + sum_by (exits_of b) events) (λ b. fold (dynamic_after b) (dynamics b) events) (λ b pointer. fold (attached_after b pointer) (pointers b pointer) events)

told_none : (l : Limits) (lay : Layout) (entries exits dynamics : ℕ → ℕ) (pointers : ℕ → ℕ → ℕ) → IsToldOn l lay entries exits dynamics pointers → IsToldBy l lay entries exits dynamics pointers []
told_none l lay entries exits dynamics pointers h = record {
  told = record { sound = h.told.sound; numbered = h.told.numbered; held = h.told.held; structured = λ b. omega (arith, h.told.structured b); dynamic = h.told.dynamic };
  pointed = h.pointed;
}

-- one of its own
told_own : (l : Limits) (e : Event) (lay : Layout) (entries exits dynamics : ℕ → ℕ) (pointers : ℕ → ℕ → ℕ) → IsWithinBounds l → IsToldOn l lay entries exits dynamics pointers → IsLegal l e lay
    → IsToldOn l (walk e lay) (λ b. entries b + entries_of b e) (λ b. exits b + exits_of b e) (λ b. dynamic_after b (dynamics b) e) (λ b pointer. attached_after b pointer (pointers b pointer) e)
told_own l e lay entries exits dynamics pointers bounds h legal = record { told = walk_told l e lay entries exits dynamics bounds h.told legal; pointed = event_pointed l e lay pointers bounds h.told.sound legal h.pointed }

-- one and then the others
told_then : (l : Limits) (e : Event) (events : List Event) (lay : Layout) (entries exits dynamics : ℕ → ℕ) (pointers : ℕ → ℕ → ℕ)
    → IsToldBy l lay (λ b. entries b + entries_of b e) (λ b. exits b + exits_of b e) (λ b. dynamic_after b (dynamics b) e) (λ b pointer. attached_after b pointer (pointers b pointer) e) events
    → IsToldBy l lay entries exits dynamics pointers (e ∷ events)
told_then l e events lay entries exits dynamics pointers h = record {
  told = record { sound = h.told.sound; numbered = h.told.numbered; held = h.told.held; structured = λ b. omega (arith, h.told.structured b, sum_by-cons (entries_of b) e events, sum_by-cons (exits_of b) e events); dynamic = h.told.dynamic };
  pointed = h.pointed;
}

-- ---- a list of events

-- what one device's layout is after events of all devices, by those of its own
pub told_all : (l : Limits) (events : List Event) (w : WholeLayout) (d : ℕ) (entries exits dynamics : ℕ → ℕ) (pointers : ℕ → ℕ → ℕ) → IsWithinBounds l → d < l.devices → d < length w.devices → IsToldOn (limits_on d l) (layout_in d w) entries exits dynamics pointers → AreLegal l events w
    → IsToldBy (limits_on d l) (layout_in d (walk_all_on events w)) entries exits dynamics pointers (events_on d events)
unfolding walk_all_on
told_all l [] w d entries exits dynamics pointers bounds within there h legal = told_none (limits_on d l) (layout_in d w) entries exits dynamics pointers h
told_all l (e ∷ events) w d entries exits dynamics pointers bounds within there h legal = go (λ en ex dy po now first. told_all l events (walk_on e w) d en ex dy po bounds within now first legal.1) (device_in e == d) refl
  where
    m : Limits
    m = limits_on d l

    after : Layout
    after = walk e (layout_in (device_in e) w)

    end : Layout
    end = layout_in d (walk_all_on events (walk_on e w))

    still : d < length (walk_on e w).devices
    still = omega (arith, there, devices-layout (device_in e) after w)

    go : ((en ex dy : ℕ → ℕ) (po : ℕ → ℕ → ℕ) → d < length (walk_on e w).devices → IsToldOn m (layout_in d (walk_on e w)) en ex dy po → IsToldBy m end en ex dy po (events_on d events))
        → (b : Bool) → (device_in e == d) ≡ b → IsToldBy m end entries exits dynamics pointers (events_on d (e ∷ events))
    go later true same =
        let is : device_in e ≡ d = equal (device_in e) d same in
        let now : layout_in d (walk_on e w) ≡ walk e (layout_in d w) = subst (λ n. layout_in n (with_layout (device_in e) after w) ≡ walk e (layout_in n w)) is (layout-own (device_in e) after w legal.0.there) in
        let own : IsLegal m e (layout_in d w) = subst (λ n. IsLegal (limits_on n l) e (layout_in n w)) is legal.0.legal in
        let first = subst (λ (lay : Layout). IsToldOn m lay (λ b. entries b + entries_of b e) (λ b. exits b + exits_of b e) (λ b. dynamic_after b (dynamics b) e) (λ b pointer. attached_after b pointer (pointers b pointer) e)) (sym now) (told_own m e (layout_in d w) entries exits dynamics pointers (bounds_on d l within bounds) h own) in
        let rest = later (λ b. entries b + entries_of b e) (λ b. exits b + exits_of b e) (λ b. dynamic_after b (dynamics b) e) (λ b pointer. attached_after b pointer (pointers b pointer) e) still first in
        subst (IsToldBy m end entries exits dynamics pointers) (sym (events-own d e events same)) (told_then m e (events_on d events) end entries exits dynamics pointers rest)
    go later false same =
        let now : layout_in d (walk_on e w) ≡ record { records = (layout_in d w).records; register = numbers_from after.register (layout_in d w).register } = layout-other (device_in e) d after w (λ own. differ (device_in e) d same (sym own)) in
        let le : w.next ≤ after.register.next = numbers_after e (layout_in (device_in e) w) in
        let beside : IsToldOn m (record { records = (layout_in d w).records; register = numbers_from after.register (layout_in d w).register }) entries exits dynamics pointers = record { told = told_beside m after.register (layout_in d w) entries exits dynamics le h.told; pointed = h.pointed } in
        let first = subst (λ (lay : Layout). IsToldOn m lay entries exits dynamics pointers) (sym now) beside in
        subst (IsToldBy m end entries exits dynamics pointers) (sym (events-other d e events same)) (later entries exits dynamics pointers still first)

-- ---- from a new table on

-- all devices stay there
pub devices_all : (events : List Event) (w : WholeLayout) → length (walk_all_on events w).devices ≡ length w.devices
unfolding walk_all_on
devices_all [] w = refl
devices_all (e ∷ events) w = devices_all events (walk_on e w) ∙ devices-layout (device_in e) (walk e (layout_in (device_in e) w)) w

pub new_at : (count d : ℕ) (x : DeviceLayout) → slice_index_or (replicate count x) d x ≡ x
new_at zero d x = refl
new_at (suc count) zero x = refl
new_at (suc count) (suc d) x = new_at count d x

-- each device of a new table is a new one
pub new_is : (count d : ℕ) → layout_in d (new_whole_layout count) ≡ new_layout
new_is count d = ap (λ (x : DeviceLayout). record { records = x.records; register = record { regions = x.regions; next = 1; serial = 1 } }) (new_at count d new_device_layout)

new_on : (l : Limits) → IsToldOn l new_layout (λ b. 0) (λ b. 0) (λ b. 0) (λ b pointer. count_at b pointer new_layout.records.attached)
new_on l = let told = new_told l in record { told = told; pointed = own_pointers_told l new_layout.records told.sound }

-- a device's layout that agrees with its own counters
abbrev IsToldItself : Limits → Layout → Type 0
IsToldItself l lay = IsToldOn l lay (λ k. structured_of k lay.records.ranges) (λ k. 0) (λ k. dynamic_of k lay.records.ranges) (λ k pointer. count_at k pointer lay.records.attached)

-- the layout of a device of a base is
base_told : (l : Limits) (b : Base) (d : ℕ) → IsWithinBounds l → IsFounded l b → d < l.devices → d < length (whole_layout_of b.state).devices → IsToldItself (limits_on d l) (layout_in d (whole_layout_of b.state))
base_told l b d bounds founded known there =
    let new : WholeLayout = new_whole_layout l.devices in
    let within : d < length new.devices = omega (arith, there, ap (λ (w : WholeLayout). length w.devices) founded.leads, devices_all founded.events new) in
    let first = subst (λ (lay : Layout). IsToldOn (limits_on d l) lay (λ k. 0) (λ k. 0) (λ k. 0) (λ k pointer. count_at k pointer new_layout.records.attached)) (sym (new_is l.devices d)) (new_on (limits_on d l)) in
    let all_of = told_all l founded.events new d (λ k. 0) (λ k. 0) (λ k. 0) (λ k pointer. count_at k pointer new_layout.records.attached) bounds known within first founded.legal in
    subst (λ (w : WholeLayout). IsToldItself (limits_on d l) (layout_in d w)) founded.leads (record {
      told = record { sound = all_of.told.sound; numbered = all_of.told.numbered; held = all_of.told.held; structured = λ k. omega arith; dynamic = λ k. refl };
      pointed = own_pointers_told (limits_on d l) _ all_of.told.sound;
    })

-- ---- what a legal history says of each device

-- what the past of a device says of its layout
pub record IsDeviceTold (l : Limits) (h : History) (d : ℕ) (lay : Layout) : Type 0 where
  pub led : IsLedTo (limits_on d l) (past_on d h) lay
  pub pointers : AreAttachmentsTraced (past_on d h) lay.records

told_since : (l : Limits) (h : History) (d : ℕ) (lay : Layout)
    → IsToldBy (limits_on d l) lay (λ k. structured_of k (past_on d h).records.ranges) (λ k. 0) (λ k. dynamic_of k (past_on d h).records.ranges) (λ k pointer. count_at k pointer (past_on d h).records.attached) (events_on d h.trace)
    → IsDeviceTold l h d lay
told_since l h d lay all_of = record {
  led = record { sound = all_of.told.sound; numbered = all_of.told.numbered; held = all_of.told.held; structured = λ k. omega (arith, all_of.told.structured k); dynamic = all_of.told.dynamic };
  pointers = all_of.pointed.there;
}

-- a legal history of all devices leads to sound records on each, and its own events give all three counters there
pub device_told : (l : Limits) (h : History) (w : WholeLayout) (d : ℕ) → IsWithinBounds l → IsHistoryLegal l h w → d < l.devices → d < length w.devices → IsDeviceTold l h d (layout_in d w)
device_told l h w d bounds history known there =
    let start : WholeLayout = whole_layout_of h.base.state in
    let within : d < length start.devices = omega (arith, there, ap (λ (v : WholeLayout). length v.devices) history.leads, devices_all h.trace start) in
    let own : layout_in d start ≡ layout_of (view d h.base.state) = layout-view d h.base.state in
    let first = base_told l h.base d bounds history.founded known within in
    let all_of = told_all l h.trace start d (λ k. structured_of k (layout_in d start).records.ranges) (λ k. 0) (λ k. dynamic_of k (layout_in d start).records.ranges) (λ k pointer. count_at k pointer (layout_in d start).records.attached) bounds known within first history.legal in
    subst (λ (v : WholeLayout). IsDeviceTold l h d (layout_in d v)) history.leads
    (told_since l h d (layout_in d (walk_all_on h.trace start))
    (subst (λ (lay : Layout). IsToldBy (limits_on d l) (layout_in d (walk_all_on h.trace start)) (λ k. structured_of k lay.records.ranges) (λ k. 0) (λ k. dynamic_of k lay.records.ranges) (λ k pointer. count_at k pointer lay.records.attached) (events_on d h.trace)) own all_of))
