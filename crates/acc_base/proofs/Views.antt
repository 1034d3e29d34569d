-- What a device's view is after a directive of that device, and of another.
use Rattle.std.proofs.Common.{ℕ, zero, suc, ◌≡◌, ◌<◌, ◌≤◌, refl, sym, ◌∙◌, ap, Bool, List, [], ◌∷◌, length, arith}
use Rattle.std.specs.Prelude.{map, slice_index_or, slice_set}
use Rattle.std.proofs.lemmas.List.{get_or-set_same, get_or-set_other, length-set}
use Rattle.acc_base.specs.Words.{Event}
use Rattle.acc_base.specs.Register.{Register}
use Rattle.acc_base.specs.Records.{Layout, State, layout_of}
use Rattle.acc_base.specs.Walk.{walk}
use Rattle.acc_base.specs.Acting.{after}
use Rattle.acc_base.specs.Devices.{OneDevice, Whole, DeviceLayout, WholeLayout, device_at, new_device, new_device_layout, device_layout_of, whole_layout_of, view, with_view, layout_in, with_layout, device_in, walk_on, after_on}
use Rattle.acc_base.proofs.Walked.{layout-after}

-- a register that stands beside other devices' regions: its regions, with the numbers of another
abbrev pub numbers_from : Register → Register → Register
numbers_from g k = record { regions = k.regions; next = g.next; serial = g.serial }

-- a device that is not there has what a new one has
pub device_beyond : (d : ℕ) (devices : List OneDevice) → length devices ≤ d → device_at d devices ≡ new_device
device_beyond d [] le = refl
device_beyond zero (x ∷ devices) le = absurd (omega (arith, le))
device_beyond (suc d) (x ∷ devices) le = device_beyond d devices (omega (arith, le))

-- ---- states

pub view-own : (d : ℕ) (s : State) (w : Whole) → d < length w.devices → view d (with_view d s w) ≡ s
view-own d s w there = ap (λ (x : OneDevice). record { records = x.records; register = record { regions = x.regions; next = s.register.next; serial = s.register.serial }; host = s.host; memories = x.memories })
    (get_or-set_same w.devices d (record { records = s.records; regions = s.register.regions; memories = s.memories }) new_device there)

-- another device keeps its records, regions and memories
pub view-other : (d k : ℕ) (s : State) (w : Whole) → (k ≡ d → ⊥) → view k (with_view d s w) ≡ record { records = (view k w).records; register = numbers_from s.register (view k w).register; host = s.host; memories = (view k w).memories }
view-other d k s w differs = ap (λ (x : OneDevice). record { records = x.records; register = record { regions = x.regions; next = s.register.next; serial = s.register.serial }; host = s.host; memories = x.memories })
    (get_or-set_other w.devices d k (record { records = s.records; regions = s.register.regions; memories = s.memories }) new_device differs)

-- ---- layouts

pub layout-own : (d : ℕ) (lay : Layout) (w : WholeLayout) → d < length w.devices → layout_in d (with_layout d lay w) ≡ lay
layout-own d lay w there = ap (λ (x : DeviceLayout). record { records = x.records; register = record { regions = x.regions; next = lay.register.next; serial = lay.register.serial } })
    (get_or-set_same w.devices d (record { records = lay.records; regions = lay.register.regions }) new_device_layout there)

pub layout-other : (d k : ℕ) (lay : Layout) (w : WholeLayout) → (k ≡ d → ⊥) → layout_in k (with_layout d lay w) ≡ record { records = (layout_in k w).records; register = numbers_from lay.register (layout_in k w).register }
layout-other d k lay w differs = ap (λ (x : DeviceLayout). record { records = x.records; register = record { regions = x.regions; next = lay.register.next; serial = lay.register.serial } })
    (get_or-set_other w.devices d k (record { records = lay.records; regions = lay.register.regions }) new_device_layout differs)

pub devices-layout : (d : ℕ) (lay : Layout) (w : WholeLayout) → length (with_layout d lay w).devices ≡ length w.devices
devices-layout d lay w = length-set w.devices d (record { records = lay.records; regions = lay.register.regions })

-- ---- both

pub at-map : {X Y : Type 0} (f : X → Y) (xs : List X) (i : ℕ) (x : X) → slice_index_or (map f xs) i (f x) ≡ f (slice_index_or xs i x)
at-map f [] i x = refl
at-map f (y ∷ ys) zero x = refl
at-map f (y ∷ ys) (suc i) x = at-map f ys i x

set-map : {X Y : Type 0} (f : X → Y) (xs : List X) (i : ℕ) (x : X) → map f (slice_set xs i x) ≡ slice_set (map f xs) i (f x)
set-map f [] i x = refl
set-map f (y ∷ ys) zero x = refl
set-map f (y ∷ ys) (suc i) x = ap (λ zs. f y ∷ zs) (set-map f ys i x)

-- the layout of a view
pub layout-view : (d : ℕ) (w : Whole) → layout_in d (whole_layout_of w) ≡ layout_of (view d w)
layout-view d w = ap (λ (x : DeviceLayout). record { records = x.records; register = record { regions = x.regions; next = w.next; serial = w.serial } }) (at-map device_layout_of w.devices d new_device)

pub whole_layout-with : (d : ℕ) (s : State) (w : Whole) → whole_layout_of (with_view d s w) ≡ with_layout d (layout_of s) (whole_layout_of w)
whole_layout-with d s w = ap (λ (xs : List DeviceLayout). record { devices = xs; next = s.register.next; serial = s.register.serial }) (set-map device_layout_of w.devices d (record { records = s.records; regions = s.register.regions; memories = s.memories }))

-- after an event, the layouts are those that its walk leaves
pub whole_layout-after : (full : Bool) (e : Event) (brought : List ℕ) (w : Whole) → whole_layout_of (after_on full e brought w) ≡ walk_on e (whole_layout_of w)
whole_layout-after full e brought w =
    let d : ℕ = device_in e in
    whole_layout-with d (after full e brought (view d w)) w
    ∙ (ap (λ (lay : Layout). with_layout d lay (whole_layout_of w)) (layout-after full e brought (view d w)) ∙ ap (λ (lay : Layout). with_layout d (walk e lay) (whole_layout_of w)) (sym (layout-view d w)))
