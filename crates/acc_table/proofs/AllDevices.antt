-- One device after the other: their bases, their open regions, and the one on which a region is open.
use Rattle.std.proofs.Common.{ℕ, ◌≡◌, ◌+◌, ◌<◌, ◌≤◌, refl, sym, ◌∙◌, ap, Bool, true, false, List, [], ◌∷◌, ◌++◌, append_assoc, length, drop, Option, Some, None, cond, arith}
use Rattle.std.specs.Prelude.{map, nat_lt, slice_index_or, is_some, sum_by, unwrap_or, max, IfSome, IfNone}
use Rattle.std.specs.List.{position_or_len}
use Rattle.std.proofs.lemmas.Bool.Decides.{nat_tests}
use Rattle.std.proofs.lemmas.List.{drop_more, length-map, append-nil}
use Rattle.std.proofs.lemmas.List.Sums.{sum_by-drop_more, position_or_len_is}
use Rattle.std.proofs.Math.ListN.{drop_of_length-le}
use Rattle.acc_base.specs.Limits.{Limits, limits_on, recorded}
use Rattle.acc_base.specs.Records.{State}
use Rattle.acc_base.specs.Calls.{Base, base_of}
use Rattle.acc_base.specs.Register.{region_at, newest_region}
use Rattle.acc_base.specs.Devices.{OneDevice, Whole, view, device_at, new_device, open_regions, device_of_region, recorded_device}
use Rattle.acc_base.proofs.Views.{device_beyond}
use Rattle.acc_clauses.specs.Devices.{Seen, DeviceContents, contents_with}
use Rattle.acc_table.specs.declared.devices.Devices.{Devices}
use Rattle.acc_table.specs.Devices.{own, whole_of, AreSet}
use Rattle.acc_table.specs.Queries.{later, newest_of}
use Rattle.acc_table.proofs.DeviceLists.{view_used}

-- there are as many devices as places
pub devices_count : (x : Devices) → length (whole_of x).devices ≡ length x.each.items
devices_count x = length-map x.each.items own

-- ---- the view of one

pub seen_there : (l : Limits) (x : Devices) (d : ℕ) (y : DeviceContents) (v : Seen) → AreSet l x → d < length x.each.items → y ≡ slice_index_or x.each.items d y → v ≡ record { limits = y.limits; state = (contents_with y x.shared).state } → v ≡ record { limits = limits_on d l; state = view d (whole_of x) }
seen_there l x d y v set there at is =
    let limits : y.limits ≡ limits_on d l = ap (λ (z : DeviceContents). z.limits) at ∙ (set.each d y there).limits in
    let state : (contents_with y x.shared).state ≡ view d (whole_of x) = sym (view_used d x.each.items y x.shared there at) in
    is ∙ (ap (λ (m : Limits). let v : Seen = record { limits = m; state = (contents_with y x.shared).state } in v) limits ∙ ap (λ (s : State). let v : Seen = record { limits = limits_on d l; state = s } in v) state)

-- what is there is seen by the limits of the devices
pub seen_some : (l : Limits) (x : Devices) (d : ℕ) (r : Option Seen) → AreSet l x → IfSome r (λ v. (m : Limits) → AreSet m x → v ≡ record { limits = limits_on d m; state = view d (whole_of x) }) → IfSome r (λ v. v ≡ record { limits = limits_on d l; state = view d (whole_of x) })
seen_some l x d (Some v) set h = h l set
seen_some l x d None set h = tt

pub seen_known : (l : Limits) (x : Devices) (d : ℕ) (r : Option Seen) → AreSet l x → IfSome r (λ _. d < length x.each.items) → IfSome r (λ _. d < l.devices)
seen_known l x d (Some v) set h = omega (arith, h, set.count)
seen_known l x d None set h = tt

pub seen_none : (l : Limits) (x : Devices) (d : ℕ) (r : Option Seen) → AreSet l x → IfNone r (length x.each.items ≤ d) → IfNone r (device_at d (whole_of x).devices ≡ new_device)
seen_none l x d (Some v) set h = tt
seen_none l x d None set h = device_beyond d (whole_of x).devices (omega (arith, h, devices_count x))

-- ---- bases

pub saved_more : (full : Bool) (d : ℕ) (devices saved : List OneDevice) (now : OneDevice) → d < length devices → saved ++ map (recorded_device full) (drop d devices) ≡ map (recorded_device full) devices → now ≡ recorded_device full (device_at d devices)
    → (saved ++ now ∷ []) ++ map (recorded_device full) (drop (d + 1) devices) ≡ map (recorded_device full) devices
saved_more full d devices saved now there before is =
    append_assoc saved (now ∷ []) (map (recorded_device full) (drop (d + 1) devices))
    ∙ (ap (λ (z : OneDevice). saved ++ z ∷ map (recorded_device full) (drop (d + 1) devices)) is
    ∙ (ap (λ (ds : List OneDevice). saved ++ map (recorded_device full) ds) (sym (drop_more devices d new_device there)) ∙ before))

pub saved_all : (full : Bool) (d : ℕ) (devices saved : List OneDevice) → length devices ≤ d → saved ++ map (recorded_device full) (drop d devices) ≡ map (recorded_device full) devices → saved ≡ map (recorded_device full) devices
saved_all full d devices saved le h = sym (append-nil saved) ∙ (ap (λ (ds : List OneDevice). saved ++ map (recorded_device full) ds) (sym (drop_of_length-le devices le)) ∙ h)

pub base_saved : (full : Bool) (w : Whole) (events next serial : ℕ) (devices : List OneDevice) (host : List ℕ) → devices ≡ map (recorded_device full) w.devices → next ≡ w.next → serial ≡ w.serial → host ≡ recorded full w.host → ◌≡◌ {A = Base} (record { state = record { devices = devices; next = next; serial = serial; host = host }; events = events }) (base_of full w events)
base_saved full w events next serial devices host d n s h = rw (d, n, s, h) refl

-- ---- open regions

pub open_more : (d : ℕ) (w : Whole) (count : ℕ) → d < length w.devices → count + sum_by (λ (x : OneDevice). length x.regions) (drop d w.devices) ≡ open_regions w → (count + length (device_at d w.devices).regions) + sum_by (λ (x : OneDevice). length x.regions) (drop (d + 1) w.devices) ≡ open_regions w
open_more d w count there h = omega (arith, h, sum_by-drop_more (λ (x : OneDevice). length x.regions) w.devices d new_device there)

pub open_all : (d : ℕ) (w : Whole) (count : ℕ) → length w.devices ≤ d → count + sum_by (λ (x : OneDevice). length x.regions) (drop d w.devices) ≡ open_regions w → count ≡ open_regions w
open_all d w count le h =
    let none : sum_by (λ (x : OneDevice). length x.regions) (drop d w.devices) ≡ 0 = ap (sum_by (λ (x : OneDevice). length x.regions)) (drop_of_length-le w.devices le) in
    omega (arith, h, none)

-- ---- where a region is open

abbrev has_open : ℕ → OneDevice → Bool
has_open number x = is_some (region_at number x.regions)

-- it is on this device and on none before
pub region_found : (number d : ℕ) (w : Whole) → d < length w.devices → ((k : ℕ) → k < d → is_some (region_at number (device_at k w.devices).regions) ≡ false) → is_some (region_at number (device_at d w.devices).regions) ≡ true → d ≡ device_of_region number w
region_found number d w there none found =
    let at : position_or_len (has_open number) w.devices ≡ d = position_or_len_is (has_open number) w.devices d new_device (omega (arith, there)) none (λ lt. found) in
    go (nat_lt (position_or_len (has_open number) w.devices) (length w.devices)) refl at
  where
    go : (b : Bool) → nat_lt (position_or_len (has_open number) w.devices) (length w.devices) ≡ b → position_or_len (has_open number) w.devices ≡ d → d ≡ unwrap_or (cond b (Some (position_or_len (has_open number) w.devices)) None) 0
    go true e at = sym at
    go false e at = let high : length w.devices ≤ position_or_len (has_open number) w.devices = grind (arith, nat_tests) in absurd (omega (arith, high, at, there))

-- it is on none
pub region_nowhere : (number d : ℕ) (w : Whole) → length w.devices ≤ d → ((k : ℕ) → k < d → is_some (region_at number (device_at k w.devices).regions) ≡ false) → 0 ≡ device_of_region number w
region_nowhere number d w le none =
    let at : position_or_len (has_open number) w.devices ≡ length w.devices = position_or_len_is (has_open number) w.devices (length w.devices) new_device (omega arith) (λ k lt. none k (omega (arith, le, lt))) (λ lt. absurd (omega (arith, lt))) in
    go (nat_lt (position_or_len (has_open number) w.devices) (length w.devices)) refl at
  where
    go : (b : Bool) → nat_lt (position_or_len (has_open number) w.devices) (length w.devices) ≡ b → position_or_len (has_open number) w.devices ≡ length w.devices → 0 ≡ unwrap_or (cond b (Some (position_or_len (has_open number) w.devices)) None) 0
    go true e at = let low : position_or_len (has_open number) w.devices < length w.devices = grind (arith, nat_tests) in absurd (omega (arith, low, at))
    go false e at = refl

-- ---- the region that was entered last

later_none : (o : Option ℕ) → later o None ≡ o
later_none None = refl
later_none (Some n) = refl

-- which two of three are compared first is all the same
later_assoc : (o p q : Option ℕ) → later (later o p) q ≡ later o (later p q)
later_assoc None p q = refl
later_assoc (Some a) None q = refl
later_assoc (Some a) (Some b) None = refl
later_assoc (Some a) (Some b) (Some c) = let e : max (max a b) c ≡ max a (max b c) = omega arith in rw e refl

-- the newest of those before a device and from it on is that of those before it, of its own and of those behind it
pub newest_turn : (o : Option ℕ) (d : ℕ) (devices : List OneDevice) → d < length devices
    → later o (newest_of (drop d devices)) ≡ later (later o (newest_region (device_at d devices).regions)) (newest_of (drop (d + 1) devices))
newest_turn o d devices there =
    ap (λ (xs : List OneDevice). later o (newest_of xs)) (drop_more devices d new_device there) ∙ sym (later_assoc o (newest_region (device_at d devices).regions) (newest_of (drop (d + 1) devices)))

-- no device is left
pub newest_found : (o : Option ℕ) (d : ℕ) (devices : List OneDevice) → length devices ≤ d → later o (newest_of (drop d devices)) ≡ o
newest_found o d devices le = ap (λ (xs : List OneDevice). later o (newest_of xs)) (drop_of_length-le devices le) ∙ later_none o
