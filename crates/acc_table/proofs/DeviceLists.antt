-- The devices of a table as one list: what one of them has, and what a change of it leaves of all.
use Rattle.std.proofs.Common.{ℕ, zero, suc, ◌≡◌, ◌<◌, refl, sym, ◌∙◌, ap, subst, List, [], ◌∷◌, length, arith, inl, inr, length-set}
use Rattle.std.specs.Prelude.{map, slice_index_or, slice_set}
use Rattle.std.specs.List.{AllZip}
use Rattle.std.proofs.lemmas.List.{length-map, get_or-map, map-set, get_or-set_same, get_or-set_other}
use Rattle.std.proofs.lemmas.Bool.{cases_eq}
use Rattle.acc_base.specs.Limits.{Limits}
use Rattle.acc_base.specs.Devices.{OneDevice, Whole, device_at, new_device, view, with_view}
use Rattle.acc_clauses.specs.Devices.{DeviceContents, SharedContents, HaveRisen, state_beside, contents_with}
use Rattle.acc_clauses.proofs.Beside.{sound_beside}
use Rattle.acc_table.specs.Devices.{own, whole_with, IsDeviceOf, AreDevicesFrom}

-- ---- one of them

pub device_used : (n : ℕ) (xs : List DeviceContents) (y : DeviceContents) → n < length xs → y ≡ slice_index_or xs n y → device_at n (map own xs) ≡ y.device
device_used n xs y there is = get_or-map own xs n y new_device there ∙ ap own (sym is)

-- its view is its state beside what all share
pub view_used : (n : ℕ) (xs : List DeviceContents) (y : DeviceContents) (s : SharedContents) → n < length xs → y ≡ slice_index_or xs n y → view n (whole_with xs s) ≡ (contents_with y s).state
view_used n xs y s there is = ap (λ (x : OneDevice). state_beside x s.host s.numbers) (device_used n xs y there is)

-- ---- after a change

-- another in its place is that view of the whole put back
pub whole_put : (n : ℕ) (xs : List DeviceContents) (z : DeviceContents) (s t : SharedContents) → whole_with (slice_set xs n z) t ≡ with_view n (contents_with z t).state (whole_with xs s)
whole_put n xs z s t = ap (λ (ds : List OneDevice). let w : Whole = record { devices = ds; next = t.numbers.region; serial = t.numbers.serial; host = t.host } in w) (map-set own xs n z)

-- what a device has, put where it stands, changes nothing
pub set_own : (n : ℕ) (ds : List OneDevice) → slice_set ds n (device_at n ds) ≡ ds
set_own n [] = refl
set_own zero (x ∷ ds) = refl
set_own (suc n) (x ∷ ds) = ap (λ rest. x ∷ rest) (set_own n ds)

-- each is sound beside what all share later
pub devices_later : (l : Limits) (s t : SharedContents) (xs : List DeviceContents) → HaveRisen s t → AreDevicesFrom l s xs → AreDevicesFrom l t xs
devices_later l s t xs risen h = λ d x there. let old : IsDeviceOf l d s (slice_index_or xs d x) = h d x there in record { limits = old.limits; sound = sound_beside (slice_index_or xs d x) s t risen old.sound }

-- and so they are with another in the place of one
pub devices_put : (l : Limits) (s t : SharedContents) (xs : List DeviceContents) (n : ℕ) (z : DeviceContents) → HaveRisen s t → n < length xs → IsDeviceOf l n t z → AreDevicesFrom l s xs → AreDevicesFrom l t (slice_set xs n z)
devices_put l s t xs n z risen there is h = λ d x within. elim (cases_eq d n) [
  | inl same ↦ subst (λ k. IsDeviceOf l k t (slice_index_or (slice_set xs n z) k x)) (sym same) (subst (λ y. IsDeviceOf l n t y) (sym (get_or-set_same xs n z x there)) is)
  | inr other ↦ subst (λ y. IsDeviceOf l d t y) (sym (get_or-set_other xs n d z x other)) (devices_later l s t xs risen h d x (omega (arith, within, length-set xs n z)))
]

-- ---- copies

-- copies have the same, but for room
abbrev pub AreCopied : List DeviceContents → List DeviceContents → Type 0
AreCopied = AllZip (λ (x y : DeviceContents). (y.limits ≡ x.limits) × (y.device ≡ x.device))

pub copied_own : (xs ys : List DeviceContents) → AreCopied xs ys → map own ys ≡ map own xs
copied_own [] [] h = refl
copied_own (x ∷ xs) (y ∷ ys) h = let rest : map own ys ≡ map own xs = copied_own xs ys h.1 in rw (h.0.1, rest) refl
copied_own _ _ h = absurd h

pub copied_each : (P : ℕ → Limits → OneDevice → Type 0) (xs ys : List DeviceContents) → AreCopied xs ys → ((d : ℕ) (x : DeviceContents) → d < length xs → P d (slice_index_or xs d x).limits (slice_index_or xs d x).device) → (d : ℕ) (y : DeviceContents) → d < length ys → P d (slice_index_or ys d y).limits (slice_index_or ys d y).device
copied_each P [] [] h each d y there = absurd (omega (arith, there))
copied_each P (x ∷ xs) (y ∷ ys) h each zero z there = rw (h.0.0, h.0.1) (each zero x (omega arith))
copied_each P (x ∷ xs) (y ∷ ys) h each (suc d) z there = copied_each (λ k. P (suc k)) xs ys h.1 (λ k v within. each (suc k) v (omega (arith, within))) d z (omega (arith, there))
copied_each P _ _ h each d y there = absurd h

pub copied_count : (xs ys : List DeviceContents) → AreCopied xs ys → length ys ≡ length xs
copied_count xs ys h = sym (length-map ys own) ∙ (ap length (copied_own xs ys h) ∙ length-map xs own)
