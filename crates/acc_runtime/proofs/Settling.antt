-- Where no region is open, no structured counter of any device counts.
use Rattle.std.proofs.Common.{ℕ, zero, suc, ◌≡◌, ◌≤◌, refl, sym, subst, Bool, true, false, List, [], ◌∷◌, length, arith}
use Rattle.std.specs.Prelude.{nat_le}
use Rattle.std.specs.List.{AllByRecursion}
use Rattle.std.proofs.lemmas.Bool.{leb-true, leb-false}
use Rattle.acc_base.specs.declared.mappings.Range.{Range}
use Rattle.acc_base.specs.Devices.{OneDevice, new_device, device_at, view, open_regions}
use Rattle.acc_base.specs.Calls.{World}
use Rattle.acc_table.specs.Laws.{IsLawful}
use Rattle.acc_table.proofs.Tallied.{none_open}

-- a number that is no device's has nothing
beyond : (d : ℕ) (devices : List OneDevice) → length devices ≤ d → device_at d devices ≡ new_device
beyond d [] h = refl
beyond zero (x ∷ devices) h = absurd (omega (arith, h))
beyond (suc d) (x ∷ devices) h = beyond d devices (omega (arith, h))

pub none_anywhere : (w : World) → IsLawful w → open_regions w.state ≡ 0 → (d : ℕ) → AllByRecursion (λ (r : Range). r.structured ≡ 0) (view d w.state).records.ranges
none_anywhere w lawful none d = by (nat_le w.limits.devices d) refl
  where
    by : (t : Bool) → nat_le w.limits.devices d ≡ t → AllByRecursion (λ (r : Range). r.structured ≡ 0) (view d w.state).records.ranges
    by true e =
        let all : length w.state.devices ≤ d = omega (arith, lawful.count, leb-true w.limits.devices d e) in
        subst (λ (x : OneDevice). AllByRecursion (λ (r : Range). r.structured ≡ 0) x.records.ranges) (sym (beyond d w.state.devices all)) tt
    by false e = none_open w d (lawful.devices d (leb-false w.limits.devices d e)) none
