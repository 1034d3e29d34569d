-- The devices of a table by their numbers, one after the other, in the report.
use Rattle.std.proofs.Common.{◌≡◌, ℕ, suc, ◌+◌, ◌≤◌, ◌<◌, List, [], ◌++◌, length, drop, refl, ap, ◌∙◌, arith}
use Rattle.std.proofs.lemmas.List.{drop_more}
use Rattle.std.proofs.Math.ListN.{drop_of_length-le}
use Rattle.acc_base.specs.Devices.{OneDevice, new_device, device_at}
use Rattle.acc_script.specs.Texts.{one_text, each_text}

-- the devices from one on are that one, and those behind it
pub devices_turn : (d : ℕ) (devices : List OneDevice) → d < length devices
    → each_text d (drop d devices) ≡ one_text d (device_at d devices) ++ each_text (d + 1) (drop (d + 1) devices)
devices_turn d devices lt = let k : suc d ≡ d + 1 = omega arith in ap (each_text d) (drop_more devices d new_device lt) ∙ rw k refl

-- no device is left
pub no_device_left : (d : ℕ) (devices : List OneDevice) → length devices ≤ d → each_text d (drop d devices) ≡ []
no_device_left d devices le = ap (each_text d) (drop_of_length-le devices le)
