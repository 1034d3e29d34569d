-- The devices of a new table, one after the other.
use Rattle.std.proofs.Common.{ℕ, zero, suc, ◌≡◌, ◌+◌, ◌<◌, refl, sym, ◌∙◌, ap, List, [], ◌∷◌, ◌++◌, length, replicate, arith, length-append}
use Rattle.std.specs.Prelude.{map, slice_index_or}
use Rattle.acc_base.specs.Limits.{Limits, limits_on}
use Rattle.acc_base.specs.Devices.{new_device, new_whole}
use Rattle.acc_clauses.specs.Devices.{DeviceContents, contents_with, new_shared}
use Rattle.acc_clauses.specs.Stored.{AreContentsSound}
use Rattle.acc_table.specs.declared.devices.Devices.{Devices}
use Rattle.acc_table.specs.Devices.{own, whole_of, IsDeviceOf, AreSet, AreNewUpTo}

pub new_none : (l : Limits) → AreNewUpTo l 0 []
new_none l = record { count = refl; each = λ d x there. absurd (omega (arith, there)); new = λ d x there. absurd (omega (arith, there)) }

-- what holds of each place of a list, and of what is put behind it
place_more : (P : ℕ → DeviceContents → Type 0) (q : DeviceContents) (xs : List DeviceContents) → P (length xs) q → ((d : ℕ) (x : DeviceContents) → d < length xs → P d (slice_index_or xs d x)) → (d : ℕ) (x : DeviceContents) → d < length (xs ++ q ∷ []) → P d (slice_index_or (xs ++ q ∷ []) d x)
place_more P q [] last h zero x there = last
place_more P q [] last h (suc d) x there = absurd (omega (arith, there))
place_more P q (y ∷ xs) last h zero x there = h zero x (omega arith)
place_more P q (y ∷ xs) last h (suc d) x there = place_more (λ k z. P (suc k) z) q xs last (λ k z within. h (suc k) z (omega (arith, within))) d x (omega (arith, there))

-- one more
pub new_more : (l : Limits) (n : ℕ) (q : DeviceContents) (xs : List DeviceContents) → q.limits ≡ limits_on n l → q.device ≡ new_device → AreContentsSound (contents_with q (new_shared l.host)) → AreNewUpTo l n xs → AreNewUpTo l (n + 1) (xs ++ q ∷ [])
new_more l n q xs limits device sound h = record {
  count = omega (arith, length-append xs (q ∷ []), h.count);
  each = place_more (λ d x. IsDeviceOf l d (new_shared l.host) x) q xs (record { limits = limits ∙ ap (λ d. limits_on d l) (sym h.count); sound = sound }) h.each;
  new = place_more (λ d x. x.device ≡ new_device) q xs device h.new;
}

all_new : (xs : List DeviceContents) → ((d : ℕ) (x : DeviceContents) → d < length xs → (slice_index_or xs d x).device ≡ new_device) → map own xs ≡ replicate (length xs) new_device
all_new [] h = refl
all_new (x ∷ xs) h =
    let first : x.device ≡ new_device = h zero x (omega arith) in
    let others : map own xs ≡ replicate (length xs) new_device = all_new xs (λ d y there. h (suc d) y (omega (arith, there))) in
    rw (first, others) refl

-- all of them
pub new_set : (l : Limits) (x : Devices) → x.shared ≡ new_shared l.host → AreNewUpTo l l.devices x.each.items → AreSet l x
new_set l x shared h = record { count = h.count; each = rw shared h.each }

pub new_devices : (l : Limits) (x : Devices) → x.shared ≡ new_shared l.host → AreNewUpTo l l.devices x.each.items → whole_of x ≡ new_whole l.devices l.host
new_devices l x shared h =
    let devices : map own x.each.items ≡ replicate l.devices new_device = all_new x.each.items h.new ∙ ap (λ n. replicate n new_device) h.count in
    rw (shared, devices) refl
