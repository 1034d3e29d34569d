-- An account of no event follows the devices of a new table.
use Rattle.std.proofs.Common.{◌≡◌, ℕ, zero, suc, true, false, List, [], get_or, replicate, Some, None, refl, sym, ap, subst, ◌∙◌}
use Rattle.acc_base.specs.declared.transfers.Transfer.{Transfer}
use Rattle.acc_base.specs.declared.transfers.TheConstants.{QUEUE_COUNT}
use Rattle.acc_base.specs.Records.{new_records}
use Rattle.acc_base.specs.Devices.{OneDevice, new_device, new_whole, device_at}
use Rattle.acc_stale.specs.declared.accounts.Account.{Account}
use Rattle.acc_stale.specs.Accounts.{waiting_in}
use Rattle.acc_stale.specs.Follows.{FollowsDevice, FollowsState, FollowsWhole}

none_at : (n q : ℕ) → get_or {A = List Transfer} (replicate n []) q [] ≡ []
none_at zero q = refl
none_at (suc n) zero = refl
none_at (suc n) (suc q) = none_at n q

new_follows : (d : ℕ) (a : Account) → a.waiting.items ≡ [] → FollowsDevice d a new_records
new_follows d a none = record {
  told = record { blocks = λ b some. absurd (let bad : false ≡ true = some in cc); ranges = λ b r is. absurd (let bad : None ≡ Some r = is in cc) };
  queues = λ q low. ap (waiting_in d q) none ∙ sym (none_at QUEUE_COUNT q);
}

device_new : (count d : ℕ) → device_at d (replicate count new_device) ≡ new_device
device_new zero d = refl
device_new (suc count) zero = refl
device_new (suc count) (suc d) = device_new count d

pub new_follows_whole : (count host : ℕ) (a : Account) → a.waiting.items ≡ [] → FollowsWhole a (new_whole count host)
new_follows_whole count host a none d =
    subst (λ (x : OneDevice). FollowsState d a (record { records = x.records; register = record { regions = x.regions; next = 1; serial = 1 }; host = replicate host 0; memories = x.memories }))
    (sym (device_new count d))
    (record { device = new_follows d a none; regions = λ number holdings is. absurd (let bad : None ≡ Some holdings = is in cc) })
