use Rattle.std.proofs.Common.{ℕ, ◌≡◌, ◌∙◌, refl}
use Rattle.acc_base.specs.Limits.{Limits, limits_on}
use Rattle.acc_base.specs.Devices.{OneDevice}
use Rattle.acc_clauses.specs.Contents.{Room}
use Rattle.acc_clauses.specs.Devices.{DeviceContents, SharedContents, contents_with}
use Rattle.acc_clauses.specs.Stored.{AreContentsSound}
use Rattle.acc_table.specs.Devices.{IsDeviceOf}
use Rattle.acc_table.proofs.DeviceLists.{AreCopied, copied_own, copied_each, copied_count}
use Rattle.acc_table.proofs.copying.DevicesClone.clone.Goals as goal

-- the device of this number, whatever room it has
abbrev IsDeviceWith : Limits → SharedContents → ℕ → Limits → OneDevice → Type 0
IsDeviceWith l s d m x = (m ≡ limits_on d l) × ((room : Room) → AreContentsSound (contents_with (record { limits = m; device = x; room = room }) s))

with_room : (l : Limits) (s : SharedContents) (d : ℕ) (x : DeviceContents) → IsDeviceOf l d s x → IsDeviceWith l s d x.limits x.device
with_room l s d x h = (h.limits, λ room. record { sound = h.sound.sound; few = h.sound.few; holdings = h.sound.holdings })

-- what the devices have, and what they share, is the same
pub returns : goal.returns
returns c =
    let xs = c.args.self.now.each.items in
    let ys = c.in_ok-clone-2.field-0.items in
    let shared : c.in_ok-clone.field-0 ≡ c.args.self.now.shared = c.in_ok-clone.ensures.cases in
    let each : AreCopied xs ys = c.in_ok-clone-2.ensures.cases.0 in
    record {
      cases = (
        rw (shared, copied_own xs ys each) refl,
        λ l set. record {
          count = copied_count xs ys each ∙ set.count;
          each = rw shared (λ d y there.
              let is = copied_each (IsDeviceWith l c.args.self.now.shared) xs ys each (λ k x within. with_room l c.args.self.now.shared k _ (set.each k x within)) d y there in
              record { limits = is.0; sound = is.1 _ });
        },
      );
    }
