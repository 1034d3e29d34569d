-- What one device has keeps its soundness beside other bytes of host memory, and beside greater numbers of the next
-- region and the next loan.
use Rattle.std.proofs.Common.{ℕ, ◌≡◌, ◌∙◌, ◌<◌, List, length, replicate, arith}
use Rattle.std.proofs.lemmas.List.{length-replicate}
use Rattle.acc_base.proofs.Elements.{AllByRecursion-weaker}
use Rattle.acc_base.specs.Limits.{Limits}
use Rattle.acc_base.specs.Register.{Region}
use Rattle.acc_clauses.specs.declared.environments.Environment.{Environment}
use Rattle.acc_clauses.specs.Contents.{beside, AreSizedBy, ArePartsSound}
use Rattle.acc_clauses.specs.Devices.{DeviceContents, SharedContents, HaveRisen, contents_with, IsDeviceSound}
use Rattle.acc_clauses.specs.Stored.{AreContentsSound}

sized_beside : (l : Limits) (x : Environment) (host other : List ℕ) → AreSizedBy l (beside x host) → AreSizedBy l (beside x other)
sized_beside l x host other h = record { counters = h.counters; device = h.device; pointers = h.pointers; queues = h.queues }

parts_beside : (l : Limits) (x : Environment) (lent : ℕ) (host other : List ℕ) → length other ≡ l.host → ArePartsSound l (beside x host) lent → ArePartsSound l (beside x other) lent
parts_beside l x lent host other long h = record {
  bounds = h.bounds;
  sized = sized_beside l x host other h.sized;
  sound = record { records = h.sound.records; memories = record { host = long; blocks = h.sound.memories.blocks } };
  marked = h.marked;
  lent = h.lent;
}

-- a device fits host memory of the size
pub parts_of : (l : Limits) (x : Environment) (lent : ℕ) (host : List ℕ) → length host ≡ l.host → IsDeviceSound l x lent → ArePartsSound l (beside x host) lent
parts_of l x lent host long h = parts_beside l x lent (replicate l.host 0) host long h

-- and what fits some host memory is sound alone
pub device_sound : (l : Limits) (x : Environment) (lent : ℕ) (host : List ℕ) → ArePartsSound l (beside x host) lent → IsDeviceSound l x lent
device_sound l x lent host h = parts_beside l x lent host (replicate l.host 0) (length-replicate l.host 0) h

-- the contents of a device are sound beside what all devices share later
pub sound_beside : (x : DeviceContents) (s t : SharedContents) → HaveRisen s t → AreContentsSound (contents_with x s) → AreContentsSound (contents_with x t)
sound_beside x s t risen h =
    let g = h.sound.layout.register in
    record {
      sound = record {
        layout = record {
          records = h.sound.layout.records;
          register = record { first = omega (arith, g.first, risen.region); rising = g.rising; known = AllByRecursion-weaker (λ (r : Region). r.number < s.numbers.region) (λ (r : Region). r.number < t.numbers.region) x.device.regions (λ r less. omega (arith, less, risen.region)) g.known; few = g.few };
          held = h.sound.layout.held;
        };
        bytes_accounted = h.sound.bytes_accounted;
        memories_sized = record { host = risen.host ∙ h.sound.memories_sized.host; blocks = h.sound.memories_sized.blocks };
      };
      few = omega (arith, h.few, risen.serial);
      holdings = h.holdings;
    }
