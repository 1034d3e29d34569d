-- What is the same but for room is as sound.
use Rattle.std.proofs.Common.{ℕ, ◌≡◌, ◌∙◌, sym, ap, subst, List, length, replicate}
use Rattle.std.specs.List.{AllByRecursion}
use Rattle.acc_base.specs.Limits.{Limits}
use Rattle.acc_base.specs.Devices.{OneDevice}
use Rattle.acc_dev.specs.Marks.{Mark}
use Rattle.acc_present.specs.Present.{PresentTable}
use Rattle.acc_clauses.specs.declared.environments.Environment.{Environment}
use Rattle.acc_clauses.specs.Contents.{IsStateSound, IsMarkRight, bare_numbers}
use Rattle.acc_clauses.specs.Devices.{device_of, state_beside, IsSameEnvironment, IsDeviceSound}

pub same_device_of : (x y : Environment) → IsSameEnvironment x y → device_of y ≡ device_of x
same_device_of x y h = λ i. record {
  records = record { ranges = (h.table i).ranges; blocks = h.device.blocks i; attached = h.attached i; births = h.device.births i; queues = h.queues i; loans = h.device.loans i };
  regions = (h.table i).regions;
  memories = h.device.memories i;
}

pub same_device_sound : (l : Limits) (x y : Environment) (lent : ℕ) → IsSameEnvironment x y → IsDeviceSound l x lent → IsDeviceSound l y lent
same_device_sound l x y lent h s =
    let same : device_of y ≡ device_of x = same_device_of x y h in
    record {
      bounds = s.bounds;
      sized = record { counters = ap (λ (t : PresentTable). t.counter_max) h.table ∙ s.sized.counters; device = h.device.memory ∙ s.sized.device; pointers = h.counter_max ∙ s.sized.pointers; queues = h.cap ∙ s.sized.queues };
      sound = subst (λ (d : OneDevice). IsStateSound l (state_beside d (replicate l.host 0) bare_numbers)) (sym same) s.sound;
      marked = subst (λ (marks : List Mark). AllByRecursion (IsMarkRight y.present.table.ranges y.queues.queues) marks) (sym h.device.marks)
          (subst (λ (d : OneDevice). AllByRecursion (IsMarkRight d.records.ranges d.records.queues) x.device.marks) (sym same) s.marked);
      lent = s.lent ∙ ap (λ (d : OneDevice). length d.records.loans) (sym same);
    }
