-- Attaching and detaching a pointer leaves ranges, blocks, births and queues alone.
use Rattle.std.proofs.Common.{◌≡◌, refl, true}
use Rattle.acc_base.specs.Words.{Aim, Task, Step, Did}
use Rattle.acc_base.specs.declared.tasks.Task.TheVariants.{Enter}
use Rattle.acc_base.specs.declared.events.Step.TheVariants.{Dropped}
use Rattle.acc_base.specs.Records.{Records}
use Rattle.acc_base.specs.Steps.{records_after_birth, records_after_end, released, with_range_changed, act_row, act_step, records_aimed, act}

-- the same ranges, blocks, births and queues; attachment counters may differ
pub record IsSameMapping (v w : Records) : Type 0 where
  pub ranges : v.ranges ≡ w.ranges
  pub blocks : v.blocks ≡ w.blocks
  pub births : v.births ≡ w.births
  pub queues : v.queues ≡ w.queues

mapping-aimed : (task : Task) (step : Step) (aim : Aim) (w : Records) → IsSameMapping (act_step task step (records_aimed aim w)) (act_step task step w)
unfolding act_step act_row released with_range_changed records_after_birth records_after_end
mapping-aimed task (Dropped k true) aim w = record { ranges = refl; blocks = refl; births = refl; queues = refl }
mapping-aimed task _ aim w = record { ranges = refl; blocks = refl; births = refl; queues = refl }

-- what a task leaves of ranges, blocks, births and queues is what its step leaves
pub mapping-act : (task : Task) (did : Did) (w : Records) → IsSameMapping (act task did w) (act_step task did.step w)
unfolding act
mapping-act (Enter counter item queue) did w = record { ranges = refl; blocks = refl; births = refl; queues = refl }
mapping-act task did w = mapping-aimed task did.step did.aim w
