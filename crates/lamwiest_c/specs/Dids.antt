-- What an item of the last event did, as C sees it.
use Rattle.std.specs.Prelude.{ℕ, ◌+◌, ◌-◌, Bool, false, if◌then◌else◌, List, [], ◌∷◌, length, Option, None, Some, is_some, option_map, option_and_then, unwrap_or}
use Rattle.std.specs.List.{slice_get}
use Rattle.acc_base.specs.declared.attachments.Aim.{Aim}
use Rattle.acc_base.specs.declared.attachments.Aim.TheVariants as aims
use Rattle.acc_base.specs.declared.events.Did.{Did}
use Rattle.acc_base.specs.declared.events.Event.{Event}
use Rattle.acc_base.specs.declared.events.Event.TheVariants.{Stepped}
use Rattle.acc_base.specs.declared.events.Step.{Step}
use Rattle.acc_base.specs.declared.events.Step.TheVariants.{Nothing, Counted, Born, Dropped, Moved}
use Rattle.acc_base.specs.declared.mappings.Counter.TheVariants.{Structured}
use Rattle.acc_base.specs.declared.tasks.Task.{Task}
use Rattle.acc_base.specs.declared.tasks.Task.TheVariants.{Enter}
use Rattle.acc_base.specs.Calls.{World}
use Rattle.acc_base.specs.Clauses.{copies_out}
use Rattle.acc_base.specs.Items.{tasks_named}
use Rattle.acc_base.specs.Devices.{view, device_in}
use Rattle.acc_base.specs.Pointers.{attachment_of}
use Rattle.acc_base.specs.Records.{Records}
use Rattle.acc_base.specs.Tasks.{section_of}
use Rattle.acc_base.specs.Transfers.{transfer_of, goes_out}
use Rattle.acc_base.specs.Walk as walks
use Rattle.lamwiest_c.specs.declared.dids.AimFields.{AimFields}
use Rattle.lamwiest_c.specs.declared.dids.CopyFields.{CopyFields}
use Rattle.lamwiest_c.specs.declared.dids.RawDid.{RawDid}
use Rattle.lamwiest_c.specs.declared.dids.StepFields.{StepFields}

-- ---- its step

abbrev pub step_fields : Step → StepFields
step_fields Nothing = record { step = 0; block = 0; place = 0 }
step_fields (Counted block) = record { step = 1; block = block; place = 0 }
step_fields (Born block place) = record { step = 2; block = block; place = place }
step_fields (Dropped block ended) = record { step = if ended then 4 else 3; block = block; place = 0 }
step_fields (Moved block) = record { step = 5; block = block; place = 0 }

-- ---- its copy, which is made at once or put into a queue

-- the exit from its region copies an item to the host that enters it, if it ends the mapping
abbrev pub comes_back : Task → Bool
comes_back (Enter Structured item queue) = copies_out item.clause
comes_back _ = false

-- its step has a transfer, whatever the ranges
abbrev pub is_copied : Task → Step → Bool
is_copied task step = is_some (transfer_of task step [])

-- 1 to the device, 2 to the host
abbrev pub way_of : Task → Step → ℕ
way_of task step = if is_copied task step then (if goes_out task then 2 else 1) else 0

-- the copy of what an item asked; what exits from a region, and the step of a queue, name none
abbrev pub copy_of : Option Task → Step → CopyFields
copy_of None step = record { way = 0; back = 0; len = 0 }
copy_of (Some task) step = record { way = way_of task step; back = if comes_back task then 1 else 0; len = if is_copied task step then (section_of task).len else 0 }

-- ---- its pointer

abbrev pub aim_fields : Aim → AimFields
aim_fields aims.None = record { aim = 0; pointer = 0; holder = 0; target = 0 }
aim_fields (aims.New pointer block target) = record { aim = 1; pointer = pointer; holder = block; target = target }
aim_fields (aims.Again pointer block) = record { aim = 2; pointer = pointer; holder = block; target = 0 }
aim_fields (aims.Less pointer block) = record { aim = 3; pointer = pointer; holder = block; target = 0 }
aim_fields (aims.Cleared pointer block) = record { aim = 4; pointer = pointer; holder = block; target = 0 }

-- how often it is attached in these records, where the item did something to it
abbrev pub times_of : Aim → Records → ℕ
times_of aims.None w = 0
times_of (aims.New pointer block target) w = attachment_of pointer w
times_of (aims.Again pointer block) w = attachment_of pointer w
times_of (aims.Less pointer block) w = attachment_of pointer w
times_of (aims.Cleared pointer block) w = attachment_of pointer w

-- ---- all of it

abbrev pub raw_did : Did → CopyFields → ℕ → RawDid
raw_did did copy times =
    let s : StepFields = step_fields did.step in
    let a : AimFields = aim_fields did.aim in
    record {
      step = s.step;
      aim = a.aim;
      way = copy.way;
      back = copy.back;
      len = copy.len;
      block = s.block;
      place = s.place;
      pointer = a.pointer;
      holder = a.holder;
      target = a.target;
      times = times;
    }

-- what each item of an event did, in written order; the step of a queue is one item, which moved bytes
abbrev pub dids_in : Event → List Did
dids_in (Stepped device queue block) = record { step = Moved block; aim = aims.None } ∷ []
dids_in e = walks.did_in e

-- what the item of a place did in an event, behind which there are these records
abbrev pub did_in : ℕ → Event → Records → Option RawDid
did_in place e w = option_map (λ d. raw_did d (copy_of (slice_get (tasks_named e) place) d.step) (times_of d.aim w)) (slice_get (dids_in e) place)

-- what it did in the last event
abbrev pub did_at : ℕ → World → Option RawDid
did_at place w = option_and_then (λ e. did_in place e (view (device_in e) w.state).records) (slice_get w.history.trace (length w.history.trace - 1))

-- an array from a place on, with what the items did written over what stood there
abbrev pub told_over : (ℕ → Option RawDid) → ℕ → List RawDid → List RawDid
told_over told place [] = []
told_over told place (old ∷ olds) = unwrap_or (told place) old ∷ told_over told (place + 1) olds
