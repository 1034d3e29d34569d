-- What each item of an event asked, in written order, told from the event alone. And the word of its clause.
use Rattle.std.specs.Prelude.{ℕ, Bool, false, List, [], map, codes, Option, Some, None}
use Rattle.acc_base.specs.Words.{Task, Event, Did, Item, RegionClause, ExitClause, UpdateClause}
use Rattle.acc_base.specs.declared.tasks.Task.TheVariants.{Enter, ExitRegion, ExitData, Move}
use Rattle.acc_base.specs.declared.events.Event.TheVariants.{Entered}
use Rattle.acc_base.specs.declared.items.RegionClause.TheVariants as region
use Rattle.acc_base.specs.declared.items.ExitClause.TheVariants as exit
use Rattle.acc_base.specs.declared.items.UpdateClause.TheVariants as update
use Rattle.acc_base.specs.Clauses.{is_attach, is_detach}
use Rattle.acc_base.specs.Register.{new_register}
use Rattle.acc_base.specs.Walk.{asked_in, holdings_of, block_counted, pointer_attached}

-- what the items asked that the event names; the register matters only to an exit from a region, which names none
abbrev pub tasks_named : Event → List Task
tasks_named e = asked_in e new_register

-- what the exit asks from the region that the event entered, of the first item first
abbrev pub tasks_undone : Event → List Task
tasks_undone (Entered device number items did) = map ExitRegion (holdings_of items did)
tasks_undone _ = []

-- what it asks of one item, which did this
abbrev pub undone_by : Option (Item RegionClause) → Option Did → Option Task
undone_by (Some item) (Some did) = Some (ExitRegion (record { item = item; block = block_counted did.step; aim = pointer_attached did.aim }))
undone_by _ _ = None

-- its clause is `attach` or `detach`, which names a pointer alone
abbrev pub names_pointer : Task → Bool
names_pointer (Enter counter item queue) = is_attach item.clause
names_pointer (ExitRegion holding) = is_attach holding.item.clause
names_pointer (ExitData finalize item queue) = is_detach item.clause
names_pointer (Move if_present item queue) = false

-- ---- words

abbrev pub region_word : RegionClause → List ℕ
region_word region.Copy = codes "copy"
region_word region.Copyin = codes "copyin"
region_word (region.Copyout zero) = codes "copyout"
region_word (region.Create zero) = codes "create"
region_word region.NoCreate = codes "no_create"
region_word region.Present = codes "present"
region_word region.Attach = codes "attach"

abbrev pub exit_word : ExitClause → List ℕ
exit_word exit.Delete = codes "delete"
exit_word exit.Copyout = codes "copyout"
exit_word exit.Detach = codes "detach"

abbrev pub update_word : UpdateClause → List ℕ
update_word update.ToSelf = codes "self"
update_word update.ToDevice = codes "device"

abbrev pub task_word : Task → List ℕ
task_word (Enter counter item queue) = region_word item.clause
task_word (ExitRegion holding) = region_word holding.item.clause
task_word (ExitData finalize item queue) = exit_word item.clause
task_word (Move if_present item queue) = update_word item.clause
