-- What an event asked and did, and what it leaves of the records and the register. It reads the event alone, and no
-- bytes.
use Rattle.std.specs.Prelude.{ℕ, ◌-◌, Bool, List, [], ◌∷◌, map, reverse, Option, Some, None, unwrap_or}
use Rattle.acc_base.specs.Words.{Section, Item, RegionClause, EnterClause, ExitClause, UpdateClause, Transfer, Loan, Range, Holding, Task, Aim, Step}
use Rattle.acc_base.specs.Words.{Did, Event}
use Rattle.acc_base.specs.declared.mappings.Counter.TheVariants.{Structured, Dynamic}
use Rattle.acc_base.specs.declared.tasks.Task.TheVariants.{Enter, ExitRegion, ExitData, Move}
use Rattle.acc_base.specs.declared.attachments.Aim.TheVariants as aims
use Rattle.acc_base.specs.declared.events.Step.TheVariants.{Counted, Born}
use Rattle.acc_base.specs.declared.events.Event.TheVariants.{Entered, Left, EnteredData, ExitedData, Updated, Waited, Stepped, Lent, Gathered}
use Rattle.acc_base.specs.Records.{Records, Layout}
use Rattle.acc_base.specs.Register.{Register, holdings_at, opened, closed, numbered}
use Rattle.acc_base.specs.Ranges.{start_of}
use Rattle.acc_base.specs.Loans.{with_loan, without_loan}
use Rattle.acc_base.specs.Clauses.{as_region}
use Rattle.acc_base.specs.Steps.{act_all}
use Rattle.acc_base.specs.Waits.{records_drained, steps_of}

-- ---- what an event asked, in the order in which it acted

-- an item of a region's entry
abbrev pub enter_task : Item RegionClause → Task
enter_task item = Enter Structured item None

-- an item of `enter data`
abbrev pub enter_data_task : Option ℕ → Item EnterClause → Task
enter_data_task queue item = Enter Dynamic (record { clause = as_region item.clause; section = item.section; pointer = item.pointer }) queue

-- an item of `exit data`
abbrev pub exit_task : Bool → Option ℕ → Item ExitClause → Task
exit_task finalize queue item = ExitData finalize item queue

-- an item of `update`
abbrev pub move_task : Bool → Option ℕ → Item UpdateClause → Task
move_task if_present queue item = Move if_present item queue

-- what a region holds is undone from the last item to the first
abbrev pub leave_tasks : List Holding → List Task
leave_tasks holdings = map ExitRegion (reverse holdings)

abbrev pub asked_in : Event → Register → List Task
asked_in (Entered device number items did) g = map enter_task items
asked_in (Left device number did) g = leave_tasks (unwrap_or (holdings_at number g.regions) [])
asked_in (EnteredData device items queue did) g = map (enter_data_task queue) items
asked_in (ExitedData device items finalize queue did) g = map (exit_task finalize queue) items
asked_in (Updated device items if_present queue did) g = map (move_task if_present queue) items
asked_in _ g = []

-- what each item of an event did, in written order
abbrev pub did_in : Event → List Did
did_in (Entered device number items did) = did
did_in (Left device number did) = did
did_in (EnteredData device items queue did) = did
did_in (ExitedData device items finalize queue did) = did
did_in (Updated device items if_present queue did) = did
did_in _ = []

-- and in the order in which it acted
abbrev pub done_in : Event → List Did
done_in (Left device number did) = reverse did
done_in e = did_in e

-- the queues whose first transfers it made, in that order
abbrev pub stepped_in : Event → List (List Transfer) → List ℕ
stepped_in (Waited device queue count) queues = steps_of queue queues
stepped_in (Stepped device queue block) queues = queue ∷ []
stepped_in _ queues = []

-- ---- what it leaves of the register

-- the block that a step counted
abbrev pub block_counted : Step → Option ℕ
block_counted (Counted block) = Some block
block_counted (Born block place) = Some block
block_counted _ = None

-- the pointer that was attached, and the block that holds it
abbrev pub pointer_attached : Aim → Option (ℕ × ℕ)
pointer_attached (aims.New pointer block target) = Some (pointer, block)
pointer_attached (aims.Again pointer block) = Some (pointer, block)
pointer_attached _ = None

-- what each item of an entry holds
abbrev pub holdings_of : List (Item RegionClause) → List Did → List Holding
holdings_of (item ∷ items) (did ∷ dids) = record { item = item; block = block_counted did.step; aim = pointer_attached did.aim } ∷ holdings_of items dids
holdings_of _ _ = []

-- entry to a region, exit from one and a loan alone change the register; a region has the number of its event
abbrev pub register_after : Event → Register → Register
register_after (Entered device number items did) g = opened number (holdings_of items did) g
register_after (Left device number did) g = closed number g
register_after (Lent device region section block serial) g = numbered g
register_after _ g = g

-- ---- what it leaves of the loans

-- the loan of a section of a block
abbrev pub loan_at : ℕ → ℕ → Section → List Range → Loan
loan_at serial block section ranges = record { serial = serial; block = block; offset = section.start - start_of block ranges; len = section.len }

unfoldable pub loaned : Event → Records → Records
loaned (Lent device region section block serial) w = record w { loans = with_loan (loan_at serial block section w.ranges) w.loans }
loaned (Gathered device serial block bytes) w = record w { loans = without_loan block w.loans }
loaned _ w = w

-- ---- the layout after an event

unfoldable pub walk : Event → Layout → Layout
walk e lay = record {
  records = loaned e (records_drained (stepped_in e lay.records.queues) (act_all (asked_in e lay.register) (done_in e) lay.records));
  register = register_after e lay.register;
}
