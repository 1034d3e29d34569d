-- The clause tables: which clause is which row, and what a row does by where its section lies (OpenACC 3.3, section
-- 2.7).
use Rattle.std.specs.Prelude.{ℕ, ◌+◌, ◌%◌, Bool, true, false, not, ◌&&◌, if◌then◌else◌, nat_le, ◌==◌, Option, Some, None, Result, Ok, Err, ⊤}
use Rattle.acc_base.specs.Words.{Section, RegionClause, EnterClause, ExitClause, UpdateClause, Counter, Range, Found, Step, Fault}
use Rattle.acc_base.specs.declared.items.RegionClause.TheVariants as region
use Rattle.acc_base.specs.declared.items.EnterClause.TheVariants as enter
use Rattle.acc_base.specs.declared.items.ExitClause.TheVariants as exit
use Rattle.acc_base.specs.declared.items.UpdateClause.TheVariants as update
use Rattle.acc_base.specs.declared.mappings.Found.TheVariants.{Empty, Inside, Partly, Absent}
use Rattle.acc_base.specs.declared.events.Step.TheVariants.{Nothing, Counted, Born, Dropped, Moved}
use Rattle.acc_base.specs.declared.faults.Fault.TheVariants.{OutOfHost, Misaligned, PartlyPresent, NotPresent, CounterFull, DeviceFull}
use Rattle.acc_base.specs.Results.{◌>>◌, refuse_if}
use Rattle.acc_base.specs.Limits.{Limits}
use Rattle.acc_base.specs.Section.{is_empty, is_within, host_memory, device_memory}
use Rattle.acc_base.specs.Ranges.{counter_of, dynamic_of, ends_by}
use Rattle.acc_base.specs.Blocks.{rounded, place_for}
use Rattle.acc_base.specs.Attachments.{pointer_at}
use Rattle.acc_base.specs.Records.{Records}

-- ---- which bytes a clause moves, and what fills a new block

-- a clause of `enter data` is the row of this clause of a region
abbrev pub as_region : EnterClause → RegionClause
as_region enter.Copyin = region.Copyin
as_region (enter.Create zeroed) = region.Create zeroed
as_region enter.Attach = region.Attach

-- a new block gets the bytes of the section
abbrev pub copies_in : RegionClause → Bool
copies_in region.Copy = true
copies_in region.Copyin = true
copies_in _ = false

-- just before the mapping ends, host memory gets the bytes of the section
abbrev pub copies_out : RegionClause → Bool
copies_out region.Copy = true
copies_out (region.Copyout zeroed) = true
copies_out _ = false

-- the same of a clause of `exit data`
abbrev pub is_copyout : ExitClause → Bool
is_copyout exit.Copyout = true
is_copyout _ = false

-- an `update` copies to host memory, and not to the device
abbrev pub is_to_self : UpdateClause → Bool
is_to_self update.ToSelf = true
is_to_self update.ToDevice = false

-- the modifier `zero` of a clause
abbrev pub is_zeroed : RegionClause → Bool
is_zeroed (region.Copyout zeroed) = zeroed
is_zeroed (region.Create zeroed) = zeroed
is_zeroed _ = false

-- ---- what an item names: `attach` and `detach` name a pointer by the start of their section, and no section

abbrev pub is_attach : RegionClause → Bool
is_attach region.Attach = true
is_attach _ = false

abbrev pub is_detach : ExitClause → Bool
is_detach exit.Detach = true
is_detach _ = false

-- the section that an item names, where its clause names a pointer alone or not
abbrev pub section_named : Bool → Section → Section
section_named alone section = if alone then record { start = section.start; len = 0 } else section

-- the pointer that it names; with an empty section it names none
abbrev pub pointer_named : Bool → Section → Option ℕ → Option ℕ
pointer_named alone section pointer = if alone then Some section.start else (if is_empty section then None else pointer)

-- ---- what is refused before the tables are asked

-- a section that is not empty lies in host memory; nothing of an empty one is checked
abbrev pub in_host : Limits → ℕ → Section → Result ⊤ Fault
in_host l n section = refuse_if (not (is_empty section) && not (is_within section (host_memory l.host))) (OutOfHost n)

-- the eight bytes of an item's pointer, if it names one, lie in host memory, from a multiple of eight on
abbrev pub pointer_checked : Limits → ℕ → Option ℕ → Result ⊤ Fault
pointer_checked l n None = Ok tt
pointer_checked l n (Some pointer) = refuse_if (not (is_within (pointer_at pointer) (host_memory l.host))) (OutOfHost n) >> refuse_if (not (pointer % 8 == 0)) (Misaligned n)

-- ---- entry to a region, on the structured counter, and `enter data`, on the dynamic one

-- the section is mapped to a new block, where the device has a place for it
abbrev pub born_at : Option ℕ → ℕ → Section → Records → Result Step Fault
born_at None n section w = Err (DeviceFull n (rounded section.len))
born_at (Some place) n section w = Ok (Born (w.births + 1) place)

-- a birth at the least place that fits
abbrev pub born : Limits → ℕ → Section → Records → Result Step Fault
born l n section w = born_at (place_for (device_memory l) w.blocks (rounded section.len)) n section w

-- the row of an absent section
abbrev pub enter_absent : RegionClause → Limits → ℕ → Section → Records → Result Step Fault
enter_absent region.Copy l n section w = born l n section w
enter_absent region.Copyin l n section w = born l n section w
enter_absent (region.Copyout zeroed) l n section w = born l n section w
enter_absent (region.Create zeroed) l n section w = born l n section w
enter_absent region.NoCreate l n section w = Ok Nothing
enter_absent region.Present l n section w = Err (NotPresent n)
enter_absent region.Attach l n section w = Ok Nothing

-- the counter of a mapped range rises, below its limit
abbrev pub counted : Limits → Counter → ℕ → ℕ → Records → Result Step Fault
counted l counter n block w = refuse_if (nat_le l.counter_max (counter_of counter block w.ranges)) (CounterFull n) >> Ok (Counted block)

abbrev pub enter_row : Found → Limits → Counter → RegionClause → ℕ → Section → Records → Result Step Fault
enter_row Empty l counter clause n section w = Ok Nothing
enter_row (Inside block offset) l counter clause n section w = counted l counter n block w
enter_row Absent l counter clause n section w = enter_absent clause l n section w
enter_row Partly l counter clause n section w = Err (PartlyPresent n)

-- ---- exit from a region: what the item's own entry counted is undone, and nothing else

abbrev pub leave_row : Option ℕ → (Range → Range) → Records → Result Step Fault
leave_row None change w = Ok Nothing
leave_row (Some block) change w = Ok (Dropped block (ends_by change block w.ranges))

-- ---- `exit data`

abbrev pub exit_row : Found → (Range → Range) → ℕ → Records → Result Step Fault
exit_row Empty change n w = Ok Nothing
exit_row (Inside block offset) change n w = if dynamic_of block w.ranges == 0 then Ok Nothing else Ok (Dropped block (ends_by change block w.ranges))
exit_row Absent change n w = Ok Nothing
exit_row Partly change n w = Err (PartlyPresent n)

-- ---- `update`; with `if_present` it passes over what is absent, and not over what is partly present

abbrev pub move_row : Found → Bool → ℕ → Result Step Fault
move_row Empty if_present n = Ok Nothing
move_row (Inside block offset) if_present n = Ok (Moved block)
move_row Absent if_present n = if if_present then Ok Nothing else Err (NotPresent n)
move_row Partly if_present n = Err (PartlyPresent n)
