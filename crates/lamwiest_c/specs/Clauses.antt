-- What the numbers in the arrays of C stand for.
use Rattle.std.specs.Prelude.{ℕ, ◌≡◌, ◌<◌, ◌⊎◌, ◌+◌, Bool, false, true, not, ◌==◌, if◌then◌else◌, List, [], ◌∷◌, length, Option, Some, None, Result, Ok, Err}
use Rattle.acc_base.specs.declared.faults.Fault.TheVariants.{Memory}
use Rattle.acc_base.specs.declared.items.EnterClause.{EnterClause}
use Rattle.acc_base.specs.declared.items.ExitClause.{ExitClause}
use Rattle.acc_base.specs.declared.items.RegionClause.{RegionClause}
use Rattle.acc_base.specs.declared.items.UpdateClause.{UpdateClause}
use Rattle.acc_base.specs.declared.items.Item.{Item}
use Rattle.acc_base.specs.declared.directives.Directive.{Directive}
use Rattle.acc_base.specs.declared.items.EnterClause.TheVariants as enters
use Rattle.acc_base.specs.declared.items.ExitClause.TheVariants as exits
use Rattle.acc_base.specs.declared.items.RegionClause.TheVariants as regions
use Rattle.acc_base.specs.declared.items.UpdateClause.TheVariants as updates
use Rattle.acc_base.specs.declared.directives.Directive.TheVariants.{Enter, EnterData, ExitData, Update}
use Rattle.lamwiest_c.specs.declared.items.RawItem.{RawItem}
use Rattle.lamwiest_c.specs.declared.items.TheConstants.{COPY, COPYIN, COPYOUT, COPYOUT_ZERO, CREATE, CREATE_ZERO, NO_CREATE, PRESENT, ATTACH, DELETE, DETACH, SELF, DEVICE, NO_QUEUE_GIVEN, ASYNC_SYNC, ASYNC_NOVAL, DEFAULT_QUEUE}
use Rattle.lamwiest_c.specs.declared.statuses.Refusal.{Refusal}
use Rattle.lamwiest_c.specs.declared.statuses.Refusal.TheVariants.{BadClause, OfTable}

-- ---- the clauses of each directive by number

abbrev pub region_clause : ℕ → Option RegionClause
region_clause n =
    if n == COPY then Some regions.Copy else
    if n == COPYIN then Some regions.Copyin else
    if n == COPYOUT then Some (regions.Copyout false) else
    if n == COPYOUT_ZERO then Some (regions.Copyout true) else
    if n == CREATE then Some (regions.Create false) else
    if n == CREATE_ZERO then Some (regions.Create true) else
    if n == NO_CREATE then Some regions.NoCreate else
    if n == PRESENT then Some regions.Present else
    if n == ATTACH then Some regions.Attach else None

abbrev pub enter_clause : ℕ → Option EnterClause
enter_clause n =
    if n == COPYIN then Some enters.Copyin else
    if n == CREATE then Some (enters.Create false) else
    if n == CREATE_ZERO then Some (enters.Create true) else
    if n == ATTACH then Some enters.Attach else None

abbrev pub exit_clause : ℕ → Option ExitClause
exit_clause n =
    if n == DELETE then Some exits.Delete else
    if n == COPYOUT then Some exits.Copyout else
    if n == DETACH then Some exits.Detach else None

abbrev pub update_clause : ℕ → Option UpdateClause
update_clause n =
    if n == SELF then Some updates.ToSelf else
    if n == DEVICE then Some updates.ToDevice else None

-- ---- items and queues

-- the pointer of an item; 0 stands for none
abbrev pub pointer_of : ℕ → Option ℕ
pointer_of pointer = if pointer == 0 then None else Some pointer

-- the queue of a directive by the number of its `async`, if it has one
abbrev pub queue_asked : ℕ → Option ℕ
queue_asked number = if number == ASYNC_SYNC then None else if number == ASYNC_NOVAL then Some DEFAULT_QUEUE else Some number

-- the queue of a wait; the last number stands for all
abbrev pub queue_of : ℕ → Option ℕ
queue_of queue = if queue == NO_QUEUE_GIVEN then None else Some queue

-- whether a clause without arguments is given: any number but 0 gives it
abbrev pub is_given : ℕ → Bool
is_given clause = not (clause == 0)

-- an item under its clause
abbrev pub item_of : {C : Type 0} → C → RawItem → Item C
item_of clause item = record { clause = clause; section = record { start = item.start; len = item.len }; pointer = pointer_of item.pointer }

-- an item before others, if its number is that of a clause; where it is not, the refusal has its place
abbrev pub item_then : {C : Type 0} → Option C → ℕ → RawItem → Result (List (Item C)) Refusal → Result (List (Item C)) Refusal
item_then None place item others = Err (BadClause place)
item_then (Some clause) place item (Err refusal) = Err refusal
item_then (Some clause) place item (Ok items) = Ok (item_of clause item ∷ items)

-- the items of an array from a place on, or the place of the first whose number is that of no clause
abbrev pub items_from : {C : Type 0} → (ℕ → Option C) → ℕ → List RawItem → Result (List (Item C)) Refusal
items_from numbered place [] = Ok []
items_from numbered place (item ∷ items) = item_then (numbered item.clause) place item (items_from numbered (place + 1) items)

-- they were read so; where none is refused, memory may be lacking for a list of more than one
abbrev pub IsRead : {C : Type 0} → Result (List (Item C)) Refusal → Result (List (Item C)) Refusal → Type 0
IsRead (Err refusal) result = result ≡ Err refusal
IsRead (Ok items) result = (result ≡ Ok items) ⊎ ((result ≡ Err (OfTable Memory)) × (1 < length items))

-- ---- the directives of arrays, each on a device

-- a directive with some items, where these were read
abbrev pub asked_with : {A : Type 0} → (A → Directive) → Result A Refusal → Result Directive Refusal
asked_with f (Ok items) = Ok (f items)
asked_with f (Err refusal) = Err refusal

abbrev pub enter_of : ℕ → List RawItem → Result Directive Refusal
enter_of device items = asked_with (Enter device) (items_from region_clause 0 items)

abbrev pub enter_data_of : ℕ → List RawItem → Option ℕ → Result Directive Refusal
enter_data_of device items queue = asked_with (λ read. EnterData device read queue) (items_from enter_clause 0 items)

abbrev pub exit_data_of : ℕ → List RawItem → Bool → Option ℕ → Result Directive Refusal
exit_data_of device items finalize queue = asked_with (λ read. ExitData device read finalize queue) (items_from exit_clause 0 items)

abbrev pub update_of : ℕ → List RawItem → Bool → Option ℕ → Result Directive Refusal
update_of device items if_present queue = asked_with (λ read. Update device read if_present queue) (items_from update_clause 0 items)
