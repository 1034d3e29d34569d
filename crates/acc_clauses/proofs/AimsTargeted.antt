-- What is read of blocks and pointers before entries gives what they are after them.
use Rattle.std.proofs.lemmas.Bool.Decides.{nat_tests}
use Rattle.std.proofs.Common.{ℕ, ◌≡◌, ◌+◌, ◌<◌, ◌^◌, true, List, Some, arith}
use Rattle.std.specs.Prelude.{◌%◌}
use Rattle.std.specs.List.{list_all}
use Rattle.acc_base.specs.declared.mappings.Found.TheVariants.{Inside}
use Rattle.acc_base.specs.Limits.{Limits}
use Rattle.acc_base.specs.Section.{only}
use Rattle.acc_base.specs.Records.{Records, State}
use Rattle.acc_base.specs.Ranges.{where_is}
use Rattle.acc_base.specs.Blocks.{place_of}
use Rattle.acc_base.specs.Attachments.{count_at}
use Rattle.acc_base.specs.Detaching.{block_with}
use Rattle.acc_base.specs.Pointers.{device_pointer}
use Rattle.acc_base.specs.Accounts.{AreMemoriesSized}
use Rattle.acc_base.proofs.AllTasks.{all_left}
use Rattle.acc_clauses.specs.declared.acted.Acted.{Acted}
use Rattle.acc_clauses.specs.Overlays.{tasks_in, dids_in, records_after, state_after, enters, IsPlanned}
use Rattle.acc_clauses.specs.Aims.{place_over, value_over}
use Rattle.acc_clauses.proofs.AimsPlaced.{block_place-planned}
use Rattle.acc_clauses.proofs.AimsFound.{address_bound}
use Rattle.acc_clauses.proofs.AimsValued.{value-planned}

-- the place of a block
pub place_read : (l : Limits) (xs acts : List Acted) (w : Records) (block place result : ℕ) → IsPlanned l xs w → list_all enters (tasks_in xs) ≡ true → acts ≡ xs → place ≡ place_of block w.blocks → result ≡ place_over block place acts
    → result ≡ place_of block (records_after xs w).blocks
place_read l xs acts w block place result p entries same read e = grind (arith, nat_tests, block_place-planned)

-- and an address in it
pub sum_bound : (l : Limits) (xs : List Acted) (w : Records) (address block offset : ℕ) → IsPlanned l xs w → where_is (only address) (records_after xs w).ranges ≡ Inside block offset
    → place_of block (records_after xs w).blocks + offset < 2 ^ 42
sum_bound l xs w address block offset p inside = address_bound l (records_after xs w) (only address) block offset p.bounds (all_left l 0 (tasks_in xs) (dids_in xs) w p.bounds p.sound p.judged).sound inside

-- what an attached pointer holds
pub value_read : (l : Limits) (block pointer value result : ℕ) (xs acts : List Acted) (s : State) → IsPlanned l xs s.records → AreMemoriesSized l s → list_all enters (tasks_in xs) ≡ true → pointer % 8 ≡ 0
    → block_with pointer (records_after xs s.records).ranges ≡ Some block → (block_with pointer s.records.ranges ≡ Some block → value ≡ device_pointer block pointer s)
    → 0 < count_at block pointer (records_after xs s.records).attached → acts ≡ xs → result ≡ value_over block pointer value acts → result ≡ device_pointer block pointer (state_after xs s)
value_read l block pointer value result xs acts s p sized entries even there read some same e = grind (arith, nat_tests, value-planned)
