-- Where blocks lie after entries, and what entries leave of host memory.
use Rattle.std.proofs.lemmas.Bool.Decides.{nat_tests}
use Rattle.std.proofs.Common.{ℕ, ◌≡◌, ◌+◌, ◌≤◌, refl, sym, ap, ◌∙◌, subst, true, false, cond, List, [], ◌∷◌, ◌++◌, suc, Option, None, arith}
use Rattle.std.specs.Prelude.{◌==◌, unwrap_or, option_map, IsSome}
use Rattle.std.specs.List.{list_all}
use Rattle.std.proofs.lemmas.Bool.{false≢true}
use Rattle.acc_clauses.specs.Words.{Item, RegionClause, Counter, Block, Task, Step, Did}
use Rattle.acc_base.specs.declared.tasks.Task.TheVariants.{Enter}
use Rattle.acc_base.specs.declared.events.Step.TheVariants.{Born, Dropped}
use Rattle.acc_base.specs.Limits.{Limits, IsWithinBounds}
use Rattle.acc_base.specs.Records.{Records, State}
use Rattle.acc_base.specs.Ranges.{bare_range}
use Rattle.acc_base.specs.Blocks.{block_at, place_of}
use Rattle.acc_base.specs.Tasks.{section_of, recounted}
use Rattle.acc_base.specs.Steps.{records_after_birth, with_range_changed, act_row, act_step, act, act_all}
use Rattle.acc_base.specs.Bytes.{step_state}
use Rattle.acc_base.specs.Pointers.{aimed}
use Rattle.acc_base.specs.Acting.{act_state, act_all_state}
use Rattle.acc_base.specs.History.{AreJudged}
use Rattle.acc_base.specs.Accounts.{AreRecordsSound}
use Rattle.acc_base.proofs.Elements.{AllByRecursion-weaker}
use Rattle.acc_base.proofs.Lookups.{at-push_new, at-push_there, at-none}
use Rattle.acc_base.proofs.Judged.{IsJudgedTo, task_says}
use Rattle.acc_base.proofs.Sound.{recounted_keeps}
use Rattle.acc_base.proofs.Walked.{records-act_state}
use Rattle.acc_clauses.specs.declared.acted.Acted.{Acted}
use Rattle.acc_clauses.specs.Overlays.{tasks_in, dids_in, records_after, state_after, enters, IsPlanned}
use Rattle.acc_clauses.specs.Aims.{place_by, place_over}
use Rattle.acc_clauses.proofs.Overlaid.{first_left, first_enters}

-- ---- one block more

-- a new number is none of the blocks'
pub no_block-new : (l : Limits) (w : Records) (k : ℕ) → AreRecordsSound l w → k ≡ w.births + 1 → block_at k w.blocks ≡ None
no_block-new l w k h e = at-none (λ (b : Block). b.number) k w.blocks
    (AllByRecursion-weaker (λ b. b.number ≤ w.births) (λ b. b.number ≡ k → ⊥) w.blocks (λ b low same. absurd (omega (arith, low, same, e))) h.blocks_apart.born)

-- the place of a block, where another is added
place-other : (blocks : List Block) (new : Block) (block : ℕ) → (new.number == block) ≡ false → place_of block (blocks ++ new ∷ []) ≡ place_of block blocks
place-other [] new block e = rw e refl
place-other (b ∷ bs) new block e = grind (arith, nat_tests, place-other bs new block e)

-- and where it is the one that is added
place-new : (blocks : List Block) (new : Block) → block_at new.number blocks ≡ None → place_of new.number (blocks ++ new ∷ []) ≡ new.place
place-new blocks new none = ap (λ o. unwrap_or (option_map (λ (x : Block). x.place) o) 0) (at-push_new (λ (b : Block). b.number) blocks new none)

-- the block that a birth adds
abbrev new_block : Task → ℕ → ℕ → Block
new_block task k p = record { number = (recounted task (bare_range (section_of task) k)).block; place = p; len = (recounted task (bare_range (section_of task) k)).section.len }

new_block_number : (task : Task) (k p : ℕ) → (new_block task k p).number ≡ k
new_block_number task k p = (recounted_keeps task).block (bare_range (section_of task) k)

place-born : (task : Task) (k p block : ℕ) (blocks : List Block) → block_at k blocks ≡ None → place_of block (blocks ++ new_block task k p ∷ []) ≡ cond (k == block) p (place_of block blocks)
place-born task k p block blocks none = grind (arith, nat_tests, place-new blocks (new_block task k p), place-other blocks (new_block task k p) block, new_block_number task k p)

-- ---- places after entries

place-step : (l : Limits) (counter : Counter) (item : Item RegionClause) (queue : Option ℕ) (step : Step) (w : Records) (block : ℕ) → AreRecordsSound l w → IsJudgedTo l (Enter counter item queue) step w
    → place_of block (act_step (Enter counter item queue) step w).blocks ≡ place_by block (place_of block w.blocks) step
unfolding act_step act_row with_range_changed records_after_birth
place-step l counter item queue (Born k p) w block h says = place-born (Enter counter item queue) k p block w.blocks (no_block-new l w k h says.number)
place-step l counter item queue (Dropped k ended) w block h says = absurd says
place-step l counter item queue _ w block h says = refl

place-act : (l : Limits) (task : Task) (did : Did) (w : Records) (block : ℕ) → AreRecordsSound l w → IsJudgedTo l task did.step w → enters task ≡ true
    → place_of block (act task did w).blocks ≡ place_by block (place_of block w.blocks) did.step
unfolding act
place-act l task did w block h says entry = grind (arith, nat_tests, place-step, false≢true)

pub place-after : (l : Limits) (n : ℕ) (xs : List Acted) (w : Records) (block : ℕ) → IsWithinBounds l → AreRecordsSound l w → AreJudged l n (tasks_in xs) (dids_in xs) w → list_all enters (tasks_in xs) ≡ true
    → place_over block (place_of block w.blocks) xs ≡ place_of block (records_after xs w).blocks
unfolding act_all
place-after l n [] w block bounds h judged entries = refl
place-after l n (x ∷ xs) w block bounds h judged entries = grind (arith, nat_tests, place-after l (suc n) xs (act x.task x.did w) block bounds (first_left l n x xs w bounds h judged).sound judged.2 (first_enters x xs entries).1, place-act, task_says l n x.task w x.did.step judged.0)

pub block_place-planned : (l : Limits) (xs : List Acted) (w : Records) (block : ℕ) → IsPlanned l xs w → list_all enters (tasks_in xs) ≡ true
    → place_over block (place_of block w.blocks) xs ≡ place_of block (records_after xs w).blocks
block_place-planned l xs w block p entries = place-after l 0 xs w block p.bounds p.sound p.judged entries

-- a block that is there stays there
there-step : (l : Limits) (counter : Counter) (item : Item RegionClause) (queue : Option ℕ) (step : Step) (w : Records) (block : ℕ) → IsJudgedTo l (Enter counter item queue) step w → IsSome (block_at block w.blocks)
    → IsSome (block_at block (act_step (Enter counter item queue) step w).blocks)
unfolding act_step act_row with_range_changed records_after_birth
there-step l counter item queue (Born k p) w block says there = grind (arith, nat_tests, at-push_there (λ (b : Block). b.number) block w.blocks (new_block (Enter counter item queue) k p))
there-step l counter item queue (Dropped k ended) w block says there = absurd says
there-step l counter item queue _ w block says there = there

pub there-act : (l : Limits) (task : Task) (did : Did) (w : Records) (block : ℕ) → IsJudgedTo l task did.step w → enters task ≡ true → IsSome (block_at block w.blocks)
    → IsSome (block_at block (act task did w).blocks)
unfolding act
there-act l task did w block says entry there = grind (arith, nat_tests, there-step, false≢true)

-- ---- the host after entries: what an entry copies goes to the device

host-step : (l : Limits) (counter : Counter) (item : Item RegionClause) (queue : Option ℕ) (step : Step) (s : State) → IsJudgedTo l (Enter counter item queue) step s.records → (step_state (Enter counter item queue) step s).host ≡ s.host
unfolding step_state
host-step l counter item queue step s says = grind (arith, nat_tests)

host-act : (l : Limits) (task : Task) (did : Did) (s : State) → IsJudgedTo l task did.step s.records → enters task ≡ true → (act_state task did s).host ≡ s.host
unfolding act_state aimed
host-act l task did s says entry = grind (arith, nat_tests, host-step, false≢true)

pub host-after : (l : Limits) (n : ℕ) (xs : List Acted) (s : State) → AreJudged l n (tasks_in xs) (dids_in xs) s.records → list_all enters (tasks_in xs) ≡ true → (state_after xs s).host ≡ s.host
unfolding act_all_state
host-after l n [] s judged entries = refl
host-after l n (x ∷ xs) s judged entries =
    host-after l (suc n) xs (act_state x.task x.did s) (subst (AreJudged l (suc n) (tasks_in xs) (dids_in xs)) (sym (records-act_state x.task x.did s)) judged.2) (first_enters x xs entries).1
    ∙ host-act l x.task x.did s (task_says l n x.task s.records x.did.step judged.0) (first_enters x xs entries).0
