-- Where pointers and their targets lie: before entries and after them.
use Rattle.std.proofs.Common.{ℕ, ◌≡◌, ◌+◌, ◌-◌, ◌<◌, ◌≤◌, ◌^◌, refl, sym, ap, ◌∙◌, subst, true, List, [], ◌∷◌, suc, Option, Some, None, arith}
use Rattle.std.specs.Prelude.{unwrap_or, option_map, IsSome}
use Rattle.std.specs.List.{list_all}
use Rattle.std.proofs.lemmas.Bool.{false≢true}
use Rattle.std.proofs.lemmas.Bool.Decides.{nat_tests}
use Rattle.acc_clauses.specs.Words.{Item, RegionClause, Section, Counter, Range, Block, Found, Task, Step, Did}
use Rattle.acc_base.specs.declared.mappings.Found.TheVariants.{Inside}
use Rattle.acc_base.specs.declared.tasks.Task.TheVariants.{Enter}
use Rattle.acc_base.specs.declared.events.Step.TheVariants.{Counted, Born, Dropped}
use Rattle.acc_base.specs.Limits.{Limits, IsWithinBounds}
use Rattle.acc_base.specs.Section.{is_within, is_apart, only}
use Rattle.acc_base.specs.Records.{Records}
use Rattle.acc_base.specs.Ranges.{where_is, range_of, start_of, bare_range}
use Rattle.acc_base.specs.Blocks.{block_at, place_of}
use Rattle.acc_base.specs.Attachments.{pointer_at}
use Rattle.acc_base.specs.Tasks.{section_of, recounted}
use Rattle.acc_base.specs.Steps.{records_after_birth, with_range_changed, act_row, act_step, act, act_all}
use Rattle.acc_base.specs.Detaching.{block_in, block_with}
use Rattle.acc_base.specs.History.{IsTarget, AreJudged}
use Rattle.acc_base.specs.Accounts.{IsMapped, AreRecordsSound}
use Rattle.acc_base.proofs.Elements.{found_has}
use Rattle.acc_base.proofs.Lookups.{at-own}
use Rattle.acc_base.proofs.Where.{IsInsideOf, inside_says, absent_says}
use Rattle.acc_base.proofs.Judged.{IsJudgedTo, task_says}
use Rattle.acc_base.proofs.Sound.{recounted_keeps}
use Rattle.acc_clauses.specs.declared.acted.Acted.{Acted}
use Rattle.acc_clauses.specs.Overlays.{tasks_in, dids_in, records_after, enters, found_beside}
use Rattle.acc_clauses.proofs.Founds.{where_is-with, where_is-changed}
use Rattle.acc_clauses.proofs.AimsPlaced.{no_block-new, there-act}
use Rattle.acc_clauses.proofs.Overlaid.{first_left, first_enters}

-- ---- what lies in a block

-- the range and the block that a section lies in
pub record IsHeldIn (s : Section) (block : ℕ) (w : Records) (r : Range) (b : Block) : Type 0 where
  pub range_is : range_of block w.ranges ≡ Some r
  pub block_is : block_at block w.blocks ≡ Some b
  pub len : b.len ≡ r.section.len
  pub within : is_within s r.section ≡ true

pub held_in_block : (l : Limits) (s : Section) (w : Records) (block offset : ℕ) → AreRecordsSound l w → where_is s w.ranges ≡ Inside block offset
    → (r : Range) × (b : Block) × IsHeldIn s block w r b × (offset ≡ s.start - r.section.start)
held_in_block l s w block offset h e =
    let found : (r : Range) × IsInsideOf s w.ranges block offset r = inside_says s w.ranges block offset e in
    let r : Range = found.0 in
    let own : (range_of r.block w.ranges ≡ Some r) × (is_within s r.section ≡ true)
    = found_has (λ t. range_of t.block w.ranges ≡ Some t) (λ t. is_within s t.section) w.ranges r (at-own (λ (t : Range). t.block) w.ranges h.one_block_each.distinct) found.1.around in
    let mapped : IsMapped w.blocks r = (found_has (IsMapped w.blocks) (λ t. is_within s t.section) w.ranges r h.one_block_each.mapped found.1.around).0 in (
      r,
      mapped.0,
      record {
        range_is = subst (λ n. range_of n w.ranges ≡ Some r) found.1.block_is own.0;
        block_is = subst (λ n. block_at n w.blocks ≡ Some mapped.0) found.1.block_is mapped.1;
        len = mapped.2;
        within = own.1;
      },
      found.1.offset_is,
    )

-- ---- a pointer that lies in a block

-- where the eight bytes of a pointer lie
pub record IsPointerIn (block pointer : ℕ) (w : Records) : Type 0 where
  pub range : Range
  pub range_is : range_of block w.ranges ≡ Some range
  pub block_there : Block
  pub there : block_at block w.blocks ≡ Some block_there
  pub low : start_of block w.ranges ≤ pointer
  pub high : pointer + 8 ≤ start_of block w.ranges + block_there.len

pub pointer_in_block : (l : Limits) (w : Records) (block pointer : ℕ) → AreRecordsSound l w → block_with pointer w.ranges ≡ Some block → IsPointerIn block pointer w
pointer_in_block l w block pointer h e = go (where_is (pointer_at pointer) w.ranges) refl e
  where
    go : (f : Found) → where_is (pointer_at pointer) w.ranges ≡ f → block_in f ≡ Some block → IsPointerIn block pointer w
    go (Inside b offset) is k =
        let same : b ≡ block = cc in
        let held = held_in_block l (pointer_at pointer) w block offset h (is ∙ ap (λ n. Inside n offset) same) in
        let start : start_of block w.ranges ≡ held.0.section.start = ap (λ o. unwrap_or (option_map (λ (r : Range). r.section.start) o) 0) held.2.range_is in
        let bounds : (held.0.section.start ≤ pointer) × (pointer + 8 ≤ held.0.section.start + held.0.section.len) = inside held.0.section held.2.within in
        record { range = held.0; range_is = held.2.range_is; block_there = held.1; there = held.2.block_is; low = omega (arith, start, bounds.0); high = let len = held.2.len in omega (arith, start, bounds.1, len) }
      where
        inside : (t : Section) → is_within (pointer_at pointer) t ≡ true → (t.start ≤ pointer) × (pointer + 8 ≤ t.start + t.len)
        inside t h = grind (arith, nat_tests)
    go _ is k = cc

-- ---- the block of a pointer before an entry

beside_before : (s t : Section) (k block : ℕ) (f : Found) → (k ≡ block → ⊥) → block_in (found_beside s t k f) ≡ Some block → block_in f ≡ Some block
beside_before s t k block f other e = grind (arith, nat_tests)

before-step : (l : Limits) (counter : Counter) (item : Item RegionClause) (queue : Option ℕ) (step : Step) (w : Records) (pointer block : ℕ) → AreRecordsSound l w → IsJudgedTo l (Enter counter item queue) step w → IsSome (block_at block w.blocks)
    → block_with pointer (act_step (Enter counter item queue) step w).ranges ≡ Some block → block_with pointer w.ranges ≡ Some block
unfolding act_step act_row with_range_changed records_after_birth
before-step l counter item queue (Counted k) w pointer block h says there e =
    let task : Task = Enter counter item queue in
    sym (ap block_in (where_is-changed (recounted task) (recounted_keeps task).section (recounted_keeps task).block (pointer_at pointer) k w.ranges)) ∙ e
before-step l counter item queue (Born k p) w pointer block h says there e =
    let task : Task = Enter counter item queue in
    let new : Range = recounted task (bare_range (section_of task) k) in
    let section_is : new.section ≡ section_of task = (recounted_keeps task).section (bare_range (section_of task) k) in
    let block_is : new.block ≡ k = (recounted_keeps task).block (bare_range (section_of task) k) in
    let off : list_all (λ r. is_apart new.section r.section) w.ranges ≡ true = subst (λ t. list_all (λ r. is_apart t r.section) w.ranges ≡ true) (sym section_is) (absent_says (section_of task) w.ranges says.absent).0 in
    beside_before (pointer_at pointer) new.section new.block block (where_is (pointer_at pointer) w.ranges)
    (λ same. let none : block_at block w.blocks ≡ None = subst (λ n. block_at n w.blocks ≡ None) (sym block_is ∙ same) (no_block-new l w k h says.number) in cc)
    (sym (ap block_in (where_is-with (pointer_at pointer) new w.ranges off)) ∙ e)
before-step l counter item queue (Dropped k ended) w pointer block h says there e = absurd says
before-step l counter item queue _ w pointer block h says there e = e

before-act : (l : Limits) (task : Task) (did : Did) (w : Records) (pointer block : ℕ) → AreRecordsSound l w → IsJudgedTo l task did.step w → enters task ≡ true → IsSome (block_at block w.blocks)
    → block_with pointer (act task did w).ranges ≡ Some block → block_with pointer w.ranges ≡ Some block
unfolding act
before-act l task did w pointer block h says entry there e = grind (arith, nat_tests, before-step, false≢true)

-- a pointer that lies in a block after entries lay in it before them, where the block was there
pub before-after : (l : Limits) (n : ℕ) (xs : List Acted) (w : Records) (pointer block : ℕ) → IsWithinBounds l → AreRecordsSound l w → AreJudged l n (tasks_in xs) (dids_in xs) w → list_all enters (tasks_in xs) ≡ true
    → IsSome (block_at block w.blocks) → block_with pointer (records_after xs w).ranges ≡ Some block → block_with pointer w.ranges ≡ Some block
unfolding act_all
before-after l n [] w pointer block bounds h judged entries there e = e
before-after l n (x ∷ xs) w pointer block bounds h judged entries there e =
    let says = task_says l n x.task w x.did.step judged.0 in
    before-act l x.task x.did w pointer block h says (first_enters x xs entries).0 there
    (before-after l (suc n) xs (act x.task x.did w) pointer block bounds (first_left l n x xs w bounds h judged).sound judged.2 (first_enters x xs entries).1 (there-act l x.task x.did w block says (first_enters x xs entries).0 there) e)

-- ---- targets

-- the sum of a block's place and of an offset in its range
pub address_bound : (l : Limits) (w : Records) (s : Section) (block offset : ℕ) → IsWithinBounds l → AreRecordsSound l w → where_is s w.ranges ≡ Inside block offset → place_of block w.blocks + offset < 2 ^ 42
address_bound l w s block offset bounds h e = grind (arith, nat_tests, found_has)

pub target_bound : (l : Limits) (w : Records) (target : ℕ) → IsWithinBounds l → AreRecordsSound l w → IsTarget target w → target < 2 ^ 42
target_bound l w target bounds h t = grind (arith, nat_tests, address_bound l w (only t.0))
