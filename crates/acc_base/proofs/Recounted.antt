-- Both reference counters of every block after a task that was judged.
use Rattle.std.proofs.Common.{ℕ, ◌≡◌, ◌+◌, ◌-◌, refl, sym, ◌∙◌, ap, subst, Bool, true, false, cond, Option, Some, None, List}
use Rattle.std.specs.Prelude.{◌==◌, unwrap_or, option_map, if◌then◌else◌}
use Rattle.acc_base.specs.Words.{Section, Counter, Range, Task, Step}
use Rattle.acc_base.specs.declared.mappings.Counter.TheVariants.{Structured, Dynamic}
use Rattle.acc_base.specs.declared.tasks.Task.TheVariants.{Enter, ExitRegion, ExitData, Move}
use Rattle.acc_base.specs.declared.events.Step.TheVariants.{Counted, Born, Dropped}
use Rattle.acc_base.specs.Limits.{Limits}
use Rattle.acc_base.specs.Records.{Records}
use Rattle.acc_base.specs.Ranges.{range_of, counter_in, counter_of, with_range, bare_range, is_unused, ends_by}
use Rattle.acc_base.specs.Tasks.{section_of, recounted}
use Rattle.acc_base.specs.Steps.{records_after_birth, records_after_end, released, with_range_changed, act_row, act_step}
use Rattle.acc_base.specs.Accounts.{AreRecordsSound}
use Rattle.acc_base.proofs.Results.{and_true, equal}
use Rattle.acc_base.proofs.Counting.{read_of, changed_read, with_same, with_other, without_read}
use Rattle.acc_base.proofs.Judged.{IsJudgedTo}
use Rattle.acc_base.proofs.Sound.{recounted_keeps, counter_is, fresh}

-- what a task makes of a counter of the range that it names
abbrev pub moved_by : Counter → Task → ℕ → ℕ
moved_by Structured (Enter Structured item queue) n = n + 1
moved_by Dynamic (Enter Dynamic item queue) n = n + 1
moved_by Structured (ExitRegion holding) n = n - 1
moved_by Dynamic (ExitData finalize item queue) n = if finalize then 0 else n - 1
moved_by counter (Move if_present item queue) n = n
moved_by _ _ n = n

-- the step counts, gives birth to or drops the block
abbrev pub names : ℕ → Step → Bool
names block (Counted k) = k == block
names block (Born k place) = k == block
names block (Dropped k ended) = k == block
names block _ = false

pub counter-recounted : (counter : Counter) (task : Task) (r : Range) → counter_in counter (recounted task r) ≡ moved_by counter task (counter_in counter r)
counter-recounted Structured (Enter Structured item queue) r = refl
counter-recounted Dynamic (Enter Structured item queue) r = refl
counter-recounted Structured (ExitData true item queue) r = refl
counter-recounted Dynamic (ExitData true item queue) r = refl
counter-recounted _ _ r = refl

pub unused_zero : (counter : Counter) (r : Range) → is_unused r ≡ true → counter_in counter r ≡ 0
unused_zero Structured r e = equal _ _ (and_true (r.structured == 0) (r.dynamic == 0) e).0
unused_zero Dynamic r e = equal _ _ (and_true (r.structured == 0) (r.dynamic == 0) e).1

-- a counter of a range that the task leaves unused becomes zero
ended_zero : (counter : Counter) (task : Task) (k : ℕ) (ranges : List Range) (o : Option Range) → range_of k ranges ≡ o → true ≡ ends_by (recounted task) k ranges
    → moved_by counter task (counter_of counter k ranges) ≡ 0
ended_zero counter task k ranges None e ends =
    let no : ends_by (recounted task) k ranges ≡ false = ap (λ o. unwrap_or (option_map (λ (t : Range). is_unused (recounted task t)) o) false) e in
    absurd (let both : true ≡ false = ends ∙ no in cc)
ended_zero counter task k ranges (Some r) e ends =
    let yes : ends_by (recounted task) k ranges ≡ is_unused (recounted task r) = ap (λ o. unwrap_or (option_map (λ (t : Range). is_unused (recounted task t)) o) false) e in
    ap (moved_by counter task) (counter_is counter k ranges r e) ∙ (sym (counter-recounted counter task r) ∙ unused_zero counter (recounted task r) (sym (ends ∙ yes)))

-- no range has the block, and the task does not raise the counter
pub zero_stays : (l : Limits) (task : Task) (k : ℕ) (ended : Bool) (w : Records) (counter : Counter) → IsJudgedTo l task (Dropped k ended) w → moved_by counter task 0 ≡ 0
zero_stays l (ExitRegion holding) k ended w Structured says = refl
zero_stays l (ExitRegion holding) k ended w Dynamic says = refl
zero_stays l (ExitData finalize item queue) k ended w Structured says = refl
zero_stays l (ExitData true item queue) k ended w Dynamic says = refl
zero_stays l (ExitData false item queue) k ended w Dynamic says = refl
zero_stays l _ k ended w counter says = absurd says

pub ends_told : (l : Limits) (task : Task) (k : ℕ) (w : Records) → IsJudgedTo l task (Dropped k true) w → true ≡ ends_by (recounted task) k w.ranges
ends_told l (ExitRegion holding) k w says = says.1
ends_told l (ExitData finalize item queue) k w says = says.ended_is
ends_told l _ k w says = absurd says

pub count_mapped : (l : Limits) (task : Task) (k : ℕ) (w : Records) → IsJudgedTo l task (Counted k) w → range_of k w.ranges ≡ None → ⊥
count_mapped l (Enter c item queue) k w says = says.mapped
count_mapped l _ k w says = absurd says

pub birth_number : (l : Limits) (task : Task) (k p : ℕ) (w : Records) → IsJudgedTo l task (Born k p) w → k ≡ w.births + 1
birth_number l (Enter c item queue) k p w says = says.number
birth_number l _ k p w says = absurd says

pub zero_in : (counter : Counter) (s : Section) (k : ℕ) → counter_in counter (bare_range s k) ≡ 0
zero_in Structured s k = refl
zero_in Dynamic s k = refl

-- a counter of a block after a birth
born_read : (counter : Counter) (task : Task) (k b : ℕ) (ranges : List Range) → range_of k ranges ≡ None
    → read_of (counter_in counter) b (with_range (recounted task (bare_range (section_of task) k)) ranges) ≡ cond (k == b) (moved_by counter task (counter_of counter b ranges)) (counter_of counter b ranges)
born_read counter task k b ranges none = go (k == b) refl
  where
    new : Range
    new = recounted task (bare_range (section_of task) k)

    block_is : new.block ≡ k
    block_is = (recounted_keeps task).block (bare_range (section_of task) k)

    at_new : read_of (counter_in counter) k (with_range new ranges) ≡ moved_by counter task (counter_of counter k ranges)
    at_new =
        let there : read_of (counter_in counter) new.block (with_range new ranges) ≡ counter_in counter new = with_same (counter_in counter) new ranges (subst (λ n. range_of n ranges ≡ None) (sym block_is) none) in
        let moved : counter_in counter new ≡ moved_by counter task 0 = counter-recounted counter task (bare_range (section_of task) k) ∙ ap (moved_by counter task) (zero_in counter (section_of task) k) in
        let absent : counter_of counter k ranges ≡ 0 = ap (λ (o : Option Range). unwrap_or (option_map (counter_in counter) o) 0) none in
        subst (λ n. read_of (counter_in counter) n (with_range new ranges) ≡ counter_in counter new) block_is there ∙ (moved ∙ ap (moved_by counter task) (sym absent))

    go : (t : Bool) → (k == b) ≡ t → read_of (counter_in counter) b (with_range new ranges) ≡ cond t (moved_by counter task (counter_of counter b ranges)) (counter_of counter b ranges)
    go true e = subst (λ n. read_of (counter_in counter) n (with_range new ranges) ≡ moved_by counter task (counter_of counter n ranges)) (equal k b e) at_new
    go false e = with_other (counter_in counter) new b ranges (subst (λ n. (n == b) ≡ false) (sym block_is) e)

-- a counter of a block, where the task is judged to do the step
pub counter-act : (l : Limits) (task : Task) (step : Step) (w : Records) (counter : Counter) (b : ℕ) → AreRecordsSound l w → IsJudgedTo l task step w
    → counter_of counter b (act_step task step w).ranges ≡ cond (names b step) (moved_by counter task (counter_of counter b w.ranges)) (counter_of counter b w.ranges)
unfolding act_step act_row with_range_changed records_after_birth records_after_end released
counter-act l task (Counted k) w counter b h says =
    changed_read (counter_in counter) (recounted task) (moved_by counter task) (recounted_keeps task).block (counter-recounted counter task) k b w.ranges (λ none. absurd (count_mapped l task k w says none))
counter-act l task (Born k p) w counter b h says =
    let none : range_of k w.ranges ≡ None = fresh l w k h (birth_number l task k p w says) in
    born_read counter task k b w.ranges none
counter-act l task (Dropped k true) w counter b h says = without_read (counter_in counter) k b w.ranges ∙ go (k == b) refl
  where
    go : (t : Bool) → (k == b) ≡ t → cond t 0 (counter_of counter b w.ranges) ≡ cond t (moved_by counter task (counter_of counter b w.ranges)) (counter_of counter b w.ranges)
    go true e =
        let same : k ≡ b = equal k b e in
        let last : moved_by counter task (counter_of counter k w.ranges) ≡ 0 = ended_zero counter task k w.ranges (range_of k w.ranges) refl (ends_told l task k w says) in
        sym (subst (λ n. moved_by counter task (counter_of counter n w.ranges) ≡ 0) same last)
    go false e = refl
counter-act l task (Dropped k false) w counter b h says =
    changed_read (counter_in counter) (recounted task) (moved_by counter task) (recounted_keeps task).block (counter-recounted counter task) k b w.ranges (λ none. zero_stays l task k false w counter says)
counter-act l task _ w counter b h says = refl
