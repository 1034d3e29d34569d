-- What the tasks of a directive, each judged in what those before it left, leave of both counters of every block.
use Rattle.std.proofs.Common.{ℕ, suc, ◌≡◌, ◌+◌, ◌-◌, refl, sym, ◌∙◌, ap, Bool, true, false, cond, List, [], ◌∷◌, ◌++◌, Option, arith}
use Rattle.std.specs.Prelude.{map, reverse, fold, sum_by, if◌then◌else◌}
use Rattle.std.specs.List.{AllZip}
use Rattle.std.proofs.lemmas.Grind.{reverse_onto}
use Rattle.std.proofs.lemmas.List.Sums.{sum_by-cons, sum_by_push}
use Rattle.acc_base.specs.Words.{Item, RegionClause, ExitClause, Counter, Holding, Task, Step, Did}
use Rattle.acc_base.specs.declared.mappings.Counter.TheVariants.{Structured, Dynamic}
use Rattle.acc_base.specs.declared.tasks.Task.TheVariants.{Enter, ExitRegion, ExitData}
use Rattle.acc_base.specs.declared.events.Step.TheVariants.{Nothing, Counted, Born, Dropped}
use Rattle.acc_base.specs.Limits.{Limits, IsWithinBounds}
use Rattle.acc_base.specs.Records.{Records}
use Rattle.acc_base.specs.Register.{is_counted_block, count_held}
use Rattle.acc_base.specs.Ranges.{counter_of}
use Rattle.acc_base.specs.Steps.{act, act_all}
use Rattle.acc_base.specs.Walk.{enter_task, exit_task, block_counted, pointer_attached, holdings_of}
use Rattle.acc_base.specs.History.{counts, drops, count_counted, count_dropped, dynamic_dropped, AreJudged}
use Rattle.acc_base.specs.Accounts.{AreRecordsSound}
use Rattle.acc_base.proofs.Judged.{IsJudgedTo, step_judged, task_says}
use Rattle.acc_base.proofs.Recounted.{moved_by, names}
use Rattle.acc_base.proofs.Aimed.{IsLeft, task_left}

-- ---- any tasks

-- a counter of a block after tasks, with what each did
abbrev pub count_with : Counter → ℕ → List Task → List Did → ℕ → ℕ
count_with counter b (task ∷ tasks) (did ∷ dids) n = count_with counter b tasks dids (cond (names b did.step) (moved_by counter task n) n)
count_with counter b _ _ n = n

-- what tasks leave of records: sound records, and both counters of every block
pub record AreLeft (l : Limits) (tasks : List Task) (dids : List Did) (w v : Records) : Type 0 where
  pub sound : AreRecordsSound l v
  pub counter_is : (counter : Counter) (b : ℕ) → counter_of counter b v.ranges ≡ count_with counter b tasks dids (counter_of counter b w.ranges)

pub all_left : (l : Limits) (n : ℕ) (tasks : List Task) (dids : List Did) (w : Records) → IsWithinBounds l → AreRecordsSound l w → AreJudged l n tasks dids w → AreLeft l tasks dids w (act_all tasks dids w)
unfolding act_all
all_left l n [] [] w bounds h judged = record { sound = h; counter_is = λ counter b. refl }
all_left l n (task ∷ tasks) (did ∷ dids) w bounds h judged =
    let first : IsLeft l task did w (act task did w) = task_left l task did w bounds h (task_says l n task w did.step judged.0) (step_judged l n task w did.step judged.0).free judged.1 in
    let later : AreLeft l tasks dids (act task did w) (act_all tasks dids (act task did w)) = all_left l (suc n) tasks dids (act task did w) bounds first.sound judged.2 in
    record { sound = later.sound; counter_is = λ counter b. later.counter_is counter b ∙ ap (λ m. count_with counter b tasks dids m) (first.counter_is counter b) }
all_left l n _ _ w bounds h judged = absurd judged

-- each task was judged to do its step in some records
abbrev pub AreSaid : Limits → List Task → List Did → Type 0
AreSaid l tasks dids = AllZip (λ task did. (w : Records) × IsJudgedTo l task did.step w) tasks dids

pub all_said : (l : Limits) (n : ℕ) (tasks : List Task) (dids : List Did) (w : Records) → AreJudged l n tasks dids w → AreSaid l tasks dids
all_said l n [] [] w judged = tt
all_said l n (task ∷ tasks) (did ∷ dids) w judged = ((w, task_says l n task w did.step judged.0), all_said l (suc n) tasks dids (act task did w) judged.2)
all_said l n _ _ w judged = absurd judged

-- tasks that leave a counter
pub recount_same : {X : Type 0} (counter : Counter) (b : ℕ) (f : X → Task) (items : List X) (dids : List Did) (n : ℕ) → ((x : X) (m : ℕ) → moved_by counter (f x) m ≡ m) → count_with counter b (map f items) dids n ≡ n
recount_same counter b f [] [] n same = refl
recount_same counter b f (x ∷ xs) (did ∷ dids) n same = recount_same counter b f xs dids (cond (names b did.step) (moved_by counter (f x) n) n) same ∙ go (names b did.step)
  where
    go : (t : Bool) → cond t (moved_by counter (f x) n) n ≡ n
    go true = same x n
    go false = refl
recount_same counter b f _ _ n same = refl

-- ---- entry

added_if : (t : Bool) (n : ℕ) → cond t (n + 1) n ≡ n + cond t 1 0
added_if true n = refl
added_if false n = omega arith

enter_names : (l : Limits) (counter : Counter) (item : Item RegionClause) (queue : Option ℕ) (b : ℕ) (step : Step) (w : Records) → IsJudgedTo l (Enter counter item queue) step w → names b step ≡ counts b step
enter_names l counter item queue b (Dropped k ended) w says = absurd says
enter_names l counter item queue b _ w says = refl

enter_moved : (counter : Counter) (item : Item RegionClause) (queue : Option ℕ) (n : ℕ) → moved_by counter (Enter counter item queue) n ≡ n + 1
enter_moved Structured item queue n = refl
enter_moved Dynamic item queue n = refl

pub entered_recount : {X : Type 0} (l : Limits) (counter : Counter) (b : ℕ) (f : X → Item RegionClause) (queue : Option ℕ) (items : List X) (dids : List Did) (n : ℕ) → AreSaid l (map (λ x. Enter counter (f x) queue) items) dids
    → count_with counter b (map (λ x. Enter counter (f x) queue) items) dids n ≡ n + count_counted b dids
entered_recount l counter b f queue [] [] n said = omega arith
entered_recount l counter b f queue (x ∷ xs) (did ∷ dids) n said =
    let later : count_with counter b (map (λ y. Enter counter (f y) queue) xs) dids (cond (names b did.step) (moved_by counter (Enter counter (f x) queue) n) n) ≡ cond (names b did.step) (moved_by counter (Enter counter (f x) queue) n) n + count_counted b dids
    = entered_recount l counter b f queue xs dids (cond (names b did.step) (moved_by counter (Enter counter (f x) queue) n) n) said.1 in
    let moved : cond (names b did.step) (moved_by counter (Enter counter (f x) queue) n) n ≡ n + cond (counts b did.step) 1 0
    = ap (λ m. cond (names b did.step) m n) (enter_moved counter (f x) queue n) ∙ (ap (λ t. cond t (n + 1) n) (enter_names l counter (f x) queue b did.step said.0.0 said.0.1) ∙ added_if (counts b did.step) n) in
    let all_of : count_counted b (did ∷ dids) ≡ cond (counts b did.step) 1 0 + count_counted b dids = sum_by-cons (λ (d : Did). cond (counts b d.step) 1 0) did dids in
    later ∙ (ap (λ m. m + count_counted b dids) moved ∙ omega arith)
entered_recount l counter b f queue _ _ n said = absurd said

counts_held : (b : ℕ) (step : Step) → is_counted_block b (block_counted step) ≡ counts b step
counts_held b Nothing = refl
counts_held b _ = refl

-- what a region holds is what its entry counted
pub held-entered : (l : Limits) (b : ℕ) (items : List (Item RegionClause)) (dids : List Did) → AreSaid l (map enter_task items) dids → count_held b (holdings_of items dids) ≡ count_counted b dids
held-entered l b [] [] said = refl
held-entered l b (item ∷ items) (did ∷ dids) said =
    sum_by-cons (λ (h : Holding). cond (is_counted_block b h.block) 1 0) (record { item = item; block = block_counted did.step; aim = pointer_attached did.aim }) (holdings_of items dids)
    ∙ (ap (λ t. cond t 1 0 + count_held b (holdings_of items dids)) (counts_held b did.step)
    ∙ (ap (λ m. cond (counts b did.step) 1 0 + m) (held-entered l b items dids said.1) ∙ sym (sum_by-cons (λ (d : Did). cond (counts b d.step) 1 0) did dids)))
held-entered l b _ _ said = absurd said

-- ---- `exit data`

exit_names : (l : Limits) (finalize : Bool) (item : Item ExitClause) (queue : Option ℕ) (b : ℕ) (step : Step) (w : Records) → IsJudgedTo l (ExitData finalize item queue) step w → names b step ≡ drops b step
exit_names l finalize item queue b (Counted k) w says = absurd says
exit_names l finalize item queue b (Born k p) w says = absurd says
exit_names l finalize item queue b _ w says = refl

pub exited_recount : (l : Limits) (b : ℕ) (finalize : Bool) (queue : Option ℕ) (items : List (Item ExitClause)) (dids : List Did) (n : ℕ) → AreSaid l (map (exit_task finalize queue) items) dids
    → count_with Dynamic b (map (exit_task finalize queue) items) dids n ≡ fold (dynamic_dropped finalize b) n dids
exited_recount l b finalize queue [] [] n said = refl
exited_recount l b finalize queue (item ∷ items) (did ∷ dids) n said =
    exited_recount l b finalize queue items dids (cond (names b did.step) (if finalize then 0 else n - 1) n) said.1
    ∙ ap (λ t. fold (dynamic_dropped finalize b) (cond t (if finalize then 0 else n - 1) n) dids) (exit_names l finalize item queue b did.step said.0.0 said.0.1)
exited_recount l b finalize queue _ _ n said = absurd said

-- ---- exit from a region

leave_names : (l : Limits) (holding : Holding) (b : ℕ) (step : Step) (w : Records) → IsJudgedTo l (ExitRegion holding) step w → names b step ≡ drops b step
leave_names l holding b (Counted k) w says = absurd says
leave_names l holding b (Born k p) w says = absurd says
leave_names l holding b _ w says = refl

leave_held : (l : Limits) (holding : Holding) (b : ℕ) (step : Step) (w : Records) → IsJudgedTo l (ExitRegion holding) step w → drops b step ≡ is_counted_block b holding.block
leave_held l holding b Nothing w says = sym (ap (is_counted_block b) says)
leave_held l holding b (Dropped k ended) w says = sym (ap (is_counted_block b) says.0)
leave_held l holding b _ w says = absurd says

one_less : (t : Bool) (n c : ℕ) → cond t (n - 1) n - c ≡ n - (cond t 1 0 + c)
one_less true n c = omega arith
one_less false n c = omega arith

pub left_recount : (l : Limits) (b : ℕ) (holdings : List Holding) (dids : List Did) (n : ℕ) → AreSaid l (map ExitRegion holdings) dids → count_with Structured b (map ExitRegion holdings) dids n ≡ n - count_dropped b dids
left_recount l b [] [] n said = omega arith
left_recount l b (holding ∷ holdings) (did ∷ dids) n said =
    left_recount l b holdings dids (cond (names b did.step) (n - 1) n) said.1
    ∙ (ap (λ t. cond t (n - 1) n - count_dropped b dids) (leave_names l holding b did.step said.0.0 said.0.1)
    ∙ (one_less (drops b did.step) n (count_dropped b dids) ∙ ap (λ m. n - m) (sym (sum_by-cons (λ (d : Did). cond (drops b d.step) 1 0) did dids))))
left_recount l b _ _ n said = absurd said

-- the exit of a region drops what the region holds
pub held-left : (l : Limits) (b : ℕ) (holdings : List Holding) (dids : List Did) → AreSaid l (map ExitRegion holdings) dids → count_dropped b dids ≡ count_held b holdings
held-left l b [] [] said = refl
held-left l b (holding ∷ holdings) (did ∷ dids) said =
    sum_by-cons (λ (d : Did). cond (drops b d.step) 1 0) did dids
    ∙ (ap (λ t. cond t 1 0 + count_dropped b dids) (leave_held l holding b did.step said.0.0 said.0.1)
    ∙ (ap (λ m. cond (is_counted_block b holding.block) 1 0 + m) (held-left l b holdings dids said.1) ∙ sym (sum_by-cons (λ (h : Holding). cond (is_counted_block b h.block) 1 0) holding holdings)))
held-left l b _ _ said = absurd said

-- a sum does not depend on the direction
pub sum_by-reverse : {X : Type 0} (f : X → ℕ) (xs : List X) → sum_by f (reverse xs) ≡ sum_by f xs
sum_by-reverse f [] = refl
sum_by-reverse f (x ∷ xs) =
    let later : sum_by f (reverse xs) ≡ sum_by f xs = sum_by-reverse f xs in
    let first : sum_by f (x ∷ xs) ≡ f x + sum_by f xs = sum_by-cons f x xs in
    let last : sum_by f (reverse xs ++ x ∷ []) ≡ sum_by f (reverse xs) + f x = sum_by_push f (reverse xs) x in
    ap (λ ys. sum_by f ys) (reverse_onto xs x []) ∙ (last ∙ omega arith)
