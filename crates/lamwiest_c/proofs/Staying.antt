-- The loan of a lent block stays, and so does the block, whatever an event does that does not bring it back.
use Rattle.std.proofs.Common.{ℕ, ◌≡◌, refl, sym, ◌∙◌, ap, subst, Bool, true, false, List, [], ◌∷◌, Option, Some, None, Ok}
use Rattle.std.specs.Prelude.{◌==◌, suc, is_some, ⊤}
use Rattle.std.proofs.lemmas.Bool.{true≢false}
use Rattle.acc_base.specs.declared.mappings.Range.{Range}
use Rattle.acc_base.specs.declared.mappings.Block.{Block}
use Rattle.acc_base.specs.declared.loans.Loan.{Loan}
use Rattle.acc_base.specs.declared.transfers.Transfer.{Transfer}
use Rattle.acc_base.specs.declared.tasks.Task.{Task}
use Rattle.acc_base.specs.declared.events.Step.{Step}
use Rattle.acc_base.specs.declared.events.Did.{Did}
use Rattle.acc_base.specs.declared.events.Event.{Event}
use Rattle.acc_base.specs.declared.tasks.Task.TheVariants.{Enter}
use Rattle.acc_base.specs.declared.events.Step.TheVariants.{Born, Dropped}
use Rattle.acc_base.specs.declared.events.Event.TheVariants.{Lent, Gathered}
use Rattle.acc_base.specs.Limits.{Limits, IsWithinBounds}
use Rattle.acc_base.specs.Records.{Records, Layout}
use Rattle.acc_base.specs.Blocks.{block_at}
use Rattle.acc_base.specs.Ranges.{range_of}
use Rattle.acc_base.specs.Loans.{loan_of, is_lent, not_lent}
use Rattle.acc_base.specs.Queues.{head_of, popped}
use Rattle.acc_base.specs.Steps.{is_in_use, released, records_after_birth, records_after_end, with_range_changed, block_needed, act_row, act_step, with_put, act, act_all, records_aimed}
use Rattle.acc_base.specs.Waits.{records_made, records_stepped, records_drained}
use Rattle.acc_base.specs.Walk.{asked_in, done_in, stepped_in, loan_at, loaned, walk}
use Rattle.acc_base.specs.History.{AreJudged, NamesRight, IsLegal}
use Rattle.acc_base.specs.Accounts.{IsLoanSound, AreRecordsSound}
use Rattle.acc_base.proofs.Results.{equal, equal_self}
use Rattle.acc_base.proofs.Elements.{found_has}
use Rattle.acc_base.proofs.Lookups.{at-push_there, at-without_other}
use Rattle.acc_base.proofs.InPlace.{find-put_other}
use Rattle.acc_base.proofs.Lending.{put_loan}
use Rattle.acc_base.proofs.Judged.{step_judged, not_lent_says}
use Rattle.acc_base.proofs.Loaned.{loans-act, loans-act_all, loans-drained}
use Rattle.acc_base.proofs.Sound.{ranges-drained}
use Rattle.acc_base.proofs.AllTasks.{all_left}

abbrev number_of_block : Block → ℕ
number_of_block b = b.number

abbrev block_named : Loan → ℕ
block_named l = l.block

-- a block that is lent and one that is not differ
pub other_block : (b k : ℕ) (ls : List Loan) → is_lent b ls ≡ true → is_lent k ls ≡ false → (b == k) ≡ false
other_block b k ls lent free = go (b == k) refl
  where
    go : (t : Bool) → (b == k) ≡ t → (b == k) ≡ false
    go true e = absurd (true≢false (sym lent ∙ (ap (λ n. is_lent n ls) (equal b k e) ∙ free)))
    go false e = e

-- ---- the block of a lent one stays

module _ (b : ℕ) (x : Block) where
  -- where another block is given back, or this one is in use
  stays_released : (k : ℕ) (w : Records) → ((b == k) ≡ true → is_in_use k w ≡ true) → block_at b w.blocks ≡ Some x → block_at b (released k w).blocks ≡ Some x
  unfolding released
  stays_released k w used there = go (is_in_use k w) (b == k) refl refl
    where
      go : (u t : Bool) → is_in_use k w ≡ u → (b == k) ≡ t → block_at b (released k w).blocks ≡ Some x
      go true t is same = rw is there
      go false true is same = absurd (true≢false (sym (used same) ∙ is))
      go false false is other = rw is (at-without_other number_of_block k b w.blocks other ∙ there)

  stays_row : (task : Task) (step : Step) (w : Records) → is_lent b w.loans ≡ true → not_lent (block_needed task step) w.loans ≡ Ok tt → block_at b w.blocks ≡ Some x → block_at b (act_row task step w).blocks ≡ Some x
  unfolding act_row records_after_birth records_after_end with_range_changed
  stays_row task (Born k place) w lent free there = at-push_there number_of_block b w.blocks _ x there
  stays_row task (Dropped k true) w lent free there =
      stays_released k (record w { ranges = _ }) (λ same. absurd (true≢false (sym same ∙ other_block b k w.loans lent (not_lent_says k w.loans free)))) there
  stays_row task (Dropped k false) w lent free there = there
  stays_row task _ w lent free there = there

  stays_act : (l : Limits) (n : ℕ) (task : Task) (did : Did) (w : Records) → is_lent b w.loans ≡ true → not_lent (block_needed task did.step) w.loans ≡ Ok tt → block_at b w.blocks ≡ Some x → block_at b (act task did w).blocks ≡ Some x
  unfolding act act_step
  stays_act l n (Enter counter item queue) did w lent free there = stays_row (Enter counter item queue) did.step (with_put (Enter counter item queue) did.step w) lent free there
  stays_act l n task did w lent free there = stays_row task did.step (with_put task did.step (records_aimed did.aim w)) lent free there

  stays_all : (l : Limits) (n : ℕ) (tasks : List Task) (dids : List Did) (w : Records) → AreJudged l n tasks dids w → is_lent b w.loans ≡ true → block_at b w.blocks ≡ Some x → block_at b (act_all tasks dids w).blocks ≡ Some x
  unfolding act_all
  stays_all l n [] [] w judged lent there = there
  stays_all l n (task ∷ tasks) (did ∷ dids) w judged lent there =
      let free = (step_judged l n task w did.step judged.0).free.needed in
      stays_all l (suc n) tasks dids (act task did w) judged.2 (subst (λ (ls : List Loan). is_lent b ls ≡ true) (sym (loans-act task did w)) lent) (stays_act l n task did w lent free there)
  stays_all l n _ _ w judged lent there = absurd judged

  -- a mapped block stays, whatever transfers are made
  stays_stepped : (q : ℕ) (w : Records) → is_some (range_of b w.ranges) ≡ true → block_at b w.blocks ≡ Some x → block_at b (records_stepped q w).blocks ≡ Some x
  unfolding records_stepped
  stays_stepped q w mapped there = go (head_of q w.queues)
    where
      used : (t : Transfer) → (b == t.block) ≡ true → is_in_use t.block (record w { queues = popped q w.queues }) ≡ true
      used t same = let is : b ≡ t.block = equal b t.block same in rw (sym is) (rw mapped refl)

      go : (o : Option Transfer) → block_at b (records_made q o w).blocks ≡ Some x
      go None = there
      go (Some t) = stays_released t.block (record w { queues = popped q w.queues }) (used t) there

  stays_drained : (qs : List ℕ) (w : Records) → is_some (range_of b w.ranges) ≡ true → block_at b w.blocks ≡ Some x → block_at b (records_drained qs w).blocks ≡ Some x
  unfolding records_drained
  stays_drained [] w mapped there = there
  stays_drained (q ∷ qs) w mapped there =
      let same : (records_stepped q w).ranges ≡ w.ranges = ranges-drained (q ∷ []) w in
      stays_drained qs (records_stepped q w) (subst (λ (rs : List Range). is_some (range_of b rs) ≡ true) (sym same) mapped) (stays_stepped q w mapped there)

-- ---- a loan stays, and its block

-- the block is not that which the event brings back
abbrev pub IsNotBack : ℕ → Event → Type 0
IsNotBack b (Gathered device serial block bytes) = (b == block) ≡ false
IsNotBack b _ = ⊤

blocks-loaned : (e : Event) (w : Records) → (loaned e w).blocks ≡ w.blocks
unfolding loaned
blocks-loaned (Lent device region section block serial) w = refl
blocks-loaned _ w = refl

loan_loaned : (l : Limits) (e : Event) (lay : Layout) (w : Records) (b : ℕ) (loan : Loan) → NamesRight l e lay → w.loans ≡ lay.records.loans → IsNotBack b e → loan_of b w.loans ≡ Some loan → loan_of b (loaned e w).loans ≡ Some loan
unfolding loaned
loan_loaned l (Lent device region section block serial) lay w b loan names same other there =
    let lent : is_lent b w.loans ≡ true = ap is_some there in
    let free : is_lent block w.loans ≡ false = subst (λ (ls : List Loan). is_lent block ls ≡ false) (sym same) names.2 in
    find-put_other (put_loan (loan_at serial block section w.ranges)) (λ (x : Loan). x.block == b) w.loans (turned (other_block b block w.loans lent free)) ∙ there
  where
    turned : (b == block) ≡ false → (block == b) ≡ false
    turned e = go (block == b) refl
      where
        go : (t : Bool) → (block == b) ≡ t → (block == b) ≡ false
        go true is = absurd (true≢false (sym (equal_self b) ∙ (ap (λ n. b == n) (sym (equal block b is)) ∙ e)))
        go false is = is
loan_loaned l (Gathered device serial block bytes) lay w b loan names same other there = at-without_other block_named block b w.loans other ∙ there
loan_loaned l _ lay w b loan names same other there = there

pub record IsStaying (b : ℕ) (loan : Loan) (x : Block) (w : Records) : Type 0 where
  pub loan_is : loan_of b w.loans ≡ Some loan
  pub block_is : block_at b w.blocks ≡ Some x

-- a lent block is mapped
mapped : (l : Limits) (w : Records) (b : ℕ) (loan : Loan) → AreRecordsSound l w → loan_of b w.loans ≡ Some loan → is_some (range_of b w.ranges) ≡ true
mapped l w b loan sound is =
    let lent = found_has (IsLoanSound w.ranges) (λ (x : Loan). x.block == b) w.loans loan sound.loans.sound is in
    ap is_some (subst (λ n. range_of n w.ranges ≡ Some lent.0.range) (equal loan.block b lent.1) lent.0.mapped)

pub walk_stays : (l : Limits) (e : Event) (lay : Layout) (b : ℕ) (loan : Loan) (x : Block) → IsWithinBounds l → AreRecordsSound l lay.records → IsLegal l e lay → IsNotBack b e → IsStaying b loan x lay.records → IsStaying b loan x (walk e lay).records
unfolding walk
walk_stays l e lay b loan x bounds sound legal other h =
    let tasks : List Task = asked_in e lay.register in
    let acted : Records = act_all tasks (done_in e) lay.records in
    let qs : List ℕ = stepped_in e lay.records.queues in
    let loans : acted.loans ≡ lay.records.loans = loans-act_all tasks (done_in e) lay.records in
    let left : AreRecordsSound l acted = (all_left l 0 tasks (done_in e) lay.records bounds sound legal.judged).sound in
    let acted_loan : loan_of b acted.loans ≡ Some loan = subst (λ (ls : List Loan). loan_of b ls ≡ Some loan) (sym loans) h.loan_is in
    let made : Records = records_drained qs acted in
    let made_loans : made.loans ≡ lay.records.loans = loans-drained qs acted ∙ loans in
    let made_loan : loan_of b made.loans ≡ Some loan = subst (λ (ls : List Loan). loan_of b ls ≡ Some loan) (sym made_loans) h.loan_is in
    let block : block_at b made.blocks ≡ Some x = stays_drained b x qs acted (mapped l acted b loan left acted_loan) (stays_all b x l 0 tasks (done_in e) lay.records legal.judged (ap is_some h.loan_is) h.block_is) in
    record {
      loan_is = loan_loaned l e lay made b loan legal.names made_loans other made_loan;
      block_is = subst (λ (bs : List Block). block_at b bs ≡ Some x) (sym (blocks-loaned e made)) block;
    }
