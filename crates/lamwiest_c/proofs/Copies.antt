-- The copy of a lent block stays, whatever an event does that does not bring it back.
use Rattle.std.proofs.Common.{ℕ, ◌≡◌, ◌≤◌, ◌+◌, refl, sym, ◌∙◌, subst, arith, Bool, true, false, cond, List, [], ◌∷◌, ◌++◌, drop, replicate, zero, Option, Some, None, Ok}
use Rattle.std.specs.Prelude.{◌==◌, suc, is_none, map, find, option_map, slice_set, slice_get, IfSome, ⊤}
use Rattle.std.specs.List.{AllByRecursion, flat_map}
use Rattle.std.proofs.lemmas.Bool.Decides.{nat_tests}
use Rattle.std.proofs.lemmas.List.Concat.{flat_map-cons}
use Rattle.acc_base.specs.declared.attachments.Aim.{Aim}
use Rattle.acc_base.specs.declared.attachments.Aim.TheVariants as aims
use Rattle.acc_base.specs.declared.loans.Loan.{Loan}
use Rattle.acc_base.specs.declared.transfers.Transfer.{Transfer}
use Rattle.acc_base.specs.declared.tasks.Task.{Task}
use Rattle.acc_base.specs.declared.tasks.Task.TheVariants.{Enter, ExitRegion, ExitData, Move}
use Rattle.acc_base.specs.declared.events.Step.{Step}
use Rattle.acc_base.specs.declared.events.Step.TheVariants.{Born, Dropped, Moved}
use Rattle.acc_base.specs.declared.events.Did.{Did}
use Rattle.acc_base.specs.declared.events.Event.{Event}
use Rattle.acc_base.specs.declared.events.Event.TheVariants.{Waited, Stepped, Lent, Gathered}
use Rattle.acc_base.specs.Limits.{Limits, recorded}
use Rattle.acc_base.specs.Records.{Records, Memory, State, layout_of}
use Rattle.acc_base.specs.declared.attachments.Attachment.{Attachment}
use Rattle.acc_base.specs.Attachments.{count_at}
use Rattle.acc_base.specs.Loans.{is_lent, not_lent, none_lent}
use Rattle.acc_base.specs.Queues.{queue_at, head_of}
use Rattle.acc_base.specs.Tasks.{queue_of}
use Rattle.acc_base.specs.Transfers.{first_address, at_once, made_now}
use Rattle.acc_base.specs.Steps.{is_in_use, released, block_needed, judge_step, act_step, act, records_aimed}
use Rattle.acc_base.specs.Bytes.{memory_changed, is_moved, bytes_moved_in, memories_made, memories_released, without_memory, host_byte, step_state}
use Rattle.acc_base.specs.Detaching.{block_aimed}
use Rattle.acc_base.specs.Pointers.{pointer_written, aimed}
use Rattle.acc_base.specs.Waits.{records_made, records_stepped, state_made, stepped, records_drained, drained, steps_of, transfers_of}
use Rattle.acc_base.specs.Walk.{asked_in, done_in}
use Rattle.acc_base.specs.Acting.{act_state, act_all_state, after}
use Rattle.acc_base.specs.History.{AreJudged, IsAttachLegal, IsAimLegal, IsLegal}
use Rattle.acc_base.proofs.Results.{then_ok}
use Rattle.acc_base.proofs.Lookups.{at-push_there, at-without_other}
use Rattle.acc_base.proofs.Judged.{IsJudgedTo, step_judged, not_lent_says, task_says}
use Rattle.acc_base.proofs.Births.{births_least}
use Rattle.acc_base.proofs.Loaned.{loans-step, loans-act}
use Rattle.acc_base.proofs.Walked.{records-act_state, records-drained}
use Rattle.lamwiest_c.proofs.Staying.{other_block, IsNotBack}

abbrev block_of_memory : Memory → ℕ
block_of_memory m = m.block

abbrev pub memory_at : ℕ → List Memory → Option Memory
memory_at b memories = find (λ m. m.block == b) memories

-- where the bytes of another block change
other_changed : (b k : ℕ) (f : List ℕ → List ℕ) (m : Memory) (ms : List Memory) → (b == k) ≡ false → memory_at b ms ≡ Some m → memory_at b (map (memory_changed k f) ms) ≡ Some m
other_changed b k f m [] differs is = cc
other_changed b k f m (x ∷ xs) differs is = go (x.block == k) (x.block == b) refl refl (other_changed b k f m xs differs) is
  where
    go : (t u : Bool) → (x.block == k) ≡ t → (x.block == b) ≡ u → (memory_at b xs ≡ Some m → memory_at b (map (memory_changed k f) xs) ≡ Some m) → cond u (Some x) (memory_at b xs) ≡ Some m
        → memory_at b (cond t (record x { bytes = f x.bytes }) x ∷ map (memory_changed k f) xs) ≡ Some m
    go true true t u rest s = absurd (grind (arith, nat_tests))
    go true false t u rest s = rw u (rest s)
    go false true t u rest s = rw u s
    go false false t u rest s = rw u (rest s)

-- one transfer leaves the records as it leaves them without bytes
records-stepped : (q : ℕ) (s : State) → (stepped q s).records ≡ records_stepped q s.records
unfolding drained records_drained
records-stepped q s = records-drained (q ∷ []) s

module _ (b : ℕ) (m : Memory) where
  -- where a transfer of another block is made
  copy_made : (o : Option Transfer) (attached : List Attachment) (host : List ℕ) (ms : List Memory) → IfSome o (λ t. (b == t.block) ≡ false) → memory_at b ms ≡ Some m → memory_at b (memories_made o attached host ms) ≡ Some m
  copy_made None attached host ms other is = is
  copy_made (Some t) attached host ms other is = go t.out
    where
      go : (out : Bool) → memory_at b (cond out ms (map (memory_changed t.block (bytes_moved_in (is_moved t.section t.block attached) host (first_address t))) ms)) ≡ Some m
      go true = is
      go false = other_changed b t.block _ m ms other is

  -- where another block is given back
  copy_released : (k : ℕ) (w : Records) (ms : List Memory) → (b == k) ≡ false → memory_at b ms ≡ Some m → memory_at b (memories_released k w ms) ≡ Some m
  copy_released k w ms other is = go (is_in_use k w)
    where
      go : (used : Bool) → memory_at b (cond used ms (without_memory k ms)) ≡ Some m
      go true = is
      go false = at-without_other block_of_memory k b ms other ∙ is

  -- ---- a task

  -- the block that a step fills, ends or copies at once is another one
  abbrev IsOtherStep : Task → Step → Type 0
  IsOtherStep task (Born k place) = (b == k) ≡ false
  IsOtherStep task step = IfSome (block_needed task step) (λ k. (b == k) ≡ false)

  copy_now : (task : Task) (step : Step) (s : State) (ms : List Memory) → IfSome (made_now task step s.records.ranges) (λ t. (b == t.block) ≡ false) → memory_at b ms ≡ Some m → memory_at b (memories_made (made_now task step s.records.ranges) s.records.attached s.host ms) ≡ Some m
  copy_now task step s ms other is = copy_made (made_now task step s.records.ranges) s.records.attached s.host ms other is

  nothing_now : (q : Option ℕ) → IfSome (at_once q None) (λ (t : Transfer). (b == t.block) ≡ false)
  nothing_now None = tt
  nothing_now (Some q) = tt

  chosen_now : (q : Option ℕ) (given : Bool) (t : Transfer) → (b == t.block) ≡ false → IfSome (at_once q (cond given (Some t) None)) (λ (x : Transfer). (b == x.block) ≡ false)
  chosen_now None true t other = other
  chosen_now None false t other = tt
  chosen_now (Some q) given t other = tt

  moved_now : (q : Option ℕ) (t : Transfer) → IfSome (cond (is_none q) (Some t.block) None) (λ k. (b == k) ≡ false) → IfSome (at_once q (Some t)) (λ (x : Transfer). (b == x.block) ≡ false)
  moved_now None t other = other
  moved_now (Some q) t other = tt

  copy_step : (task : Task) (step : Step) (s : State) → IsOtherStep task step → memory_at b s.memories ≡ Some m → memory_at b (step_state task step s).memories ≡ Some m
  unfolding step_state
  copy_step task (Born k place) s other is =
      copy_now task (Born k place) s _ (chosen_now (queue_of task) _ _ other) (at-push_there block_of_memory b s.memories _ m is)
  copy_step task (Dropped k true) s other is = copy_released k (act_step task (Dropped k true) s.records) _ other (copy_now task (Dropped k true) s _ (chosen_now (queue_of task) _ _ other) is)
  copy_step task (Moved k) s other is = copy_now task (Moved k) s _ (moved_now (queue_of task) _ other) is
  copy_step task step s other is = copy_now task step s _ (nothing_now (queue_of task)) is

  copy_aimed : (aim : Aim) (s : State) → IfSome (block_aimed aim) (λ k. (b == k) ≡ false) → memory_at b s.memories ≡ Some m → memory_at b (aimed aim s).memories ≡ Some m
  unfolding aimed
  copy_aimed aims.None s other is = is
  copy_aimed (aims.New pointer block target) s other is = other_changed b block _ m s.memories other is
  copy_aimed (aims.Again pointer block) s other is = is
  copy_aimed (aims.Less pointer block) s other is = go (count_at block pointer s.records.attached == 1)
    where
      go : (last : Bool) → memory_at b (cond last (pointer_written block pointer (host_byte s.host) s) s.memories) ≡ Some m
      go true = other_changed b block _ m s.memories other is
      go false = is
  copy_aimed (aims.Cleared pointer block) s other is = other_changed b block _ m s.memories other is

  -- what must not be lent is another block
  free_other : (o : Option ℕ) (ls : List Loan) → is_lent b ls ≡ true → not_lent o ls ≡ Ok tt → IfSome o (λ k. (b == k) ≡ false)
  free_other None ls lent free = tt
  free_other (Some k) ls lent free = other_block b k ls lent (not_lent_says k ls free)

  attach_other : (l : Limits) (named : Option ℕ) (aim : Aim) (w : Records) → is_lent b w.loans ≡ true → IsAttachLegal l named aim w → IfSome (block_aimed aim) (λ k. (b == k) ≡ false)
  attach_other l named aims.None w lent legal = tt
  attach_other l named (aims.New pointer block target) w lent legal = other_block b block w.loans lent legal.2
  attach_other l named (aims.Again pointer block) w lent legal = other_block b block w.loans lent legal.2
  attach_other l named (aims.Less pointer block) w lent legal = absurd legal
  attach_other l named (aims.Cleared pointer block) w lent legal = absurd legal

  step_other : (l : Limits) (n : ℕ) (task : Task) (step : Step) (w : Records) → b ≤ w.births → is_lent b w.loans ≡ true → judge_step l n task w ≡ Ok step → IsOtherStep task step
  step_other l n task step w born lent judged = go task step (task_says l n task w step judged) (step_judged l n task w step judged).free.needed
    where
      above : (k : ℕ) → k ≡ w.births + 1 → (b == k) ≡ false
      above k e = grind (arith, nat_tests)

      go : (x : Task) (y : Step) → IsJudgedTo l x y w → not_lent (block_needed x y) w.loans ≡ Ok tt → IsOtherStep x y
      go (Enter counter item queue) (Born k place) says free = above k says.number
      go x (Born k place) says free = absurd says
      go x y says free = free_other (block_needed x y) w.loans lent free

  copy_act : (l : Limits) (n : ℕ) (task : Task) (did : Did) (s : State) → b ≤ s.records.births → is_lent b s.records.loans ≡ true → judge_step l n task s.records ≡ Ok did.step → IsAimLegal l task did s.records → memory_at b s.memories ≡ Some m → memory_at b (act_state task did s).memories ≡ Some m
  unfolding act_state aimed
  copy_act l n (Enter counter item queue) did s born lent judged legal is =
      let task : Task = Enter counter item queue in
      let still : is_lent b (act_step task did.step s.records).loans ≡ true = subst (λ (ls : List Loan). is_lent b ls ≡ true) (sym (loans-step task did.step s.records)) lent in
      copy_aimed did.aim (step_state task did.step s) (attach_other l _ did.aim (act_step task did.step s.records) still legal) (copy_step task did.step s (step_other l n task did.step s.records born lent judged) is)
  copy_act l n (ExitRegion holding) did s born lent judged legal is =
      let task : Task = ExitRegion holding in
      let free = (step_judged l n task s.records did.step judged).detached in
      copy_step task did.step (aimed did.aim s) (step_other l n task did.step s.records born lent judged) (copy_aimed did.aim s (free_other (block_aimed did.aim) s.records.loans lent (subst (λ (a : Aim). not_lent (block_aimed a) s.records.loans ≡ Ok tt) (sym legal) free)) is)
  copy_act l n (ExitData finalize item queue) did s born lent judged legal is =
      let task : Task = ExitData finalize item queue in
      let free = (step_judged l n task s.records did.step judged).detached in
      copy_step task did.step (aimed did.aim s) (step_other l n task did.step s.records born lent judged) (copy_aimed did.aim s (free_other (block_aimed did.aim) s.records.loans lent (subst (λ (a : Aim). not_lent (block_aimed a) s.records.loans ≡ Ok tt) (sym legal) free)) is)
  copy_act l n (Move if_present item queue) did s born lent judged legal is =
      let task : Task = Move if_present item queue in
      copy_step task did.step (aimed did.aim s) (step_other l n task did.step s.records born lent judged) (copy_aimed did.aim s (subst (λ (a : Aim). IfSome (block_aimed a) (λ k. (b == k) ≡ false)) (sym legal) tt) is)

  births-act : (task : Task) (did : Did) (w : Records) → w.births ≤ (act task did w).births
  unfolding act
  births-act (Enter counter item queue) did w = births_least (Enter counter item queue) did.step w
  births-act task did w = births_least task did.step (records_aimed did.aim w)

  copy_all : (l : Limits) (n : ℕ) (tasks : List Task) (dids : List Did) (s : State) → b ≤ s.records.births → is_lent b s.records.loans ≡ true → AreJudged l n tasks dids s.records → memory_at b s.memories ≡ Some m → memory_at b (act_all_state tasks dids s).memories ≡ Some m
  unfolding act_all_state
  copy_all l n [] [] s born lent judged is = is
  copy_all l n (task ∷ tasks) (did ∷ dids) s born lent judged is =
      let same : act task did s.records ≡ (act_state task did s).records = sym (records-act_state task did s) in
      copy_all l (suc n) tasks dids (act_state task did s)
      (subst (λ (w : Records). b ≤ w.births) same (omega (arith, born, births-act task did s.records)))
      (subst (λ (w : Records). is_lent b w.loans ≡ true) same (subst (λ (ls : List Loan). is_lent b ls ≡ true) (sym (loans-act task did s.records)) lent))
      (subst (λ (w : Records). AreJudged l (suc n) tasks dids w) same judged.2)
      (copy_act l n task did s born lent judged.0 judged.1 is)
  copy_all l n _ _ s born lent judged is = absurd judged

  -- ---- transfers that waited

  abbrev AreOthers : List Transfer → Type 0
  AreOthers ts = AllByRecursion (λ t. (b == t.block) ≡ false) ts

  copy_stepped : (q : ℕ) (s : State) → IfSome (head_of q s.records.queues) (λ t. (b == t.block) ≡ false) → memory_at b s.memories ≡ Some m → memory_at b (stepped q s).memories ≡ Some m
  unfolding stepped
  copy_stepped q s other is = go (head_of q s.records.queues) other
    where
      go : (o : Option Transfer) → IfSome o (λ t. (b == t.block) ≡ false) → memory_at b (state_made q o s).memories ≡ Some m
      go None other = is
      go (Some t) other = copy_released t.block (records_made q (Some t) s.records) _ other (copy_made (Some t) s.records.attached s.host s.memories other is)

  others_rest : (ts : List Transfer) → AreOthers ts → AreOthers (drop 1 ts)
  others_rest [] h = tt
  others_rest (t ∷ ts) h = h.1

  others_set : (queues : List (List Transfer)) (i k : ℕ) (ts : List Transfer) → AreOthers ts → AreOthers (queue_at k queues) → AreOthers (queue_at k (slice_set queues i ts))
  others_set [] i k ts own h = h
  others_set (x ∷ xs) zero zero ts own h = own
  others_set (x ∷ xs) zero (suc k) ts own h = h
  others_set (x ∷ xs) (suc i) zero ts own h = h
  others_set (x ∷ xs) (suc i) (suc k) ts own h = others_set xs i k ts own h

  others_stepped : (q k : ℕ) (w : Records) → AreOthers (queue_at q w.queues) → AreOthers (queue_at k w.queues) → AreOthers (queue_at k (records_stepped q w).queues)
  unfolding records_stepped released
  others_stepped q k w own h = go (head_of q w.queues)
    where
      go : (o : Option Transfer) → AreOthers (queue_at k (records_made q o w).queues)
      go None = h
      go (Some t) = others_set w.queues q k (drop 1 (queue_at q w.queues)) (others_rest (queue_at q w.queues) own) h

  head_other : (q : ℕ) (queues : List (List Transfer)) → AreOthers (queue_at q queues) → IfSome (head_of q queues) (λ t. (b == t.block) ≡ false)
  head_other q queues h = go (queue_at q queues) h
    where
      go : (ts : List Transfer) → AreOthers ts → IfSome (slice_get ts 0) (λ t. (b == t.block) ≡ false)
      go [] h = tt
      go (t ∷ ts) h = h.0

  -- of some queues, none of which has the block
  copy_drained : (A : ℕ → Type 0) (qs : List ℕ) (s : State) → AllByRecursion A qs → ((q : ℕ) → A q → AreOthers (queue_at q s.records.queues)) → memory_at b s.memories ≡ Some m → memory_at b (drained qs s).memories ≡ Some m
  unfolding drained
  copy_drained A [] s all others is = is
  copy_drained A (q ∷ qs) s all others is =
      copy_drained A qs (stepped q s) all.1
      (λ k a. subst (λ (w : Records). AreOthers (queue_at k w.queues)) (sym (records-stepped q s)) (others_stepped q k s.records (others q all.0) (others k a)))
      (copy_stepped q s (head_other q s.records.queues (others q all.0)) is)

-- none of the transfers is of the block, where none is of a lent one
others_free : (b : ℕ) (ts : List Transfer) (ls : List Loan) → is_lent b ls ≡ true → none_lent ts ls ≡ Ok tt → AllByRecursion (λ (t : Transfer). (b == t.block) ≡ false) ts
others_free b [] ls lent free = tt
others_free b (t ∷ ts) ls lent free =
    let both = then_ok (not_lent (Some t.block) ls) (none_lent ts ls) tt free in
    (other_block b t.block ls lent (not_lent_says t.block ls both.0), others_free b ts ls lent both.1)

free_split : (xs ys : List Transfer) (ls : List Loan) → none_lent (xs ++ ys) ls ≡ Ok tt → (none_lent xs ls ≡ Ok tt) × (none_lent ys ls ≡ Ok tt)
free_split [] ys ls free = (refl, free)
free_split (x ∷ xs) ys ls free =
    let both = then_ok (not_lent (Some x.block) ls) (none_lent (xs ++ ys) ls) tt free in
    let rest = free_split xs ys ls both.1 in
    (rw both.0 rest.0, rest.1)

free_queue : (q : ℕ) (queues : List (List Transfer)) (ls : List Loan) → none_lent (flat_map (λ ts. ts) queues) ls ≡ Ok tt → none_lent (queue_at q queues) ls ≡ Ok tt
free_queue q [] ls free = refl
free_queue q (ts ∷ queues) ls free =
    let both = free_split ts (flat_map (λ us. us) queues) ls (subst (λ us. none_lent us ls ≡ Ok tt) (flat_map-cons (λ (us : List Transfer). us) ts queues) free) in
    go q both.0 (λ k. free_queue k queues ls both.1)
  where
    go : (k : ℕ) → none_lent ts ls ≡ Ok tt → ((n : ℕ) → none_lent (queue_at n queues) ls ≡ Ok tt) → none_lent (queue_at k (ts ∷ queues)) ls ≡ Ok tt
    go zero own rest = own
    go (suc k) own rest = rest k

each_is : (q n : ℕ) → AllByRecursion (λ (k : ℕ). k ≡ q) (replicate n q)
each_is q zero = tt
each_is q (suc n) = (refl, each_is q n)

each_any : (qs : List ℕ) → AllByRecursion (λ (k : ℕ). ⊤) qs
each_any [] = tt
each_any (q ∷ qs) = (tt, each_any qs)

copy_waited : (b : ℕ) (m : Memory) (queue : Option ℕ) (s : State) → is_lent b s.records.loans ≡ true → none_lent (transfers_of queue s.records.queues) s.records.loans ≡ Ok tt → memory_at b s.memories ≡ Some m → memory_at b (drained (steps_of queue s.records.queues) s).memories ≡ Some m
copy_waited b m (Some q) s lent free is =
    copy_drained b m (λ k. k ≡ q) _ s (each_is q _) (λ k same. subst (λ n. AllByRecursion (λ (t : Transfer). (b == t.block) ≡ false) (queue_at n s.records.queues)) (sym same) (others_free b (queue_at q s.records.queues) s.records.loans lent free)) is
copy_waited b m None s lent free is =
    copy_drained b m (λ k. ⊤) _ s (each_any _) (λ k any. others_free b (queue_at k s.records.queues) s.records.loans lent (free_queue k s.records.queues s.records.loans free)) is

-- the copy of a lent block after an event that does not bring it back
pub copy_stays : (l : Limits) (full : Bool) (e : Event) (brought : List ℕ) (s : State) (b : ℕ) (m : Memory) → b ≤ s.records.births → is_lent b s.records.loans ≡ true → IsLegal l e (layout_of s) → IsNotBack b e → memory_at b s.memories ≡ Some m → memory_at b (after full e brought s).memories ≡ Some m
unfolding after drained act_all_state
copy_stays l full (Waited device queue count) brought s b m born lent legal other is = copy_waited b m queue s lent legal.names.2 is
copy_stays l full (Stepped device queue block) brought s b m born lent legal other is = copy_stepped b m queue s (first (head_of queue s.records.queues) legal.names.0) is
  where
    first : (o : Option Transfer) → option_map (λ t. t.block) o ≡ Some block → IfSome o (λ t. (b == t.block) ≡ false)
    first None e = tt
    first (Some t) e = let same : t.block ≡ block = cc in other_block b t.block s.records.loans lent (subst (λ n. is_lent n s.records.loans ≡ false) (sym same) legal.names.1)
copy_stays l full (Lent device region section block serial) brought s b m born lent legal other is = other_changed b block (recorded full) m s.memories (other_block b block s.records.loans lent legal.names.2) is
copy_stays l full (Gathered device serial block bytes) brought s b m born lent legal other is = other_changed b block (λ _. brought) m s.memories other is
copy_stays l full e brought s b m born lent legal other is = copy_all b m l 0 (asked_in e s.register) (done_in e) s born lent legal.judged is
