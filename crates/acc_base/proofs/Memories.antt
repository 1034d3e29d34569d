-- After every task host memory has its size, and each block, in order, a memory of its length.
use Rattle.std.proofs.Common.{ℕ, suc, ◌≡◌, refl, sym, ◌∙◌, ap, subst, Bool, true, false, cond, List, [], ◌∷◌, ◌++◌, length, replicate, Option, Some, None}
use Rattle.std.specs.Prelude.{◌==◌, ◌-◌, filter, map, not, slice_index, ⊤}
use Rattle.std.specs.List.{AllByRecursion, AllZip}
use Rattle.std.specs.Int.{to_le_bytes, w64}
use Rattle.std.proofs.lemmas.List.{length-replicate}
use Rattle.std.proofs.lemmas.Bool.{true≢false}
use Rattle.acc_base.specs.Words.{Section, Range, Block, Loan, Attachment, Aim, Task, Transfer, Step, Did, Event}
use Rattle.acc_base.specs.declared.mappings.Counter.TheVariants.{Structured}
use Rattle.acc_base.specs.declared.attachments.Aim.TheVariants as aims
use Rattle.acc_base.specs.declared.tasks.Task.TheVariants.{Enter, ExitData}
use Rattle.acc_base.specs.declared.events.Step.TheVariants.{Born, Dropped}
use Rattle.acc_base.specs.declared.events.Event.TheVariants.{HostWritten, Lent, Gathered}
use Rattle.acc_base.specs.Limits.{Limits, recorded}
use Rattle.acc_base.specs.Records.{Records, Memory, State, new_state}
use Rattle.acc_base.specs.Section.{covers, host_base}
use Rattle.acc_base.specs.Ranges.{start_of, without_range, bare_range}
use Rattle.acc_base.specs.Attachments.{pointer_at, count_at}
use Rattle.acc_base.specs.Blocks.{without_block}
use Rattle.acc_base.specs.Loans.{with_loan, without_loan}
use Rattle.acc_base.specs.Tasks.{section_of, recounted}
use Rattle.acc_base.specs.Steps.{is_in_use, released, act_row, with_put, act_step, records_after_birth, records_after_end, with_range_changed}
use Rattle.acc_base.specs.Walk.{asked_in, done_in, stepped_in, loan_at, loaned}
use Rattle.acc_base.specs.Bytes.{host_byte, bytes_of, written_bytes, is_moved, bytes_moved_in, bytes_moved_out, memory_changed, host_made, memories_made, fill_of, host_after_write, without_memory, memories_released, memories_acted, step_state}
use Rattle.acc_base.specs.Transfers.{first_address, made_now}
use Rattle.acc_base.specs.Queues.{head_of, popped}
use Rattle.acc_base.specs.Waits.{state_made, stepped, drained}
use Rattle.acc_base.specs.Pointers.{pointer_written, memories_aimed, aimed}
use Rattle.acc_base.specs.Acting.{host_after, memories_after, act_state, act_all_state, after}
use Rattle.acc_base.specs.Accounts.{IsMemoryOf, AreMemoriesSized}
use Rattle.acc_base.proofs.Results.{equal}
use Rattle.acc_base.proofs.Lending.{is_lent-with_same, is_lent-with_free, is_lent-without_other}

-- ---- memories of blocks that are there

-- a block is gone, and its memory with it; the others stay in step
without_sized : (ls : List Loan) (k : ℕ) (ms : List Memory) (bs : List Block) → AllZip (IsMemoryOf ls) ms bs → AllZip (IsMemoryOf ls) (filter (λ m. not (m.block == k)) ms) (without_block k bs)
without_sized ls k [] [] h = tt
without_sized ls k (m ∷ ms) (b ∷ bs) h = subst (λ n. AllZip (IsMemoryOf ls) (cond (not (n == k)) (m ∷ filter (λ x. not (x.block == k)) ms) (filter (λ x. not (x.block == k)) ms)) (cond (not (b.number == k)) (b ∷ without_block k bs) (without_block k bs))) (sym h.0.block)
    (go (without_sized ls k ms bs h.1) (b.number == k))
  where
    go : AllZip (IsMemoryOf ls) (filter (λ x. not (x.block == k)) ms) (without_block k bs) → (t : Bool)
        → AllZip (IsMemoryOf ls) (cond (not t) (m ∷ filter (λ x. not (x.block == k)) ms) (filter (λ x. not (x.block == k)) ms)) (cond (not t) (b ∷ without_block k bs) (without_block k bs))
    go rest true = rest
    go rest false = (h.0, rest)
without_sized ls k _ _ h = absurd h

-- ---- copies keep lengths

pub length-written_bytes : (taken : ℕ → Bool) (source : ℕ → ℕ) (address : ℕ) (bytes : List ℕ) → length (written_bytes taken source address bytes) ≡ length bytes
length-written_bytes taken source address [] = refl
length-written_bytes taken source address (byte ∷ bytes) = ap suc (length-written_bytes taken source (suc address) bytes)

pub length-moved_in : (moved : ℕ → Bool) (host : List ℕ) (start : ℕ) (bytes : List ℕ) → length (bytes_moved_in moved host start bytes) ≡ length bytes
length-moved_in moved host start bytes = length-written_bytes moved (host_byte host) start bytes

pub length-moved_out : (moved : ℕ → Bool) (bytes : List ℕ) (start : ℕ) (host : List ℕ) → length (bytes_moved_out moved bytes start host) ≡ length host
length-moved_out moved bytes start host = length-written_bytes moved (λ a. slice_index bytes (a - start)) host_base host

pub length-host_after_write : (addr len : ℕ) (bytes host : List ℕ) → length (host_after_write addr len bytes host) ≡ length host
length-host_after_write addr len bytes host = length-written_bytes (covers (record { start = addr; len = len })) (λ a. slice_index bytes (a - addr)) host_base host

-- ---- the memory of a new block

sized-push : (ls : List Loan) (ms : List Memory) (bs : List Block) (m : Memory) (b : Block) → AllZip (IsMemoryOf ls) ms bs → IsMemoryOf ls m b → AllZip (IsMemoryOf ls) (ms ++ m ∷ []) (bs ++ b ∷ [])
sized-push ls [] [] m b h k = (k, tt)
sized-push ls (x ∷ ms) (c ∷ bs) m b h k = (h.0, sized-push ls ms bs m b h.1 k)
sized-push ls _ _ m b h k = absurd h

-- ---- the memory of one block changed

memory_changed_sized : (ls : List Loan) (k : ℕ) (change : List ℕ → List ℕ) (m : Memory) (b : Block) → ((bytes : List ℕ) → length (change bytes) ≡ length bytes) → IsMemoryOf ls m b → IsMemoryOf ls (memory_changed k change m) b
memory_changed_sized ls k change m b keeps h = go (m.block == k)
  where
    go : (t : Bool) → IsMemoryOf ls (cond t (record m { bytes = change m.bytes }) m) b
    go true = record { block = h.block; len = λ free. keeps m.bytes ∙ h.len free }
    go false = h

pub changed_sized : (ls : List Loan) (k : ℕ) (change : List ℕ → List ℕ) (ms : List Memory) (bs : List Block) → ((bytes : List ℕ) → length (change bytes) ≡ length bytes) → AllZip (IsMemoryOf ls) ms bs → AllZip (IsMemoryOf ls) (map (memory_changed k change) ms) bs
changed_sized ls k change [] [] keeps h = tt
changed_sized ls k change (m ∷ ms) (b ∷ bs) keeps h = (memory_changed_sized ls k change m b keeps h.0, changed_sized ls k change ms bs keeps h.1)
changed_sized ls k change _ _ keeps h = absurd h

-- ---- a transfer

-- a transfer keeps the length of host memory
pub length-host_made : (o : Option Transfer) (attached : List Attachment) (ms : List Memory) (host : List ℕ) → length (host_made o attached ms host) ≡ length host
length-host_made None attached ms host = refl
length-host_made (Some t) attached ms host = go t.out
  where
    go : (b : Bool) → length (cond b (bytes_moved_out (is_moved t.section t.block attached) (bytes_of t.block ms) (first_address t) host) host) ≡ length host
    go true = length-moved_out (is_moved t.section t.block attached) (bytes_of t.block ms) (first_address t) host
    go false = refl

-- and those of the blocks' memories
pub made_sized : (ls : List Loan) (o : Option Transfer) (attached : List Attachment) (host : List ℕ) (ms : List Memory) (bs : List Block) → AllZip (IsMemoryOf ls) ms bs → AllZip (IsMemoryOf ls) (memories_made o attached host ms) bs
made_sized ls None attached host ms bs h = h
made_sized ls (Some t) attached host ms bs h = go t.out
  where
    moved : ℕ → Bool
    moved = is_moved t.section t.block attached

    go : (b : Bool) → AllZip (IsMemoryOf ls) (cond b ms (map (memory_changed t.block (bytes_moved_in moved host (first_address t))) ms)) bs
    go true = h
    go false = changed_sized ls t.block (bytes_moved_in moved host (first_address t)) ms bs (length-moved_in moved host (first_address t)) h

-- ---- a task

-- counting keeps the block of a range
pub recounted-block : (task : Task) (r : Range) → (recounted task r).block ≡ r.block
recounted-block (Enter Structured item queue) r = refl
recounted-block (ExitData finalize item queue) r = go finalize
  where
    go : (b : Bool) → (recounted (ExitData b item queue) r).block ≡ r.block
    go true = refl
    go false = refl
recounted-block _ r = refl

-- and its section
pub recounted-section : (task : Task) (r : Range) → (recounted task r).section ≡ r.section
recounted-section (Enter Structured item queue) r = refl
recounted-section (ExitData finalize item queue) r = go finalize
  where
    go : (b : Bool) → (recounted (ExitData b item queue) r).section ≡ r.section
    go true = refl
    go false = refl
recounted-section _ r = refl

-- the memory of a block that is born by a task is as long as the block
pub is_born_memory : (ls : List Loan) (task : Task) (block place : ℕ) → IsMemoryOf ls (record { block = block; bytes = replicate (section_of task).len (fill_of task) })
    (record { number = (recounted task (bare_range (section_of task) block)).block; place = place; len = (recounted task (bare_range (section_of task) block)).section.len })
is_born_memory ls task block place = record {
  block = sym (recounted-block task (bare_range (section_of task) block));
  len = λ _. length-replicate (section_of task).len (fill_of task) ∙ sym (ap (λ (s : Section). s.len) (recounted-section task (bare_range (section_of task) block)));
}

-- memories are as long as their blocks after a block was given back, where it was
pub released_sized : (k : ℕ) (w : Records) (ms : List Memory) → AllZip (IsMemoryOf w.loans) ms w.blocks → AllZip (IsMemoryOf w.loans) (memories_released k (released k w) ms) (released k w).blocks
unfolding released
released_sized k w ms h = go (is_in_use k w)
  where
    go : (t : Bool) → AllZip (IsMemoryOf w.loans) (cond t ms (without_memory k ms)) (cond t w.blocks (without_block k w.blocks))
    go true = h
    go false = without_sized w.loans k ms w.blocks h

-- and after a step, whatever the task
pub step_sized : (l : Limits) (task : Task) (step : Step) (s : State) → AreMemoriesSized l s → AreMemoriesSized l (step_state task step s)
unfolding step_state act_step act_row records_after_birth records_after_end released with_range_changed
step_sized l task step s h = record { host = length-host_made (made_now task step s.records.ranges) s.records.attached s.memories s.host ∙ h.host; blocks = blocks step }
  where
    made : (step : Step) → AllZip (IsMemoryOf s.records.loans) (memories_made (made_now task step s.records.ranges) s.records.attached s.host s.memories) s.records.blocks
    made step = made_sized s.records.loans (made_now task step s.records.ranges) s.records.attached s.host s.memories s.records.blocks h.blocks

    blocks : (step : Step) → AllZip (IsMemoryOf (act_step task step s.records).loans) (memories_acted task step s) (act_step task step s.records).blocks
    blocks (Born k p) =
        let new : Memory = record { block = k; bytes = replicate (section_of task).len (fill_of task) } in
        let r : Range = recounted task (bare_range (section_of task) k) in
        let b : Block = record { number = r.block; place = p; len = r.section.len } in
        made_sized s.records.loans (made_now task (Born k p) s.records.ranges) s.records.attached s.host (s.memories ++ new ∷ []) (s.records.blocks ++ b ∷ []) (sized-push s.records.loans s.memories s.records.blocks new b h.blocks (is_born_memory s.records.loans task k p))
    blocks (Dropped k true) =
        let w : Records = record (with_put task (Dropped k true) s.records) { ranges = without_range k s.records.ranges } in
        released_sized k w (memories_made (made_now task (Dropped k true) s.records.ranges) s.records.attached s.host s.memories) (made (Dropped k true))
    blocks step = made step

-- and after an attachment or a detachment
pub aimed_sized : (l : Limits) (aim : Aim) (s : State) → AreMemoriesSized l s → AreMemoriesSized l (aimed aim s)
unfolding aimed
aimed_sized l aim s h = record { host = h.host; blocks = go aim }
  where
    written : (block pointer : ℕ) (source : ℕ → ℕ) → AllZip (IsMemoryOf s.records.loans) (pointer_written block pointer source s) s.records.blocks
    written block pointer source = changed_sized s.records.loans block (written_bytes (covers (pointer_at pointer)) source (start_of block s.records.ranges)) s.memories s.records.blocks
        (λ bytes. length-written_bytes (covers (pointer_at pointer)) source (start_of block s.records.ranges) bytes) h.blocks

    go : (a : Aim) → AllZip (IsMemoryOf s.records.loans) (memories_aimed a s) s.records.blocks
    go (aims.New pointer block target) = written block pointer (λ a. slice_index (to_le_bytes w64 target) (a - pointer))
    go (aims.Less pointer block) = last (count_at block pointer s.records.attached == 1)
      where
        last : (b : Bool) → AllZip (IsMemoryOf s.records.loans) (cond b (pointer_written block pointer (host_byte s.host) s) s.memories) s.records.blocks
        last true = written block pointer (host_byte s.host)
        last false = h.blocks
    go (aims.Cleared pointer block) = written block pointer (host_byte s.host)
    go _ = h.blocks

-- and after a task, whatever it did
pub act_sized : (l : Limits) (task : Task) (did : Did) (s : State) → AreMemoriesSized l s → AreMemoriesSized l (act_state task did s)
unfolding act_state
act_sized l (Enter counter item queue) did s h = aimed_sized l did.aim (step_state (Enter counter item queue) did.step s) (step_sized l (Enter counter item queue) did.step s h)
act_sized l task did s h = step_sized l task did.step (aimed did.aim s) (aimed_sized l did.aim s h)

-- and after a list of tasks
pub act_all_sized : (l : Limits) (tasks : List Task) (dids : List Did) (s : State) → AreMemoriesSized l s → AreMemoriesSized l (act_all_state tasks dids s)
unfolding act_all_state
act_all_sized l [] [] s h = h
act_all_sized l (t ∷ ts) (d ∷ ds) s h = act_all_sized l ts ds (act_state t d s) (act_sized l t d s h)
act_all_sized l _ _ s h = h

-- ---- queued transfers

stepped_sized : (l : Limits) (q : ℕ) (s : State) → AreMemoriesSized l s → AreMemoriesSized l (stepped q s)
unfolding stepped released
stepped_sized l q s h = go (head_of q s.records.queues)
  where
    go : (o : Option Transfer) → AreMemoriesSized l (state_made q o s)
    go None = h
    go (Some t) = record {
      host = length-host_made (Some t) s.records.attached s.memories s.host ∙ h.host;
      blocks = released_sized t.block (record s.records { queues = popped q s.records.queues }) (memories_made (Some t) s.records.attached s.host s.memories) (made_sized s.records.loans (Some t) s.records.attached s.host s.memories s.records.blocks h.blocks);
    }

pub drained_sized : (l : Limits) (qs : List ℕ) (s : State) → AreMemoriesSized l s → AreMemoriesSized l (drained qs s)
unfolding drained
drained_sized l [] s h = h
drained_sized l (q ∷ qs) s h = drained_sized l qs (stepped q s) (stepped_sized l q s h)

-- ---- an event

-- the bytes that a call brings keep the length of host memory
pub length-host_after : (e : Event) (brought host : List ℕ) → length (host_after e brought host) ≡ length host
length-host_after (HostWritten addr len bytes) brought host = length-host_after_write addr len brought host
length-host_after _ brought host = refl

-- the bytes that a call brings back are as many as the block has
abbrev pub AreBrought : Event → List ℕ → Records → Type 0
AreBrought (Gathered device serial block bytes) brought w = AllByRecursion (λ b. b.number ≡ block → length brought ≡ b.len) w.blocks
AreBrought _ brought w = ⊤

-- the memory of a block that is lent has no length to keep
pub lent_sized : (new : Loan) (change : List ℕ → List ℕ) (ls : List Loan) (ms : List Memory) (bs : List Block) → AllZip (IsMemoryOf ls) ms bs → AllZip (IsMemoryOf (with_loan new ls)) (map (memory_changed new.block change) ms) bs
lent_sized new change ls [] [] h = tt
lent_sized new change ls (m ∷ ms) (b ∷ bs) h = (go (m.block == new.block) refl, lent_sized new change ls ms bs h.1)
  where
    go : (t : Bool) → (m.block == new.block) ≡ t → IsMemoryOf (with_loan new ls) (cond t (record m { bytes = change m.bytes }) m) b
    go true e = record { block = h.0.block; len = λ free. absurd (true≢false (sym (is_lent-with_same new ls b.number (sym (equal _ _ e) ∙ h.0.block)) ∙ free)) }
    go false e = record { block = h.0.block; len = λ free. h.0.len (is_lent-with_free new ls b.number free) }
lent_sized new change ls _ _ h = absurd h

-- that of a block that came back has its length again
pub gathered_sized : (k : ℕ) (brought : List ℕ) (ls : List Loan) (ms : List Memory) (bs : List Block) → AllByRecursion (λ b. b.number ≡ k → length brought ≡ b.len) bs → AllZip (IsMemoryOf ls) ms bs
    → AllZip (IsMemoryOf (without_loan k ls)) (map (memory_changed k (λ _. brought)) ms) bs
gathered_sized k brought ls [] [] fits h = tt
gathered_sized k brought ls (m ∷ ms) (b ∷ bs) fits h = (go (m.block == k) refl, gathered_sized k brought ls ms bs fits.1 h.1)
  where
    go : (t : Bool) → (m.block == k) ≡ t → IsMemoryOf (without_loan k ls) (cond t (record m { bytes = brought }) m) b
    go true e = record { block = h.0.block; len = λ free. fits.0 (sym h.0.block ∙ equal _ _ e) }
    go false e = record { block = h.0.block; len = λ free. h.0.len (sym (is_lent-without_other b.number k ls (subst (λ n. (n == k) ≡ false) h.0.block e)) ∙ free) }
gathered_sized k brought ls _ _ fits h = absurd h

-- and so are those after an event, whatever it did to loans
loaned_sized : (full : Bool) (e : Event) (brought : List ℕ) (w : Records) (ms : List Memory) → AreBrought e brought w → AllZip (IsMemoryOf w.loans) ms w.blocks → AllZip (IsMemoryOf (loaned e w).loans) (memories_after full e brought ms) (loaned e w).blocks
unfolding loaned
loaned_sized full (Lent device region section block serial) brought w ms fits h = lent_sized (loan_at serial block section w.ranges) (recorded full) w.loans ms w.blocks h
loaned_sized full (Gathered device serial block bytes) brought w ms fits h = gathered_sized block brought w.loans ms w.blocks fits h
loaned_sized full _ brought w ms fits h = h

-- what an event asks of the bytes that are brought back is asked of the blocks before its call
brought_last : (e : Event) (brought : List ℕ) (s : State) → AreBrought e brought s.records → AreBrought e brought (drained (stepped_in e s.records.queues) (act_all_state (asked_in e s.register) (done_in e) s)).records
unfolding drained act_all_state
brought_last (Gathered device serial block bytes) brought s fits = fits
brought_last _ brought s fits = tt

-- memories are as long as their blocks after an event
pub event_sized : (l : Limits) (full : Bool) (e : Event) (brought : List ℕ) (s : State) → AreBrought e brought s.records → AreMemoriesSized l s → AreMemoriesSized l (after full e brought s)
unfolding after
event_sized l full e brought s fits h =
    let acted : AreMemoriesSized l (act_all_state (asked_in e s.register) (done_in e) s) = act_all_sized l (asked_in e s.register) (done_in e) s h in
    let last : State = drained (stepped_in e s.records.queues) (act_all_state (asked_in e s.register) (done_in e) s) in
    let made : AreMemoriesSized l last = drained_sized l (stepped_in e s.records.queues) (act_all_state (asked_in e s.register) (done_in e) s) acted in
    record { host = length-host_after e brought last.host ∙ made.host; blocks = loaned_sized full e brought last.records last.memories (brought_last e brought s fits) made.blocks }

-- and at first
pub new_sized : (l : Limits) → AreMemoriesSized l (new_state l.host)
new_sized l = record { host = length-replicate l.host 0; blocks = tt }
