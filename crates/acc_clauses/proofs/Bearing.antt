-- What a birth leaves of the parts: the block with its bytes and its range, and then the copy that is put into a queue.
use Rattle.std.proofs.lemmas.Bool.Decides.{nat_tests}
use Rattle.std.proofs.Common.{ℕ, ◌≡◌, ◌+◌, ◌-◌, ◌≤◌, refl, sym, ◌∙◌, ap, subst, Bool, true, false, cond, ◌&&◌, List, [], ◌∷◌, ◌++◌, length, replicate, Option, Some, None, arith}
use Rattle.std.specs.Prelude.{IsSome, is_some, is_none}
use Rattle.std.specs.List.{AllByRecursion, AllZip}
use Rattle.acc_clauses.specs.Words.{Section, Item, RegionClause, Counter, Range, Block, Attachment, Transfer}
use Rattle.acc_base.specs.declared.tasks.Task.TheVariants.{Enter}
use Rattle.acc_base.specs.declared.events.Step.TheVariants.{Born}
use Rattle.acc_base.specs.Section.{covers, is_within, host_memory}
use Rattle.acc_base.specs.Records.{Memory, State}
use Rattle.acc_base.specs.Ranges.{with_range, bare_range, risen}
use Rattle.acc_base.specs.Blocks.{block_at}
use Rattle.acc_base.specs.Queues.{pins_of}
use Rattle.acc_base.specs.Clauses.{copies_in, is_zeroed}
use Rattle.acc_base.specs.Tasks.{section_of, recounted}
use Rattle.acc_base.specs.Transfers.{at_once, made_now, queues_after}
use Rattle.acc_base.specs.Steps.{records_after_birth, act_row, act_step}
use Rattle.acc_base.specs.Bytes.{fill_byte, host_byte, is_moved, bytes_moved_in, memories_begun, memories_made, host_made, step_state}
use Rattle.acc_base.proofs.Lookups.{at-none, at-push_new}
use Rattle.acc_base.proofs.Elements.{AllByRecursion-weaker}
use Rattle.acc_base.proofs.Memories.{recounted-block, recounted-section}
use Rattle.acc_base.proofs.Pointers.{fresh-clear}
use Rattle.acc_dev.specs.Host.{bytes_in}
use Rattle.acc_present.specs.Present.{PresentState, with_ranges}
use Rattle.acc_dev.specs.Marks.{new_mark, IsMarkOf}
use Rattle.acc_dev.specs.Device.{DeviceState}
use Rattle.acc_clauses.specs.Contents.{WithHost, AreMarked, IsMarkRight, state_of, room_of, bare_state}
use Rattle.acc_clauses.specs.Overlays.{is_queue, puts_by}
use Rattle.acc_clauses.specs.Acts.{CanBear, CanPut, CanQueue, HasPutRoom, IsBlockMade, bytes_made, moved_state, filled_later, IsChangedBy, IsFilledLater, IsActedBy}
use Rattle.acc_clauses.proofs.Runs.{written-same}
use Rattle.acc_clauses.proofs.Copying.{moved-clear, born_copied, changed-last}
use Rattle.acc_clauses.proofs.Changes.{state_from_parts, same_state, both}
use Rattle.acc_clauses.proofs.Marked.{marks_born, marks_old}
use Rattle.acc_clauses.proofs.Giving.{step_puts}

-- ---- the block, its range and its bytes

-- the range that a birth adds
abbrev pub born_range : Counter → Item RegionClause → Option ℕ → ℕ → Range
born_range counter item queue k = recounted (Enter counter item queue) (bare_range (section_of (Enter counter item queue)) k)

-- the state with the block and its range, which has these bytes
abbrev pub born_state : Counter → Item RegionClause → Option ℕ → Bool → ℕ → ℕ → State → State
born_state counter item queue copied k place s = record s {
  records = records_after_birth (born_range counter item queue k) place s.records;
  memories = s.memories ++ record { block = k; bytes = bytes_made copied (section_of (Enter counter item queue)) item.clause s.host } ∷ [];
}

one_value : (a b : ℕ) (o : Option ℕ) → o ≡ Some a → o ≡ Some b → a ≡ b
one_value a b o e h = cc

-- the block that a birth adds is the one that the definitions name
born_as_named : (counter : Counter) (item : Item RegionClause) (queue : Option ℕ) (k n p q : ℕ) → k ≡ n → p ≡ q
    → ◌≡◌ {A = Block} (record { number = n; place = q; len = (section_of (Enter counter item queue)).len }) (record { number = (born_range counter item queue k).block; place = p; len = (born_range counter item queue k).section.len })
born_as_named counter item queue k n p q e h = rw (recounted-block (Enter counter item queue) (bare_range (section_of (Enter counter item queue)) k), recounted-section (Enter counter item queue) (bare_range (section_of (Enter counter item queue)) k), e, h) refl

-- the marks are right with that of the new block
born_marked : (counter : Counter) (item : Item RegionClause) (queue : Option ℕ) (k births : ℕ) (x : WithHost) → k ≡ births + 1 → pins_of k x.queues.queues ≡ 0 → AllZip IsMarkOf x.device.marks x.device.blocks → AllByRecursion (λ b. b.number ≤ births) x.device.blocks → AreMarked x
    → AllByRecursion (IsMarkRight (with_range (born_range counter item queue k) x.present.table.ranges) x.queues.queues) (x.device.marks ++ new_mark (births + 1) ∷ [])
born_marked counter item queue k births x number unpinned zip born marked =
    let new : Range = born_range counter item queue k in
    let own : new.block ≡ k = recounted-block (Enter counter item queue) (bare_range (section_of (Enter counter item queue)) k) in
    subst (λ n. AllByRecursion (IsMarkRight (with_range new x.present.table.ranges) x.queues.queues) (x.device.marks ++ new_mark n ∷ [])) (own ∙ number)
    (marks_born new x.present.table.ranges x.queues.queues x.device.marks (subst (λ n. AllByRecursion (λ m. m.block ≡ n → ⊥) x.device.marks) (sym (own ∙ number)) (marks_old births x.device.marks x.device.blocks zip born))
    (ap (λ n. pins_of n x.queues.queues) own ∙ unpinned) marked)

pub born_changes : (counter : Counter) (item : Item RegionClause) (queue : Option ℕ) (copied : Bool) (k place : ℕ) (x : WithHost) (r : PresentState) (e : DeviceState)
    → CanBear x.present.table.counter_max x.device.memory (section_of (Enter counter item queue)) k place (bare_state x) → IsBlockMade x.device e copied (section_of (Enter counter item queue)) item.clause x.host
    → r.table ≡ with_ranges x.present.table (with_range (risen counter (bare_range (section_of (Enter counter item queue)) k)) x.present.table.ranges) → x.present.room.ranges ≤ r.room.ranges + 1 → x.present.room.regions ≤ r.room.regions → x.present.room.holdings ≤ r.room.holdings
    → AllZip IsMarkOf x.device.marks x.device.blocks → AllByRecursion (λ b. b.number ≤ x.device.births) x.device.blocks → AreMarked x
    → IsChangedBy (born_state counter item queue copied k place) ((section_of (Enter counter item queue)).len ∷ []) 0 (λ n. 0) x (record x { present = r; device = e })
unfolding records_after_birth
born_changes counter item queue copied k place x r e can made put ranges regions holdings zip born marked =
    let new : WithHost = record x { present = r; device = e } in
    let where_it_is : place ≡ made.place = one_value place made.place _ can.place_is made.place_is in
    let all : r.table.ranges ≡ with_range (born_range counter item queue k) x.present.table.ranges = ap (λ t. t.ranges) put in
    let blocks : e.blocks ≡ (records_after_birth (born_range counter item queue k) place (bare_state x).records).blocks = made.blocks ∙ ap (λ b. x.device.blocks ++ b ∷ []) (born_as_named counter item queue k (x.device.births + 1) place made.place can.number where_it_is) in
    let memories : e.memories ≡ x.device.memories ++ record { block = k; bytes = bytes_made copied (section_of (Enter counter item queue)) item.clause x.host } ∷ [] =
    made.memories ∙ ap (λ n. x.device.memories ++ record { block = n; bytes = bytes_made copied (section_of (Enter counter item queue)) item.clause x.host } ∷ []) (sym can.number) in
    record {
      state = λ next. state_from_parts new next (born_state counter item queue copied k place (state_of x next)) all blocks refl made.births refl made.loans (ap (λ t. t.regions) put) refl refl refl memories;
      counter_max = ap (λ t. t.counter_max) put;
      memory = made.memory;
      pointer_max = refl;
      queue_cap = refl;
      room = record { births_are = made.room; ranges = ranges; regions = regions; holdings = holdings; attachments = omega arith; puts = λ n. omega arith };
      marked = rw (all, made.marks) (born_marked counter item queue k x.device.births x can.number can.no_transfer zip born marked);
    }

-- ---- the copy

-- the copy to the new block can be put into the queue
pub born_can_put : (counter : Counter) (item : Item RegionClause) (queue : Option ℕ) (copied : Bool) (k place q : ℕ) (x : WithHost) (r : PresentState) (e : DeviceState) → CanQueue (Enter counter item queue) (Born k place) x → HasPutRoom (λ n. puts_by n (Enter counter item queue) (Born k place)) (room_of x)
    → k ≡ x.device.births + 1 → IsBlockMade x.device e copied (section_of (Enter counter item queue)) item.clause x.host → AllByRecursion (λ b. b.number ≤ x.device.births) x.device.blocks → queue ≡ Some q → copies_in item.clause ≡ true
    → CanPut q (record { block = k; offset = 0; section = section_of (Enter counter item queue); out = false }) x.queues e
born_can_put counter item queue copied k place q x r e can puts number made born named copies =
    step_puts (Enter counter item queue) (Born k place) q (record { block = k; offset = 0; section = section_of (Enter counter item queue); out = false }) x (record x { present = r; device = e }) named (rw copies refl) copies can puts refl there
  where
    new : Block
    new = record { number = x.device.births + 1; place = made.place; len = (section_of (Enter counter item queue)).len }

    absent : block_at (x.device.births + 1) x.device.blocks ≡ None
    absent = at-none (λ (b : Block). b.number) (x.device.births + 1) x.device.blocks (AllByRecursion-weaker (λ b. b.number ≤ x.device.births) (λ b. b.number ≡ x.device.births + 1 → ⊥) x.device.blocks (λ b low same. absurd (omega (arith, low, same))) born)

    there : IsSome (block_at k e.blocks)
    there = rw (number, made.blocks, at-push_new (λ (b : Block). b.number) x.device.blocks new absent) refl

-- the new block's memory, with the bytes that a birth gives it at once
born_memories : (counter : Counter) (item : Item RegionClause) (queue : Option ℕ) (k place : ℕ) (ranges : List Range) (attached : List Attachment) (host : List ℕ) (ms : List Memory) → is_within (section_of (Enter counter item queue)) (host_memory (length host)) ≡ true
    → AllByRecursion (λ m. m.block ≡ k → ⊥) ms → AllByRecursion (λ a. a.block ≡ k → ⊥) attached
    → ms ++ record { block = k; bytes = bytes_made (copies_in item.clause && is_none queue) (section_of (Enter counter item queue)) item.clause host } ∷ []
    ≡ memories_made (made_now (Enter counter item queue) (Born k place) ranges) attached host (memories_begun (Enter counter item queue) (Born k place) ms)
born_memories counter item queue k place ranges attached host ms in_host new bare = go (copies_in item.clause) queue
  where
    section : Section
    section = section_of (Enter counter item queue)

    fill : ℕ
    fill = fill_byte (is_zeroed item.clause)

    t : Transfer
    t = record { block = k; offset = 0; section = section_of (Enter counter item queue); out = false }

    go : (b : Bool) (o : Option ℕ) → ms ++ record { block = k; bytes = cond (b && is_none o) (bytes_in host section) (replicate section.len fill) } ∷ [] ≡ memories_made (at_once o (cond b (Some t) None)) attached host (ms ++ record { block = k; bytes = replicate section.len fill } ∷ [])
    go true None = sym (changed-last k (bytes_moved_in (is_moved section k attached) host (section.start - 0)) (replicate section.len fill) ms new
        ∙ ap (λ x. ms ++ record { block = k; bytes = x } ∷ []) (
        written-same (is_moved section k attached) (covers section) (host_byte host) (section.start - 0) (replicate section.len fill) (λ a. moved-clear section k attached a (fresh-clear k attached bare a))
        ∙ born_copied section (section.start - 0) fill host in_host (omega arith)))
    go false None = refl
    go _ _ = refl

-- a birth leaves host memory
born_host : (b : Bool) (o : Option ℕ) (k : ℕ) (section : Section) (attached : List Attachment) (host : List ℕ) (ms : List Memory) → host ≡ host_made (at_once o (cond b (Some (record { block = k; offset = 0; section = section; out = false })) None)) attached ms host
born_host b o k section attached host ms = grind (arith, nat_tests)

-- a copy that is put changes the queues alone
filled_is : (b : Bool) (o : Option ℕ) (t : Transfer) (s : State) → cond (b && is_some o) (moved_state o t s) s ≡ record s { records = record s.records { queues = queues_after o (cond b (Some t) None) s.records.queues } }
filled_is b o t s = grind (arith, nat_tests)

-- both are the step of the birth
born_whole : (counter : Counter) (item : Item RegionClause) (queue : Option ℕ) (k place : ℕ) (s : State) → is_within (section_of (Enter counter item queue)) (host_memory (length s.host)) ≡ true
    → AllByRecursion (λ m. m.block ≡ k → ⊥) s.memories → AllByRecursion (λ a. a.block ≡ k → ⊥) s.records.attached
    → filled_later queue item k (born_state counter item queue (copies_in item.clause && is_none queue) k place s) ≡ step_state (Enter counter item queue) (Born k place) s
unfolding step_state act_step act_row records_after_birth
born_whole counter item queue k place s in_host no_memory no_pointer = search (filled_is, same_state, born_host, born_memories)

-- the room of the queues that a birth takes
born_puts : (a b : Bool) → 0 + cond (a && b) 1 0 ≤ cond (a && b) 1 0
born_puts a b = omega arith

pub born_acts : (counter : Counter) (item : Item RegionClause) (queue : Option ℕ) (copied : Bool) (k place : ℕ) (x y z : WithHost) → CanBear x.present.table.counter_max x.device.memory (section_of (Enter counter item queue)) k place (bare_state x)
    → copied ≡ (copies_in item.clause && is_none queue) → IsChangedBy (born_state counter item queue copied k place) ((section_of (Enter counter item queue)).len ∷ []) 0 (λ q. 0) x y → IsFilledLater queue item k y z → IsActedBy (Enter counter item queue) (Born k place) x z
born_acts counter item queue copied k place x y z can so born filled =
    both (born_state counter item queue (copies_in item.clause && is_none queue) k place) (filled_later queue item k) (step_state (Enter counter item queue) (Born k place))
    ((section_of (Enter counter item queue)).len ∷ []) [] ((section_of (Enter counter item queue)).len ∷ []) 0 0 0 (λ q. 0) (λ q. cond (is_queue q queue && copies_in item.clause) 1 0) (λ q. puts_by q (Enter counter item queue) (Born k place)) x y z
    (λ next. born_whole counter item queue k place (state_of x next) can.in_host can.no_memory can.no_pointer) refl (omega arith) (λ q. born_puts (is_queue q queue) (copies_in item.clause))
    (subst (λ b. IsChangedBy (born_state counter item queue b k place) ((section_of (Enter counter item queue)).len ∷ []) 0 (λ q. 0) x y) so born) filled
