-- A task that was judged keeps the records sound, with what it puts into a queue.
use Rattle.std.proofs.Common.{ℕ, ◌≡◌, ◌+◌, ◌-◌, ◌≤◌, refl, ap, subst, Bool, true, false, cond, List, [], ◌∷◌, ◌++◌, Option, Some, None, Ok, arith, ◌<◌}
use Rattle.std.specs.Prelude.{◌==◌, not, ◌||◌, is_some, unwrap_or, option_map, IfSome, ⊤}
use Rattle.std.proofs.lemmas.Bool.Decides.{nat_tests}
use Rattle.acc_base.specs.Words.{Section, Range, Block, Task, Transfer, Step}
use Rattle.acc_base.specs.declared.mappings.Counter.TheVariants.{Structured, Dynamic}
use Rattle.acc_base.specs.declared.tasks.Task.TheVariants.{Enter, ExitRegion, ExitData, Move}
use Rattle.acc_base.specs.declared.events.Step.TheVariants.{Nothing, Counted, Born, Dropped, Moved}
use Rattle.acc_base.specs.Limits.{Limits, IsWithinBounds}
use Rattle.acc_base.specs.Section.{is_empty, is_within}
use Rattle.acc_base.specs.Records.{Records}
use Rattle.acc_base.specs.Ranges.{range_of, start_of, bare_range, risen}
use Rattle.acc_base.specs.Blocks.{block_at}
use Rattle.acc_base.specs.Queues.{put, pins_of, queue_room}
use Rattle.acc_base.specs.Clauses.{copies_in, is_copyout, is_to_self}
use Rattle.acc_base.specs.Tasks.{section_of, queue_of, recounted}
use Rattle.acc_base.specs.Loans.{not_lent}
use Rattle.acc_base.specs.Steps.{block_needed}
use Rattle.acc_base.specs.Transfers.{transfer_at, transfer_of, room_for, queues_after}
use Rattle.acc_base.specs.Steps.{is_in_use, records_after_birth, with_range_changed, act_row, with_put, act_step}
use Rattle.acc_base.specs.Accounts.{IsMapped, IsTransferSound, AreRecordsSound}
use Rattle.acc_base.proofs.Elements.{AllByRecursion-weaker, found_has}
use Rattle.acc_base.proofs.Lookups.{at-own, at-none, at-push_new}
use Rattle.acc_base.proofs.Where.{IsInsideOf, inside_says, absent_says}
use Rattle.acc_base.proofs.Judged.{IsBirth, IsInRangeOf, IsJudgedTo, IsStepFree, not_lent_says}
use Rattle.acc_base.proofs.Queued.{pins-le_put, queues-put}
use Rattle.acc_base.proofs.RangeChanges.{KeepsPlace, block_of}
use Rattle.acc_base.proofs.Sound.{number_of_block, recounted_keeps, counted_sound, dropped_sound, ended_sound, birth_sound, first_counted}

-- ---- the clause tables

row_sound : (l : Limits) (task : Task) (step : Step) (w : Records) → IsWithinBounds l → IsJudgedTo l task step w → not_lent (block_needed task step) w.loans ≡ Ok tt → AreRecordsSound l w → AreRecordsSound l (act_row task step w)
unfolding act_row
row_sound l task Nothing w bounds says free h = h
row_sound l (Enter counter item queue) (Counted k) w bounds says free h = counted_sound l counter item queue k w h says
row_sound l (Enter Structured item queue) (Born k p) w bounds says free h = birth_sound l (risen Structured (bare_range (section_of (Enter Structured item queue)) k)) p w bounds (first_counted l Structured (section_of (Enter Structured item queue)) k bounds) says h
row_sound l (Enter Dynamic item queue) (Born k p) w bounds says free h = birth_sound l (risen Dynamic (bare_range (section_of (Enter Dynamic item queue)) k)) p w bounds (first_counted l Dynamic (section_of (Enter Dynamic item queue)) k bounds) says h
row_sound l (Enter counter item queue) (Moved k) w bounds says free h = h
row_sound l (ExitRegion holding) (Dropped k true) w bounds says free h = ended_sound l k w (not_lent_says k w.loans free) h
row_sound l (ExitRegion holding) (Dropped k false) w bounds says free h = dropped_sound l (recounted (ExitRegion holding)) k w (recounted_keeps (ExitRegion holding)) (λ r. omega arith) (λ r. omega arith) h says.1
row_sound l (ExitRegion holding) (Moved k) w bounds says free h = h
row_sound l (ExitData finalize item queue) (Dropped k true) w bounds says free h = ended_sound l k w (not_lent_says k w.loans free) h
row_sound l (ExitData true item queue) (Dropped k false) w bounds says free h = dropped_sound l (recounted (ExitData true item queue)) k w (recounted_keeps (ExitData true item queue)) (λ r. omega arith) (λ r. omega arith) h says.ended_is
row_sound l (ExitData false item queue) (Dropped k false) w bounds says free h = dropped_sound l (recounted (ExitData false item queue)) k w (recounted_keeps (ExitData false item queue)) (λ r. omega arith) (λ r. omega arith) h says.ended_is
row_sound l (ExitData finalize item queue) (Moved k) w bounds says free h = h
row_sound l (Move if_present item queue) (Moved k) w bounds says free h = h
row_sound l _ _ w bounds says free h = absurd says

-- ---- one transfer more in a queue

-- more pins keep a block in use
more_pins : {X : Type 0} (o : Option X) (m n : ℕ) → m ≤ n → (is_some o || not (m == 0)) ≡ true → (is_some o || not (n == 0)) ≡ true
more_pins None m n le e = grind (arith, nat_tests)
more_pins (Some x) m n le e = refl

pub put_sound : (l : Limits) (q : ℕ) (t : Transfer) (w : Records) → IsTransferSound l w.blocks t → queue_room l.queue_cap q w.queues ≡ Ok tt → AreRecordsSound l w → AreRecordsSound l (record w { queues = put q t w.queues })
put_sound l q t w sound room h = record {
  loans = h.loans;
  ranges_apart = h.ranges_apart;
  blocks_apart = h.blocks_apart;
  one_block_each = record {
    mapped = h.one_block_each.mapped;
    distinct = h.one_block_each.distinct;
    in_use = AllByRecursion-weaker (λ b. is_in_use b.number w ≡ true) (λ b. is_in_use b.number (record w { queues = put q t w.queues }) ≡ true) w.blocks
        (λ b p. more_pins (range_of b.number w.ranges) (pins_of b.number w.queues) (pins_of b.number (put q t w.queues)) (pins-le_put b.number q t w.queues) p) h.one_block_each.in_use;
  };
  counted = h.counted;
  attached = h.attached;
  queues = queues-put l w.blocks q t w.queues sound room h.queues;
}

-- what is put, if anything is, can be made later
abbrev pub IsPutSound : Limits → List Block → Option ℕ → Option Transfer → Type 0
IsPutSound l blocks None t = ⊤
IsPutSound l blocks (Some q) t = IfSome t (IsTransferSound l blocks)

-- where nothing is moved, nothing is put
no_put_sound : (l : Limits) (blocks : List Block) (q : Option ℕ) → IsPutSound l blocks q None
no_put_sound l blocks None = tt
no_put_sound l blocks (Some q) = tt

put_if : (l : Limits) (q : Option ℕ) (t : Option Transfer) (w : Records) → IsPutSound l w.blocks q t → room_for l.queue_cap q t w.queues ≡ Ok tt → AreRecordsSound l w → AreRecordsSound l (record w { queues = queues_after q t w.queues })
put_if l (Some q) (Some t) w sound room h = put_sound l q t w sound room h
put_if l _ _ w sound room h = h

-- ---- the transfer of a task

-- a copy of a section that is inside a range can be made
pub placed_sound : (l : Limits) (section : Section) (k : ℕ) (out : Bool) (w : Records) → AreRecordsSound l w → IsInRangeOf l section k w
    → IsTransferSound l w.blocks (record { block = k; offset = section.start - start_of k w.ranges; section = section; out = out })
placed_sound l section k out w h at =
    let found : (r : Range) × IsInsideOf section w.ranges k at.offset r = inside_says section w.ranges k at.offset at.inside in
    let r : Range = found.0 in
    let mapped : IsMapped w.blocks r × (is_within section r.section ≡ true) = found_has (IsMapped w.blocks) (λ x. is_within section x.section) w.ranges r h.one_block_each.mapped found.1.around in
    let own : (range_of r.block w.ranges ≡ Some r) × (is_within section r.section ≡ true) = found_has (λ x. range_of x.block w.ranges ≡ Some x) (λ x. is_within section x.section) w.ranges r (at-own block_of w.ranges h.one_block_each.distinct) found.1.around in
    let start : start_of k w.ranges ≡ r.section.start = subst (λ n. start_of n w.ranges ≡ r.section.start) found.1.block_is (ap (λ (o : Option Range). unwrap_or (option_map (λ (x : Range). x.section.start) o) 0) own.0) in
    let len : mapped.0.0.len ≡ r.section.len = mapped.0.2 in
    record {
      block = mapped.0.0;
      there = subst (λ n. block_at n w.blocks ≡ Some mapped.0.0) found.1.block_is mapped.0.1;
      in_host = record { some = at.some; within = at.within };
      offset = omega arith;
      within = fits (start_of k w.ranges) r.section mapped.0.0.len start len mapped.1;
    }
  where
    fits : (s : ℕ) (range : Section) (n : ℕ) → s ≡ range.start → n ≡ range.len → is_within section range ≡ true → section.start - s + section.len ≤ n
    fits s range n start len within = grind (arith, nat_tests)

-- so can the one that fills a new block
born_placed : (l : Limits) (section : Section) (k p : ℕ) (w : Records) (b : Block) → b.number ≡ k → b.len ≡ section.len → AreRecordsSound l w → IsBirth l section k p w
    → IsTransferSound l (w.blocks ++ b ∷ []) (record { block = k; offset = 0; section = section; out = false })
unfolding number_of_block
born_placed l section k p w b number len h birth =
    let first : k ≡ w.births + 1 = birth.number in
    let none : block_at b.number w.blocks ≡ None = at-none number_of_block b.number w.blocks (AllByRecursion-weaker (λ c. c.number ≤ w.births) (λ c. c.number ≡ b.number → ⊥) w.blocks (λ c n same. omega arith) h.blocks_apart.born) in
    record {
      block = b;
      there = subst (λ n. block_at n (w.blocks ++ b ∷ []) ≡ Some b) number (at-push_new number_of_block w.blocks b none);
      in_host = record { some = filled section (absent_says section w.ranges birth.absent).1; within = birth.within };
      offset = omega arith;
      within = omega arith;
    }
  where
    filled : (s : Section) → is_empty s ≡ false → 0 < s.len
    filled s e = grind (arith, nat_tests)

-- what a task puts can be made in what its row leaves, and before it where a mapping ends
moved_sound : (l : Limits) (task : Task) (k : ℕ) (w : Records) → IsJudgedTo l task (Moved k) w → AreRecordsSound l w → IsPutSound l w.blocks (queue_of task) (transfer_of task (Moved k) w.ranges)
moved_sound l (ExitRegion holding) k w says h = tt
moved_sound l (Move if_present item None) k w says h = tt
moved_sound l (Move if_present item (Some q)) k w says h = placed_sound l item.section k (is_to_self item.clause) w h says
moved_sound l _ k w says h = absurd says

end_sound : (l : Limits) (task : Task) (k : ℕ) (w : Records) → IsJudgedTo l task (Dropped k true) w → AreRecordsSound l w → IsPutSound l w.blocks (queue_of task) (transfer_of task (Dropped k true) w.ranges)
end_sound l (ExitRegion holding) k w says h = tt
end_sound l (ExitData finalize item None) k w says h = tt
end_sound l (ExitData finalize item (Some q)) k w says h =
    let placed : IsTransferSound l w.blocks (transfer_at (ExitData finalize item (Some q)) k w.ranges) = placed_sound l (section_of (ExitData finalize item (Some q))) k true w h says.range in
    elim (is_copyout item.clause) as (λ b. IfSome (cond b (Some (transfer_at (ExitData finalize item (Some q)) k w.ranges)) None) (IsTransferSound l w.blocks)) [ true ↦ placed | false ↦ tt ]
end_sound l _ k w says h = absurd says

start_sound : (l : Limits) (task : Task) (k p : ℕ) (w : Records) → IsJudgedTo l task (Born k p) w → AreRecordsSound l w → IsPutSound l (act_row task (Born k p) w).blocks (queue_of task) (transfer_of task (Born k p) w.ranges)
unfolding act_row records_after_birth
start_sound l (Enter counter item (Some q)) k p w says h =
    let task : Task = Enter counter item (Some q) in
    let r : Range = recounted task (bare_range (section_of task) k) in
    let b : Block = record { number = r.block; place = p; len = r.section.len } in
    let keeps : KeepsPlace (recounted task) = recounted_keeps task in
    let placed : IsTransferSound l (w.blocks ++ b ∷ []) (record { block = k; offset = 0; section = section_of task; out = false })
    = born_placed l (section_of task) k p w b (keeps.block (bare_range (section_of task) k)) (ap (λ (s : Section). s.len) (keeps.section (bare_range (section_of task) k))) h says in
    elim (copies_in item.clause) as (λ t. IfSome (cond t (Some (record { block = k; offset = 0; section = section_of task; out = false })) None) (IsTransferSound l (w.blocks ++ b ∷ []))) [ true ↦ placed | false ↦ tt ]
start_sound l (ExitData finalize item queue) k p w says h = absurd says
start_sound l (Move if_present item queue) k p w says h = absurd says
start_sound l _ k p w says h = tt

-- ---- a task

-- a step that was judged, of a block that is not lent, with free.room in its queue
pub acted_sound : (l : Limits) (task : Task) (step : Step) (w : Records) → IsWithinBounds l → IsJudgedTo l task step w → IsStepFree l task step w → AreRecordsSound l w → AreRecordsSound l (act_step task step w)
unfolding act_step act_row records_after_birth with_range_changed
acted_sound l task Nothing w bounds says free h = put_if l (queue_of task) None w (no_put_sound l w.blocks (queue_of task)) free.room h
acted_sound l task (Born k p) w bounds says free h = put_if l (queue_of task) (transfer_of task (Born k p) w.ranges) (act_row task (Born k p) w) (start_sound l task k p w says h) free.room (row_sound l task (Born k p) w bounds says free.needed h)
acted_sound l task (Dropped k true) w bounds says free h = ended_sound l k (with_put task (Dropped k true) w) (not_lent_says k w.loans free.needed) (put_if l (queue_of task) (transfer_of task (Dropped k true) w.ranges) w (end_sound l task k w says h) free.room h)
acted_sound l task (Moved k) w bounds says free h = put_if l (queue_of task) (transfer_of task (Moved k) w.ranges) w (moved_sound l task k w says h) free.room h
acted_sound l task step w bounds says free h = put_if l (queue_of task) None (act_row task step w) (no_put_sound l w.blocks (queue_of task)) free.room (row_sound l task step w bounds says free.needed h)
