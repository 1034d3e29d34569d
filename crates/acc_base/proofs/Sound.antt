-- A task that was judged keeps the records sound. Ranges and blocks stay apart, each range has a block of its own, and
-- no range has both counters zero.
use Rattle.std.proofs.Common.{ℕ, zero, suc, ◌≡◌, ◌+◌, ◌%◌, ◌<◌, ◌≤◌, refl, sym, ◌∙◌, ap, subst, Bool, true, false, cond, List, [], ◌∷◌, ◌++◌, Option, Some, None, arith}
use Rattle.std.specs.Prelude.{◌⊎◌, ◌==◌, ◌&&◌, ◌||◌, not, nat_le, unwrap_or, option_map, is_some, length, replicate, IsSome, IfSome, ⊤}
use Rattle.std.specs.List.{AllByRecursion, list_all}
use Rattle.std.proofs.lemmas.Bool.Decides.{nat_tests}
use Rattle.acc_base.specs.Words.{Section, Item, RegionClause, Counter, Range, Block, Attachment, Transfer, Task, Loan}
use Rattle.acc_base.specs.declared.mappings.Counter.TheVariants.{Structured, Dynamic}
use Rattle.acc_base.specs.declared.tasks.Task.TheVariants.{Enter, ExitRegion, ExitData, Move}
use Rattle.acc_base.specs.Limits.{Limits, IsWithinBounds, base_on}
use Rattle.acc_base.specs.Section.{is_empty, is_within, is_apart, end_of, device_memory}
use Rattle.acc_base.specs.Records.{Records, new_records}
use Rattle.acc_base.specs.Ranges.{range_of, counter_in, counter_of, with_range, without_range, changed_at, bare_range, risen, is_unused, ends_by}
use Rattle.acc_base.specs.Blocks.{rounded, fits_at, is_clear_of, block_end, block_at, without_block}
use Rattle.acc_base.specs.Attachments.{without_attachments}
use Rattle.acc_base.specs.Queues.{new_queues, head_of, popped, pins_of}
use Rattle.acc_base.specs.Tasks.{recounted}
use Rattle.acc_base.specs.Steps.{is_in_use, released, records_after_birth, records_after_end, with_range_changed}
use Rattle.acc_base.specs.Waits.{records_made, records_stepped, records_drained}
use Rattle.acc_base.specs.Accounts.{EachPair, IsHostSection, IsBelow, AreRangesApart, IsOnDevice, IsClearOf, AreBlocksApart, IsMapped, HasOneBlockEach, IsCounted, AreAttachmentsSound, IsTransferSound, AreQueuesSound, AreRecordsSound, IsLoanSound, AreLoansSound}
use Rattle.acc_base.proofs.Results.{and_true, equal}
use Rattle.acc_base.proofs.Elements.{AllByRecursion-weaker, AllByRecursion-both, AllByRecursion-filter, AllByRecursion-passed, AllByRecursion-map, AllByRecursion-append, EachPair-filter, EachPair-push, EachPair-map, list_all-from, find_none, found_has}
use Rattle.acc_base.proofs.Options.{still_some}
use Rattle.acc_base.proofs.RangeChanges.{all_with, apart_with, rising_with, block_of, KeepsPlace, section-change, block-change, risen_keeps, fallen_keeps, cleared_keeps}
use Rattle.acc_base.proofs.Lookups.{change_at, at-changed, at-without_other, at-push_there, at-push_new, at-own, at-none}
use Rattle.acc_base.proofs.Counting.{with_there, with_new}
use Rattle.acc_base.proofs.Where.{absent_says}
use Rattle.acc_base.proofs.Places.{place_for-found, IsFoundPlace, place_for-even}
use Rattle.acc_base.proofs.Attached.{rising-without, within-without}
use Rattle.acc_base.proofs.Queued.{pins-popped, none_named, queues-popped, queues-blocks}
use Rattle.acc_base.specs.Loans.{is_lent}
use Rattle.acc_base.proofs.Lending.{loans-weaker, loans-other, range_of-with_other}
use Rattle.acc_base.proofs.Judged.{IsBirth, IsCount}

-- ---- a change of the counters of one range

changed_ranges : (l : Limits) (k : ℕ) (f : Range → Range) (rs : List Range) → KeepsPlace f → AreRangesApart l rs → AreRangesApart l (changed_at k f rs)
changed_ranges l k f rs keeps h = record {
  in_host = AllByRecursion-map (λ r. IsHostSection l r.section) (change_at block_of k f) rs (AllByRecursion-weaker (λ r. IsHostSection l r.section) (λ r. IsHostSection l (change_at block_of k f r).section) rs (λ r p. subst (IsHostSection l) (sym (section-change k f keeps r)) p) h.in_host);
  rising = EachPair-map (λ r t. IsBelow r.section t.section) (change_at block_of k f) rs (λ r t p. subst (λ s. IsBelow s (change_at block_of k f t).section) (sym (section-change k f keeps r)) (subst (λ s. IsBelow r.section s) (sym (section-change k f keeps t)) p)) h.rising;
}

-- a block that is mapped is in use
mapped_used : (o : Option Range) (pinned : Bool) → IsSome o → (is_some o || pinned) ≡ true
mapped_used None pinned some = cc
mapped_used (Some x) pinned some = refl

-- a block that is in use stays so while its range does
use_kept : (o p : Option Range) (pinned : Bool) → (IsSome o → IsSome p) → (is_some o || pinned) ≡ true → (is_some p || pinned) ≡ true
use_kept None None pinned f e = e
use_kept None (Some y) pinned f e = refl
use_kept (Some x) None pinned f e = mapped_used None pinned (f refl)
use_kept (Some x) (Some y) pinned f e = refl

changed_each : (k : ℕ) (f : Range → Range) (w : Records) → KeepsPlace f → HasOneBlockEach w → HasOneBlockEach (record w { ranges = changed_at k f w.ranges })
changed_each k f w keeps h = record {
  mapped = AllByRecursion-map (IsMapped w.blocks) (change_at block_of k f) w.ranges (AllByRecursion-weaker (IsMapped w.blocks) (λ r. IsMapped w.blocks (change_at block_of k f r)) w.ranges same h.mapped);
  distinct = EachPair-map (λ r t. r.block ≡ t.block → ⊥) (change_at block_of k f) w.ranges (λ r t p e. p (sym (block-change k f keeps r) ∙ (e ∙ block-change k f keeps t))) h.distinct;
  in_use = AllByRecursion-weaker (λ b. is_in_use b.number w ≡ true) (λ b. is_in_use b.number (record w { ranges = changed_at k f w.ranges }) ≡ true) w.blocks
      (λ b p. use_kept (range_of b.number w.ranges) (range_of b.number (changed_at k f w.ranges)) _ (λ q. rw (at-changed block_of k b.number f w.ranges keeps.block) (still_some (change_at block_of k f) (range_of b.number w.ranges) q)) p) h.in_use;
}
  where
    same : (r : Range) → IsMapped w.blocks r → IsMapped w.blocks (change_at block_of k f r)
    same r m = (m.0, subst (λ n. block_at n w.blocks ≡ Some m.0) (sym (block-change k f keeps r)) m.1, m.2 ∙ ap (λ (s : Section). s.len) (sym (section-change k f keeps r)))

-- what the counters of the range of block k say, where it is changed
changed_counted : (l : Limits) (k : ℕ) (f : Range → Range) (w : Records) → AreRecordsSound l w → ((r : Range) → range_of k w.ranges ≡ Some r → IsCounted l r → IsCounted l (f r)) → AllByRecursion (IsCounted l) (changed_at k f w.ranges)
changed_counted l k f w h changes = AllByRecursion-map (IsCounted l) (change_at block_of k f) w.ranges (
    AllByRecursion-both (λ r. range_of r.block w.ranges ≡ Some r) (IsCounted l) (λ r. IsCounted l (change_at block_of k f r)) w.ranges
    (λ r own c. go r own c (r.block == k) refl) (at-own block_of w.ranges h.one_block_each.distinct) h.counted)
  where
    go : (r : Range) → range_of r.block w.ranges ≡ Some r → IsCounted l r → (b : Bool) → (r.block == k) ≡ b → IsCounted l (cond b (f r) r)
    go r own c true e = changes r (subst (λ n. range_of n w.ranges ≡ Some r) (equal _ _ e) own) c
    go r own c false e = c

-- ---- what a task does to the counters of a range

-- a task leaves section and block
pub recounted_keeps : (task : Task) → KeepsPlace (recounted task)
recounted_keeps (Enter counter item queue) = risen_keeps counter
recounted_keeps (ExitRegion holding) = fallen_keeps Structured
recounted_keeps (ExitData true item queue) = cleared_keeps
recounted_keeps (ExitData false item queue) = fallen_keeps Dynamic
recounted_keeps (Move if_present item queue) = record { section = λ r. refl; block = λ r. refl }

-- the counter of a block is that of its range
pub counter_is : (counter : Counter) (k : ℕ) (ranges : List Range) (r : Range) → range_of k ranges ≡ Some r → counter_of counter k ranges ≡ counter_in counter r
counter_is counter k ranges r e = ap (λ o. unwrap_or (option_map (counter_in counter) o) 0) e

-- whether the range of a block is left without a counter is read off the range
ends_by_is : (f : Range → Range) (k : ℕ) (ranges : List Range) (r : Range) → range_of k ranges ≡ Some r → ends_by f k ranges ≡ is_unused (f r)
ends_by_is f k ranges r e = ap (λ o. unwrap_or (option_map (λ (t : Range). is_unused (f t)) o) false) e

-- the range of a loan keeps its length
changed_loan : (k : ℕ) (f : Range → Range) (rs : List Range) → KeepsPlace f → (x : Loan) → IsLoanSound rs x → IsLoanSound (changed_at k f rs) x
changed_loan k f rs keeps x p = record {
  range = change_at block_of k f p.range;
  mapped = at-changed block_of k x.block f rs keeps.block ∙ ap (option_map (change_at block_of k f)) p.mapped;
  some = p.some;
  within = subst (λ (s : Section). x.offset + x.len ≤ s.len) (sym (section-change k f keeps p.range)) p.within;
}

range_changed_sound : (l : Limits) (k : ℕ) (f : Range → Range) (w : Records) → KeepsPlace f → AreRecordsSound l w → ((r : Range) → range_of k w.ranges ≡ Some r → IsCounted l r → IsCounted l (f r)) → AreRecordsSound l (with_range_changed k f w)
unfolding with_range_changed
range_changed_sound l k f w keeps h counts = record {
  ranges_apart = changed_ranges l k f w.ranges keeps h.ranges_apart;
  blocks_apart = record { on_device = h.blocks_apart.on_device; apart = h.blocks_apart.apart; born = h.blocks_apart.born };
  one_block_each = changed_each k f w keeps h.one_block_each;
  counted = changed_counted l k f w h counts;
  attached = h.attached;
  queues = h.queues;
  loans = loans-weaker w.ranges (changed_at k f w.ranges) w.loans (λ x p. changed_loan k f w.ranges keeps x p) h.loans;
}

risen_counted : (l : Limits) (counter : Counter) (r : Range) → counter_in counter r < l.counter_max → IsCounted l r → IsCounted l (risen counter r)
risen_counted l Structured r room c = record { some = omega arith; structured = omega arith; dynamic = c.dynamic }
risen_counted l Dynamic r room c = record { some = omega arith; structured = c.structured; dynamic = omega arith }

pub counted_sound : (l : Limits) (counter : Counter) (item : Item RegionClause) (queue : Option ℕ) (k : ℕ) (w : Records) → AreRecordsSound l w → IsCount l counter k w → AreRecordsSound l (with_range_changed k (recounted (Enter counter item queue)) w)
counted_sound l counter item queue k w h says = range_changed_sound l k (recounted (Enter counter item queue)) w (recounted_keeps (Enter counter item queue)) h
    (λ r at_k c. risen_counted l counter r (subst (λ n. n < l.counter_max) (counter_is counter k w.ranges r at_k) says.room) c)

-- a range that keeps a counter above zero
used : (s d : ℕ) → ((s == 0) && (d == 0)) ≡ false → 0 < s + d
used s d e = grind (arith, nat_tests)

-- a drop that leaves a counter above zero
pub dropped_sound : (l : Limits) (f : Range → Range) (k : ℕ) (w : Records) → KeepsPlace f → ((r : Range) → (f r).structured ≤ r.structured) → ((r : Range) → (f r).dynamic ≤ r.dynamic)
    → AreRecordsSound l w → false ≡ ends_by f k w.ranges → AreRecordsSound l (with_range_changed k f w)
dropped_sound l f k w keeps structured dynamic h stays = range_changed_sound l k f w keeps h (λ r at_k c.
    let not_unused : is_unused (f r) ≡ false = sym (stays ∙ ends_by_is f k w.ranges r at_k) in
    record { some = used (f r).structured (f r).dynamic not_unused; structured = omega (arith, structured r, c.structured); dynamic = omega (arith, dynamic r, c.dynamic) })

-- ---- the end of a mapping

unfoldable pub number_of_block : Block → ℕ
number_of_block b = b.number

differs : (a k : ℕ) → not (a == k) ≡ true → (a == k) ≡ false
differs a k e = grind (arith, nat_tests)

-- the attachment counters of the other blocks stay
ended_attached : (l : Limits) (k : ℕ) (bs : List Block) (xs : List Attachment) → AreAttachmentsSound l bs xs → AreAttachmentsSound l (without_block k bs) (without_attachments k xs)
unfolding number_of_block
ended_attached l k bs xs h = record {
  rising = rising-without k xs h.rising;
  counted = within-without l.counter_max k xs h.counted;
  there = AllByRecursion-passed (λ a. IsSome (block_at a.block bs)) (λ a. IsSome (block_at a.block (without_block k bs))) (λ a. not (a.block == k)) xs (λ a e p. rw (at-without_other number_of_block k a.block bs (differs _ _ e)) p) h.there;
}

-- queued transfers of other blocks stay
unpinned_queues : (l : Limits) (k : ℕ) (bs : List Block) (queues : List (List Transfer)) → pins_of k queues ≡ 0 → AreQueuesSound l bs queues → AreQueuesSound l (without_block k bs) queues
unfolding number_of_block
unpinned_queues l k bs queues none h = queues-blocks l (λ t. (t.block == k) ≡ false) bs (without_block k bs) queues
    (λ t other s. record { block = s.block; there = at-without_other number_of_block k t.block bs other ∙ s.there; in_host = s.in_host; offset = s.offset; within = s.within }) (none_named k queues none) h

-- records that are sound, but for whether one block is in use
pub record IsLoose (l : Limits) (k : ℕ) (w : Records) : Type 0 where
  pub ranges_apart : AreRangesApart l w.ranges
  pub blocks_apart : AreBlocksApart (device_memory l) w.blocks w.births
  pub mapped : AllByRecursion (IsMapped w.blocks) w.ranges
  pub distinct : EachPair (λ (r : Range) (t : Range). r.block ≡ t.block → ⊥) w.ranges
  pub in_use : AllByRecursion (λ b. (b.number == k) ≡ false → is_in_use b.number w ≡ true) w.blocks
  pub counted : AllByRecursion (IsCounted l) w.ranges
  pub attached : AreAttachmentsSound l w.blocks w.attached
  pub queues : AreQueuesSound l w.blocks w.queues
  pub loans : AreLoansSound w.ranges w.loans

-- no range has the block, and no queued transfer
no_use : {X : Type 0} (o : Option X) (pins : ℕ) → (is_some o || not (pins == 0)) ≡ false → (o ≡ None) × (pins ≡ 0)
no_use None pins e = (refl, grind (arith, nat_tests))
no_use (Some x) pins e = cc

-- they are sound once the block is given back, where it is no longer in use
pub released_sound : (l : Limits) (k : ℕ) (w : Records) → IsLoose l k w → AreRecordsSound l (released k w)
unfolding released number_of_block
released_sound l k w h = go (is_in_use k w) refl
  where
    used_block : (b : Block) → is_in_use k w ≡ true → ((b.number == k) ≡ false → is_in_use b.number w ≡ true) → (t : Bool) → (b.number == k) ≡ t → is_in_use b.number w ≡ true
    used_block b e p true same = subst (λ n. is_in_use n w ≡ true) (sym (equal _ _ same)) e
    used_block b e p false other = p other

    go : (t : Bool) → is_in_use k w ≡ t → AreRecordsSound l (record w { blocks = cond t w.blocks (without_block k w.blocks); attached = cond t w.attached (without_attachments k w.attached) })
    go true e = record {
      ranges_apart = h.ranges_apart;
      blocks_apart = h.blocks_apart;
      one_block_each = record {
        mapped = h.mapped;
        distinct = h.distinct;
        in_use = AllByRecursion-weaker (λ b. (b.number == k) ≡ false → is_in_use b.number w ≡ true) (λ b. is_in_use b.number w ≡ true) w.blocks (λ b p. used_block b e p (b.number == k) refl) h.in_use;
      };
      counted = h.counted;
      attached = h.attached;
      queues = h.queues;
      loans = h.loans;
    }
    go false e =
        let none : (range_of k w.ranges ≡ None) × (pins_of k w.queues ≡ 0) = no_use (range_of k w.ranges) (pins_of k w.queues) e in
        record {
          ranges_apart = h.ranges_apart;
          blocks_apart = record {
            on_device = AllByRecursion-filter (IsOnDevice (device_memory l)) (λ b. not (b.number == k)) w.blocks h.blocks_apart.on_device;
            apart = EachPair-filter IsClearOf (λ b. not (b.number == k)) w.blocks h.blocks_apart.apart;
            born = AllByRecursion-filter (λ b. b.number ≤ w.births) (λ b. not (b.number == k)) w.blocks h.blocks_apart.born;
          };
          one_block_each = record {
            mapped = AllByRecursion-both (λ r. (r.block == k) ≡ false) (IsMapped w.blocks) (IsMapped (without_block k w.blocks)) w.ranges (λ r other m. (m.0, at-without_other number_of_block k r.block w.blocks other ∙ m.1, m.2)) (find_none (λ r. r.block == k) w.ranges none.0) h.mapped;
            distinct = h.distinct;
            in_use = AllByRecursion-passed (λ b. (b.number == k) ≡ false → is_in_use b.number w ≡ true) (λ b. is_in_use b.number w ≡ true) (λ b. not (b.number == k)) w.blocks (λ b other p. p (differs _ _ other)) h.in_use;
          };
          counted = h.counted;
          attached = ended_attached l k w.blocks w.attached h.attached;
          queues = unpinned_queues l k w.blocks w.queues none.1 h.queues;
          loans = h.loans;
        }

-- the mapping to a block ends that is not lent
pub ended_sound : (l : Limits) (k : ℕ) (w : Records) → is_lent k w.loans ≡ false → AreRecordsSound l w → AreRecordsSound l (records_after_end k w)
unfolding records_after_end
ended_sound l k w free h = released_sound l k (record w { ranges = without_range k w.ranges }) (record {
  ranges_apart = record {
    in_host = AllByRecursion-filter (λ r. IsHostSection l r.section) (λ r. not (r.block == k)) w.ranges h.ranges_apart.in_host;
    rising = EachPair-filter (λ r t. IsBelow r.section t.section) (λ r. not (r.block == k)) w.ranges h.ranges_apart.rising;
  };
  blocks_apart = h.blocks_apart;
  mapped = AllByRecursion-filter (IsMapped w.blocks) (λ r. not (r.block == k)) w.ranges h.one_block_each.mapped;
  distinct = EachPair-filter (λ r t. r.block ≡ t.block → ⊥) (λ r. not (r.block == k)) w.ranges h.one_block_each.distinct;
  in_use = AllByRecursion-weaker (λ b. is_in_use b.number w ≡ true) (λ b. (b.number == k) ≡ false → is_in_use b.number (record w { ranges = without_range k w.ranges }) ≡ true) w.blocks
      (λ b p other. use_kept (range_of b.number w.ranges) (range_of b.number (without_range k w.ranges)) _ (λ q. rw (at-without_other block_of k b.number w.ranges other) q) p) h.one_block_each.in_use;
  counted = AllByRecursion-filter (IsCounted l) (λ r. not (r.block == k)) w.ranges h.counted;
  attached = h.attached;
  queues = h.queues;
  loans = loans-other k w.ranges (without_range k w.ranges) w.loans free
      (λ x other p. record { range = p.range; mapped = at-without_other block_of k x.block w.ranges other ∙ p.mapped; some = p.some; within = p.within }) h.loans;
})

-- the first transfer of a queue is made
pub stepped_sound : (l : Limits) (q : ℕ) (w : Records) → AreRecordsSound l w → AreRecordsSound l (records_stepped q w)
unfolding records_stepped
stepped_sound l q w h = go (head_of q w.queues) refl
  where
    pinned : (t : Transfer) → head_of q w.queues ≡ Some t → (b : Block) → is_in_use b.number w ≡ true → (b.number == t.block) ≡ false → is_in_use b.number (record w { queues = popped q w.queues }) ≡ true
    pinned t e b p other =
        let pins : pins_of b.number (popped q w.queues) + cond (t.block == b.number) 1 0 ≡ pins_of b.number w.queues = pins-popped b.number q t w.queues e in
        let differ : (t.block == b.number) ≡ false = grind (arith, nat_tests) in
        let same : pins_of b.number (popped q w.queues) ≡ pins_of b.number w.queues = less (t.block == b.number) differ pins in
        subst (λ n. (is_some (range_of b.number w.ranges) || not (n == 0)) ≡ true) (sym same) p
      where
        less : (c : Bool) → c ≡ false → pins_of b.number (popped q w.queues) + cond c 1 0 ≡ pins_of b.number w.queues → pins_of b.number (popped q w.queues) ≡ pins_of b.number w.queues
        less true c e = cc
        less false c e = omega (arith, e)

    go : (o : Option Transfer) → head_of q w.queues ≡ o → AreRecordsSound l (records_made q o w)
    go None e = h
    go (Some t) e = released_sound l t.block (record w { queues = popped q w.queues }) (record {
      ranges_apart = h.ranges_apart;
      blocks_apart = h.blocks_apart;
      mapped = h.one_block_each.mapped;
      distinct = h.one_block_each.distinct;
      in_use = AllByRecursion-weaker (λ b. is_in_use b.number w ≡ true) (λ b. (b.number == t.block) ≡ false → is_in_use b.number (record w { queues = popped q w.queues }) ≡ true) w.blocks (λ b p other. pinned t e b p other) h.one_block_each.in_use;
      counted = h.counted;
      attached = h.attached;
      queues = queues-popped l w.blocks q w.queues h.queues;
      loans = h.loans;
    })

-- it leaves the ranges
ranges-stepped : (q : ℕ) (w : Records) → (records_stepped q w).ranges ≡ w.ranges
unfolding records_stepped released
ranges-stepped q w = go (head_of q w.queues)
  where
    go : (o : Option Transfer) → (records_made q o w).ranges ≡ w.ranges
    go None = refl
    go (Some t) = refl

pub ranges-drained : (qs : List ℕ) (w : Records) → (records_drained qs w).ranges ≡ w.ranges
unfolding records_drained
ranges-drained [] w = refl
ranges-drained (q ∷ qs) w = ranges-drained qs (records_stepped q w) ∙ ranges-stepped q w

-- and all that wait in some queues
pub drained_sound : (l : Limits) (qs : List ℕ) (w : Records) → AreRecordsSound l w → AreRecordsSound l (records_drained qs w)
unfolding records_drained
drained_sound l [] w h = h
drained_sound l (q ∷ qs) w h = drained_sound l qs (records_stepped q w) (stepped_sound l q w h)

-- ---- a birth

-- the new block
abbrev born_block : ℕ → ℕ → ℕ → Block
born_block k p len = record { number = k; place = p; len = len }

sides : (x y p size : ℕ) → (nat_le (p + size) x || nat_le y p) ≡ true → (y ≤ p) ⊎ (p + size ≤ x)
sides x y p size h = grind (arith, nat_tests)

-- device memory begins at a multiple of 16
even_base : (l : Limits) → base_on l.number % 16 ≡ 0
even_base l = omega arith

birth_blocks : (l : Limits) (new : Range) (p : ℕ) (w : Records) → IsWithinBounds l → 0 < new.section.len → IsBirth l new.section new.block p w → AreBlocksApart (device_memory l) w.blocks w.births → AreBlocksApart (device_memory l) (records_after_birth new p w).blocks (records_after_birth new p w).births
unfolding records_after_birth
birth_blocks l new p w within some birth h =
    let found : IsFoundPlace (fits_at (device_memory l) w.blocks (rounded new.section.len)) (Some p) = subst (IsFoundPlace (fits_at (device_memory l) w.blocks (rounded new.section.len))) birth.place_is (place_for-found (device_memory l) w.blocks (rounded new.section.len)) in
    let parts : (is_within (record { start = p; len = rounded new.section.len }) (device_memory l) ≡ true) × (list_all (is_clear_of p (rounded new.section.len)) w.blocks ≡ true) = and_true _ _ found.0 in
    let bounds : (base_on l.number ≤ p) × (p + rounded new.section.len ≤ end_of (device_memory l)) = grind (arith, nat_tests) in
    let even : IfSome (Some p) (λ q. q % 16 ≡ 0) = subst (λ o. IfSome o (λ q. q % 16 ≡ 0)) birth.place_is (place_for-even (device_memory l) w.blocks (rounded new.section.len) (even_base l) (AllByRecursion-weaker (IsOnDevice (device_memory l)) (λ b. b.place % 16 ≡ 0) w.blocks (λ b o. o.aligned) h.on_device)) in
    let clear : AllByRecursion (λ b. is_clear_of p (rounded new.section.len) b ≡ true) w.blocks = list_all-from (is_clear_of p (rounded new.section.len)) w.blocks parts.1 in
    record {
      on_device = AllByRecursion-append (IsOnDevice (device_memory l)) w.blocks (born_block new.block p new.section.len ∷ []) h.on_device (record { some = some; first = bounds.0; last = bounds.1; aligned = even }, tt);
      apart = EachPair-push IsClearOf w.blocks (born_block new.block p new.section.len)
          (AllByRecursion-both (λ b. is_clear_of p (rounded new.section.len) b ≡ true) (λ b. b.number ≤ w.births) (λ b. IsClearOf b (born_block new.block p new.section.len)) w.blocks
          (λ b c n. let first : new.block ≡ w.births + 1 = birth.number in record { addresses = sides b.place (block_end b) p (rounded new.section.len) c; numbers = omega arith }) clear h.born)
          h.apart;
      born = AllByRecursion-append (λ b. b.number ≤ w.births + 1) w.blocks (born_block new.block p new.section.len ∷ []) (AllByRecursion-weaker (λ b. b.number ≤ w.births) (λ b. b.number ≤ w.births + 1) w.blocks (λ b n. omega arith) h.born) (let first : new.block ≡ w.births + 1 = birth.number in omega arith, tt);
    }

-- the blocks of ranges were born
pub ranges_born : (l : Limits) (w : Records) → AreRecordsSound l w → AllByRecursion (λ (r : Range). r.block ≤ w.births) w.ranges
unfolding number_of_block
ranges_born l w h = AllByRecursion-weaker (IsMapped w.blocks) (λ r. r.block ≤ w.births) w.ranges (λ r m.
    let found : (m.0.number ≤ w.births) × ((m.0.number == r.block) ≡ true) = found_has (λ b. b.number ≤ w.births) (λ b. b.number == r.block) w.blocks m.0 h.blocks_apart.born m.1 in
    let same : m.0.number ≡ r.block = equal _ _ found.1 in omega (arith, found.0)) h.one_block_each.mapped

-- and a number above the births is no range's
pub fresh : (l : Limits) (w : Records) (k : ℕ) → AreRecordsSound l w → k ≡ w.births + 1 → range_of k w.ranges ≡ None
fresh l w k h e = at-none block_of k w.ranges (AllByRecursion-weaker (λ r. r.block ≤ w.births) (λ r. r.block ≡ k → ⊥) w.ranges (λ r n same. omega arith) (ranges_born l w h))

birth_each : (l : Limits) (new : Range) (p : ℕ) (w : Records) → IsBirth l new.section new.block p w → AreRecordsSound l w → HasOneBlockEach (records_after_birth new p w)
unfolding records_after_birth number_of_block
birth_each l new p w birth h =
    let no_block : block_at new.block w.blocks ≡ None = at-none number_of_block new.block w.blocks (AllByRecursion-weaker (λ b. b.number ≤ w.births) (λ b. b.number ≡ new.block → ⊥) w.blocks (λ b n same. let first : new.block ≡ w.births + 1 = birth.number in omega arith) h.blocks_apart.born) in
    record {
      mapped = all_with (IsMapped (w.blocks ++ born_block new.block p new.section.len ∷ [])) new w.ranges
          (born_block new.block p new.section.len, at-push_new number_of_block w.blocks (born_block new.block p new.section.len) no_block, refl)
          (AllByRecursion-weaker (IsMapped w.blocks) (IsMapped (w.blocks ++ born_block new.block p new.section.len ∷ [])) w.ranges (λ r m. (m.0, at-push_there number_of_block r.block w.blocks (born_block new.block p new.section.len) m.0 m.1, m.2)) h.one_block_each.mapped);
      distinct = apart_with (λ r t. r.block ≡ t.block → ⊥) new w.ranges (AllByRecursion-weaker (λ r. r.block ≤ w.births) (λ r. (new.block ≡ r.block → ⊥) × (r.block ≡ new.block → ⊥)) w.ranges (λ r n. let first : new.block ≡ w.births + 1 = birth.number in ((λ e. omega arith), (λ e. omega arith))) (ranges_born l w h)) h.one_block_each.distinct;
      in_use = AllByRecursion-append (λ b. is_in_use b.number (record w { ranges = with_range new w.ranges }) ≡ true) w.blocks (born_block new.block p new.section.len ∷ [])
          (AllByRecursion-weaker (λ b. is_in_use b.number w ≡ true) (λ b. is_in_use b.number (record w { ranges = with_range new w.ranges }) ≡ true) w.blocks
          (λ b s. use_kept (range_of b.number w.ranges) (range_of b.number (with_range new w.ranges)) _ (with_there new b.number w.ranges) s) h.one_block_each.in_use)
          (mapped_used (range_of new.block (with_range new w.ranges)) _ (with_new new w.ranges), tt);
    }

birth_ranges : (l : Limits) (new : Range) (p : ℕ) (w : Records) → 0 < new.section.len → IsBirth l new.section new.block p w → AreRangesApart l w.ranges → AreRangesApart l (with_range new w.ranges)
birth_ranges l new p w some birth h = record {
  in_host = all_with (λ r. IsHostSection l r.section) new w.ranges (record { some = some; within = birth.within }) h.in_host;
  rising = rising_with new w.ranges some (AllByRecursion-weaker (λ r. IsHostSection l r.section) (λ r. 0 < r.section.len) w.ranges (λ r i. i.some) h.in_host) (list_all-from (λ r. is_apart new.section r.section) w.ranges (absent_says new.section w.ranges birth.absent).0) h.rising;
}

-- a block that is there stays, where another one is born
there_still : (j : ℕ) (bs : List Block) (b : Block) → IsSome (block_at j bs) → IsSome (block_at j (bs ++ b ∷ []))
unfolding number_of_block
there_still j bs b = go (block_at j bs) refl
  where
    go : (o : Option Block) → block_at j bs ≡ o → IsSome o → IsSome (block_at j (bs ++ b ∷ []))
    go None e some = cc
    go (Some c) e some = rw (at-push_there number_of_block j bs b c e) refl

-- and so do the attachment counters
birth_attached : (l : Limits) (bs : List Block) (xs : List Attachment) (b : Block) → AreAttachmentsSound l bs xs → AreAttachmentsSound l (bs ++ b ∷ []) xs
birth_attached l bs xs b h = record {
  rising = h.rising;
  counted = h.counted;
  there = AllByRecursion-weaker (λ a. IsSome (block_at a.block bs)) (λ a. IsSome (block_at a.block (bs ++ b ∷ []))) xs (λ a p. there_still a.block bs b p) h.there;
}

pub birth_sound : (l : Limits) (new : Range) (p : ℕ) (w : Records) → IsWithinBounds l → IsCounted l new → IsBirth l new.section new.block p w → AreRecordsSound l w → AreRecordsSound l (records_after_birth new p w)
unfolding records_after_birth number_of_block
birth_sound l new p w bounds counted birth h =
    let some : 0 < new.section.len = let not_empty : is_empty new.section ≡ false = (absent_says new.section w.ranges birth.absent).1 in grind (arith, nat_tests) in
    record {
      ranges_apart = birth_ranges l new p w some birth h.ranges_apart;
      blocks_apart = birth_blocks l new p w bounds some birth h.blocks_apart;
      one_block_each = birth_each l new p w birth h;
      counted = all_with (IsCounted l) new w.ranges counted h.counted;
      attached = birth_attached l w.blocks w.attached (born_block new.block p new.section.len) h.attached;
      queues = queues-blocks l (λ t. ⊤) w.blocks (w.blocks ++ born_block new.block p new.section.len ∷ []) w.queues
          (λ t any s. record { block = s.block; there = at-push_there number_of_block t.block w.blocks (born_block new.block p new.section.len) s.block s.there; in_host = s.in_host; offset = s.offset; within = s.within })
          (all_any w.queues) h.queues;
      loans = loans-weaker w.ranges (with_range new w.ranges) w.loans
          (λ x s. record { range = s.range; mapped = range_of-with_other new x.block w.ranges (other_block x s) ∙ s.mapped; some = s.some; within = s.within }) h.loans;
    }
  where
    each_any : (ts : List Transfer) → AllByRecursion (λ (t : Transfer). ⊤) ts
    each_any [] = tt
    each_any (t ∷ ts) = (tt, each_any ts)

    all_any : (queues : List (List Transfer)) → AllByRecursion (AllByRecursion (λ (t : Transfer). ⊤)) queues
    all_any [] = tt
    all_any (ts ∷ queues) = (each_any ts, all_any queues)

    -- the new block is no lent one: that is mapped, and so was born before
    other_block : (x : Loan) → IsLoanSound w.ranges x → (new.block == x.block) ≡ false
    other_block x s =
        let mapped : IsMapped w.blocks s.range × ((s.range.block == x.block) ≡ true) = found_has (IsMapped w.blocks) (λ r. r.block == x.block) w.ranges s.range h.one_block_each.mapped s.mapped in
        let before : (mapped.0.0.number ≤ w.births) × ((mapped.0.0.number == s.range.block) ≡ true) = found_has (λ b. b.number ≤ w.births) (λ b. b.number == s.range.block) w.blocks mapped.0.0 h.blocks_apart.born mapped.0.1 in
        apart new.block x.block w.births birth.number mapped.0.0.number before.0 s.range.block before.1 mapped.1
      where
        apart : (a b n : ℕ) → a ≡ n + 1 → (c : ℕ) → c ≤ n → (d : ℕ) → (c == d) ≡ true → (d == b) ≡ true → (a == b) ≡ false
        apart a b n first c le d same owner = grind (arith, nat_tests)

-- the range of a birth by entry has one count
pub first_counted : (l : Limits) (counter : Counter) (section : Section) (k : ℕ) → IsWithinBounds l → IsCounted l (risen counter (bare_range section k))
first_counted l Structured section k bounds = record { some = omega arith; structured = bounds.counter_max.0; dynamic = omega arith }
first_counted l Dynamic section k bounds = record { some = omega arith; structured = omega arith; dynamic = bounds.counter_max.0 }

-- ---- the start

pub new_sound : (l : Limits) → AreRecordsSound l new_records
new_sound l = record {
  ranges_apart = record { in_host = tt; rising = tt };
  blocks_apart = record { on_device = tt; apart = tt; born = tt };
  one_block_each = record { mapped = tt; distinct = tt; in_use = tt };
  counted = tt;
  attached = record { rising = tt; counted = tt; there = tt };
  queues = record { all = refl; limit = new_limit; transfers = new_transfers };
  loans = record { rising = tt; sound = tt };
}
  where
    new_limit : AllByRecursion (λ (ts : List Transfer). length ts ≤ l.queue_cap) new_queues
    new_limit = each 16
      where
        each : (n : ℕ) → AllByRecursion (λ (ts : List Transfer). length ts ≤ l.queue_cap) (replicate n [])
        each zero = tt
        each (suc n) = (omega arith, each n)

    new_transfers : AllByRecursion (AllByRecursion (IsTransferSound l [])) new_queues
    new_transfers = each 16
      where
        each : (n : ℕ) → AllByRecursion (AllByRecursion (IsTransferSound l [])) (replicate n [])
        each zero = tt
        each (suc n) = (tt, each n)
