-- Blocks that are told, after each change of a device's records.
use Rattle.std.proofs.Common.{◌≡◌, ℕ, ◌≤◌, ◌+◌, Bool, true, false, ◌==◌, cond, List, [], ◌∷◌, ◌++◌, Option, Some, None, unwrap_or, option_map, refl, sym, ap, subst, ◌∙◌, arith}
use Rattle.std.specs.Prelude.{IsSome, IfSome, Contains}
use Rattle.std.specs.Option.{IsSomeAnd}
use Rattle.std.proofs.lemmas.Bool.Decides.{nat_tests}
use Rattle.std.proofs.lemmas.Option.{same_Some}
use Rattle.acc_base.specs.declared.items.Section.{Section}
use Rattle.acc_base.specs.declared.mappings.Block.{Block}
use Rattle.acc_base.specs.declared.mappings.Range.{Range}
use Rattle.acc_base.specs.declared.tasks.Task.{Task}
use Rattle.acc_base.specs.Limits.{Limits}
use Rattle.acc_base.specs.Ranges.{range_of, changed_at, with_range, without_range}
use Rattle.acc_base.specs.Blocks.{block_at, place_of, without_block}
use Rattle.acc_base.specs.Tasks.{recounted as recounted_by}
use Rattle.acc_base.specs.Attachments.{IsBefore, with_count, without_attachments}
use Rattle.acc_base.specs.Records.{Records}
use Rattle.acc_base.specs.Steps.{is_in_use, released, records_after_birth, records_after_end, with_range_changed}
use Rattle.acc_base.specs.Accounts.{EachPair, AreRecordsSound}
use Rattle.acc_base.proofs.Results.{equal, equal_self}
use Rattle.acc_base.proofs.Elements.{AllByRecursion-weaker, find-front, find_passes}
use Rattle.acc_base.proofs.InPlace.{find-put_new, find-put_other}
use Rattle.acc_base.proofs.Lookups.{at-without_same, at-without_other, at-push_new, at-changed, at-none, change_at}
use Rattle.acc_base.proofs.RangeChanges.{put_range, block_of}
use Rattle.acc_base.proofs.Sound.{fresh, recounted_keeps}
use Rattle.acc_stale.specs.Events.{pointers_of}
use Rattle.acc_stale.specs.Accounts.{ToldBlock, recounted, with_range_told, CanCount}
use Rattle.acc_stale.specs.Follows.{IsBlockTold, IsRangeTold, AreBlocksTold}
use Rattle.acc_stale.proofs.Attached.{kept_without, none_of_new, set_same, set_other}

pub some_and : {X : Type 0} (P Q : X → Type 0) (o : Option X) → ((x : X) → P x → Q x) → IsSomeAnd o P → IsSomeAnd o Q
some_and P Q None f h = absurd h
some_and P Q (Some x) f h = f x h

-- ---- nothing is told anew

-- a block that is there was there, and is as it was
pub record IsBlockKept (w v : Records) (b : ℕ) : Type 0 where
  pub there : IsSome (block_at b w.blocks)
  pub place : place_of b v.blocks ≡ place_of b w.blocks
  pub attached : pointers_of b v.attached ≡ pointers_of b w.attached

-- and so was a range
pub record AreKept (w v : Records) : Type 0 where
  pub blocks : (b : ℕ) → IsSome (block_at b v.blocks) → IsBlockKept w v b
  pub ranges : (b : ℕ) (r : Range) → range_of b v.ranges ≡ Some r → range_of b w.ranges ≡ Some r

block_told : (d b : ℕ) (w v : Records) (t : ToldBlock) → IsBlockKept w v b → IsBlockTold d b w t → IsBlockTold d b v t
block_told d b w v t kept h = record { device = h.device; number = h.number; place = h.place ∙ sym kept.place; attached = h.attached ∙ sym kept.attached }

pub still_told : (d : ℕ) (told : ℕ → Option ToldBlock) (w v : Records) → AreKept w v → AreBlocksTold d told w → AreBlocksTold d told v
still_told d told w v kept h = record {
  blocks = λ b some. some_and (IsBlockTold d b w) (IsBlockTold d b v) (told b) (λ t k. block_told d b w v t (kept.blocks b some) k) (h.blocks b (kept.blocks b some).there);
  ranges = λ b r is. h.ranges b r (kept.ranges b r is);
}

same_blocks : (w v : Records) → v.blocks ≡ w.blocks → v.attached ≡ w.attached → (b : ℕ) → IsSome (block_at b v.blocks) → IsBlockKept w v b
same_blocks w v blocks attached b some = record { there = subst (λ bs. IsSome (block_at b bs)) blocks some; place = ap (place_of b) blocks; attached = ap (pointers_of b) attached }

pub same_kept : (w v : Records) → v.ranges ≡ w.ranges → v.blocks ≡ w.blocks → v.attached ≡ w.attached → AreKept w v
same_kept w v ranges blocks attached = record { blocks = same_blocks w v blocks attached; ranges = λ b r is. sym (ap (range_of b) ranges) ∙ is }

-- ---- a block is given back

abbrev number_of : Block → ℕ
number_of b = b.number

other_block : (k b : ℕ) (blocks : List Block) → IsSome (block_at b (without_block k blocks)) → (b == k) ≡ false
other_block k b blocks some = go (b == k) refl
  where
    go : (s : Bool) → (b == k) ≡ s → s ≡ false
    go true e =
        let none : block_at b (without_block k blocks) ≡ None = subst (λ (j : ℕ). block_at j (without_block k blocks) ≡ None) (sym (equal b k e)) (at-without_same number_of k blocks) in
        let bad = rw none at some in cc
    go false e = refl

given_back : (k : ℕ) (w v : Records) → v.blocks ≡ without_block k w.blocks → v.attached ≡ without_attachments k w.attached → (b : ℕ) → IsSome (block_at b v.blocks) → IsBlockKept w v b
given_back k w v blocks attached b some =
    let left : IsSome (block_at b (without_block k w.blocks)) = subst (λ bs. IsSome (block_at b bs)) blocks some in
    let other : (b == k) ≡ false = other_block k b w.blocks left in
    let same : block_at b (without_block k w.blocks) ≡ block_at b w.blocks = at-without_other number_of k b w.blocks other in
    record {
      there = subst (λ o. IsSome o) same left;
      place = ap (place_of b) blocks ∙ ap (λ (o : Option Block). unwrap_or (option_map (λ (x : Block). x.place) o) 0) same;
      attached = ap (pointers_of b) attached ∙ kept_without b k w.attached other;
    }

pub released_kept : (k : ℕ) (w : Records) → AreKept w (released k w)
unfolding released
released_kept k w = record { blocks = λ b. go b (is_in_use k w); ranges = λ b r is. is }
  where
    after : Bool → Records
    after s = record w { blocks = cond s w.blocks (without_block k w.blocks); attached = cond s w.attached (without_attachments k w.attached) }

    go : (b : ℕ) (s : Bool) → IsSome (block_at b (after s).blocks) → IsBlockKept w (after s) b
    go b true some = record { there = some; place = refl; attached = refl }
    go b false some = given_back k w (after false) refl refl b some

-- the mapping to a block ends
pub ended_kept : (k : ℕ) (w : Records) → AreKept w (records_after_end k w)
unfolding records_after_end released
ended_kept k w = record {
  blocks = λ b some. let x = (released_kept k (record w { ranges = without_range k w.ranges })).blocks b some in record { there = x.there; place = x.place; attached = x.attached };
  ranges = λ b r is. go b r is (b == k) refl;
}
  where
    go : (b : ℕ) (r : Range) → range_of b (without_range k w.ranges) ≡ Some r → (s : Bool) → (b == k) ≡ s → range_of b w.ranges ≡ Some r
    go b r is true e =
        let none : range_of b (without_range k w.ranges) ≡ None = subst (λ (j : ℕ). range_of j (without_range k w.ranges) ≡ None) (sym (equal b k e)) (at-without_same block_of k w.ranges) in
        cc
    go b r is false e = sym (at-without_other block_of k b w.ranges e) ∙ is

-- ---- one block is told anew

found_number : (k : ℕ) (r : Range) (rs : List Range) → range_of k rs ≡ Some r → (r.block == k) ≡ true
found_number k r rs e = (subst (λ o. IfSome o (λ x. Contains rs x × ((x.block == k) ≡ true))) e (find_passes (λ (x : Range). x.block == k) rs)).1

-- a pointer of a block gets another count
module _ (d k p count : ℕ) (told now : ℕ → Option ToldBlock) (w : Records) (here : now k ≡ option_map (recounted k p count) (told k)) (others : (j : ℕ) → (j == k) ≡ false → now j ≡ told j) (h : AreBlocksTold d told w) where
  count_block : EachPair IsBefore w.attached → (b : ℕ) → IsSome (block_at b w.blocks) → (s : Bool) → (b == k) ≡ s → IsSomeAnd (now b) (IsBlockTold d b (record w { attached = with_count k p count w.attached }))
  count_block rising b some true e =
      subst (λ (j : ℕ). IsSomeAnd (now j) (IsBlockTold d j (record w { attached = with_count k p count w.attached }))) (sym (equal b k e))
      (subst (λ o. IsSomeAnd o (IsBlockTold d k (record w { attached = with_count k p count w.attached }))) (sym here)
      (go (told k) (h.blocks k (subst (λ (j : ℕ). IsSome (block_at j w.blocks)) (equal b k e) some))))
    where
      go : (o : Option ToldBlock) → IsSomeAnd o (IsBlockTold d k w) → IsSomeAnd (option_map (recounted k p count) o) (IsBlockTold d k (record w { attached = with_count k p count w.attached }))
      go None x = absurd x
      go (Some t) x = record { device = x.device; number = x.number; place = x.place; attached = ap (with_count k p count) x.attached ∙ sym (set_same k p count w.attached rising) }
  count_block rising b some false e =
      subst (λ o. IsSomeAnd o (IsBlockTold d b (record w { attached = with_count k p count w.attached }))) (sym (others b e))
      (some_and (IsBlockTold d b w) (IsBlockTold d b (record w { attached = with_count k p count w.attached })) (told b) (λ t x. record { device = x.device; number = x.number; place = x.place; attached = x.attached ∙ sym (set_other b k p count w.attached e) }) (h.blocks b some))

  count_range : (b : ℕ) (r : Range) → range_of b w.ranges ≡ Some r → (s : Bool) → (b == k) ≡ s → IsSomeAnd (now b) (IsRangeTold r)
  count_range b r is true e =
      subst (λ (j : ℕ). IsSomeAnd (now j) (IsRangeTold r)) (sym (equal b k e)) (subst (λ o. IsSomeAnd o (IsRangeTold r)) (sym here) (go (told k) (h.ranges k r (subst (λ (j : ℕ). range_of j w.ranges ≡ Some r) (equal b k e) is))))
    where
      go : (o : Option ToldBlock) → IsSomeAnd o (IsRangeTold r) → IsSomeAnd (option_map (recounted k p count) o) (IsRangeTold r)
      go None x = absurd x
      go (Some t) x = record { start = x.start; range = x.range }
  count_range b r is false e = subst (λ o. IsSomeAnd o (IsRangeTold r)) (sym (others b e)) (h.ranges b r is)

  pub count_told : EachPair IsBefore w.attached → AreBlocksTold d now (record w { attached = with_count k p count w.attached })
  count_told rising = record { blocks = λ b some. count_block rising b some (b == k) refl; ranges = λ b r is. count_range b r is (b == k) refl }

-- the counters of a block's range change
module _ (d k : ℕ) (task : Task) (told now : ℕ → Option ToldBlock) (range : Range) (w : Records) (here : now k ≡ option_map (with_range_told range) (told k)) (others : (j : ℕ) → (j == k) ≡ false → now j ≡ told j)
    (counted : (t : ToldBlock) → told k ≡ Some t → CanCount t.held.range → range ≡ recounted_by task t.held.range) (fit : (r : Range) → range_of k w.ranges ≡ Some r → CanCount r) (h : AreBlocksTold d told w) where
  recount_block : (b : ℕ) → IsSome (block_at b w.blocks) → (s : Bool) → (b == k) ≡ s → IsSomeAnd (now b) (IsBlockTold d b w)
  recount_block b some true e =
      subst (λ (j : ℕ). IsSomeAnd (now j) (IsBlockTold d j w)) (sym (equal b k e))
      (subst (λ o. IsSomeAnd o (IsBlockTold d k w)) (sym here) (go (told k) (h.blocks k (subst (λ (j : ℕ). IsSome (block_at j w.blocks)) (equal b k e) some))))
    where
      go : (o : Option ToldBlock) → IsSomeAnd o (IsBlockTold d k w) → IsSomeAnd (option_map (with_range_told range) o) (IsBlockTold d k w)
      go None x = absurd x
      go (Some t) x = record { device = x.device; number = x.number; place = x.place; attached = x.attached }
  recount_block b some false e = subst (λ o. IsSomeAnd o (IsBlockTold d b w)) (sym (others b e)) (h.blocks b some)

  recount_own : (x : Range) → range_of k w.ranges ≡ Some x → IsSomeAnd (now k) (IsRangeTold (recounted_by task x))
  recount_own x own = subst (λ o. IsSomeAnd o (IsRangeTold (recounted_by task x))) (sym here) (go (told k) refl (h.ranges k x own))
    where
      go : (o : Option ToldBlock) → told k ≡ o → IsSomeAnd o (IsRangeTold x) → IsSomeAnd (option_map (with_range_told range) o) (IsRangeTold (recounted_by task x))
      go None e y = absurd y
      go (Some t) e y = record {
        start = y.start ∙ sym (ap (λ (s : Section). s.start) ((recounted_keeps task).section x));
        range = counted t e (subst CanCount (sym y.range) (fit x own)) ∙ ap (recounted_by task) y.range;
      }

  recount_range : (b : ℕ) (r : Range) (o : Option Range) → range_of b w.ranges ≡ o → option_map (change_at block_of k (recounted_by task)) o ≡ Some r → (s : Bool) → (b == k) ≡ s → IsSomeAnd (now b) (IsRangeTold r)
  recount_range b r None is e s f = cc
  recount_range b r (Some x) is e true f =
      let number : (x.block == b) ≡ true = found_number b x w.ranges is in
      let same : (x.block == k) ≡ true = ap (λ n. x.block == n) (sym (equal b k f)) ∙ number in
      let now_is : recounted_by task x ≡ r = ap (λ (s : Bool). cond s (recounted_by task x) x) (sym same) ∙ same_Some _ _ e in
      subst (λ (j : ℕ). IsSomeAnd (now j) (IsRangeTold r)) (sym (equal b k f)) (subst (λ y. IsSomeAnd (now k) (IsRangeTold y)) now_is (recount_own x (subst (λ (j : ℕ). range_of j w.ranges ≡ Some x) (equal b k f) is)))
  recount_range b r (Some x) is e false f =
      let number : (x.block == b) ≡ true = found_number b x w.ranges is in
      let other : (x.block == k) ≡ false = ap (λ n. n == k) (equal x.block b number) ∙ f in
      let now_is : x ≡ r = ap (λ (s : Bool). cond s (recounted_by task x) x) (sym other) ∙ same_Some _ _ e in
      subst (λ o. IsSomeAnd o (IsRangeTold r)) (sym (others b f)) (h.ranges b r (is ∙ ap Some now_is))

  pub recount_told : AreBlocksTold d now (with_range_changed k (recounted_by task) w)
  unfolding with_range_changed
  recount_told = record {
    blocks = λ b some. some_and (IsBlockTold d b w) (IsBlockTold d b (record w { ranges = changed_at k (recounted_by task) w.ranges })) (now b) (λ t x. record { device = x.device; number = x.number; place = x.place; attached = x.attached }) (recount_block b some (b == k) refl);
    ranges = λ b r is. recount_range b r (range_of b w.ranges) refl (sym (at-changed block_of k b (recounted_by task) w.ranges (recounted_keeps task).block) ∙ is) (b == k) refl;
  }

-- a block is new
no_block : (l : Limits) (w : Records) (k : ℕ) → AreRecordsSound l w → k ≡ w.births + 1 → block_at k w.blocks ≡ None
no_block l w k h e = at-none number_of k w.blocks (AllByRecursion-weaker (λ b. b.number ≤ w.births) (λ b. b.number ≡ k → ⊥) w.blocks (λ b n same. omega arith) h.blocks_apart.born)

module _ (l : Limits) (d : ℕ) (told now : ℕ → Option ToldBlock) (new : Range) (place : ℕ) (t : ToldBlock) (w : Records) (sound : AreRecordsSound l w) (number : new.block ≡ w.births + 1) (here : now new.block ≡ Some t) (others : (j : ℕ) → (j == new.block) ≡ false → now j ≡ told j)
    (device : t.held.placed.device ≡ d) (is_new : t.held.placed.block ≡ new.block) (place_is : t.held.placed.place ≡ place) (start : t.held.placed.start ≡ new.section.start) (range : t.held.range ≡ new) (none : t.attached ≡ []) (h : AreBlocksTold d told w) where
  block_found : (b : ℕ) → (b == new.block) ≡ false → block_at b (w.blocks ++ record { number = new.block; place = place; len = new.section.len } ∷ []) ≡ block_at b w.blocks
  block_found b e = let other : (new.block == b) ≡ false = grind (arith, nat_tests, e) in find-front (λ (x : Block). x.number == b) w.blocks _ (rw other refl)

  born_block : (b : ℕ) → IsSome (block_at b (w.blocks ++ record { number = new.block; place = place; len = new.section.len } ∷ [])) → (s : Bool) → (b == new.block) ≡ s → IsSomeAnd (now b) (IsBlockTold d b (records_after_birth new place w))
  unfolding records_after_birth
  born_block b some true e =
      subst (λ (j : ℕ). IsSomeAnd (now j) (IsBlockTold d j (records_after_birth new place w))) (sym (equal b new.block e))
      (subst (λ o. IsSomeAnd o (IsBlockTold d new.block (records_after_birth new place w))) (sym here) (record {
        device = device;
        number = is_new;
        place = place_is ∙ sym (ap (λ (o : Option Block). unwrap_or (option_map (λ (x : Block). x.place) o) 0) (at-push_new number_of w.blocks (record { number = new.block; place = place; len = new.section.len }) (no_block l w new.block sound number)));
        attached = none ∙ sym (none_of_new new.block w.blocks w.attached (no_block l w new.block sound number) sound.attached.there);
      }))
  born_block b some false e =
      let there : IsSome (block_at b w.blocks) = subst (λ o. IsSome o) (block_found b e) some in
      subst (λ o. IsSomeAnd o (IsBlockTold d b (records_after_birth new place w))) (sym (others b e))
      (some_and (IsBlockTold d b w) (IsBlockTold d b (records_after_birth new place w)) (told b) (λ x y. record { device = y.device; number = y.number; place = y.place ∙ sym (ap (λ (o : Option Block). unwrap_or (option_map (λ (z : Block). z.place) o) 0) (block_found b e)); attached = y.attached }) (h.blocks b there))

  born_range : (b : ℕ) (r : Range) → range_of b (with_range new w.ranges) ≡ Some r → (s : Bool) → (b == new.block) ≡ s → IsSomeAnd (now b) (IsRangeTold r)
  born_range b r is true e =
      let found : range_of new.block (with_range new w.ranges) ≡ Some new = find-put_new (put_range new) (λ x. x.block == new.block) w.ranges (equal_self new.block) (fresh l w new.block sound number) in
      let at : range_of new.block (with_range new w.ranges) ≡ Some r = subst (λ (j : ℕ). range_of j (with_range new w.ranges) ≡ Some r) (equal b new.block e) is in
      let same : new ≡ r = cc in
      subst (λ (j : ℕ). IsSomeAnd (now j) (IsRangeTold r)) (sym (equal b new.block e))
      (subst (λ o. IsSomeAnd o (IsRangeTold r)) (sym here) (record { start = start ∙ ap (λ (x : Range). x.section.start) same; range = range ∙ same }))
  born_range b r is false e =
      let other : (new.block == b) ≡ false = grind (arith, nat_tests, e) in
      subst (λ o. IsSomeAnd o (IsRangeTold r)) (sym (others b e)) (h.ranges b r (sym (find-put_other (put_range new) (λ x. x.block == b) w.ranges other) ∙ is))

  pub born_told : AreBlocksTold d now (records_after_birth new place w)
  unfolding records_after_birth
  born_told = record { blocks = λ b some. born_block b some (b == new.block) refl; ranges = λ b r is. born_range b r is (b == new.block) refl }
