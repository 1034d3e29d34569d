-- The attached pointers of a section inside one range, one after the other.
use Rattle.std.proofs.Common.{ℕ, ◌≡◌, ◌+◌, ◌-◌, ◌<◌, ◌≤◌, refl, sym, ap, Bool, true, false, cond, List, [], ◌∷◌, ◌++◌, Some, None, arith, inl, inr}
use Rattle.std.specs.Prelude.{◌==◌, ◌&&◌, nat_le, find, filter}
use Rattle.std.specs.List.{AllByRecursion, flat_map}
use Rattle.std.proofs.lemmas.Bool.Decides.{nat_tests}
use Rattle.acc_base.specs.declared.attachments.Attachment.{Attachment}
use Rattle.acc_base.specs.declared.items.Section.{Section}
use Rattle.acc_base.specs.declared.mappings.Range.{Range}
use Rattle.acc_base.specs.declared.mappings.Found.{Found}
use Rattle.acc_base.specs.declared.mappings.Found.TheVariants.{Inside, Empty, Partly, Absent}
use Rattle.acc_base.specs.Section.{covers, end_of, is_empty, is_within}
use Rattle.acc_base.specs.Ranges.{where_is, range_around}
use Rattle.acc_base.specs.Records.{Records}
use Rattle.acc_base.specs.Attachments.{IsBefore}
use Rattle.acc_base.specs.Accounts.{EachPair, IsBelow}
use Rattle.acc_base.proofs.Results.{and_true, equal}
use Rattle.acc_base.proofs.Elements.{found_has}
use Rattle.acc_base.proofs.Where.{IsInsideOf, inside_says}
use Rattle.acc_table.specs.Queries.{attached_inside, first_attached}
use Rattle.acc_script.specs.Texts.{pointer_text, attached_within, pointers_text}

-- the part of a section behind a pointer's first byte
abbrev pub behind : Section → Attachment → Section
behind s a = record { start = a.pointer + 1; len = end_of s - (a.pointer + 1) }

-- ---- where it lies

-- the range around a section is that around each of its parts
around_part : (s t : Section) (ranges : List Range) (r : Range) → EachPair (λ (r : Range) (t : Range). IsBelow r.section t.section) ranges → is_within t s ≡ true → 0 < t.len → range_around s ranges ≡ Some r → range_around t ranges ≡ Some r
around_part s t [] r rising part some e = cc
around_part s t (x ∷ xs) r rising part some e = go (around_part s t xs r rising.1 part some) (is_within s x.section) refl (is_within t x.section) refl e
  where
    go : (range_around s xs ≡ Some r → range_around t xs ≡ Some r)
        → (b : Bool) → is_within s x.section ≡ b → (d : Bool) → is_within t x.section ≡ d
        → cond b (Some x) (range_around s xs) ≡ Some r → cond d (Some x) (range_around t xs) ≡ Some r
    go rest true f true g h = h
    go rest true f false g h = absurd (grind (arith, nat_tests))
    go rest false f true g h =
        let has : IsBelow x.section r.section × (is_within s r.section ≡ true) = found_has (λ (u : Range). IsBelow x.section u.section) (λ (u : Range). is_within s u.section) xs r rising.0 h in
        let below : end_of x.section ≤ r.section.start = has.0 in
        let within : is_within s r.section ≡ true = has.1 in
        absurd (grind (arith, nat_tests))
    go rest false f false g h = rest h

-- so a part of a section inside a range is inside the same one
part_inside : (s t : Section) (ranges : List Range) (block offset : ℕ) → EachPair (λ (r : Range) (t : Range). IsBelow r.section t.section) ranges → where_is s ranges ≡ Inside block offset → is_within t s ≡ true → 0 < t.len → (other : ℕ) × (where_is t ranges ≡ Inside block other)
part_inside s t ranges block offset rising e part some =
    let says : (r : Range) × IsInsideOf s ranges block offset r = inside_says s ranges block offset e in
    let around : range_around t ranges ≡ Some says.0 = around_part s t ranges says.0 rising part some says.1.around in
    let full : is_empty t ≡ false = grind (arith, nat_tests) in
    (t.start - says.0.section.start, rw (full, around, says.1.block_is) refl)

-- ---- the pointers of a block

module _ (block : ℕ) where
  -- the pointer is the block's and begins in the section
  abbrev begins : Section → Attachment → Bool
  begins s a = a.block == block && covers s a.pointer

  -- behind a pointer of the block that begins in the section, those behind its first byte are those of the section
  same_behind : (s : Section) (x : Attachment) (xs : List Attachment) → x.block ≡ block → s.start ≤ x.pointer → x.pointer < end_of s → AllByRecursion (IsBefore x) xs → filter (begins s) xs ≡ filter (begins (behind s x)) xs
  same_behind s x [] of from less h = refl
  same_behind s x (y ∷ ys) of from less h = go (same_behind s x ys of from less h.1) (y.block == block) refl
    where
      above : IsBefore x y → y.block ≡ block → x.pointer < y.pointer
      above (inl k) e = absurd (omega arith)
      above (inr k) e = k.1

      go : filter (begins s) ys ≡ filter (begins (behind s x)) ys → (b : Bool) → (y.block == block) ≡ b
          → cond (b && covers s y.pointer) (y ∷ filter (begins s) ys) (filter (begins s) ys) ≡ cond (b && covers (behind s x) y.pointer) (y ∷ filter (begins (behind s x)) ys) (filter (begins (behind s x)) ys)
      go rest true e =
          let more : x.pointer < y.pointer = above h.0 (equal y.block block e) in
          let same : covers s y.pointer ≡ covers (behind s x) y.pointer = grind (arith, nat_tests) in
          rw (same, rest) refl
      go rest false e = rest

  -- the first pointer is found by a test of both
  found_covers : (s : Section) (xs : List Attachment) (a : Attachment) → find (begins s) xs ≡ Some a → (s.start ≤ a.pointer) × (a.pointer < end_of s)
  found_covers s [] a e = cc
  found_covers s (x ∷ xs) a e = go (found_covers s xs a) (begins s x) refl e
    where
      go : (find (begins s) xs ≡ Some a → (s.start ≤ a.pointer) × (a.pointer < end_of s)) → (b : Bool) → begins s x ≡ b → cond b (Some x) (find (begins s) xs) ≡ Some a → (s.start ≤ a.pointer) × (a.pointer < end_of s)
      go rest true f h =
          let is : x ≡ a = cc in
          let t : covers s x.pointer ≡ true = (and_true (x.block == block) (covers s x.pointer) f).1 in
          rw (← is) (grind (arith, nat_tests), grind (arith, nat_tests))
      go rest false f h = rest h

  -- those that begin in the section are the first, and those behind its first byte
  first_and_behind : (s : Section) (xs : List Attachment) (a : Attachment) → EachPair IsBefore xs → find (begins s) xs ≡ Some a → filter (begins s) xs ≡ a ∷ filter (begins (behind s a)) xs
  first_and_behind s [] a rising e = cc
  first_and_behind s (x ∷ xs) a rising e = go (first_and_behind s xs a rising.1) (found_covers s xs a) (begins s x) refl e
    where
      go : (find (begins s) xs ≡ Some a → filter (begins s) xs ≡ a ∷ filter (begins (behind s a)) xs)
          → (find (begins s) xs ≡ Some a → (s.start ≤ a.pointer) × (a.pointer < end_of s))
          → (b : Bool) → begins s x ≡ b → cond b (Some x) (find (begins s) xs) ≡ Some a
          → cond b (x ∷ filter (begins s) xs) (filter (begins s) xs) ≡ a ∷ cond (begins (behind s a) x) (x ∷ filter (begins (behind s a)) xs) (filter (begins (behind s a)) xs)
      go rest covered true f h =
          let is : x ≡ a = cc in
          let both = and_true (x.block == block) (covers s x.pointer) f in
          let from : s.start ≤ x.pointer = (let t : covers s x.pointer ≡ true = both.1 in grind (arith, nat_tests)) in
          let less : x.pointer < end_of s = (let t : covers s x.pointer ≡ true = both.1 in grind (arith, nat_tests)) in
          let over : nat_le (x.pointer + 1) x.pointer ≡ false = grind (arith, nat_tests) in
          rw (← is, both.0, over) (ap (λ (rs : List Attachment). x ∷ rs) (same_behind s x xs (equal x.block block both.0) from less rising.0))
      go rest covered false f h =
          let in_s = covered h in
          let not : begins (behind s a) x ≡ false = outside (x.block == block) refl f in_s.0 in_s.1 in
          rw not (rest h)
        where
          outside : (b : Bool) → (x.block == block) ≡ b → (b && covers s x.pointer) ≡ false → s.start ≤ a.pointer → a.pointer < end_of s → (b && covers (behind s a) x.pointer) ≡ false
          outside true e f from less = grind (arith, nat_tests)
          outside false e f from less = refl

  -- none is found where none begins there
  none_there : (s : Section) (xs : List Attachment) → find (begins s) xs ≡ None → filter (begins s) xs ≡ []
  none_there s [] e = refl
  none_there s (x ∷ xs) e = go (none_there s xs) (begins s x) e
    where
      go : (find (begins s) xs ≡ None → filter (begins s) xs ≡ []) → (b : Bool) → cond b (Some x) (find (begins s) xs) ≡ None → cond b (x ∷ filter (begins s) xs) (filter (begins s) xs) ≡ []
      go rest true h = cc
      go rest false h = rest h

  -- none begins in an empty section
  none_in_empty : (s : Section) (xs : List Attachment) → s.len ≡ 0 → filter (begins s) xs ≡ []
  none_in_empty s [] e = refl
  none_in_empty s (x ∷ xs) e = go (none_in_empty s xs e) (x.block == block)
    where
      go : filter (begins s) xs ≡ [] → (b : Bool) → cond (b && covers s x.pointer) (x ∷ filter (begins s) xs) (filter (begins s) xs) ≡ []
      go rest true = let t : covers s x.pointer ≡ false = grind (arith, nat_tests) in rw t rest
      go rest false = rest

-- ---- their lines

-- where a first one is found, it begins in the section
pub first_covered : (s : Section) (w : Records) (a : Attachment) → Some a ≡ first_attached s w → (s.start ≤ a.pointer) × (a.pointer < end_of s)
first_covered s w a e = go (where_is s w.ranges) e
  where
    go : (found : Found) → Some a ≡ attached_inside found s w.attached → (s.start ≤ a.pointer) × (a.pointer < end_of s)
    go (Inside block offset) h = found_covers block s w.attached a (sym h)
    go Empty h = cc
    go Partly h = cc
    go Absent h = cc

-- there is nothing to write where none is found
pub pointers_none : (s : Section) (w : Records) → None ≡ first_attached s w → pointers_text s w ≡ []
pointers_none s w e = go (where_is s w.ranges) e
  where
    go : (found : Found) → None ≡ attached_inside found s w.attached → flat_map pointer_text (attached_within found s w.attached) ≡ []
    go (Inside block offset) h = rw (none_there block s w.attached (sym h)) refl
    go Empty h = refl
    go Partly h = refl
    go Absent h = refl

-- else its line is written, and those behind
pub pointers_turn : (s : Section) (w : Records) (a : Attachment) → EachPair (λ (r : Range) (t : Range). IsBelow r.section t.section) w.ranges → EachPair IsBefore w.attached → Some a ≡ first_attached s w → pointers_text s w ≡ pointer_text a ++ pointers_text (behind s a) w
pointers_turn s w a rising before e = go (where_is s w.ranges) refl e (first_covered s w a e)
  where
    go : (found : Found) → where_is s w.ranges ≡ found → Some a ≡ attached_inside found s w.attached → (s.start ≤ a.pointer) × (a.pointer < end_of s)
        → flat_map pointer_text (attached_within found s w.attached) ≡ pointer_text a ++ pointers_text (behind s a) w
    go (Inside block offset) f h covered = rw (first_and_behind block s w.attached a before (sym h)) (ap (λ (more : List ℕ). pointer_text a ++ more) (left (is_empty (behind s a)) refl))
      where
        left : (b : Bool) → is_empty (behind s a) ≡ b → flat_map pointer_text (filter (begins block (behind s a)) w.attached) ≡ pointers_text (behind s a) w
        left true empty =
            let none : (behind s a).len ≡ 0 = grind (arith, nat_tests) in
            rw (none_in_empty block (behind s a) w.attached none, empty) refl
        left false some =
            let more : 0 < (behind s a).len = grind (arith, nat_tests) in
            let part : is_within (behind s a) s ≡ true = grind (arith, nat_tests, covered.0, covered.1) in
            let there = part_inside s (behind s a) w.ranges block offset rising f part more in
            rw there.1 refl
    go Empty f h covered = cc
    go Partly f h covered = cc
    go Absent f h covered = cc
