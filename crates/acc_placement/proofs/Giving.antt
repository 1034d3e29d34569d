-- The taken ranges and the holes are the space.
use Rattle.std.proofs.Common.{◌≡◌, ◌%◌, ℕ, ◌+◌, ◌-◌, ◌<◌, ◌≤◌, ◌⊎◌, List, [], ◌∷◌, ◌++◌, inl, inr, arith, subst, sym, length, length-append}
use Rattle.std.proofs.lemmas.Bool.{cases_lt}
use Rattle.std.proofs.lemmas.List.Elements.{All-append, All-cons}
use Rattle.acc_base.specs.Holes.{IsIn, IsRising, IsDisjoint, total}
use Rattle.acc_base.specs.Section.{Spans}
use Rattle.acc_placement.specs.Ranges.{HasAddress, IsAligned}
use Rattle.acc_placement.specs.Changes.{IsFilled}
use Rattle.acc_placement.specs.Space.{Space, IsCanonical, IsPartition, IsTaken, IsTakenFrom, IsGivenBack}
use Rattle.acc_placement.proofs.Rising.{in_bounds, in_join_left, in_join_right, in_parts, total-append}
use Rattle.acc_placement.proofs.Alignment.{All-left, All-middle, All-behind}
use Rattle.acc_placement.proofs.Counting.{IsEdged, length_holes, length_total}

-- a list without one of its ranges
pub in_longer : (l r : List (ℕ × ℕ)) (x : ℕ × ℕ) (a : ℕ) → IsIn (l ++ r) a → IsIn (l ++ x ∷ r) a
in_longer l r x a i = elim (in_parts l r a i) [ inl j ↦ in_join_left l (x ∷ r) a j | inr j ↦ in_join_right l (x ∷ r) a (inr j) ]

-- an address in a list is in one of its ranges, or in the list without that
pub in_shorter : (l r : List (ℕ × ℕ)) (x : ℕ × ℕ) (a : ℕ) → IsIn (l ++ x ∷ r) a → Spans x.0 x.1 a ⊎ IsIn (l ++ r) a
in_shorter l r x a i = elim (in_parts l (x ∷ r) a i) [ inl j ↦ inr (in_join_left l r a j) | inr (inl j) ↦ inl j | inr (inr j) ↦ inr (in_join_right l r a j) ]

-- a range shares no address with those before and behind it
pub disjoint_middle : (l r : List (ℕ × ℕ)) (x : ℕ × ℕ) (a : ℕ) → IsDisjoint (l ++ x ∷ r) → Spans x.0 x.1 a → IsIn (l ++ r) a → ⊥
disjoint_middle [] r x a d w i = d.0 a w i
disjoint_middle (h ∷ l) r x a d w (inl i) = d.0 a i (in_join_right l (x ∷ r) a (inl w))
disjoint_middle (h ∷ l) r x a d w (inr i) = disjoint_middle l r x a d.1 w i

-- a list that shares no address shares none without one of its ranges
pub disjoint_shorter : (l r : List (ℕ × ℕ)) (x : ℕ × ℕ) → IsDisjoint (l ++ x ∷ r) → IsDisjoint (l ++ r)
disjoint_shorter [] r x d = d.1
disjoint_shorter (h ∷ l) r x d = (λ a w i. d.0 a w (in_longer l r x a i), disjoint_shorter l r x d.1)

-- each hole of a space ends at a taken range, or at the end of the space
edged_of : (low : ℕ) (hs : List (ℕ × ℕ)) (high base top : ℕ) (ts : List (ℕ × ℕ)) → IsRising low hs high → ((a : ℕ) → IsIn hs a → (base ≤ a) × (a < top)) → ((a : ℕ) → low ≤ a → base ≤ a → a < top → IsIn hs a ⊎ IsIn ts a) → IsEdged hs ts
edged_of low (h ∷ k ∷ t) high base top ts s bounds cover =
    let first : (base ≤ h.0) × (h.0 < top) = bounds h.0 (inl (omega arith, omega (arith, s.1))) in
    let rise = s.3 in
    let next : (base ≤ k.0) × (k.0 < top) = bounds k.0 (inr (inl (omega arith, omega (arith, rise.1)))) in (
      elim (cover (h.0 + h.1) (omega (arith, s.0)) (omega arith) (omega (arith, rise.0))) [
        | inl (inl w) ↦ absurd (omega arith)
        | inl (inr i) ↦ let b : (h.0 + h.1 + 1 ≤ h.0 + h.1) × (h.0 + h.1 < high) = in_bounds (h.0 + h.1 + 1) (k ∷ t) high (h.0 + h.1) rise i in absurd (omega arith)
        | inr i ↦ i
      ],
      edged_of (h.0 + h.1 + 1) (k ∷ t) high base top ts rise (λ a i. bounds a (inr i))
          (λ a le ge lt. elim (cover a (omega (arith, s.0)) ge lt) [ inl (inl w) ↦ absurd (omega arith) | inl (inr i) ↦ inl i | inr i ↦ inr i ]),
    )
edged_of low _ high base top ts s bounds cover = tt

-- giving back one of the taken ranges leaves no more holes than there were taken ranges
pub length_new : (r : Space) (new before after : List (ℕ × ℕ)) (p n top : ℕ) → IsCanonical r → IsPartition r (before ++ (p, n) ∷ after) → IsFilled 0 top r.holes new p n → length new ≤ r.taken
length_new r new before after p n top s part f =
    let mine : (a : ℕ) → Spans p n a → IsIn (before ++ (p, n) ∷ after) a = λ a w. in_join_right before ((p, n) ∷ after) a (inl w) in
    let separate : (a : ℕ) → IsIn new a → IsIn (before ++ after) a → ⊥ = λ a i j. elim (f.free a i) [
      | inl h ↦ part.not_free a (in_longer before after (p, n) a j) h
      | inr w ↦ disjoint_middle before after (p, n) a part.disjoint w j
    ] in
    let bounds : (a : ℕ) → IsIn new a → (r.base ≤ a) × (a < r.base + r.size) = λ a i. elim (f.free a i) [
      | inl h ↦ in_bounds r.base r.holes (r.base + r.size) a s.rising h
      | inr w ↦ part.within a (mine a w)
    ] in
    let cover : (a : ℕ) → 0 ≤ a → r.base ≤ a → a < r.base + r.size → IsIn new a ⊎ IsIn (before ++ after) a = λ a z ge lt. elim (part.covered a (ge, lt)) [
      | inl h ↦ inl (f.kept a (inl h))
      | inr t ↦ elim (in_shorter before after (p, n) a t) [ inl w ↦ inl (f.kept a (inr w)) | inr j ↦ inr j ]
    ] in
    let e = edged_of 0 new top r.base (r.base + r.size) (before ++ after) f.rising bounds cover in
    let l = length_holes 0 new top (before ++ after) f.rising separate e in
    omega (arith, part.count, length-append before ((p, n) ∷ after), length-append before after)

-- the first address of a taken range, and the last
pub taken_limit : (r : Space) (before after : List (ℕ × ℕ)) (p n : ℕ) → 0 < n → IsPartition r (before ++ (p, n) ∷ after) → (r.base ≤ p) × (p + n ≤ r.base + r.size)
taken_limit r before after p n pos part =
    let a = part.within p (in_join_right before ((p, n) ∷ after) p (inl (omega arith, omega arith))) in
    let b = part.within (p + n - 1) (in_join_right before ((p, n) ∷ after) (p + n - 1) (inl (omega arith, omega arith))) in
    omega arith

-- an address of a taken range is in no hole
pub taken_not_free : (r : Space) (before after : List (ℕ × ℕ)) (p n : ℕ) → IsPartition r (before ++ (p, n) ∷ after) → (a : ℕ) → Spans p n a → IsIn r.holes a → ⊥
taken_not_free r before after p n part a w i = part.not_free a (in_join_right before ((p, n) ∷ after) a (inl w)) i

-- where a range is taken, the number of taken ranges is not zero
pub taken_count : (r : Space) (before after : List (ℕ × ℕ)) (p n : ℕ) → IsPartition r (before ++ (p, n) ∷ after) → 0 < r.taken
taken_count r before after p n part = omega (arith, part.count, length-append before ((p, n) ∷ after))

-- the other taken ranges have a byte each at least
pub taken_bytes : (r : Space) (before after : List (ℕ × ℕ)) (p n : ℕ) → IsPartition r (before ++ (p, n) ∷ after) → r.taken + n + total r.holes ≤ r.size + 1
taken_bytes r before after p n part =
    let b = length_total before (All-left HasAddress before ((p, n) ∷ after) part.not_empty) in
    let a = length_total after (All-behind HasAddress before (p, n) after part.not_empty) in
    omega (arith, a, b, part.count, part.sizes, length-append before ((p, n) ∷ after), total-append before ((p, n) ∷ after))

-- addresses that are all free lie in the space
pub free_within : (r : Space) (p n : ℕ) → 0 < n → IsCanonical r → ((a : ℕ) → Spans p n a → IsIn r.holes a) → (r.base ≤ p) × (p + n ≤ r.base + r.size)
free_within r p n pos s free =
    let a = in_bounds r.base r.holes (r.base + r.size) p s.rising (free p (omega arith, omega arith)) in
    let b = in_bounds r.base r.holes (r.base + r.size) (p + n - 1) s.rising (free (p + n - 1) (omega arith, omega arith)) in
    omega arith

-- taking and giving back keep the partition
pub taken_partition : (old new : Space) (ts : List (ℕ × ℕ)) (p n : ℕ) → 0 < n → n % 16 ≡ 0 → IsCanonical old → IsTakenFrom old new p n → IsPartition old ts → IsPartition new ((p, n) ∷ ts)
taken_partition old new ts p n pos round s t part =
    record {
      count = omega (arith, part.count, t.taken);
      sizes = omega (arith, part.sizes, t.used, t.size);
      aligned = All-cons IsAligned (p, n) ts (t.aligned, round) part.aligned;
      not_empty = All-cons HasAddress (p, n) ts pos part.not_empty;
      disjoint = (λ a w i. part.not_free a i (t.was_free a w), part.disjoint);
      within = λ a i. rw (t.base, t.size) (elim i [
        | inl w ↦ in_bounds old.base old.holes (old.base + old.size) a s.rising (t.was_free a w)
        | inr j ↦ part.within a j
      ]);
      not_free = λ a i h. elim i [
        | inl w ↦ (t.kept a h).1 w
        | inr j ↦ part.not_free a j (t.kept a h).0
      ];
      covered = λ a w. elim (part.covered a (rw (t.base, t.size) at w)) [
        | inl h ↦ elim (cases_lt a p) [
          | inl lt ↦ inl (t.free a h (λ v. absurd (omega arith)))
          | inr le ↦ elim (cases_lt a (p + n)) [ inl lt ↦ inr (inl (le, lt)) | inr ge ↦ inl (t.free a h (λ v. absurd (omega arith))) ]
        ]
        | inr j ↦ inr (inr j)
      ];
    }

-- a range that was given back is left out of the list of the taken ones
pub given_partition : (old new : Space) (before after : List (ℕ × ℕ)) (p n : ℕ) → IsGivenBack old new p n → IsPartition old (before ++ (p, n) ∷ after) → IsPartition new (before ++ after)
given_partition old new before after p n g part =
    record {
      count = omega (arith, part.count, g.taken, length-append before ((p, n) ∷ after), length-append before after);
      sizes = omega (arith, part.sizes, g.used, g.size, total-append before ((p, n) ∷ after), total-append before after);
      aligned = All-append IsAligned before after (All-left IsAligned before ((p, n) ∷ after) part.aligned) (All-behind IsAligned before (p, n) after part.aligned);
      not_empty = All-append HasAddress before after (All-left HasAddress before ((p, n) ∷ after) part.not_empty) (All-behind HasAddress before (p, n) after part.not_empty);
      disjoint = disjoint_shorter before after (p, n) part.disjoint;
      within = λ a i. rw (g.base, g.size) (part.within a (in_longer before after (p, n) a i));
      not_free = λ a i h. elim (g.free a h) [
        | inl j ↦ part.not_free a (in_longer before after (p, n) a i) j
        | inr w ↦ disjoint_middle before after (p, n) a part.disjoint w i
      ];
      covered = λ a w. elim (part.covered a (rw (g.base, g.size) at w)) [
        | inl h ↦ inl (g.kept a (inl h))
        | inr t ↦ elim (in_shorter before after (p, n) a t) [ inl v ↦ inl (g.kept a (inr v)) | inr j ↦ inr j ]
      ];
    }

-- what a taken range implies
pub record TellsTaken (r : Space) (p n : ℕ) : Type 0 where
  pub limit : (r.base ≤ p) × (p + n ≤ r.base + r.size)
  pub not_free : (a : ℕ) → Spans p n a → IsIn r.holes a → ⊥
  pub count : 0 < r.taken
  pub bytes : r.taken + n + total r.holes ≤ r.size + 1
  pub aligned : p % 16 ≡ 0
  pub room : (new : List (ℕ × ℕ)) (top : ℕ) → IsFilled 0 top r.holes new p n → length new ≤ r.taken

-- what a taken range implies for the space
pub tells_taken : (r : Space) (p n : ℕ) → 0 < n → IsCanonical r → IsTaken r p n → TellsTaken r p n
tells_taken r p n pos s t =
    record {
      limit = taken_limit r t.before t.after p n pos t.partition;
      not_free = taken_not_free r t.before t.after p n t.partition;
      count = taken_count r t.before t.after p n t.partition;
      bytes = taken_bytes r t.before t.after p n t.partition;
      aligned = (All-middle IsAligned t.before (p, n) t.after t.partition.aligned).0;
      room = λ new top f. length_new r new t.before t.after p n top s t.partition f;
    }

-- the same, where the condition speaks of the space as a caller sees it
pub giving_told : (now r : Space) (p n m : ℕ) → r ≡ now → n ≡ m → 0 < n → IsCanonical r → IsTaken now p m → TellsTaken r p n
giving_told now r p n m same round pos s t = tells_taken r p n pos s (subst (λ (x : Space). IsTaken x p n) (sym same) (subst (λ (k : ℕ). IsTaken now p k) (sym round) t))
