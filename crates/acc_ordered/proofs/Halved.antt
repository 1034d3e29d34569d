-- A search among many keys by halves: what each of them leaves, and how many there are.
use Rattle.std.proofs.Common.{ℕ, zero, suc, ◌≡◌, ◌+◌, ◌-◌, ◌*◌, ◌/◌, ◌^◌, ◌<◌, ◌≤◌, inl, inr, List, [], ◌∷◌, ◌++◌, length, get_or, take, drop, length-append, arith, sym, ap, refl, append-nil, subst, ◌∙◌}
use Rattle.std.specs.Prelude.{nat_lt}
use Rattle.std.specs.Bool.{if◌then◌else◌}
use Rattle.std.specs.List.{AllByRecursion, slice_range}
use Rattle.std.proofs.lemmas.Bool.Decides.{nat_tests}
use Rattle.std.proofs.lemmas.List.{take-append-drop, drop-drop, take-append-le, drop-append-le, length-take-le}
use Rattle.acc_base.specs.Splits.{IsSplitBy}
use Rattle.acc_base.proofs.Elements.{AllByRecursion-append, AllByRecursion-weaker}
use Rattle.acc_base.proofs.Keyed.{Rise}
use Rattle.acc_ordered.proofs.Halving.{passed_up, failed_down, nothing_behind}
use Rattle.acc_ordered.proofs.Counting.{one_cases, IsLow, IsHigh}
use Rattle.acc_ordered.proofs.Placing.{pairs_front, pairs_behind, pairs_across}

-- ---- how many halves

-- so many are left that the steps from the first one on come to no more than the binary digits of all
abbrev pub HasDigits : ℕ → ℕ → ℕ → ℕ → Type 0
HasDigits all left first steps = (d : ℕ) → all < 2 ^ d → (e : ℕ) × (steps + e ≤ first + d) × (left < 2 ^ e)

-- half of what is left takes one digit less
one_less : (left half e : ℕ) → 0 < left → 2 * half ≤ left → left < 2 ^ e → (f : ℕ) × (f + 1 ≡ e) × (half < 2 ^ f)
one_less left half zero some twice less = absurd (omega arith)
one_less left half (suc e) some twice less = (e, omega arith, omega arith)

-- and a step more
pub digits_step : (all left half first steps : ℕ) → 0 < left → 2 * half ≤ left → HasDigits all left first steps → HasDigits all half first (steps + 1)
digits_step all left half first steps some twice before = λ d less.
    let had = before d less in
    let has = one_less left half had.0 some twice had.2 in
    (has.0, omega (arith, had.1, has.1), has.2)

-- ---- what they leave

module _ {X : Type 0} (key : X → ℕ) (number : ℕ) where
  -- the items before a place lie below, and those behind so many more do not
  pub record IsHalved (xs : List X) (low len : ℕ) : Type 0 where
    pub bound : low + len ≤ length xs
    pub passed : AllByRecursion (IsLow key number) (take low xs)
    pub failed : AllByRecursion (IsHigh key number) (drop (low + len) xs)

  -- at first all are left
  pub all_left : (xs : List X) → IsHalved xs 0 (length xs)
  all_left xs = record { bound = omega arith; passed = tt; failed = nothing_behind key (IsHigh key number) xs (0 + length xs) (omega arith) }

  halved_below : (xs : List X) (low len half one : ℕ) (d : X) → Rise key xs → 0 < len → half ≡ len / 2 → IsHalved xs low len → one ≡ 1 → key (get_or xs (low + half) d) < number → IsHalved xs (low + one * (half + 1)) ((len - one) / 2)
  halved_below xs low len half one d rise some is_half before is less =
      let bound : low + len ≤ length xs = before.bound in
      let passed = passed_up key number xs (low + half) d rise (omega arith) less in
      let place : low + half + 1 ≡ low + one * (half + 1) = rw is (omega arith) in
      let next : suc (low + half) ≡ low + half + 1 = omega arith in
      let end : low + len ≡ low + half + 1 + (len - one) / 2 = rw is (omega arith) in
      subst (λ (i : ℕ). IsHalved xs i ((len - one) / 2)) place (record {
        bound = omega arith;
        passed = subst (λ (n : ℕ). AllByRecursion (IsLow key number) (take n xs)) next passed;
        failed = subst (λ (n : ℕ). AllByRecursion (IsHigh key number) (drop n xs)) end before.failed;
      })

  halved_above : (xs : List X) (low len half one : ℕ) (d : X) → Rise key xs → 0 < len → half ≡ len / 2 → IsHalved xs low len → one ≡ 0 → number ≤ key (get_or xs (low + half) d) → IsHalved xs (low + one * (half + 1)) ((len - one) / 2)
  halved_above xs low len half one d rise some is_half before is le =
      let bound : low + len ≤ length xs = before.bound in
      let failed = failed_down key number xs (low + half) d rise (omega arith) le in
      let place : low ≡ low + one * (half + 1) = rw is (omega arith) in
      let end : half ≡ (len - one) / 2 = rw is (omega arith) in
      subst (λ (i : ℕ). IsHalved xs i ((len - one) / 2)) place (record {
        bound = omega arith;
        passed = before.passed;
        failed = subst (λ (n : ℕ). AllByRecursion (IsHigh key number) (drop (low + n) xs)) end failed;
      })

  pub halved_step : (xs : List X) (low len half one : ℕ) (d : X) → Rise key xs → 0 < len → half ≡ len / 2 → IsHalved xs low len → one ≡ (if nat_lt (key (get_or xs (low + half) d)) number then 1 else 0) → IsHalved xs (low + one * (half + 1)) ((len - one) / 2)
  halved_step xs low len half one d rise some is_half before is =
      elim (one_cases (key (get_or xs (low + half) d)) number one is) [ inl w ↦ halved_below xs low len half one d rise some is_half before w.0 w.1 | inr w ↦ halved_above xs low len half one d rise some is_half before w.0 w.1 ]

  -- the items that are left
  parts_of : (xs : List X) (low high : ℕ) → low ≤ high → take low xs ++ (slice_range xs low high ++ drop high xs) ≡ xs
  parts_of xs low high le =
      let end : high ≡ low + (high - low) = omega arith in
      ap (λ ys. take low xs ++ (slice_range xs low high ++ ys)) (ap (λ n. drop n xs) end ∙ sym (drop-drop (high - low) low xs))
      ∙ ap (λ ys. take low xs ++ ys) (take-append-drop (high - low) (drop low xs))
      ∙ take-append-drop low xs

  pub left_rises : (xs : List X) (low high : ℕ) → low ≤ high → Rise key xs → Rise key (slice_range xs low high)
  left_rises xs low high le rise =
      let parts = parts_of xs low high le in
      let all = subst (λ (ys : List X). Rise key ys) (sym parts) rise in
      pairs_front (λ x y. key x < key y) (slice_range xs low high) (drop high xs) (pairs_behind (λ x y. key x < key y) (take low xs) (slice_range xs low high ++ drop high xs) all)

  split_middle : (front middle back : List X) (n at : ℕ) → n ≡ length front + at → AllByRecursion (IsLow key number) front → AllByRecursion (IsHigh key number) back → IsSplitBy (λ x. nat_lt (key x) number) middle at → IsSplitBy (λ x. nat_lt (key x) number) (front ++ (middle ++ back)) n
  split_middle [] middle back n at is low high s =
      let same : n ≡ at = omega arith in
      rw same (record {
        bound = omega (arith, s.bound, length-append middle back);
        passed = rw (take-append-le at middle back s.bound) s.passed;
        failed = rw (drop-append-le at middle back s.bound) (AllByRecursion-append (IsHigh key number) (drop at middle) back s.failed high);
      })
  split_middle (x ∷ front) middle back zero at is low high s = absurd (omega arith)
  split_middle (x ∷ front) middle back (suc n) at is low high s =
      let rest = split_middle front middle back n at (omega arith) low.1 high s in
      record { bound = omega (arith, rest.bound); passed = (low.0, rest.passed); failed = rest.failed }

  -- where they are split, all are
  pub left_split : (xs : List X) (low len at : ℕ) → IsHalved xs low len → IsSplitBy (λ x. nat_lt (key x) number) (slice_range xs low (low + len)) at → IsSplitBy (λ x. nat_lt (key x) number) xs (low + at)
  left_split xs low len at h s =
      let bound : low + len ≤ length xs = h.bound in
      let front : length (take low xs) ≡ low = length-take-le low xs (omega arith) in
      subst (λ (ys : List X). IsSplitBy (λ x. nat_lt (key x) number) ys (low + at)) (parts_of xs low (low + len) (omega arith)) (split_middle (take low xs) (slice_range xs low (low + len)) (drop (low + len) xs) (low + at) at (omega arith) h.passed h.failed s)

  -- ---- in two parts

  -- where the second part has none below, the place is in the first
  pub split_first : (xs front behind : List X) (at : ℕ) (d : X) → front ++ behind ≡ xs → Rise key xs → (0 < length behind → number ≤ key (get_or behind 0 d)) → IsSplitBy (λ x. nat_lt (key x) number) front at → IsSplitBy (λ x. nat_lt (key x) number) xs at
  split_first xs front behind at d are rise high s =
      let all = subst (λ (ys : List X). Rise key ys) (sym are) rise in
      subst (λ (ys : List X). IsSplitBy (λ x. nat_lt (key x) number) ys at) are (split_middle [] front behind at at (omega arith) tt (none_low behind (pairs_behind (λ x y. key x < key y) front behind all) high) s)
    where
      none_low : (ys : List X) → Rise key ys → (0 < length ys → number ≤ key (get_or ys 0 d)) → AllByRecursion (IsHigh key number) ys
      none_low [] r h = tt
      none_low (y ∷ ys) r h = failed_down key number (y ∷ ys) 0 d r (omega arith) (h (omega arith))

  -- where its first one is, the place is in the second
  pub split_second : (xs front behind : List X) (at : ℕ) (d : X) → front ++ behind ≡ xs → Rise key xs → 0 < length behind → key (get_or behind 0 d) < number → IsSplitBy (λ x. nat_lt (key x) number) behind at → IsSplitBy (λ x. nat_lt (key x) number) xs (length front + at)
  split_second xs front [] at d are rise some low s = absurd (omega (arith, some))
  split_second xs front (y ∷ ys) at d are rise some low s =
      let all = subst (λ (zs : List X). Rise key zs) (sym are) rise in
      let below = AllByRecursion-weaker (λ x. AllByRecursion (λ z. key x < key z) (y ∷ ys)) (IsLow key number) front (λ x h. let less : key x < key y = h.0 in grind (arith, nat_tests)) (pairs_across (λ x z. key x < key z) front (y ∷ ys) all) in
      subst (λ (zs : List X). IsSplitBy (λ x. nat_lt (key x) number) zs (length front + at)) (ap (λ zs. front ++ zs) (append-nil (y ∷ ys)) ∙ are) (split_middle front (y ∷ ys) [] (length front + at) at refl below tt s)
