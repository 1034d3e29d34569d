-- Giving a range back: which holes it touches, and what the holes are with it.
use Rattle.std.proofs.Common.{◌≡◌, ℕ, zero, suc, ◌+◌, ◌-◌, ◌^◌, ◌<◌, ◌≤◌, ◌%◌, Bool, true, false, cond, List, [], ◌∷◌, ◌++◌, inl, inr, arith, refl, subst, sym, ap, ◌∙◌, length, length-append, append_assoc, Option, Some, None, IsSome}
use Rattle.std.specs.Prelude.{All, ◌==◌, nat_lt, nat_le, IfSome}
use Rattle.std.specs.List.{AllByRecursion}
use Rattle.std.specs.Option.{option_or}
use Rattle.std.proofs.lemmas.Bool.{cases_lt}
use Rattle.std.proofs.lemmas.Bool.Decides.{nat_tests}
use Rattle.std.proofs.lemmas.List.Elements.{All-append, All-cons}
use Rattle.acc_base.specs.Holes.{IsIn, IsRising, total}
use Rattle.acc_base.specs.Section.{Spans}
use Rattle.acc_base.proofs.Elements.{AllByRecursion-weaker}
use Rattle.acc_placement.specs.Listing.{at_place, first_from, last_before, size_ending, size_beginning, with_hole, with_hole_moved, without_place}
use Rattle.acc_placement.specs.Ranges.{IsAligned}
use Rattle.acc_placement.specs.Changes.{IsAround, IsFilled, MayGrow, end_after, piece}
use Rattle.acc_placement.proofs.Rising.{low_le-after, rising_from, rising_join, in_parts, in_join_left, in_join_right, total-append}
use Rattle.acc_placement.proofs.Alignment.{All-left, All-right}
use Rattle.acc_placement.proofs.Steps.{sides, places_from, before_none, with_behind, at_here, range_here, without_here, rising_without}

-- ---- a range, or nothing where it has no addresses

piece_none : (q m : ℕ) → m ≡ 0 → piece q m ≡ []
piece_none q zero none = refl
piece_none q (suc m) none = absurd (omega arith)

piece_some : (q m : ℕ) → 0 < m → piece q m ≡ (q, m) ∷ []
piece_some q zero some = absurd (omega arith)
piece_some q (suc m) some = refl

piece_in : (q m a : ℕ) → Spans q m a → IsIn (piece q m) a
piece_in q zero a w = absurd (omega (arith, w.0, w.1))
piece_in q (suc m) a w = inl w

piece_spans : (q m a : ℕ) → IsIn (piece q m) a → Spans q m a
piece_spans q zero a i = absurd i
piece_spans q (suc m) a (inl w) = w
piece_spans q (suc m) a (inr i) = absurd i

total_piece : (q m : ℕ) → total (piece q m) ≡ m
total_piece q zero = refl
total_piece q (suc m) = omega arith

piece_aligned : (q m : ℕ) → All IsAligned (piece q m) → m % 16 ≡ 0
piece_aligned q zero a = refl
piece_aligned q (suc m) a = (a 0 (q, suc m) (omega arith)).1

-- ---- the holes round a range

-- holes from p on, of which the first begins at q with `back` addresses, or after q where that is 0
record IsBehind (q back : ℕ) (hs : List (ℕ × ℕ)) (high : ℕ) : Type 0 where
  r : List (ℕ × ℕ)
  is : hs ≡ piece q back ++ r
  fits : q + back ≤ high
  behind : IsRising (q + back + 1) r high

behind_of : (p n back : ℕ) (hs : List (ℕ × ℕ)) (high : ℕ) → p + n ≤ high → IsRising p hs high → ((a : ℕ) → Spans p n a → IsIn hs a → ⊥) → size_beginning (first_from p hs) (p + n) ≡ back → IsBehind (p + n) back hs high
behind_of p n back [] high limit s free beginning = rw (← beginning) (record { r = []; is = refl; fits = omega arith; behind = tt })
behind_of p n back (h ∷ hs) high limit s free beginning =
    let t : nat_le p h.0 ≡ true = let le = s.0 in grind (arith, nat_tests) in
    elim (cases_lt h.0 (p + n)) [
      | inl less ↦ absurd (free h.0 (s.0, less) (inl (omega arith, omega (arith, s.1))))
      | inr ge ↦ go ge (h.0 == p + n) refl (rw t at beginning)
    ]
  where
    go : p + n ≤ h.0 → (b : Bool) → (h.0 == p + n) ≡ b → cond b h.1 0 ≡ back → IsBehind (p + n) back (h ∷ hs) high
    go ge true t is =
        let here : h.0 ≡ p + n = grind (arith, nat_tests) in
        rw (← is) (record {
          r = hs;
          is = rw (piece_some (p + n) h.1 s.1) (ap (λ (q : ℕ). (q, h.1) ∷ hs) here);
          fits = omega (arith, s.2);
          behind = subst (λ (q : ℕ). IsRising (q + h.1 + 1) hs high) here s.3;
        })
    go ge false t is =
        let more : p + n < h.0 = grind (arith, nat_tests) in
        rw (← is) (record { r = h ∷ hs; is = refl; fits = omega arith; behind = (omega arith, s.1, s.2, s.3) })

-- what a hole that does not end at p says of it
ending_or : (o : Option (ℕ × ℕ)) (h : ℕ × ℕ) (p : ℕ) → (h.0 + h.1 == p) ≡ false → size_ending (option_or o (Some h)) p ≡ size_ending o p
ending_or None h p t = rw t refl
ending_or (Some k) h p t = refl

around_of : (low : ℕ) (hs : List (ℕ × ℕ)) (high p n front back : ℕ) → low ≤ p → p + n ≤ high → 0 < n → IsRising low hs high → ((a : ℕ) → Spans p n a → IsIn hs a → ⊥) → size_ending (last_before p hs) p ≡ front → size_beginning (first_from p hs) (p + n) ≡ back → IsAround low hs high p n front back
around_of low [] high p n front back le limit pos s free ending beginning =
    let b = behind_of p n back [] high limit tt free beginning in
    rw (← ending) (record { l = []; r = b.r; is = b.is; first = tt; below = omega arith; fits = b.fits; behind = b.behind })
around_of low (h ∷ hs) high p n front back le limit pos s free ending beginning = elim (cases_lt h.0 p) [
  | inl less ↦ elim (cases_lt p (h.0 + h.1)) [
    | inl over ↦ absurd (free p (omega arith, omega arith) (inl (omega arith, over)))
    | inr ends ↦ go (λ end x y. around_of (h.0 + h.1 + 1) hs high p n front back end limit pos s.3 (λ a w i. free a w (inr i)) x y) less ends (h.0 + h.1 == p) refl
  ]
  | inr ge ↦
      let b = behind_of p n back (h ∷ hs) high limit (ge, s.1, s.2, s.3) free beginning in
      let none = before_none p (h ∷ hs) (ge, from_there p (omega arith)) in
      rw (← (sym (ap (λ (o : Option (ℕ × ℕ)). size_ending o p) none) ∙ ending)) (record { l = []; r = b.r; is = b.is; first = tt; below = omega arith; fits = b.fits; behind = b.behind })
]
  where
    from_there : (q : ℕ) → q ≤ h.0 + h.1 + 1 → AllByRecursion (λ g. q ≤ g.0) hs
    from_there q le = AllByRecursion-weaker (λ g. h.0 + h.1 + 1 ≤ g.0) (λ g. q ≤ g.0) hs (λ g more. omega arith) (places_from (h.0 + h.1 + 1) hs high s.3)

    go : (h.0 + h.1 + 1 ≤ p → size_ending (last_before p hs) p ≡ front → size_beginning (first_from p hs) (p + n) ≡ back → IsAround (h.0 + h.1 + 1) hs high p n front back) → h.0 < p → h.0 + h.1 ≤ p → (b : Bool) → (h.0 + h.1 == p) ≡ b → IsAround low (h ∷ hs) high p n front back
    go later less end true t =
        let ends : h.0 + h.1 ≡ p = grind (arith, nat_tests) in
        let u : nat_lt h.0 p ≡ true = grind (arith, nat_tests) in
        let v : nat_le p h.0 ≡ false = grind (arith, nat_tests) in
        let none = before_none p hs (from_there p (omega arith)) in
        let sized : h.1 ≡ front = rw (none, u, t) at ending in
        let b = behind_of p n back hs high limit (rising_from (h.0 + h.1 + 1) p hs high (omega arith) s.3) (λ a w i. free a w (inr i)) (rw v at beginning) in
        rw (← sized) (record {
          l = [];
          r = b.r;
          is = let place : p - h.1 ≡ h.0 = omega arith in rw (place, piece_some h.0 h.1 s.1) (ap (λ (k : List (ℕ × ℕ)). h ∷ k) b.is);
          first = tt;
          below = omega (arith, s.0);
          fits = b.fits;
          behind = b.behind;
        })
    go later less end false t =
        let u : nat_lt h.0 p ≡ true = grind (arith, nat_tests) in
        let v : nat_le p h.0 ≡ false = grind (arith, nat_tests) in
        let before : size_ending (last_before p hs) p ≡ front = sym (ending_or (last_before p hs) h p t) ∙ (rw u at ending) in
        let a = later (grind (arith, nat_tests)) before (rw v at beginning) in
        record { l = h ∷ a.l; r = a.r; is = ap (λ (k : List (ℕ × ℕ)). h ∷ k) a.is; first = (s.0, s.1, s.2, a.first); below = a.below; fits = a.fits; behind = a.behind }

-- as two searches have found them
pub around_seen : (hs : List (ℕ × ℕ)) (p n front back : ℕ) (o q : Option (ℕ × ℕ)) → o ≡ last_before p hs → q ≡ first_from p hs → front ≡ size_ending o p → back ≡ size_beginning q (p + n) → 0 < n → ((a : ℕ) → Spans p n a → IsIn hs a → ⊥) → (low high : ℕ) → IsRising low hs high → low ≤ p → p + n ≤ high → IsAround low hs high p n front back
around_seen hs p n front back o q before from ending beginning pos free low high s le limit = around_of low hs high p n front back le limit pos s free (sym (ending ∙ ap (λ (k : Option (ℕ × ℕ)). size_ending k p) before)) (sym (beginning ∙ ap (λ (k : Option (ℕ × ℕ)). size_beginning k (p + n)) from))

-- the hole before a place ends where the holes do at most
pub last_limit : (p low : ℕ) (hs : List (ℕ × ℕ)) (high : ℕ) → IsRising low hs high → IfSome (last_before p hs) (λ h. h.0 + h.1 ≤ high)
last_limit p low [] high s = tt
last_limit p low (h ∷ hs) high s = go (last_before p hs) (nat_lt h.0 p) (last_limit p (h.0 + h.1 + 1) hs high s.3)
  where
    go : (o : Option (ℕ × ℕ)) (b : Bool) → IfSome o (λ g. g.0 + g.1 ≤ high) → IfSome (option_or o (cond b (Some h) None)) (λ g. g.0 + g.1 ≤ high)
    go (Some g) b rest = rest
    go None true rest = s.2
    go None false rest = tt

-- a hole that grows where it stands
pub record IsGrown (place to size : ℕ) (hs new : List (ℕ × ℕ)) : Type 0 where
  pub may : IsRising 0 new (2 ^ 41) → MayGrow place to size hs
  pub is : with_hole_moved place to size hs ≡ new

grown : (low high place old to size : ℕ) (hs l r : List (ℕ × ℕ)) → IsRising low hs high → hs ≡ l ++ (place, old) ∷ r → old ≤ size → IsGrown place to size hs (l ++ (to, size) ∷ r)
grown low high place old to size hs l r s is le =
    let d = sides low l (place, old) r high (subst (λ (k : List (ℕ × ℕ)). IsRising low k high) is s) in
    let found : at_place place hs ≡ Some (place, old) = ap (at_place place) is ∙ at_here d place refl in
    let new : with_hole_moved place to size hs ≡ l ++ (to, size) ∷ r = ap (with_hole_moved place to size) is ∙ range_here d place to size refl in
    record { may = λ rising. record { there = rw found refl; not_less = rw found le; rising = rw new rising }; is = new }

module _ (low : ℕ) (hs : List (ℕ × ℕ)) (high p n front back : ℕ) (a : IsAround low hs high p n front back) where
  -- the holes with the range, merged with those that it touches
  abbrev pub merged : List (ℕ × ℕ)
  merged = a.l ++ (p - front, front + n + back) ∷ a.r

  merged_aligned : All IsAligned hs → p % 16 ≡ 0 → n % 16 ≡ 0 → All IsAligned merged
  merged_aligned al place long =
      let m = piece (p - front) front in
      let k = piece (p + n) back in
      let whole : All IsAligned (a.l ++ (m ++ (k ++ a.r))) = subst (λ (z : List (ℕ × ℕ)). All IsAligned z) a.is al in
      let later = All-right IsAligned a.l (m ++ (k ++ a.r)) whole in
      let last = All-right IsAligned m (k ++ a.r) later in
      let f = piece_aligned (p - front) front (All-left IsAligned m (k ++ a.r) later) in
      let b = piece_aligned (p + n) back (All-left IsAligned k a.r last) in
      All-append IsAligned a.l ((p - front, front + n + back) ∷ a.r) (All-left IsAligned a.l (m ++ (k ++ a.r)) whole) (All-cons IsAligned (p - front, front + n + back) a.r (omega (arith, a.below, f, place), omega (arith, f, b, long)) (All-right IsAligned k a.r last))

  -- the addresses are those of the holes and of the range
  pub filled : 0 < n → IsFilled low high hs merged p n
  filled pos =
      let m = piece (p - front) front in
      let k = piece (p + n) back in
      let x : ℕ × ℕ = (p - front, front + n + back) in
      let rest : List (ℕ × ℕ) = m ++ (k ++ a.r) in
      let end : p + n + back + 1 ≡ p - front + (front + n + back) + 1 = omega (arith, a.below) in
      let sum : total merged ≡ total a.l + (front + n + back + total a.r) = total-append a.l (x ∷ a.r) in
      subst (λ (z : List (ℕ × ℕ)). IsFilled low high z merged p n) (sym a.is) (record {
        rising = rising_join low a.l (x ∷ a.r) high a.first (omega (arith, a.below), omega arith, omega (arith, a.below, a.fits), subst (λ (z : ℕ). IsRising z a.r high) end a.behind);
        used = omega (arith, sum, total-append a.l rest, total-append m (k ++ a.r), total-append k a.r, total_piece (p - front) front, total_piece (p + n) back);
        free = λ b i. elim (in_parts a.l (x ∷ a.r) b i) [
          | inl j ↦ inl (in_join_left a.l rest b j)
          | inr (inl w) ↦ elim (cases_lt b p) [
            | inl less ↦ inl (in_join_right a.l rest b (in_join_left m (k ++ a.r) b (piece_in (p - front) front b (w.0, omega (arith, a.below)))))
            | inr ge ↦ elim (cases_lt b (p + n)) [
              | inl less ↦ inr (ge, less)
              | inr more ↦ inl (in_join_right a.l rest b (in_join_right m (k ++ a.r) b (in_join_left k a.r b (piece_in (p + n) back b (more, omega (arith, a.below, w.1))))))
            ]
          ]
          | inr (inr j) ↦ inl (in_join_right a.l rest b (in_join_right m (k ++ a.r) b (in_join_right k a.r b j)))
        ];
        kept = λ b u. elim u [
          | inl i ↦ elim (in_parts a.l rest b i) [
            | inl j ↦ in_join_left a.l (x ∷ a.r) b j
            | inr j ↦ in_join_right a.l (x ∷ a.r) b (elim (in_parts m (k ++ a.r) b j) [
              | inl w ↦ let s = piece_spans (p - front) front b w in inl (s.0, omega (arith, a.below, s.1))
              | inr v ↦ elim (in_parts k a.r b v) [
                | inl w ↦ let s = piece_spans (p + n) back b w in inl (omega (arith, a.below, s.0), omega (arith, a.below, s.1))
                | inr w ↦ inr w
              ]
            ])
          ]
          | inr w ↦ in_join_right a.l (x ∷ a.r) b (inl (omega (arith, a.below, w.0), omega (arith, a.below, w.1)))
        ];
        aligned = λ al place long. merged_aligned (subst (λ (z : List (ℕ × ℕ)). All IsAligned z) (sym a.is) al) place long;
      })

  -- ---- how they come to be, by which holes the range touches

  under : (l : List (ℕ × ℕ)) (from q : ℕ) → IsRising from l high → end_after from l ≤ q → AllByRecursion (λ h. h.0 ≤ q) l
  under [] from q s le = tt
  under (h ∷ l) from q s le = let more = low_le-after (h.0 + h.1 + 1) l high s.3 in (omega arith, under l (h.0 + h.1 + 1) q s.3 le)

  first_in : (x : ℕ × ℕ) (r : List (ℕ × ℕ)) (from : ℕ) → IsRising from r high → x.0 < from → with_hole x r ≡ x ∷ r
  first_in x [] from s less = refl
  first_in x (h ∷ r) from s less = let more : x.0 < h.0 = omega (arith, s.0) in let t : nat_lt x.0 h.0 ≡ true = grind (arith, nat_tests) in rw t refl

  alone : front ≡ 0 → back ≡ 0 → hs ≡ a.l ++ a.r
  alone none_front none_back = a.is ∙ rw (piece_none (p - front) front none_front, piece_none (p + n) back none_back) refl

  pub put_alone : front ≡ 0 → back ≡ 0 → with_hole (p - front, front + n + back) hs ≡ merged
  put_alone none_front none_back =
      let x : ℕ × ℕ = (p - front, front + n + back) in
      ap (with_hole x) (alone none_front none_back) ∙ with_behind x a.l a.r (under a.l low (p - front) a.first (omega (arith, a.below))) ∙ ap (λ (k : List (ℕ × ℕ)). a.l ++ k) (first_in x a.r (p + n + back + 1) a.behind (omega arith))

  pub length_alone : front ≡ 0 → back ≡ 0 → length merged ≡ length hs + 1
  length_alone none_front none_back = omega (arith, ap length (alone none_front none_back), length-append a.l a.r, length-append a.l ((p - front, front + n + back) ∷ a.r))

  pub grown_behind : IsRising low hs high → front ≡ 0 → 0 < back → IsGrown (p + n) (p - front) (front + n + back) hs merged
  grown_behind s none some = grown low high (p + n) back (p - front) (front + n + back) hs a.l a.r s (a.is ∙ rw (piece_none (p - front) front none, piece_some (p + n) back some) refl) (omega arith)

  pub grown_before : IsRising low hs high → 0 < front → back ≡ 0 → IsGrown (p - front) (p - front) (front + n + back) hs merged
  grown_before s some none = grown low high (p - front) front (p - front) (front + n + back) hs a.l a.r s (a.is ∙ rw (piece_some (p - front) front some, piece_none (p + n) back none) refl) (omega arith)

  both : 0 < front → 0 < back → hs ≡ a.l ++ (p - front, front) ∷ (p + n, back) ∷ a.r
  both some some_behind = a.is ∙ rw (piece_some (p - front) front some, piece_some (p + n) back some_behind) refl

  pub length_both : 0 < front → 0 < back → length merged + 1 ≡ length hs
  length_both some some_behind = omega (arith, ap length (both some some_behind), length-append a.l ((p - front, front) ∷ (p + n, back) ∷ a.r), length-append a.l ((p - front, front + n + back) ∷ a.r))

  pub there_behind : IsRising low hs high → 0 < front → 0 < back → IsSome (at_place (p + n) hs)
  there_behind s some some_behind =
      let x : ℕ × ℕ = (p - front, front) in
      let y : ℕ × ℕ = (p + n, back) in
      let whole : hs ≡ (a.l ++ x ∷ []) ++ y ∷ a.r = both some some_behind ∙ sym (append_assoc a.l (x ∷ []) (y ∷ a.r)) in
      let d = sides low (a.l ++ x ∷ []) y a.r high (subst (λ (k : List (ℕ × ℕ)). IsRising low k high) whole s) in
      let found = ap (at_place (p + n)) whole ∙ at_here d (p + n) refl in
      rw found refl

  pub grown_both : IsRising low hs high → 0 < front → 0 < back → IsGrown (p - front) (p - front) (front + n + back) (without_place (p + n) hs) merged
  grown_both s some some_behind =
      let x : ℕ × ℕ = (p - front, front) in
      let y : ℕ × ℕ = (p + n, back) in
      let whole : hs ≡ (a.l ++ x ∷ []) ++ y ∷ a.r = both some some_behind ∙ sym (append_assoc a.l (x ∷ []) (y ∷ a.r)) in
      let d = sides low (a.l ++ x ∷ []) y a.r high (subst (λ (k : List (ℕ × ℕ)). IsRising low k high) whole s) in
      let rest : without_place (p + n) hs ≡ a.l ++ x ∷ a.r = ap (without_place (p + n)) whole ∙ without_here d (p + n) refl ∙ append_assoc a.l (x ∷ []) a.r in
      grown low high (p - front) front (p - front) (front + n + back) (without_place (p + n) hs) a.l a.r (rising_without (p + n) low hs high s) rest (omega arith)
