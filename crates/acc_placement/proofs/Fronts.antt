-- The first hole that is large enough, by the greatest sizes, and the front that is taken of it.
use Rattle.std.proofs.Common.{ℕ, ◌≡◌, ◌+◌, ◌-◌, ◌<◌, ◌≤◌, ◌%◌, refl, sym, ap, subst, ◌∙◌, Bool, true, false, cond, List, [], ◌∷◌, ◌++◌, length, length-append, Option, Some, None, IsSome, inl, inr, arith, rules, zero, suc}
use Rattle.std.specs.Prelude.{◌==◌, ◌&&◌, nat_le, All}
use Rattle.std.specs.Option.{option_or, is_some}
use Rattle.std.proofs.lemmas.Bool.Decides.{nat_tests}
use Rattle.std.proofs.lemmas.Bool.{cases_lt}
use Rattle.std.proofs.lemmas.List.Folds.{find-append}
use Rattle.std.proofs.lemmas.List.Elements.{All-append, All-cons}
use Rattle.acc_base.specs.Holes.{IsIn, IsRising, greatest}
use Rattle.acc_base.proofs.Elements.{AllByRecursion-weaker, find-none, find-behind}
use Rattle.acc_placement.specs.Listing.{at_place, first_large, first_large_from, cut_before, without_place, without_front}
use Rattle.acc_placement.specs.Ranges.{IsAligned, IsFit, IsLeastFit}
use Rattle.acc_placement.specs.Changes.{IsCut}
use Rattle.acc_placement.proofs.Rising.{rising_back, none_fits, fit_later, in_join_right, in_bounds}
use Rattle.acc_placement.proofs.Cutting.{cut_whole, cut_front}
use Rattle.acc_placement.proofs.Alignment.{All-left, All-middle, All-behind}
use Rattle.acc_placement.proofs.Steps.{Sides, sides, at_here, without_here}

-- ---- the search

large_none : (size : ℕ) (l : List (ℕ × ℕ)) → greatest l < size → first_large size l ≡ None
large_none size [] small = refl
large_none size (h ∷ l) small = let less : h.1 < size = omega arith in let t : nat_le size h.1 ≡ false = grind (arith, nat_tests) in rw t (large_none size l (omega arith))

large_some : (size : ℕ) (l : List (ℕ × ℕ)) → 0 < size → size ≤ greatest l → IsSome (first_large size l)
large_some size [] pos fits = absurd (omega arith)
large_some size (h ∷ l) pos fits = elim (cases_lt h.1 size) [
  | inl less ↦ let t : nat_le size h.1 ≡ false = grind (arith, nat_tests) in rw t (large_some size l pos (omega arith))
  | inr le ↦ let t : nat_le size h.1 ≡ true = grind (arith, nat_tests) in rw t refl
]

pub large_fits : (size : ℕ) (l : List (ℕ × ℕ)) → IsSome (first_large size l) → size ≤ greatest l
large_fits size l there = elim (cases_lt (greatest l) size) [
  | inl small ↦ let none = large_none size l small in absurd (search (rules, rw none at there))
  | inr le ↦ le
]

-- where none is so large, none is found from a place on
pub large_from_none : (place size : ℕ) (l : List (ℕ × ℕ)) → greatest l < size → first_large_from place size l ≡ None
large_from_none place size [] small = refl
large_from_none place size (h ∷ l) small = let less : h.1 < size = omega arith in let t : nat_le size h.1 ≡ false = grind (arith, nat_tests) in rw t (go (nat_le place h.0) (large_from_none place size l (omega arith)))
  where
    go : (b : Bool) → first_large_from place size l ≡ None → cond (b && false) (Some h) (first_large_from place size l) ≡ None
    go true e = e
    go false e = e

-- ---- the front that is taken

cut-append : (size : ℕ) (h : ℕ × ℕ) (l m : List (ℕ × ℕ)) → cut_before size h (l ++ m) ≡ cut_before size h l ++ m
cut-append size h l m = elim (h.1 == size) as (λ b. cond b (l ++ m) ((h.0 + size, h.1 - size) ∷ (l ++ m)) ≡ cond b l ((h.0 + size, h.1 - size) ∷ l) ++ m) [ true ↦ refl | false ↦ refl ]

pub front_left : (size : ℕ) (l m : List (ℕ × ℕ)) → 0 < size → size ≤ greatest l → without_front size (l ++ m) ≡ without_front size l ++ m
front_left size [] m pos fits = absurd (omega arith)
front_left size (h ∷ l) m pos fits = elim (cases_lt h.1 size) [
  | inl less ↦ let t : nat_le size h.1 ≡ false = grind (arith, nat_tests) in rw t (ap (λ hs. h ∷ hs) (front_left size l m pos (omega arith)))
  | inr le ↦ let t : nat_le size h.1 ≡ true = grind (arith, nat_tests) in rw t (cut-append size h l m)
]

front_behind : (size : ℕ) (l m : List (ℕ × ℕ)) → greatest l < size → without_front size (l ++ m) ≡ l ++ without_front size m
front_behind size [] m small = refl
front_behind size (h ∷ l) m small = let less : h.1 < size = omega arith in let t : nat_le size h.1 ≡ false = grind (arith, nat_tests) in rw t (ap (λ hs. h ∷ hs) (front_behind size l m (omega arith)))

-- ---- at a node: the holes on its left, its own, and those on its right

or_left : {X : Type 0} (o p : Option X) → IsSome o → option_or o p ≡ o
or_left None p some = cc
or_left (Some x) p some = refl

module _ (size : ℕ) (l : List (ℕ × ℕ)) (x : ℕ × ℕ) (r : List (ℕ × ℕ)) where
  pub large_left : 0 < size → size ≤ greatest l → first_large size (l ++ x ∷ r) ≡ first_large size l
  large_left pos fits = find-append (λ h. nat_le size h.1) l (x ∷ r) ∙ or_left (first_large size l) (first_large size (x ∷ r)) (large_some size l pos fits)

  pub large_here : greatest l < size → size ≤ x.1 → first_large size (l ++ x ∷ r) ≡ Some x
  large_here small fits = let t : nat_le size x.1 ≡ true = grind (arith, nat_tests) in find-behind (λ h. nat_le size h.1) l (x ∷ r) (large_none size l small) ∙ rw t refl

  pub large_right : greatest l < size → x.1 < size → first_large size (l ++ x ∷ r) ≡ first_large size r
  large_right small less = let t : nat_le size x.1 ≡ false = grind (arith, nat_tests) in find-behind (λ h. nat_le size h.1) l (x ∷ r) (large_none size l small) ∙ rw t refl

  pub front_whole : greatest l < size → x.1 ≡ size → without_front size (l ++ x ∷ r) ≡ l ++ r
  front_whole small is = let t : nat_le size x.1 ≡ true = grind (arith, nat_tests) in let s : (x.1 == size) ≡ true = grind (arith, nat_tests) in front_behind size l (x ∷ r) small ∙ rw t (rw s refl)

  pub front_cut : greatest l < size → size < x.1 → without_front size (l ++ x ∷ r) ≡ l ++ (x.0 + size, x.1 - size) ∷ r
  front_cut small more = let t : nat_le size x.1 ≡ true = grind (arith, nat_tests) in let s : (x.1 == size) ≡ false = grind (arith, nat_tests) in front_behind size l (x ∷ r) small ∙ rw t (rw s refl)

  pub front_right : greatest l < size → x.1 < size → without_front size (l ++ x ∷ r) ≡ l ++ x ∷ without_front size r
  front_right small less = let t : nat_le size x.1 ≡ false = grind (arith, nat_tests) in front_behind size l (x ∷ r) small ∙ rw t refl

  -- what a search from a place on has found on the left side is found, and else there is none
  pub large_from_found : (place : ℕ) (o : Option (ℕ × ℕ)) → is_some o ≡ true → o ≡ first_large_from place size l → o ≡ first_large_from place size (l ++ x ∷ r)
  large_from_found place None some e = cc
  large_from_found place (Some f) some e = sym (find-append (λ h. nat_le place h.0 && nat_le size h.1) l (x ∷ r) ∙ rw (← e) refl)

  pub large_from_missed : (place : ℕ) (o : Option (ℕ × ℕ)) → is_some o ≡ false → o ≡ first_large_from place size l → first_large_from place size l ≡ None
  large_from_missed place None none e = sym e
  large_from_missed place (Some f) none e = cc

  pub large_from_here : (place : ℕ) → first_large_from place size l ≡ None → place ≤ x.0 → size ≤ x.1 → first_large_from place size (l ++ x ∷ r) ≡ Some x
  large_from_here place none le fits =
      let t : nat_le place x.0 ≡ true = grind (arith, nat_tests) in
      let u : nat_le size x.1 ≡ true = grind (arith, nat_tests) in
      find-behind (λ h. nat_le place h.0 && nat_le size h.1) l (x ∷ r) none ∙ rw (t, u) refl

  pub large_from_behind : (place : ℕ) → first_large_from place size l ≡ None → place ≤ x.0 → x.1 < size → first_large_from place size (l ++ x ∷ r) ≡ first_large_from place size r
  large_from_behind place none le small =
      let t : nat_le place x.0 ≡ true = grind (arith, nat_tests) in
      let u : nat_le size x.1 ≡ false = grind (arith, nat_tests) in
      find-behind (λ h. nat_le place h.0 && nat_le size h.1) l (x ∷ r) none ∙ rw (t, u) refl

  pub large_from_right : (place low high : ℕ) → x.0 < place → Sides low l x r high → first_large_from place size (l ++ x ∷ r) ≡ first_large_from place size r
  large_from_right place low high less d =
      let t : nat_le place x.0 ≡ false = grind (arith, nat_tests) in
      find-behind (λ h. nat_le place h.0 && nat_le size h.1) l (x ∷ r) (find-none (λ h. nat_le place h.0 && nat_le size h.1) l (AllByRecursion-weaker (λ h. h.0 < x.0) (λ h. (nat_le place h.0 && nat_le size h.1) ≡ false) l (λ h u. let f : nat_le place h.0 ≡ false = grind (arith, nat_tests) in rw f refl) d.under)) ∙ rw t refl

-- ---- the first that fits, in a whole list

pub record IsFirst (size : ℕ) (hs : List (ℕ × ℕ)) (x : ℕ × ℕ) : Type 0 where
  pub before : List (ℕ × ℕ)
  pub behind : List (ℕ × ℕ)
  pub is : hs ≡ before ++ x ∷ behind
  pub small : greatest before < size
  pub large : size ≤ x.1

pub first_of : (size : ℕ) (hs : List (ℕ × ℕ)) (x : ℕ × ℕ) → 0 < size → first_large size hs ≡ Some x → IsFirst size hs x
first_of size [] x pos is = cc
first_of size (h ∷ hs) x pos is = elim (cases_lt h.1 size) [
  | inl less ↦
      let t : nat_le size h.1 ≡ false = grind (arith, nat_tests) in
      let f = first_of size hs x pos (rw t at is) in
      record { before = h ∷ f.before; behind = f.behind; is = ap (λ k. h ∷ k) f.is; small = omega (arith, f.small); large = f.large }
  | inr le ↦
      let t : nat_le size h.1 ≡ true = grind (arith, nat_tests) in
      let k : Some h ≡ Some x = rw t at is in
      let same : h ≡ x = cc in
      record { before = []; behind = hs; is = ap (λ (g : ℕ × ℕ). g ∷ hs) same; small = pos; large = rw (← same) le }
]

module _ (size : ℕ) (hs : List (ℕ × ℕ)) (x : ℕ × ℕ) (f : IsFirst size hs x) where
  -- where it is just so large, it is the one that goes
  pub front_gone : x.1 ≡ size → without_front size hs ≡ f.before ++ f.behind
  front_gone same = ap (without_front size) f.is ∙ front_whole size f.before x f.behind f.small same

  pub front_shorter : size < x.1 → without_front size hs ≡ f.before ++ (x.0 + size, x.1 - size) ∷ f.behind
  front_shorter more = ap (without_front size) f.is ∙ front_cut size f.before x f.behind f.small more

  pub first_there : (low high : ℕ) → IsRising low hs high → at_place x.0 hs ≡ Some x
  first_there low high s = ap (at_place x.0) f.is ∙ at_here (sides low f.before x f.behind high (subst (λ (k : List (ℕ × ℕ)). IsRising low k high) f.is s)) x.0 refl

  pub front_removed : (low high : ℕ) → IsRising low hs high → x.1 ≡ size → without_place x.0 hs ≡ without_front size hs
  front_removed low high s same = ap (without_place x.0) f.is ∙ without_here (sides low f.before x f.behind high (subst (λ (k : List (ℕ × ℕ)). IsRising low k high) f.is s)) x.0 refl ∙ sym (front_gone same)

  pub length-front : x.1 ≡ size → length (without_front size hs) + 1 ≡ length hs
  length-front same = omega (arith, ap length (front_gone same), ap length f.is, length-append f.before f.behind, length-append f.before (x ∷ f.behind))

-- ---- what it is for a caller who sees addresses

all_small : (hs : List (ℕ × ℕ)) (n : ℕ) → greatest hs < n → All (λ h. h.1 < n) hs
all_small [] n p k d lt = absurd (omega arith)
all_small (h ∷ hs) n p zero d lt = omega arith
all_small (h ∷ hs) n p (suc k) d lt = all_small hs n (omega arith) k d (omega arith)

pub some_fits : (low : ℕ) (hs : List (ℕ × ℕ)) (high n q : ℕ) → 0 < n → IsRising low hs high → IsFit hs n q → IsSome (first_large n hs)
some_fits low hs high n q pos s fit = elim (cases_lt (greatest hs) n) [
  | inl small ↦ absurd (none_fits low hs high n q pos s (all_small hs n small) fit)
  | inr le ↦ large_some n hs pos le
]

pub none_fit : (low : ℕ) (hs : List (ℕ × ℕ)) (high n : ℕ) → 0 < n → IsRising low hs high → first_large n hs ≡ None → (q : ℕ) → IsFit hs n q → ⊥
none_fit low hs high n pos s none q fit = let some = some_fits low hs high n q pos s fit in search (rules, rw none at some)

pub least_fit : (low : ℕ) (hs : List (ℕ × ℕ)) (high n : ℕ) (x : ℕ × ℕ) → 0 < n → IsRising low hs high → first_large n hs ≡ Some x → IsLeastFit hs n x.0
least_fit low hs high n x pos s is =
    let f = first_of n hs x pos is in
    let t = subst (λ (k : List (ℕ × ℕ)). IsRising low k high) f.is s in
    let b = rising_back low f.before (x ∷ f.behind) high t in
    let large = f.large in (
      λ a w. subst (λ (k : List (ℕ × ℕ)). IsIn k a) (sym f.is) (in_join_right f.before (x ∷ f.behind) a (inl (w.0, omega arith))),
      λ q fit.
          let g : IsFit (x ∷ f.behind) n q = fit_later low f.before (x ∷ f.behind) high n q pos t (all_small f.before n f.small) (subst (λ (k : List (ℕ × ℕ)). IsFit k n q) f.is fit) in
          elim (g q (omega arith, omega arith)) [
            | inl w ↦ w.0
            | inr w ↦ let r : (x.0 + x.1 + 1 ≤ q) × (q < high) = in_bounds (x.0 + x.1 + 1) f.behind high q b.3 w in omega arith
          ],
    )

-- taking its front takes its first addresses
pub front_taken : (low : ℕ) (hs : List (ℕ × ℕ)) (high n : ℕ) (x : ℕ × ℕ) → 0 < n → IsRising low hs high → first_large n hs ≡ Some x → IsCut low high hs (without_front n hs) x.0 n
front_taken low hs high n x pos s is =
    let f = first_of n hs x pos is in
    let t = subst (λ (k : List (ℕ × ℕ)). IsRising low k high) f.is s in
    subst (λ (k : List (ℕ × ℕ)). IsCut low high k (without_front n hs) x.0 n) (sym f.is) (elim (cases_lt n x.1) [
      | inl more ↦ subst (λ (k : List (ℕ × ℕ)). IsCut low high (f.before ++ x ∷ f.behind) k x.0 n) (sym (front_shorter n hs x f more)) (cut_front low f.before x f.behind high n more t)
      | inr le ↦ let same : x.1 ≡ n = omega (arith, f.large) in subst (λ (k : List (ℕ × ℕ)). IsCut low high (f.before ++ x ∷ f.behind) k x.0 n) (sym (front_gone n hs x f same)) (cut_whole low f.before x f.behind high n same t)
    ])

-- and leaves multiples of 16
pub front_aligned : (hs : List (ℕ × ℕ)) (n : ℕ) (x : ℕ × ℕ) → 0 < n → first_large n hs ≡ Some x → All IsAligned hs → n % 16 ≡ 0 → All IsAligned (without_front n hs) × (x.0 % 16 ≡ 0)
front_aligned hs n x pos is a round =
    let f = first_of n hs x pos is in
    let b : All IsAligned (f.before ++ x ∷ f.behind) = subst (λ (k : List (ℕ × ℕ)). All IsAligned k) f.is a in
    let left = All-left IsAligned f.before (x ∷ f.behind) b in
    let here : IsAligned x = All-middle IsAligned f.before x f.behind b in
    let right = All-behind IsAligned f.before x f.behind b in (
      elim (cases_lt n x.1) [
        | inl more ↦ subst (λ (k : List (ℕ × ℕ)). All IsAligned k) (sym (front_shorter n hs x f more)) (All-append IsAligned f.before ((x.0 + n, x.1 - n) ∷ f.behind) left (All-cons IsAligned (x.0 + n, x.1 - n) f.behind (omega (arith, here.0), omega (arith, here.1)) right))
        | inr le ↦ subst (λ (k : List (ℕ × ℕ)). All IsAligned k) (sym (front_gone n hs x f (omega (arith, f.large)))) (All-append IsAligned f.before f.behind left right)
      ],
      here.0,
    )
