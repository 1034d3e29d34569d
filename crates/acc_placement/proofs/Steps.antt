-- A step down a tree: what a search or a change at a place does to the holes before and behind one.
use Rattle.std.proofs.Common.{ℕ, ◌≡◌, ◌+◌, ◌<◌, ◌≤◌, refl, sym, ap, subst, ◌∙◌, append_assoc, Bool, true, false, cond, List, [], ◌∷◌, ◌++◌, length, Option, Some, None, arith}
use Rattle.std.specs.Prelude.{◌==◌, not, nat_lt, nat_le}
use Rattle.std.specs.List.{AllByRecursion}
use Rattle.std.specs.Option.{option_or}
use Rattle.std.proofs.lemmas.Bool.Decides.{nat_tests}
use Rattle.std.proofs.lemmas.List.{map-append}
use Rattle.std.proofs.lemmas.List.Elements.{filter-append}
use Rattle.std.proofs.lemmas.List.Folds.{find-append}
use Rattle.acc_base.specs.Holes.{IsRising}
use Rattle.acc_base.proofs.Elements.{AllByRecursion-weaker, find-none, find-behind, find-front}
use Rattle.acc_base.proofs.Options.{or_none, or_or}
use Rattle.acc_placement.specs.Listing.{at_place, first_from, last_before, with_hole, without_place, with_hole_moved}
use Rattle.acc_placement.proofs.Rising.{rising_from}

-- holes that rise begin from there on
pub places_from : (low : ℕ) (hs : List (ℕ × ℕ)) (high : ℕ) → IsRising low hs high → AllByRecursion (λ h. low ≤ h.0) hs
places_from low [] high s = tt
places_from low (h ∷ hs) high s = (s.0, AllByRecursion-weaker (λ g. h.0 + h.1 + 1 ≤ g.0) (λ g. low ≤ g.0) hs (λ g more. omega (arith, s.0)) (places_from (h.0 + h.1 + 1) hs high s.3))

-- what is known on the two sides of a hole
pub record Sides (low : ℕ) (l : List (ℕ × ℕ)) (x : ℕ × ℕ) (r : List (ℕ × ℕ)) (high : ℕ) : Type 0 where
  pub left : IsRising low l high
  pub right : IsRising low r high
  pub first : low ≤ x.0
  pub last : x.0 + x.1 ≤ high
  pub under : AllByRecursion (λ h. h.0 < x.0) l
  pub over : AllByRecursion (λ h. x.0 < h.0) r

pub sides : (low : ℕ) (l : List (ℕ × ℕ)) (x : ℕ × ℕ) (r : List (ℕ × ℕ)) (high : ℕ) → IsRising low (l ++ x ∷ r) high → Sides low l x r high
sides low [] x r high s = record {
  left = tt;
  right = rising_from (x.0 + x.1 + 1) low r high (omega (arith, s.0)) s.3;
  first = s.0;
  last = s.2;
  under = tt;
  over = AllByRecursion-weaker (λ h. x.0 + x.1 + 1 ≤ h.0) (λ h. x.0 < h.0) r (λ h more. omega arith) (places_from (x.0 + x.1 + 1) r high s.3);
}
sides low (h ∷ l) x r high s =
    let d = sides (h.0 + h.1 + 1) l x r high s.3 in
    record {
      left = (s.0, s.1, s.2, d.left);
      right = rising_from (h.0 + h.1 + 1) low r high (omega (arith, s.0)) d.right;
      first = omega (arith, s.0, d.first);
      last = d.last;
      under = (omega (arith, d.first), d.under);
      over = d.over;
    }

-- a place that is none of those from a greater one on, or before a lesser one
others_over : (place : ℕ) (x : ℕ × ℕ) (r : List (ℕ × ℕ)) → place ≤ x.0 → AllByRecursion (λ h. x.0 < h.0) r → AllByRecursion (λ h. (h.0 == place) ≡ false) r
others_over place x r le over = AllByRecursion-weaker (λ h. x.0 < h.0) (λ h. (h.0 == place) ≡ false) r (λ h more. grind (arith, nat_tests)) over

others_under : (place : ℕ) (x : ℕ × ℕ) (l : List (ℕ × ℕ)) → x.0 ≤ place → AllByRecursion (λ h. h.0 < x.0) l → AllByRecursion (λ h. (h.0 == place) ≡ false) l
others_under place x l le under = AllByRecursion-weaker (λ h. h.0 < x.0) (λ h. (h.0 == place) ≡ false) l (λ h less. grind (arith, nat_tests)) under

-- holes of other places stay as they are
kept : (place : ℕ) (hs : List (ℕ × ℕ)) → AllByRecursion (λ h. (h.0 == place) ≡ false) hs → without_place place hs ≡ hs
kept place [] others = refl
kept place (h ∷ hs) others = rw others.0 (ap (λ k. h ∷ k) (kept place hs others.1))

same_ranges : (place to size : ℕ) (hs : List (ℕ × ℕ)) → AllByRecursion (λ h. (h.0 == place) ≡ false) hs → with_hole_moved place to size hs ≡ hs
same_ranges place to size [] others = refl
same_ranges place to size (h ∷ hs) others = rw others.0 (ap (λ k. h ∷ k) (same_ranges place to size hs others.1))

pub same_over : (place to size : ℕ) (x : ℕ × ℕ) (r : List (ℕ × ℕ)) → place ≤ x.0 → AllByRecursion (λ h. x.0 < h.0) r → with_hole_moved place to size r ≡ r
same_over place to size x r le over = same_ranges place to size r (others_over place x r le over)

-- ---- the hole before a place

before-append : (place : ℕ) (l m : List (ℕ × ℕ)) → last_before place (l ++ m) ≡ option_or (last_before place m) (last_before place l)
before-append place [] m = sym (or_none (last_before place m))
before-append place (h ∷ l) m = let here = cond (nat_lt h.0 place) (Some h) None in ap (λ o. option_or o here) (before-append place l m) ∙ or_or (last_before place m) (last_before place l) here

pub before_none : (place : ℕ) (r : List (ℕ × ℕ)) → AllByRecursion (λ h. place ≤ h.0) r → last_before place r ≡ None
before_none place [] over = refl
before_none place (h ∷ r) over = let le = over.0 in let t : nat_lt h.0 place ≡ false = grind (arith, nat_tests) in rw (t, before_none place r over.1) refl

or_some : (o : Option (ℕ × ℕ)) (x : ℕ × ℕ) (p : Option (ℕ × ℕ)) → option_or (option_or o (Some x)) p ≡ option_or o (Some x)
or_some None x p = refl
or_some (Some y) x p = refl

-- ---- a hole that is put in

pub with_behind : (new : ℕ × ℕ) (l r : List (ℕ × ℕ)) → AllByRecursion (λ h. h.0 ≤ new.0) l → with_hole new (l ++ r) ≡ l ++ with_hole new r
with_behind new [] r under = refl
with_behind new (h ∷ l) r under =
    let le = under.0 in
    let t : nat_lt new.0 h.0 ≡ false = grind (arith, nat_tests) in
    rw t (ap (λ hs. h ∷ hs) (with_behind new l r under.1))

with_before : (new : ℕ × ℕ) (l : List (ℕ × ℕ)) (x : ℕ × ℕ) (r : List (ℕ × ℕ)) → new.0 < x.0 → with_hole new (l ++ x ∷ r) ≡ with_hole new l ++ x ∷ r
with_before new [] x r less = let t : nat_lt new.0 x.0 ≡ true = grind (arith, nat_tests) in rw t refl
with_before new (h ∷ l) x r less = go (nat_lt new.0 h.0) (with_before new l x r less)
  where
    go : (b : Bool) → with_hole new (l ++ x ∷ r) ≡ with_hole new l ++ x ∷ r → cond b (new ∷ h ∷ (l ++ x ∷ r)) (h ∷ with_hole new (l ++ x ∷ r)) ≡ cond b (new ∷ h ∷ l) (h ∷ with_hole new l) ++ x ∷ r
    go true rest = refl
    go false rest = ap (λ hs. h ∷ hs) rest

-- ---- at a node: the holes on its left, its own, and those on its right

module _ {low high : ℕ} {l : List (ℕ × ℕ)} {x : ℕ × ℕ} {r : List (ℕ × ℕ)} (d : Sides low l x r high) (place : ℕ) where
  pub at_left : place < x.0 → at_place place (l ++ x ∷ r) ≡ at_place place l
  at_left less = let t : (x.0 == place) ≡ false = grind (arith, nat_tests) in find-front (λ h. h.0 == place) l (x ∷ r) (find-none (λ h. h.0 == place) (x ∷ r) (t, others_over place x r (omega arith) d.over))

  pub at_here : x.0 ≡ place → at_place place (l ++ x ∷ r) ≡ Some x
  at_here is = let t : (x.0 == place) ≡ true = grind (arith, nat_tests) in find-behind (λ h. h.0 == place) l (x ∷ r) (find-none (λ h. h.0 == place) l (others_under place x l (omega arith) d.under)) ∙ rw t refl

  pub at_right : x.0 < place → at_place place (l ++ x ∷ r) ≡ at_place place r
  at_right less = let t : (x.0 == place) ≡ false = grind (arith, nat_tests) in find-behind (λ h. h.0 == place) l (x ∷ r) (find-none (λ h. h.0 == place) l (others_under place x l (omega arith) d.under)) ∙ rw t refl

  pub from_left : place ≤ x.0 → first_from place (l ++ x ∷ r) ≡ option_or (first_from place l) (Some x)
  from_left le = let t : nat_le place x.0 ≡ true = grind (arith, nat_tests) in find-append (λ h. nat_le place h.0) l (x ∷ r) ∙ rw t refl

  pub from_right : x.0 < place → first_from place (l ++ x ∷ r) ≡ first_from place r
  from_right less =
      let t : nat_le place x.0 ≡ false = grind (arith, nat_tests) in
      find-behind (λ h. nat_le place h.0) l (x ∷ r) (find-none (λ h. nat_le place h.0) l (AllByRecursion-weaker (λ h. h.0 < x.0) (λ h. nat_le place h.0 ≡ false) l (λ h u. grind (arith, nat_tests)) d.under)) ∙ rw t refl

  pub before_left : place ≤ x.0 → last_before place (l ++ x ∷ r) ≡ last_before place l
  before_left le =
      let none : last_before place (x ∷ r) ≡ None = before_none place (x ∷ r) (le, AllByRecursion-weaker (λ h. x.0 < h.0) (λ h. place ≤ h.0) r (λ h more. omega arith) d.over) in
      before-append place l (x ∷ r) ∙ ap (λ o. option_or o (last_before place l)) none

  pub before_right : x.0 < place → last_before place (l ++ x ∷ r) ≡ option_or (last_before place r) (Some x)
  before_right less =
      let t : nat_lt x.0 place ≡ true = grind (arith, nat_tests) in
      before-append place l (x ∷ r) ∙ rw t (or_some (last_before place r) x (last_before place l))

  pub with_left : (size : ℕ) → place < x.0 → with_hole (place, size) (l ++ x ∷ r) ≡ with_hole (place, size) l ++ x ∷ r
  with_left size less = with_before (place, size) l x r less

  pub with_right : (size : ℕ) → x.0 ≤ place → with_hole (place, size) (l ++ x ∷ r) ≡ l ++ x ∷ with_hole (place, size) r
  with_right size le =
      let t : nat_lt place x.0 ≡ false = grind (arith, nat_tests) in
      with_behind (place, size) l (x ∷ r) (AllByRecursion-weaker (λ h. h.0 < x.0) (λ h. h.0 ≤ place) l (λ h less. omega arith) d.under) ∙ rw t refl

  pub without_left : place < x.0 → without_place place (l ++ x ∷ r) ≡ without_place place l ++ x ∷ r
  without_left less =
      let t : (x.0 == place) ≡ false = grind (arith, nat_tests) in
      filter-append (λ h. not (h.0 == place)) l (x ∷ r) ∙ rw t (ap (λ hs. without_place place l ++ x ∷ hs) (kept place r (others_over place x r (omega arith) d.over)))

  pub without_here : x.0 ≡ place → without_place place (l ++ x ∷ r) ≡ l ++ r
  without_here is =
      let t : (x.0 == place) ≡ true = grind (arith, nat_tests) in
      filter-append (λ h. not (h.0 == place)) l (x ∷ r) ∙ rw t (rw (kept place l (others_under place x l (omega arith) d.under), kept place r (others_over place x r (omega arith) d.over)) refl)

  pub without_right : x.0 < place → without_place place (l ++ x ∷ r) ≡ l ++ x ∷ without_place place r
  without_right less =
      let t : (x.0 == place) ≡ false = grind (arith, nat_tests) in
      filter-append (λ h. not (h.0 == place)) l (x ∷ r) ∙ rw t (ap (λ hs. hs ++ x ∷ without_place place r) (kept place l (others_under place x l (omega arith) d.under)))

  pub range_left : (to size : ℕ) → place < x.0 → with_hole_moved place to size (l ++ x ∷ r) ≡ with_hole_moved place to size l ++ x ∷ r
  range_left to size less =
      let t : (x.0 == place) ≡ false = grind (arith, nat_tests) in
      map-append (λ h. cond (h.0 == place) (to, size) h) l (x ∷ r) ∙ rw t (ap (λ hs. with_hole_moved place to size l ++ x ∷ hs) (same_over place to size x r (omega arith) d.over))

  pub range_here : (to size : ℕ) → x.0 ≡ place → with_hole_moved place to size (l ++ x ∷ r) ≡ l ++ (to, size) ∷ r
  range_here to size is =
      let t : (x.0 == place) ≡ true = grind (arith, nat_tests) in
      map-append (λ h. cond (h.0 == place) (to, size) h) l (x ∷ r) ∙ rw t (rw (same_ranges place to size l (others_under place x l (omega arith) d.under), same_over place to size x r (omega arith) d.over) refl)

  pub range_right : (to size : ℕ) → x.0 < place → with_hole_moved place to size (l ++ x ∷ r) ≡ l ++ x ∷ with_hole_moved place to size r
  range_right to size less =
      let t : (x.0 == place) ≡ false = grind (arith, nat_tests) in
      map-append (λ h. cond (h.0 == place) (to, size) h) l (x ∷ r) ∙ rw t (ap (λ hs. hs ++ x ∷ with_hole_moved place to size r) (same_ranges place to size l (others_under place x l (omega arith) d.under)))

-- a hole between two lists, taken out by its place
pub taken_out : (place : ℕ) (hs l m r : List (ℕ × ℕ)) (x : ℕ × ℕ) (low high : ℕ) → IsRising low hs high → hs ≡ l ++ m ++ r → m ≡ x ∷ [] → x.0 ≡ place → without_place place hs ≡ l ++ r
taken_out place hs l m r x low high s is one here =
    let whole : hs ≡ l ++ x ∷ r = is ∙ rw one (append_assoc l (x ∷ []) r) in
    ap (without_place place) whole ∙ without_here (sides low l x r high (subst (λ (k : List (ℕ × ℕ)). IsRising low k high) whole s)) place here

-- ---- what a whole list keeps

pub length-with_hole : (new : ℕ × ℕ) (hs : List (ℕ × ℕ)) → length (with_hole new hs) ≡ length hs + 1
length-with_hole new [] = refl
length-with_hole new (h ∷ hs) = go (nat_lt new.0 h.0) (length-with_hole new hs)
  where
    go : (b : Bool) → length (with_hole new hs) ≡ length hs + 1 → length (cond b (new ∷ h ∷ hs) (h ∷ with_hole new hs)) ≡ length (h ∷ hs) + 1
    go true rest = omega arith
    go false rest = omega arith

pub rising_without : (place low : ℕ) (hs : List (ℕ × ℕ)) (high : ℕ) → IsRising low hs high → IsRising low (without_place place hs) high
rising_without place low [] high s = tt
rising_without place low (h ∷ hs) high s = go (h.0 == place) (rising_without place (h.0 + h.1 + 1) hs high s.3)
  where
    go : (b : Bool) → IsRising (h.0 + h.1 + 1) (without_place place hs) high → IsRising low (cond (not b) (h ∷ without_place place hs) (without_place place hs)) high
    go true rest = rising_from (h.0 + h.1 + 1) low (without_place place hs) high (omega (arith, s.0)) rest
    go false rest = (s.0, s.1, s.2, rest)
