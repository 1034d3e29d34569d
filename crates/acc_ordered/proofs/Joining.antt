-- Two rows that become one.
use Rattle.std.proofs.Common.{ℕ, zero, suc, Bool, true, false, ◌≡◌, ◌+◌, ◌<◌, ◌≤◌, refl, sym, ap, subst, ◌∙◌, List, [], ◌∷◌, ◌++◌, length, get_or, set, take, drop, length-append, append_assoc, arith}
use Rattle.std.specs.Prelude.{map, MatchBool}
use Rattle.std.proofs.Math.Dec.{leb}
use Rattle.std.proofs.lemmas.Bool.{leb-true, leb-false}
use Rattle.std.specs.List.{AllByRecursion, remove}
use Rattle.acc_ordered.specs.Laid.{itself}
use Rattle.std.proofs.lemmas.Grind.{flat_map-append}
use Rattle.std.proofs.lemmas.List.{set_at, map-append, length-map, length-take-le}
use Rattle.acc_base.proofs.Elements.{AllByRecursion-append, all_behind, all_in_front}
use Rattle.acc_ordered.specs.Listing.{KeyValue, KeysRise}
use Rattle.acc_ordered.specs.Laid.{side_by_side, least_key, IsRow, AreInRows}
use Rattle.acc_ordered.specs.Spots.{IsRowAt, FitTogether, AreApart, IsJoined}

remove_next : {X : Type 0} (f : List X) (x y : X) (b : List X) (n : ℕ) → n ≡ length f + 1 → remove (f ++ x ∷ y ∷ b) n ≡ f ++ x ∷ b
remove_next [] x y b n e = let one : n ≡ 1 = omega arith in ap (λ k. remove (x ∷ y ∷ b) k) one
remove_next (z ∷ f) x y b zero e = absurd (omega arith)
remove_next (z ∷ f) x y b (suc n) e = ap (λ zs. z ∷ zs) (remove_next f x y b n (omega arith))

-- a list is split at a place in one way
pub record IsSameSplit {X : Type 0} (f g : List X) (x y : X) (b d : List X) : Type 0 where
  pub front : f ≡ g
  pub here : x ≡ y
  pub rest : b ≡ d

pub same_split : {X : Type 0} (f g : List X) (x y : X) (b d : List X) → f ++ x ∷ b ≡ g ++ y ∷ d → length f ≡ length g → IsSameSplit f g x y b d
same_split [] [] x y b d is long = record { front = refl; here = cc; rest = cc }
same_split [] (z ∷ g) x y b d is long = absurd (omega arith)
same_split (w ∷ f) [] x y b d is long = absurd (omega arith)
same_split (w ∷ f) (z ∷ g) x y b d is long =
    let first : w ≡ z = cc in
    let others : f ++ x ∷ b ≡ g ++ y ∷ d = cc in
    let h = same_split f g x y b d others (omega arith) in
    record { front = ap (λ v. v ∷ f) first ∙ ap (λ vs. z ∷ vs) h.front; here = h.here; rest = h.rest }

pair_parts : {X : Type 0} (xs : List X) (i : ℕ) (d e : X) → suc i < length xs → xs ≡ take i xs ++ get_or xs i d ∷ get_or xs (suc i) e ∷ drop (suc (suc i)) xs
pair_parts [] i d e lt = absurd (omega arith)
pair_parts (x ∷ []) i d e lt = absurd (omega arith)
pair_parts (x ∷ y ∷ xs) zero d e lt = refl
pair_parts (x ∷ y ∷ xs) (suc i) d e lt = ap (λ ys. x ∷ ys) (pair_parts (y ∷ xs) i d e (omega arith))

module _ {T : Type 0} where
  pair_is : (rows : List (List (KeyValue T))) (i n : ℕ) (lower upper : List (KeyValue T)) → n ≡ i + 1 → n < length rows → lower ≡ get_or rows i lower → upper ≡ get_or rows n upper → rows ≡ take i rows ++ lower ∷ upper ∷ drop (suc (suc i)) rows
  pair_is rows i n lower upper next lt is_lower is_upper =
      let same : n ≡ suc i = omega (arith, next) in
      pair_parts rows i lower upper (omega (arith, lt, same)) ∙ ap (λ r. take i rows ++ r ∷ get_or rows (suc i) upper ∷ drop (suc (suc i)) rows) (sym is_lower) ∙ ap (λ r. take i rows ++ lower ∷ r ∷ drop (suc (suc i)) rows) (ap (λ k. get_or rows k upper) (sym same) ∙ sym is_upper)

  pair_apart : (rows : List (List (KeyValue T))) (i n : ℕ) (lower upper : List (KeyValue T)) → n ≡ i + 1 → n < length rows → lower ≡ get_or rows i lower → upper ≡ get_or rows n upper → 32 < length lower + length upper → AreApart rows i
  pair_apart rows i n lower upper next lt is_lower is_upper far before l u behind is number_is =
      let h = same_split (take i rows) before lower l (upper ∷ drop (suc (suc i)) rows) (u ∷ behind) (sym (pair_is rows i n lower upper next lt is_lower is_upper) ∙ is) (length-take-le i rows (omega (arith, next, lt)) ∙ sym number_is) in
      let second : upper ≡ u = cc in
      omega (arith, far, ap length h.here, ap length second)

  pub pair_at : (rows : List (List (KeyValue T))) (i n a b : ℕ) (lower upper : List (KeyValue T)) → n ≡ i + 1 → n < length rows → lower ≡ get_or rows i lower → upper ≡ get_or rows n upper → a ≡ length lower → b ≡ length upper → MatchBool (leb (a + b) 32) (FitTogether rows i) (AreApart rows i)
  pair_at rows i n a b lower upper next lt is_lower is_upper long_a long_b = told (leb (a + b) 32) refl
    where
      told : (few : Bool) → leb (a + b) 32 ≡ few → MatchBool few (FitTogether rows i) (AreApart rows i)
      told true is = record {
        before = take i rows;
        lower = lower;
        upper = upper;
        behind = drop (suc (suc i)) rows;
        is = pair_is rows i n lower upper next lt is_lower is_upper;
        number_is = length-take-le i rows (omega (arith, next, lt));
        few = omega (arith, leb-true (a + b) 32 is, long_a, long_b);
      }
      told false is = pair_apart rows i n lower upper next lt is_lower is_upper (omega (arith, leb-false (a + b) 32 is, long_a, long_b))

  -- rows before and after the next row went
  pub upper_at : (rows : List (List (KeyValue T))) (number n : ℕ) → (f : FitTogether rows number) → n ≡ number + 1 → IsRowAt rows n f.upper
  upper_at rows number n f next = record {
    before = f.before ++ f.lower ∷ [];
    behind = f.behind;
    is = f.is ∙ sym (append_assoc f.before (f.lower ∷ []) (f.upper ∷ f.behind));
    number_is = omega (arith, length-append f.before (f.lower ∷ []), f.number_is);
  }

  pub rest_is : (rows : List (List (KeyValue T))) (number n : ℕ) → (f : FitTogether rows number) → n ≡ number + 1 → remove rows n ≡ f.before ++ f.lower ∷ f.behind
  rest_is rows number n f next = ap (λ rs. remove rs n) f.is ∙ remove_next f.before f.lower f.upper f.behind n (omega (arith, f.number_is))

  pub lower_at : (rows : List (List (KeyValue T))) (number n : ℕ) → (f : FitTogether rows number) → n ≡ number + 1 → IsRowAt (remove rows n) number f.lower
  lower_at rows number n f next = record { before = f.before; behind = f.behind; is = rest_is rows number n f next; number_is = f.number_is }

  pub old_lower_at : (rows : List (List (KeyValue T))) (number : ℕ) → (f : FitTogether rows number) → IsRowAt rows number f.lower
  old_lower_at rows number f = record { before = f.before; behind = f.upper ∷ f.behind; is = f.is; number_is = f.number_is }

  abbrev pub joined : (rows : List (List (KeyValue T))) (number n : ℕ) (whole : List (KeyValue T)) → (f : FitTogether rows number) → n ≡ number + 1 → whole ≡ f.lower ++ f.upper → IsJoined rows (set (remove rows n) number whole) number
  joined rows number n whole f next is = record {
    before = f.before;
    lower = f.lower;
    upper = f.upper;
    whole = whole;
    behind = f.behind;
    old_is = f.is;
    new_is = ap (λ rs. set rs number whole) (rest_is rows number n f next) ∙ set_at f.before f.lower f.behind whole number f.number_is;
    number_is = f.number_is;
    whole_is = is;
  }

  pub side_joined : (old rows : List (List (KeyValue T))) (number : ℕ) → IsJoined old rows number → side_by_side rows ≡ side_by_side old
  side_joined old rows number j =
      ap side_by_side j.new_is
      ∙ flat_map-append itself j.before (j.whole ∷ j.behind)
      ∙ ap (λ es. side_by_side j.before ++ es) (ap (λ es. es ++ side_by_side j.behind) j.whole_is ∙ append_assoc j.lower j.upper (side_by_side j.behind))
      ∙ sym (flat_map-append itself j.before (j.lower ∷ j.upper ∷ j.behind))
      ∙ sym (ap side_by_side j.old_is)

  least_of_front : (es more : List (KeyValue T)) → 0 < length es → least_key (es ++ more) ≡ least_key es
  least_of_front [] more some = absurd (omega arith)
  least_of_front (e ∷ es) more some = refl

  pub in_rows_joined : (firsts : List ℕ) (old rows : List (List (KeyValue T))) (number n : ℕ) → AreInRows firsts old → (j : IsJoined old rows number) → IsRow j.whole → n ≡ number + 1 → AreInRows (remove firsts n) rows
  in_rows_joined firsts old rows number n h j whole next =
      let each = subst (λ (rs : List (List (KeyValue T))). AllByRecursion IsRow rs) j.old_is h.each in
      let lower_each = all_behind IsRow j.before (j.lower ∷ j.upper ∷ j.behind) each in
      let same : least_key j.lower ≡ least_key j.whole = sym (ap least_key j.whole_is ∙ least_of_front j.lower j.upper lower_each.0.some) in
      record {
        rising = subst (λ (es : List (KeyValue T)). KeysRise es) (sym (side_joined old rows number j)) h.rising;
        firsts_are =
            ap (λ fs. remove fs n) (h.firsts_are ∙ ap (λ rs. map least_key rs) j.old_is ∙ map-append least_key j.before (j.lower ∷ j.upper ∷ j.behind))
            ∙ remove_next (map least_key j.before) (least_key j.lower) (least_key j.upper) (map least_key j.behind) n (omega (arith, length-map j.before least_key, j.number_is))
            ∙ ap (λ l. map least_key j.before ++ l ∷ map least_key j.behind) same
            ∙ sym (map-append least_key j.before (j.whole ∷ j.behind))
            ∙ sym (ap (λ rs. map least_key rs) j.new_is);
        each = rw j.new_is (AllByRecursion-append IsRow j.before (j.whole ∷ j.behind) (all_in_front IsRow j.before (j.lower ∷ j.upper ∷ j.behind) each) (whole, lower_each.1.1));
      }

  pub whole_row : (lower upper whole : List (KeyValue T)) → IsRow lower → length lower + length upper ≤ 64 → whole ≡ lower ++ upper → IsRow whole
  whole_row lower upper whole l few is =
      let long = ap length is ∙ length-append lower upper in
      record { some = omega (arith, long, l.some); most = omega (arith, long, few) }
