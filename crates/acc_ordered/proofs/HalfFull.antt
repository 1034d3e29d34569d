-- Rows of which each two beside each other have more than 32 entries, so that there are few.
use Rattle.std.proofs.Common.{ℕ, ◌≡◌, ◌+◌, ◌*◌, ◌<◌, ◌≤◌, refl, sym, ap, subst, ◌∙◌, List, [], ◌∷◌, ◌++◌, length, get_or, set, length-append, append_assoc, ◌⊎◌, inl, inr, arith}
use Rattle.std.specs.List.{AllByRecursion, remove}
use Rattle.std.proofs.lemmas.List.{set_at, get_or_default}
use Rattle.acc_base.proofs.Elements.{all_behind, all_in_front}
use Rattle.acc_ordered.specs.Listing.{KeyValue}
use Rattle.acc_ordered.specs.Laid.{side_by_side, last_length, IsRow, AreHalfFullBehind, AreHalfFull, IsShortBetween, AreOneShort}
use Rattle.acc_ordered.specs.Spots.{IsRowAt, IsCutInTwo, AreApart, IsJoined}
use Rattle.acc_ordered.proofs.Laying.{row_at}
use Rattle.acc_ordered.proofs.Changing.{without_row, lower_long, upper_long}
use Rattle.acc_ordered.proofs.Joining.{same_split}

-- ---- lists

-- the last of a list, behind the others
record IsLast {X : Type 0} (xs : List X) : Type 0 where
  others : List X
  last : X
  is : xs ≡ others ++ last ∷ []

last_of : {X : Type 0} (x : X) (xs : List X) → IsLast (x ∷ xs)
last_of x [] = record { others = []; last = x; is = refl }
last_of x (y ∷ ys) = let h = last_of y ys in record { others = x ∷ h.others; last = h.last; is = ap (λ zs. x ∷ zs) h.is }

module _ {T : Type 0} where
  -- ---- rows behind one of some length

  longer_before : (m n : ℕ) (rows : List (List (KeyValue T))) → m ≤ n → AreHalfFullBehind m rows → AreHalfFullBehind n rows
  longer_before m n [] le h = tt
  longer_before m n (row ∷ rows) le h = (omega (arith, h.0, le), h.1)

  half_before : (m n : ℕ) (rows : List (List (KeyValue T))) → 32 ≤ n → AllByRecursion IsRow rows → AreHalfFullBehind m rows → AreHalfFullBehind n rows
  half_before m n [] le each h = tt
  half_before m n (row ∷ rows) le each h = (omega (arith, each.0.some, le), h.1)

  no_rows : (n : ℕ) (rows : List (List (KeyValue T))) → length rows ≡ 0 → AreHalfFullBehind n rows
  no_rows n [] none = tt
  no_rows n (row ∷ rows) none = absurd (omega arith)

  front_of : (n : ℕ) (f b : List (List (KeyValue T))) → AreHalfFullBehind n (f ++ b) → AreHalfFullBehind n f
  front_of n [] b h = tt
  front_of n (row ∷ f) b h = (h.0, front_of (length row) f b h.1)

  rest_of : (n : ℕ) (f b : List (List (KeyValue T))) → AreHalfFullBehind n (f ++ b) → AreHalfFullBehind (last_length n f) b
  rest_of n [] b h = h
  rest_of n (row ∷ f) b h = rest_of (length row) f b h.1

  both : (n : ℕ) (f b : List (List (KeyValue T))) → AreHalfFullBehind n f → AreHalfFullBehind (last_length n f) b → AreHalfFullBehind n (f ++ b)
  both n [] b h k = k
  both n (row ∷ f) b h k = (h.0, both (length row) f b h.1 k)

  last_some : (n : ℕ) (rows : List (List (KeyValue T))) → 0 < n → AllByRecursion IsRow rows → 0 < last_length n rows
  last_some n [] some each = some
  last_some n (row ∷ rows) some each = last_some (length row) rows each.0.some each.1

  last_behind : (n : ℕ) (rows : List (List (KeyValue T))) (row : List (KeyValue T)) → last_length n (rows ++ row ∷ []) ≡ length row
  last_behind n [] row = refl
  last_behind n (r ∷ rows) row = last_behind (length r) rows row

  -- ---- few rows

  pairs_long : (n : ℕ) (rows : List (List (KeyValue T))) → AreHalfFullBehind n rows → 33 * length rows ≤ n + 2 * length (side_by_side rows)
  pairs_long n [] h = omega arith
  pairs_long n (row ∷ rows) h = omega (arith, h.0, pairs_long (length row) rows h.1, length-append row (side_by_side rows))

  pub few_rows : (rows : List (List (KeyValue T))) → AreHalfFull rows → 16 * length rows ≤ length (side_by_side rows) + 16
  few_rows [] h = omega arith
  few_rows (row ∷ rows) h = omega (arith, pairs_long (length row) rows h.1, length-append row (side_by_side rows))

  -- ---- a row for another

  pub longer_set : (rows : List (List (KeyValue T))) (i : ℕ) (row new : List (KeyValue T)) → IsRowAt rows i row → length row ≤ length new → AreHalfFull rows → AreHalfFull (set rows i new)
  longer_set rows i row new at le h =
      let half = subst (λ (rs : List (List (KeyValue T))). AreHalfFull rs) at.is h in
      let rest = rest_of 64 at.before (row ∷ at.behind) half in
      let made = both 64 at.before (new ∷ at.behind) (front_of 64 at.before (row ∷ at.behind) half) (omega (arith, rest.0, le), longer_before (length row) (length new) at.behind le rest.1) in
      rw (ap (λ rs. set rs i new) at.is ∙ set_at at.before row at.behind new i at.number_is) made

  pub shorter_set : (rows : List (List (KeyValue T))) (i : ℕ) (row new : List (KeyValue T)) → IsRowAt rows i row → length new + 1 ≡ length row → AreHalfFull rows → AreOneShort (set rows i new) i
  shorter_set rows i row new at less h before r behind is number_is =
      let half = subst (λ (rs : List (List (KeyValue T))). AreHalfFull rs) at.is h in
      let rest = rest_of 64 at.before (row ∷ at.behind) half in
      let set_is = ap (λ rs. set rs i new) at.is ∙ set_at at.before row at.behind new i at.number_is in
      let same = same_split at.before before new r at.behind behind (sym set_is ∙ is) (omega (arith, at.number_is, number_is)) in
      let made : IsShortBetween at.before new at.behind = record {
        front = front_of 64 at.before (row ∷ at.behind) half;
        here = omega (arith, rest.0, less);
        rest = subst (λ (n : ℕ). AreHalfFullBehind n at.behind) (sym less) rest.1;
      } in
      rw (← same.front, ← same.here, ← same.rest) made

  -- ---- rows that come and go

  pub half_without : (rows : List (List (KeyValue T))) (i : ℕ) (row : List (KeyValue T)) → IsRowAt rows i row → length row ≡ 1 → AreHalfFull rows → AreHalfFull (remove rows i)
  half_without rows i row at one h =
      let half = subst (λ (rs : List (List (KeyValue T))). AreHalfFull rs) at.is h in
      let rest = rest_of 64 at.before (row ∷ at.behind) half in
      rw (without_row rows i row at) (both 64 at.before at.behind (front_of 64 at.before (row ∷ at.behind) half) (longer_before (length row) (last_length 64 at.before) at.behind (omega (arith, rest.0, one)) rest.1))

  pub half_cut : (old rows : List (List (KeyValue T))) (number cut : ℕ) → IsCutInTwo old rows number cut → 32 ≤ cut → cut < 64 → (cut ≡ 32) ⊎ (number + 1 ≡ length old) → AllByRecursion IsRow old → AreHalfFull old → AreHalfFull rows
  half_cut old rows number cut c half_of less last each h =
      let half = subst (λ (rs : List (List (KeyValue T))). AreHalfFull rs) c.old_is h in
      let rows_each = subst (λ (rs : List (List (KeyValue T))). AllByRecursion IsRow rs) c.old_is each in
      let rest = rest_of 64 c.before (c.row ∷ c.behind) half in
      let lower = lower_long old rows number cut c (omega (arith, less)) in
      let upper = upper_long old rows number cut c in
      let some = last_some 64 c.before (omega arith) (all_in_front IsRow c.before (c.row ∷ c.behind) rows_each) in
      let upper_half : AreHalfFullBehind (length c.upper) c.behind = elim last [
        | inl middle ↦ half_before (length c.row) (length c.upper) c.behind (omega (arith, upper, middle)) (all_behind IsRow c.before (c.row ∷ c.behind) rows_each).1 rest.1
        | inr end ↦ no_rows (length c.upper) c.behind (omega (arith, end, ap length c.old_is, length-append c.before (c.row ∷ c.behind), c.number_is))
      ] in
      rw c.new_is (both 64 c.before (c.lower ∷ c.upper ∷ c.behind) (front_of 64 c.before (c.row ∷ c.behind) half) (omega (arith, lower, half_of, some), (omega (arith, lower, upper, less), upper_half)))

  -- ---- rows beside one that is short

  whole_long : (old rows : List (List (KeyValue T))) (number : ℕ) → (j : IsJoined old rows number) → length j.whole ≡ length j.lower + length j.upper
  whole_long old rows number j = ap length j.whole_is ∙ length-append j.lower j.upper

  pub joined_next : (old rows : List (List (KeyValue T))) (number : ℕ) → IsJoined old rows number → AreOneShort old number → AllByRecursion IsRow old → AreHalfFull rows
  joined_next old rows number j short each =
      let s = short j.before j.lower (j.upper ∷ j.behind) j.old_is j.number_is in
      let rows_each = subst (λ (rs : List (List (KeyValue T))). AllByRecursion IsRow rs) j.old_is each in
      let some = last_some 64 j.before (omega arith) (all_in_front IsRow j.before (j.lower ∷ j.upper ∷ j.behind) rows_each) in
      let long = whole_long old rows number j in
      rw j.new_is (both 64 j.before (j.whole ∷ j.behind) s.front (omega (arith, some, s.rest.0, long), longer_before (length j.upper) (length j.whole) j.behind (omega (arith, long)) s.rest.1))

  pub joined_before : (old rows : List (List (KeyValue T))) (number next : ℕ) → next ≡ number + 1 → IsJoined old rows number → AreOneShort old next → AllByRecursion IsRow old → AreHalfFull rows
  joined_before old rows number next is j short each =
      let split : old ≡ (j.before ++ j.lower ∷ []) ++ j.upper ∷ j.behind = j.old_is ∙ sym (append_assoc j.before (j.lower ∷ []) (j.upper ∷ j.behind)) in
      let s = short (j.before ++ j.lower ∷ []) j.upper j.behind split (omega (arith, length-append j.before (j.lower ∷ []), j.number_is, is)) in
      let rows_each = subst (λ (rs : List (List (KeyValue T))). AllByRecursion IsRow rs) j.old_is each in
      let lower = (all_behind IsRow j.before (j.lower ∷ j.upper ∷ j.behind) rows_each).0.some in
      let rest = rest_of 64 j.before (j.lower ∷ []) s.front in
      let long = whole_long old rows number j in
      rw j.new_is (both 64 j.before (j.whole ∷ j.behind) (front_of 64 j.before (j.lower ∷ []) s.front) (omega (arith, rest.0, long), longer_before (length j.upper + 1) (length j.whole) j.behind (omega (arith, long, lower)) s.rest))

  far_from_next : (rows : List (List (KeyValue T))) (number : ℕ) (before : List (List (KeyValue T))) (row : List (KeyValue T)) (behind : List (List (KeyValue T))) → rows ≡ before ++ row ∷ behind → length before ≡ number → AreApart rows number → AreHalfFullBehind (length row + 1) behind → AreHalfFullBehind (length row) behind
  far_from_next rows number before row [] is number_is apart h = tt
  far_from_next rows number before row (next ∷ behind) is number_is apart h = (apart before row next behind is number_is, h.1)

  far_from_last : (rows : List (List (KeyValue T))) (number : ℕ) (before : List (List (KeyValue T))) (row : List (KeyValue T)) (behind : List (List (KeyValue T))) → rows ≡ before ++ row ∷ behind → length before ≡ number → ((last : ℕ) → number ≡ last + 1 → AreApart rows last) → 32 < last_length 64 before + length row
  far_from_last rows number [] row behind is number_is apart = omega arith
  far_from_last rows number (r ∷ rs) row behind is number_is apart =
      let h = last_of r rs in
      let long = ap length h.is ∙ length-append h.others (h.last ∷ []) in
      let split : rows ≡ h.others ++ h.last ∷ row ∷ behind = is ∙ ap (λ f. f ++ row ∷ behind) h.is ∙ append_assoc h.others (h.last ∷ []) (row ∷ behind) in
      let pair = apart (length h.others) (omega (arith, number_is, long)) h.others h.last row behind split refl in
      omega (arith, pair, ap (last_length 64) h.is ∙ last_behind 64 h.others h.last)

  pub not_joined : (rows : List (List (KeyValue T))) (number : ℕ) → number < length rows → AreOneShort rows number → AreApart rows number → ((last : ℕ) → number ≡ last + 1 → AreApart rows last) → AreHalfFull rows
  not_joined rows number lt short next last =
      let at = row_at rows number (get_or rows number []) lt (get_or_default rows number [] (get_or rows number []) lt) in
      let row = get_or rows number [] in
      let s = short at.before row at.behind at.is at.number_is in
      rw at.is (both 64 at.before (row ∷ at.behind) s.front (far_from_last rows number at.before row at.behind at.is at.number_is last, far_from_next rows number at.before row at.behind at.is at.number_is next s.rest))
