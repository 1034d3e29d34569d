-- Where the entries of rows stand among all of them.
use Rattle.std.proofs.Common.{ℕ, zero, suc, ◌≡◌, ◌+◌, ◌<◌, ◌≤◌, refl, sym, ap, ◌∙◌, List, [], ◌∷◌, ◌++◌, length, get_or, take, drop, Some, None, length-append, arith}
use Rattle.std.specs.Prelude.{slice_get}
use Rattle.acc_ordered.specs.Listing.{KeyValue}
use Rattle.acc_ordered.specs.Laid.{itself}
use Rattle.std.proofs.lemmas.Grind.{flat_map-append}
use Rattle.std.proofs.lemmas.List.{get_or_at, take_at, take_all, take_more, length-take-le}
use Rattle.acc_ordered.specs.declared.places.Place.{Place}
use Rattle.acc_ordered.specs.Laid.{side_by_side}
use Rattle.acc_ordered.specs.Spots.{index_of, IsRowAt}

-- ---- lists

pub parts_at : {X : Type 0} (xs : List X) (i : ℕ) (d : X) → i < length xs → xs ≡ take i xs ++ get_or xs i d ∷ drop (suc i) xs
parts_at [] i d lt = absurd (omega arith)
parts_at (x ∷ xs) zero d lt = refl
parts_at (x ∷ xs) (suc i) d lt = ap (λ ys. x ∷ ys) (parts_at xs i d (omega arith))

pub get_behind : {X : Type 0} (xs ys : List X) (n i : ℕ) → n ≡ length xs + i → slice_get (xs ++ ys) n ≡ slice_get ys i
get_behind [] ys n i e = let same : n ≡ i = omega arith in ap (slice_get ys) same
get_behind (x ∷ xs) ys zero i e = absurd (omega arith)
get_behind (x ∷ xs) ys (suc n) i e = get_behind xs ys n i (omega arith)

pub get_front : {X : Type 0} (xs ys : List X) (i : ℕ) → i < length xs → slice_get (xs ++ ys) i ≡ slice_get xs i
get_front [] ys i lt = absurd (omega arith)
get_front (x ∷ xs) ys zero lt = refl
get_front (x ∷ xs) ys (suc i) lt = get_front xs ys i (omega arith)

pub get_some : {X : Type 0} (xs : List X) (i : ℕ) (d : X) → i < length xs → slice_get xs i ≡ Some (get_or xs i d)
get_some [] i d lt = absurd (omega arith)
get_some (x ∷ xs) zero d lt = refl
get_some (x ∷ xs) (suc i) d lt = get_some xs i d (omega arith)

pub get_none : {X : Type 0} (xs : List X) (i : ℕ) → length xs ≤ i → slice_get xs i ≡ None
get_none [] i le = refl
get_none (x ∷ xs) zero le = absurd (omega arith)
get_none (x ∷ xs) (suc i) le = get_none xs i (omega arith)

-- what stands at a place within
pub record IsGot {X : Type 0} (xs : List X) (i : ℕ) (x : X) : Type 0 where
  pub bound : i < length xs
  pub same : get_or xs i x ≡ x

pub got : {X : Type 0} (xs : List X) (i : ℕ) (x : X) → slice_get xs i ≡ Some x → IsGot xs i x
got [] i x is = cc
got (y ∷ ys) zero x is = record { bound = omega arith; same = cc }
got (y ∷ ys) (suc i) x is = let h = got ys i x is in record { bound = omega (arith, h.bound); same = h.same }

module _ {T : Type 0} where
  -- ---- a row

  pub row_at : (rows : List (List (KeyValue T))) (i : ℕ) (row : List (KeyValue T)) → i < length rows → row ≡ get_or rows i row → IsRowAt rows i row
  row_at rows i row lt is = record {
    before = take i rows;
    behind = drop (suc i) rows;
    is = parts_at rows i row lt ∙ ap (λ r. take i rows ++ r ∷ drop (suc i) rows) (sym is);
    number_is = length-take-le i rows (omega arith);
  }

  pub same_row : (rows : List (List (KeyValue T))) (i : ℕ) (row d : List (KeyValue T)) → IsRowAt rows i row → get_or rows i d ≡ row
  same_row rows i row d at = ap (λ rs. get_or rs i d) at.is ∙ get_or_at at.before row at.behind d i at.number_is

  pub row_bound : (rows : List (List (KeyValue T))) (i : ℕ) (row : List (KeyValue T)) → IsRowAt rows i row → i < length rows
  row_bound rows i row at = omega (arith, ap length at.is, length-append at.before (row ∷ at.behind), at.number_is)

  -- the entries before a row, of it, and behind it
  pub sides_of_row : (rows : List (List (KeyValue T))) (i : ℕ) (row : List (KeyValue T)) → (at : IsRowAt rows i row) → side_by_side rows ≡ side_by_side at.before ++ (row ++ side_by_side at.behind)
  sides_of_row rows i row at = ap side_by_side at.is ∙ flat_map-append itself at.before (row ∷ at.behind)

  pub row_number_at : (rows : List (List (KeyValue T))) (place : Place) (row : List (KeyValue T)) → (at : IsRowAt rows place.row row) → index_of rows place ≡ length (side_by_side at.before) + place.at
  row_number_at rows place row at = ap (λ rs. length (side_by_side (take place.row rs)) + place.at) at.is ∙ ap (λ rs. length (side_by_side rs) + place.at) (take_at at.before (row ∷ at.behind) place.row at.number_is)

  -- an entry of a row among all
  pub entry_in_row : (rows : List (List (KeyValue T))) (place : Place) (row : List (KeyValue T)) (e : KeyValue T) → IsRowAt rows place.row row → place.at < length row → slice_get row place.at ≡ Some e → slice_get (side_by_side rows) (index_of rows place) ≡ Some e
  entry_in_row rows place row e at lt is =
      ap (λ es. slice_get es (index_of rows place)) (sides_of_row rows place.row row at)
      ∙ get_behind (side_by_side at.before) (row ++ side_by_side at.behind) (index_of rows place) place.at (row_number_at rows place row at)
      ∙ get_front row (side_by_side at.behind) place.at lt
      ∙ is

  -- the place behind a row is the first of the next
  pub number_next : (rows : List (List (KeyValue T))) (place : Place) (row : List (KeyValue T)) → IsRowAt rows place.row row → place.at ≡ length row → index_of rows (record { row = place.row + 1; at = 0 }) ≡ index_of rows place
  number_next rows place row at end =
      let more = take_more rows place.row row (row_bound rows place.row row at) in
      let same = same_row rows place.row row row at in
      let flat = ap (λ rs. length (side_by_side rs)) (more ∙ ap (λ r. take place.row rows ++ r ∷ []) same) in
      let parts = ap length (flat_map-append itself (take place.row rows) (row ∷ [])) in
      let one = length-append row [] in
      let two = length-append (side_by_side (take place.row rows)) (row ++ []) in
      omega (arith, flat, parts, one, two, end)

  -- the place behind the last row is behind all
  pub number_last : (rows : List (List (KeyValue T))) (i : ℕ) → length rows ≤ i → index_of rows (record { row = i; at = 0 }) ≡ length (side_by_side rows)
  number_last rows i le = omega (arith, ap (λ rs. length (side_by_side rs)) (take_all i rows le))
