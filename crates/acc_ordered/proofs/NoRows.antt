-- Rows that are not there.
use Rattle.std.proofs.Common.{◌≡◌, ◌<◌, ◌≤◌, ◌*◌, refl, ap, Bool, true, List, [], ◌∷◌, ◌++◌, length, length-append, arith}
use Rattle.std.specs.Prelude.{◌==◌}
use Rattle.std.specs.List.{AllByRecursion}
use Rattle.std.proofs.lemmas.Bool.Decides.{nat_tests}
use Rattle.acc_ordered.specs.Listing.{KeyValue}
use Rattle.acc_ordered.specs.Laid.{side_by_side, IsRow}

module _ {T : Type 0} where
  -- there is no entry just where there is no row
  pub no_row : (rows : List (List (KeyValue T))) (told : Bool) → AllByRecursion IsRow rows → told ≡ (length rows == 0) → (told ≡ true → side_by_side rows ≡ []) × (side_by_side rows ≡ [] → told ≡ true)
  no_row [] told each is = (λ e. refl, λ e. is)
  no_row (row ∷ rows) told each is =
      let some : 0 < length row = each.0.some in (
        λ e. grind (arith, nat_tests),
        λ e. let none : length (row ++ side_by_side rows) ≡ 0 = ap length e in absurd (omega (arith, some, none, length-append row (side_by_side rows))),
      )

  -- no more rows than entries
  pub rows_few : (rows : List (List (KeyValue T))) → AllByRecursion IsRow rows → length rows ≤ length (side_by_side rows)
  rows_few [] each = omega arith
  rows_few (row ∷ rows) each = omega (arith, each.0.some, rows_few rows each.1, length-append row (side_by_side rows))

  pub entries_few : (rows : List (List (KeyValue T))) → AllByRecursion IsRow rows → length (side_by_side rows) ≤ 64 * length rows
  entries_few [] each = omega arith
  entries_few (row ∷ rows) each = omega (arith, each.0.most, entries_few rows each.1, length-append row (side_by_side rows))
