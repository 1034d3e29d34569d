-- A row that waited comes into use.
use Rattle.std.proofs.Common.{ℕ, ◌≡◌, ◌+◌, ◌<◌, sym, ap, subst, ◌∙◌, List, [], ◌∷◌, ◌++◌, length, set, take, drop, insert, arith}
use Rattle.std.specs.Prelude.{map}
use Rattle.std.specs.List.{AllByRecursion}
use Rattle.std.proofs.lemmas.List.{set_at, length-take-le, length-drop}
use Rattle.acc_base.proofs.Elements.{all_behind, all_in_front}
use Rattle.acc_ordered.specs.Listing.{KeyValue, KeysRise}
use Rattle.acc_ordered.specs.Laid.{least_key, IsRow, IsWaiting, AreInRows}
use Rattle.acc_ordered.specs.Spots.{IsRowAt, IsCutInTwo}
use Rattle.acc_ordered.proofs.Changing.{insert_next}

module _ {T : Type 0} where
  -- the last of the rows that wait, and the others
  pub last_waits : (spare rest : List (List (KeyValue T))) (row : List (KeyValue T)) → AllByRecursion IsWaiting spare → spare ≡ rest ++ row ∷ [] → AllByRecursion IsWaiting rest × IsWaiting row
  last_waits spare rest row waiting is =
      let h = subst (λ (rs : List (List (KeyValue T))). AllByRecursion IsWaiting rs) is waiting in
      (all_in_front IsWaiting rest (row ∷ []) h, (all_behind IsWaiting rest (row ∷ []) h).0)

  -- one row with one entry
  pub started : (firsts : List ℕ) (rows : List (List (KeyValue T))) (entry : KeyValue T) (row : List (KeyValue T)) → AreInRows firsts rows → rows ≡ [] → row ≡ entry ∷ [] → AreInRows (firsts ++ entry.key ∷ []) (rows ++ row ∷ [])
  started firsts rows entry row h none is =
      let no_firsts : firsts ≡ [] = h.firsts_are ∙ ap (λ rs. map least_key rs) none in
      let one = ap length is in
      rw (no_firsts, none) (record {
        rising = subst (λ (es : List (KeyValue T)). KeysRise (es ++ [])) (sym is) (tt, tt);
        firsts_are = ap (λ (es : List (KeyValue T)). least_key es ∷ []) (sym is);
        each = (record { some = omega (arith, one); most = omega (arith, one) }, tt);
      })

  -- ---- a row that waited takes the upper entries of a full one

  pub cut_is : (old : List (List (KeyValue T))) (i : ℕ) (row lower upper : List (KeyValue T)) → (at : IsRowAt old i row) → insert (set old i lower) (i + 1) upper ≡ at.before ++ lower ∷ upper ∷ at.behind
  cut_is old i row lower upper at =
      ap (λ rs. insert (set rs i lower) (i + 1) upper) at.is
      ∙ ap (λ rs. insert rs (i + 1) upper) (set_at at.before row at.behind lower i at.number_is)
      ∙ insert_next at.before lower at.behind (i + 1) upper (omega (arith, at.number_is))

  abbrev pub cut_made : (old : List (List (KeyValue T))) (i cut : ℕ) (row lower upper : List (KeyValue T)) → IsRowAt old i row → length row ≡ 64 → lower ≡ take cut row → upper ≡ drop cut row → IsCutInTwo old (insert (set old i lower) (i + 1) upper) i cut
  cut_made old i cut row lower upper at full is_lower is_upper = record {
    before = at.before;
    row = row;
    lower = lower;
    upper = upper;
    behind = at.behind;
    old_is = at.is;
    new_is = cut_is old i row lower upper at;
    number_is = at.number_is;
    full = full;
    lower_is = is_lower;
    upper_is = is_upper;
  }

  pub lower_whole : (row lower : List (KeyValue T)) (cut : ℕ) → lower ≡ take cut row → length row ≡ 64 → 0 < cut → cut < 64 → IsRow lower
  lower_whole row lower cut is full some few =
      let long = ap length is ∙ length-take-le cut row (omega arith) in
      record { some = omega (arith, long); most = omega (arith, long) }

  pub upper_whole : (row upper : List (KeyValue T)) (cut : ℕ) → upper ≡ drop cut row → length row ≡ 64 → 0 < cut → cut < 64 → IsRow upper
  upper_whole row upper cut is full some few =
      let long = ap length is ∙ length-drop cut row in
      record { some = omega (arith, long); most = omega (arith, long) }
