-- A copy has the numbers of all places, and the values of those that are not gone.
use Rattle.std.proofs.Common.{ℕ, ◌≡◌, ◌<◌, refl, ap, ◌∙◌, List, [], ◌∷◌, Option, Some, None, arith}
use Rattle.std.specs.Prelude.{not, is_some}
use Rattle.std.specs.List.{AllByRecursion, AllZip}
use Rattle.std.proofs.lemmas.List.Elements.{same_from_all_zip}
use Rattle.acc_index.specs.declared.index.IndexEntry.{IndexEntry}
use Rattle.acc_index.specs.Indexed.{live_before, live_entries, AreEntriesRising, ends_gone, AreEntryClones, IsValueClone, IsPlaceClone}

module _ {T : Type 0} (is_clone : T → T → Type 0) where
  -- where a clone of a value is equal to it, the values of a copy are the same
  pub same_entries : (es ds : List (ℕ × T)) → AreEntryClones is_clone es ds → ((x y : T) → is_clone x y → y ≡ x) → ds ≡ es
  same_entries es ds all same = same_from_all_zip _ es ds all (λ e d h. ap (λ (n : ℕ). (n, d.1)) h.0 ∙ ap (λ (v : T). (e.0, v)) (same e.1 d.1 h.1))

  pub entries-copy : (xs ys : List (IndexEntry T)) → AllZip (IsPlaceClone is_clone) xs ys → AreEntryClones is_clone (live_entries xs) (live_entries ys)
  entries-copy [] [] all = tt
  entries-copy [] (y ∷ ys) all = absurd all
  entries-copy (x ∷ xs) [] all = absurd all
  entries-copy (x ∷ xs) (y ∷ ys) all = go x.value y.value all.0.value (entries-copy xs ys all.1)
    where
      go : (o p : Option T) → IsValueClone is_clone o p → AreEntryClones is_clone (live_entries xs) (live_entries ys) → AreEntryClones is_clone (live_before x.number o (live_entries xs)) (live_before y.number p (live_entries ys))
      go None p gone rest = rw gone rest
      go (Some v) None is rest = absurd is
      go (Some v) (Some w) is rest = ((all.0.number, is), rest)

  above-copy : (m n : ℕ) (xs ys : List (IndexEntry T)) → n ≡ m → AllZip (IsPlaceClone is_clone) xs ys → AllByRecursion (λ (e : IndexEntry T). m < e.number) xs → AllByRecursion (λ (e : IndexEntry T). n < e.number) ys
  above-copy m n [] [] same all h = tt
  above-copy m n [] (y ∷ ys) same all h = absurd all
  above-copy m n (x ∷ xs) [] same all h = absurd all
  above-copy m n (x ∷ xs) (y ∷ ys) same all h = (omega (arith, same, all.0.number, h.0), above-copy m n xs ys same all.1 h.1)

  pub rising-copy : (xs ys : List (IndexEntry T)) → AllZip (IsPlaceClone is_clone) xs ys → AreEntriesRising xs → AreEntriesRising ys
  rising-copy [] [] all h = tt
  rising-copy [] (y ∷ ys) all h = absurd all
  rising-copy (x ∷ xs) [] all h = absurd all
  rising-copy (x ∷ xs) (y ∷ ys) all h = (above-copy x.number y.number xs ys all.0.number all.1 h.0, rising-copy xs ys all.1 h.1)

  gone-copy : (o p : Option T) → IsValueClone is_clone o p → not (is_some p) ≡ not (is_some o)
  gone-copy None p gone = rw gone refl
  gone-copy (Some v) None is = absurd is
  gone-copy (Some v) (Some w) is = refl

  pub ends-copy : (xs ys : List (IndexEntry T)) → AllZip (IsPlaceClone is_clone) xs ys → ends_gone ys ≡ ends_gone xs
  ends-copy [] [] all = refl
  ends-copy [] (y ∷ ys) all = absurd all
  ends-copy (x ∷ xs) [] all = absurd all
  ends-copy (x ∷ []) (y ∷ []) all = gone-copy x.value y.value all.0.value
  ends-copy (x ∷ []) (y ∷ z ∷ ys) all = absurd all.1
  ends-copy (x ∷ w ∷ xs) (y ∷ []) all = absurd all.1
  ends-copy (x ∷ w ∷ xs) (y ∷ z ∷ ys) all = ends-copy (w ∷ xs) (z ∷ ys) all.1
