-- An index whose numbers rise: searches in it, and an entry less.
use Rattle.std.proofs.Common.{ℕ, zero, suc, ◌≡◌, ◌<◌, refl, sym, subst, ◌∙◌, Bool, true, false, cond, List, [], ◌∷◌, length, get_or, Option, Some, None, IsSome, arith, rules}
use Rattle.std.specs.Prelude.{◌==◌, not, find, filter, option_map}
use Rattle.std.proofs.lemmas.Bool.Decides.{nat_tests}
use Rattle.std.specs.List.{AllByRecursion, remove}
use Rattle.acc_base.proofs.Splitting.{all_at}
use Rattle.acc_base.proofs.Lookups.{at-own}
use Rattle.acc_base.proofs.Keyed as keyed
use Rattle.acc_base.proofs.Keyed.{rise_distinct}
use Rattle.acc_index.specs.Indexed.{IsIndexRising, value_at, without_number}
use Rattle.acc_dev.specs.Slots.{IsSlotOf, IsEntryLost}

-- ---- numbers that rise

-- what an index outside of a list reads
abbrev pub start : ℕ × ℕ
start = (0, 0)

-- the number of an entry
abbrev pub entry_number : ℕ × ℕ → ℕ
entry_number e = e.0

-- a search by number finds the entry of that number
pub find_at : (xs : List (ℕ × ℕ)) (i n : ℕ) → IsIndexRising xs → i < length xs → (get_or xs i start).0 ≡ n → find (λ e. e.0 == n) xs ≡ Some (get_or xs i start)
find_at xs i n r lt is =
    let own : AllByRecursion (λ (e : ℕ × ℕ). find (λ (d : ℕ × ℕ). d.0 == e.0) xs ≡ Some e) xs = at-own entry_number xs (rise_distinct entry_number xs r) in
    subst (λ (m : ℕ). find (λ (e : ℕ × ℕ). e.0 == m) xs ≡ Some (get_or xs i start)) is (all_at (λ (e : ℕ × ℕ). find (λ (d : ℕ × ℕ). d.0 == e.0) xs ≡ Some e) xs i start lt own)

-- taking out the entry at a place is leaving out its number
pub remove-filter : (xs : List (ℕ × ℕ)) (i n : ℕ) → IsIndexRising xs → i < length xs → (get_or xs i start).0 ≡ n → filter (λ e. not (e.0 == n)) xs ≡ remove xs i
remove-filter xs i n r lt is = sym (keyed.remove-filter entry_number xs i n start (rise_distinct entry_number xs r) lt is)

-- ---- what an index answers

-- the value of a number is the slot of its entry
pub slot_found : (es : List (ℕ × ℕ)) (n slot : ℕ) → value_at n es ≡ Some slot → IsSlotOf es n slot
slot_found [] n slot e = cc
slot_found (d ∷ es) n slot e = go (slot_found es n slot) (d.0 == n) refl e
  where
    go : (value_at n es ≡ Some slot → IsSlotOf es n slot) → (b : Bool) → (d.0 == n) ≡ b → option_map (λ (f : ℕ × ℕ). f.1) (cond b (Some d) (find (λ (f : ℕ × ℕ). f.0 == n) es)) ≡ Some slot → IsSlotOf (d ∷ es) n slot
    go rest true t h = record { at = zero; entry = record { in_bounds = omega arith; number = grind (arith, nat_tests) }; is = cc }
    go rest false t h =
        let later = rest h in
        let within = later.entry.in_bounds in
        record { at = suc later.at; entry = record { in_bounds = omega arith; number = later.entry.number }; is = later.is }

-- no entry has a number without a value
pub none_found : (es : List (ℕ × ℕ)) (n : ℕ) → value_at n es ≡ None → AllByRecursion (λ (e : ℕ × ℕ). e.0 ≡ n → ⊥) es
none_found [] n e = tt
none_found (d ∷ es) n e = go (none_found es n) (d.0 == n) refl e
  where
    go : (value_at n es ≡ None → AllByRecursion (λ (f : ℕ × ℕ). f.0 ≡ n → ⊥) es) → (b : Bool) → (d.0 == n) ≡ b → option_map (λ (f : ℕ × ℕ). f.1) (cond b (Some d) (find (λ (f : ℕ × ℕ). f.0 == n) es)) ≡ None → AllByRecursion (λ (f : ℕ × ℕ). f.0 ≡ n → ⊥) (d ∷ es)
    go rest true t h = cc
    go rest false t h = (λ same. grind (arith, nat_tests, t, same), rest h)

-- a number that some entry has has a value
pub there_found : (es : List (ℕ × ℕ)) (n : ℕ) → (AllByRecursion (λ (e : ℕ × ℕ). e.0 ≡ n → ⊥) es → ⊥) → IsSome (value_at n es)
there_found es n there = go (value_at n es) refl
  where
    go : (o : Option ℕ) → value_at n es ≡ o → IsSome o
    go None e = absurd (there (none_found es n e))
    go (Some slot) e = search rules

-- the entry of a number is taken out where that number is left out
pub entry_lost : (old new : List (ℕ × ℕ)) (n slot : ℕ) → IsIndexRising old → value_at n old ≡ Some slot → new ≡ without_number n old → IsEntryLost old new n slot
entry_lost old new n slot rise found is =
    let s = slot_found old n slot found in
    record { at = s.at; entry = s.entry; is = s.is; left = is ∙ remove-filter old s.at n rise s.entry.in_bounds s.entry.number }
