-- The next part and the parts after it, as plain values.
use Rattle.std.proofs.Common.{◌≡◌, ℕ, ◌+◌, ◌-◌, ◌<◌, ◌≤◌, suc, zero, List, [], ◌∷◌, ◌++◌, length, take, drop, get_or, sym, ap, ap₂, ◌∙◌, subst, arith, length-drop, sum, All, MutBor, Option, Some, None, MatchOption}
use Rattle.std.proofs.lemmas.List.{take_all, take-append-drop, length-take-le}
use Rattle.std.proofs.lemmas.List.Sums.{sum_by-cons}
use Rattle.acc_base.specs.declared.addresses.TheConstants.{MEMORY_MAX}
use Rattle.acc_lend.specs.declared.taking.Parts.{Parts}
use Rattle.acc_lend.specs.Cuts.{lengths_from}
use Rattle.acc_lend.specs.Parts.{IsNext}
use Rattle.acc_lend.specs.Slices.{IsCut}
use Rattle.acc_lend.specs.Taken.{HasLater, IsHanded}

-- the next part is no longer than what is left
pub next_fits : (len : ℕ) (later : List ℕ) (n : ℕ) → sum (lengths_from len later) ≡ n → len ≤ n
next_fits zero later n e = omega arith
next_fits (suc k) later n e = let s : sum (suc k ∷ later) ≡ suc k + sum later = sum_by-cons (λ x. x) (suc k) later in omega arith

-- lengths, none of them 0, are the first one and those after it
pub lengths_whole : (lengths : List ℕ) → 0 < length lengths → All (λ n. 0 < n) lengths → lengths_from (get_or lengths 0 0) (take (length lengths - 1) (drop 1 lengths)) ≡ lengths
lengths_whole [] some filled = absurd (omega arith)
lengths_whole (zero ∷ later) some filled = absurd (omega (arith, filled 0 0 some))
lengths_whole (suc k ∷ later) some filled = ap (λ xs. suc k ∷ xs) (take_all (suc (length later) - 1) later (omega arith))

-- and so those after it are not 0
pub later_filled : (lengths : List ℕ) → 0 < length lengths → All (λ n. 0 < n) lengths → All (λ n. 0 < n) (take (length lengths - 1) (drop 1 lengths))
later_filled [] some filled = absurd (omega arith)
later_filled (len ∷ later) some filled =
    subst (λ (xs : List ℕ). All (λ n. 0 < n) xs) (sym (take_all (suc (length later) - 1) later (omega arith))) (λ k d lt. filled (suc k) d (omega arith))

-- where there is a next part, the rest can be cut into the parts after it
pub rest_fits : (pair : Option (MutBor (List ℕ) × MutBor (List ℕ))) (len at : ℕ) (later rest : List ℕ)
    → IsCut len rest pair → sum (lengths_from len later) ≡ length rest → at + length rest ≤ MEMORY_MAX → All (λ n. 0 < n) later
    → HasLater at len later pair
rest_fits None len at later rest cut sizes capped filled = tt
rest_fits (Some p) zero at later rest cut sizes capped filled = absurd (omega (arith, cut.2))
rest_fits (Some p) (suc k) at later rest cut sizes capped filled =
    let s : sum (suc k ∷ later) ≡ suc k + sum later = sum_by-cons (λ x. x) (suc k) later in
    let d : length p.1.now ≡ length rest - suc k = ap length cut.1 ∙ length-drop (suc k) rest in
    (omega arith, omega arith, filled)

-- what is handed over is the next part, and there is one exactly where a length is left
pub is_next : (len at : ℕ) (later rest : List ℕ) (pair : Option (MutBor (List ℕ) × MutBor (List ℕ))) (next : Option (ℕ × MutBor (List ℕ) × Parts))
    → len ≤ length rest → IsCut len rest pair → IsHanded at len later pair next
    → MatchOption next (lengths_from len later ≡ []) (IsNext (lengths_from len later) at rest)
is_next len at later rest None None short cut handed = ap (λ n. lengths_from n later) cut
is_next len at later rest None (Some q) short cut handed = absurd (cc)
is_next len at later rest (Some p) None short cut handed = absurd handed
is_next zero at later rest (Some p) (Some q) short cut handed = absurd (omega (arith, cut.2))
is_next (suc n) at later rest (Some p) (Some q) short cut handed =
    let long : length q.1.now ≡ suc n = ap length (handed.1 ∙ cut.0) ∙ length-take-le (suc n) rest short in
    record {
      at = handed.0;
      cut = ap₂ ◌∷◌ (sym long) (sym handed.3);
      joined = sym (ap₂ ◌++◌ (handed.1 ∙ cut.0) (handed.2 ∙ cut.1) ∙ take-append-drop (suc n) rest);
      after = handed.4 ∙ ap (λ m. at + m) (sym long);
    }
