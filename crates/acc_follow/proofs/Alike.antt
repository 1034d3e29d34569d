-- Two outputs that begin with the same lines.
use Rattle.std.proofs.Common.{rules, ◌≡◌, ℕ, ◌+◌, true, List, [], ◌∷◌, ◌++◌, length, drop, Option, Some, None, option_map, refl, sym, ap, ◌∙◌}
use Rattle.std.specs.List.{slice_get}
use Rattle.std.specs.Option.{is_some}
use Rattle.std.proofs.lemmas.List.{append_assoc, length-append}

-- this many lines, the same in both, and what is left of each
pub record IsAlike (count : ℕ) (expected found left came : List (List ℕ)) : Type 0 where
  pub both : List (List ℕ)
  pub counted : count ≡ length both
  pub expected_lines : expected ≡ both ++ left
  pub found_lines : found ≡ both ++ came

-- one line more, where both go on with the same one
one_more : (count : ℕ) (expected found : List (List ℕ)) (line : List ℕ) (left came : List (List ℕ))
    → IsAlike count expected found (line ∷ left) (line ∷ came) → IsAlike (count + 1) expected found left came
one_more count expected found line left came h = record {
  both = h.both ++ (line ∷ []);
  counted = ap (λ n. n + 1) h.counted ∙ sym (length-append h.both (line ∷ []));
  expected_lines = h.expected_lines ∙ sym (append_assoc h.both (line ∷ []) left);
  found_lines = h.found_lines ∙ sym (append_assoc h.both (line ∷ []) came);
}

-- the line that is an option's value
line_in : List ℕ → Option (List ℕ) → List ℕ
line_in other None = other
line_in other (Some line) = line

-- the same of what is left, by the first line of each
pub goes_on : (count : ℕ) (expected found left came : List (List ℕ)) → IsAlike count expected found left came
    → slice_get left 0 ≡ slice_get came 0 → is_some (slice_get left 0) ≡ true
    → IsAlike (count + 1) expected found (drop 1 left) (drop 1 came)
unfolding line_in
goes_on count expected found [] came h same is = absurd (search (rules, is))
goes_on count expected found (line ∷ left) [] h same is = absurd (search (rules, same))
goes_on count expected found (line ∷ left) (other ∷ came) h same is =
    let e : line ≡ other = ap (line_in line) same in
    one_more count expected found line left came (rw (ap (λ l. l ∷ came) e) h)

-- a value stays one
pub some_mapped : {A B : Type 0} (v : A → B) (o : Option A) → is_some (option_map v o) ≡ is_some o
some_mapped v None = refl
some_mapped v (Some a) = refl
