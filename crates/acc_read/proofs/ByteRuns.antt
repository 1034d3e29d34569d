-- Runs of bytes that pass a test.
use Rattle.std.proofs.Common.{◌≡◌, ℕ, zero, suc, ◌+◌, ◌-◌, ◌≤◌, Bool, true, false, cond, ◌&&◌, List, [], ◌∷◌, length, take, drop, drop-drop, take-append-drop, ap, sym, ◌∙◌, arith}
use Rattle.std.specs.List.{list_all, prefix_len}
use Rattle.std.proofs.lemmas.Bool.{and_parts}
use Rattle.std.proofs.lemmas.List.Folds.{list_all-append}

module _ {X : Type 0} (p : X → Bool) where
  -- all pass where those of a front and the others do
  all_split : (xs : List X) (n : ℕ) → list_all p xs ≡ (list_all p (take n xs) && list_all p (drop n xs))
  all_split xs n = ap (list_all p) (sym (take-append-drop n xs)) ∙ list_all-append p (take n xs) (drop n xs)

  -- a run at a place that passes leaves it to the others
  pub run_passes : (xs : List X) (at n : ℕ) → list_all p (take n (drop at xs)) ≡ true
      → list_all p xs ≡ list_all p (drop at xs) → list_all p xs ≡ list_all p (drop (at + n) xs)
  run_passes xs at n run left =
      left ∙ all_split (drop at xs) n ∙ ap (λ b. b && list_all p (drop n (drop at xs))) run ∙ ap (list_all p) (drop-drop n at xs)

  -- what is left may begin before that place
  pub run_overlaps : (xs : List X) (at from : ℕ) → from ≤ at → list_all p xs ≡ list_all p (drop at xs)
      → list_all p xs ≡ list_all p (drop from xs)
  run_overlaps xs at from le left =
      by (list_all p (take from xs)) (list_all p (drop from xs)) (list_all p (take (at - from) (drop from xs)))
      (all_split xs from)
      (let sum : from + (at - from) ≡ at = omega arith in all_split (drop from xs) (at - from) ∙ ap (λ b. list_all p (take (at - from) (drop from xs)) && b) (ap (list_all p) (drop-drop (at - from) from xs) ∙ ap (λ n. list_all p (drop n xs)) sum ∙ sym left))
    where
      by : (a b c : Bool) → list_all p xs ≡ (a && b) → b ≡ (c && list_all p xs) → list_all p xs ≡ b
      by true b c whole rest = whole
      by false b true whole rest = sym rest
      by false b false whole rest = whole ∙ sym rest

  -- so many at the front pass, and then those that the others begin with
  pub front_passes : (n : ℕ) (xs : List X) → n ≤ length xs → list_all p (take n xs) ≡ true
      → prefix_len p xs ≡ n + prefix_len p (drop n xs)
  front_passes zero xs le all = omega arith
  front_passes (suc n) [] le all = absurd (omega arith)
  front_passes (suc n) (x ∷ xs) le all =
      let parts = and_parts (p x) (list_all p (take n xs)) all in
      let rest = front_passes n xs (omega arith) parts.1 in
      ap (λ b. cond b (1 + prefix_len p xs) 0) parts.0 ∙ omega (arith, rest)
