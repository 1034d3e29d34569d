-- Bytes at the front of a text that pass a test which bytes of words alone pass.
use Rattle.std.proofs.Common.{◌≡◌, ◌≢◌, ℕ, suc, ◌+◌, Bool, true, false, cond, List, [], ◌∷◌, take, drop, refl, ap, ◌∙◌, arith}
use Rattle.std.specs.List.{list_all, prefix_len}
use Rattle.acc_read.specs.Tokens.{is_word_byte, word_len}

module _ (p : ℕ → Bool) (in_word : (b : ℕ) → p b ≡ true → is_word_byte b ≡ true) where
  -- with no word behind them they are a word
  pub all_of_word : (text : List ℕ) → word_len (drop (prefix_len p text) text) ≡ 0 → word_len text ≡ prefix_len p text
  all_of_word [] behind = refl
  all_of_word (b ∷ text) behind =
      elim (p b) as (λ d. p b ≡ d → word_len (drop (cond d (1 + prefix_len p text) 0) (b ∷ text)) ≡ 0 → word_len (b ∷ text) ≡ cond d (1 + prefix_len p text) 0) [
        | true ↦ λ passes none.
            let back : suc (prefix_len p text) ≡ 1 + prefix_len p text = omega arith in
            let left : word_len (drop (suc (prefix_len p text)) (b ∷ text)) ≡ 0 = ap (λ n. word_len (drop n (b ∷ text))) back ∙ none in
            let rest = all_of_word text left in
            ap (λ w. cond w (1 + word_len text) 0) (in_word b passes) ∙ omega (arith, rest)
        | false ↦ λ passes none. none
      ] refl behind

  -- with a word behind them they are none
  pub part_of_word : (text : List ℕ) → word_len (drop (prefix_len p text) text) ≢ 0 → list_all p (take (word_len text) text) ≡ false
  part_of_word [] more = absurd (more refl)
  part_of_word (b ∷ text) more =
      elim (p b) as (λ d. p b ≡ d → word_len (drop (cond d (1 + prefix_len p text) 0) (b ∷ text)) ≢ 0 → list_all p (take (word_len (b ∷ text)) (b ∷ text)) ≡ false) [
        | true ↦ λ passes some.
            let e : 1 + prefix_len p text ≡ suc (prefix_len p text) = omega arith in
            let n : word_len (b ∷ text) ≡ suc (word_len text) = ap (λ w. cond w (1 + word_len text) 0) (in_word b passes) ∙ omega arith in
            rw (n, passes) (part_of_word text (λ none. some (ap (λ n. word_len (drop n (b ∷ text))) e ∙ none)))
        | false ↦ λ passes some. by (is_word_byte b) passes some
      ] refl more
    where
      by : (w : Bool) → p b ≡ false → cond w (1 + word_len text) 0 ≢ 0 → list_all p (take (cond w (1 + word_len text) 0) (b ∷ text)) ≡ false
      by true passes some = let e : 1 + word_len text ≡ suc (word_len text) = omega arith in rw (e, passes) refl
      by false passes some = absurd (some refl)

-- what stands in front of the first byte that fails passes
pub front_passes : (p : ℕ → Bool) (text : List ℕ) → list_all p (take (prefix_len p text) text) ≡ true
front_passes p [] = refl
front_passes p (b ∷ text) = by (p b) (front_passes p text) refl
  where
    by : (d : Bool) → list_all p (take (prefix_len p text) text) ≡ true → p b ≡ d
        → list_all p (take (cond d (1 + prefix_len p text) 0) (b ∷ text)) ≡ true
    by true rest passes = let e : 1 + prefix_len p text ≡ suc (prefix_len p text) = omega arith in rw (e, passes) rest
    by false rest passes = refl
