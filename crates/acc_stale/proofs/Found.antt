-- Marks among which there is no other one.
use Rattle.std.proofs.Common.{◌≡◌, ℕ, ◌+◌, ◌<◌, Bool, true, false, not, cond, ◌||◌, List, [], ◌∷◌, length, get_or, take, None, refl, sym, ap, ◌∙◌, arith}
use Rattle.std.specs.List.{list_any, position, position_or_len}
use Rattle.std.proofs.lemmas.Bool.Decides.{nat_tests}
use Rattle.std.proofs.lemmas.List.{take_more}
use Rattle.std.proofs.lemmas.List.Folds.{list_any-append}
use Rattle.acc_stale.specs.declared.marks.Mark.{Mark}
use Rattle.acc_stale.proofs.Kept.{or_false}

-- a turn of the loop that looks at the mark at place i
pub any_suc : (p : Mark → Bool) (i : ℕ) (d : Mark) (xs : List Mark) (found here : Bool) → i < length xs → found ≡ list_any p (take i xs) → here ≡ p (get_or xs i d) → (found || here) ≡ list_any p (take (i + 1) xs)
any_suc p i d xs found here h was is =
    ap (λ b. b || here) was
    ∙ ap (λ b. list_any p (take i xs) || b) (is ∙ sym (or_false (p (get_or xs i d))))
    ∙ sym (list_any-append p (take i xs) (get_or xs i d ∷ []))
    ∙ sym (ap (λ ys. list_any p ys) (take_more xs i d h))

or_left : (a b : Bool) → (a || b) ≡ false → a ≡ false
or_left true b e = e
or_left false b e = refl

or_right : (a b : Bool) → (a || b) ≡ false → b ≡ false
or_right true b e = cc
or_right false b e = e

none_before : (p : Mark → Bool) (xs : List Mark) → list_any p xs ≡ false → position_or_len p xs ≡ length xs
none_before p [] e = refl
none_before p (x ∷ xs) e =
    let here : p x ≡ false = or_left (p x) (list_any p xs) e in
    let rest : position_or_len p xs ≡ length xs = none_before p xs (or_right (p x) (list_any p xs) e) in
    ap (λ b. cond (not b) (1 + position_or_len p xs) 0) here ∙ ap (λ n. 1 + n) rest ∙ one
  where
    one : 1 + length xs ≡ length (x ∷ xs)
    one = omega arith

pub none_found : (p : Mark → Bool) (xs : List Mark) → list_any p xs ≡ false → position p xs ≡ None
none_found p xs e = grind (arith, nat_tests, none_before p xs e)
