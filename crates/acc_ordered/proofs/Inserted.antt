-- An item that is put at a place of a list: those behind are copied on by one, and then it is written.
use Rattle.std.proofs.Common.{ℕ, zero, suc, ◌≡◌, ◌+◌, ◌-◌, ◌≤◌, refl, ap, ◌∙◌, List, [], ◌∷◌, ◌++◌, length, set, take, drop, insert, arith}
use Rattle.std.specs.List.{copy_within}
use Rattle.std.proofs.lemmas.List.{append-nil, drop_all, length-append}
use Rattle.std.proofs.Math.Seq.{take-append_seam}

moved : {X : Type 0} (xs : List X) (p m : ℕ) (x : X) → m + p ≡ length xs → set (take (suc p) (xs ++ x ∷ []) ++ take m (drop p (xs ++ x ∷ []))) p x ≡ take p xs ++ x ∷ drop p xs
moved [] zero zero x e = refl
moved [] zero (suc m) x e = absurd (omega (arith, e))
moved [] (suc p) m x e = absurd (omega (arith, e))
moved (y ∷ ys) zero m x e = let all : m ≡ length (y ∷ ys) = omega (arith, e) in ap (λ k. x ∷ take k ((y ∷ ys) ++ x ∷ [])) all ∙ ap (λ l. x ∷ l) (take-append_seam (y ∷ ys) (x ∷ []))
moved (y ∷ ys) (suc q) m x e = ap (λ l. y ∷ l) (moved ys q m x (omega (arith, e)))

-- the list has room for it at its end
pub inserted : {X : Type 0} (xs : List X) (p n : ℕ) (x : X) → n ≡ length xs → p ≤ n → set (copy_within (xs ++ x ∷ []) p n (p + 1)) p x ≡ insert xs p x
inserted {X} xs p n x e le =
    let d : List X = xs ++ x ∷ [] in
    let some : List X = take (n - p) (drop p d) in
    let next : p + 1 ≡ suc p = omega arith in
    ap (λ r. set ((take (p + 1) d ++ some) ++ r) p x) (drop_all (p + 1 + (n - p)) d (omega (arith, e, le, length-append xs (x ∷ []))))
    ∙ ap (λ l. set l p x) (append-nil (take (p + 1) d ++ some))
    ∙ ap (λ k. set (take k d ++ some) p x) next
    ∙ moved xs p (n - p) x (omega (arith, e, le))
