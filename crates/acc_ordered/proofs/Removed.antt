-- An item that is taken out of a place of a list: those behind are copied back by one, and then the list is cut.
use Rattle.std.proofs.Common.{ℕ, zero, suc, ◌≡◌, ◌+◌, ◌-◌, ◌<◌, ap, ◌∙◌, List, [], ◌∷◌, ◌++◌, length, take, drop, arith}
use Rattle.std.specs.List.{copy_within, remove}
use Rattle.std.proofs.lemmas.List.{take_all}
use Rattle.std.proofs.Math.Seq.{take-append_seam}

cut : {X : Type 0} (xs : List X) (p m n : ℕ) (rest : List X) → n ≡ p + m → n + 1 ≡ length xs → take n ((take p xs ++ take m (drop (suc p) xs)) ++ rest) ≡ remove xs p
cut [] p m n rest sum e = absurd (omega (arith, e))
cut (y ∷ ys) zero m n rest sum e =
    let all : n ≡ length ys = omega (arith, e) in
    ap (λ l. take n (l ++ rest)) (take_all m ys (omega (arith, sum, e))) ∙ ap (λ k. take k (ys ++ rest)) all ∙ take-append_seam ys rest
cut (y ∷ ys) (suc q) m zero rest sum e = absurd (omega (arith, sum))
cut (y ∷ ys) (suc q) m (suc k) rest sum e = ap (λ l. y ∷ l) (cut ys q m k rest (omega (arith, sum)) (omega (arith, e)))

-- the list is one shorter then
pub removed : {X : Type 0} (xs : List X) (p n : ℕ) → n ≡ length xs → p < n → take (n - 1) (copy_within xs (p + 1) n p) ≡ remove xs p
removed {X} xs p n e lt =
    let m : ℕ = n - (p + 1) in
    let rest : List X = drop (p + m) xs in
    let next : p + 1 ≡ suc p = omega arith in
    ap (λ k. take (n - 1) ((take p xs ++ take m (drop k xs)) ++ rest)) next
    ∙ cut xs p m (n - 1) rest (omega (arith, lt)) (omega (arith, e, lt))
