-- Laws of images that change each byte by its place and its value. The kernels' ghost laws cite them.
use Rattle.std.specs.Prelude.{◌≡◌, ℕ, ◌+◌, List, [], ◌∷◌, ◌++◌, length, refl}
use Rattle.std.proofs.Common.{suc, sym, ap, ◌∙◌, add-zero, arith}
use Rattle.acc_lend.specs.Images.{each_byte}

pub length-each_byte : (change : ℕ → ℕ → ℕ) (at : ℕ) (part : List ℕ) → length (each_byte change at part) ≡ length part
length-each_byte change at [] = refl
length-each_byte change at (b ∷ part) = ap suc (length-each_byte change (at + 1) part)

pub each_byte-append : (change : ℕ → ℕ → ℕ) (at : ℕ) (first second : List ℕ) → each_byte change at (first ++ second) ≡ each_byte change at first ++ each_byte change (at + length first) second
each_byte-append change at [] second = ap (λ n. each_byte change n second) (sym (add-zero at))
each_byte-append change at (b ∷ first) second =
    let e : (at + 1) + length first ≡ at + suc (length first) = omega arith in
    ap (λ bytes. change at b ∷ bytes) (each_byte-append change (at + 1) first second ∙ ap (λ n. each_byte change (at + 1) first ++ each_byte change n second) e)
