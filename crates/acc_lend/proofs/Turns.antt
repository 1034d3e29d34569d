-- A loop that changes one byte of a slice at each turn.
use Rattle.std.proofs.Common.{◌≡◌, ℕ, ◌+◌, ◌<◌, suc, zero, List, [], ◌∷◌, ◌++◌, length, get_or, set, take, drop, refl, sym, ap, ap₂, ◌∙◌, add-zero, add-one, arith}
use Rattle.acc_lend.specs.Images.{each_byte}

-- s, which starts at a place of the loan, with its first i bytes changed
abbrev pub changed : (ℕ → ℕ → ℕ) → ℕ → ℕ → List ℕ → List ℕ
changed f at i s = each_byte f at (take i s) ++ drop i s

-- the byte that comes next is as it was
read_changed : (f : ℕ → ℕ → ℕ) (at i : ℕ) (s : List ℕ) → i < length s → get_or (changed f at i s) i 0 ≡ get_or s i 0
read_changed f at i [] h = absurd (omega arith)
read_changed f at zero (b ∷ s) h = refl
read_changed f at (suc i) (b ∷ s) h = read_changed f (at + 1) i s (omega arith)

-- with one more byte changed
changed_suc : (f : ℕ → ℕ → ℕ) (at i : ℕ) (s : List ℕ) → i < length s → set (changed f at i s) i (f (at + i) (get_or s i 0)) ≡ changed f at (suc i) s
changed_suc f at i [] h = absurd (omega arith)
changed_suc f at zero (b ∷ s) h = ap (λ n. f n b ∷ s) (add-zero at)
changed_suc f at (suc i) (b ∷ s) h =
    let e : at + suc i ≡ (at + 1) + i = omega arith in
    ap (λ n. f at b ∷ set (changed f (at + 1) i s) i (f n (get_or s i 0))) e
    ∙ ap (λ xs. f at b ∷ xs) (changed_suc f (at + 1) i s (omega arith))

changed_more : (f : ℕ → ℕ → ℕ) (at i : ℕ) (s : List ℕ) → i < length s → set (changed f at i s) i (f (at + i) (get_or s i 0)) ≡ changed f at (i + 1) s
changed_more f at i s h = changed_suc f at i s h ∙ ap (λ n. changed f at n s) (sym (add-one i))

-- a turn of a loop that writes byte i
pub turn : (f : ℕ → ℕ → ℕ) (at i : ℕ) (s part : List ℕ) (v : ℕ) → part ≡ changed f at i s → i < length s → v ≡ f (at + i) (get_or part i 0) → set part i v ≡ changed f at (i + 1) s
turn f at i s part v e low is =
    let read : get_or part i 0 ≡ get_or s i 0 = ap (λ xs. get_or xs i 0) e ∙ read_changed f at i s low in
    let value : v ≡ f (at + i) (get_or s i 0) = is ∙ ap (λ b. f (at + i) b) read in
    ap₂ (λ xs w. set xs i w) e value ∙ changed_more f at i s low
