-- A loop that changes one mark of a section at each turn.
use Rattle.std.proofs.Common.{◌≡◌, ℕ, ◌+◌, ◌<◌, suc, zero, List, [], ◌∷◌, ◌++◌, length, get_or, set, take, drop, map, refl, sym, ap, ap₂, ◌∙◌, add-zero, add-one, arith}
use Rattle.std.specs.List.{enumerate_from}
use Rattle.acc_stale.specs.declared.marks.Mark.{Mark}
use Rattle.acc_stale.specs.Marks.{Change}

-- the first i marks changed, of which the first has this place
abbrev pub changed_from : Change → ℕ → ℕ → List Mark → List Mark
changed_from f at i s = map (λ p. f p.0 p.1) (enumerate_from at (take i s)) ++ drop i s

-- the mark that comes next is as it was
read_changed : (f : Change) (at i : ℕ) (d : Mark) (s : List Mark) → i < length s → get_or (changed_from f at i s) i d ≡ get_or s i d
read_changed f at i d [] h = absurd (omega arith)
read_changed f at zero d (m ∷ s) h = refl
read_changed f at (suc i) d (m ∷ s) h = read_changed f (at + 1) i d s (omega arith)

-- with one more mark changed
changed_suc : (f : Change) (at i : ℕ) (d : Mark) (s : List Mark) → i < length s → set (changed_from f at i s) i (f (at + i) (get_or s i d)) ≡ changed_from f at (suc i) s
changed_suc f at i d [] h = absurd (omega arith)
changed_suc f at zero d (m ∷ s) h = ap (λ n. f n m ∷ s) (add-zero at)
changed_suc f at (suc i) d (m ∷ s) h =
    let e : at + suc i ≡ (at + 1) + i = omega arith in
    ap (λ n. f at m ∷ set (changed_from f (at + 1) i s) i (f n (get_or s i d))) e
    ∙ ap (λ xs. f at m ∷ xs) (changed_suc f (at + 1) i d s (omega arith))

-- a turn of the loop, which changes the mark at place i
pub turn : (f : Change) (i : ℕ) (d : Mark) (s part : List Mark) (v : Mark) → part ≡ changed_from f 0 i s → i < length s → v ≡ f i (get_or part i d) → set part i v ≡ changed_from f 0 (i + 1) s
turn f i d s part v e low is =
    let read : get_or part i d ≡ get_or s i d = ap (λ xs. get_or xs i d) e ∙ read_changed f 0 i d s low in
    let from : 0 + i ≡ i = omega arith in
    let value : v ≡ f (0 + i) (get_or s i d) = is ∙ ap (λ m. f i m) read ∙ ap (λ n. f n (get_or s i d)) (sym from) in
    ap₂ (λ xs w. set xs i w) e value ∙ changed_suc f 0 i d s low ∙ ap (λ n. changed_from f 0 n s) (sym (add-one i))
