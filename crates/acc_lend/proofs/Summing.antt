-- The kernel that adds a source: it adds the bytes that the source has at the places of a part, and changes no others.
use Rattle.std.proofs.Common.{◌≡◌, ℕ, ◌+◌, ◌<◌, ◌≤◌, ◌-◌, min, suc, List, [], ◌∷◌, ◌++◌, length, take, drop, refl, sym, ap, ap₂, ◌∙◌, arith, add-zero, length-drop, Some}
use Rattle.std.specs.Prelude.{slice_get}
use Rattle.std.proofs.lemmas.Option.{slice_get-get_or, slice_get_past}
use Rattle.std.proofs.lemmas.List.{take-append-drop, get_or-take, get_or-drop, length-take-le, take_all}
use Rattle.acc_lend.specs.Images.{each_byte, plus, summed}
use Rattle.acc_lend.specs.ImageLaws.{each_byte-append}

-- two changes that agree at each place
same_change : (f g : ℕ → ℕ → ℕ) (a b : ℕ) (part : List ℕ) → ((i : ℕ) → i < length part → (byte : ℕ) → f (a + i) byte ≡ g (b + i) byte) → each_byte f a part ≡ each_byte g b part
same_change f g a b [] same = refl
same_change f g a b (byte ∷ part) same =
    let here : f a byte ≡ g b byte = ap (λ n. f n byte) (sym (add-zero a)) ∙ same 0 (omega arith) byte ∙ ap (λ n. g n byte) (add-zero b) in
    ap₂ ◌∷◌ here (same_change f g (a + 1) (b + 1) part (λ i low x.
    let e : (a + 1) + i ≡ a + suc i = omega arith in
    let e' : b + suc i ≡ (b + 1) + i = omega arith in
    ap (λ n. f n x) e ∙ same (suc i) (omega arith) x ∙ ap (λ n. g n x) e'))

-- a change that leaves the byte at each place as it is
no_change : (f : ℕ → ℕ → ℕ) (a : ℕ) (part : List ℕ) → ((i : ℕ) → i < length part → (byte : ℕ) → f (a + i) byte ≡ byte) → each_byte f a part ≡ part
no_change f a [] same = refl
no_change f a (byte ∷ part) same =
    let here : f a byte ≡ byte = ap (λ n. f n byte) (sym (add-zero a)) ∙ same 0 (omega arith) byte in
    ap₂ ◌∷◌ here (no_change f (a + 1) part (λ i low x.
    let e : (a + 1) + i ≡ a + suc i = omega arith in
    ap (λ n. f n x) e ∙ same (suc i) (omega arith) x))

-- a byte behind a place of the source
source_byte : (src : List ℕ) (at count i : ℕ) → i < count → at + count ≤ length src → slice_get (take count (drop at src)) i ≡ slice_get src (at + i)
source_byte src at count i low fits =
    let long : length (take count (drop at src)) ≡ count = length-take-le count (drop at src) (simp length-drop (omega arith)) in
    slice_get-get_or (take count (drop at src)) i 0 (omega arith)
    ∙ ap Some (get_or-take count (drop at src) i 0 low ∙ get_or-drop at src i 0)
    ∙ sym (slice_get-get_or src (at + i) 0 (omega arith))

-- the bytes of a part at places that the source has
summed_front : (src front : List ℕ) (at : ℕ) → at + length front ≤ length src → each_byte (summed (take (length front) (drop at src))) 0 front ≡ each_byte (summed src) at front
summed_front src front at fits = same_change _ _ 0 at front (λ i low byte.
    let from : 0 + i ≡ i = omega arith in
    ap (λ n. plus byte (slice_get (take (length front) (drop at src)) n)) from ∙ ap (λ s. plus byte s) (source_byte src at (length front) i low fits))

-- the bytes of a part at places that the source does not have
pub summed_behind : (src rest : List ℕ) (at : ℕ) → ((i : ℕ) → i < length rest → length src ≤ at + i) → each_byte (summed src) at rest ≡ rest
summed_behind src rest at past = no_change _ at rest (λ i low byte. ap (λ s. plus byte s) (slice_get_past src (at + i) (past i low)))

-- a part to whose first bytes those of the source were added, as many as there are in both
pub summed_whole : (src behind part front : List ℕ) (at count : ℕ) → at ≤ length src → behind ≡ take (length src - at) (drop at src) → count ≡ min (length part) (length behind)
    → front ≡ each_byte (summed (take count behind)) 0 (take count part) → front ++ drop count part ≡ each_byte (summed src) at part
summed_whole src behind part front at count within source least is =
    let all : length (drop at src) ≡ length src - at = length-drop at src in
    let there : behind ≡ drop at src = source ∙ take_all (length src - at) (drop at src) (omega arith) in
    let behind_long : length behind ≡ length src - at = ap length there ∙ all in
    let long : length (take count part) ≡ count = length-take-le count part (omega arith) in
    let first : front ≡ each_byte (summed src) at (take count part) =
    is
    ∙ ap₂ (λ n xs. each_byte (summed (take n xs)) 0 (take count part)) (sym long) there
    ∙ summed_front src (take count part) at (omega arith) in
    let left : length (drop count part) ≡ length part - count = length-drop count part in
    let second : each_byte (summed src) (at + length (take count part)) (drop count part) ≡ drop count part =
    summed_behind src (drop count part) (at + length (take count part)) (λ i low. omega arith) in
    ap₂ ◌++◌ first (sym second)
    ∙ sym (each_byte-append (summed src) at (take count part) (drop count part))
    ∙ ap (λ bytes. each_byte (summed src) at bytes) (take-append-drop count part)
