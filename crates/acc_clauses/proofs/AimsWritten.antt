-- What the eight bytes of a pointer hold where those of a pointer are written.
use Rattle.std.proofs.Common.{ℕ, zero, suc, ◌≡◌, ◌+◌, ◌-◌, ◌<◌, ◌≤◌, ◌^◌, refl, sym, ap, ◌∙◌, Bool, false, List, [], ◌∷◌, ◌++◌, length, take, drop, map, arith}
use Rattle.std.specs.Prelude.{◌⊎◌, ◌==◌, slice_index}
use Rattle.std.specs.Int.{w64, to_le_bytes, from_le_bytes}
use Rattle.std.proofs.lemmas.Bool.Decides.{nat_tests}
use Rattle.std.proofs.lemmas.Nat.{from_le_bytes-to_le_bytes_8}
use Rattle.acc_base.specs.Section.{covers}
use Rattle.acc_base.specs.Attachments.{pointer_at}
use Rattle.acc_base.specs.Records.{Memory}
use Rattle.acc_base.specs.Bytes.{written_bytes, bytes_of, memory_changed}
use Rattle.acc_base.specs.Pointers.{pointer_in}
use Rattle.acc_clauses.proofs.Copying.{IsFrom, written-overwritten}

-- ---- bytes written elsewhere

drop-written : (taken : ℕ → Bool) (source : ℕ → ℕ) (a n : ℕ) (old : List ℕ) → drop n (written_bytes taken source a old) ≡ written_bytes taken source (a + n) (drop n old)
drop-written taken source a zero old = let same : a ≡ a + 0 = omega arith in ap (λ m. written_bytes taken source m old) same
drop-written taken source a (suc n) [] = refl
drop-written taken source a (suc n) (x ∷ xs) = let same : suc a + n ≡ a + suc n = omega arith in drop-written taken source (suc a) n xs ∙ ap (λ m. written_bytes taken source m (drop n xs)) same

take-written : (taken : ℕ → Bool) (source : ℕ → ℕ) (a m : ℕ) (old : List ℕ) → ((k : ℕ) → k < m → taken (a + k) ≡ false) → take m (written_bytes taken source a old) ≡ take m old
take-written taken source a (suc m) (x ∷ xs) h =
    let first : taken a ≡ false = (let same : a ≡ a + 0 = omega arith in ap taken same) ∙ h 0 (omega arith) in
    rw first (ap (λ ys. x ∷ ys) (take-written taken source (suc a) m xs (λ k below. (let same : suc a + k ≡ a + suc k = omega arith in ap taken same) ∙ h (suc k) (omega (arith, below)))))
take-written taken source a _ _ h = refl

-- two pointers that are eight bytes apart
abbrev pub AreApart : ℕ → ℕ → Type 0
AreApart p q = (p + 8 ≤ q) ⊎ (q + 8 ≤ p)

-- a pointer holds what it held where another is written
pub pointer-other : (first p q : ℕ) (source : ℕ → ℕ) (bytes : List ℕ) → first ≤ q → AreApart p q → pointer_in first q (written_bytes (covers (pointer_at p)) source first bytes) ≡ pointer_in first q bytes
pointer-other first p q source bytes low apart = grind (arith, nat_tests, drop-written, take-written)

-- ---- bytes written there

front : (n : ℕ) (old mid rest : List ℕ) → n ≤ length old → drop n (take n old ++ mid ++ rest) ≡ mid ++ rest
front zero old mid rest h = refl
front (suc n) [] mid rest h = absurd (omega (arith, h))
front (suc n) (x ∷ xs) mid rest h = front n xs mid rest (omega (arith, h))

first_of : (xs ys : List ℕ) → take (length xs) (xs ++ ys) ≡ xs
first_of [] ys = refl
first_of (x ∷ xs) ys = ap (λ zs. x ∷ zs) (first_of xs ys)

abbrev pub target_byte : ℕ → ℕ → ℕ → ℕ
target_byte target pointer a = slice_index (to_le_bytes w64 target) (a - pointer)

from_target : (target pointer : ℕ) → IsFrom (target_byte target pointer) pointer (to_le_bytes w64 target)
from_target target pointer k below = let same : k ≡ pointer + k - pointer = omega arith in ap (slice_index (to_le_bytes w64 target)) same

-- a pointer holds the target that is written there
pub pointer-same : (first pointer target : ℕ) (bytes : List ℕ) → first ≤ pointer → pointer + 8 ≤ first + length bytes → target < 2 ^ 64
    → pointer_in first pointer (written_bytes (covers (pointer_at pointer)) (target_byte target pointer) first bytes) ≡ target
pointer-same first pointer target bytes low high below =
    let n : ℕ = pointer - first in
    let eight : List ℕ = to_le_bytes w64 target in
    let len : length eight ≡ 8 = refl in
    let written = written-overwritten (pointer_at pointer) (target_byte target pointer) n first bytes eight (omega (arith, low)) high len (from_target target pointer) in
    let rest : List ℕ = drop (n + length eight) bytes in
    let there : drop n (written_bytes (covers (pointer_at pointer)) (target_byte target pointer) first bytes) ≡ eight ++ rest = ap (drop n) written ∙ front n bytes eight rest (omega (arith, low, high)) in
    ap (from_le_bytes w64) (ap (take 8) there ∙ first_of eight rest) ∙ from_le_bytes-to_le_bytes_8 target below

-- ---- the bytes of a block

-- another block's are not changed
pub bytes-other : (k block : ℕ) (f : List ℕ → List ℕ) (ms : List Memory) → (k == block) ≡ false → bytes_of block (map (memory_changed k f) ms) ≡ bytes_of block ms
bytes-other k block f [] e = refl
bytes-other k block f (m ∷ ms) e = grind (arith, nat_tests, bytes-other k block f ms e)

-- the block's own are, where the change leaves no bytes as they are
pub bytes-same : (block : ℕ) (f : List ℕ → List ℕ) (ms : List Memory) → f [] ≡ [] → bytes_of block (map (memory_changed block f) ms) ≡ f (bytes_of block ms)
bytes-same block f [] e = sym e
bytes-same block f (m ∷ ms) e = grind (arith, nat_tests, bytes-same block f ms e)

-- and those of another block that is new are not the block's
pub bytes-push : (block : ℕ) (new : Memory) (ms : List Memory) → (new.block == block) ≡ false → bytes_of block (ms ++ new ∷ []) ≡ bytes_of block ms
bytes-push block new [] e = rw e refl
bytes-push block new (m ∷ ms) e = grind (arith, nat_tests, bytes-push block new ms e)
