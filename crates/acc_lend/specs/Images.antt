-- What kernels leave of the bytes of a loan (OpenACC 3.3, section 2.5, compute constructs).
use Rattle.std.specs.Prelude.{ℕ, ◌≡◌, List, ◌+◌, ◌%◌, ◌++◌, length, map, bit_xor, slice_get, Option, Some, None}
use Rattle.std.specs.List.{enumerate_from}

-- what a kernel leaves of a part, by the place of the part in the loan, its bytes, and the bytes of the source
abbrev pub Image : Type 0
Image = ℕ → List ℕ → List ℕ → List ℕ

-- an image of a part is as long as the part
abbrev pub KeepsLength : Image → Type 0
KeepsLength image = (at : ℕ) (part src : List ℕ) → length (image at part src) ≡ length part

-- the image of a part that is cut in two is the images of the two, each at its place in the loan, joined
abbrev pub IsPointwise : Image → Type 0
IsPointwise image = (at : ℕ) (first second src : List ℕ) → image at (first ++ second) src ≡ image at first src ++ image (at + length first) second src

-- each byte changed by its place in the loan and its value
abbrev pub each_byte : (ℕ → ℕ → ℕ) → ℕ → List ℕ → List ℕ
each_byte change at part = map (λ p. change p.0 p.1) (enumerate_from at part)

-- the byte b at place i, plus k
abbrev pub added : ℕ → ℕ → ℕ → ℕ
added k i b = (b + k) % 256

-- with each bit of k flipped
abbrev pub flipped : ℕ → ℕ → ℕ → ℕ
flipped k i b = bit_xor b k

-- k plus its place
abbrev pub number_image : ℕ → ℕ → ℕ → ℕ
number_image k i b = (k + i) % 256

-- a byte plus one of the source, or the byte where the source has none
abbrev pub plus : ℕ → Option ℕ → ℕ
plus b None = b
plus b (Some s) = (b + s) % 256

-- plus the byte of the source at the same place
abbrev pub summed : List ℕ → ℕ → ℕ → ℕ
summed src i b = plus b (slice_get src i)
