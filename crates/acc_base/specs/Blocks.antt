-- The blocks of device memory, and where a new one is placed: at the least device address at which it fits.
use Rattle.std.specs.Prelude.{ℕ, ◌+◌, ◌*◌, ◌/◌, ◌<◌, ◌≤◌, Bool, not, ◌&&◌, ◌||◌, if◌then◌else◌, nat_le, ◌==◌, List, [], ◌∷◌, map, Option, Some, None, filter, find, unwrap_or, option_map, sum_by}
use Rattle.std.specs.List.{list_all, AllByRecursion}
use Rattle.acc_base.specs.Words.{Block, Section}
use Rattle.acc_base.specs.Section.{Covers, is_within}

-- the least multiple of 16 that is at least n
abbrev pub rounded : ℕ → ℕ
rounded n = 16 * ((n + 15) / 16)

-- what the block takes of device memory, in bytes
abbrev pub size_of : Block → ℕ
size_of b = rounded b.len

-- the device address behind its last one
abbrev pub block_end : Block → ℕ
block_end b = b.place + size_of b

-- what all blocks take
abbrev pub used_bytes : List Block → ℕ
used_bytes blocks = sum_by size_of blocks

-- ---- the place of a new block, by addresses

-- the address is in no block
abbrev pub IsFree : List Block → ℕ → Type 0
IsFree blocks a = AllByRecursion (λ b. b.place ≤ a → a < block_end b → ⊥) blocks

-- the address is the device memory's, and in no block
abbrev pub IsVacant : Section → List Block → ℕ → Type 0
IsVacant memory blocks a = Covers memory a × IsFree blocks a

-- so many addresses from p on are vacant
abbrev pub Fits : Section → List Block → ℕ → ℕ → Type 0
Fits memory blocks size p = (a : ℕ) → p ≤ a → a < p + size → IsVacant memory blocks a

-- the least place of all, where there is one
abbrev pub IsPlaceFor : Section → List Block → ℕ → Option ℕ → Type 0
IsPlaceFor memory blocks size None = (q : ℕ) → ¬ Fits memory blocks size q
IsPlaceFor memory blocks size (Some p) = Fits memory blocks size p × ((q : ℕ) → Fits memory blocks size q → p ≤ q)

-- ---- the same, as a search

-- the addresses from p to p + size - 1 are not the block's
abbrev pub is_clear_of : ℕ → ℕ → Block → Bool
is_clear_of p size b = nat_le (p + size) b.place || nat_le (block_end b) p

abbrev pub fits_at : Section → List Block → ℕ → ℕ → Bool
fits_at memory blocks size p = is_within (record { start = p; len = size }) memory && list_all (is_clear_of p size) blocks

-- the lesser of two places, of which the second may be missing
abbrev pub least : ℕ → Option ℕ → ℕ
least p None = p
least p (Some q) = if nat_le p q then p else q

abbrev pub least_of : List ℕ → Option ℕ
least_of [] = None
least_of (p ∷ ps) = Some (least p (least_of ps))

-- the least place at which the size fits: it is the first of the device memory, or lies just behind a block
abbrev pub place_for : Section → List Block → ℕ → Option ℕ
place_for memory blocks size = least_of (filter (fits_at memory blocks size) (memory.start ∷ map block_end blocks))

-- ---- look-ups and changes

abbrev pub block_at : ℕ → List Block → Option Block
block_at number blocks = find (λ b. b.number == number) blocks

-- the device address of the block's first byte
abbrev pub place_of : ℕ → List Block → ℕ
place_of number blocks = unwrap_or (option_map (λ b. b.place) (block_at number blocks)) 0

-- the blocks without one
abbrev pub without_block : ℕ → List Block → List Block
without_block number blocks = filter (λ b. not (b.number == number)) blocks

-- the one of two blocks that lies lower, of which the second may be missing
abbrev pub lower : Block → Option Block → Block
lower b None = b
lower b (Some c) = if nat_le b.place c.place then b else c

-- the block of least place
abbrev pub lowest : List Block → Option Block
lowest [] = None
lowest (b ∷ bs) = Some (lower b (lowest bs))
