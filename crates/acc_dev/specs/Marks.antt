-- What keeps a block of a device: its mapping, and the queued transfers that name it (OpenACC 3.3, section 2.16,
-- asynchronous behavior).
use Rattle.std.specs.Prelude.{ℕ, ◌+◌, ◌-◌, ◌^◌, ◌≡◌, ◌<◌, ◌≤◌, Bool, true, false, not, ◌&&◌, if◌then◌else◌, nat_le, ◌==◌, List, Option, filter, find, unwrap_or, option_map}
use Rattle.acc_base.specs.declared.mappings.Block.{Block}
use Rattle.acc_base.specs.declared.mappings.Ended.{Ended}
use Rattle.acc_base.specs.Blocks.{size_of, lowest}

-- what keeps a block: how many queued transfers name it, and whether its mapping has ended
pub record Mark : Type 0 where
  pub block : ℕ
  pub pins : ℕ
  pub ended : Bool

-- the mark of a new block
abbrev pub new_mark : ℕ → Mark
new_mark block = record { block = block; pins = 0; ended = false }

-- ---- look-ups

-- the mark of the block
abbrev pub mark_numbered : ℕ → List Mark → Option Mark
mark_numbered block marks = find (λ m. m.block == block) marks

-- how many queued transfers name the block
abbrev pub pins_at : ℕ → List Mark → ℕ
pins_at block marks = unwrap_or (option_map (λ m. m.pins) (mark_numbered block marks)) 0

-- its mapping has ended
abbrev pub is_ended_at : ℕ → List Mark → Bool
is_ended_at block marks = unwrap_or (option_map (λ m. m.ended) (mark_numbered block marks)) false

-- ---- changes

-- the mark, with a change where it is the block's
abbrev pub mark_changed : ℕ → (Mark → Mark) → Mark → Mark
mark_changed block change m = if m.block == block then change m else m

-- one more transfer names the block
abbrev pub with_pin : Mark → Mark
with_pin m = record m { pins = m.pins + 1 }

-- one transfer fewer names it
abbrev pub without_pin : Mark → Mark
without_pin m = record m { pins = m.pins - 1 }

-- its mapping has ended
abbrev pub with_end : Mark → Mark
with_end m = record m { ended = true }

-- the marks without that of a block
abbrev pub without_mark : ℕ → List Mark → List Mark
without_mark block marks = filter (λ m. not (m.block == block)) marks

-- ---- blocks that have ended

-- those with places at or above a device address
abbrev pub ended_blocks_from : ℕ → List Mark → List Block → List Block
ended_blocks_from from marks blocks = filter (λ b. is_ended_at b.number marks && nat_le from b.place) blocks

-- what a query says of one
abbrev pub ended_told : List Mark → Block → Ended
ended_told marks b = record { place = b.place; size = size_of b; pins = pins_at b.number marks }

-- the one of least place at or above a device address
abbrev pub lowest_ended : ℕ → List Mark → List Block → Option Ended
lowest_ended from marks blocks = option_map (ended_told marks) (lowest (ended_blocks_from from marks blocks))

-- ---- what holds of every mark

-- the mark is the block's
abbrev pub IsMarkOf : Mark → Block → Type 0
IsMarkOf m b = m.block ≡ b.number

-- a block that has ended is kept by a transfer that names it, and not too many do
pub record IsSoundMark (m : Mark) : Type 0 where
  pub few : m.pins ≤ 2 ^ 32
  pub held : m.ended ≡ true → 0 < m.pins
