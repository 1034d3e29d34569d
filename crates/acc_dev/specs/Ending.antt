-- How a device keeps the blocks whose mapping has ended: their numbers, by place. No public clause cites this module.
use Rattle.std.specs.Prelude.{ℕ, ◌≡◌, ◌≤◌, ◌==◌, not, if◌then◌else◌, List, Option, Some, None, find, filter, length, option_map}
use Rattle.acc_base.specs.declared.mappings.Block.{Block}
use Rattle.acc_ordered.specs.Listing.{KeyValue, at_key}
use Rattle.acc_dev.specs.Marks.{Mark, is_ended_at}

-- their numbers by rising place, how many blocks are mapped, and how many more may be without memory
pub record EndedState : Type 0 where
  pub entries : List (KeyValue ℕ)
  pub mapped : ℕ
  pub room : ℕ

-- the block that lies at a place
abbrev pub block_placed : ℕ → List Block → Option Block
block_placed place blocks = find (λ b. b.place == place) blocks

-- its number, where its mapping has ended
abbrev pub ended_number : List Mark → Option Block → Option ℕ
ended_number marks None = None
ended_number marks (Some b) = if is_ended_at b.number marks then Some b.number else None

-- the number that is kept for a place
abbrev pub number_kept : ℕ → List (KeyValue ℕ) → Option ℕ
number_kept place entries = option_map (λ e. e.value) (at_key place entries)

-- how many blocks are mapped
abbrev pub mapped_count : List Mark → ℕ
mapped_count marks = length (filter (λ m. not m.ended) marks)

-- each place has the number of its block where the mapping of that has ended, and no mapped block is uncounted
pub record AreEndedKept (e : EndedState) (blocks : List Block) (marks : List Mark) (births : ℕ) : Type 0 where
  pub agrees : (place : ℕ) → number_kept place e.entries ≡ ended_number marks (block_placed place blocks)
  pub counted : mapped_count marks ≤ e.mapped
  pub few : e.mapped ≤ births
