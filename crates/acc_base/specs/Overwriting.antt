-- Bytes written over others.
use Rattle.std.specs.Prelude.{ℕ, ◌+◌, List, ◌++◌, length, take, drop}

-- the bytes with others in place of those from an offset on
abbrev pub overwritten : ℕ → List ℕ → List ℕ → List ℕ
overwritten offset bytes old = take offset old ++ bytes ++ drop (offset + length bytes) old
