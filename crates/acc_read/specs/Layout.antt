-- Where the arrays of a script lie in host memory.
use Rattle.std.specs.Prelude.{ℕ, ◌+◌, ◌-◌, List, Option, Some, None, nat_lt, if◌then◌else◌}
use Rattle.std.specs.Ordering.{nat_cmp}
use Rattle.std.specs.Cmp.Lexicographic.{slice_cmp}
use Rattle.std.specs.FinMap as map
use Rattle.acc_base.specs.declared.items.Section.{Section}
use Rattle.acc_base.specs.Section.{host_base}
use Rattle.acc_base.specs.Blocks.{rounded}
use Rattle.acc_read.specs.declared.arrays.Array.{Array}

-- arrays by their names
abbrev pub ArraysByName : Type 0
ArraysByName = map.FinMap (slice_cmp nat_cmp) Array

-- the arrays, the address behind the last one, and the address behind host memory
pub record ArrayLayout : Type 0 where
  pub names : ArraysByName
  pub last_end : ℕ
  pub limit : ℕ

-- no array, in host memory of a size
abbrev pub no_arrays : ℕ → ArrayLayout
no_arrays host = record { names = map.empty; last_end = host_base; limit = host_base + host }

-- the array of a name, if it is declared
abbrev pub array_of : List ℕ → ArrayLayout → Option Array
array_of name layout = map.get layout.names name

-- the next array of a length: it starts at the least multiple of 16 at or after the end of the one before
abbrev pub next_array : ℕ → ArrayLayout → Option Array
next_array len layout =
    let start = rounded layout.last_end in
    if nat_lt layout.limit (start + len) then None else Some (record { start = start; end = start + len })

-- a layout with one more array, behind the others
abbrev pub with_array : List ℕ → Array → ArrayLayout → ArrayLayout
with_array name array layout = record {
  names = map.insert layout.names name array;
  last_end = array.end;
  limit = layout.limit;
}

-- all of an array
abbrev pub whole : Array → Section
whole array = record { start = array.start; len = array.end - array.start }

-- a part of an array, or past it
abbrev pub part_of : Array → ℕ → ℕ → Section
part_of array from len = record { start = array.start + from; len = len }

-- the address of a byte of an array, or past it
abbrev pub byte_of : Array → ℕ → ℕ
byte_of array from = array.start + from
