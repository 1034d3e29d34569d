-- The lines of an input.
use Rattle.std.specs.Prelude.{ℕ, ◌-◌, length, take, nat_eq, List, [], ◌∷◌, ◌==◌, if◌then◌else◌, map}
use Rattle.std.specs.List.{onto_first, ends_with}

-- the byte that ends a line
abbrev pub line_feed : ℕ
line_feed = 10

-- the byte that is dropped at the end of a line
abbrev pub carriage_return : ℕ
carriage_return = 13

-- what ends with a line feed, and a last piece where it is not empty
abbrev pub pieces : List ℕ → List (List ℕ)
pieces [] = []
pieces (b ∷ bytes) = if b == line_feed then [] ∷ pieces bytes else onto_first b (pieces bytes)

-- without one carriage return at the end
abbrev pub without_return : List ℕ → List ℕ
without_return piece = if ends_with nat_eq piece (carriage_return ∷ []) then take (length piece - 1) piece else piece

-- the lines of an input
unfoldable pub lines_of : List ℕ → List (List ℕ)
lines_of input = map without_return (pieces input)
