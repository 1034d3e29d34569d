-- Sections inside a mapped range.
use Rattle.std.specs.Prelude.{◌<◌, List, Contains}
use Rattle.acc_base.specs.Words.{Section, Range}
use Rattle.acc_base.specs.Section.{IsWithin}

-- the section is not empty, and each of its addresses is in one mapped range
abbrev pub IsInsideOne : Section → List Range → Type 0
IsInsideOne s ranges = (0 < s.len) × ((r : Range) × Contains ranges r × IsWithin s r.section)
