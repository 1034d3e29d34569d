-- What the fields of `Holes` stand for, and what holds of them.
use Rattle.std.specs.Prelude.{◌≡◌, ◌+◌, ◌-◌, ◌≤◌, length}
use Rattle.acc_base.specs.Holes.{total}
use Rattle.acc_placement.specs.Space.{Space, IsCanonical}
use Rattle.acc_placement.specs.declared.placement.Holes.TheInside.{Inside}

-- the space that the fields of `Holes` stand for
abbrev pub space_of : Inside → Space
space_of h = record {
  base = h.base;
  size = h.size;
  holes = h.holes.holes;
  taken = h.taken;
  spare = length h.holes.holes + h.holes.room - (h.taken + 1);
}

-- the holes are those of a space, the used bytes are the others, and there is room to give each taken range back
pub record AreHolesSound (h : Inside) : Type 0 where
  pub canonical : IsCanonical (space_of h)
  pub used : h.used + total h.holes.holes ≡ h.size
  -- no taken range is empty
  pub few : h.taken ≤ h.used
  pub room : h.taken + 1 ≤ length h.holes.holes + h.holes.room
