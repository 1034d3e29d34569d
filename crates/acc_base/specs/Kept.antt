-- What a list has.
use Rattle.std.specs.Prelude.{List, []}
use Rattle.acc_base.specs.declared.lists.Kept.{Kept}
use Rattle.acc_base.specs.declared.lists.Kept.TheVariants.{One, Many}

-- the elements that are kept
abbrev pub items_in : {T : Type 0} → Kept T → List T
items_in (One items) = items
items_in (Many items) = items.items
