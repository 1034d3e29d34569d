-- What an exit from a region asks of the item of a place is told by the item and by what its entry did.
use Rattle.std.proofs.Common.{◌≡◌, ℕ, List, [], ◌∷◌, zero, suc, map, Option, Some, None, refl, sym, ap, ◌∙◌}
use Rattle.std.specs.List.{slice_get}
use Rattle.acc_base.specs.Words.{Item, RegionClause, Did}
use Rattle.acc_base.specs.declared.tasks.Task.TheVariants.{ExitRegion}
use Rattle.acc_base.specs.Walk.{holdings_of}
use Rattle.acc_base.specs.Items.{undone_by}

undone_by-nothing : (item : Option (Item RegionClause)) → None ≡ undone_by item None
undone_by-nothing None = refl
undone_by-nothing (Some item) = refl

told_at : (items : List (Item RegionClause)) (dids : List Did) (place : ℕ) → undone_by (slice_get items place) (slice_get dids place) ≡ slice_get (map ExitRegion (holdings_of items dids)) place
told_at [] dids place = refl
told_at (item ∷ items) [] place = sym (undone_by-nothing (slice_get (item ∷ items) place))
told_at (item ∷ items) (did ∷ dids) zero = refl
told_at (item ∷ items) (did ∷ dids) (suc place) = told_at items dids place

pub undone_at : (items : List (Item RegionClause)) (dids : List Did) (place : ℕ) (item : Option (Item RegionClause)) (did : Option Did) → item ≡ slice_get items place → did ≡ slice_get dids place
    → undone_by item did ≡ slice_get (map ExitRegion (holdings_of items dids)) place
undone_at items dids place item did e f = ap (λ i. undone_by i did) e ∙ ap (undone_by (slice_get items place)) f ∙ told_at items dids place
