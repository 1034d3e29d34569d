use Rattle.std.proofs.Common.{◌≡◌, ap, length, rules}
use Rattle.std.specs.Prelude.{◌==◌}
use Rattle.acc_ordered.specs.Listing.{Listing}
use Rattle.acc_ordered.specs.Laid.{side_by_side}
use Rattle.acc_ordered.proofs.NoRows.{no_row}
use Rattle.acc_ordered.proofs.list.OrderedList.is_empty.Goals as goal

pub returns : goal.returns
returns g c =
    let is : side_by_side c.self.inside.rows.items ≡ c.args.self.now.entries = ap (λ (l : Listing g.row.T.Denot). l.entries) c.self.view_is in
    let none : c.is_empty.result ≡ (length c.self.inside.rows.items == 0) = search rules in
    let told = no_row c.self.inside.rows.items c.is_empty.result c.self.invariant.rows.in_rows.each none in
    rw (← is) told
