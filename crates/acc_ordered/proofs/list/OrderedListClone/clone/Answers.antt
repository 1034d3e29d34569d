use Rattle.std.proofs.Common.{map, ap, ◌∙◌, arith}
use Rattle.std.specs.List.{each_same}
use Rattle.acc_ordered.specs.Laid.{side_by_side, AreInRows}
use Rattle.acc_ordered.proofs.Numbers.{firsts_long}
use Rattle.acc_ordered.proofs.list.OrderedListClone.clone.Goals as goal

pub invariant_of-result : goal.invariant_of-result
invariant_of-result g c =
    let old = c.self.invariant in
    let same = each_same _ _ c.in_ok-rows.ensures.cases.0 in
    let in_rows : AreInRows (map g.K.Key.number c.in_ok-firsts.firsts.items) c.in_ok-rows.rows.items = rw (c.in_ok-firsts.ensures, same) old.rows.in_rows in
    let none = c.in_ok-spare.ensures.len in
    record {
      rows = record {
        in_rows = in_rows;
        waiting = rw c.in_ok-spare.ensures.items tt;
        places_firsts = omega (arith, none, firsts_long g.K.Key.number c.in_ok-firsts.firsts.items c.in_ok-rows.rows.items in_rows, c.in_ok-firsts.firsts.ok, c.in_ok-rows.rows.ok);
        places_rows = omega (arith, none, c.in_ok-rows.rows.ok);
        places_spare = omega (arith, none, c.in_ok-spare.ensures.capacity, c.len.ensures);
      };
      half_full = rw same old.half_full;
      counted = rw same old.counted;
      few = omega (arith, none, c.in_ok-rows.ensures.cases.1, old.few);
    }

pub returns : goal.returns
returns g c = record { cases = ap side_by_side (each_same _ _ c.in_ok-rows.ensures.cases.0) ∙ ap (λ s. s.entries) c.self.view_is }
