use Rattle.std.proofs.Common.{List, sym, subst}
use Rattle.std.specs.Prelude.{nat_lt}
use Rattle.acc_base.specs.Splits.{IsSplitBy}
use Rattle.acc_ordered.specs.Listing.{KeyValue, KeysRise}
use Rattle.acc_ordered.proofs.Paired.{keys_rise, split_paired}
use Rattle.acc_ordered.proofs.rows.Row.place.Goals as goal

pub count_below-requires-clause-rising : goal.count_below-requires-clause-rising
count_below-requires-clause-rising g c = rw c.deref.ensures.value (keys_rise g.K.Key.number c.self.inside.keys.items c.self.inside.values.items c.self.invariant.each (subst (λ (es : List (KeyValue g.row.T.Denot)). KeysRise es) (sym c.self.view_is) c.requires))

pub count_below-requires-clause-few : goal.count_below-requires-clause-few
count_below-requires-clause-few g c = rw c.deref.ensures.value c.self.invariant.most

pub returns : goal.returns
returns g c = subst (λ (es : List (KeyValue g.row.T.Denot)). IsSplitBy (λ e. nat_lt e.key (g.K.Key.number c.args.key)) es c.count_below.result) c.self.view_is (split_paired g.K.Key.number (g.K.Key.number c.args.key) c.self.inside.keys.items c.self.inside.values.items c.count_below.result c.self.invariant.each (rw c.deref.ensures.value at c.count_below.ensures.split))
