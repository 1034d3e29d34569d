use Rattle.std.proofs.Common.{ℕ, ◌≡◌, suc, ◌-◌, subst, arith}
use Rattle.std.specs.Prelude.{map, nat_lt}
use Rattle.acc_base.specs.Splits.{IsSplitBy}
use Rattle.acc_ordered.proofs.Laying.{row_at}
use Rattle.acc_ordered.proofs.Numbers.{numbers_rise, split_numbers}
use Rattle.acc_ordered.proofs.Placing.{firsts_rise, place_found, place_first, row_rises, firsts_bound}
use Rattle.acc_ordered.proofs.finding.place_of.Goals as goal

pub count_firsts-behind-requires-clause-rising : goal.count_firsts-behind-requires-clause-rising
count_firsts-behind-requires-clause-rising g c = numbers_rise g.K.Key.number c.args.firsts.now.items (rw c.requires.in_rows.firsts_are (firsts_rise c.args.rows.now.items c.requires.in_rows.rising c.requires.in_rows.each))

pub returns-then-behind-eq0-clause-place : goal.returns-then-behind-eq0-clause-place
returns-then-behind-eq0-clause-place g c = place_first (g.K.Key.number c.args.key) (map g.K.Key.number c.args.firsts.now.items) c.args.rows.now.items c.requires.in_rows (subst (λ (n : ℕ). IsSplitBy (λ k. nat_lt k (g.K.Key.number c.args.key)) (map g.K.Key.number c.args.firsts.now.items) n) c.if-behind-eq0.true (split_numbers g.K.Key.number (g.K.Key.number c.args.key) c.args.firsts.now.items c.count_firsts-behind.result c.count_firsts-behind.ensures.split))

pub place-at-requires : goal.place-at-requires
place-at-requires g c =
    let s = split_numbers g.K.Key.number (g.K.Key.number c.args.key) c.args.firsts.now.items c.count_firsts-behind.result c.count_firsts-behind.ensures.split in
    let at = row_at c.args.rows.now.items (c.count_firsts-behind.result - 1) c.index.result.now (firsts_bound (map g.K.Key.number c.args.firsts.now.items) c.args.rows.now.items c.count_firsts-behind.result c.requires.in_rows s.bound c.if-behind-eq0.false) c.index.ensures in
    row_rises c.args.rows.now.items (c.count_firsts-behind.result - 1) c.index.result.now c.requires.in_rows.rising at

pub returns-clause-place : goal.returns-clause-place
returns-clause-place g c =
    let s = split_numbers g.K.Key.number (g.K.Key.number c.args.key) c.args.firsts.now.items c.count_firsts-behind.result c.count_firsts-behind.ensures.split in
    let at = row_at c.args.rows.now.items (c.count_firsts-behind.result - 1) c.index.result.now (firsts_bound (map g.K.Key.number c.args.firsts.now.items) c.args.rows.now.items c.count_firsts-behind.result c.requires.in_rows s.bound c.if-behind-eq0.false) c.index.ensures in
    let next : c.count_firsts-behind.result ≡ suc (c.count_firsts-behind.result - 1) = grind (arith, c.if-behind-eq0.false) in
    place_found (g.K.Key.number c.args.key) (map g.K.Key.number c.args.firsts.now.items) c.args.rows.now.items (c.count_firsts-behind.result - 1) c.place-at.result c.index.result.now c.requires.in_rows at (rw next at s) c.place-at.ensures
