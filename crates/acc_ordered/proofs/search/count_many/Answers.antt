use Rattle.std.proofs.Common.{ℕ, ◌≡◌, ◌+◌, ◌-◌, ◌/◌, length, get_or, refl, ap, ◌∙◌, arith}
use Rattle.std.specs.Prelude.{nat_lt}
use Rattle.std.specs.Bool.{if◌then◌else◌}
use Rattle.acc_ordered.proofs.Halved.{digits_step, all_left, halved_step, left_rises, left_split}
use Rattle.acc_ordered.proofs.search.count_many.Goals as goal

pub loop-len-init : goal.loop-len-init
loop-len-init g c = record {
  halved = all_left g.K.Key.number (g.K.Key.number c.args.key) c.args.keys.now;
  not_fewer = omega arith;
  digits = λ d less. (d, omega arith, omega arith);
}

pub tick-requires : goal.tick-requires
tick-requires g c =
    let left = c.loop-len.invariant.digits 64 (omega arith) in
    omega (arith, left.1)

pub loop-len-preserved : goal.loop-len-preserved
loop-len-preserved g c =
    let is : g.K.Key.number c.index-keys-low.result ≡ g.K.Key.number (get_or c.args.keys.now (c.loop-len.low + c.loop-len.len / 2) c.index-keys-low.result) = ap g.K.Key.number c.index-keys-low.is in
    record {
      halved = halved_step g.K.Key.number (g.K.Key.number c.args.key) c.args.keys.now c.loop-len.low c.loop-len.len (c.loop-len.len / 2) c.one_if_below-below.result c.index-keys-low.result c.requires.rising (omega arith) refl c.loop-len.invariant.halved (c.one_if_below-below.ensures ∙ ap (λ (k : ℕ). if nat_lt k (g.K.Key.number c.args.key) then 1 else 0) is);
      not_fewer = omega arith;
      digits = rw c.tick.ensures (digits_step (length c.args.keys.now) c.loop-len.len ((c.loop-len.len - c.one_if_below-below.result) / 2) c.args.steps.now c.loop-len.steps (omega arith) (omega arith) c.loop-len.invariant.digits);
    }

pub count_below-requires-clause-rising : goal.count_below-requires-clause-rising
count_below-requires-clause-rising g c = left_rises g.K.Key.number (g.K.Key.number c.args.key) c.args.keys.now c.loop-len.low (c.loop-len.low + c.loop-len.len) (omega arith) c.requires.rising

pub returns-clause-split : goal.returns-clause-split
returns-clause-split g c = left_split g.K.Key.number (g.K.Key.number c.args.key) c.args.keys.now c.loop-len.low c.loop-len.len c.count_below.result c.loop-len.invariant.halved c.count_below.ensures.split

pub returns-clause-steps : goal.returns-clause-steps
returns-clause-steps g c = λ d less.
    let left = c.loop-len.invariant.digits d less in
    omega (arith, left.1)
