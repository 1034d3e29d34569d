use Rattle.std.proofs.Common.{ℕ, ◌≡◌, get_or, ap, arith, ◌∙◌}
use Rattle.std.specs.Prelude.{nat_lt}
use Rattle.std.specs.Bool.{if◌then◌else◌}
use Rattle.acc_ordered.proofs.Counting.{counted_step, counted_split, high_behind}
use Rattle.acc_ordered.proofs.search.count_below.Goals as goal

pub loop-nth-preserved : goal.loop-nth-preserved
loop-nth-preserved g c =
    let is : g.K.Key.number c.index-keys-nth.result ≡ g.K.Key.number (get_or c.args.keys.now c.loop-nth.nth c.index-keys-nth.result) = ap g.K.Key.number c.index-keys-nth.is in
    record {
      bound = c.loop-nth.invariant.bound;
      first = omega arith;
      comparisons = omega arith;
      counted = counted_step g.K.Key.number (g.K.Key.number c.args.key) c.args.keys.now c.loop-nth.nth c.loop-nth.place c.one_if_below-place.result c.index-keys-nth.result c.requires.rising (omega arith) c.loop-nth.invariant.counted (c.one_if_below-place.ensures ∙ ap (λ (k : ℕ). if nat_lt k (g.K.Key.number c.args.key) then 1 else 0) is);
    }

pub returns-clause-split : goal.returns-clause-split
returns-clause-split g c =
    let end : c.loop-nth.nth ≡ c.min-high.result = omega arith in
    counted_split g.K.Key.number (g.K.Key.number c.args.key) c.args.keys.now c.loop-nth.nth c.loop-nth.place (omega arith) c.loop-nth.invariant.counted (high_behind g.K.Key.number (g.K.Key.number c.args.key) c.args.keys.now c.count_eighths-low.result c.min-high.result c.loop-nth.nth c.min-high.ensures end c.count_eighths-low.ensures.failed)
