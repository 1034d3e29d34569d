use Rattle.std.proofs.Common.{ℕ, ◌≡◌, ◌+◌, ◌*◌, get_or, ap, arith, ◌∙◌}
use Rattle.std.specs.Prelude.{nat_lt}
use Rattle.std.specs.Bool.{if◌then◌else◌}
use Rattle.acc_ordered.proofs.Counting.{eighth_step, eighths_end}
use Rattle.acc_ordered.proofs.search.count_eighths.Goals as goal

pub loop-eighth-preserved : goal.loop-eighth-preserved
loop-eighth-preserved g c =
    let is : g.K.Key.number c.index-keys-eighth.result ≡ g.K.Key.number (get_or c.args.keys.now (8 * c.loop-eighth.eighth + 7) c.index-keys-eighth.result) = ap g.K.Key.number c.index-keys-eighth.is in
    record {
      whole = c.loop-eighth.invariant.whole;
      rest = c.loop-eighth.invariant.rest;
      comparisons = omega arith;
      eighths = eighth_step g.K.Key.number (g.K.Key.number c.args.key) c.args.keys.now c.loop-eighth.eighth c.loop-eighth.low c.one_if_below.result c.index-keys-eighth.result c.requires.rising (omega arith) c.loop-eighth.invariant.eighths (c.one_if_below.ensures ∙ ap (λ (k : ℕ). if nat_lt k (g.K.Key.number c.args.key) then 1 else 0) is);
    }

pub returns-clause-failed : goal.returns-clause-failed
returns-clause-failed g c = eighths_end g.K.Key.number (g.K.Key.number c.args.key) c.args.keys.now c.loop-eighth.eighth c.loop-eighth.low (omega arith) c.loop-eighth.invariant.eighths
