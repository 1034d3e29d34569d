use Rattle.std.proofs.Common.{ap, ◌∙◌, ◌<◌, sum, length, rules}
use Rattle.acc_lend.proofs.Taken.{lengths_whole, later_filled}
use Rattle.acc_lend.proofs.taking.Parts.from.Goals as goal

pub invariant_of-result-2-clause-sizes : goal.invariant_of-result-2-clause-sizes
invariant_of-result-2-clause-sizes c = let some : 0 < length c.args.lengths.now = search rules in ap sum (lengths_whole c.args.lengths.now some c.requires.filled) ∙ c.requires.sizes

pub invariant_of-result-2-clause-filled : goal.invariant_of-result-2-clause-filled
invariant_of-result-2-clause-filled c = let some : 0 < length c.args.lengths.now = search rules in later_filled c.args.lengths.now some c.requires.filled
