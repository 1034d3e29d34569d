use Rattle.std.proofs.Common.{rules}
use Rattle.acc_runtime.proofs.Lengths.{read_inside}
use Rattle.acc_runtime.proofs.lock.Runtime.copied.Goals as goal

pub unreachable-requires : goal.unreachable-requires
unreachable-requires g c = read_inside c.args.self.now c.deref.result.now c.args.section c.laws.ensures.lawful (search rules) c.requires.inside (search rules)
