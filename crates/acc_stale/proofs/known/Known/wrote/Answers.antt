use Rattle.std.proofs.Common.{ap, ◌∙◌, arith}
use Rattle.acc_stale.specs.Parts.{told_part, part_outdated}
use Rattle.acc_stale.proofs.Parts.{one_more, wrote_done}
use Rattle.acc_stale.proofs.known.Known.wrote.Goals as goal

pub loop-part-preserved : goal.loop-part-preserved
loop-part-preserved c = one_more c.loop-part.part-index c.args.parts.now c.part-item.result c.host_wrote.new.self c.loop-part.self c.outdate.new.self c.loop-part-test.true c.loop-part.invariant (c.in_ok-outdate.ensures.ok ∙ ap (λ x. part_outdated (told_part x) c.loop-part.self) c.part-item.is)

pub returns-clause-ok : goal.returns-clause-ok
returns-clause-ok c w bytes = wrote_done c.loop-part.part-index c.args.parts.now c.args.section bytes w c.args.self.now c.host_wrote.new.self c.loop-part.self (grind (arith, c.loop-part-test.false)) c.host_wrote.ensures c.loop-part.invariant
