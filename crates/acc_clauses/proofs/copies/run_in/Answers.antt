use Rattle.acc_clauses.proofs.Moving.{run_copied_in}
use Rattle.acc_clauses.proofs.copies.run_in.Goals as goal

pub returns : goal.returns
returns c = run_copied_in c.args.run c.args.start c.args.host.now c.in-Some.bytes.now c.args.device.now c.write.new.self c.args.block c.laws.ensures.blocks_apart c.laws.ensures.memories
    c.requires.free c.requires.there c.requires.in_host c.requires.within c.in-Some.ensures.part c.write.ensures
