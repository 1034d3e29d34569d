use Rattle.acc_dev.proofs.Rising.{there_found, entry_lost}
use Rattle.acc_dev.proofs.entries.take_out_near.Goals as goal

pub take_out_near-requires : goal.take_out_near-requires
take_out_near-requires c = there_found c.args.index.now.entries c.args.block c.requires.there

pub returns-clause-lost : goal.returns-clause-lost
returns-clause-lost c = entry_lost c.args.index.now.entries _ c.args.block _ c.requires.rising c.take_out_near.ensures.value c.take_out_near.ensures.entries
