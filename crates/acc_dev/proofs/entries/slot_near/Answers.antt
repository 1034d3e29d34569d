use Rattle.acc_dev.proofs.Rising.{slot_found, none_found}
use Rattle.acc_dev.proofs.entries.slot_near.Goals as goal

pub unreachable-requires : goal.unreachable-requires
unreachable-requires c = c.requires (none_found c.args.index.now.entries c.args.block c.in_default.ensures)

pub returns : goal.returns
returns c = slot_found c.args.index.now.entries c.args.block c.in-Some.slot.now c.in-Some.ensures
