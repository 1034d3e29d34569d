use Rattle.acc_stale.proofs.Aims.{new_told, last_told, less_told, cleared_told}
use Rattle.acc_stale.proofs.known.Known.aimed.Goals as goal

pub returns-in-New : goal.returns-in-New
returns-in-New c s = new_told c.args.holder c.args.aim c.in-New.pointer c.in-New.block c.in-New.target s c.args.self.now _ c.in-New.is c.pointer_aimed.ensures

pub returns-then-holder-eq1 : goal.returns-then-holder-eq1
returns-then-holder-eq1 c s = last_told c.args.holder c.args.aim c.in-Less.pointer c.in-Less.block s c.args.self.now _ c.in-Less.is c.if-holder-eq1.true c.pointer_left.ensures

pub returns-else-holder-eq1 : goal.returns-else-holder-eq1
returns-else-holder-eq1 c s = less_told c.args.holder c.args.aim c.in-Less.pointer c.in-Less.block s c.args.self.now c.in-Less.is c.if-holder-eq1.false

pub returns-in-Cleared : goal.returns-in-Cleared
returns-in-Cleared c s = cleared_told c.args.holder c.args.aim c.in-Cleared.pointer c.in-Cleared.block s c.args.self.now _ c.in-Cleared.is c.pointer_left-in-Cleared.ensures
