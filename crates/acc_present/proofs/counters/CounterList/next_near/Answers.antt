use Rattle.std.proofs.Common.{sym, ◌∙◌}
use Rattle.acc_present.proofs.Placed.{next_there, next_not, next_past}
use Rattle.acc_present.proofs.counters.CounterList.next_near.Goals as goal

pub returns-in_default : goal.returns-in_default
returns-in_default c = next_past c.args.block c.args.from c.args.self.now.counters c.first_near-first.ensures.rising (sym c.in_default.is ∙ c.first_near-first.ensures.found)

pub returns-then-counter-block : goal.returns-then-counter-block
returns-then-counter-block c = next_there c.args.block c.args.from c.args.self.now.counters c.in-Some.counter c.first_near-first.ensures.rising (sym c.in-Some.is ∙ c.first_near-first.ensures.found) c.if-counter-block.true

pub returns-else-counter-block : goal.returns-else-counter-block
returns-else-counter-block c = next_not c.args.block c.args.from c.args.self.now.counters c.in-Some.counter c.first_near-first.ensures.rising (sym c.in-Some.is ∙ c.first_near-first.ensures.found) c.if-counter-block.false
