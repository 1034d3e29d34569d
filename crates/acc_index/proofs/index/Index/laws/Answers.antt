use Rattle.acc_index.proofs.Indexing.{entries_rise}
use Rattle.acc_index.proofs.index.Index.laws.Goals as goal

pub returns-clause-rising : goal.returns-clause-rising
returns-clause-rising g c = rw (← c.self.view_is) (entries_rise c.self.inside.items.items c.self.invariant.0)
