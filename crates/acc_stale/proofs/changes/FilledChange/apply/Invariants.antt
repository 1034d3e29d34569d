use Rattle.std.proofs.Common.{◌≡◌}
use Rattle.acc_stale.specs.Marks.{filled}
use Rattle.acc_stale.proofs.Turns.{changed_from}
use Rattle.acc_stale.proofs.changes.FilledChange.apply.Given as goal

abbrev pub invariant-loop-mark : goal.invariant-loop-mark
invariant-loop-mark l = l.section ≡ changed_from (filled l.self.0) 0 l.mark-index l.initial.section
