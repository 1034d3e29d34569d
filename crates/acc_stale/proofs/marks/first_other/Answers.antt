use Rattle.std.proofs.Common.{sym, ◌∙◌, not}
use Rattle.acc_stale.specs.Marks.{is_mark}
use Rattle.acc_stale.proofs.Found.{none_found}
use Rattle.acc_stale.proofs.marks.first_other.Goals as goal

pub returns-then-not-has_other : goal.returns-then-not-has_other
returns-then-not-has_other c = sym (none_found (λ m. not (is_mark c.args.mark m)) c.args.marks.now (sym c.has_other.ensures ∙ c.if-not-has_other.true))
