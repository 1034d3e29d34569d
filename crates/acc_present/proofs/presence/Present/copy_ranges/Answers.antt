use Rattle.std.proofs.Common.{List, ap, subst, ◌≡◌}
use Rattle.std.specs.Prelude.{IfOk}
use Rattle.acc_base.specs.declared.mappings.Range.{Range}
use Rattle.acc_present.specs.Present.{PresentState}
use Rattle.acc_present.proofs.presence.Present.copy_ranges.Goals as goal

pub returns-clause-ok : goal.returns-clause-ok
returns-clause-ok c = subst (λ (rs : List Range). IfOk c.copy_entries.result (λ copied. copied.items ≡ rs)) (ap (λ (p : PresentState). p.table.ranges) c.self.view_is) c.copy_entries.ensures.ok
