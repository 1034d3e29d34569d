use Rattle.std.proofs.Common.{◌≡◌, ◌∙◌, sym, ap}
use Rattle.acc_base.specs.Calls.{World}
use Rattle.acc_table.specs.declared.tables.TableData.{TableData}
use Rattle.acc_table.proofs.Compared.{limits_same, told}
use Rattle.acc_table.proofs.tables.Table.is_same_as.Goals as goal

pub returns-clause-ok : goal.returns-clause-ok
returns-clause-ok c =
    let one = ap (λ (t : TableData). t.config) c.deref.ensures ∙ ap (λ (w : World). w.limits) c.self.view_is in
    let two = ap (λ (t : TableData). t.config) c.deref-2.ensures ∙ ap (λ (w : World). w.limits) c.other.view_is in
    let limits : c.args.other.now.limits ≡ c.args.self.now.limits = sym two ∙ (limits_same c.deref.result.now.config c.deref-2.result.now.config c.laws.ensures.first c.laws-2.ensures.first c.if-ne.ensures ∙ one) in
    told c.eq.result c.args.self.now c.args.other.now c.in_ok-saved.field-0 c.in_ok-saved-2.field-0 limits c.in_ok-saved.ensures.ok c.in_ok-saved-2.ensures.ok c.eq.ensures.exact
