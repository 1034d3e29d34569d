use Rattle.std.proofs.Common.{◌≡◌, ap, ◌∙◌, None, rules}
use Rattle.acc_base.specs.Devices.{OneDevice, view}
use Rattle.acc_table.specs.Queries.{first_attached}
use Rattle.acc_table.proofs.Nothing.{attached_none}
use Rattle.acc_table.proofs.tables.Table.next_attached.Goals as goal

-- a device that is not there has what a new one has
pub returns-in_err-view : goal.returns-in_err-view
returns-in_err-view c =
    let none : first_attached c.args.section (view c.args.device c.args.self.now.state).records ≡ None = ap (λ (x : OneDevice). first_attached c.args.section x.records) c.in_err-view.ensures.new ∙ attached_none c.args.section in
    rw none (search rules)
