use Rattle.std.proofs.Common.{◌≡◌, ap, ◌∙◌, None, rules}
use Rattle.acc_base.specs.Devices.{OneDevice, view}
use Rattle.acc_table.specs.Queries.{counters_of_section}
use Rattle.acc_table.proofs.Nothing.{counters_none}
use Rattle.acc_table.proofs.tables.Table.counters.Goals as goal

-- a device that is not there has what a new one has
pub returns-in_err-view : goal.returns-in_err-view
returns-in_err-view c =
    let none : counters_of_section c.args.section (view c.args.device c.args.self.now.state).records ≡ None = ap (λ (x : OneDevice). counters_of_section c.args.section x.records) c.in_err-view.ensures.new ∙ counters_none c.args.section in
    rw none (search rules)
