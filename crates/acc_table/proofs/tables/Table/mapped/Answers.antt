use Rattle.std.proofs.Common.{◌≡◌, sym, subst, Some, rules}
use Rattle.acc_base.specs.Limits.{limits_on}
use Rattle.acc_base.specs.Records.{State}
use Rattle.acc_base.specs.Devices.{view}
use Rattle.acc_base.specs.Calls.{World}
use Rattle.acc_base.proofs.Accounted.{sound_on}
use Rattle.acc_table.specs.Queries.{mapped_from, IsLeastFrom}
use Rattle.acc_table.proofs.Answering.{least_from}
use Rattle.acc_table.proofs.tables.Table.mapped.Goals as goal

pub returns-in_err-mapped-clause-least : goal.returns-in_err-mapped-clause-least
returns-in_err-mapped-clause-least c =
    let w : World = c.args.self.now in
    let s : State = view c.args.device w.state in
    let value : c.from_residual.result ≡ mapped_from c.args.from s.records = search rules in
    subst (IsLeastFrom c.args.from s.records.ranges) (sym value) (least_from (limits_on c.args.device w.limits) s c.args.from (sound_on w c.laws.ensures.accounted c.args.device))

pub returns-clause-least : goal.returns-clause-least
returns-clause-least c =
    let w : World = c.args.self.now in
    let s : State = view c.args.device w.state in
    let value : Some c.in_ok-mapped.mapped ≡ mapped_from c.args.from s.records = search rules in
    subst (IsLeastFrom c.args.from s.records.ranges) (sym value) (least_from (limits_on c.args.device w.limits) s c.args.from (sound_on w c.laws.ensures.accounted c.args.device))
