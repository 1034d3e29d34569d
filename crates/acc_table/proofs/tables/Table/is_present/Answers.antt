use Rattle.std.proofs.Common.{◌≡◌, ap, ◌∙◌, sym, subst, Bool}
use Rattle.std.specs.Prelude.{◌↔◌, IsTrue}
use Rattle.acc_clauses.specs.Words.{Found}
use Rattle.acc_base.specs.Limits.{limits_on}
use Rattle.acc_base.specs.Records.{State}
use Rattle.acc_base.specs.Ranges.{where_is}
use Rattle.acc_base.specs.Inside.{IsInsideOne}
use Rattle.acc_base.specs.Devices.{view}
use Rattle.acc_base.specs.Calls.{World}
use Rattle.acc_base.proofs.Accounted.{sound_on}
use Rattle.acc_table.specs.Queries.{is_inside}
use Rattle.acc_table.proofs.Answering.{present}
use Rattle.acc_table.proofs.tables.Table.is_present.Goals as goal

pub returns-clause-addresses : goal.returns-clause-addresses
returns-clause-addresses c =
    let w : World = c.args.self.now in
    let s : State = view c.args.device w.state in
    let value : c.is_inside.result ≡ is_inside (where_is c.args.section s.records.ranges) = c.is_inside.ensures ∙ ap (λ (found : Found). is_inside found) c.find.ensures.value in
    subst (λ (b : Bool). IsTrue b ↔ IsInsideOne c.args.section s.records.ranges) (sym value) (present (limits_on c.args.device w.limits) s c.args.section (sound_on w c.laws.ensures.accounted c.args.device))
