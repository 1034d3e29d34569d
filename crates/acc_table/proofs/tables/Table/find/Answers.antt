use Rattle.std.proofs.Common.{◌≡◌, ap, ◌∙◌, sym, subst}
use Rattle.acc_clauses.specs.Words.{Found}
use Rattle.acc_base.specs.Limits.{limits_on}
use Rattle.acc_base.specs.Records.{State}
use Rattle.acc_base.specs.Ranges.{where_is, IsPlacedAt}
use Rattle.acc_base.specs.Devices.{view}
use Rattle.acc_base.specs.Calls.{World}
use Rattle.acc_base.proofs.Accounted.{sound_on}
use Rattle.acc_clauses.specs.Devices.{Seen}
use Rattle.acc_table.proofs.Answering.{placed}
use Rattle.acc_table.proofs.tables.Table.find.Goals as goal

pub returns-in-Some-clause-addresses : goal.returns-in-Some-clause-addresses
returns-in-Some-clause-addresses c =
    let w : World = c.args.self.now in
    let s : State = view c.args.device w.state in
    let value : c.find.result ≡ where_is c.args.section s.records.ranges = c.find.ensures ∙ ap (λ (v : Seen). where_is c.args.section v.state.records.ranges) c.in-Some.ensures.there in
    subst (λ (found : Found). IsPlacedAt c.args.section s.records.ranges found) (sym value) (placed (limits_on c.args.device w.limits) s c.args.section (sound_on w c.laws.ensures.accounted c.args.device))
