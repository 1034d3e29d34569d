use Rattle.std.proofs.Common.{◌≡◌, ap, ◌∙◌, None, List, rules}
use Rattle.std.specs.List.{slice_get}
use Rattle.acc_base.specs.Queues.{queue_at}
use Rattle.acc_base.specs.Devices.{OneDevice, view}
use Rattle.acc_clauses.specs.Words.{Transfer}
use Rattle.acc_table.proofs.Nothing.{queue_none}
use Rattle.acc_table.proofs.tables.Table.queued.Goals as goal

-- a device that is not there has what a new one has
pub returns-in_err-on : goal.returns-in_err-on
returns-in_err-on c =
    let none : slice_get (queue_at c.args.q (view c.args.device c.args.self.now.state).records.queues) c.args.place ≡ None = ap (λ (x : OneDevice). slice_get (queue_at c.args.q x.records.queues) c.args.place) c.in_err-on.ensures.new ∙ ap (λ (ts : List Transfer). slice_get ts c.args.place) (queue_none c.args.q) in
    rw none (search rules)
