use Rattle.std.proofs.Common.{sym, ap, ◌∙◌, length}
use Rattle.acc_base.specs.Queues.{queue_at}
use Rattle.acc_base.specs.Devices.{OneDevice}
use Rattle.acc_clauses.specs.Words.{Transfer}
use Rattle.std.proofs.Common.{List}
use Rattle.acc_table.proofs.Nothing.{queue_none}
use Rattle.acc_table.proofs.tables.Table.queue_len.Goals as goal

-- a device that is not there has what a new one has
pub returns-in-None : goal.returns-in-None
returns-in-None c = sym (ap (λ (x : OneDevice). length (queue_at c.args.q x.records.queues)) c.in-None.ensures.new ∙ ap (λ (ts : List Transfer). length ts) (queue_none c.args.q))
