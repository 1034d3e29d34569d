use Rattle.std.proofs.Common.{Some, refl}
use Rattle.acc_read.proofs.clauses.queued.Goals as goal

pub returns : goal.returns
returns g c = λ before h. (
  record before { queue = Some c.in_ok-queue.queue },
  rw (← h.queue, ← c.is_some.ensures, c.if-is_some.false, c.in_ok-queue.ensures) refl,
  record { items = h.items; has_option = h.has_option; queue = refl },
)
