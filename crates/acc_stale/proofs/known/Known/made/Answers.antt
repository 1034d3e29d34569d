use Rattle.std.proofs.lemmas.Result.{on_ok_weaker}
use Rattle.acc_stale.proofs.Steps.{next_out, next_in}
use Rattle.acc_stale.proofs.known.Known.made.Goals as goal

pub returns-then-t-clause-next : goal.returns-then-t-clause-next
returns-then-t-clause-next c = on_ok_weaker c.copied_out.result (λ is q s. next_out q c.args.block c.behind-p.result c.args.t c.args.attached.now s c.args.self.now _ c.behind-p.ensures c.if-t.true is) c.copied_out.ensures.ok

pub returns-else-t-clause-next : goal.returns-else-t-clause-next
returns-else-t-clause-next c = on_ok_weaker c.copied_in.result (λ is q s. next_in q c.args.block c.behind-p.result c.args.t c.args.attached.now s c.args.self.now _ c.behind-p.ensures c.if-t.false is) c.copied_in.ensures.ok
