use Rattle.std.proofs.Common.{◌≡◌, ℕ, sym, subst, Ok, Option}
use Rattle.std.proofs.lemmas.Result.{on_ok_weaker}
use Rattle.acc_base.specs.Queues.{queue_named}
use Rattle.acc_base.specs.Waits.{steps_of}
use Rattle.acc_stale.specs.Tells.{IsDrained}
use Rattle.acc_stale.proofs.Draining.{known_queue}
use Rattle.acc_stale.proofs.trackers.Tracker.waited.Goals as goal

pub returns-in-Some-clause-drained : goal.returns-in-Some-clause-drained
returns-in-Some-clause-drained g c = on_ok_weaker c.made_all.result (λ drained l s follows sound named.
    subst (λ (q : Option ℕ). IsDrained c.args.device (steps_of q s.records.queues) s c.args.self.now c.made_all.new.self) (sym c.in-Some.is) (drained l s follows sound (known_queue c.in-Some.queue (subst (λ (q : Option ℕ). queue_named q ≡ Ok tt) c.in-Some.is named)))) c.made_all.ensures.drained

pub returns-in-None-clause-drained : goal.returns-in-None-clause-drained
returns-in-None-clause-drained g c = on_ok_weaker c.made_each.result (λ drained l s follows sound named.
    subst (λ (q : Option ℕ). IsDrained c.args.device (steps_of q s.records.queues) s c.args.self.now c.made_each.new.self) (sym c.in-None.is) (drained l s follows sound)) c.made_each.ensures.drained
