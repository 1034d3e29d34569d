use Rattle.std.proofs.Common.{refl, ◌≡◌, subst, ◌∙◌, length, replicate, ℕ, arith}
use Rattle.acc_base.specs.Queues.{queue_at}
use Rattle.acc_stale.specs.Tells.{IsDrained}
use Rattle.acc_stale.proofs.Draining.{none_drained, turn_drained, as_many, others_then}
use Rattle.acc_stale.proofs.trackers.Tracker.made_all.Goals as goal

pub loop-init : goal.loop-init
loop-init g c = record { drained = λ k s follows sound low. none_drained c.args.device s c.args.self.now follows; others = λ e w other follows. follows; regions = refl }

pub loop-preserved : goal.loop-preserved
loop-preserved g c = record {
  drained = λ k s follows sound low. turn_drained k c.args.device c.args.queue c.loop.counter s c.args.self.now c.loop.self c.made.new.self sound (c.loop.invariant.drained k s follows sound low) (λ v f h. c.in_ok-made.ensures.drained k v f h low);
  others = others_then c.args.device c.args.self.now.account c.loop.self.account c.made.new.self.account c.loop.invariant.others c.in_ok-made.ensures.others;
  regions = c.in_ok-made.ensures.regions ∙ c.loop.invariant.regions;
}

pub returns-clause-drained : goal.returns-clause-drained
returns-clause-drained g c l s follows sound low =
    let end : c.loop.counter ≡ c.count_in-end.result = grind (arith, c.loop.auto.counter-end, c.loop-test.false) in
    let many : c.loop.counter ≡ length (queue_at c.args.queue s.records.queues) = as_many c.args.device c.args.queue c.args.self.now.account s.records c.loop.counter (end ∙ c.count_in-end.ensures) low follows in
    subst (λ (n : ℕ). IsDrained c.args.device (replicate n c.args.queue) s c.args.self.now c.loop.self) many (c.loop.invariant.drained l s follows sound low)
