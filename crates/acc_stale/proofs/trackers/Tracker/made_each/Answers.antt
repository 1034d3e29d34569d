use Rattle.std.proofs.Common.{◌∙◌, refl, ◌≡◌, ◌+◌, suc, subst, take, ℕ, arith}
use Rattle.acc_base.specs.declared.transfers.TheConstants.{QUEUE_COUNT}
use Rattle.acc_base.specs.Waits.{steps_from}
use Rattle.acc_stale.specs.Tells.{IsDrained}
use Rattle.acc_stale.proofs.Draining.{none_drained, queue_turn, all_drained, others_then}
use Rattle.acc_stale.proofs.trackers.Tracker.made_each.Goals as goal

pub loop-queue-init : goal.loop-queue-init
loop-queue-init g c = record { drained = λ k s follows sound. none_drained c.args.device s c.args.self.now follows; others = λ e w other follows. follows; regions = refl }

pub loop-queue-preserved : goal.loop-queue-preserved
loop-queue-preserved g c = record {
  drained = λ k s follows sound. subst (λ (n : ℕ). IsDrained c.args.device (steps_from 0 (take n s.records.queues)) s c.args.self.now c.made_all.new.self) (next c.loop-queue.queue)
      (queue_turn k c.args.device c.loop-queue.queue s c.args.self.now c.loop-queue.self c.made_all.new.self sound c.loop-queue-test.true (c.loop-queue.invariant.drained k s follows sound) (λ v f h. c.in_ok-made_all.ensures.drained k v f h c.loop-queue-test.true));
  others = others_then c.args.device c.args.self.now.account c.loop-queue.self.account c.made_all.new.self.account c.loop-queue.invariant.others c.in_ok-made_all.ensures.others;
  regions = c.in_ok-made_all.ensures.regions ∙ c.loop-queue.invariant.regions;
}
  where
    next : (n : ℕ) → suc n ≡ n + 1
    next n = omega arith

pub returns-clause-drained : goal.returns-clause-drained
returns-clause-drained g c l s follows sound =
    let end : c.loop-queue.queue ≡ QUEUE_COUNT = grind (arith, c.loop-queue.auto.queue-end, c.loop-queue-test.false) in
    all_drained l c.args.device c.loop-queue.queue s c.args.self.now c.loop-queue.self sound end (c.loop-queue.invariant.drained l s follows sound)
