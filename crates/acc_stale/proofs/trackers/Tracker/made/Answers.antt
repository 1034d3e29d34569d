use Rattle.std.proofs.Common.{◌∙◌, subst, sym, refl, ap, ◌∷◌, [], ℕ, List}
use Rattle.acc_base.specs.declared.attachments.Attachment.{Attachment}
use Rattle.acc_stale.specs.Events.{known_drained}
use Rattle.acc_stale.specs.Told.{IsNextTold}
use Rattle.acc_stale.specs.Tells.{IsMadeTold}
use Rattle.acc_stale.proofs.Draining.{one_drained, empty_drained}
use Rattle.acc_stale.proofs.trackers.Tracker.made.Goals as goal

pub returns-in_ok-made-clause-drained : goal.returns-in_ok-made-clause-drained
returns-in_ok-made-clause-drained g c l s follows sound low =
    let told = subst (λ o. IsMadeTold c.args.device c.args.queue o s) c.in-Some.is (c.in_ok-next.ensures.told l s follows sound low) in
    let next : IsNextTold c.args.queue c.in-Some.next.block c.in-Some.next.transfer c.deref.result.now s = subst (λ (xs : List Attachment). IsNextTold c.args.queue c.in-Some.next.block c.in-Some.next.transfer xs s) (sym c.deref.ensures.value) told.1 in
    let known = c.in_ok-made.ensures.next c.args.queue s next in
    one_drained c.args.device c.args.queue s c.args.self.now _ (known ∙ ap (λ (d : ℕ). known_drained d (c.args.queue ∷ []) s c.args.self.now.known) told.0) (c.in_ok-next.ensures.follows l s follows sound low)

pub returns-in_default-clause-drained : goal.returns-in_default-clause-drained
returns-in_default-clause-drained g c l s follows sound low =
    let none = subst (λ o. IsMadeTold c.args.device c.args.queue o s) c.in_default.is (c.in_ok-next.ensures.told l s follows sound low) in
    empty_drained c.args.device c.args.queue s c.args.self.now _ none refl (c.in_ok-next.ensures.follows l s follows sound low)
