use Rattle.std.proofs.Common.{sym, subst, refl}
use Rattle.acc_base.specs.declared.attachments.Aim.{Aim}
use Rattle.acc_clauses.specs.Acts.{IsAimedBy, CanAim}
use Rattle.acc_clauses.specs.Contents.{beside, bare_state}
use Rattle.acc_clauses.proofs.Changes.{beside_both}
use Rattle.acc_clauses.proofs.Aiming.{none_aims, new_aims, again_aims, cleared_aims}
use Rattle.acc_clauses.proofs.pointers.aim_on.Goals as goal

pub returns-in-None : goal.returns-in-None
returns-in-None c = let x = beside c.args.environment.now c.args.host.now in record { aimed = subst (λ (a : Aim). IsAimedBy a x x) (sym c.in-None.is) (none_aims x c.requires.marked) }

pub returns-in-New : goal.returns-in-New
returns-in-New c =
    let x = beside c.args.environment.now c.args.host.now in
    let y = beside c.write_target.new.environment c.args.host.now in
    let n = c.in-New in
    let b = c.aim_reserved.new.self in
    record {
      aimed = subst (λ (a : Aim). IsAimedBy a x (record y { attached = b })) (sym n.is)
          (new_aims n.pointer n.block n.target x y _ b (beside_both c.write_target.ensures refl) (λ next. refl) c.aim_reserved.ensures.attached c.aim_reserved.ensures.counter_max c.aim_reserved.ensures.spare c.requires.marked);
    }

pub returns-in-Again : goal.returns-in-Again
returns-in-Again c =
    let x = beside c.args.environment.now c.args.host.now in
    let b = c.aim_again.new.self in
    record {
      aimed = subst (λ (a : Aim). IsAimedBy a x (record x { attached = b })) (sym c.in-Again.is)
          (again_aims c.in-Again.pointer c.in-Again.block x b c.aim_again.ensures.attached c.aim_again.ensures.counter_max c.aim_again.ensures.spare c.requires.marked);
    }

pub returns-in-Cleared : goal.returns-in-Cleared
returns-in-Cleared c =
    let x = beside c.args.environment.now c.args.host.now in
    let y = beside c.write_back.new.environment c.args.host.now in
    let n = c.in-Cleared in
    let b = c.detach_now.new.self in
    let can = subst (λ (a : Aim). CanAim x.attached.counter_max a (bare_state x)) n.is c.requires.can in
    record {
      aimed = subst (λ (a : Aim). IsAimedBy a x (record y { attached = b })) (sym n.is)
          (cleared_aims n.pointer n.block x y b can (beside_both c.write_back.ensures refl) c.detach_now.ensures.attached c.detach_now.ensures.counter_max c.detach_now.ensures.spare c.requires.marked);
    }
