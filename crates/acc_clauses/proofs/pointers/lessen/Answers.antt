use Rattle.std.proofs.Common.{refl, sym, ◌∙◌}
use Rattle.acc_clauses.specs.Contents.{beside}
use Rattle.acc_clauses.proofs.Changes.{beside_both}
use Rattle.acc_clauses.proofs.Aiming.{not_left_zero, zero_aims, less_aims}
use Rattle.acc_clauses.proofs.pointers.lessen.Goals as goal

pub returns-in-Zero : goal.returns-in-Zero
returns-in-Zero c = record {
  aimed = zero_aims c.args.pointer c.args.block (beside c.args.environment.now c.args.host.now) (beside c.write_back.new.environment c.args.host.now) c.detach.new.self c.requires.can (sym c.in-Zero.is ∙ c.detach.ensures.left)
      c.detach.ensures.attached c.detach.ensures.counter_max c.detach.ensures.spare (beside_both c.write_back.ensures refl) c.requires.marked;
}

pub returns-in-Nothing : goal.returns-in-Nothing
returns-in-Nothing c = record {
  aimed = less_aims c.args.pointer c.args.block (beside c.args.environment.now c.args.host.now) c.detach.new.self c.requires.can (λ zero. not_left_zero c.detach.result c.in-Nothing.is (zero ∙ sym c.detach.ensures.left)) c.detach.ensures.attached c.detach.ensures.counter_max c.detach.ensures.spare c.requires.marked;
}
