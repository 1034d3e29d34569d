use Rattle.std.proofs.Common.{◌≡◌, ◌+◌, subst, List, ◌∙◌}
use Rattle.acc_base.specs.Attachments.{is_skipped}
use Rattle.acc_stale.specs.declared.marks.Mark.{Mark}
use Rattle.acc_stale.specs.Marks.{each, IsKept}
use Rattle.acc_stale.proofs.Kept.{beside_kept}
use Rattle.acc_stale.proofs.changes.change_beside.Goals as goal

pub returns-clause-ok : goal.returns-clause-ok
returns-clause-ok g c =
    let kept : c.deref.result.now ≡ c.args.section.now = c.deref.ensures.value ∙ c.in_ok-kept.ensures.items in
    let skips = λ (k : List Mark) (s : List Mark). IsKept (λ place. is_skipped c.args.pointers.block c.args.pointers.attached.now (c.args.pointers.start + place)) k s c.put_back.new.section in
    beside_kept c.args.pointers.block c.args.pointers.attached.now c.args.pointers.start (g.C.Change.change c.args.change.now) c.args.section.now c.put_back.new.section
    (subst (λ (k : List Mark). skips k (each (g.C.Change.change c.args.change.now) c.args.section.now)) kept
    (subst (λ (s : List Mark). skips c.deref.result.now s) c.apply-2.ensures c.put_back.ensures))
