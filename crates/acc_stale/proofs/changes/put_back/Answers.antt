use Rattle.std.proofs.Common.{refl, sym, subst, arith, ◌≡◌, ◌+◌, ℕ, List, take}
use Rattle.std.proofs.lemmas.Grind.{common_steps}
use Rattle.acc_base.specs.declared.attachments.Attachment.{Attachment}
use Rattle.acc_base.specs.Attachments.{is_skipped}
use Rattle.acc_stale.specs.declared.marks.Mark.{Mark}
use Rattle.acc_stale.specs.Marks.{IsKept}
use Rattle.acc_stale.proofs.Kept.{kept_none, kept_more, kept_other}
use Rattle.acc_stale.proofs.changes.put_back.Goals as goal
use Rattle.acc_stale.proofs.changes.put_back.Goals.{then-a-pointers, else-a-pointers}

pub loop-a-init : goal.loop-a-init
loop-a-init c = kept_none (λ place. is_skipped c.args.pointers.block (take 0 c.args.pointers.attached.now) (c.args.pointers.start + place)) c.args.kept.now c.args.section.now (λ k. refl)

pub loop-a-preserved : goal.loop-a-preserved
loop-a-preserved c =
    let test : ℕ → List Mark → Type 0 = λ n s. IsKept (λ place. is_skipped c.args.pointers.block (take n c.args.pointers.attached.now) (c.args.pointers.start + place)) c.args.kept.now c.args.section.now s in
    elim c.if-a-pointers.branch [
      | then-a-pointers w ↦ subst (test (c.loop-a.a-index + 1)) (sym w.section-is) (kept_more c.args.pointers.block c.args.pointers.start c.loop-a.a-index c.args.pointers.attached.now _ c.args.kept.now c.args.section.now c.loop-a.section _ c.loop-a-test.true w.if-a-pointers.true c.loop-a.invariant w.put_back_at.ensures)
      | else-a-pointers w ↦ subst (test (c.loop-a.a-index + 1)) (sym w.section-is) (kept_other c.args.pointers.block c.args.pointers.start c.loop-a.a-index c.args.pointers.attached.now _ c.args.kept.now c.args.section.now c.loop-a.section c.loop-a-test.true w.if-a-pointers.false c.loop-a.invariant)
    ]

pub returns : goal.returns
returns c =
    let all : take c.loop-a.a-index c.args.pointers.attached.now ≡ c.args.pointers.attached.now = grind (arith, common_steps) in
    subst (λ (xs : List Attachment). IsKept (λ place. is_skipped c.args.pointers.block xs (c.args.pointers.start + place)) c.args.kept.now c.args.section.now c.loop-a.section) all c.loop-a.invariant
