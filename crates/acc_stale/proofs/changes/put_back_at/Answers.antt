use Rattle.std.proofs.Common.{refl, arith, ◌≡◌, ◌+◌, ◌<◌, length}
use Rattle.acc_base.specs.Attachments.{pointer_at}
use Rattle.acc_base.specs.Section.{covers}
use Rattle.acc_stale.proofs.Kept.{between, between_none, kept_none, kept_suc, kept_same, pointer_between}
use Rattle.acc_stale.proofs.changes.put_back_at.Goals as goal

pub loop-place-init : goal.loop-place-init
loop-place-init c = kept_none (between c.min-from.result c.min-from.result) c.args.kept.now c.args.section.now (between_none c.min-from.result)

pub loop-place-preserved : goal.loop-place-preserved
loop-place-preserved c =
    let in_section : c.loop-place.place < length c.loop-place.section = grind (arith, c.loop-place.auto.section, c.loop-place-test.true, c.min-end.ensures) in
    kept_suc c.min-from.result c.loop-place.place c.args.kept.now c.args.section.now c.loop-place.section _ c.loop-place.auto.place in_section refl c.loop-place.invariant

pub returns : goal.returns
returns c =
    let here : c.loop-place.place ≡ c.min-end.result = grind (arith, c.loop-place.auto.place-end, c.loop-place-test.false, c.min-from.ensures) in
    kept_same (between c.min-from.result c.loop-place.place) (λ place. covers (pointer_at c.args.pointer) (c.args.start + place)) c.args.kept.now c.args.section.now c.loop-place.section
    (λ k h. pointer_between c.args.start c.args.pointer (length c.args.section.now) c.min-from.result c.min-end.result c.loop-place.place k (grind arith) (grind arith) here h)
    c.loop-place.invariant
