use Rattle.std.proofs.Common.{◌≡◌, ◌+◌, refl, sym, subst, ◌∙◌, ℕ, List, Option}
use Rattle.lamwiest_c.specs.declared.dids.RawDid.{RawDid}
use Rattle.lamwiest_c.specs.Dids.{did_at, told_over}
use Rattle.lamwiest_c.proofs.Telling.{told_so_far, told_more, told_nothing, told_all}
use Rattle.lamwiest_c.proofs.dids.tell_all.Goals.{in-Some, in-None}
use Rattle.lamwiest_c.proofs.dids.tell_all.Goals as goal

pub loop-place-init : goal.loop-place-init
loop-place-init c = refl

pub loop-place-preserved : goal.loop-place-preserved
loop-place-preserved c =
    let told : ℕ → Option RawDid = λ place. did_at place c.args.table.now in
    let at = c.loop-place.place in
    let old = c.loop-place.dids in
    let so_far = λ (dids : List RawDid). told_so_far told (at + 1) (at + 1) dids ≡ told_over told 0 c.args.dids.now in
    elim c.match-did_at.branch [
      | in-Some w ↦ subst so_far (sym w.dids-is) (told_more told at at old w.in-Some.told c.loop-place-test.true (sym c.did_at.ensures ∙ w.in-Some.is) ∙ c.loop-place.invariant)
      | in-None w ↦ subst so_far (sym w.dids-is) (told_nothing told at at old c.loop-place-test.true (sym c.did_at.ensures ∙ w.in-None.is) ∙ c.loop-place.invariant)
    ]

pub returns : goal.returns
returns c = sym (told_all (λ place. did_at place c.args.table.now) c.loop-place.place c.loop-place.place c.loop-place.dids c.loop-place-test.false) ∙ c.loop-place.invariant
