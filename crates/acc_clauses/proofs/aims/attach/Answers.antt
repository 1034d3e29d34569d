use Rattle.std.proofs.Common.{◌≡◌, ◌∙◌, sym, arith, inl, inr}
use Rattle.acc_base.proofs.Judged.{not_lent_says}
use Rattle.acc_base.specs.Pointers.{device_pointer, judge_attach}
use Rattle.acc_base.specs.Attachments.{attach}
use Rattle.acc_clauses.specs.Overlays.{records_after, state_after}
use Rattle.acc_clauses.proofs.AimsValued.{aligned}
use Rattle.acc_clauses.proofs.AimsJudged.{attach-absent, attach-untargeted, attach-targeted, attach-lent, attach-new, attach-full, attach-again}
use Rattle.acc_clauses.proofs.aims.attach.Goals.{After-count_after-count, then-count-eq0-via-then-count-eq0, then-count-eq0-via-else-count-eq0+then-value_after-target}
use Rattle.acc_clauses.proofs.aims.attach.Goals as goal

pub value_after-requires-clause-aligned : goal.value_after-requires-clause-aligned
value_after-requires-clause-aligned c = aligned c.args.view.now.limits c.args.n c.args.pointer c.requires.checked

pub returns-in_default : goal.returns-in_default
returns-in_default c = attach-absent c.args.view.now.limits c.args.n c.args.pointer c.args.draft.now c.args.view.now.state c.requires.planned c.requires.entering c.in_default.ensures

pub returns-in_default-address_after : goal.returns-in_default-address_after
returns-in_default-address_after c =
    attach-untargeted c.args.view.now.limits c.args.n c.args.pointer c.args.draft.now c.args.view.now.state c.requires.planned c.requires.entering c.host_pointer.result c.host_pointer.ensures c.in_default-address_after.ensures

pub returns-in_err-not_lent : goal.returns-in_err-not_lent
returns-in_err-not_lent c = grind (arith, attach-lent)

pub value_after-requires-clause-free : goal.value_after-requires-clause-free
value_after-requires-clause-free c = not_lent_says c.in-Some.block c.args.view.now.state.records.loans (sym c.in_ok-not_lent.ensures)

-- the pointer is attached as it stands in its block
there : (c : After-count_after-count) → judge_attach c.args.view.now.limits c.args.n c.args.pointer (state_after c.args.draft.now c.args.view.now.state)
    ≡ attach c.args.view.now.limits.counter_max c.args.n c.in-Some.block c.args.pointer c.in-Some-address_after.target (device_pointer c.in-Some.block c.args.pointer (state_after c.args.draft.now c.args.view.now.state)) (records_after c.args.draft.now c.args.view.now.state.records).attached
there c =
    attach-targeted c.args.view.now.limits c.args.n c.args.pointer c.args.draft.now c.args.view.now.state c.requires.planned c.requires.entering c.in-Some.block c.in-Some-address_after.target c.host_pointer.result c.in-Some.ensures c.host_pointer.ensures c.in-Some-address_after.ensures c.in_ok-not_lent.ensures

pub returns-then-count-eq0 : goal.returns-then-count-eq0
returns-then-count-eq0 c =
    let p = c.args.view.now in
    let count = c.count_after-count.ensures in
    attach-new p.limits.counter_max c.args.n c.in-Some.block c.args.pointer c.in-Some-address_after.target (device_pointer c.in-Some.block c.args.pointer (state_after c.args.draft.now p.state)) (records_after c.args.draft.now p.state.records).attached
    (elim c.then-count-eq0.branch [
      | then-count-eq0-via-then-count-eq0 w ↦ (let zero = w.if-count-eq0.true in inl (omega (arith, count, zero)))
      | then-count-eq0-via-else-count-eq0+then-value_after-target w ↦ (let other = w.if-value_after-target.true in let value = w.value_after.ensures in inr (λ same. other (value ∙ same)))
    ])
    ∙ sym (there (goal.at.returns-then-count-eq0 c).After-count_after-count)

pub returns-then-counter_max-count : goal.returns-then-counter_max-count
returns-then-counter_max-count c =
    let p = c.args.view.now in
    let count = c.count_after-count.ensures in
    attach-full p.limits.counter_max c.args.n c.in-Some.block c.args.pointer c.in-Some-address_after.target (device_pointer c.in-Some.block c.args.pointer (state_after c.args.draft.now p.state)) (records_after c.args.draft.now p.state.records).attached
    (λ none. c.if-count-eq0.false (count ∙ none)) (sym c.value_after.ensures ∙ c.if-value_after-target.false) (omega (arith, count, c.counter_max.ensures, c.if-counter_max-count.true))
    ∙ sym (there (goal.at.returns-then-counter_max-count c).After-count_after-count)

pub returns : goal.returns
returns c =
    let p = c.args.view.now in
    let count = c.count_after-count.ensures in
    attach-again p.limits.counter_max c.args.n c.in-Some.block c.args.pointer c.in-Some-address_after.target (device_pointer c.in-Some.block c.args.pointer (state_after c.args.draft.now p.state)) (records_after c.args.draft.now p.state.records).attached
    (λ none. c.if-count-eq0.false (count ∙ none)) (sym c.value_after.ensures ∙ c.if-value_after-target.false) (omega (arith, count, c.counter_max.ensures, c.if-counter_max-count.false))
    ∙ sym (there (goal.at.returns c).After-count_after-count)
