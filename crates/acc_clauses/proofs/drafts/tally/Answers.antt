use Rattle.std.proofs.Common.{◌∙◌, ◌++◌, ◌∷◌, [], refl, sym, ap, subst, true, false, ◌<◌, length, arith, rules}
use Rattle.std.proofs.lemmas.List.{append-nil}
use Rattle.acc_base.specs.declared.items.Section.{Section}
use Rattle.acc_base.specs.declared.events.Step.TheVariants.{Nothing, Counted, Dropped, Moved}
use Rattle.acc_clauses.specs.Overlays.{births_of}
use Rattle.acc_clauses.specs.Spans.{AreSpans}
use Rattle.acc_clauses.proofs.Drafted.{drafted, drafted_birth, few_lens}
use Rattle.acc_clauses.proofs.drafts.tally.Goals as goal

pub push-requires : goal.push-requires
push-requires c = (search rules, few_lens c.args.acts.now _ _ _ c.requires.draft c.requires.few)

pub add_birth-requires : goal.add_birth-requires
add_birth-requires c = let few : length c.args.lens.now < 64 = few_lens c.args.acts.now _ _ _ c.requires.draft c.requires.few in omega (arith, c.requires.draft.few_spans, few)

pub returns-in-Born : goal.returns-in-Born
returns-in-Born c =
    let acts = c.args.acts.now in
    let place = c.in-Born.place in
    let spans = c.add_birth.new.spans in
    drafted_birth acts c.args.x c.in-Born.block place _ _ c.args.spans.now spans c.args.ended.now c.requires.draft c.requires.few c.in-Born.is (rw c.section-len.ensures at c.push.ensures.items)
    (subst (λ (s : Section). AreSpans (births_of acts ++ (place, s.len) ∷ []) spans) c.section-len.ensures (c.add_birth.ensures.spans (births_of acts) c.requires.draft.spans_are))
    c.add_birth.ensures.few

pub returns-then-over : goal.returns-then-over
returns-then-over c =
    let over = c.if-over.true in
    drafted _ _ _ _ _ _ (Dropped c.in-Dropped.block true) c.requires.draft c.requires.few (c.in-Dropped.is ∙ ap (λ b. Dropped c.in-Dropped.block b) over) refl c.push-then-over.ensures.items

pub returns-else-over : goal.returns-else-over
returns-else-over c =
    let over = c.if-over.false in
    drafted _ _ _ _ _ _ (Dropped c.in-Dropped.block false) c.requires.draft c.requires.few (c.in-Dropped.is ∙ ap (λ b. Dropped c.in-Dropped.block b) over) refl (sym (append-nil _))

pub returns-in-Nothing : goal.returns-in-Nothing
returns-in-Nothing c = drafted _ _ _ _ _ _ Nothing c.requires.draft c.requires.few c.in-Nothing.is refl (sym (append-nil _))

pub returns-in-Counted : goal.returns-in-Counted
returns-in-Counted c = drafted _ _ _ _ _ _ (Counted c.in-Counted.block) c.requires.draft c.requires.few c.in-Counted.is refl (sym (append-nil _))

pub returns-in-Moved : goal.returns-in-Moved
returns-in-Moved c = drafted _ _ _ _ _ _ (Moved c.in-Moved.block) c.requires.draft c.requires.few c.in-Moved.is refl (sym (append-nil _))
