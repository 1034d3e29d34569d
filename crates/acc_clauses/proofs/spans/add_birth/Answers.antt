use Rattle.std.proofs.Common.{ℕ, List, ◌≡◌, ◌++◌, ◌∷◌, [], sym, ap, subst, ◌∙◌}
use Rattle.std.specs.Prelude.{option_to_list}
use Rattle.std.proofs.lemmas.List.{append-nil}
use Rattle.acc_clauses.specs.Spans.{AreSpans}
use Rattle.acc_clauses.proofs.Spanned.{spans-push, spans-joined}
use Rattle.acc_clauses.proofs.spans.add_birth.Goals.{in-Some+in_default-joined, in_default}
use Rattle.acc_clauses.proofs.spans.add_birth.Goals as goal

pub returns-in-Some-joined-clause-spans : goal.returns-in-Some-joined-clause-spans
returns-in-Some-joined-clause-spans c =
    let front = c.pop.new.self in
    let both = c.in-Some-joined.both in
    let was = c.pop.ensures.items ∙ ap (λ o. front ++ option_to_list o) c.in-Some.is in
    λ births are. subst (λ (s : List (ℕ × ℕ)). AreSpans (births ++ c.args.birth ∷ []) s) (sym c.push.ensures.items) (spans-joined births front c.in-Some.last c.args.birth both c.in-Some-joined.ensures (rw was at are))

pub returns-clause-spans : goal.returns-clause-spans
returns-clause-spans c =
    let was : c.match-pop.spans ≡ c.args.spans.now = elim c.match-pop.branch [
      | in-Some+in_default-joined w ↦ w.spans-is ∙ w.push-in-Some.ensures.items ∙ ap (λ o. c.pop.new.self ++ option_to_list o) (sym w.in-Some.is) ∙ sym c.pop.ensures.items
      | in_default w ↦ w.spans-is ∙ sym (append-nil c.pop.new.self) ∙ ap (λ o. c.pop.new.self ++ option_to_list o) (sym w.in_default.is) ∙ sym c.pop.ensures.items
    ] in
    λ births are. subst (λ (s : List (ℕ × ℕ)). AreSpans (births ++ c.args.birth ∷ []) s) (sym c.push-2.ensures.items) (spans-push births c.match-pop.spans c.args.birth (rw (← was) at are))
