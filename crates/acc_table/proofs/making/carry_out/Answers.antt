use Rattle.std.proofs.Common.{ℕ, ◌≡◌, sym, ◌∙◌, ap, subst, List, Some, [], ◌∷◌, ◌++◌}
use Rattle.acc_clauses.specs.Words.{Did, Event}
use Rattle.acc_base.specs.Limits.{Limits}
use Rattle.acc_base.specs.Judge.{Verdict, Makes, verdict_of}
use Rattle.acc_clauses.specs.Contents.{Contents}
use Rattle.acc_clauses.specs.Devices.{contents_with}
use Rattle.acc_clauses.specs.Planned.{in_written_order, state_by}
use Rattle.acc_table.specs.Making.{number_told, event_told, IsCommitted}
use Rattle.acc_table.proofs.Verdicts.{told, replied}
use Rattle.acc_table.proofs.making.carry_out.Goals as goal

pub returns-in-Ok-Some-clause-done : goal.returns-in-Ok-Some-clause-done
returns-in-Ok-Some-clause-done c =
    let e = c.in-Ok-Some.ensures in
    let k : ℕ = c.args.device.now.limits.number in
    let d = c.args.directive in
    let old : Contents = contents_with c.args.device.now c.args.shared.now in
    let new : Contents = contents_with c.enact.new.device c.enact.new.shared in
    let s = old.state in
    let dids : List Did = c.enact.new.plan.dids in
    let did : List Did = c.list_of-did.result in
    let own : c.number.result ≡ k = c.number.ensures ∙ ap (λ (l : Limits). l.number) e.limits in
    let number : number_told d s ≡ Some c.in-Ok-Some.number = sym (rw c.in-Ok-Some.field-0-is at e.number) ∙ ap Some (sym c.in-Ok-Some.number-is) in
    let written : c.list_of-did.result ≡ in_written_order d dids = c.list_of-did.ensures ∙ ap (in_written_order d) c.acts.ensures.dids in
    let made : verdict_of k d s dids ≡ Makes (event_told k d c.in-Ok-Some.number did) = told k d s dids c.in-Ok-Some.number number ∙ ap (λ ds. Makes (event_told k d c.in-Ok-Some.number ds)) (sym written) in
    let event : c.event_told.result ≡ event_told k d c.in-Ok-Some.number did = c.event_told.ensures ∙ ap (λ m. event_told m d c.in-Ok-Some.number did) own in
    subst (λ (v : Verdict). IsCommitted v c.reply_told-reply.result old new c.args.trace.now.items c.push_reserved.new.self.items) (sym made) (record {
      reply = c.reply_told-reply.ensures d c.kind_of-kind.ensures ∙ replied k d c.in-Ok-Some.number did s;
      limits = e.limits;
      state = e.state ∙ ap (λ (v : Verdict). state_by old.limits.full v s) made;
      trace = c.push_reserved.ensures.items ∙ (ap (λ (es : List Event). es ++ c.event_told.result ∷ []) e.trace ∙ ap (λ (x : Event). c.args.trace.now.items ++ x ∷ []) event);
    })
