use Rattle.std.proofs.Common.{◌≡◌, ◌∙◌, subst}
use Rattle.lamwiest_c.specs.Environments.{DataEnvironment}
use Rattle.lamwiest_c.specs.Statuses.{IsAnswered}
use Rattle.lamwiest_c.specs.Named.{directive_named, IsDryRun}
use Rattle.lamwiest_c.proofs.Judged.{told_of}
use Rattle.lamwiest_c.proofs.named.lamwiest_judge.Goals as goal

pub returns : goal.returns
returns c =
    told_of c.args.table.now.value c.put_back.new.handle.value c.in-Some.environment.value c.judge_named-made.new.self (directive_named c.args.asked.now c.args.items.now) c.judge_named-made.result (IsAnswered c.tell-2.result c.tell-2.new.fault)
    c.in-Some.ensures.had c.put_back.ensures
    (subst (λ (e : DataEnvironment). IsDryRun e (directive_named c.args.asked.now c.args.items.now) (λ r. c.judge_named-made.result ≡ r)) c.deref_mut.ensures.value c.judge_named-made.ensures.judged)
    (c.judge_named-made.ensures.same ∙ c.deref_mut.ensures.value)
    (c.tell-2.ensures.status, c.tell-2.ensures.fields)
