use Rattle.std.proofs.Common.{◌≡◌, subst}
use Rattle.lamwiest_c.specs.Environments.{DataEnvironment}
use Rattle.lamwiest_c.specs.Statuses.{IsNumberAnswered}
use Rattle.lamwiest_c.specs.Answers.{IsAsked}
use Rattle.lamwiest_c.specs.Named.{directive_named}
use Rattle.lamwiest_c.proofs.Judged.{asked_of}
use Rattle.lamwiest_c.proofs.named.lamwiest_do.Goals as goal

pub returns : goal.returns
returns c =
    asked_of c.args.table.now.value c.put_back.new.handle.value c.in-Some.environment.value c.do_named-made.new.self (directive_named c.args.asked.now c.args.items.now) c.do_named-made.result (IsNumberAnswered c.tell_number-2.result c.tell_number-2.new.fault c.args.number.now c.tell_number-2.new.number)
    c.in-Some.ensures.had c.put_back.ensures
    (subst (λ (e : DataEnvironment). IsAsked e (directive_named c.args.asked.now c.args.items.now) (λ r. c.do_named-made.result ≡ r) c.do_named-made.new.self) c.deref_mut.ensures.value c.do_named-made.ensures)
    (c.tell_number-2.ensures.status, c.tell_number-2.ensures.fields, c.tell_number-2.ensures.number)
