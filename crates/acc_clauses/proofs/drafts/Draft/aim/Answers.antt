use Rattle.std.proofs.Common.{◌∙◌, ap, ◌++◌, arith}
use Rattle.std.specs.Prelude.{option_to_list}
use Rattle.acc_clauses.proofs.Drafted.{drafted_aimed, pointers_in-push}
use Rattle.acc_clauses.specs.Overlays.{with_aim}
use Rattle.acc_clauses.proofs.Outlining.{outlined_aimed}
use Rattle.acc_clauses.proofs.drafts.Draft.aim.Goals as goal

pub invariant_of-self : goal.invariant_of-self
invariant_of-self c =
    let was = c.pop.ensures.items ∙ ap (λ o. c.pop.new.self ++ option_to_list o) c.in-Some.is in
    let draft = rw was at c.self.invariant.0 in
    rw c.push.ensures.items (drafted_aimed c.pop.new.self c.in-Some.x c.args.aim _ _ _ draft, outlined_aimed c.pop.new.self c.in-Some.x c.args.aim _ (rw was at c.self.invariant.1), omega (arith, rw was at c.self.invariant.2, pointers_in-push c.pop.new.self c.in-Some.x, pointers_in-push c.pop.new.self (with_aim c.args.aim c.in-Some.x), c.pointers_of-in-Some.ensures.value, c.pointers_of.ensures.value))
