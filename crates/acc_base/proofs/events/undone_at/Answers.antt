use Rattle.std.proofs.Common.{arith, ◌∙◌}
use Rattle.std.proofs.lemmas.Option.{gets}
use Rattle.acc_base.proofs.Undone.{undone_at}
use Rattle.acc_base.proofs.events.undone_at.Goals as goal

pub returns : goal.returns
returns c = c.undone_by.ensures ∙ undone_at c.args.items.now c.args.did.now c.args.place _ _ (grind (arith, gets)) (grind (arith, gets))
