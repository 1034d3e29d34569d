use Rattle.std.proofs.Common.{◌≡◌, Bool, true, false, refl, sym, ap, ◌∙◌}
use Rattle.std.specs.Prelude.{not}
use Rattle.acc_index.proofs.Indexing.{ends_last}
use Rattle.acc_index.proofs.index.is_last_gone.Goals as goal

twice : (b : Bool) → b ≡ not (not b)
twice true = refl
twice false = refl

pub returns-in-Some : goal.returns-in-Some
returns-in-Some g c = twice c.is_none.result ∙ ap not (sym c.is_none.ensures) ∙ ends_last c.args.items.now c.in-Some.entry.now (sym c.in-Some.ensures.value)
