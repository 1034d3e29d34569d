use Rattle.std.proofs.Common.{List, Some, sym, ap, ◌∙◌}
use Rattle.std.specs.Prelude.{option_map}
use Rattle.acc_base.specs.declared.regions.Holding.{Holding}
use Rattle.acc_base.specs.Register.{holdings_at}
use Rattle.acc_present.specs.Kept.{RegisterState}
use Rattle.acc_present.proofs.Registering.{Held, held}
use Rattle.acc_present.proofs.register.Register.holdings.Goals as goal

pub returns-in_err-holdings : goal.returns-in_err-holdings
returns-in_err-holdings c =
    rw c.from_residual.ensures
    (sym (ap (λ (s : RegisterState). holdings_at c.args.number s.regions) c.self.view_is) ∙ held c.args.number c.self.inside.regions.entries ∙ ap (option_map (λ (v : Held). v.items)) c.in_err-holdings.ensures)

pub returns : goal.returns
returns c =
    sym (ap (λ (s : RegisterState). holdings_at c.args.number s.regions) c.self.view_is)
    ∙ held c.args.number c.self.inside.regions.entries
    ∙ ap (option_map (λ (v : Held). v.items)) c.in_ok-holdings.ensures
    ∙ ap (λ (hs : List Holding). Some hs) (sym c.deref.ensures.value)
