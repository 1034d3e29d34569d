use Rattle.std.proofs.Common.{◌≡◌, ◌∙◌, sym, ap, []}
use Rattle.lamwiest_c.specs.Environments.{DataEnvironment}
use Rattle.lamwiest_c.specs.Keeps.{leases_in}
use Rattle.lamwiest_c.proofs.Pairing.{none_out}
use Rattle.lamwiest_c.proofs.environments.TableWithLeases.copy.Goals as goal

-- no lease was told, so none is out, and the copy has just what its source has
pub returns : goal.returns
returns c =
    let none : leases_in c.self.inside.leases.entries ≡ [] = none_out _ (sym c.in_default.ensures) in
    let leases : leases_in c.new.result.entries ≡ leases_in c.self.inside.leases.entries = ap leases_in c.new.ensures ∙ sym none in
    (c.in_ok-new.ensures.ok ∙ ((λ i. record { world = c.in_ok-clone.ensures.cases i; leases = leases i }) ∙ c.self.view_is), sym (ap (λ (e : DataEnvironment). e.leases) c.self.view_is) ∙ none)
