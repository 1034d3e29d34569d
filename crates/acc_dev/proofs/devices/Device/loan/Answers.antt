use Rattle.std.proofs.Common.{◌≡◌, ◌∙◌, None, sym, subst}
use Rattle.acc_base.specs.Loans.{loan_of}
use Rattle.acc_dev.specs.Device.{DeviceState}
use Rattle.acc_dev.proofs.Keeping.{loan_of_slot}
use Rattle.acc_dev.proofs.Lends.{not_lent}
use Rattle.acc_dev.proofs.devices.Device.loan.Goals as goal

pub returns-in_err-slot : goal.returns-in_err-slot
returns-in_err-slot c =
    let s = c.self.inside in
    let none = not_lent s.slab.slots s.index.entries c.args.block c.self.invariant.0.backed c.in_err-slot.ensures.none in
    rw c.from_residual.ensures (subst (λ (d : DeviceState). None ≡ loan_of c.args.block d.loans) c.self.view_is (sym none))

pub returns : goal.returns
returns c =
    let s = c.self.inside in
    let found = loan_of_slot s.slab.slots s.index.entries c.args.block c.in_ok-slot.slot c.self.invariant.0.rising c.self.invariant.0.backed c.in_ok-slot.ensures.found in
    subst (λ (d : DeviceState). c.loan_at.result ≡ loan_of c.args.block d.loans) c.self.view_is (c.loan_at.ensures ∙ sym found)
