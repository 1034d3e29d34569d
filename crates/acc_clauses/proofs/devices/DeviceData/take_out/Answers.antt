use Rattle.std.proofs.Common.{◌≡◌, sym, subst, replicate, false}
use Rattle.acc_base.specs.Loans.{is_lent}
use Rattle.acc_base.specs.Accounts.{IsLoanSound}
use Rattle.acc_base.specs.Limits.{limits_on}
use Rattle.acc_clauses.specs.Contents.{beside}
use Rattle.acc_clauses.specs.Devices.{DeviceContents}
use Rattle.acc_clauses.proofs.Lends.{loan_has_block, lend_mapped, lend_within, lent_parts}
use Rattle.acc_clauses.proofs.devices.DeviceData.take_out.Goals as goal

pub take_out-requires-clause-there : goal.take_out-requires-clause-there
take_out-requires-clause-there c =
    let p = c.self.inside in
    loan_has_block (limits_on p.number p.config) (beside p.environment (replicate p.config.host 0)) p.lent c.args.loan c.self.invariant (subst (λ (k : DeviceContents). IsLoanSound k.device.records.ranges c.args.loan) (sym c.self.view_is) c.requires.sound)

pub take_out-requires-clause-mapped : goal.take_out-requires-clause-mapped
take_out-requires-clause-mapped c =
    let p = c.self.inside in
    lend_mapped (limits_on p.number p.config) (beside p.environment (replicate p.config.host 0)) p.lent c.args.loan c.self.invariant c.laws.ensures.marks (subst (λ (k : DeviceContents). IsLoanSound k.device.records.ranges c.args.loan) (sym c.self.view_is) c.requires.sound)

pub take_out-requires-clause-within : goal.take_out-requires-clause-within
take_out-requires-clause-within c =
    let p = c.self.inside in
    lend_within (limits_on p.number p.config) (beside p.environment (replicate p.config.host 0)) p.lent c.args.loan c.self.invariant (subst (λ (k : DeviceContents). IsLoanSound k.device.records.ranges c.args.loan) (sym c.self.view_is) c.requires.sound)

pub invariant_of-self-2 : goal.invariant_of-self-2
invariant_of-self-2 c =
    let p = c.self.inside in
    lent_parts (limits_on p.number p.config) c.full-keep.result (beside p.environment (replicate p.config.host 0)) p.lent c.take_out.new.self c.args.loan c.self.invariant
    (subst (λ (k : DeviceContents). is_lent c.args.loan.block k.device.records.loans ≡ false) (sym c.self.view_is) c.requires.free)
    (subst (λ (k : DeviceContents). IsLoanSound k.device.records.ranges c.args.loan) (sym c.self.view_is) c.requires.sound) c.in_ok-lease.ensures.out
