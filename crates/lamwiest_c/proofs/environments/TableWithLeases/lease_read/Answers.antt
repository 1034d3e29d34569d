use Rattle.std.proofs.Common.{◌≡◌, ◌∙◌, refl, subst, length, None, Some, Ok, Err}
use Rattle.acc_base.specs.declared.faults.Fault.TheVariants.{NoLease}
use Rattle.lamwiest_c.specs.declared.statuses.Refusal.TheVariants.{BadLength, OfTable}
use Rattle.lamwiest_c.specs.Environments.{DataEnvironment}
use Rattle.lamwiest_c.specs.Keeps.{leases_in}
use Rattle.lamwiest_c.specs.Answers.{Told, lease_of}
use Rattle.lamwiest_c.specs.Leases.{IsLeaseRead}
use Rattle.lamwiest_c.proofs.Keeping.{found_kept, none_kept}
use Rattle.lamwiest_c.proofs.Leasing.{none_read, whole_read, short_read}
use Rattle.lamwiest_c.proofs.environments.TableWithLeases.lease_read.Goals as goal

pub returns-in_default : goal.returns-in_default
returns-in_default c =
    let w = c.self.inside.table in
    let e : DataEnvironment = record { world = w; leases = leases_in c.self.inside.leases.entries } in
    let none : lease_of c.args.serial e ≡ None = none_kept w.state.serial c.args.serial c.self.inside.leases.entries c.self.invariant c.in_default.ensures in
    let T : Told = λ r. Err (OfTable (NoLease c.args.serial)) ≡ r in
    subst (λ (x : DataEnvironment). IsLeaseRead x c.args.serial c.args.into.now c.args.into.now T) c.self.view_is (none_read e c.args.serial c.args.into.now c.args.into.now T none refl refl)

pub returns-then-into-bytes : goal.returns-then-into-bytes
returns-then-into-bytes c =
    let w = c.self.inside.table in
    let e : DataEnvironment = record { world = w; leases = leases_in c.self.inside.leases.entries } in
    let lease = c.in-Some.own.now.lease in
    let found : lease_of c.args.serial e ≡ Some lease = found_kept w.state.serial c.args.serial c.self.inside.leases.entries c.in-Some.own.now c.self.invariant c.in-Some.ensures in
    let n = length c.bytes-bytes.result.now in
    let T : Told = λ r. Err (BadLength n) ≡ r in
    subst (λ (x : DataEnvironment). IsLeaseRead x c.args.serial c.args.into.now c.args.into.now T) c.self.view_is (short_read e c.args.serial c.args.into.now c.args.into.now T lease found n c.bytes-bytes.ensures.len c.if-into-bytes.true refl refl)

pub returns : goal.returns
returns c =
    let w = c.self.inside.table in
    let e : DataEnvironment = record { world = w; leases = leases_in c.self.inside.leases.entries } in
    let lease = c.in-Some.own.now.lease in
    let found : lease_of c.args.serial e ≡ Some lease = found_kept w.state.serial c.args.serial c.self.inside.leases.entries c.in-Some.own.now c.self.invariant c.in-Some.ensures in
    let n = length c.bytes-bytes.result.now in
    let T : Told = λ r. Ok n ≡ r in
    let read = c.copy_from_slice.ensures.after ∙ c.bytes-bytes.ensures.value in
    subst (λ (x : DataEnvironment). IsLeaseRead x c.args.serial c.args.into.now c.copy_from_slice.new.self T) c.self.view_is (whole_read e c.args.serial c.args.into.now c.copy_from_slice.new.self T lease found n c.bytes-bytes.ensures.len c.if-into-bytes.false refl read)
