use Rattle.std.proofs.Common.{◌≡◌, ◌∙◌, refl, sym, ap, subst, IsSome, None, Some, Ok, Err}
use Rattle.acc_base.specs.declared.faults.Fault.TheVariants.{NoLease}
use Rattle.std.proofs.lemmas.Option.{same_Some}
use Rattle.acc_base.specs.Loans.{Leased}
use Rattle.acc_index.specs.Indexed.{with_other}
use Rattle.acc_lend.specs.Loans.{with_section}
use Rattle.lamwiest_c.specs.declared.statuses.Refusal.TheVariants.{BadLength, OfTable}
use Rattle.lamwiest_c.specs.declared.environments.KeptLease.{KeptLease}
use Rattle.lamwiest_c.specs.Environments.{DataEnvironment}
use Rattle.lamwiest_c.specs.Keeps.{leases_in, kept}
use Rattle.lamwiest_c.specs.Answers.{Told, lease_of}
use Rattle.lamwiest_c.specs.Leases.{leases_with, IsLeaseWritten}
use Rattle.lamwiest_c.proofs.Keeping.{found_kept, none_kept, leases-other, kept_other, number_kept}
use Rattle.lamwiest_c.proofs.Leasing.{none_written, whole_written, short_written}
use Rattle.lamwiest_c.proofs.environments.TableWithLeases.lease_write.Goals as goal

pub returns-in_default : goal.returns-in_default
returns-in_default c =
    let w = c.self.inside.table in
    let e : DataEnvironment = record { world = w; leases = leases_in c.self.inside.leases.entries } in
    let none : lease_of c.args.serial e ≡ None = none_kept w.state.serial c.args.serial c.self.inside.leases.entries c.self.invariant c.in_default.ensures in
    let T : Told = λ r. Err (OfTable (NoLease c.args.serial)) ≡ r in
    subst (λ (x : DataEnvironment). IsLeaseWritten x c.args.serial c.args.bytes.now T x) c.self.view_is (none_written e e c.args.serial c.args.bytes.now T none refl refl)

pub returns-then-bytes-len : goal.returns-then-bytes-len
returns-then-bytes-len c =
    let w = c.self.inside.table in
    let e : DataEnvironment = record { world = w; leases = leases_in c.self.inside.leases.entries } in
    let found : lease_of c.args.serial e ≡ Some c.in-Some.own.now.lease = found_kept w.state.serial c.args.serial c.self.inside.leases.entries c.in-Some.own.now c.self.invariant c.in-Some.ensures in
    let T : Told = λ r. Err (BadLength c.len-len.result) ≡ r in
    subst (λ (x : DataEnvironment). IsLeaseWritten x c.args.serial c.args.bytes.now T x) c.self.view_is (short_written e e c.args.serial c.args.bytes.now T c.in-Some.own.now.lease found c.len-len.result c.len-len.ensures.value c.if-bytes-len.true refl refl)

pub value_mut_near-own-requires : goal.value_mut_near-own-requires
value_mut_near-own-requires c = subst IsSome (sym c.in-Some.ensures) refl

pub invariant_of-self : goal.invariant_of-self
invariant_of-self c =
    let w = c.self.inside.table in
    let es = c.self.inside.leases.entries in
    let own = c.value_mut_near-own.result.now in
    kept_other w c.args.serial (kept c.overwrite.new.self) es (number_kept w.state.serial c.args.serial es own c.self.invariant c.value_mut_near-own.ensures.value ∙ sym (ap (λ (l : Leased). l.serial) c.overwrite.ensures)) c.self.invariant

pub returns : goal.returns
returns c =
    let w = c.self.inside.table in
    let es = c.self.inside.leases.entries in
    let bytes = c.args.bytes.now in
    let lease = c.in-Some.own.now.lease in
    let e : DataEnvironment = record { world = w; leases = leases_in es } in
    let v : DataEnvironment = record { world = w; leases = leases_in (with_other c.args.serial (kept c.overwrite.new.self) es) } in
    let found : lease_of c.args.serial e ≡ Some lease = found_kept w.state.serial c.args.serial es c.in-Some.own.now c.self.invariant c.in-Some.ensures in
    let same : c.value_mut_near-own.result.now ≡ c.in-Some.own.now = same_Some c.value_mut_near-own.result.now c.in-Some.own.now (sym c.value_mut_near-own.ensures.value ∙ c.in-Some.ensures) in
    let written : c.overwrite.new.self ≡ with_section lease bytes = c.overwrite.ensures ∙ ap (λ (k : KeptLease). with_section k.lease bytes) same in
    let leases : v.leases ≡ leases_with c.args.serial (with_section lease bytes) e.leases = leases-other w.state.serial c.args.serial (kept c.overwrite.new.self) es c.laws.ensures.rising c.self.invariant ∙ ap (λ (l : Leased). leases_with c.args.serial l e.leases) written in
    let T : Told = λ r. Ok c.len-len.result ≡ r in
    subst (λ (x : DataEnvironment). IsLeaseWritten x c.args.serial bytes T v) c.self.view_is (whole_written e v c.args.serial bytes T lease found c.len-len.result c.len-len.ensures.value c.if-bytes-len.false refl refl leases)
