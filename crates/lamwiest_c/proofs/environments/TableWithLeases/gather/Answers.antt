use Rattle.std.proofs.Common.{ℕ, ◌≡◌, ◌∙◌, refl, ap, subst, None, Some, Ok, Err}
use Rattle.acc_base.specs.declared.calls.Call.{Call}
use Rattle.acc_base.specs.declared.calls.Call.TheVariants.{Gather}
use Rattle.acc_base.specs.declared.faults.Fault.TheVariants.{NoLease}
use Rattle.acc_base.specs.Loans.{Leased}
use Rattle.acc_index.specs.Indexed.{IsIndexRising, value_at, without_number, with_other}
use Rattle.lamwiest_c.specs.declared.statuses.Refusal.TheVariants.{OfTable}
use Rattle.lamwiest_c.specs.Environments.{DataEnvironment}
use Rattle.lamwiest_c.specs.Keeps.{Entries, leases_in, kept, lease_of_nothing, restored}
use Rattle.lamwiest_c.specs.Answers.{Told, lease_of, leases_without, IsGathered}
use Rattle.lamwiest_c.proofs.Keeping.{kept_done, kept_without, found_kept, none_kept, leases-without, taken_there, without_other, other_back}
use Rattle.lamwiest_c.proofs.Leasing.{done_gathered, refused_gathered, none_gathered}
use Rattle.lamwiest_c.proofs.environments.TableWithLeases.gather.Goals as goal

pub take_out_near-requires : goal.take_out_near-requires
take_out_near-requires c = taken_there c.args.serial c.self.inside.leases.entries c.take_lease.new.leases.entries c.in-Some.lease c.in-Some.ensures.0 c.in-Some.ensures.1

pub restore-requires : goal.restore-requires
restore-requires c = taken_there c.args.serial c.self.inside.leases.entries c.take_lease.new.leases.entries c.in-Some.lease c.in-Some.ensures.0 c.in-Some.ensures.1

pub returns-in_default : goal.returns-in_default
returns-in_default c =
    let w = c.self.inside.table in
    let es = c.self.inside.leases.entries in
    let e : DataEnvironment = record { world = w; leases = leases_in es } in
    let v : DataEnvironment = record { world = w; leases = leases_in c.take_lease.new.leases.entries } in
    let T : Told = λ r. Err (OfTable (NoLease c.args.serial)) ≡ r in
    let none : lease_of c.args.serial e ≡ None = none_kept w.state.serial c.args.serial es c.self.invariant c.in_default.ensures.0 in
    let same : v ≡ e = λ i. record { world = w; leases = leases_in (c.in_default.ensures.1 i) } in
    subst (λ (x : DataEnvironment). IsGathered x c.args.serial T v) c.self.view_is (none_gathered e v c.args.serial T none same refl)

pub invariant_of-self : goal.invariant_of-self
invariant_of-self c = rw c.in_default.ensures.1 c.self.invariant

-- the entries once the lease was taken out
spent : (n : ℕ) (es taken left : Entries) → taken ≡ with_other n (kept lease_of_nothing) es → left ≡ without_number n taken → left ≡ without_number n es
spent n es taken left is out = out ∙ ap (without_number n) is ∙ without_other n (kept lease_of_nothing) es

pub invariant_of-self-in-Ok : goal.invariant_of-self-in-Ok
invariant_of-self-in-Ok c =
    let w = c.self.inside.table in
    let es = c.self.inside.leases.entries in
    let left = spent c.args.serial es c.take_lease.new.leases.entries c.take_out_near.new.self.entries c.in-Some.ensures.1 c.take_out_near.ensures.entries in
    rw left (kept_without c.apply.new.self c.args.serial es (kept_done w c.apply.new.self _ c.in-Ok.reply es c.in-Ok.ensures.done c.self.invariant))

pub returns-in-Ok : goal.returns-in-Ok
returns-in-Ok c =
    let w = c.self.inside.table in
    let es = c.self.inside.leases.entries in
    let e : DataEnvironment = record { world = w; leases = leases_in es } in
    let v : DataEnvironment = record { world = c.apply.new.self; leases = leases_in c.take_out_near.new.self.entries } in
    let T : Told = λ r. Ok c.number_in.result ≡ r in
    let found : lease_of c.args.serial e ≡ Some c.in-Some.lease = found_kept w.state.serial c.args.serial es (kept c.in-Some.lease) c.self.invariant c.in-Some.ensures.0 in
    let left = spent c.args.serial es c.take_lease.new.leases.entries c.take_out_near.new.self.entries c.in-Some.ensures.1 c.take_out_near.ensures.entries in
    let leases : v.leases ≡ leases_without c.args.serial e.leases = ap leases_in left ∙ leases-without w.state.serial c.args.serial es c.laws.ensures.rising c.self.invariant in
    subst (λ (x : DataEnvironment). IsGathered x c.args.serial T v) c.self.view_is (done_gathered e v c.args.serial c.in-Some.lease T found c.in-Ok.reply c.in-Ok.ensures.done leases (ap Ok c.number_in.ensures))

-- the entries once the lease came back
whole : (n : ℕ) (es taken back : Entries) (lease : Leased) (call : Call Leased) → IsIndexRising es → value_at n es ≡ Some (kept lease) → taken ≡ with_other n (kept lease_of_nothing) es → call ≡ Gather lease → back ≡ restored call n taken → back ≡ es
whole n es taken back lease call rise value is came restore =
    restore ∙ ap (λ (x : Call Leased). restored x n taken) came ∙ ap (with_other n (kept lease)) is ∙ other_back n (kept lease_of_nothing) (kept lease) es rise value

pub invariant_of-self-in-Err : goal.invariant_of-self-in-Err
invariant_of-self-in-Err c =
    let es = c.self.inside.leases.entries in
    let back = whole c.args.serial es c.take_lease.new.leases.entries c.restore.new.leases.entries c.in-Some.lease c.in-Err.call c.laws.ensures.rising c.in-Some.ensures.0 c.in-Some.ensures.1 c.in-Err.ensures.same.0 c.restore.ensures in
    rw (back, c.in-Err.ensures.same.1) c.self.invariant

pub returns-in-Err : goal.returns-in-Err
returns-in-Err c =
    let w = c.self.inside.table in
    let es = c.self.inside.leases.entries in
    let e : DataEnvironment = record { world = w; leases = leases_in es } in
    let v : DataEnvironment = record { world = c.apply.new.self; leases = leases_in c.restore.new.leases.entries } in
    let T : Told = λ r. Err (OfTable c.in-Err.fault) ≡ r in
    let found : lease_of c.args.serial e ≡ Some c.in-Some.lease = found_kept w.state.serial c.args.serial es (kept c.in-Some.lease) c.self.invariant c.in-Some.ensures.0 in
    let back = whole c.args.serial es c.take_lease.new.leases.entries c.restore.new.leases.entries c.in-Some.lease c.in-Err.call c.laws.ensures.rising c.in-Some.ensures.0 c.in-Some.ensures.1 c.in-Err.ensures.same.0 c.restore.ensures in
    subst (λ (x : DataEnvironment). IsGathered x c.args.serial T v) c.self.view_is (refused_gathered e v c.args.serial c.in-Some.lease T found c.in-Err.fault c.in-Err.ensures.refused c.in-Err.ensures.same.1 (ap leases_in back) refl)
