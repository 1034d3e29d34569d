use Rattle.std.proofs.Common.{ℕ, ◌≡◌, ◌∙◌, refl, ap, subst, None, Some, Ok, Err}
use Rattle.acc_base.specs.declared.faults.Fault.TheVariants.{NoLease}
use Rattle.acc_base.specs.Loans.{Leased}
use Rattle.acc_index.specs.Indexed.{IsIndexRising, value_at, with_other}
use Rattle.lamwiest_c.specs.declared.statuses.Refusal.TheVariants.{OfTable}
use Rattle.lamwiest_c.specs.Environments.{DataEnvironment}
use Rattle.lamwiest_c.specs.Keeps.{Entries, leases_in, kept, lease_of_nothing}
use Rattle.lamwiest_c.specs.Answers.{Told, lease_of}
use Rattle.lamwiest_c.specs.Leases.{IsLeasePlaced}
use Rattle.lamwiest_c.proofs.Keeping.{found_kept, none_kept, taken_there, other_back}
use Rattle.lamwiest_c.proofs.Leasing.{none_placed, there_placed}
use Rattle.lamwiest_c.proofs.environments.TableWithLeases.lease_place.Goals as goal

-- the entries once the lease stands in its place again
whole : (n : ℕ) (es taken back : Entries) (lease again : Leased) → IsIndexRising es → value_at n es ≡ Some (kept lease) → taken ≡ with_other n (kept lease_of_nothing) es → again ≡ lease → back ≡ with_other n (kept again) taken → back ≡ es
whole n es taken back lease again rise value is same put =
    put ∙ ap (λ (l : Leased). with_other n (kept l) taken) same ∙ ap (with_other n (kept lease)) is ∙ other_back n (kept lease_of_nothing) (kept lease) es rise value

pub returns-in_default-clause-place : goal.returns-in_default-clause-place
returns-in_default-clause-place c =
    let w = c.self.inside.table in
    let es = c.self.inside.leases.entries in
    let e : DataEnvironment = record { world = w; leases = leases_in es } in
    let T : Told = λ r. Err (OfTable (NoLease c.args.serial)) ≡ r in
    let none : lease_of c.args.serial e ≡ None = none_kept w.state.serial c.args.serial es c.self.invariant c.in_default.ensures.0 in
    subst (λ (x : DataEnvironment). IsLeasePlaced x c.args.serial c.args.place.now c.args.place.now T) c.self.view_is (none_placed e c.args.serial c.args.place.now c.args.place.now T none refl refl)

pub exchange-requires : goal.exchange-requires
exchange-requires c = taken_there c.args.serial c.self.inside.leases.entries c.take_lease.new.leases.entries c.in-Some.lease c.in-Some.ensures.0 c.in-Some.ensures.1

pub invariant_of-self-2 : goal.invariant_of-self-2
invariant_of-self-2 c =
    let back = whole c.args.serial c.self.inside.leases.entries c.take_lease.new.leases.entries c.exchange.new.leases.entries c.in-Some.lease c.placed-lease.result.0 c.laws.ensures.rising c.in-Some.ensures.0 c.in-Some.ensures.1 c.placed-lease.ensures.same c.exchange.ensures.leases in
    rw back c.self.invariant

pub returns-clause-place : goal.returns-clause-place
returns-clause-place c =
    let w = c.self.inside.table in
    let es = c.self.inside.leases.entries in
    let e : DataEnvironment = record { world = w; leases = leases_in es } in
    let T : Told = λ r. Ok c.len-len.result ≡ r in
    let found : lease_of c.args.serial e ≡ Some c.in-Some.lease = found_kept w.state.serial c.args.serial es (kept c.in-Some.lease) c.self.invariant c.in-Some.ensures.0 in
    subst (λ (x : DataEnvironment). IsLeasePlaced x c.args.serial c.args.place.now c.placed-lease.result.1 T) c.self.view_is (there_placed e c.args.serial c.args.place.now c.placed-lease.result.1 T c.in-Some.lease found (ap Ok c.len-len.ensures.value) c.placed-lease.ensures.place.0 c.placed-lease.ensures.place.1)

pub returns-clause-same : goal.returns-clause-same
returns-clause-same c =
    let w = c.self.inside.table in
    let es = c.self.inside.leases.entries in
    let e : DataEnvironment = record { world = w; leases = leases_in es } in
    let v : DataEnvironment = record { world = w; leases = leases_in c.exchange.new.leases.entries } in
    let back = whole c.args.serial es c.take_lease.new.leases.entries c.exchange.new.leases.entries c.in-Some.lease c.placed-lease.result.0 c.laws.ensures.rising c.in-Some.ensures.0 c.in-Some.ensures.1 c.placed-lease.ensures.same c.exchange.ensures.leases in
    let same : v ≡ e = λ i. record { world = w; leases = leases_in (back i) } in
    same ∙ c.self.view_is
