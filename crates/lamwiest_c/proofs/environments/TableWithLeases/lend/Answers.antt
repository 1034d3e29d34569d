use Rattle.std.proofs.Common.{◌≡◌, ◌∙◌, ◌++◌, ap, subst, inl, Ok, Err, None}
use Rattle.std.proofs.lemmas.Result.{err_from_is_err_and}
use Rattle.acc_base.specs.declared.faults.Fault.{Fault}
use Rattle.acc_base.specs.declared.faults.Fault.TheVariants.{Memory}
use Rattle.acc_table.specs.Turns.{lent_by}
use Rattle.lamwiest_c.specs.declared.statuses.Refusal.TheVariants.{OfTable}
use Rattle.lamwiest_c.specs.Environments.{DataEnvironment}
use Rattle.lamwiest_c.specs.Keeps.{Entries, leases_in, entries_by}
use Rattle.lamwiest_c.specs.Answers.{Told, number_in, lease_of, IsLent}
use Rattle.lamwiest_c.proofs.Leasing.{done_lent}
use Rattle.lamwiest_c.proofs.Keeping.{loan_numbered, kept_below, kept_more, leases-more, number_new}
use Rattle.lamwiest_c.proofs.environments.TableWithLeases.lend.Goals as goal

pub returns-in_err-make_place : goal.returns-in_err-make_place
returns-in_err-make_place c =
    let w = c.self.inside.table in
    let e : DataEnvironment = record { world = w; leases = leases_in c.self.inside.leases.entries } in
    let v : DataEnvironment = record { world = w; leases = leases_in c.make_place.new.leases.entries } in
    let T : Told = λ r. c.from_residual.result ≡ r in
    let same : v ≡ e = λ i. record { world = w; leases = leases_in (c.make_place.ensures.same i) } in
    let p = err_from_is_err_and c.from_residual.result c.from_residual.ensures.1 in
    let told : T (Err (OfTable Memory)) = rw (p.1, p.2) (ap (λ (fault : Fault). Err (OfTable fault)) c.in_err-make_place.ensures.only) in
    subst (λ (x : DataEnvironment). IsLent x c.args.region c.args.section T v) c.self.view_is (inl (told, same))

pub keep-requires-clause-above : goal.keep-requires-clause-above
keep-requires-clause-above c =
    let w = c.self.inside.table in
    let numbered = loan_numbered w c.apply.new.self c.args.region c.args.section c.in-Ok.reply c.in-Ok.ensures.done in
    rw c.make_place.ensures.same (kept_below w c.apply.new.self c.in-Ok.reply c.self.inside.leases.entries numbered c.self.invariant)

pub invariant_of-self-in-Ok : goal.invariant_of-self-in-Ok
invariant_of-self-in-Ok c =
    let w = c.self.inside.table in
    let numbered = loan_numbered w c.apply.new.self c.args.region c.args.section c.in-Ok.reply c.in-Ok.ensures.done in
    rw (c.keep.ensures.leases, c.make_place.ensures.same) (kept_more w c.apply.new.self c.in-Ok.reply c.self.inside.leases.entries numbered c.self.invariant)

pub returns-in-Ok : goal.returns-in-Ok
returns-in-Ok c =
    let w = c.self.inside.table in
    let es = c.self.inside.leases.entries in
    let reply = c.in-Ok.reply in
    let e : DataEnvironment = record { world = w; leases = leases_in es } in
    let v : DataEnvironment = record { world = c.apply.new.self; leases = leases_in c.keep.new.leases.entries } in
    let T : Told = λ r. Ok c.keep.result ≡ r in
    let numbered = loan_numbered w c.apply.new.self c.args.region c.args.section reply c.in-Ok.ensures.done in
    let leases : v.leases ≡ e.leases ++ lent_by reply = ap leases_in (c.keep.ensures.leases ∙ ap (λ (xs : Entries). xs ++ entries_by reply) c.make_place.ensures.same) ∙ leases-more es reply in
    let new : lease_of (number_in reply) e ≡ None = number_new w c.apply.new.self reply es numbered c.self.invariant in
    subst (λ (x : DataEnvironment). IsLent x c.args.region c.args.section T v) c.self.view_is (done_lent e v c.args.region c.args.section T reply c.in-Ok.ensures.done leases new (ap Ok c.keep.ensures.value))
