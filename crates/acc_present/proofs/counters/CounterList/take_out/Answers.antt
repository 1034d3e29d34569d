use Rattle.std.proofs.Common.{◌≡◌, ℕ, ◌^◌, ◌<◌, sym, ap, ◌∙◌, subst, arith}
use Rattle.std.specs.Prelude.{find, IsSome}
use Rattle.acc_ordered.specs.Listing.{without_key}
use Rattle.acc_base.specs.Attachments.{is_of, without_attachment}
use Rattle.acc_present.specs.KeptCounters.{CountersState, counters_in}
use Rattle.acc_present.proofs.Keyed.{key_there, without_key-counters}
use Rattle.acc_present.proofs.Bounded.{up_to-without}
use Rattle.acc_present.proofs.counters.CounterList.take_out.Goals as goal

pub remove-requires : goal.remove-requires
remove-requires c =
    let lt : c.args.pointer < 2 ^ 64 = omega arith in
    let there = subst (λ (s : CountersState). IsSome (find (is_of c.args.block c.args.pointer) s.counters)) (sym c.self.view_is) c.requires in
    record { there = rw c.key_of.ensures (key_there c.args.block c.args.pointer c.self.inside.counts.entries lt there) }

pub returns-clause-counters : goal.returns-clause-counters
returns-clause-counters c =
    let lt : c.args.pointer < 2 ^ 64 = omega arith in
    subst (λ (s : CountersState). counters_in c.remove.new.self.entries ≡ without_attachment c.args.block c.args.pointer s.counters) c.self.view_is
    (ap counters_in c.remove.ensures.entries
    ∙ ap (λ (k : ℕ). counters_in (without_key k c.self.inside.counts.entries)) c.key_of.ensures
    ∙ without_key-counters c.args.block c.args.pointer c.self.inside.counts.entries lt)

pub invariant_of-self : goal.invariant_of-self
invariant_of-self c = rw c.remove.ensures.entries (up_to-without c.self.inside.highest c.key_of.result c.self.inside.counts.entries c.self.invariant)
