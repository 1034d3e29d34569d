use Rattle.std.proofs.Common.{◌≡◌, ℕ, ◌^◌, ◌<◌, sym, ap, ◌∙◌, subst, arith}
use Rattle.std.specs.Prelude.{find, IsSome}
use Rattle.acc_ordered.specs.Listing.{with_value}
use Rattle.acc_base.specs.Attachments.{is_of, with_count}
use Rattle.acc_present.specs.KeptCounters.{CountersState, counters_in}
use Rattle.acc_present.proofs.Keyed.{key_there, written-counters}
use Rattle.acc_present.proofs.Bounded.{up_to-written}
use Rattle.acc_present.proofs.counters.CounterList.set.Goals as goal

pub set-requires : goal.set-requires
set-requires c =
    let lt : c.args.pointer < 2 ^ 64 = omega arith in
    let there = subst (λ (s : CountersState). IsSome (find (is_of c.args.block c.args.pointer) s.counters)) (sym c.self.view_is) c.requires.there in
    record { there = rw c.key_of.ensures (key_there c.args.block c.args.pointer c.self.inside.counts.entries lt there) }

pub returns-clause-counters : goal.returns-clause-counters
returns-clause-counters c =
    let lt : c.args.pointer < 2 ^ 64 = omega arith in
    let there = subst (λ (s : CountersState). IsSome (find (is_of c.args.block c.args.pointer) s.counters)) (sym c.self.view_is) c.requires.there in
    subst (λ (s : CountersState). counters_in c.set.new.self.entries ≡ with_count c.args.block c.args.pointer c.args.count s.counters) c.self.view_is
    (ap counters_in c.set.ensures.entries
    ∙ ap (λ (k : ℕ). counters_in (with_value k c.args.count c.self.inside.counts.entries)) c.key_of.ensures
    ∙ written-counters c.args.block c.args.pointer c.args.count c.self.inside.counts.entries lt c.requires.some c.laws.ensures.rising there)

pub invariant_of-self : goal.invariant_of-self
invariant_of-self c = rw c.set.ensures.entries (up_to-written c.self.inside.highest c.key_of.result c.args.count c.self.inside.counts.entries c.self.invariant)
