use Rattle.std.proofs.Common.{◌≡◌, ℕ, ◌^◌, ◌<◌, ◌≤◌, None, sym, ap, ◌∙◌, subst, arith}
use Rattle.std.specs.Prelude.{find}
use Rattle.acc_ordered.specs.Listing.{keyed, with_entry}
use Rattle.acc_base.specs.Attachments.{is_of, with_count}
use Rattle.acc_present.specs.KeptCounters.{CountersState, counters_in}
use Rattle.acc_present.proofs.Keyed.{key_missing, added-counters}
use Rattle.acc_present.proofs.Bounded.{up_to-added}
use Rattle.acc_present.proofs.counters.CounterList.add.Goals as goal

pub insert-requires-clause-new : goal.insert-requires-clause-new
insert-requires-clause-new c =
    let lt : c.args.pointer < 2 ^ 64 = omega arith in
    let none = subst (λ (s : CountersState). find (is_of c.args.block c.args.pointer) s.counters ≡ None) (sym c.self.view_is) c.requires.new in
    rw c.key_of.ensures (key_missing c.args.block c.args.pointer c.self.inside.counts.entries lt none)

pub returns-clause-counters : goal.returns-clause-counters
returns-clause-counters c =
    let lt : c.args.pointer < 2 ^ 64 = omega arith in
    let none = subst (λ (s : CountersState). find (is_of c.args.block c.args.pointer) s.counters ≡ None) (sym c.self.view_is) c.requires.new in
    subst (λ (s : CountersState). counters_in c.insert.new.self.entries ≡ with_count c.args.block c.args.pointer c.args.count s.counters) c.self.view_is
    (ap counters_in c.insert.ensures.entries
    ∙ ap (λ (k : ℕ). counters_in (with_entry (keyed k c.args.count) c.self.inside.counts.entries)) c.key_of.ensures
    ∙ added-counters c.args.block c.args.pointer c.args.count c.self.inside.counts.entries lt c.requires.some none)

pub invariant_of-self : goal.invariant_of-self
invariant_of-self c =
    let lt : c.args.pointer < 2 ^ 64 = omega arith in
    let more : c.self.inside.highest ≤ c.max-self-inside.result = omega (arith, c.max-self-inside.ensures) in
    let new : c.args.block ≤ c.max-self-inside.result = omega (arith, c.max-self-inside.ensures) in
    rw (c.insert.ensures.entries, c.key_of.ensures) (up_to-added c.self.inside.highest c.max-self-inside.result c.args.block c.args.pointer c.args.count c.self.inside.counts.entries lt c.self.invariant more new)
