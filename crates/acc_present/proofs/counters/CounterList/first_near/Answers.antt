use Rattle.std.proofs.Common.{◌≡◌, ℕ, ◌^◌, ◌<◌, None, Some, ap, sym, ◌∙◌, subst, arith}
use Rattle.std.specs.Prelude.{find, option_map}
use Rattle.acc_base.specs.Accounts.{EachPair}
use Rattle.acc_base.specs.Attachments.{IsBefore}
use Rattle.acc_ordered.specs.Listing.{seen}
use Rattle.acc_present.specs.KeptCounters.{CountersState, counter_in, is_from}
use Rattle.acc_present.proofs.Keyed.{rising_counters, first-counters}
use Rattle.acc_present.proofs.Bounded.{none_from_above}
use Rattle.acc_present.proofs.counters.CounterList.first_near.Goals as goal

pub returns-in-Some-clause-found : goal.returns-in-Some-clause-found
returns-in-Some-clause-found c =
    let lt : c.args.pointer < 2 ^ 64 = omega arith in
    let first = ap (seen (λ (key : ℕ). key)) (sym c.in-Some.is) ∙ (rw c.key_of.ensures at c.next_near.ensures) in
    subst (λ (s : CountersState). Some c.to_counter.result ≡ find (is_from c.args.block c.args.pointer) s.counters) c.self.view_is
    (ap Some c.to_counter.ensures ∙ ap (option_map counter_in) first ∙ first-counters c.args.block c.args.pointer c.self.inside.counts.entries lt)

pub returns-in-Some-clause-rising : goal.returns-in-Some-clause-rising
returns-in-Some-clause-rising c = subst (λ (s : CountersState). EachPair IsBefore s.counters) c.self.view_is (rising_counters c.self.inside.counts.entries c.laws.ensures.rising)

pub returns-in-None-clause-found : goal.returns-in-None-clause-found
returns-in-None-clause-found c =
    let lt : c.args.pointer < 2 ^ 64 = omega arith in
    let first = ap (seen (λ (key : ℕ). key)) (sym c.in-None.is) ∙ (rw c.key_of.ensures at c.next_near.ensures) in
    subst (λ (s : CountersState). None ≡ find (is_from c.args.block c.args.pointer) s.counters) c.self.view_is
    (ap (option_map counter_in) first ∙ first-counters c.args.block c.args.pointer c.self.inside.counts.entries lt)

pub returns-in-None-clause-rising : goal.returns-in-None-clause-rising
returns-in-None-clause-rising c = subst (λ (s : CountersState). EachPair IsBefore s.counters) c.self.view_is (rising_counters c.self.inside.counts.entries c.laws.ensures.rising)

pub returns-then-self-block-clause-found : goal.returns-then-self-block-clause-found
returns-then-self-block-clause-found c =
    subst (λ (s : CountersState). None ≡ find (is_from c.args.block c.args.pointer) s.counters) c.self.view_is
    (none_from_above c.self.inside.highest c.args.block c.args.pointer c.self.inside.counts.entries c.self.invariant c.if-self-block.true)

pub returns-then-self-block-clause-rising : goal.returns-then-self-block-clause-rising
returns-then-self-block-clause-rising c = subst (λ (s : CountersState). EachPair IsBefore s.counters) c.self.view_is (rising_counters c.self.inside.counts.entries c.laws.ensures.rising)
