use Rattle.std.proofs.Common.{◌≡◌, ℕ, ◌^◌, ◌<◌, sym, ap, ◌∙◌, subst, arith}
use Rattle.acc_base.specs.Attachments.{count_at}
use Rattle.acc_ordered.specs.Listing.{keyed, seen}
use Rattle.acc_present.specs.KeptCounters.{CountersState}
use Rattle.acc_present.proofs.Keyed.{count_found, count_missing}
use Rattle.acc_present.proofs.Bounded.{none_of_above}
use Rattle.acc_present.proofs.counters.CounterList.find.Goals as goal

pub returns-in-Some : goal.returns-in-Some
returns-in-Some c =
    let lt : c.args.pointer < 2 ^ 64 = omega arith in
    let found = ap (seen (λ (key : ℕ). key)) (sym c.in-Some.is) ∙ (rw c.key_of.ensures at c.look_up.ensures) in
    subst (λ (s : CountersState). c.in-Some.found.value.now ≡ count_at c.args.block c.args.pointer s.counters) c.self.view_is
    (count_found c.args.block c.args.pointer c.self.inside.counts.entries (keyed c.in-Some.found.key c.in-Some.found.value.now) lt found)

pub returns-in-None : goal.returns-in-None
returns-in-None c =
    let lt : c.args.pointer < 2 ^ 64 = omega arith in
    let found = ap (seen (λ (key : ℕ). key)) (sym c.in-None.is) ∙ (rw c.key_of.ensures at c.look_up.ensures) in
    subst (λ (s : CountersState). 0 ≡ count_at c.args.block c.args.pointer s.counters) c.self.view_is
    (count_missing c.args.block c.args.pointer c.self.inside.counts.entries lt found)

pub returns-then-self-block : goal.returns-then-self-block
returns-then-self-block c =
    subst (λ (s : CountersState). 0 ≡ count_at c.args.block c.args.pointer s.counters) c.self.view_is
    (none_of_above c.self.inside.highest c.args.block c.args.pointer c.self.inside.counts.entries c.self.invariant c.if-self-block.true)
