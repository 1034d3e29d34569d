use Rattle.std.proofs.Common.{◌+◌, arith, sym, ap, subst, ℕ, List}
use Rattle.std.specs.Prelude.{◌&&◌, nat_le}
use Rattle.acc_placement.specs.Space.{Space}
use Rattle.acc_placement.specs.Ranges.{IsFit, IsFitBeside, all_rounded}
use Rattle.acc_placement.specs.HoleIter.{holes_from}
use Rattle.acc_placement.proofs.Rest.{all_holes_from}
use Rattle.acc_placement.proofs.Outside.{tried, fit_found}
use Rattle.acc_placement.proofs.Fitting.{next_fit, no_fit, aligned_there}
use Rattle.acc_placement.proofs.placement.Holes.would_take.Goals as goal

pub loop-start-init : goal.loop-start-init
loop-start-init c = subst (λ (s : Space). (q : ℕ) → IsFitBeside s.holes (all_rounded c.args.listed.now) c.rounded-size.result q → IsFit (holes_from 0 s.holes) c.rounded-size.result q) c.self.view_is
    (λ q f. subst (λ (hs : List (ℕ × ℕ)). IsFit hs c.rounded-size.result q) (sym (all_holes_from 0 c.self.inside.base _ (c.self.inside.base + c.self.inside.size) (omega arith) c.self.invariant.canonical.rising)) (λ a w. (f a w).0))

pub past-place-requires-clause-from_limit : goal.past-place-requires-clause-from_limit
past-place-requires-clause-from_limit c = let n = next_fit c.loop-start.from c.rounded-size.result c.args.self.now.base c.args.self.now.holes (c.args.self.now.base + c.args.self.now.size) (c.in-Some.start, c.in-Some.room) (omega arith) c.next_fit.ensures.canonical.rising (sym c.in-Some.ensures.value) in omega (arith, n.last, ap (λ (s : Space). s.base) c.self.view_is, ap (λ (s : Space). s.size) c.self.view_is)

pub overflow_add-start : goal.overflow_add-start
overflow_add-start c = let n = next_fit c.loop-start.from c.rounded-size.result c.args.self.now.base c.args.self.now.holes (c.args.self.now.base + c.args.self.now.size) (c.in-Some.start, c.in-Some.room) (omega arith) c.next_fit.ensures.canonical.rising (sym c.in-Some.ensures.value) in omega (arith, n.last, c.next_fit.ensures.canonical.base_limit, c.next_fit.ensures.canonical.size_limit)

pub returns-then-place-size-clause-place : goal.returns-then-place-size-clause-place
returns-then-place-size-clause-place c =
    let n = next_fit c.loop-start.from c.rounded-size.result c.args.self.now.base c.args.self.now.holes (c.args.self.now.base + c.args.self.now.size) (c.in-Some.start, c.in-Some.room) (omega arith) c.next_fit.ensures.canonical.rising (sym c.in-Some.ensures.value) in
    rw (← c.rounded-size.ensures.value) (fit_found c.args.self.now.base (c.in-Some.start, c.in-Some.room) _ (c.args.self.now.base + c.args.self.now.size) c.args.self.now.holes c.args.listed.now c.rounded-size.result c.past-place.result (omega arith) n.rising n.sub c.past-place.ensures.not_before c.if-place-size.true c.past-place.ensures.outside c.past-place.ensures.least (λ q f. n.fits q (c.loop-start.invariant q f)))

pub returns-then-place-size-clause-aligned : goal.returns-then-place-size-clause-aligned
returns-then-place-size-clause-aligned c = λ places. c.past-place.ensures.aligned places (aligned_there (λ h. nat_le c.loop-start.from h.0 && nat_le c.rounded-size.result h.1) c.args.self.now.holes (c.in-Some.start, c.in-Some.room) c.next_fit.ensures.canonical.aligned (sym c.in-Some.ensures.value)).0

pub loop-start-smaller : goal.loop-start-smaller
loop-start-smaller c = let n = next_fit c.loop-start.from c.rounded-size.result c.args.self.now.base c.args.self.now.holes (c.args.self.now.base + c.args.self.now.size) (c.in-Some.start, c.in-Some.room) (omega arith) c.next_fit.ensures.canonical.rising (sym c.in-Some.ensures.value) in omega (arith, n.last, n.not_before, n.large, c.rounded-size.ensures.not_less, c.requires.need)

pub loop-start-preserved : goal.loop-start-preserved
loop-start-preserved c =
    let n = next_fit c.loop-start.from c.rounded-size.result c.args.self.now.base c.args.self.now.holes (c.args.self.now.base + c.args.self.now.size) (c.in-Some.start, c.in-Some.room) (omega arith) c.next_fit.ensures.canonical.rising (sym c.in-Some.ensures.value) in
    tried c.args.self.now.base (c.in-Some.start, c.in-Some.room) _ (c.args.self.now.base + c.args.self.now.size) c.args.self.now.holes c.args.listed.now c.rounded-size.result c.past-place.result (omega arith) n.rising c.if-place-size.false c.past-place.ensures.least (λ q f. n.fits q (c.loop-start.invariant q f))

pub returns-clause-none : goal.returns-clause-none
returns-clause-none c = rw (← c.rounded-size.ensures.value) (λ q f. no_fit c.loop-start.from c.rounded-size.result c.args.self.now.base c.args.self.now.holes (c.args.self.now.base + c.args.self.now.size) q (omega arith) c.next_fit.ensures.canonical.rising (sym c.in_default.ensures.value) (c.loop-start.invariant q f))
