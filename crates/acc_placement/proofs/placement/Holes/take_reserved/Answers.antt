use Rattle.std.proofs.Common.{ℕ, refl, ◌+◌, ◌<◌, arith, subst, sym}
use Rattle.acc_placement.specs.Changes.{IsCut}
use Rattle.acc_placement.specs.Ranges.{IsFit}
use Rattle.acc_placement.specs.Space.{Space, IsCanonical}
use Rattle.acc_placement.specs.Holes.{space_of}
use Rattle.acc_placement.proofs.Fronts.{some_fits, least_fit, front_taken, front_aligned}
use Rattle.acc_placement.proofs.Giving.{taken_partition, free_within}
use Rattle.acc_placement.proofs.placement.Holes.take_reserved.Goals as goal

pub take_front-hole-requires-clause-fits : goal.take_front-hole-requires-clause-fits
take_front-hole-requires-clause-fits c =
    let pos : 0 < c.rounded-size.result = omega arith in
    let f : (q : ℕ) × IsFit c.self.inside.holes.holes c.rounded-size.result q = subst (λ (s : Space). (q : ℕ) × IsFit s.holes c.rounded-size.result q) (sym c.self.view_is) (rw c.rounded-size.ensures.value c.requires.fits) in
    some_fits c.self.inside.base c.self.inside.holes.holes (c.self.inside.base + c.self.inside.size) c.rounded-size.result f.0 pos c.self.invariant.canonical.rising f.1

pub overflow_add-self : goal.overflow_add-self
overflow_add-self c = omega (arith, c.self.invariant.few, c.self.invariant.used, c.self.invariant.canonical.size_limit)

pub invariant_of-self : goal.invariant_of-self
invariant_of-self c =
    let pos : 0 < c.rounded-size.result = omega arith in
    let k : IsCut c.self.inside.base (c.self.inside.base + c.self.inside.size) c.self.inside.holes.holes c.take_front-hole.new.self.holes c.take_front-hole.result.0 c.rounded-size.result = rw c.take_front-hole.ensures.holes (front_taken c.self.inside.base c.self.inside.holes.holes (c.self.inside.base + c.self.inside.size) c.rounded-size.result c.take_front-hole.result pos c.self.invariant.canonical.rising c.take_front-hole.ensures.hole) in
    let a = front_aligned c.self.inside.holes.holes c.rounded-size.result c.take_front-hole.result pos c.take_front-hole.ensures.hole c.self.invariant.canonical.aligned c.rounded-size.ensures.multiple in
    let room = rw (← c.self.view_is) at c.requires.room in
    record {
      canonical = record {
        base_limit = c.self.invariant.canonical.base_limit;
        base_aligned = c.self.invariant.canonical.base_aligned;
        size_limit = c.self.invariant.canonical.size_limit;
        rising = k.rising;
        aligned = rw c.take_front-hole.ensures.holes a.0;
      };
      used = omega (arith, k.used, c.self.invariant.used);
      few = omega (arith, c.self.invariant.few, pos);
      room = omega (arith, c.take_front-hole.ensures.nodes, c.self.invariant.room, room);
    }

pub returns-clause-place : goal.returns-clause-place
returns-clause-place c =
    let pos : 0 < c.rounded-size.result = omega arith in
    rw (← c.rounded-size.ensures.value, ← c.self.view_is) (least_fit c.self.inside.base c.self.inside.holes.holes (c.self.inside.base + c.self.inside.size) c.rounded-size.result c.take_front-hole.result pos c.self.invariant.canonical.rising c.take_front-hole.ensures.hole)

pub returns-clause-taken : goal.returns-clause-taken
returns-clause-taken c =
    let pos : 0 < c.rounded-size.result = omega arith in
    let k : IsCut c.self.inside.base (c.self.inside.base + c.self.inside.size) c.self.inside.holes.holes c.take_front-hole.new.self.holes c.take_front-hole.result.0 c.rounded-size.result = rw c.take_front-hole.ensures.holes (front_taken c.self.inside.base c.self.inside.holes.holes (c.self.inside.base + c.self.inside.size) c.rounded-size.result c.take_front-hole.result pos c.self.invariant.canonical.rising c.take_front-hole.ensures.hole) in
    let a = front_aligned c.self.inside.holes.holes c.rounded-size.result c.take_front-hole.result pos c.take_front-hole.ensures.hole c.self.invariant.canonical.aligned c.rounded-size.ensures.multiple in
    rw (← c.rounded-size.ensures.value, ← c.self.view_is) (record {
      base = refl;
      size = refl;
      taken = refl;
      used = k.used;
      aligned = a.1;
      within = free_within (space_of c.self.inside) c.take_front-hole.result.0 c.rounded-size.result pos c.self.invariant.canonical k.was_free;
      kept = k.kept;
      free = k.free;
      was_free = k.was_free;
    })

pub returns-clause-canonical : goal.returns-clause-canonical
returns-clause-canonical c = (invariant_of-self c).canonical

pub returns-clause-partition : goal.returns-clause-partition
returns-clause-partition c = λ ts part.
    let s : IsCanonical c.args.self.now = subst (λ (r : Space). IsCanonical r) c.self.view_is c.self.invariant.canonical in
    let some : 0 < c.rounded-size.result = omega arith in
    taken_partition c.args.self.now _ ts c.take_front-hole.result.0 _ (rw (← c.rounded-size.ensures.value) some) (rw (← c.rounded-size.ensures.value) c.rounded-size.ensures.multiple) s (returns-clause-taken c) part
