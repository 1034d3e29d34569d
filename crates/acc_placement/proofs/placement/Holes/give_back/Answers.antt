use Rattle.std.proofs.Common.{refl, ◌+◌, ◌^◌, arith}
use Rattle.acc_placement.specs.Holes.{space_of}
use Rattle.acc_placement.proofs.Rising.{rising_from, rising_to, total_le}
use Rattle.acc_placement.proofs.Giving.{TellsTaken, giving_told, given_partition}
use Rattle.acc_placement.proofs.placement.Holes.give_back.Goals as goal

-- what the condition says of the fields
known : (c : goal.After-fill-arg-1) → TellsTaken (space_of c.self.inside) c.args.place c.rounded-size.result
known c = giving_told c.args.self.now (space_of c.self.inside) c.args.place c.rounded-size.result _ c.self.view_is c.rounded-size.ensures.value (omega arith) c.self.invariant.canonical c.requires.taken

pub fill-requires-clause-rising : goal.fill-requires-clause-rising
fill-requires-clause-rising c = rising_to 0 c.self.inside.holes.holes (c.self.inside.base + c.self.inside.size) (2 ^ 41) (omega arith) (rising_from c.self.inside.base 0 c.self.inside.holes.holes (c.self.inside.base + c.self.inside.size) (omega arith) c.self.invariant.canonical.rising)

pub fill-requires-clause-limit : goal.fill-requires-clause-limit
fill-requires-clause-limit c = let k = known c in omega (arith, k.limit)

pub fill-requires-clause-not_free : goal.fill-requires-clause-not_free
fill-requires-clause-not_free c =
    (known c).not_free

pub fill-requires-clause-room : goal.fill-requires-clause-room
fill-requires-clause-room c =
    let k = known c in
    λ new f. omega (arith, k.room new (2 ^ 41) f)

pub overflow_sub-self-2 : goal.overflow_sub-self-2
overflow_sub-self-2 c =
    let k = giving_told c.args.self.now (space_of c.self.inside) c.args.place c.rounded-size.result _ c.self.view_is c.rounded-size.ensures.value (omega arith) c.self.invariant.canonical c.requires.taken in
    let f = c.fill.ensures.filled c.self.inside.base (c.self.inside.base + c.self.inside.size) c.self.invariant.canonical.rising k.limit.0 k.limit.1 in
    let le = total_le c.self.inside.base c.fill.new.holes.holes (c.self.inside.base + c.self.inside.size) (omega arith) f.rising in
    omega (arith, f.used, c.self.invariant.used)

pub invariant_of-self : goal.invariant_of-self
invariant_of-self c =
    let k = giving_told c.args.self.now (space_of c.self.inside) c.args.place c.rounded-size.result _ c.self.view_is c.rounded-size.ensures.value (omega arith) c.self.invariant.canonical c.requires.taken in
    let f = c.fill.ensures.filled c.self.inside.base (c.self.inside.base + c.self.inside.size) c.self.invariant.canonical.rising k.limit.0 k.limit.1 in
    let le = total_le c.self.inside.base c.fill.new.holes.holes (c.self.inside.base + c.self.inside.size) (omega arith) f.rising in
    record {
      canonical = record {
        base_limit = c.self.invariant.canonical.base_limit;
        base_aligned = c.self.invariant.canonical.base_aligned;
        size_limit = c.self.invariant.canonical.size_limit;
        rising = f.rising;
        aligned = f.aligned c.self.invariant.canonical.aligned k.aligned c.rounded-size.ensures.multiple;
      };
      used = omega (arith, f.used, c.self.invariant.used);
      few = omega (arith, k.bytes, c.self.invariant.used);
      room = omega (arith, c.fill.ensures.nodes, c.self.invariant.room);
    }

pub returns-clause-given_back : goal.returns-clause-given_back
returns-clause-given_back c =
    let k = giving_told c.args.self.now (space_of c.self.inside) c.args.place c.rounded-size.result _ c.self.view_is c.rounded-size.ensures.value (omega arith) c.self.invariant.canonical c.requires.taken in
    let f = c.fill.ensures.filled c.self.inside.base (c.self.inside.base + c.self.inside.size) c.self.invariant.canonical.rising k.limit.0 k.limit.1 in
    let le = total_le c.self.inside.base c.fill.new.holes.holes (c.self.inside.base + c.self.inside.size) (omega arith) f.rising in
    rw (← c.rounded-size.ensures.value, ← c.self.view_is) (record { base = refl; size = refl; taken = omega (arith, k.count); used = f.used; free = f.free; kept = f.kept })

pub returns-clause-canonical : goal.returns-clause-canonical
returns-clause-canonical c = (invariant_of-self c).canonical

pub returns-clause-partition : goal.returns-clause-partition
returns-clause-partition c = λ before after part. given_partition _ _ before after _ _ (returns-clause-given_back c) part
