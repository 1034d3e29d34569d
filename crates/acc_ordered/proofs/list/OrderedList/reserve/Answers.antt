use Rattle.std.proofs.Common.{◌-◌, ◌^◌, length, deque_len, ap, arith}
use Rattle.acc_ordered.proofs.HalfFull.{few_rows}
use Rattle.acc_ordered.proofs.list.OrderedList.reserve.Goals as goal

pub overflow_sub-enough : goal.overflow_sub-enough
overflow_sub-enough g c = omega (arith, few_rows c.self.inside.rows.items c.self.invariant.half_full, c.self.invariant.counted)

pub invariant_of-self : goal.invariant_of-self
invariant_of-self g c =
    let same = ap length c.make_rows.ensures.same in
    let few = few_rows c.self.inside.rows.items c.self.invariant.half_full in
    let more = c.make_rows.ensures.not_more (2 ^ 57 - deque_len c.self.inside.rows) (omega (arith, c.self.invariant.few)) (omega (arith, few, c.self.invariant.counted, c.self.invariant.few)) in
    record {
      rows = c.make_rows.ensures.rows;
      half_full = rw c.make_rows.ensures.same c.self.invariant.half_full;
      counted = rw c.make_rows.ensures.same c.self.invariant.counted;
      few = omega (arith, more, same, c.self.invariant.few);
    }
