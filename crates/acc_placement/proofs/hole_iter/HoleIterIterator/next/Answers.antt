use Rattle.std.proofs.Common.{◌+◌, arith, rules, sym, ◌∙◌}
use Rattle.acc_placement.proofs.Rest.{no_hole_from, hole_found_from, rest_from}
use Rattle.acc_placement.proofs.hole_iter.HoleIterIterator.next.Goals as goal

pub returns-in_err-hole-clause-steps : goal.returns-in_err-hole-clause-steps
returns-in_err-hole-clause-steps c =
    let none = no_hole_from c.args.self.now.from c.args.self.now.holes.now.holes (sym c.next_hole.ensures ∙ c.in_err-hole.was) in
    rw c.from_residual.ensures (search (rules, none))

pub overflow_add-self : goal.overflow_add-self
overflow_add-self c =
    let b = hole_found_from c.args.self.now.from c.args.self.now.holes.now.base c.args.self.now.holes.now.holes (c.args.self.now.holes.now.base + c.args.self.now.holes.now.size) c.in_ok-hole.hole c.laws.ensures.rising (sym c.next_hole.ensures ∙ c.in_ok-hole.was) in
    omega (arith, b.1, c.laws.ensures.base_limit, c.laws.ensures.size_limit)

pub returns-clause-steps : goal.returns-clause-steps
returns-clause-steps c = rest_from c.args.self.now.from c.args.self.now.holes.now.base c.args.self.now.holes.now.holes (c.args.self.now.holes.now.base + c.args.self.now.holes.now.size) c.in_ok-hole.hole c.laws.ensures.rising (sym c.next_hole.ensures ∙ c.in_ok-hole.was)

pub returns-clause-goes : goal.returns-clause-goes
returns-clause-goes c = let e = returns-clause-steps c in search rules
