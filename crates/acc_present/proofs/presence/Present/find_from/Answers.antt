use Rattle.std.proofs.Common.{◌<◌, Option, Some, sym, subst}
use Rattle.acc_base.specs.declared.mappings.Range.{Range}
use Rattle.acc_present.specs.Kept.{IsNext}
use Rattle.acc_present.proofs.Finding.{next_filled, told_next, silent_next, ranges_left, left_less, next_own}
use Rattle.acc_present.proofs.presence.Present.find_from.Goals as goal

pub told_by-requires-clause-mapped : goal.told_by-requires-clause-mapped
told_by-requires-clause-mapped c = next_filled c.args.section c.args.blocks.now c.args.self.now.table.ranges c.in-Some.range c.laws.ensures.mapped (subst (λ (o : Option Range). IsNext c.args.section c.args.blocks.now c.args.self.now.table.ranges o) c.in-Some.is c.loop-next.invariant)

pub returns-in-Some-told_by-clause-found : goal.returns-in-Some-told_by-clause-found
returns-in-Some-told_by-clause-found c = told_next c.args.section c.args.blocks.now c.args.self.now.table.ranges c.in-Some.range c.in-Some-told_by.found c.laws.ensures.mapped (subst (λ (o : Option Range). IsNext c.args.section c.args.blocks.now c.args.self.now.table.ranges o) c.in-Some.is c.loop-next.invariant) c.in-Some-told_by.ensures.told

pub loop-next-smaller : goal.loop-next-smaller
loop-next-smaller c =
    let rs = c.args.self.now.table.ranges in
    subst (λ (o : Option Range). ranges_left c.behind-next.result rs < ranges_left o rs) (sym c.in-Some.is)
    (subst (λ (o : Option Range). ranges_left o rs < ranges_left (Some c.in-Some.range) rs) (sym c.behind-next.ensures) (left_less c.args.section c.args.blocks.now rs c.in-Some.range c.laws.ensures.mapped (subst (λ (o : Option Range). IsNext c.args.section c.args.blocks.now c.args.self.now.table.ranges o) c.in-Some.is c.loop-next.invariant)))

pub loop-next-preserved : goal.loop-next-preserved
loop-next-preserved c =
    let rs = c.args.self.now.table.ranges in
    subst (λ (o : Option Range). IsNext c.args.section c.args.blocks.now rs o) (sym c.behind-next.ensures) (silent_next c.args.section c.args.blocks.now rs c.in-Some.range c.requires.some c.laws.ensures.mapped (subst (λ (o : Option Range). IsNext c.args.section c.args.blocks.now c.args.self.now.table.ranges o) c.in-Some.is c.loop-next.invariant) c.in_default-told_by.ensures.silent)

pub returns-in-Some-told_by-clause-range : goal.returns-in-Some-told_by-clause-range
returns-in-Some-told_by-clause-range c = next_own c.args.section c.args.blocks.now c.args.self.now.table.ranges c.in-Some.range c.laws.ensures.mapped (subst (λ (o : Option Range). IsNext c.args.section c.args.blocks.now c.args.self.now.table.ranges o) c.in-Some.is c.loop-next.invariant)
