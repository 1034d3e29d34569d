use Rattle.std.proofs.Common.{◌≡◌, List, Some, sym, ap, subst, ◌∙◌, arith}
use Rattle.std.specs.Prelude.{◌==◌}
use Rattle.std.specs.List.{AllByRecursion}
use Rattle.acc_base.specs.declared.mappings.Range.{Range}
use Rattle.acc_base.specs.Ranges.{range_of, changed_at}
use Rattle.acc_base.specs.Tasks.{recounted}
use Rattle.acc_base.proofs.Elements.{found_has}
use Rattle.acc_base.proofs.Sound.{recounted_keeps}
use Rattle.acc_present.specs.Present.{PresentState, IsWithinLimit, IsBelowLimit, with_ranges}
use Rattle.acc_present.specs.Kept.{start_in, ranges_in, mapping_of}
use Rattle.acc_present.proofs.Limits.{all_recounted}
use Rattle.acc_present.proofs.Mapping.{IsChangedNow, key_there, written_now}
use Rattle.acc_present.proofs.presence.Present.recount.Goals as goal

pub set-requires : goal.set-requires
set-requires c =
    let there : range_of c.args.block (ranges_in c.self.inside.ranges.entries) ≡ Some c.in-Some.range = ap (λ (p : PresentState). range_of c.args.block p.table.ranges) c.self.view_is ∙ sym c.range_near-found.ensures ∙ c.in-Some.is in
    record { there = key_there c.args.block c.self.inside.ranges.entries c.in-Some.range c.self.invariant.2.mapped there }

there : (c : goal.After-set) → range_of c.args.block (ranges_in c.self.inside.ranges.entries) ≡ Some c.in-Some.range
there c = ap (λ (p : PresentState). range_of c.args.block p.table.ranges) c.self.view_is ∙ sym c.range_near-found.ensures ∙ c.in-Some.is

now : (c : goal.After-set) → IsChangedNow c.args.block (recounted c.args.task.now) c.self.inside.ranges.entries c.set.new.self.entries (start_in c.self.inside.starts)
now c =
    let es = c.self.inside.ranges.entries in
    let within = found_has (IsWithinLimit c.self.inside.counter_max) (λ r. r.block == c.args.block) (ranges_in es) c.in-Some.range c.self.invariant.1 (there c) in
    let left = c.recounted.ensures (omega (arith, within.0.structured, c.self.invariant.0)) (omega (arith, within.0.dynamic, c.self.invariant.0)) in
    written_now c.args.block (recounted c.args.task.now) es c.set.new.self.entries (start_in c.self.inside.starts) c.in-Some.range c.of-left.result (recounted_keeps c.args.task.now) c.self.invariant.2 (there c) (c.of-left.ensures ∙ ap mapping_of left) c.set.ensures.entries

pub invariant_of-self : goal.invariant_of-self
invariant_of-self c =
    let most = c.self.inside.counter_max in
    let rs = ranges_in c.self.inside.ranges.entries in
    let below = subst (λ (p : PresentState). IsBelowLimit p.table.counter_max c.args.task.now c.args.block p.table.ranges) (sym c.self.view_is) c.requires.can.below in (
      c.self.invariant.0,
      subst (λ (ts : List Range). AllByRecursion (IsWithinLimit most) ts) (sym (now c).ranges) (all_recounted most c.args.task.now c.args.block rs c.in-Some.range c.self.invariant.2.mapped.own_block (there c) below c.self.invariant.1),
      (now c).indexed,
    )

pub returns-clause-table : goal.returns-clause-table
returns-clause-table c =
    ap (λ (rs : List Range). record { counter_max = c.self.inside.counter_max; ranges = rs; regions = c.self.inside.register.regions }) (now c).ranges
    ∙ ap (λ (p : PresentState). with_ranges p.table (changed_at c.args.block (recounted c.args.task.now) p.table.ranges)) c.self.view_is
