use Rattle.std.proofs.Common.{ℕ, List, IsSome, sym, ap, subst, ◌∙◌}
use Rattle.std.specs.Prelude.{◌==◌, not}
use Rattle.std.specs.List.{AllByRecursion}
use Rattle.acc_base.specs.declared.mappings.Range.{Range}
use Rattle.acc_base.specs.Ranges.{without_range}
use Rattle.acc_base.proofs.Elements.{AllByRecursion-filter}
use Rattle.acc_index.specs.Indexed.{value_at}
use Rattle.acc_index.proofs.Indexing.{value-without}
use Rattle.acc_ordered.specs.Listing.{at_key}
use Rattle.acc_present.specs.Present.{PresentState, IsWithinLimit, with_ranges}
use Rattle.acc_present.specs.Kept.{start_in, ranges_in}
use Rattle.acc_present.proofs.Mapping.{IsUnmappedNow, key_there, started, unmapped_now}
use Rattle.acc_present.proofs.presence.Present.end_mapping.Goals as goal

pub remove-requires : goal.remove-requires
remove-requires c =
    let es = c.self.inside.ranges.entries in
    let found = started c.args.block c.take_out_near-start.result es (start_in c.self.inside.starts) c.self.invariant.2 c.take_out_near-start.ensures.value in
    record { there = subst (λ (n : ℕ). IsSome (at_key n es)) found.2 (key_there c.args.block es found.0 c.self.invariant.2.mapped found.1) }

now : (c : goal.After-remove) → IsUnmappedNow c.args.block c.self.inside.ranges.entries c.remove.new.self.entries (start_in c.take_out_near-start.new.self)
now c =
    let es = c.self.inside.ranges.entries in
    let starts = start_in c.self.inside.starts in
    let found = started c.args.block c.take_out_near-start.result es starts c.self.invariant.2 c.take_out_near-start.ensures.value in
    rw (c.remove.ensures.entries, ← found.2) (unmapped_now c.args.block es starts (start_in c.take_out_near-start.new.self) found.0 c.self.invariant.2 found.1 (λ b. ap (value_at b) c.take_out_near-start.ensures.entries ∙ value-without c.args.block b c.self.inside.starts.entries))

pub invariant_of-self : goal.invariant_of-self
invariant_of-self c =
    let most = c.self.inside.counter_max in (
      c.self.invariant.0,
      subst (λ (rs : List Range). AllByRecursion (IsWithinLimit most) rs) (sym (now c).ranges) (AllByRecursion-filter (IsWithinLimit most) (λ r. not (r.block == c.args.block)) (ranges_in c.self.inside.ranges.entries) c.self.invariant.1),
      (now c).indexed,
    )

pub returns-clause-table : goal.returns-clause-table
returns-clause-table c =
    ap (λ (rs : List Range). record { counter_max = c.self.inside.counter_max; ranges = rs; regions = c.self.inside.register.regions }) (now c).ranges
    ∙ ap (λ (p : PresentState). with_ranges p.table (without_range c.args.block p.table.ranges)) c.self.view_is
