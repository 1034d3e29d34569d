use Rattle.std.proofs.Common.{ℕ, ◌≡◌, List, None, sym, ap, subst, ◌∙◌, arith}
use Rattle.std.specs.List.{AllByRecursion}
use Rattle.acc_base.specs.declared.mappings.Range.{Range}
use Rattle.acc_base.specs.declared.mappings.Found.TheVariants.{Absent}
use Rattle.acc_base.specs.Ranges.{where_is, range_of, with_range}
use Rattle.acc_base.proofs.RangeChanges.{all_with}
use Rattle.acc_index.specs.Indexed.{value_at}
use Rattle.acc_index.proofs.Indexing.{value-with}
use Rattle.acc_ordered.specs.Listing.{KeyValue, keyed, with_entry}
use Rattle.acc_present.specs.declared.ranges.Mapping.{Mapping}
use Rattle.acc_present.specs.Present.{PresentState, IsWithinLimit, with_ranges}
use Rattle.acc_present.specs.Kept.{start_in, ranges_in, mapping_of}
use Rattle.acc_present.proofs.Mapping.{absent_start, start_new, with_entry-ranges, mapped_now}
use Rattle.acc_present.proofs.presence.Present.add_reserved.Goals as goal

pub insert-requires-clause-new : goal.insert-requires-clause-new
insert-requires-clause-new c = absent_start c.args.range c.self.inside.ranges.entries c.self.invariant.2.mapped (subst (λ (rs : List Range). where_is c.args.range.section rs ≡ Absent) (sym (ap (λ (p : PresentState). p.table.ranges) c.self.view_is)) c.requires.absent)

entries : (c : goal.After-insert-2) → c.insert.new.self.entries ≡ with_entry (keyed c.args.range.section.start (mapping_of c.args.range)) c.self.inside.ranges.entries
entries c = c.insert.ensures.entries ∙ ap (λ (m : Mapping). with_entry (keyed c.args.range.section.start m) c.self.inside.ranges.entries) c.of.ensures

ranges : (c : goal.After-insert-2) → ranges_in c.insert.new.self.entries ≡ with_range c.args.range (ranges_in c.self.inside.ranges.entries)
ranges c = ap ranges_in (entries c) ∙ with_entry-ranges (keyed c.args.range.section.start (mapping_of c.args.range)) c.self.inside.ranges.entries

-- no range is mapped to the block
none_kept : (c : goal.After-insert-2) → range_of c.args.range.block (ranges_in c.self.inside.ranges.entries) ≡ None
none_kept c = subst (λ (rs : List Range). range_of c.args.range.block rs ≡ None) (sym (ap (λ (p : PresentState). p.table.ranges) c.self.view_is)) c.requires.new

pub invariant_of-self : goal.invariant_of-self
invariant_of-self c =
    let es = c.self.inside.ranges.entries in
    let most = c.self.inside.counter_max in
    let whole = sym (ap (λ (p : PresentState). p.table.ranges) c.self.view_is) in
    let new : KeyValue Mapping = keyed c.args.range.section.start (mapping_of c.args.range) in (
      c.self.invariant.0,
      subst (λ (rs : List Range). AllByRecursion (IsWithinLimit most) rs) (sym (ranges c)) (all_with (IsWithinLimit most) c.args.range (ranges_in es) (subst (λ (n : ℕ). IsWithinLimit n c.args.range) (sym (ap (λ (p : PresentState). p.table.counter_max) c.self.view_is)) c.requires.within) c.self.invariant.1),
      rw (entries c) (mapped_now new es (start_in c.self.inside.starts) (start_in c.insert-2.new.self) c.self.invariant.2 (omega arith)
          (subst (λ (rs : List Range). where_is c.args.range.section rs ≡ Absent) whole c.requires.absent)
          (none_kept c) (λ b. ap (value_at b) c.insert-2.ensures.entries ∙ value-with c.args.range.block b c.args.range.section.start c.self.inside.starts.entries (start_new c.args.range.block es (start_in c.self.inside.starts) c.self.invariant.2 (none_kept c)))),
    )

pub returns-clause-table : goal.returns-clause-table
returns-clause-table c =
    ap (λ (rs : List Range). record { counter_max = c.self.inside.counter_max; ranges = rs; regions = c.self.inside.register.regions }) (ranges c)
    ∙ ap (λ (p : PresentState). with_ranges p.table (with_range c.args.range p.table.ranges)) c.self.view_is
