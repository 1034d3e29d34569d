use Rattle.std.proofs.Common.{ℕ, List, ◌≡◌, ◌+◌, ◌≤◌, ◌<◌, Option, Some, sym, subst, ap, ◌∙◌, arith}
use Rattle.std.specs.Prelude.{option_map, IfSome}
use Rattle.std.proofs.lemmas.Bool.Decides.{nat_tests}
use Rattle.acc_base.specs.declared.mappings.Range.{Range}
use Rattle.acc_base.specs.Ranges.{range_from, range_of, where_is_apart}
use Rattle.acc_ordered.specs.Listing.{KeyValue, first_from, seen}
use Rattle.acc_present.specs.Present.{PresentState}
use Rattle.acc_present.specs.declared.ranges.Mapping.{Mapping}
use Rattle.acc_present.specs.Kept.{range_in, ranges_in, IsNext}
use Rattle.acc_present.proofs.Finding.{last_filled, told_last, silent_last, no_last, from_behind, last_own}
use Rattle.acc_present.proofs.Mapping.{first-ranges, last_found}
use Rattle.acc_present.proofs.presence.Present.locate.Goals as goal
use Rattle.acc_present.proofs.presence.Present.locate.Goals.{in-Some+in_default-told_by, in_default}

pub told_by-requires-clause-mapped : goal.told_by-requires-clause-mapped
told_by-requires-clause-mapped c =
    let k = c.saturating_add.result in
    let es = c.self.inside.ranges.entries in
    let last = last_found k es (seen (λ (key : ℕ). key) c.around_counted-around.result.before) c.range_if.result c.around_counted-around.ensures.before c.range_if.ensures in
    last_filled k (ranges_in es) c.in-Some.range c.self.invariant.2.mapped (last ∙ c.in-Some.is)

pub returns-in-Some-told_by-clause-found : goal.returns-in-Some-told_by-clause-found
returns-in-Some-told_by-clause-found c =
    let k = c.saturating_add.result in
    let es = c.self.inside.ranges.entries in
    let near : k ≤ c.args.section.start + 1 = omega (arith, c.saturating_add.ensures) in
    let some : 0 < c.args.section.len = grind (arith, nat_tests, c.if-section-eq0.false) in
    let last = last_found k es (seen (λ (key : ℕ). key) c.around_counted-around.result.before) c.range_if.result c.around_counted-around.ensures.before c.range_if.ensures in
    told_last k c.args.section c.args.blocks.now (ranges_in es) c.in-Some.range c.in-Some-told_by.found near some c.self.invariant.2.mapped (last ∙ c.in-Some.is) c.in-Some-told_by.ensures.told
    ∙ ap (λ (p : PresentState). where_is_apart c.args.section c.args.blocks.now p.table.ranges) c.self.view_is

-- the first range from the address on that was searched for
first : (k : ℕ) (es : List (KeyValue Mapping)) (from : Option (KeyValue Mapping)) (next : Option Range) → from ≡ first_from k es → next ≡ option_map range_in from → next ≡ range_from k (ranges_in es)
first k es from next found is = is ∙ ap (option_map range_in) found ∙ first-ranges k es

pub returns-clause-next : goal.returns-clause-next
returns-clause-next c =
    let k = c.saturating_add.result in
    let es = c.self.inside.ranges.entries in
    let near : k ≤ c.args.section.start + 1 = omega (arith, c.saturating_add.ensures) in
    let some : 0 < c.args.section.len = grind (arith, nat_tests, c.if-section-eq0.false) in
    let last = last_found k es (seen (λ (key : ℕ). key) c.around_counted-around.result.before) c.range_if.result c.around_counted-around.ensures.before c.range_if.ensures in
    let next : IsNext c.args.section c.args.blocks.now (ranges_in es) (range_from k (ranges_in es)) = elim c.match-range_if.branch [
      | in-Some+in_default-told_by w ↦ silent_last k c.args.section c.args.blocks.now (ranges_in es) w.in-Some.range near some c.self.invariant.2.mapped (last ∙ w.in-Some.is) w.in_default-told_by.ensures.silent
      | in_default w ↦ no_last k c.args.section c.args.blocks.now (ranges_in es) some c.self.invariant.2.mapped (last ∙ w.in_default.is)
    ] in
    subst (λ (p : PresentState). IsNext c.args.section c.args.blocks.now p.table.ranges c.range_if-next.result) c.self.view_is (subst (λ (o : Option Range). IsNext c.args.section c.args.blocks.now (ranges_in es) o) (sym (first c.saturating_add.result c.self.inside.ranges.entries (seen (λ (key : ℕ). key) c.around_counted-around.result.from) c.range_if-next.result c.around_counted-around.ensures.from c.range_if-next.ensures)) next)

pub returns-clause-behind : goal.returns-clause-behind
returns-clause-behind c =
    let le : c.args.section.start ≤ c.saturating_add.result = omega (arith, c.saturating_add.ensures) in
    subst (λ (o : Option Range). IfSome o (λ (r : Range). c.args.section.start ≤ r.section.start)) (sym (first c.saturating_add.result c.self.inside.ranges.entries (seen (λ (key : ℕ). key) c.around_counted-around.result.from) c.range_if-next.result c.around_counted-around.ensures.from c.range_if-next.ensures)) (from_behind c.args.section.start c.saturating_add.result (ranges_in c.self.inside.ranges.entries) le)

pub returns-in-Some-told_by-clause-range : goal.returns-in-Some-told_by-clause-range
returns-in-Some-told_by-clause-range c =
    let k = c.saturating_add.result in
    let es = c.self.inside.ranges.entries in
    let last = last_found k es (seen (λ (key : ℕ). key) c.around_counted-around.result.before) c.range_if.result c.around_counted-around.ensures.before c.range_if.ensures in
    subst (λ (p : PresentState). range_of c.in-Some.range.block p.table.ranges ≡ Some c.in-Some.range) c.self.view_is (last_own k (ranges_in es) c.in-Some.range c.self.invariant.2.mapped (last ∙ c.in-Some.is))
