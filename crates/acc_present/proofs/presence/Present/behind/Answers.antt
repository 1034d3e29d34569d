use Rattle.std.proofs.Common.{◌≡◌, ◌+◌, ◌≤◌, ◌^◌, ap, sym, ◌∙◌, arith}
use Rattle.std.specs.Prelude.{ℕ, option_map}
use Rattle.acc_base.specs.Ranges.{range_from}
use Rattle.acc_present.specs.Present.{PresentState}
use Rattle.acc_present.specs.Kept.{range_in}
use Rattle.acc_present.proofs.Mapping.{first-ranges, none_past}
use Rattle.acc_present.proofs.presence.Present.behind.Goals as goal

pub returns-in_err-checked_add : goal.returns-in_err-checked_add
returns-in_err-checked_add c =
    let past : 2 ^ 64 ≤ c.args.range.section.start + 1 = grind (arith, c.in_err-checked_add.ensures) in
    c.from_residual.ensures ∙ sym (none_past (c.args.range.section.start + 1) c.self.inside.ranges.entries past c.self.invariant.2.at_addresses) ∙ ap (λ (p : PresentState). range_from (c.args.range.section.start + 1) p.table.ranges) c.self.view_is

pub returns : goal.returns
returns c =
    let from : c.in_ok-checked_add.field-0 ≡ c.args.range.section.start + 1 = c.in_ok-checked_add.ensures.1 in
    c.range_if.ensures ∙ ap (option_map range_in) c.next.ensures ∙ first-ranges c.in_ok-checked_add.field-0 c.self.inside.ranges.entries ∙ ap (λ (p : PresentState). range_from c.in_ok-checked_add.field-0 p.table.ranges) c.self.view_is ∙ ap (λ (k : ℕ). range_from k c.args.self.now.table.ranges) from
