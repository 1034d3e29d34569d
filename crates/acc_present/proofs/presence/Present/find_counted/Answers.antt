use Rattle.std.proofs.Common.{◌≡◌, ◌≤◌, List, ◌∷◌, Option, Some, None, sym, subst, ◌∙◌, []}
use Rattle.std.specs.Prelude.{IfSome, IfNone, unwrap_or}
use Rattle.acc_base.specs.declared.mappings.Found.{Found}
use Rattle.acc_base.specs.declared.mappings.Found.TheVariants.{Absent}
use Rattle.acc_base.specs.declared.mappings.Range.{Range}
use Rattle.acc_base.specs.Ranges.{where_is, where_is_apart}
use Rattle.acc_present.specs.Present.{AreMapped}
use Rattle.acc_present.specs.Kept.{IsNext}
use Rattle.acc_present.proofs.Finding.{apart_from_none, next_filled, told_next, silent_absent}
use Rattle.acc_present.proofs.presence.Present.find_counted.Goals as goal

pub told_by-requires-clause-mapped : goal.told_by-requires-clause-mapped
told_by-requires-clause-mapped c = next_filled c.args.section [] c.args.self.now.table.ranges c.in-Err-Some-default.range c.laws.ensures.mapped (subst (λ (o : Option Range). IsNext c.args.section [] c.args.self.now.table.ranges o) c.in-Err-Some-default.field-0-0-is c.in-Err-Some-default.ensures.next)

pub returns-in-Ok-clause-found : goal.returns-in-Ok-clause-found
returns-in-Ok-clause-found c = c.in-Ok.ensures.found ∙ apart_from_none c.args.section c.args.self.now.table.ranges

pub returns-in-Err-None-default-clause-found : goal.returns-in-Err-None-default-clause-found
returns-in-Err-None-default-clause-found c = sym (subst (λ (o : Option Range). IsNext c.args.section [] c.args.self.now.table.ranges o) c.in-Err-None-default.field-0-0-is c.in-Err-None-default.ensures.next) ∙ apart_from_none c.args.section c.args.self.now.table.ranges

pub returns-in-Err-Some-default-clause-found : goal.returns-in-Err-Some-default-clause-found
returns-in-Err-Some-default-clause-found c = c.unwrap_or.ensures ∙ go c.told_by.result c.told_by.ensures.told c.told_by.ensures.silent
  where
    go : (o : Option Found) → IfSome o (λ found. (others : List Range) → AreMapped (c.in-Err-Some-default.range ∷ others) → where_is_apart c.args.section [] (c.in-Err-Some-default.range ∷ others) ≡ found) → IfNone o ((others : List Range) → where_is_apart c.args.section [] (c.in-Err-Some-default.range ∷ others) ≡ where_is_apart c.args.section [] others) → unwrap_or o Absent ≡ where_is c.args.section c.args.self.now.table.ranges
    go None told silent = sym (silent_absent c.args.section c.args.self.now.table.ranges c.in-Err-Some-default.range c.in-Err-Some-default.ensures.some c.laws.ensures.mapped (subst (λ (o : Option Range). IsNext c.args.section [] c.args.self.now.table.ranges o) c.in-Err-Some-default.field-0-0-is c.in-Err-Some-default.ensures.next) (subst (λ (o : Option Range). IfSome o (λ (r : Range). c.args.section.start ≤ r.section.start)) c.in-Err-Some-default.field-0-0-is c.in-Err-Some-default.ensures.behind) silent)
    go (Some f) told silent = told_next c.args.section [] c.args.self.now.table.ranges c.in-Err-Some-default.range f c.laws.ensures.mapped (subst (λ (o : Option Range). IsNext c.args.section [] c.args.self.now.table.ranges o) c.in-Err-Some-default.field-0-0-is c.in-Err-Some-default.ensures.next) told ∙ apart_from_none c.args.section c.args.self.now.table.ranges
