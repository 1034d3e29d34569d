use Rattle.std.proofs.Common.{◌∙◌, refl, sym, ap}
use Rattle.lamwiest_c.specs.Keeps.{Entries, leases_in, told_from}
use Rattle.lamwiest_c.specs.Leases.{lease_from}
use Rattle.lamwiest_c.proofs.Looking.{first_live, told_here, told_later, none_told}
use Rattle.lamwiest_c.proofs.lookups.lease_from.Goals as goal

pub loop-entry-init : goal.loop-entry-init
loop-entry-init c = refl

pub returns-in-Some : goal.returns-in-Some
returns-in-Some c =
    let items = c.items-items.result.now in
    let all = first_live c.args.from items ∙ ap (λ (es : Entries). lease_from c.args.from (leases_in es)) c.items-items.ensures in
    let here = ap (told_from c.args.from) (sym c.entry-item.is) ∙ (sym c.told_from.ensures ∙ c.in-Some.is) in
    told_here c.args.from c.loop-entry.entry-index items _ c.entry-item.result c.in-Some.told c.loop-entry-test.true here (c.loop-entry.invariant ∙ all)

pub loop-entry-preserved : goal.loop-entry-preserved
loop-entry-preserved c =
    let here = ap (told_from c.args.from) (sym c.entry-item.is) ∙ (sym c.told_from.ensures ∙ c.in_default.is) in
    told_later c.args.from c.loop-entry.entry-index c.items-items.result.now _ c.entry-item.result c.loop-entry-test.true here c.loop-entry.invariant

pub returns : goal.returns
returns c =
    let items = c.items-items.result.now in
    let all = first_live c.args.from items ∙ ap (λ (es : Entries). lease_from c.args.from (leases_in es)) c.items-items.ensures in
    none_told c.args.from c.loop-entry.entry-index items _ c.loop-entry-test.false (c.loop-entry.invariant ∙ all)
