use Rattle.std.proofs.Common.{◌≡◌, None, sym, ◌∙◌, rules}
use Rattle.acc_index.specs.Indexed.{value_at, live_entries}
use Rattle.acc_index.proofs.Indexing.{read_number, read_value, value_here, value_none, entries-gone, rising-set}
use Rattle.acc_index.proofs.index.take_value.Goals as goal

pub unreachable-requires : goal.unreachable-requires
unreachable-requires g c =
    let none : value_at c.args.number (live_entries c.args.items.now) ≡ None = value_none c.args.items.now c.args.number c.in_default.ensures.none in
    absurd (search (rules, rw none at c.requires.there))

pub unreachable-requires-in_default-take : goal.unreachable-requires-in_default-take
unreachable-requires-in_default-take g c =
    let found = c.in-Some.ensures.found in
    let none : value_at c.args.number (live_entries c.args.items.now) ≡ None = value_here c.args.items.now c.in-Some.at c.args.number c.requires.rising found.in_bounds found.is ∙ read_value c.args.items.now c.in-Some.at c.index-items-at.result found.in_bounds ∙ sym c.take.ensures.value ∙ c.in_default-take.is in
    absurd (search (rules, rw none at c.requires.there))

pub returns-clause-rising : goal.returns-clause-rising
returns-clause-rising g c =
    let found = c.in-Some.ensures.found in
    rising-set c.args.items.now c.in-Some.at _ c.requires.rising found.in_bounds (sym (read_number c.args.items.now c.in-Some.at c.index-items-at.result found.in_bounds))

pub returns-clause-value : goal.returns-clause-value
returns-clause-value g c =
    let found = c.in-Some.ensures.found in
    value_here c.args.items.now c.in-Some.at c.args.number c.requires.rising found.in_bounds found.is ∙ read_value c.args.items.now c.in-Some.at c.index-items-at.result found.in_bounds ∙ sym c.take.ensures.value ∙ c.in-Some-take.is

pub returns-clause-entries : goal.returns-clause-entries
returns-clause-entries g c =
    let found = c.in-Some.ensures.found in
    entries-gone c.args.items.now c.in-Some.at c.args.number _ c.requires.rising found.in_bounds found.is c.take.ensures.after
