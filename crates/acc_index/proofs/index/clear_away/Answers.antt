use Rattle.std.proofs.Common.{◌≡◌, length, ap, rules, arith}
use Rattle.std.specs.Prelude.{filter}
use Rattle.std.proofs.lemmas.List.Elements.{filter_from_retain}
use Rattle.acc_index.proofs.Indexing.{is_here, here_all, count_here, entries-cleared, rising-cleared}
use Rattle.acc_index.proofs.index.clear_away.Given.{Over}
use Rattle.acc_index.proofs.index.clear_away.Goals as goal

left : (g : Over) (c : goal.After-retain g) → c.retain.new.self.items ≡ filter is_here c.args.items.now.items
left g c = filter_from_retain _ is_here (λ p x b q called. search rules) _ _ _ c.retain.ensures.filtered

pub returns-clause-rising : goal.returns-clause-rising
returns-clause-rising g c = rw (left g c) (rising-cleared c.args.items.now.items c.requires)

pub returns-clause-here : goal.returns-clause-here
returns-clause-here g c = rw (left g c) (here_all c.args.items.now.items)

pub returns-clause-entries : goal.returns-clause-entries
returns-clause-entries g c = rw (left g c) (entries-cleared c.args.items.now.items)

pub returns-clause-count : goal.returns-clause-count
returns-clause-count g c =
    let xs = c.args.items.now.items in
    omega (arith, ap (λ ys. length ys) (left g c), count_here (filter is_here xs) (here_all xs), ap (λ es. length es) (entries-cleared xs), c.retain.new.self.ok.0)
