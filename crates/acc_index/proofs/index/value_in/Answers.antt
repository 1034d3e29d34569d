use Rattle.std.proofs.Common.{sym, ◌∙◌}
use Rattle.acc_index.proofs.Indexing.{read_value, value_here, value_none, told}
use Rattle.acc_index.proofs.index.value_in.Goals as goal

pub returns-in_err-at : goal.returns-in_err-at
returns-in_err-at g c = rw c.from_residual.ensures (value_none c.args.items.now c.args.number (rw c.in_err-at.was at c.requires.no_place))

pub returns : goal.returns
returns g c =
    let found = rw c.in_ok-at.was at c.requires.place in
    told _ c.as_ref.result (value_here c.args.items.now c.in_ok-at.at c.args.number c.requires.rising found.in_bounds found.is ∙ read_value c.args.items.now c.in_ok-at.at c.index-items-at.result found.in_bounds ∙ sym c.as_ref.ensures.value)
