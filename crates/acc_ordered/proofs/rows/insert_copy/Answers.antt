use Rattle.std.proofs.Common.{◌+◌, ap, ◌∙◌, set, arith}
use Rattle.std.specs.List.{copy_within}
use Rattle.acc_ordered.proofs.Inserted.{inserted}
use Rattle.acc_ordered.proofs.rows.insert_copy.Goals as goal

pub returns-clause-items : goal.returns-clause-items
returns-clause-items g c =
    let len = c.len-len.result in
    let place = c.args.place in
    let item = c.args.item in
    ap (λ xs. set xs place item) (c.copy_within.ensures.items ∙ ap (λ xs. copy_within xs place len (place + 1)) c.push_reserved.ensures.items)
    ∙ inserted c.args.items.now.items place len item (omega (arith, c.len-len.ensures, c.args.items.now.ok.0)) (omega (arith, c.requires.within, c.len-len.ensures))
