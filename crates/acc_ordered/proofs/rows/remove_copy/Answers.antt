use Rattle.std.proofs.Common.{◌-◌, ap, ◌∙◌, take, arith}
use Rattle.acc_ordered.proofs.Removed.{removed}
use Rattle.acc_ordered.proofs.rows.remove_copy.Goals as goal

pub returns-clause-items : goal.returns-clause-items
returns-clause-items g c =
    let len = c.len-len.result in
    c.truncate.ensures.items
    ∙ ap (λ xs. take (len - 1) xs) c.copy_within.ensures.items
    ∙ removed c.args.items.now.items c.args.place len (omega (arith, c.len-len.ensures, c.args.items.now.ok.0)) (omega (arith, c.requires, c.len-len.ensures))
