use Rattle.std.proofs.Common.{◌++◌, drop, ap, ◌∙◌, ◌≡◌, min, length}
use Rattle.acc_stale.proofs.Each.{all_changed}
use Rattle.acc_stale.proofs.changes.change_each.Goals as goal

pub returns : goal.returns
returns g c =
    let count : c.min-count.result ≡ min (length c.args.section.now) (g.B.Compared.size c.args.bytes.now) = c.min-count.ensures ∙ ap (λ n. min (length c.args.section.now) n) c.len.ensures in
    ap (λ xs. xs ++ drop c.min-count.result c.args.section.now) c.change_all.ensures
    ∙ all_changed (g.B.Compared.compared c.args.bytes.now) c.min-count.result (g.B.Compared.size c.args.bytes.now) c.args.section.now count (λ p m past. g.met.B.Compared.stays c.args.bytes.now p m past)
