use Rattle.std.proofs.Common.{◌∙◌, arith}
use Rattle.std.proofs.lemmas.List.Elements.{length_all_zip}
use Rattle.acc_index.proofs.Copied.{entries-copy, rising-copy, ends-copy}
use Rattle.acc_index.proofs.index.IndexClone.clone.Goals as goal

pub invariant_of-result : goal.invariant_of-result
invariant_of-result g c =
    let all = c.in_ok-clone.ensures.cases.0 in
    let i = c.self.invariant in (
      rising-copy g.T.Clone.is_clone _ _ all i.0,
      ends-copy g.T.Clone.is_clone _ _ all ∙ i.1,
      i.2 ∙ length_all_zip _ _ _ (entries-copy g.T.Clone.is_clone _ _ all),
      omega (arith, c.in_ok-clone.ensures.cases.1, i),
    )

pub returns : goal.returns
returns g c = record { cases = rw (← c.self.view_is) (entries-copy g.T.Clone.is_clone _ _ c.in_ok-clone.ensures.cases.0) }
