use Rattle.acc_table.proofs.copying.TableClone.clone.Goals as goal

-- what holds of a table holds of one with the same
pub invariant_of-result : goal.invariant_of-result
invariant_of-result c =
    let same = c.in_ok-clone.ensures.cases in
    (rw same.0 (rw same.1 (rw same.2 (rw same.4 c.self.invariant.0))), rw same.0 (same.3 _ c.self.invariant.1))
