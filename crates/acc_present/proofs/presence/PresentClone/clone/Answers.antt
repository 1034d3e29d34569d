use Rattle.acc_index.proofs.Copied.{same_entries}
use Rattle.acc_present.proofs.presence.PresentClone.clone.Goals as goal

pub invariant_of-result : goal.invariant_of-result
invariant_of-result c = rw c.in_ok-clone.ensures.cases (rw (same_entries _ _ _ c.in_ok-clone-2.ensures.cases (λ x y k. k)) c.self.invariant)
