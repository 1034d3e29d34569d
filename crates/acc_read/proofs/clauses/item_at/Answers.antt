use Rattle.std.proofs.Common.{[], ◌∷◌, ◌++◌, refl}
use Rattle.acc_read.specs.Clauses.{item_at}
use Rattle.acc_read.proofs.clauses.item_at.Goals as goal

pub returns : goal.returns
unfolding item_at
returns g c = λ before h. (
  before ++ c.in_ok-item.item ∷ [],
  rw c.in_ok-item.ensures refl,
  c.push.ensures before h,
)
