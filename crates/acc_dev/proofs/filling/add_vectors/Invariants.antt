use Rattle.std.proofs.Common.{◌≡◌, [], take, vec_capacity}
use Rattle.std.specs.Prelude.{map}
use Rattle.std.specs.List.{AllByRecursion}
use Rattle.acc_dev.proofs.filling.add_vectors.Given as goal

-- there is an empty vector with room for each length so far
abbrev pub invariant-loop-len : goal.invariant-loop-len
invariant-loop-len l = (map (λ v. vec_capacity v) l.vectors.items ≡ take l.len-index l.lens) × AllByRecursion (λ v. v.items ≡ []) l.vectors.items
