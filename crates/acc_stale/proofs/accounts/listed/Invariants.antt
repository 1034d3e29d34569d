use Rattle.std.proofs.Common.{◌≡◌, ◌++◌, map}
use Rattle.acc_stale.specs.Accounts.{counted}
use Rattle.acc_stale.proofs.accounts.listed.Given as goal

abbrev pub invariant-loop-pointer : goal.invariant-loop-pointer
invariant-loop-pointer l = l.attached.items ++ map (counted l.block) l.pointer-iterator ≡ map (counted l.block) l.pointers.entries
