use Rattle.acc_read.proofs.SameTexts.{SameSoFar}
use Rattle.acc_read.proofs.tokens.are_same.Given as goal

-- what is left decides
abbrev pub invariant-bytes : goal.invariant-bytes
invariant-bytes l = SameSoFar l.one l.other l.i
