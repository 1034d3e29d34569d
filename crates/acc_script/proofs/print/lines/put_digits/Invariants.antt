use Rattle.std.proofs.Common.{◌≡◌, ◌-◌, ◌++◌, false, drop}
use Rattle.std.specs.Fmt.{digits}
use Rattle.acc_script.proofs.Digits.{digits_left}
use Rattle.acc_script.proofs.print.lines.put_digits.Given as goal

abbrev pub invariant-loop-done : goal.invariant-loop-done
invariant-loop-done l = digits_left l.done l.left (drop (l.end - l.done) l.bytes) ≡ digits 16 false l.n ++ drop l.end l.fn.bytes
