use Rattle.std.proofs.Common.{rules, ◌/◌, ◌++◌, refl, false, drop}
use Rattle.std.specs.Fmt.{digits}
use Rattle.acc_script.proofs.Digits.{digit_put, digit_more}
use Rattle.acc_script.proofs.print.lines.put_digits.Goals as goal

pub returns-then-left-eq0-clause-digits : goal.returns-then-left-eq0-clause-digits
returns-then-left-eq0-clause-digits c = digit_put c.args.end c.loop-done.done c.loop-done.left c.digit.result (c.loop-done.left / 16) c.loop-done.bytes (digits 16 false c.args.n ++ drop c.args.end c.args.bytes.now) (search rules) (search rules) c.loop-done-test.true c.digit.ensures refl c.loop-done.invariant (search rules)

pub loop-done-preserved : goal.loop-done-preserved
loop-done-preserved c = digit_more c.args.end c.loop-done.done c.loop-done.left c.digit.result (c.loop-done.left / 16) c.loop-done.bytes (digits 16 false c.args.n ++ drop c.args.end c.args.bytes.now) (search rules) (search rules) c.loop-done-test.true c.digit.ensures refl c.loop-done.invariant (search rules)
