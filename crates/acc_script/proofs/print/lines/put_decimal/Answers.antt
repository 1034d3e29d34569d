use Rattle.std.proofs.Common.{arith}
use Rattle.acc_script.proofs.Digits.{short_number}
use Rattle.acc_script.proofs.print.lines.put_decimal.Goals as goal

pub write_digits-requires : goal.write_digits-requires
write_digits-requires c = (omega (arith, short_number c.args.n (omega arith)), c.requires.end)

pub returns-clause-start : goal.returns-clause-start
returns-clause-start c = (omega (arith, c.write_digits.ensures.start), omega (arith, c.write_digits.ensures.start, short_number c.args.n (omega arith)))
