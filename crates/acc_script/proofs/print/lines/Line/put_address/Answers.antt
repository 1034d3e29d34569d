use Rattle.std.proofs.Common.{◌≡◌, ◌+◌, ◌≤◌, false, length, length-append, drop, ap, ◌∙◌, arith}
use Rattle.std.specs.Fmt.{digits}
use Rattle.acc_script.proofs.Digits.{short_address}
use Rattle.acc_script.proofs.print.lines.Line.put_address.Goals as goal

pub returns-clause-length : goal.returns-clause-length
returns-clause-length c =
    let few : length (digits 16 false c.args.number) ≤ 16 = short_address c.args.number (omega arith) in
    let all : length (drop c.put_digits-self-inside.result c.put_digits-self-inside.new.bytes) ≡ length (digits 16 false c.args.number) + length (drop c.self.inside.at c.self.inside.bytes) = ap length c.put_digits-self-inside.ensures.digits ∙ length-append _ _ in
    let before = ap length c.self.view_is in
    omega (arith, c.put.ensures.length, all, few, before)
