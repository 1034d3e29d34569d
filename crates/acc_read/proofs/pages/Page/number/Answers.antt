use Rattle.std.proofs.Common.{arith}
use Rattle.std.proofs.lemmas.Fmt.{length-decimal-le}
use Rattle.acc_read.proofs.pages.Page.number.Goals as goal

pub write_digits-at-requires : goal.write_digits-at-requires
write_digits-at-requires c = (length-decimal-le 20 c.args.number (omega arith) (omega arith) (omega arith), omega arith)
