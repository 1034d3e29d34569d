use Rattle.std.proofs.Common.{◌+◌, drop, ap, arith}
use Rattle.std.proofs.Math.ListN.{drop_of_length-le}
use Rattle.hex.specs.Hex.{encode_with, encode_lower}
use Rattle.acc_script.proofs.LeftToWrite.{leaves_all, leaves_less, leaves_lost, leaves_none}
use Rattle.acc_script.proofs.Encoded.{digits_turn}
use Rattle.acc_script.proofs.print.answers.write_digits.Goals as goal

pub loop-at-init : goal.loop-at-init
loop-at-init g c = record { left = leaves_all (g.W.Sink.told c.args.writer.now) (encode_lower c.args.bytes.now); in_range = omega arith }

pub returns-then-not-write_piece : goal.returns-then-not-write_piece
returns-then-not-write_piece g c =
    let told = g.W.Sink.told in
    leaves_lost (told c.args.writer.now) (told c.loop-at.writer) (told c.write_piece.new.writer) (encode_lower c.args.bytes.now) (encode_lower (drop c.loop-at.at c.args.bytes.now)) (encode_lower c.split_at-in-loop-at.result.0.now) (encode_lower (drop (c.loop-at.at + c.min.result) c.args.bytes.now))
    (digits_turn c.args.bytes.now c.split_at.result.1.now c.split_at-in-loop-at.result.0.now c.loop-at.at c.min.result c.split_at.ensures.back c.split_at-in-loop-at.ensures.front) c.loop-at.invariant.left c.if-not-write_piece.ensures

pub loop-at-preserved : goal.loop-at-preserved
loop-at-preserved g c =
    let told = g.W.Sink.told in
    let len = c.split_at-in-loop-at.ensures.front_len in
    record {
      left = rw len (leaves_less (told c.args.writer.now) (told c.loop-at.writer) (told c.write_piece.new.writer) (encode_lower c.args.bytes.now) (encode_lower (drop c.loop-at.at c.args.bytes.now)) (encode_lower c.split_at-in-loop-at.result.0.now) (encode_lower (drop (c.loop-at.at + c.min.result) c.args.bytes.now))
          (digits_turn c.args.bytes.now c.split_at.result.1.now c.split_at-in-loop-at.result.0.now c.loop-at.at c.min.result c.split_at.ensures.back c.split_at-in-loop-at.ensures.front) c.loop-at.invariant.left c.if-not-write_piece.ensures);
      in_range = omega (arith, len, c.min.ensures, c.split_at.ensures.back_len, c.loop-at.invariant.in_range);
    }

pub returns : goal.returns
unfolding encode_with
returns g c =
    let told = g.W.Sink.told in
    leaves_none (told c.args.writer.now) (told c.loop-at.writer) (encode_lower c.args.bytes.now) (encode_lower (drop c.loop-at.at c.args.bytes.now)) (ap encode_lower (drop_of_length-le c.args.bytes.now (omega (arith, c.loop-at-test.false)))) c.loop-at.invariant.left
