use Rattle.std.proofs.Common.{rules, ◌-◌, ◌≤◌, ◌++◌, length, take, length-append, arith}
use Rattle.std.proofs.lemmas.List.{length-take}
use Rattle.std.proofs.lemmas.Result.{err_from_is_err_and}
use Rattle.acc_script.proofs.Gives.{Gave-then}
use Rattle.acc_script.proofs.ends.whole.read_all.Goals as goal

pub returns-in_err-extend_from_slice-in-Some-2 : goal.returns-in_err-extend_from_slice-in-Some-2
returns-in_err-extend_from_slice-in-Some-2 g c =
    let told = g.R.Source.told in
    let p = err_from_is_err_and c.from_residual.result c.from_residual.ensures.1 in
    let all = c.pieces.all.items in
    let piece = take c.in-Some-2.count c.read_piece.new.piece in
    let few : length all ≤ 16777216 = search rules in
    let fits : c.in-Some-2.count ≤ 16777216 - length all = search rules in
    rw (p.1, p.2) (all ++ piece, Gave-then (told c.args.reader.now) (told c.pieces.reader) (told c.read_piece.new.reader) all piece c.pieces.invariant.gave c.in-Some-2.ensures.gave, omega (arith, few, fits, length-append all piece, length-take c.in-Some-2.count c.read_piece.new.piece))
