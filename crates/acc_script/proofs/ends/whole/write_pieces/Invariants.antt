use Rattle.std.proofs.Common.{take}
use Rattle.std.specs.List.{flat_map}
use Rattle.acc_script.specs.Told.{Took}
use Rattle.acc_script.proofs.ends.whole.write_pieces.Given as goal

abbrev pub invariant-loop-piece : goal.invariant-loop-piece
invariant-loop-piece g l =
    Took (g.W.Sink.told l.fn.writer) (g.W.Sink.told l.writer) (flat_map (λ p. p.now) (take l.piece-index l.pieces))
