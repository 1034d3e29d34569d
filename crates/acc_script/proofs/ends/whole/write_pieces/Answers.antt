use Rattle.acc_script.proofs.Fronts.{front_of_pieces}
use Rattle.acc_script.proofs.ends.whole.write_pieces.Goals as goal

pub returns-then-not-write_all : goal.returns-then-not-write_all
returns-then-not-write_all g c = front_of_pieces (λ p. p.now) (g.W.Sink.told c.args.writer.now) (g.W.Sink.told c.loop-piece.writer) (g.W.Sink.told c.write_all.new.writer) c.args.pieces.now c.loop-piece.piece-index _ c.loop-piece-test.true c.loop-piece.invariant c.if-not-write_all.ensures
