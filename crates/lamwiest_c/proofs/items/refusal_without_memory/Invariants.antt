use Rattle.std.proofs.Common.{◌≡◌, drop}
use Rattle.lamwiest_c.specs.Clauses.{items_from}
use Rattle.lamwiest_c.proofs.Reading.{IsReadSoFar}
use Rattle.lamwiest_c.proofs.items.refusal_without_memory.Given as goal

abbrev pub invariant-loop-item : goal.invariant-loop-item
invariant-loop-item g l = record {
  place : l.place ≡ l.item-index;
  so_far : IsReadSoFar (items_from g.C.NumberedClause.numbered l.place (drop l.item-index l.items)) (items_from g.C.NumberedClause.numbered 0 l.items);
}
