use Rattle.std.proofs.Common.{◌≡◌, drop}
use Rattle.std.specs.Prelude.{vec_len, vec_capacity}
use Rattle.lamwiest_c.specs.Clauses.{items_from}
use Rattle.lamwiest_c.proofs.Reading.{read_then}
use Rattle.lamwiest_c.proofs.items.items_of.Given as goal

-- what was read, before what comes of the items that are left, is what comes of all items
abbrev pub invariant-loop-item : goal.invariant-loop-item
invariant-loop-item g l = record {
  place : l.place ≡ l.item-index;
  count : vec_len l.read ≡ l.item-index;
  room : vec_capacity l.read ≡ vec_capacity l.initial.read;
  so_far : read_then l.read.items (items_from g.C.NumberedClause.numbered l.place (drop l.item-index l.items)) ≡ items_from g.C.NumberedClause.numbered 0 l.items;
}
