use Rattle.std.proofs.Common.{◌≡◌, map, length}
use Rattle.std.specs.Cmp.Lexicographic.{pointwise}
use Rattle.std.specs.Iterator.Adapters.{zip_first, zip_second}
use Rattle.std.specs.Slice.Iter.{iter_rest}
use Rattle.acc_dev.specs.Device.{memory_saved}
use Rattle.acc_clauses.specs.Alike.{is_same_memory}
use Rattle.acc_clauses.proofs.comparing.are_same_memories.Given as goal

-- what is left on both sides is as long, and as much the same as all
abbrev pub invariant-loop-memory : goal.invariant-loop-memory
invariant-loop-memory l =
    let xs = iter_rest (zip_first l.memory-iterator) in
    let ys = iter_rest (zip_second l.memory-iterator) in
    (length xs ≡ length ys) × (pointwise is_same_memory (map memory_saved l.memories) (map memory_saved l.others) ≡ pointwise is_same_memory (map memory_saved xs) (map memory_saved ys))
