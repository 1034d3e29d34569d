use Rattle.std.proofs.Common.{◌≡◌, ◌-◌, length}
use Rattle.lamwiest_c.specs.Dids.{did_at, told_over}
use Rattle.lamwiest_c.proofs.Telling.{told_so_far}
use Rattle.lamwiest_c.proofs.dids.tell_all.Given as goal

-- what was written, before what is written over the rest, is what is written over all
abbrev pub invariant-loop-place : goal.invariant-loop-place
invariant-loop-place l = told_so_far (λ place. did_at place l.fn.table) l.place l.place l.dids ≡ told_over (λ place. did_at place l.fn.table) 0 l.fn.dids

abbrev pub decreases-loop-place : goal.decreases-loop-place
decreases-loop-place l = length l.dids - l.place
