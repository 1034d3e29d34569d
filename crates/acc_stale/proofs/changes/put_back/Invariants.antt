use Rattle.std.proofs.Common.{◌+◌, take}
use Rattle.acc_base.specs.Attachments.{is_skipped}
use Rattle.acc_stale.specs.Marks.{IsKept}
use Rattle.acc_stale.proofs.changes.put_back.Given as goal

abbrev pub invariant-loop-a : goal.invariant-loop-a
invariant-loop-a l = IsKept (λ place. is_skipped l.pointers.block (take l.a-index l.pointers.attached.now) (l.pointers.start + place)) l.kept l.initial.section l.section
