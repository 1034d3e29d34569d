use Rattle.acc_present.specs.Kept.{IsNext}
use Rattle.acc_present.proofs.Finding.{ranges_left}
use Rattle.acc_present.proofs.presence.Present.find_from.Given as goal

-- the ranges that are left say what all say
abbrev pub invariant-loop-next : goal.invariant-loop-next
invariant-loop-next l = IsNext l.section l.blocks l.self.table.ranges l.next

abbrev pub decreases-loop-next : goal.decreases-loop-next
decreases-loop-next l = ranges_left l.next l.self.table.ranges
