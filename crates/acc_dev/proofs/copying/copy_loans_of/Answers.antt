use Rattle.std.proofs.Common.{ap, sym, ◌∙◌, arith}
use Rattle.acc_dev.specs.Kept.{loans_in}
use Rattle.acc_index.specs.Indexed.{blank_entry}
use Rattle.acc_index.proofs.Indexing.{live_same}
use Rattle.acc_dev.proofs.Copied.{loans_lent, loans_idle}
use Rattle.acc_dev.proofs.copying.copy_loans_of.Goals as goal
use Rattle.acc_dev.proofs.copying.copy_loans_of.Goals.{in-Some-loan_at+in_ok-push, in_default-loan_at}

pub loop-entry-preserved : goal.loop-entry-preserved
loop-entry-preserved c = elim c.match-loan_at.branch [
  | in-Some-loan_at+in_ok-push w ↦
      let more = loans_lent c.args.slab.now.slots c.items-entry-items.result.now c.loop-entry.entry-index c.in-Some.slot w.in-Some-loan_at.loan (omega arith) c.in-Some.is w.in-Some-loan_at.ensures in
      let pushed = w.in_ok-push.ensures.items in
      cc
  | in_default-loan_at w ↦
      let same = loans_idle c.args.slab.now.slots c.items-entry-items.result.now c.loop-entry.entry-index c.in-Some.slot (omega arith) c.in-Some.is w.in_default-loan_at.ensures in
      cc
]

pub loop-entry-preserved-in_default : goal.loop-entry-preserved-in_default
loop-entry-preserved-in_default c = c.loop-entry.invariant ∙ sym (ap (loans_in c.args.slab.now.slots) (live_same c.items-entry-items.result.now c.loop-entry.entry-index blank_entry (omega arith) c.in_default.is))
