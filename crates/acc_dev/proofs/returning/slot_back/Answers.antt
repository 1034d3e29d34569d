use Rattle.std.proofs.Common.{sym, ◌∙◌}
use Rattle.acc_dev.proofs.Lends.{returnable_at, unknown_block, long_lease}
use Rattle.slab.specs.Slab.{get}
use Rattle.acc_dev.proofs.returning.slot_back.Goals as goal

pub returns-in_err-slot-clause-returnable : goal.returns-in_err-slot-clause-returnable
returns-in_err-slot-clause-returnable c =
    let none = rw c.block.ensures at c.in_err-slot.ensures.none in
    rw c.from_residual.ensures (sym (unknown_block c.args.slab.now.slots c.args.index.now.entries c.args.device c.args.lease.now c.args.kept c.requires.backed none))

pub returns-then-is_back_at-clause-returnable : goal.returns-then-is_back_at-clause-returnable
returns-then-is_back_at-clause-returnable c =
    let slot = rw c.block.ensures at c.in_ok-slot.ensures.found in
    sym (returnable_at c.args.slab.now.slots c.args.index.now.entries c.in_ok-slot.slot c.args.device c.args.lease.now c.args.kept c.is_back_at.result c.requires.rising c.requires.backed slot c.is_back_at.ensures ∙ c.if-is_back_at.true)

pub returns-then-is_back_at-clause-len : goal.returns-then-is_back_at-clause-len
returns-then-is_back_at-clause-len c =
    let o = get c.args.slab.now c.in_ok-slot.slot in
    long_lease o c.args.device c.args.lease.now c.args.kept c.is_back_at.result c.is_back_at.ensures c.if-is_back_at.true

pub returns-clause-returnable : goal.returns-clause-returnable
returns-clause-returnable c =
    let slot = rw c.block.ensures at c.in_ok-slot.ensures.found in
    sym (returnable_at c.args.slab.now.slots c.args.index.now.entries c.in_ok-slot.slot c.args.device c.args.lease.now c.args.kept c.is_back_at.result c.requires.rising c.requires.backed slot c.is_back_at.ensures ∙ c.if-is_back_at.false)
