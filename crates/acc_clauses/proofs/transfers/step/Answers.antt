use Rattle.std.proofs.Common.{◌∙◌, sym}
use Rattle.acc_clauses.specs.Contents.{beside}
use Rattle.acc_clauses.proofs.Changes.{beside_both}
use Rattle.acc_clauses.proofs.Putting.{none_steps, head_mark, head_pinned, last_steps, more_steps}
use Rattle.acc_clauses.proofs.transfers.step.Goals as goal
use Rattle.std.proofs.lemmas.Bool.{false≢true}

pub returns-in_default : goal.returns-in_default
returns-in_default c = record { stepped = none_steps c.args.q (beside c.args.environment.now c.args.host.now) c.pop.new.self (sym c.pop.ensures.head ∙ c.in_default.is) c.in_default.ensures.unchanged c.pop.ensures.cap c.pop.ensures.room c.requires.marked }

pub make-requires : goal.make-requires
make-requires c = record { can = let can = c.requires.can c.in-Some.t (sym c.pop.ensures.head ∙ c.in-Some.is) in record { in_host = can.in_host; end = can.end; there = can.there; free = can.free; within = can.within } }

pub unpin-requires-clause-there : goal.unpin-requires-clause-there
unpin-requires-clause-there c = let can = c.requires.can c.in-Some.t (sym c.pop.ensures.head ∙ c.in-Some.is) in rw c.make.ensures.blocks can.there

pub unpin-requires-clause-pinned : goal.unpin-requires-clause-pinned
unpin-requires-clause-pinned c =
    let x = beside c.args.environment.now c.args.host.now in
    let first = sym c.pop.ensures.head ∙ c.in-Some.is in
    let mark = head_mark c.args.q c.in-Some.t x (beside c.make.new.environment c.make.new.host) c.pop.new.self c.requires.marked (beside_both c.make.ensures.blocks c.make.ensures.host) c.laws.ensures.marks (c.requires.can c.in-Some.t first).there in
    head_pinned c.args.q c.in-Some.t x (beside c.make.new.environment c.make.new.host) first mark

pub returns-then-unpin : goal.returns-then-unpin
returns-then-unpin c =
    let x = beside c.args.environment.now c.args.host.now in
    let y = beside c.make.new.environment c.make.new.host in
    let first = sym c.pop.ensures.head ∙ c.in-Some.is in
    let mark = head_mark c.args.q c.in-Some.t x y c.pop.new.self c.requires.marked (beside_both c.make.ensures.blocks c.make.ensures.host) c.laws.ensures.marks (c.requires.can c.in-Some.t first).there in
    record {
      stepped = last_steps c.args.q c.in-Some.t x y c.pop.new.self c.unpin.new.self c.forget.new.self first c.pop.ensures.queues c.pop.ensures.cap c.pop.ensures.room c.requires.marked (beside_both c.make.ensures.blocks c.make.ensures.host) c.laws.ensures.memories mark
          (c.unpin.ensures.given_back.0 c.if-unpin.true) c.if-unpin.ensures.retired c.forget.ensures.attached c.forget.ensures.counter_max c.forget.ensures.spare;
    }

pub returns-else-unpin : goal.returns-else-unpin
returns-else-unpin c =
    let x = beside c.args.environment.now c.args.host.now in
    let y = beside c.make.new.environment c.make.new.host in
    let first = sym c.pop.ensures.head ∙ c.in-Some.is in
    let mark = head_mark c.args.q c.in-Some.t x y c.pop.new.self c.requires.marked (beside_both c.make.ensures.blocks c.make.ensures.host) c.laws.ensures.marks (c.requires.can c.in-Some.t first).there in
    record {
      stepped = more_steps c.args.q c.in-Some.t x y c.pop.new.self c.unpin.new.self first c.pop.ensures.queues c.pop.ensures.cap c.pop.ensures.room c.requires.marked (beside_both c.make.ensures.blocks c.make.ensures.host) mark
          (λ last. false≢true (sym c.if-unpin.false ∙ c.unpin.ensures.given_back.1 last)) c.if-unpin.ensures.unpinned;
    }
