use Rattle.std.proofs.Common.{ℕ, ◌≡◌, List, Option, Some, None, Ok, sym, subst}
use Rattle.std.specs.Prelude.{not, ◌&&◌, IfSome}
use Rattle.acc_clauses.specs.Words.{Counters, Holding, Range}
use Rattle.acc_base.specs.declared.tasks.Task.TheVariants.{ExitRegion}
use Rattle.acc_base.specs.declared.events.Step.TheVariants.{Dropped}
use Rattle.acc_base.specs.Limits.{Limits}
use Rattle.acc_base.specs.Records.{Records}
use Rattle.acc_base.specs.Ranges.{range_of}
use Rattle.acc_base.specs.Steps.{judge_row}
use Rattle.acc_base.proofs.Results.{equal}
use Rattle.acc_clauses.specs.declared.acted.Acted.{Acted}
use Rattle.acc_clauses.specs.Overlays.{IsPlanned, records_after, counters_at, recount, are_zero}
use Rattle.acc_clauses.proofs.Laws.{ends-planned}
use Rattle.acc_clauses.proofs.Steps.{found_block}
use Rattle.acc_clauses.proofs.judging.leave.Goals as goal

left : (l : Limits) (n : ℕ) (xs : List Acted) (w : Records) (holding : Holding) (b : ℕ) (c : Counters) → IsPlanned l xs w → holding.block ≡ Some b → c ≡ counters_at b (records_after xs w).ranges
    → Ok (Dropped b (not (are_zero c) && are_zero (recount (ExitRegion holding) c))) ≡ judge_row l n (ExitRegion holding) (records_after xs w)
unfolding judge_row
left l n xs w holding b c p named is = rw named (rw is (rw (ends-planned l xs w (ExitRegion holding) b p)))

-- a range that a block has is that of its own block
own_block : (b : ℕ) (rs : List Range) (known : Option Range) → known ≡ range_of b rs → IfSome known (λ (r : Range). range_of r.block rs ≡ Some r)
own_block b rs None is = tt
own_block b rs (Some r) is = subst (λ (k : ℕ). range_of k rs ≡ Some r) (sym (equal r.block b (found_block b rs r (sym is)))) (sym is)

pub counters_after-counters-requires-clause-known : goal.counters_after-counters-requires-clause-known
counters_after-counters-requires-clause-known c = own_block c.in-Some.block c.args.view.now.state.records.ranges c.range_near-known.result.0 c.range_near-known.ensures

pub returns-in-Some : goal.returns-in-Some
returns-in-Some c = λ n. rw c.dropped.ensures (left c.args.view.now.limits n c.args.draft.now c.args.view.now.state.records c.args.holding c.in-Some.block c.counters_after-counters.result c.requires c.in-Some.is c.counters_after-counters.ensures.value)
