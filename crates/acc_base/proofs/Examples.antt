-- A trace that no run makes: it is legal apart from bytes, and not with them.
use Rattle.std.proofs.Common.{ℕ, ap, Bool, List, [], ◌∷◌, None, Result, Ok, true, false, refl, replicate, arith}
use Rattle.std.specs.Prelude.{is_some}
use Rattle.std.proofs.lemmas.Bool.{true≢false}
use Rattle.acc_base.specs.Words.{Item, EnterClause, Did, Event, Fault}
use Rattle.acc_base.specs.declared.items.EnterClause.TheVariants.{Copyin, Attach}
use Rattle.acc_base.specs.declared.events.Step.TheVariants.{Nothing, Born}
use Rattle.acc_base.specs.declared.events.Event.TheVariants.{HostWritten, EnteredData}
use Rattle.acc_base.specs.Detaching.{block_aimed}
use Rattle.acc_base.specs.Limits.{Limits}
use Rattle.acc_base.specs.Steps.{did_of, judge_step, judge_row, act, act_all, act_step, act_row, records_after_birth, records_after_end, released, with_range_changed}
use Rattle.acc_base.specs.Walk.{walk, loaned}
use Rattle.acc_base.specs.Bytes.{step_state}
use Rattle.acc_base.specs.Pointers.{judge_attach, aimed}
use Rattle.acc_base.specs.Acting.{judge_aim, judge_task, judge_all, act_state, act_all_state, after}
use Rattle.acc_base.specs.Waits.{drained, records_drained}
use Rattle.acc_base.specs.Devices.{new_whole, new_whole_layout}
use Rattle.acc_base.specs.Accounts.{AreMadeIn}
use Rattle.acc_base.specs.History.{AreLegal}

-- 64 bytes on either side, and the trace is full
abbrev limits : Limits
limits = record { host = 64; number = 0; device = 64; regions = 3; tickets = 100; counter_max = 64; queue_cap = 2; trace_cap = 100; full = true; devices = 1 }

abbrev item : EnterClause → ℕ → ℕ → Item EnterClause
item clause start len = record { clause = clause; section = record { start = start; len = len }; pointer = None }

-- the pointer at 0x1008 is not attached, though its target is mapped
abbrev left_unattached : List Event
left_unattached = HostWritten 0x1008 8 (0x10 ∷ 0x10 ∷ replicate 6 0) ∷ EnteredData 0 (item Copyin 0x1000 16 ∷ item Copyin 0x1010 16 ∷ []) None (did_of (Born 1 0x1_0000_0000) ∷ did_of (Born 2 0x1_0000_0010) ∷ [])
    ∷ EnteredData 0 (item Attach 0x1008 8 ∷ []) None (did_of Nothing ∷ []) ∷ []

legal_apart_from_bytes : AreLegal limits left_unattached (new_whole_layout 1)
unfolding judge_step judge_row walk loaned records_drained act act_all act_step act_row records_after_birth
legal_apart_from_bytes = (
  record { there = omega arith; legal = record { names = (refl, refl); judged = tt } },
  (
    record { there = omega arith; legal = record { names = refl; judged = (refl, tt, (refl, tt, tt)) } },
    (record { there = omega arith; legal = record { names = refl; judged = (refl, tt, tt) } }, tt),
  ),
)

-- the first item attached its pointer
abbrev attaches : Result (List Did) Fault → Bool
attaches (Ok (did ∷ dids)) = is_some (block_aimed did.aim)
attaches _ = false

not_with_bytes : AreMadeIn limits left_unattached (new_whole 1 64) → ⊥
unfolding after loaned drained act_all_state act_state step_state aimed act_step act_row records_after_birth records_after_end released with_range_changed judge_all judge_task judge_step judge_row judge_aim judge_attach
not_with_bytes h = true≢false (ap attaches h.1.1.0)
