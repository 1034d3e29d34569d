-- A list of turns, one after the other, with its answers and the leases that it leaves.
use Rattle.std.specs.Prelude.{ℕ, ◌≡◌, ◌⊎◌, ⊤, Bool, ◌==◌, ◌&&◌, List, [], ◌∷◌, ◌++◌, length, find, Option, Some, None, Result, Ok, Err, MatchResult}
use Rattle.std.specs.List.{remove, position_or_len}
use Rattle.acc_clauses.specs.Words.{Call, Event, Fault}
use Rattle.acc_base.specs.declared.calls.Call.TheVariants.{Do, HostWrite, Lend, Gather}
use Rattle.acc_base.specs.declared.faults.Fault.TheVariants.{Memory, NoLease}
use Rattle.acc_base.specs.Results.{◌>>◌}
use Rattle.acc_base.specs.Loans.{Leased}
use Rattle.acc_base.specs.Calls.{World, judge, world_after, ticket, trace_room}
use Rattle.acc_base.specs.Judge.{Verdict, Makes, Idle}
use Rattle.acc_lend.specs.Loans.{with_section}
use Rattle.acc_table.specs.declared.calls.Turn.{Turn}
use Rattle.acc_table.specs.declared.calls.Turn.TheVariants as turns
use Rattle.acc_table.specs.declared.calls.Reply.{Reply}
use Rattle.acc_table.specs.declared.calls.Reply.TheVariants as replies
use Rattle.acc_table.specs.declared.calls.Answer.{Answer}
use Rattle.acc_table.specs.declared.calls.Answer.TheVariants as answers
use Rattle.acc_table.specs.Calls.{reply_in}

-- ---- what a turn asks

-- the lease has this serial number, and so many bytes are lent
abbrev pub is_meant : ℕ → ℕ → Leased → Bool
is_meant serial len lease = lease.serial == serial && lease.len == len

-- the lease comes back with these bytes as its section; where there is none, that is refused
abbrev pub brought_back : ℕ → List ℕ → Option Leased → Result (Call Leased) Fault
brought_back serial bytes None = Err (NoLease serial)
brought_back serial bytes (Some lease) = Ok (Gather (with_section lease bytes))

-- the call that a turn makes with these leases: the first lease that is meant comes back
abbrev pub asked_by : Turn → List Leased → Result (Call Leased) Fault
asked_by (turns.Do directive) leases = Ok (Do directive)
asked_by (turns.HostWrite addr bytes) leases = Ok (HostWrite addr bytes)
asked_by (turns.Lend region section) leases = Ok (Lend region section)
asked_by (turns.Back serial bytes) leases = brought_back serial bytes (find (is_meant serial (length bytes)) leases)

-- ---- what comes of it

-- the answer to a turn by the reply to its call: the number of a region or a loan, and how many transfers were made
abbrev pub answer_to : Reply → Answer
answer_to replies.Done = answers.Replied 0 0
answer_to (replies.Entered number) = answers.Replied number 0
answer_to (replies.Drained count) = answers.Replied 0 count
answer_to (replies.Lease lease) = answers.Replied lease.serial 0
answer_to replies.Idle = answers.Idle

-- the leases that a turn does not bring back, in their order
abbrev pub kept_by : Turn → List Leased → List Leased
kept_by (turns.Back serial bytes) leases = remove leases (position_or_len (is_meant serial (length bytes)) leases)
kept_by _ leases = leases

-- the lease that is replied, if one is
abbrev pub lent_by : Reply → List Leased
lent_by (replies.Lease lease) = lease ∷ []
lent_by _ = []

-- the turn was refused, and the world and the leases stayed
pub record StaysRefused (w : World) (leases : List Leased) (fault : Fault) (answer : Answer) (next : World) (rest : List Leased) : Type 0 where
  pub answer_is : answer ≡ answers.Refused fault
  pub same : next ≡ w
  pub same_leases : rest ≡ leases

-- the turn made this event: the leases are those that it kept, and at the end that which is replied
pub record IsTurnDone (w : World) (kept : List Leased) (call : Call Leased) (e : Event) (answer : Answer) (next : World) (rest : List Leased) : Type 0 where
  pub answer_is : answer ≡ answer_to (reply_in e w)
  pub next_is : next ≡ world_after call e w
  pub rest_is : rest ≡ kept ++ lent_by (reply_in e w)

-- there was nothing to do in the turn, and the world and the leases stayed
pub record StaysIdle (w : World) (leases : List Leased) (answer : Answer) (next : World) (rest : List Leased) : Type 0 where
  pub answer_is : answer ≡ answers.Idle
  pub same : next ≡ w
  pub same_leases : rest ≡ leases

-- the refusal of the call is the answer; where there is none and something to do, lack of memory may be
abbrev pub MayCome : World → List Leased → List Leased → Call Leased → Result Verdict Fault → Answer → World → List Leased → Type 0
MayCome w leases kept call (Err fault) answer next rest = StaysRefused w leases fault answer next rest
MayCome w leases kept call (Ok (Makes e)) answer next rest = StaysRefused w leases Memory answer next rest ⊎ IsTurnDone w kept call e answer next rest
MayCome w leases kept call (Ok Idle) answer next rest = StaysIdle w leases answer next rest

-- what a turn is refused for that brings back a lease that is not in the list
abbrev pub refuse_back : World → Fault → Result ⊤ Fault
refuse_back w fault = do
  ticket w
  trace_room w
  Err fault

-- what may come of a turn
abbrev pub MayAnswer : World → List Leased → Turn → Result (Call Leased) Fault → Answer → World → List Leased → Type 0
MayAnswer w leases turn (Ok call) answer next rest = MayCome w leases (kept_by turn leases) call (judge w call) answer next rest
MayAnswer w leases turn (Err fault) answer next rest = MatchResult (refuse_back w fault) (λ _. ⊥) (λ first. StaysRefused w leases first answer next rest)

-- the turns lead from one world and list of leases to others, one after the other, with these answers
abbrev pub IsRun : World → List Leased → List Turn → List Answer → World → List Leased → Type 0
IsRun w leases [] [] next rest = (next ≡ w) × (rest ≡ leases)
IsRun w leases (turn ∷ turns) (answer ∷ answers) next rest = (mid : World) × (held : List Leased) × MayAnswer w leases turn (asked_by turn leases) answer mid held × IsRun mid held turns answers next rest
IsRun w leases _ _ next rest = ⊥
