-- Which of the replies a call gets.
use Rattle.std.specs.Prelude.{◌≡◌, ◌⊎◌, ⊤}
use Rattle.acc_clauses.specs.Words.{Call, Directive}
use Rattle.acc_base.specs.declared.calls.Call.TheVariants.{Do, Lend}
use Rattle.acc_base.specs.declared.directives.Directive.TheVariants.{Enter, Wait, Step}
use Rattle.acc_base.specs.Loans.{Leased}
use Rattle.acc_table.specs.declared.calls.Reply.{Reply}
use Rattle.acc_table.specs.declared.calls.Reply.TheVariants as replies

-- it has the number of a region that was entered
abbrev pub HasNumber : Reply → Type 0
HasNumber (replies.Entered number) = ⊤
HasNumber _ = ⊥

-- it has how many transfers were made
abbrev pub HasCount : Reply → Type 0
HasCount (replies.Drained count) = ⊤
HasCount _ = ⊥

-- it has a lease
abbrev pub HasLease : Reply → Type 0
HasLease (replies.Lease lease) = ⊤
HasLease _ = ⊥

-- the reply to a directive is a region's number, a wait's count, whether there was a step, or nothing more
abbrev pub IsReplyToDirective : Directive → Reply → Type 0
IsReplyToDirective (Enter device items) reply = HasNumber reply
IsReplyToDirective (Wait device queue) reply = HasCount reply
IsReplyToDirective (Step device queue) reply = (reply ≡ replies.Done) ⊎ (reply ≡ replies.Idle)
IsReplyToDirective _ reply = reply ≡ replies.Done

-- the reply to a call; that to a loan is its lease
abbrev pub IsReplyTo : Call Leased → Reply → Type 0
IsReplyTo (Do directive) reply = IsReplyToDirective directive reply
IsReplyTo (Lend region section) reply = HasLease reply
IsReplyTo _ reply = reply ≡ replies.Done
