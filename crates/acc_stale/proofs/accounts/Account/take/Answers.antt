use Rattle.std.proofs.Common.{◌≡◌, ap, sym, ◌∙◌, option_map, None, Some, rules}
use Rattle.std.specs.List.{position}
use Rattle.acc_base.specs.declared.transfers.Transfer.{Transfer}
use Rattle.acc_stale.specs.declared.accounts.Waiting.{Waiting}
use Rattle.acc_stale.specs.Accounts.{is_in}
use Rattle.acc_stale.proofs.Counts.{first_taken, first_found, none_taken}
use Rattle.acc_stale.proofs.accounts.Account.take.Goals as goal

pub returns-in_err-nth-clause-left : goal.returns-in_err-nth-clause-left
returns-in_err-nth-clause-left c = let none : position (is_in c.args.device c.args.queue) c.args.self.now.waiting.items ≡ None = search rules in (none_taken (is_in c.args.device c.args.queue) c.args.self.now.waiting.items none).0

pub returns-in_err-nth-clause-taken : goal.returns-in_err-nth-clause-taken
returns-in_err-nth-clause-taken c =
    let none : position (is_in c.args.device c.args.queue) c.args.self.now.waiting.items ≡ None = search rules in
    let nothing : c.from_residual.result ≡ None = search rules in
    nothing ∙ sym (ap (option_map {T = Waiting} {U = Transfer} (λ w. w.transfer)) (none_taken (is_in c.args.device c.args.queue) c.args.self.now.waiting.items none).1)

pub returns-in-Some-clause-left : goal.returns-in-Some-clause-left
returns-in-Some-clause-left c =
    let there : position (is_in c.args.device c.args.queue) c.args.self.now.waiting.items ≡ Some c.in_ok-nth.nth = search rules in
    c.in-Some.ensures.items ∙ first_taken (is_in c.args.device c.args.queue) c.args.self.now.waiting.items c.in_ok-nth.nth there

pub returns-in-Some-clause-taken : goal.returns-in-Some-clause-taken
returns-in-Some-clause-taken c =
    let there : position (is_in c.args.device c.args.queue) c.args.self.now.waiting.items ≡ Some c.in_ok-nth.nth = search rules in
    sym (ap (option_map {T = Waiting} {U = Transfer} (λ w. w.transfer)) (first_found (is_in c.args.device c.args.queue) c.args.self.now.waiting.items c.in_ok-nth.nth c.in-Some.waiting there c.in-Some.ensures.value))
