use Rattle.std.proofs.Common.{◌≡◌, ◌+◌, ◌*◌}
use Rattle.acc_runtime.specs.Drills.{WereRounds}
use Rattle.acc_runtime.proofs.drilling.make_rounds.Given as goal

abbrev pub invariant-loop-i : goal.invariant-loop-i
invariant-loop-i g l = record {
  made : l.caller.made ≡ l.fn.caller.made + 2 * l._i;
  kept : l.caller.made + l.caller.tickets ≡ l.fn.caller.made + l.fn.caller.tickets;
  back : l.caller.allowance ≡ l.fn.caller.allowance;
  rounds : WereRounds l.runtime l._i l.fn.caller l.caller;
}
