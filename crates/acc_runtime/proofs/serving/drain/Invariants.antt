use Rattle.std.proofs.Common.{◌≡◌, ◌+◌}
use Rattle.acc_runtime.specs.Services.{WasStepped}
use Rattle.acc_runtime.proofs.serving.drain.Given as goal

abbrev pub invariant-loop-i : goal.invariant-loop-i
invariant-loop-i g l = record {
  kept : l.caller.made + l.caller.tickets ≡ l.fn.caller.made + l.fn.caller.tickets;
  made : l.caller.made ≡ l.fn.caller.made + l._i;
  allowance : l.caller.allowance ≡ l.fn.caller.allowance;
  stepped : WasStepped l.runtime l.word l._i l.fn.caller l.caller;
}
