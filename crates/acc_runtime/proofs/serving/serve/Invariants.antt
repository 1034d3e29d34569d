use Rattle.std.proofs.Common.{ℕ, ◌≡◌, ◌+◌, ◌≤◌, ◌-◌, ◌^◌}
use Rattle.std.specs.Prelude.{min}
use Rattle.acc_runtime.specs.Services.{WasServed}
use Rattle.acc_runtime.proofs.serving.serve.Given as goal

abbrev pub invariant-loop-word : goal.invariant-loop-word
invariant-loop-word g l = record {
  kept : l.caller.made + l.caller.tickets ≡ l.fn.caller.made + l.fn.caller.tickets;
  allowance : l.caller.allowance ≡ l.fn.caller.allowance;
  more : l.fn.caller.made ≤ l.caller.made;
  served : (refused : ℕ) × WasServed l.runtime l.yielded (l.caller.made - l.fn.caller.made) refused l.fn.caller l.caller × (l.refusals ≡ min refused (2 ^ 64 - 1));
}
