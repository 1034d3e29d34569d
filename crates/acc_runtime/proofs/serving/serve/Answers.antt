use Rattle.std.proofs.Common.{rules, inl, inr}
use Rattle.acc_runtime.proofs.Stepping.{served_on}
use Rattle.acc_runtime.proofs.serving.serve.Goals.{then-drain, else-drain}
use Rattle.acc_runtime.proofs.serving.serve.Goals as goal

pub loop-word-preserved : goal.loop-word-preserved
loop-word-preserved g c =
    let inv = c.loop-word.invariant in
    record {
      kept = search rules;
      allowance = search rules;
      more = search rules;
      served = served_on c.args.runtime.now c.loop-word.yielded c.in-Some.word c.args.caller.now c.loop-word.caller c.drain.new.caller c.drain.result c.loop-word.refusals c.if-drain.refusals 18446744073709551615
          inv.more inv.served c.drain.ensures.drained (elim c.if-drain.branch [ then-drain w ↦ inl (search rules, search rules) | else-drain w ↦ inr (search rules, search rules) ]);
    }
