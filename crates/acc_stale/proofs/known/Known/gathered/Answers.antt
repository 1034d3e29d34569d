use Rattle.std.proofs.Common.{List, ℕ, Bor, option_map, ap}
use Rattle.std.proofs.lemmas.Result.{on_ok_weaker}
use Rattle.acc_stale.proofs.Written.{back_found, back_other}
use Rattle.acc_stale.proofs.known.Known.gathered.Goals as goal

pub returns-in-Some-clause-ok : goal.returns-in-Some-clause-ok
returns-in-Some-clause-ok c = on_ok_weaker c.kernel_wrote.result (λ is s. back_found c.args.block c.args.section c.args.attached.now _ c.in-Some.before.now c.args.after.now c.args.own.now s c.args.self.now _ (ap (option_map {T = Bor (List ℕ)} {U = List ℕ} (λ bytes. bytes.now)) c.in-Some.is) is) c.kernel_wrote.ensures.ok

pub returns-in-None-clause-ok : goal.returns-in-None-clause-ok
returns-in-None-clause-ok c = on_ok_weaker c.kernel_wrote_all.result (λ is s. back_other c.args.block c.args.section c.args.attached.now _ c.args.after.now c.args.own.now s c.args.self.now _ (ap (option_map {T = Bor (List ℕ)} {U = List ℕ} (λ bytes. bytes.now)) c.in-None.is) is) c.kernel_wrote_all.ensures.ok
