use Rattle.std.proofs.Common.{ap}
use Rattle.acc_base.specs.Calls.{World}
use Rattle.acc_script.specs.Sessions.{session_state}
use Rattle.acc_script.specs.Scripts.{SessionState}
use Rattle.acc_script.proofs.Refused.{refused_call}
use Rattle.acc_script.proofs.sessions.Session.call.Goals as goal

pub returns-in-Err : goal.returns-in-Err
returns-in-Err c =
    let old = session_state c.args.self.now in
    let now : World → SessionState = λ w. record { world = w; layout = old.layout; device = old.device } in
    rw c.refused.ensures (refused_call old (now c.apply.new.self) c.args.call c.in-Err.back.1 c.in-Err.ensures.refused (ap now c.in-Err.ensures.same.1))
