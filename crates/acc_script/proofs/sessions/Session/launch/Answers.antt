use Rattle.std.proofs.Common.{rules, ◌≡◌, false, ap}
use Rattle.std.specs.Prelude.{is_none}
use Rattle.acc_base.specs.Calls.{World}
use Rattle.acc_table.specs.Queries.{host_read_of}
use Rattle.acc_script.specs.Kernels.{source_of}
use Rattle.acc_script.specs.Sessions.{session_state}
use Rattle.acc_script.specs.Scripts.{SessionState}
use Rattle.acc_script.proofs.Launched.{found_bytes, launch_refused, launch_done}
use Rattle.acc_script.proofs.sessions.Session.launch.Goals as goal

pub returns-in-Ok-Lease : goal.returns-in-Ok-Lease
returns-in-Ok-Lease g c =
    let old = session_state c.args.self.now in
    let over = c.args.section in
    let some : is_none c.host_read.result ≡ false = search rules in
    let found = found_bytes (λ b. b.now) c.host_read.result (host_read_of (source_of c.args.kernel) old.world.state.host) (rw c.source_of.ensures at c.host_read.ensures) some in
    launch_done old (session_state c.work.new.self) c.args.region c.args.kernel over found.0 found.1 c.apply.new.self c.in-Ok-Lease.lease c.work.result (rw c.in-Ok-Lease.field-0-is at c.in-Ok-Lease.ensures.done) c.work.ensures

pub returns-in-Err : goal.returns-in-Err
returns-in-Err g c =
    let old = session_state c.args.self.now in
    let now : World → SessionState = λ w. record { world = w; layout = old.layout; device = old.device } in
    let some : is_none c.host_read.result ≡ false = search rules in
    let found = found_bytes (λ b. b.now) c.host_read.result (host_read_of (source_of c.args.kernel) old.world.state.host) (rw c.source_of.ensures at c.host_read.ensures) some in
    rw c.refused.ensures (launch_refused old (now c.apply.new.self) c.args.region c.args.kernel c.args.section found.0 found.1 c.in-Err.back.1 c.in-Err.ensures.refused (ap now c.in-Err.ensures.same.1))
