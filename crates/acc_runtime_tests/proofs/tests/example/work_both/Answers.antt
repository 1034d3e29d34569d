use Rattle.acc_runtime.proofs.Crossing.{sharing}
use Rattle.acc_runtime.proofs.callers.Caller.TheSendSync.{the_send as caller_send}
use Rattle.acc_runtime_tests.proofs.tests.gates.Meeting.TheSendSync.{the_sync as meeting_sync}
use Rattle.acc_runtime_tests.proofs.tests.example.work_both.Goals as goal

pub join-requires-send-F : goal.join-requires-send-F
join-requires-send-F g c κs within = search (sharing, caller_send, meeting_sync) depth 40 fits 10000
