use Rattle.acc_runtime.proofs.Crossing.{sharing}
use Rattle.acc_jobs.proofs.threads.work_all.Goals as goal

pub for_each_mut-requires-sync-F : goal.for_each_mut-requires-sync-F
for_each_mut-requires-sync-F g c κs within = search sharing depth 40 fits 10000
