-- Threads may share a runtime. Neither the table behind its lock nor the books beside it belong to one thread, for
-- ledgers of any types that cross.
use denote.RattleType.{RattleType}
use Rattle.std.specs.declared.sync.ledger.Ledger.{Ghosts}
use Rattle.acc_runtime.specs.declared.ledgers.Limited.{Ghosts as Limits}
use denote.Param.Send.{IsSend, IsSync, sendable, param_send, arg_send, struct_send, recorded_send, view_send, shr_send, plain_send, param_sync, arg_sync, struct_sync, recorded_sync, view_sync, shr_sync, plain_sync}
use denote.Struct.Declared.{shape}
use Rattle.std.proofs.Crossing.{crosses}
use Rattle.acc_table.proofs.Crossing.{table_send}
use Rattle.acc_runtime.proofs.locked.Books.TheSendSync.{the_send as books_send, the_field_send as books_field_send}
use Rattle.acc_runtime.specs.contracts.locked.Locked as Locked
use Rattle.acc_runtime.specs.contracts.locked.Locked.TheInside as inside_locked
use Rattle.acc_runtime.specs.contracts.lock.Runtime as Runtime

locked_send : (L M N : RattleType) (b : Limits L.Denot) (l : Ghosts L.Denot) (m : Ghosts M.Denot) (n : Ghosts N.Denot) → IsSend L → IsSend M → IsSend N → IsSend (Locked.the_row L M N b l m n)
locked_send L M N b l m n sl sm sn =
    view_send _ _ _ _ _ (recorded_send (inside_locked.the_field L M N b l m n).row _ _ (inside_locked.the_type L M N b l m n).to_one
    (struct_send (shape (inside_locked.the_type L M N b l m n)) (search (sendable, crosses, table_send) depth 20, (search (sendable, crosses, books_send, books_field_send) depth 20, tt))))

pub runtime_sync : (L M N : RattleType) (b : Limits L.Denot) (l : Ghosts L.Denot) (m : Ghosts M.Denot) (n : Ghosts N.Denot) → IsSend L → IsSend M → IsSend N → IsSync (Runtime.the_row L M N b l m n)
runtime_sync L M N b l m n sl sm sn = search (sendable, crosses, locked_send L M N b l m n sl sm sn) depth 60 fits 100000

-- A function that hands a runtime to another thread lists these. With the whole of `sendable` and `crosses` a search does
-- not come to an end within its steps.
pub ruleset sharing = (param_send, arg_send, struct_send, recorded_send, view_send, shr_send, plain_send, param_sync, arg_sync, struct_sync, recorded_sync, view_sync, shr_sync, plain_sync, runtime_sync)
