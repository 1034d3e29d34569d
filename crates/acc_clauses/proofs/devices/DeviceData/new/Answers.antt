use Rattle.std.proofs.Common.{sym, subst, rules, []}
use Rattle.std.proofs.lemmas.List.{length-replicate}
use Rattle.acc_base.specs.Limits.{limits_on}
use Rattle.acc_base.specs.Devices.{OneDevice}
use Rattle.acc_clauses.specs.Stored.{AreContentsSound}
use Rattle.acc_clauses.specs.Contents.{beside, room_of}
use Rattle.acc_clauses.specs.Devices.{DeviceContents, contents_with, new_shared}
use Rattle.acc_clauses.proofs.devices.DeviceData.new.Goals as goal

pub returns-clause-sound : goal.returns-clause-sound
returns-clause-sound c =
    subst (λ (x : OneDevice). let y : DeviceContents = record { limits = limits_on c.args.number c.args.config.now; device = x; room = room_of (beside c.in_ok-environment.environment []) } in AreContentsSound (contents_with y (new_shared c.args.config.now.host)))
    (sym c.in_ok-environment.ensures.ok.empty) (search (rules, length-replicate))
