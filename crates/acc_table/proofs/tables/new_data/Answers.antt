use Rattle.std.proofs.Common.{◌∙◌, ap}
use Rattle.std.specs.Prelude.{Bool}
use Rattle.acc_base.specs.Calls.{base_of}
use Rattle.acc_table.specs.Devices.{whole_of}
use Rattle.acc_table.proofs.Keeping as keeping
use Rattle.acc_table.proofs.tables.new_data.Goals as goal

pub returns-clause-sound : goal.returns-clause-sound
returns-clause-sound c = rw c.new-4.ensures.items (keeping.new_kept c.args.config c.in_ok-base.base c.in_ok-devices.devices c.laws.ensures.bounds c.in_ok-devices.ensures.set c.in_ok-devices.ensures.new (c.in_ok-base.ensures.ok ∙ ap (λ (full : Bool). base_of full (whole_of c.in_ok-devices.devices) 0) c.full.ensures))
