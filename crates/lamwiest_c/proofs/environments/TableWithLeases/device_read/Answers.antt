use Rattle.std.proofs.Common.{sym, length}
use Rattle.acc_base.specs.declared.items.Section.{Section}
use Rattle.lamwiest_c.proofs.Copying.{device_read_len}
use Rattle.lamwiest_c.proofs.environments.TableWithLeases.device_read.Goals as goal

pub copy_from_slice-requires : goal.copy_from_slice-requires
copy_from_slice-requires c =
    let section : Section = record { start = c.args.start; len = length c.args.into.now } in
    sym (device_read_len c.args.device c.self.inside.table section c.in-Some.bytes.now c.laws.ensures.bounds c.laws.ensures.accounted (sym c.in-Some.ensures))
