use Rattle.acc_base.specs.declared.calls.Call.TheVariants.{HostWrite}
use Rattle.acc_table.specs.declared.calls.Reply.TheVariants.{Done}
use Rattle.lamwiest_c.proofs.Keeping.{kept_done}
use Rattle.lamwiest_c.proofs.environments.TableWithLeases.host_write.Goals as goal

pub invariant_of-self-2 : goal.invariant_of-self-2
invariant_of-self-2 c =
    kept_done c.self.inside.table c.host_write.new.self (HostWrite c.args.addr c.args.bytes.now) Done c.self.inside.leases.entries c.in_ok-host_write.ensures.done c.self.invariant
