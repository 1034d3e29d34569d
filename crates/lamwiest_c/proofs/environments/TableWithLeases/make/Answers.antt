use Rattle.lamwiest_c.proofs.Keeping.{kept_asked}
use Rattle.lamwiest_c.proofs.environments.TableWithLeases.make.Goals as goal

pub invariant_of-self : goal.invariant_of-self
invariant_of-self c = kept_asked c.self.inside.table c.apply.new.self c.args.call c.apply.result c.self.inside.leases.entries c.apply.ensures.done c.apply.ensures.same c.self.invariant
