use Rattle.std.proofs.Common.{◌≡◌}
use Rattle.lamwiest_c.specs.Named.{directive_named}
use Rattle.lamwiest_c.proofs.Judged.{asked_wrong, asked_right}
use Rattle.lamwiest_c.proofs.environments.TableWithLeases.do_named.Goals as goal

pub returns-in-Ok : goal.returns-in-Ok
returns-in-Ok c = asked_right c.args.self.now c.direct.new.self (directive_named c.args.asked.now c.args.items.now) c.in-Ok.directive (λ r. c.direct.result ≡ r) c.in-Ok.ensures c.direct.ensures

pub returns-in-Err : goal.returns-in-Err
returns-in-Err c = asked_wrong c.args.self.now (directive_named c.args.asked.now c.args.items.now) c.in-Err.refusal c.in-Err.ensures
