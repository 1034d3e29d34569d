use Rattle.std.proofs.Common.{rules}
use Rattle.std.specs.Cmp.Derive.Mapped.{pointwise-map}
use Rattle.acc_clauses.proofs.bases.DeviceBase.has_records_of.Goals as goal

pub returns : goal.returns
returns c = search (rules, pointwise-map)
