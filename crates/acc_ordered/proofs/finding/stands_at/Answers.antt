use Rattle.std.proofs.Common.{arith}
use Rattle.std.proofs.lemmas.Bool.Decides.{nat_tests}
use Rattle.acc_ordered.specs.Listing.{entry_in}
use Rattle.acc_ordered.proofs.finding.stands_at.Goals as goal

pub returns : goal.returns
returns g c = record {
  taken = c.in-Some.ensures.taken;
  entry = entry_in g.K.Key.number c.in-Some.found;
  entry_is = c.in-Some.ensures.entry;
  key_is = grind (arith, nat_tests, c.is_below.ensures, c.if-is_below.false, c.is_below-else-is_below.ensures, c.if-is_below-2.false);
}
