-- Where no lease is told from the least number on, none is out.
use Rattle.std.proofs.Common.{◌≡◌, refl, cond, arith, List, [], ◌∷◌, None, Some}
use Rattle.std.specs.Prelude.{Bool, true, false, nat_le, find, option_map}
use Rattle.std.proofs.lemmas.Bool.Decides.{nat_tests}
use Rattle.acc_base.specs.Loans.{Leased}
use Rattle.lamwiest_c.specs.Leases.{raw_lease, lease_from}

pub none_out : (leases : List Leased) → lease_from 0 leases ≡ None → leases ≡ []
none_out [] none = refl
none_out (lease ∷ more) none = go (nat_le 0 lease.serial) least none
  where
    least : nat_le 0 lease.serial ≡ true
    least = grind (arith, nat_tests)

    go : (b : Bool) → b ≡ true → option_map raw_lease (cond b (Some lease) (find (λ (l : Leased). nat_le 0 l.serial) more)) ≡ None → lease ∷ more ≡ []
    go true up h = cc
    go false up h = cc
