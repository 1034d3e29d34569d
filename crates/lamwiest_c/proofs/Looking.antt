-- How the places of leases are looked through, for the one of least number at or above a number.
use Rattle.std.proofs.Common.{ℕ, ◌≡◌, ◌+◌, ◌<◌, ◌≤◌, refl, sym, ap, ◌∙◌, List, [], ◌∷◌, length, drop, Option, Some, None}
use Rattle.std.specs.Prelude.{Bool, true, false, nat_le}
use Rattle.std.proofs.lemmas.List.{drop_more, drop_all}
use Rattle.std.proofs.Math.ListN.{get_or}
use Rattle.acc_index.specs.declared.index.IndexEntry.{IndexEntry}
use Rattle.acc_index.specs.Indexed.{live_entries}
use Rattle.lamwiest_c.specs.declared.environments.KeptLease.{KeptLease}
use Rattle.lamwiest_c.specs.declared.lookups.RawLease.{RawLease}
use Rattle.lamwiest_c.specs.Keeps.{leases_in, told_of, told_from}
use Rattle.lamwiest_c.specs.Leases.{lease_from}

-- what is told of the first of two of which something is
abbrev pub first_of : Option RawLease → Option RawLease → Option RawLease
first_of (Some told) later = Some told
first_of None later = later

-- and of the first of these places
abbrev pub first_told : ℕ → List (IndexEntry KeptLease) → Option RawLease
first_told from [] = None
first_told from (e ∷ es) = first_of (told_from from e) (first_told from es)

-- it is told of the leases that are there
pub first_live : (from : ℕ) (items : List (IndexEntry KeptLease)) → first_told from items ≡ lease_from from (leases_in (live_entries items))
first_live from [] = refl
first_live from (e ∷ es) = go e.value refl (first_live from es)
  where
    there : (own : KeptLease) (b : Bool) → nat_le from own.lease.serial ≡ b → first_told from es ≡ lease_from from (leases_in (live_entries es)) → first_of (told_of from (Some own)) (first_told from es) ≡ lease_from from (own.lease ∷ leases_in (live_entries es))
    there own true t rest = rw t refl
    there own false t rest = rw t rest

    go : (value : Option KeptLease) → e.value ≡ value → first_told from es ≡ lease_from from (leases_in (live_entries es)) → first_told from (e ∷ es) ≡ lease_from from (leases_in (live_entries (e ∷ es)))
    go None is rest = rw is rest
    go (Some own) is rest = rw is (there own (nat_le from own.lease.serial) refl rest)

module _ (from i : ℕ) (items : List (IndexEntry KeptLease)) (whole : Option RawLease) where
  -- what is left, by its first place
  next : (d : IndexEntry KeptLease) → i < length items → first_told from (drop i items) ≡ first_of (told_from from (get_or items i d)) (first_told from (drop (i + 1) items))
  next d within = ap (first_told from) (drop_more items i d within)

  -- something is told of it, or not
  of_first : (d : IndexEntry KeptLease) (told : Option RawLease) → i < length items → told_from from (get_or items i d) ≡ told → first_told from (drop i items) ≡ first_of told (first_told from (drop (i + 1) items))
  of_first d told within is = next d within ∙ ap (λ (t : Option RawLease). first_of t (first_told from (drop (i + 1) items))) is

  pub told_here : (d : IndexEntry KeptLease) (told : RawLease) → i < length items → told_from from (get_or items i d) ≡ Some told → first_told from (drop i items) ≡ whole → Some told ≡ whole
  told_here d told within is so_far = sym (of_first d (Some told) within is) ∙ so_far

  pub told_later : (d : IndexEntry KeptLease) → i < length items → told_from from (get_or items i d) ≡ None → first_told from (drop i items) ≡ whole → first_told from (drop (i + 1) items) ≡ whole
  told_later d within is so_far = sym (of_first d None within is) ∙ so_far

  pub none_told : length items ≤ i → first_told from (drop i items) ≡ whole → None ≡ whole
  none_told past so_far = ap (first_told from) (sym (drop_all i items past)) ∙ so_far
