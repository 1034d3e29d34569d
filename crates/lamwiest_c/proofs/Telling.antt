-- An array that is overwritten, element by element.
use Rattle.std.proofs.Common.{ℕ, ◌≡◌, ◌+◌, ◌≤◌, ◌<◌, refl, sym, ap, subst, arith, List, [], ◌∷◌, ◌++◌, length, take, drop, Option, None, Some}
use Rattle.std.specs.Prelude.{suc, zero, slice_set, unwrap_or}
use Rattle.lamwiest_c.specs.declared.dids.RawDid.{RawDid}
use Rattle.lamwiest_c.specs.Dids.{told_over}

-- what was written, before what is written over the rest
abbrev pub told_so_far : (ℕ → Option RawDid) → ℕ → ℕ → List RawDid → List RawDid
told_so_far told place at dids = take at dids ++ told_over told place (drop at dids)

-- behind one element more
behind : (told : ℕ → Option RawDid) (place at : ℕ) (d : RawDid) (dids : List RawDid) (all : List RawDid) → told_so_far told place (at + 1) dids ≡ all → told_so_far told place (suc at + 1) (d ∷ dids) ≡ d ∷ all
behind told place at d dids all is =
    let next : suc (at + 1) ≡ suc at + 1 = omega arith in
    subst (λ (n : ℕ). told_so_far told place n (d ∷ dids) ≡ d ∷ all) next (ap (λ (xs : List RawDid). d ∷ xs) is)

-- one element more, over which something is written
pub told_more : (told : ℕ → Option RawDid) (place at : ℕ) (dids : List RawDid) (did : RawDid) → at < length dids → told place ≡ Some did
    → told_so_far told (place + 1) (at + 1) (slice_set dids at did) ≡ told_so_far told place at dids
told_more told place at [] did within is = absurd (omega (arith, within))
told_more told place zero (d ∷ dids) did within is = ap (λ (o : Option RawDid). unwrap_or o d ∷ told_over told (place + 1) dids) (sym is)
told_more told place (suc at) (d ∷ dids) did within is = behind told (place + 1) at d (slice_set dids at did) _ (told_more told place at dids did (omega (arith, within)) is)

-- one element more, which stays
pub told_nothing : (told : ℕ → Option RawDid) (place at : ℕ) (dids : List RawDid) → at < length dids → told place ≡ None
    → told_so_far told (place + 1) (at + 1) dids ≡ told_so_far told place at dids
told_nothing told place at [] within is = absurd (omega (arith, within))
told_nothing told place zero (d ∷ dids) within is = ap (λ (o : Option RawDid). unwrap_or o d ∷ told_over told (place + 1) dids) (sym is)
told_nothing told place (suc at) (d ∷ dids) within is = behind told (place + 1) at d dids _ (told_nothing told place at dids (omega (arith, within)) is)

-- all of them
pub told_all : (told : ℕ → Option RawDid) (place at : ℕ) (dids : List RawDid) → length dids ≤ at → told_so_far told place at dids ≡ dids
told_all told place zero [] over = refl
told_all told place (suc at) [] over = refl
told_all told place zero (d ∷ dids) over = absurd (omega (arith, over))
told_all told place (suc at) (d ∷ dids) over = ap (λ (xs : List RawDid). d ∷ xs) (told_all told place at dids (omega (arith, over)))
