-- What is open after a region is entered or left: numbers that rise, and how often a block is held.
use Rattle.std.proofs.Common.{ℕ, ◌≡◌, ◌+◌, ◌<◌, ◌≤◌, refl, sym, ◌∙◌, ap, subst, Bool, true, false, cond, List, [], ◌∷◌, ◌++◌, length, Some, arith, length-append}
use Rattle.std.specs.Prelude.{◌==◌, not, nat_lt, filter, option_map, IsSome}
use Rattle.std.specs.List.{AllByRecursion}
use Rattle.std.proofs.lemmas.Bool.Decides.{nat_tests}
use Rattle.std.proofs.lemmas.List.Sums.{sum_by-cons, sum_by_push}
use Rattle.acc_base.specs.Words.{Item, RegionClause, Holding, Did}
use Rattle.acc_base.specs.Register.{Region, Register, new_register, holdings_at, region_at, with_region, without_region, opened, closed, count_held, held_in}
use Rattle.acc_base.specs.Walk.{holdings_of}
use Rattle.acc_base.specs.Accounts.{EachPair, IsRegisterSound}
use Rattle.acc_base.proofs.Results.{equal}
use Rattle.acc_base.proofs.InPlace.{IsPut, put-last}
use Rattle.acc_base.proofs.Keyed.{filter_all}
use Rattle.acc_base.proofs.Elements.{AllByRecursion-weaker, AllByRecursion-filter, AllByRecursion-append, EachPair-filter, EachPair-push}

-- open regions stand by rising number, below the next one
pub record IsNumbered (g : Register) : Type 0 where
  pub first : 1 ≤ g.next
  pub rising : EachPair (λ (r : Region) (t : Region). r.number < t.number) g.regions
  pub known : AllByRecursion (λ (r : Region). r.number < g.next) g.regions

-- each open region holds what at most 64 items counted
abbrev pub AreFew : Register → Type 0
AreFew g = AllByRecursion (λ (r : Region). length r.holdings ≤ 64) g.regions

pub register_sound : (g : Register) → IsNumbered g → AreFew g → IsRegisterSound g
register_sound g h few = record { first = h.first; rising = h.rising; known = h.known; few = few }

pub new_numbered : IsNumbered new_register
new_numbered = record { first = omega arith; rising = tt; known = tt }

-- ---- entry

put_region : (new : Region) → IsPut new (λ r. nat_lt new.number r.number) (with_region new)
put_region new = record { alone = refl; among = λ r rs. refl }

-- a region of a number above all others stands last
pub with_last : (new : Region) (rs : List Region) → AllByRecursion (λ (r : Region). r.number < new.number) rs → with_region new rs ≡ rs ++ new ∷ []
with_last new rs h = put-last (put_region new) rs (AllByRecursion-weaker (λ (r : Region). r.number < new.number) (λ r. nat_lt new.number r.number ≡ false) rs (λ r less. grind (arith, nat_tests)) h)

-- the region that is opened
abbrev pub next_region : List Holding → Register → Region
next_region holdings g = record { number = g.next; holdings = holdings }

pub opened_regions : (holdings : List Holding) (g : Register) → IsNumbered g → (opened g.next holdings g).regions ≡ g.regions ++ next_region holdings g ∷ []
opened_regions holdings g h = with_last (next_region holdings g) g.regions h.known

pub opened_numbered : (holdings : List Holding) (g : Register) → IsNumbered g → IsNumbered (opened g.next holdings g)
opened_numbered holdings g h = record {
  first = omega arith;
  rising = subst (λ rs. EachPair (λ (r : Region) (t : Region). r.number < t.number) rs) (sym (opened_regions holdings g h)) (EachPair-push (λ (r : Region) (t : Region). r.number < t.number) g.regions (next_region holdings g) h.known h.rising);
  known = subst (λ rs. AllByRecursion (λ (r : Region). r.number < g.next + 1) rs) (sym (opened_regions holdings g h))
      (AllByRecursion-append (λ (r : Region). r.number < g.next + 1) g.regions (next_region holdings g ∷ []) (AllByRecursion-weaker (λ (r : Region). r.number < g.next) (λ (r : Region). r.number < g.next + 1) g.regions (λ r p. omega arith) h.known) (omega arith, tt));
}

pub opened_few : (holdings : List Holding) (g : Register) → IsNumbered g → AreFew g → length holdings ≤ 64 → AreFew (opened g.next holdings g)
opened_few holdings g h few short = subst (λ rs. AllByRecursion (λ (r : Region). length r.holdings ≤ 64) rs) (sym (opened_regions holdings g h)) (AllByRecursion-append (λ (r : Region). length r.holdings ≤ 64) g.regions (next_region holdings g ∷ []) few (short, tt))

pub opened_held : (b : ℕ) (holdings : List Holding) (g : Register) → IsNumbered g → held_in b (opened g.next holdings g).regions ≡ held_in b g.regions + count_held b holdings
opened_held b holdings g h = ap (held_in b) (opened_regions holdings g h) ∙ sum_by_push (λ (r : Region). count_held b r.holdings) g.regions (next_region holdings g)

pub opened_count : (holdings : List Holding) (g : Register) → IsNumbered g → length (opened g.next holdings g).regions ≡ length g.regions + 1
opened_count holdings g h = ap (λ (rs : List Region). length rs) (opened_regions holdings g h) ∙ length-append g.regions (next_region holdings g ∷ [])

-- a region holds no more than its entry had items
pub holdings_short : (items : List (Item RegionClause)) (dids : List Did) → length (holdings_of items dids) ≤ length items
holdings_short [] [] = omega arith
holdings_short (item ∷ items) (did ∷ dids) = let later : length (holdings_of items dids) ≤ length items = holdings_short items dids in omega arith
holdings_short _ _ = omega arith

-- ---- exit

pub closed_numbered : (number : ℕ) (g : Register) → IsNumbered g → IsNumbered (closed number g)
closed_numbered number g h = record {
  first = h.first;
  rising = EachPair-filter (λ (r : Region) (t : Region). r.number < t.number) (λ r. not (r.number == number)) g.regions h.rising;
  known = AllByRecursion-filter (λ (r : Region). r.number < g.next) (λ r. not (r.number == number)) g.regions h.known;
}

pub closed_few : (number : ℕ) (g : Register) → AreFew g → AreFew (closed number g)
closed_few number g few = AllByRecursion-filter (λ (r : Region). length r.holdings ≤ 64) (λ r. not (r.number == number)) g.regions few

-- where each number is above it, none goes
no_region_without : (number : ℕ) (rs : List Region) → AllByRecursion (λ (r : Region). number < r.number) rs → without_region number rs ≡ rs
no_region_without number rs h = filter_all (λ (r : Region). r.number) number rs (AllByRecursion-weaker (λ (r : Region). number < r.number) (λ r. r.number ≡ number → ⊥) rs (λ r less same. omega arith) h)

some_same : {X : Type 0} (x y : X) → Some x ≡ Some y → x ≡ y
some_same x y e = cc

held_without : (b number : ℕ) (holdings : List Holding) (rs : List Region) → EachPair (λ (r : Region) (t : Region). r.number < t.number) rs → holdings_at number rs ≡ Some holdings
    → held_in b rs ≡ held_in b (without_region number rs) + count_held b holdings
held_without b number holdings [] h e = cc
held_without b number holdings (r ∷ rs) h e = go (held_without b number holdings rs h.1) (r.number == number) refl e
  where
    all_of : held_in b (r ∷ rs) ≡ count_held b r.holdings + held_in b rs
    all_of = sum_by-cons (λ (t : Region). count_held b t.holdings) r rs

    go : (holdings_at number rs ≡ Some holdings → held_in b rs ≡ held_in b (without_region number rs) + count_held b holdings) → (t : Bool) → (r.number == number) ≡ t
        → option_map (λ (x : Region). x.holdings) (cond t (Some r) (region_at number rs)) ≡ Some holdings
        → held_in b (r ∷ rs) ≡ held_in b (cond (not t) (r ∷ without_region number rs) (without_region number rs)) + count_held b holdings
    go rest true e q =
        let same : r.holdings ≡ holdings = some_same _ _ q in
        let others : without_region number rs ≡ rs = no_region_without number rs (subst (λ n. AllByRecursion (λ (t : Region). n < t.number) rs) (equal _ _ e) h.0) in
        let held : count_held b r.holdings ≡ count_held b holdings = ap (count_held b) same in
        let left : held_in b (without_region number rs) ≡ held_in b rs = ap (held_in b) others in
        all_of ∙ omega arith
    go rest false e q =
        let later : held_in b rs ≡ held_in b (without_region number rs) + count_held b holdings = rest q in
        let kept : held_in b (r ∷ without_region number rs) ≡ count_held b r.holdings + held_in b (without_region number rs) = sum_by-cons (λ (t : Region). count_held b t.holdings) r (without_region number rs) in
        all_of ∙ omega arith

-- an exit leaves one region fewer open
one_without : (number : ℕ) (rs : List Region) → EachPair (λ (r : Region) (t : Region). r.number < t.number) rs → IsSome (holdings_at number rs) → length (without_region number rs) + 1 ≡ length rs
one_without number [] h there = absurd cc
one_without number (r ∷ rs) h there = go (one_without number rs h.1) (r.number == number) refl there
  where
    go : (IsSome (holdings_at number rs) → length (without_region number rs) + 1 ≡ length rs) → (t : Bool) → (r.number == number) ≡ t
        → IsSome (option_map (λ (x : Region). x.holdings) (cond t (Some r) (region_at number rs))) → length (cond (not t) (r ∷ without_region number rs) (without_region number rs)) + 1 ≡ length (r ∷ rs)
    go rest true e q =
        let others : without_region number rs ≡ rs = no_region_without number rs (subst (λ n. AllByRecursion (λ (t : Region). n < t.number) rs) (equal _ _ e) h.0) in
        let left : length (without_region number rs) ≡ length rs = ap (λ (xs : List Region). length xs) others in
        omega arith
    go rest false e q = let later : length (without_region number rs) + 1 ≡ length rs = rest q in omega arith

pub closed_one : (number : ℕ) (g : Register) → IsNumbered g → IsSome (holdings_at number g.regions) → length (closed number g).regions + 1 ≡ length g.regions
closed_one number g h there = one_without number g.regions h.rising there

pub closed_held : (b number : ℕ) (holdings : List Holding) (g : Register) → IsNumbered g → holdings_at number g.regions ≡ Some holdings → held_in b g.regions ≡ held_in b (closed number g).regions + count_held b holdings
closed_held b number holdings g h e = held_without b number holdings g.regions h.rising e

length-filtered : {X : Type 0} (p : X → Bool) (xs : List X) → length (filter p xs) ≤ length xs
length-filtered p [] = omega arith
length-filtered p (x ∷ xs) = go (length-filtered p xs) (p x)
  where
    go : length (filter p xs) ≤ length xs → (t : Bool) → length (cond t (x ∷ filter p xs) (filter p xs)) ≤ length (x ∷ xs)
    go rest true = omega arith
    go rest false = omega arith

pub closed_count : (number : ℕ) (g : Register) → length (closed number g).regions ≤ length g.regions
closed_count number g = length-filtered (λ (r : Region). not (r.number == number)) g.regions
