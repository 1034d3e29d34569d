-- Lists whose elements have a key that rises or tells them apart: searches by the key, and changes at a place.
use Rattle.std.proofs.Common.{ℕ, zero, suc, ◌≡◌, ◌<◌, ◌≤◌, refl, sym, ap, ◌∙◌, Bool, true, false, cond, List, [], ◌∷◌, length, get_or, set, take, drop, insert, Some, None, IsSome, arith, rules}
use Rattle.std.specs.Prelude.{◌==◌, not, map, find, filter, nat_lt}
use Rattle.std.specs.List.{AllByRecursion, remove}
use Rattle.std.proofs.lemmas.Bool.Decides.{nat_tests}
use Rattle.acc_base.specs.Splits.{IsSplitBy}
use Rattle.acc_base.specs.Accounts.{EachPair}
use Rattle.acc_base.proofs.Results.{equal, equal_self}
use Rattle.acc_base.proofs.Elements.{AllByRecursion-weaker, AllByRecursion-both, EachPair-weaker, filter-kept, find_none, find-none, found_has}
use Rattle.acc_base.proofs.Splitting.{all_at}
use Rattle.acc_base.proofs.Lookups.{at, AreDistinct, at-without_same, at-without_other}

-- ---- each element

-- what all have, those from a place on have
pub all-drop : {X : Type 0} (P : X → Type 0) (xs : List X) (i : ℕ) → AllByRecursion P xs → AllByRecursion P (drop i xs)
all-drop P [] zero h = tt
all-drop P [] (suc i) h = tt
all-drop P (x ∷ xs) zero h = h
all-drop P (x ∷ xs) (suc i) h = all-drop P xs i h.1

-- what all have and a new one, all have with it
pub all-insert : {X : Type 0} (P : X → Type 0) (xs : List X) (i : ℕ) (new : X) → AllByRecursion P xs → P new → AllByRecursion P (insert xs i new)
all-insert P [] zero new h p = (p, tt)
all-insert P [] (suc i) new h p = (p, tt)
all-insert P (x ∷ xs) zero new h p = (p, h)
all-insert P (x ∷ xs) (suc i) new h p = (h.0, all-insert P xs i new h.1 p)

-- what holds at each index holds of each element
pub all_from : {X : Type 0} (P : X → Type 0) (xs : List X) (d : X) → ((k : ℕ) → k < length xs → P (get_or xs k d)) → AllByRecursion P xs
all_from P [] d h = tt
all_from P (x ∷ xs) d h = (h 0 (omega arith), all_from P xs d (λ k lt. h (suc k) (omega arith)))

-- what holds of each element holds of each that is left without one
pub all-remove : {X : Type 0} (P : X → Type 0) (xs : List X) (i : ℕ) → AllByRecursion P xs → AllByRecursion P (remove xs i)
all-remove P [] zero h = tt
all-remove P [] (suc i) h = tt
all-remove P (x ∷ xs) zero h = h.1
all-remove P (x ∷ xs) (suc i) h = (h.0, all-remove P xs i h.1)

-- the images without one are the images of the elements without one
pub map-remove : {X Y : Type 0} (f : X → Y) (xs : List X) (i : ℕ) → map f (remove xs i) ≡ remove (map f xs) i
map-remove f [] zero = refl
map-remove f [] (suc i) = refl
map-remove f (x ∷ xs) zero = refl
map-remove f (x ∷ xs) (suc i) = ap (λ ys. f x ∷ ys) (map-remove f xs i)

-- ---- each pair

-- what each two have, and each with a new one in its place, each two have with it
pub pairs-insert : {X : Type 0} (R : X → X → Type 0) (xs : List X) (i : ℕ) (new : X) → EachPair R xs → AllByRecursion (λ x. R x new) (take i xs) → AllByRecursion (R new) (drop i xs) → EachPair R (insert xs i new)
pairs-insert R [] zero new h below above = (tt, tt)
pairs-insert R [] (suc i) new h below above = (tt, tt)
pairs-insert R (x ∷ xs) zero new h below above = (above, h)
pairs-insert R (x ∷ xs) (suc i) new h below above = (all-insert (R x) xs i new h.0 below.0, pairs-insert R xs i new h.1 below.1 above)

-- what relates each two elements relates each two that are left without one
pub apart-remove : {X : Type 0} (R : X → X → Type 0) (xs : List X) (i : ℕ) → EachPair R xs → EachPair R (remove xs i)
apart-remove R [] zero h = tt
apart-remove R [] (suc i) h = tt
apart-remove R (x ∷ xs) zero h = h.1
apart-remove R (x ∷ xs) (suc i) h = (all-remove (R x) xs i h.0, apart-remove R xs i h.1)

-- ---- an element of a list by its key

module _ {X : Type 0} (key : X → ℕ) where
  -- the keys rise
  abbrev pub Rise : List X → Type 0
  Rise xs = EachPair (λ x y. key x < key y) xs

  -- rising keys differ
  pub rise_distinct : (xs : List X) → Rise xs → AreDistinct key xs
  rise_distinct [] h = tt
  rise_distinct (x ∷ xs) h = (AllByRecursion-weaker (λ y. key x < key y) (λ y. key x ≡ key y → ⊥) xs (λ y less same. absurd (omega arith)) h.0, rise_distinct xs h.1)

  -- ---- a search by halves

  -- the key of an element is below a number
  abbrev pub is_key_below : ℕ → X → Bool
  is_key_below number x = nat_lt (key x) number

  -- keys below a number stand first where keys rise
  pub below_first : (number : ℕ) (xs : List X) → Rise xs → EachPair (λ x y. is_key_below number y ≡ true → is_key_below number x ≡ true) xs
  below_first number xs r = EachPair-weaker (λ x y. key x < key y) (λ x y. is_key_below number y ≡ true → is_key_below number x ≡ true) xs (λ x y less e. grind (arith, nat_tests)) r

  -- the keys before the place of a number are below it
  pub keys_below : (number : ℕ) (xs : List X) (i : ℕ) → IsSplitBy (is_key_below number) xs i → AllByRecursion (λ x. key x < number) (take i xs)
  keys_below number xs i parts = AllByRecursion-weaker (λ x. is_key_below number x ≡ true) (λ x. key x < number) (take i xs) (λ x e. grind (arith, nat_tests)) parts.passed

  -- and those from it on are not
  pub keys_from : (number : ℕ) (xs : List X) (i : ℕ) → IsSplitBy (is_key_below number) xs i → AllByRecursion (λ x. number ≤ key x) (drop i xs)
  keys_from number xs i parts = AllByRecursion-weaker (λ x. is_key_below number x ≡ false) (λ x. number ≤ key x) (drop i xs) (λ x e. grind (arith, nat_tests)) parts.failed

  -- the others are split at the place before
  split_rest : (number : ℕ) (x : X) (xs : List X) (i : ℕ) → IsSplitBy (is_key_below number) (x ∷ xs) (suc i) → IsSplitBy (is_key_below number) xs i
  split_rest number x xs i parts = record { bound = omega (arith, parts.bound); passed = parts.passed.1; failed = parts.failed }

  -- ---- the element of a key

  -- no key is this one where all are above it
  at-above : (number : ℕ) (xs : List X) → AllByRecursion (λ x. number < key x) xs → at key number xs ≡ None
  at-above number xs h = find-none (λ x. key x == number) xs (AllByRecursion-weaker (λ x. number < key x) (λ x. (key x == number) ≡ false) xs (λ x less. grind (arith, nat_tests)) h)

  -- what stands at the place of a key that is there
  pub record IsFoundAt (number : ℕ) (xs : List X) (i : ℕ) (d : X) : Type 0 where
    pub bound : i < length xs
    pub key_is : key (get_or xs i d) ≡ number
    pub found : at key number xs ≡ Some (get_or xs i d)

  -- an element that is there stands at the place of its key
  pub found_at : (number : ℕ) (xs : List X) (i : ℕ) (d : X) → Rise xs → IsSplitBy (is_key_below number) xs i → IsSome (at key number xs) → IsFoundAt number xs i d
  found_at number [] i d r parts there = absurd (search (rules, there))
  found_at number (x ∷ xs) zero d r parts there = go (key x == number) refl there
    where
      go : (b : Bool) → (key x == number) ≡ b → IsSome (cond b (Some x) (at key number xs)) → IsFoundAt number (x ∷ xs) zero d
      go true e s = record { bound = omega arith; key_is = equal _ _ e; found = rw e }
      go false e s =
          let least = parts.failed.0 in
          let lowest : number < key x = grind (arith, nat_tests) in
          let none : at key number xs ≡ None = at-above number xs (AllByRecursion-weaker (λ y. key x < key y) (λ y. number < key y) xs (λ y less. omega arith) r.0) in
          absurd (search (rules, rw none at s))
  found_at number (x ∷ xs) (suc i) d r parts there =
      let less = parts.passed.0 in
      let t : (key x == number) ≡ false = grind (arith, nat_tests) in
      let later = found_at number xs i d r.1 (split_rest number x xs i parts) (rw t at there) in
      record { bound = omega (arith, later.bound); key_is = later.key_is; found = rw t later.found }

  -- the place of a key that is there is within the list
  pub found_within : (number : ℕ) (xs : List X) (i : ℕ) → IsSplitBy (is_key_below number) xs i → IsSome (at key number xs) → i < length xs
  found_within number [] i parts there = absurd (search (rules, there))
  found_within number (x ∷ xs) zero parts there = omega arith
  found_within number (x ∷ xs) (suc i) parts there =
      let less = parts.passed.0 in
      let t : (key x == number) ≡ false = grind (arith, nat_tests) in
      omega (arith, found_within number xs i (split_rest number x xs i parts) (rw t at there))

  -- none has a number at whose place another key stands
  pub at_no_place : (number : ℕ) (xs : List X) (i : ℕ) (d : X) → Rise xs → IsSplitBy (is_key_below number) xs i → (i < length xs → key (get_or xs i d) ≡ number → ⊥) → at key number xs ≡ None
  at_no_place number [] i d r parts other = refl
  at_no_place number (x ∷ xs) zero d r parts other =
      let least = parts.failed.0 in
      let differs : key x ≡ number → ⊥ = other (omega arith) in
      let t : (key x == number) ≡ false = grind (arith, nat_tests) in
      let less : number < key x = grind (arith, nat_tests, differs) in
      rw t (at-above number xs (AllByRecursion-weaker (λ y. key x < key y) (λ y. number < key y) xs (λ y more. omega arith) r.0))
  at_no_place number (x ∷ xs) (suc i) d r parts other =
      let less = parts.passed.0 in
      let t : (key x == number) ≡ false = grind (arith, nat_tests) in
      rw t (at_no_place number xs i d r.1 (split_rest number x xs i parts) (λ lt. other (omega arith)))

  -- an element that a search finds is the one of its key
  pub at-found : (p : X → Bool) (xs : List X) (x : X) → Rise xs → find p xs ≡ Some x → at key (key x) xs ≡ Some x
  at-found p [] x r e = cc
  at-found p (y ∷ ys) x r e = go (at-found p ys x r.1) (p y) refl e
    where
      go : (find p ys ≡ Some x → at key (key x) ys ≡ Some x) → (b : Bool) → p y ≡ b → cond b (Some y) (find p ys) ≡ Some x → at key (key x) (y ∷ ys) ≡ Some x
      go rest true t h = let same : y ≡ x = cc in rw (← same) (rw (equal_self (key y)) refl)
      go rest false t h =
          let less : key y < key x = (found_has (λ z. key y < key z) p ys x r.0 h).0 in
          let f : (key y == key x) ≡ false = grind (arith, nat_tests) in
          rw f (rest h)

  -- ---- an element more

  -- the keys behind the place of a new one are above it
  pub above_new : (number : ℕ) (xs : List X) (i : ℕ) → IsSplitBy (is_key_below number) xs i → at key number xs ≡ None → AllByRecursion (λ x. number < key x) (drop i xs)
  above_new number xs i parts none = AllByRecursion-both (λ x. number ≤ key x) (λ x. (key x == number) ≡ false) (λ x. number < key x) (drop i xs) (λ x le other. grind (arith, nat_tests)) (keys_from number xs i parts) (all-drop (λ x. (key x == number) ≡ false) xs i (find_none (λ x. key x == number) xs none))

  -- keys rise with a new one in its place
  pub rise-insert : (xs : List X) (i : ℕ) (new : X) → Rise xs → IsSplitBy (is_key_below (key new)) xs i → at key (key new) xs ≡ None → Rise (insert xs i new)
  rise-insert xs i new r parts none = pairs-insert (λ x y. key x < key y) xs i new r (keys_below (key new) xs i parts) (above_new (key new) xs i parts none)

  -- ---- an element less

  -- leaving out a key that none has leaves all
  pub filter_all : (number : ℕ) (xs : List X) → AllByRecursion (λ x. key x ≡ number → ⊥) xs → filter (λ x. not (key x == number)) xs ≡ xs
  filter_all number xs h = filter-kept (λ x. not (key x == number)) xs (AllByRecursion-weaker (λ x. key x ≡ number → ⊥) (λ x. not (key x == number) ≡ true) xs (λ x other. let t : (key x == number) ≡ false = grind (arith, nat_tests, other) in rw t refl) h)

  -- taking out the element at a place is leaving out its key
  pub remove-filter : (xs : List X) (i number : ℕ) (d : X) → AreDistinct key xs → i < length xs → key (get_or xs i d) ≡ number → remove xs i ≡ filter (λ x. not (key x == number)) xs
  remove-filter [] i number d r lt is = absurd (omega arith)
  remove-filter (x ∷ xs) zero number d r lt is =
      let t : (key x == number) ≡ true = grind (arith, nat_tests) in
      rw t (sym (filter_all number xs (AllByRecursion-weaker (λ y. key x ≡ key y → ⊥) (λ y. key y ≡ number → ⊥) xs (λ y other same. other (is ∙ sym same)) r.0)))
  remove-filter (x ∷ xs) (suc i) number d r lt is =
      let other : key x ≡ key (get_or xs i d) → ⊥ = all_at (λ y. key x ≡ key y → ⊥) xs i d (omega arith) r.0 in
      let t : (key x == number) ≡ false = grind (arith, nat_tests) in
      rw t (ap (λ ys. x ∷ ys) (remove-filter xs i number d r.1 (omega arith) is))

  -- the element of a key, without one
  pub at-without : (xs : List X) (number other : ℕ) → at key other (filter (λ x. not (key x == number)) xs) ≡ cond (number == other) None (at key other xs)
  at-without xs number other = go (number == other) refl
    where
      go : (b : Bool) → (number == other) ≡ b → at key other (filter (λ x. not (key x == number)) xs) ≡ cond b None (at key other xs)
      go true e = let same : number ≡ other = equal _ _ e in rw (← same) (at-without_same key number xs)
      go false e = at-without_other key number other xs (grind (arith, nat_tests))

  -- ---- an element changed

  -- changing the element of a key that none has leaves all
  map_all : (number : ℕ) (f : X → X) (xs : List X) → AllByRecursion (λ x. number ≡ key x → ⊥) xs → map (λ x. cond (key x == number) (f x) x) xs ≡ xs
  map_all number f [] h = refl
  map_all number f (x ∷ xs) h =
      let t : (key x == number) ≡ false = grind (arith, nat_tests, h.0) in
      rw t (ap (λ ys. x ∷ ys) (map_all number f xs h.1))

  -- changing the element at a place is changing that of its key
  pub set-map : (xs : List X) (i number : ℕ) (d : X) (f : X → X) → AreDistinct key xs → i < length xs → key (get_or xs i d) ≡ number → set xs i (f (get_or xs i d)) ≡ map (λ x. cond (key x == number) (f x) x) xs
  set-map [] i number d f r lt is = absurd (omega arith)
  set-map (x ∷ xs) zero number d f r lt is =
      let t : (key x == number) ≡ true = grind (arith, nat_tests) in
      let same : key x ≡ number = is in
      rw t (ap (λ ys. f x ∷ ys) (sym (map_all number f xs (rw (← same) r.0))))
  set-map (x ∷ xs) (suc i) number d f r lt is =
      let other : key x ≡ key (get_or xs i d) → ⊥ = all_at (λ y. key x ≡ key y → ⊥) xs i d (omega arith) r.0 in
      let t : (key x == number) ≡ false = grind (arith, nat_tests) in
      rw t (ap (λ ys. x ∷ ys) (set-map xs i number d f r.1 (omega arith) is))
