-- Lists whose elements all have a property, or are pairwise related.
use Rattle.std.proofs.Common.{suc, ◌≡◌, refl, ap, ◌∙◌, Bool, true, false, cond, List, [], ◌∷◌, ◌++◌, Option, Some, None, arith}
use Rattle.std.specs.Prelude.{map, find, filter, option_map, Contains, IfSome}
use Rattle.std.specs.List.{list_all, AllByRecursion}
use Rattle.std.proofs.lemmas.List.Folds.{find-append}
use Rattle.acc_base.specs.Accounts.{EachPair}
use Rattle.acc_base.proofs.Results.{and_true}

-- ---- each element

pub AllByRecursion-weaker : {X : Type 0} (P Q : X → Type 0) (xs : List X) → ((x : X) → P x → Q x) → AllByRecursion P xs → AllByRecursion Q xs
AllByRecursion-weaker P Q [] f h = tt
AllByRecursion-weaker P Q (x ∷ xs) f h = (f x h.0, AllByRecursion-weaker P Q xs f h.1)

pub AllByRecursion-both : {X : Type 0} (P Q R : X → Type 0) (xs : List X) → ((x : X) → P x → Q x → R x) → AllByRecursion P xs → AllByRecursion Q xs → AllByRecursion R xs
AllByRecursion-both P Q R [] f h k = tt
AllByRecursion-both P Q R (x ∷ xs) f h k = (f x h.0 k.0, AllByRecursion-both P Q R xs f h.1 k.1)

pub AllByRecursion-filter : {X : Type 0} (P : X → Type 0) (p : X → Bool) (xs : List X) → AllByRecursion P xs → AllByRecursion P (filter p xs)
AllByRecursion-filter P p [] h = tt
AllByRecursion-filter {X} P p (x ∷ xs) h = elim (p x) as (λ b. AllByRecursion P (cond b (x ∷ filter p xs) (filter p xs))) [ true ↦ (h.0, AllByRecursion-filter P p xs h.1) | false ↦ AllByRecursion-filter P p xs h.1 ]

-- what a filter keeps has what passing its test says
pub AllByRecursion-passed : {X : Type 0} (P Q : X → Type 0) (p : X → Bool) (xs : List X) → ((x : X) → p x ≡ true → P x → Q x) → AllByRecursion P xs → AllByRecursion Q (filter p xs)
AllByRecursion-passed P Q p [] f h = tt
AllByRecursion-passed {X} P Q p (x ∷ xs) f h = go (AllByRecursion-passed P Q p xs f h.1) (p x) refl
  where
    go : AllByRecursion Q (filter p xs) → (b : Bool) → p x ≡ b → AllByRecursion Q (cond b (x ∷ filter p xs) (filter p xs))
    go rest true e = (f x e h.0, rest)
    go rest false e = rest

pub AllByRecursion-map : {X Y : Type 0} (P : Y → Type 0) (f : X → Y) (xs : List X) → AllByRecursion (λ x. P (f x)) xs → AllByRecursion P (map f xs)
AllByRecursion-map P f [] h = tt
AllByRecursion-map P f (x ∷ xs) h = (h.0, AllByRecursion-map P f xs h.1)

pub AllByRecursion-append : {X : Type 0} (P : X → Type 0) (xs ys : List X) → AllByRecursion P xs → AllByRecursion P ys → AllByRecursion P (xs ++ ys)
AllByRecursion-append P [] ys h k = k
AllByRecursion-append P (x ∷ xs) ys h k = (h.0, AllByRecursion-append P xs ys h.1 k)

-- of two lists joined, the front and what is behind it
pub all_in_front : {X : Type 0} (P : X → Type 0) (l m : List X) → AllByRecursion P (l ++ m) → AllByRecursion P l
all_in_front P [] m h = tt
all_in_front P (x ∷ l) m h = (h.0, all_in_front P l m h.1)

pub all_behind : {X : Type 0} (P : X → Type 0) (l m : List X) → AllByRecursion P (l ++ m) → AllByRecursion P m
all_behind P [] m h = h
all_behind P (x ∷ l) m h = all_behind P l m h.1

pub list_all-from : {X : Type 0} (p : X → Bool) (xs : List X) → list_all p xs ≡ true → AllByRecursion (λ x. p x ≡ true) xs
list_all-from p [] e = tt
list_all-from p (x ∷ xs) e = let h : (p x ≡ true) × (list_all p xs ≡ true) = and_true (p x) (list_all p xs) e in (h.0, list_all-from p xs h.1)

pub list_all-to : {X : Type 0} (p : X → Bool) (xs : List X) → AllByRecursion (λ x. p x ≡ true) xs → list_all p xs ≡ true
list_all-to p [] h = refl
list_all-to p (x ∷ xs) h = rw h.0 (list_all-to p xs h.1)

-- ---- each pair

pub EachPair-filter : {X : Type 0} (R : X → X → Type 0) (p : X → Bool) (xs : List X) → EachPair R xs → EachPair R (filter p xs)
EachPair-filter R p [] h = tt
EachPair-filter {X} R p (x ∷ xs) h = elim (p x) as (λ b. EachPair R (cond b (x ∷ filter p xs) (filter p xs))) [ true ↦ (AllByRecursion-filter (R x) p xs h.0, EachPair-filter R p xs h.1) | false ↦ EachPair-filter R p xs h.1 ]

pub EachPair-push : {X : Type 0} (R : X → X → Type 0) (xs : List X) (y : X) → AllByRecursion (λ x. R x y) xs → EachPair R xs → EachPair R (xs ++ y ∷ [])
EachPair-push R [] y a h = (tt, tt)
EachPair-push R (x ∷ xs) y a h = (AllByRecursion-append (R x) xs (y ∷ []) h.0 (a.0, tt), EachPair-push R xs y a.1 h.1)

pub EachPair-map : {X : Type 0} (R : X → X → Type 0) (f : X → X) (xs : List X) → ((x y : X) → R x y → R (f x) (f y)) → EachPair R xs → EachPair R (map f xs)
EachPair-map R f [] k h = tt
EachPair-map {X} R f (x ∷ xs) k h = (AllByRecursion-map (R (f x)) f xs (AllByRecursion-weaker (R x) (λ y. R (f x) (f y)) xs (k x) h.0), EachPair-map R f xs k h.1)

pub EachPair-weaker : {X : Type 0} (R S : X → X → Type 0) (xs : List X) → ((x y : X) → R x y → S x y) → EachPair R xs → EachPair S xs
EachPair-weaker R S [] f h = tt
EachPair-weaker R S (x ∷ xs) f h = (AllByRecursion-weaker (R x) (S x) xs (f x) h.0, EachPair-weaker R S xs f h.1)

-- ---- searches

pub IfSome-weaker : {X : Type 0} (P Q : X → Type 0) (o : Option X) → ((x : X) → P x → Q x) → IfSome o P → IfSome o Q
IfSome-weaker P Q None f h = tt
IfSome-weaker P Q (Some x) f h = f x h

pub Contains-later : {X : Type 0} (x y : X) (xs : List X) → Contains xs y → Contains (x ∷ xs) y
Contains-later x y xs c = (suc c.0, omega (arith, c.1), c.2)

Contains-first : {X : Type 0} (x : X) (xs : List X) → Contains (x ∷ xs) x
Contains-first x xs = (0, omega arith, refl)

-- what a search finds is an element that passes
pub find_passes : {X : Type 0} (p : X → Bool) (xs : List X) → IfSome (find p xs) (λ x. Contains xs x × (p x ≡ true))
find_passes p [] = tt
find_passes {X} p (x ∷ xs) = go (IfSome-weaker (λ y. Contains xs y × (p y ≡ true)) (λ y. Contains (x ∷ xs) y × (p y ≡ true)) (find p xs) (λ y h. (Contains-later x y xs h.0, h.1)) (find_passes p xs)) (p x) refl
  where
    go : IfSome (find p xs) (λ y. Contains (x ∷ xs) y × (p y ≡ true)) → (b : Bool) → p x ≡ b → IfSome (cond b (Some x) (find p xs)) (λ y. Contains (x ∷ xs) y × (p y ≡ true))
    go rest true e = (Contains-first x xs, e)
    go rest false e = rest

-- and none passes where it finds nothing
pub find_none : {X : Type 0} (p : X → Bool) (xs : List X) → find p xs ≡ None → AllByRecursion (λ x. p x ≡ false) xs
find_none p [] e = tt
find_none {X} p (x ∷ xs) e = go (find_none p xs) (p x) refl e
  where
    go : (find p xs ≡ None → AllByRecursion (λ y. p y ≡ false) xs) → (b : Bool) → p x ≡ b → cond b (Some x) (find p xs) ≡ None → (p x ≡ false) × AllByRecursion (λ y. p y ≡ false) xs
    go rest true t h = cc
    go rest false t h = (t, rest h)

-- and it finds nothing where none passes
pub find-none : {X : Type 0} (p : X → Bool) (xs : List X) → AllByRecursion (λ x. p x ≡ false) xs → find p xs ≡ None
find-none p [] h = refl
find-none p (x ∷ xs) h = rw h.0 (find-none p xs h.1)

-- in two lists joined, where one of them has none
pub find-front : {X : Type 0} (p : X → Bool) (l m : List X) → find p m ≡ None → find p (l ++ m) ≡ find p l
find-front p [] m none = none
find-front p (x ∷ l) m none = ap (λ o. cond (p x) (Some x) o) (find-front p l m none)

pub find-behind : {X : Type 0} (p : X → Bool) (l m : List X) → find p l ≡ None → find p (l ++ m) ≡ find p m
find-behind p l m none = find-append p l m ∙ rw none refl

-- a search among images finds the image of what a search among the elements finds
pub find-map : {X Y : Type 0} (f : X → Y) (p : X → Bool) (q : Y → Bool) (xs : List X) → ((x : X) → q (f x) ≡ p x) → find q (map f xs) ≡ option_map f (find p xs)
find-map f p q [] same = refl
find-map {X} {Y} f p q (x ∷ xs) same = ap (λ b. cond b (Some (f x)) (find q (map f xs))) (same x) ∙ go (find-map f p q xs same) (p x)
  where
    go : find q (map f xs) ≡ option_map f (find p xs) → (b : Bool) → cond b (Some (f x)) (find q (map f xs)) ≡ option_map f (cond b (Some x) (find p xs))
    go rest true = refl
    go rest false = rest

-- the images that pass a test are the images of the elements that pass it
pub filter-map : {X Y : Type 0} (f : X → Y) (p : X → Bool) (q : Y → Bool) (xs : List X) → ((x : X) → q (f x) ≡ p x) → filter q (map f xs) ≡ map f (filter p xs)
filter-map f p q [] same = refl
filter-map {X} {Y} f p q (x ∷ xs) same = ap (λ b. cond b (f x ∷ filter q (map f xs)) (filter q (map f xs))) (same x) ∙ go (filter-map f p q xs same) (p x)
  where
    go : filter q (map f xs) ≡ map f (filter p xs) → (b : Bool) → cond b (f x ∷ filter q (map f xs)) (filter q (map f xs)) ≡ map f (cond b (x ∷ filter p xs) (filter p xs))
    go rest true = ap (λ ys. f x ∷ ys) rest
    go rest false = rest

-- a filter that all pass leaves all
pub filter-kept : {X : Type 0} (p : X → Bool) (xs : List X) → AllByRecursion (λ x. p x ≡ true) xs → filter p xs ≡ xs
filter-kept p [] h = refl
filter-kept p (x ∷ xs) h = rw h.0 (ap (λ ys. x ∷ ys) (filter-kept p xs h.1))

-- and one that none passes leaves none
pub filter-none : {X : Type 0} (p : X → Bool) (xs : List X) → AllByRecursion (λ x. p x ≡ false) xs → filter p xs ≡ []
filter-none p [] h = refl
filter-none p (x ∷ xs) h = rw h.0 (filter-none p xs h.1)

-- an element that a search finds has what all have
pub found_has : {X : Type 0} (P : X → Type 0) (p : X → Bool) (xs : List X) (x : X) → AllByRecursion P xs → find p xs ≡ Some x → P x × (p x ≡ true)
found_has P p [] x h e = cc
found_has {X} P p (y ∷ ys) x h e = go (found_has P p ys x h.1) (p y) refl e
  where
    go : (find p ys ≡ Some x → P x × (p x ≡ true)) → (b : Bool) → p y ≡ b → cond b (Some y) (find p ys) ≡ Some x → P x × (p x ≡ true)
    go rest true t k = let same : y ≡ x = cc in rw (← same) (h.0, t)
    go rest false t k = rest k
