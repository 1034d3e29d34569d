-- The search for a place is right: it gives the least of all device addresses at which the size fits.
use Rattle.std.proofs.Common.{ℕ, ◌≡◌, ◌+◌, ◌-◌, ◌*◌, ◌/◌, ◌%◌, ◌<◌, ◌≤◌, refl, Bool, true, false, cond, List, [], ◌∷◌, Option, Some, None, arith, max, ⊎_elim}
use Rattle.std.specs.Prelude.{◌⊎◌, map, filter, nat_le, IfSome}
use Rattle.std.specs.List.{list_all, AllByRecursion}
use Rattle.std.proofs.lemmas.Bool.{cases_lt}
use Rattle.std.proofs.lemmas.Bool.Decides.{nat_tests}
use Rattle.acc_base.specs.Words.{Block, Section}
use Rattle.acc_base.specs.Section.{end_of, is_within}
use Rattle.acc_base.specs.Blocks.{place_for, fits_at, is_clear_of, least, least_of, block_end, size_of, Fits, IsFree, IsPlaceFor}
use Rattle.acc_base.proofs.Results.{and_true, tested}
use Rattle.acc_base.proofs.Elements.{AllByRecursion-both, AllByRecursion-filter, AllByRecursion-weaker, list_all-from, list_all-to}

-- ---- the test of one place, by addresses

clear_free : (p size a : ℕ) (b : Block) → p ≤ a → a < p + size → is_clear_of p size b ≡ true → b.place ≤ a → a < block_end b → ⊥
clear_free p size a b low high c above below = grind (arith, nat_tests)

pub fits_says : (memory : Section) (blocks : List Block) (size p : ℕ) → fits_at memory blocks size p ≡ true → Fits memory blocks size p
fits_says memory blocks size p e a low high =
    let parts : (is_within (record { start = p; len = size }) memory ≡ true) × (list_all (is_clear_of p size) blocks ≡ true) = and_true _ _ e in
    let bounds : (memory.start ≤ p) × (p + size ≤ end_of memory) = grind (arith, nat_tests) in
    ((omega arith, omega arith), AllByRecursion-weaker (λ b. is_clear_of p size b ≡ true) (λ b. b.place ≤ a → a < block_end b → ⊥) blocks (λ b c. clear_free p size a b low high c) (list_all-from (is_clear_of p size) blocks parts.1))

-- a block that takes no byte would be clear of every address, and still in the way of the test
abbrev AreNotEmpty : List Block → Type 0
AreNotEmpty blocks = AllByRecursion (λ b. 0 < size_of b) blocks

free_clear : (p size : ℕ) (b : Block) → 0 < size → 0 < size_of b → ((a : ℕ) → p ≤ a → a < p + size → b.place ≤ a → a < block_end b → ⊥) → is_clear_of p size b ≡ true
free_clear p size b some filled free = ⊎_elim
    (λ e. e)
    (λ e. let over : (b.place < p + size) × (p < block_end b) = grind (arith, nat_tests) in absurd (free (max p b.place) (omega arith) (omega arith) (omega arith) (omega arith)))
    (tested (is_clear_of p size b))

free_all : (p size : ℕ) (blocks : List Block) → 0 < size → AreNotEmpty blocks → ((a : ℕ) → p ≤ a → a < p + size → IsFree blocks a) → AllByRecursion (λ b. is_clear_of p size b ≡ true) blocks
free_all p size [] some filled free = tt
free_all p size (b ∷ bs) some filled free = (free_clear p size b some filled.0 (λ a low high. (free a low high).0), free_all p size bs some filled.1 (λ a low high. (free a low high).1))

fits_to : (memory : Section) (blocks : List Block) (size p : ℕ) → 0 < size → AreNotEmpty blocks → Fits memory blocks size p → fits_at memory blocks size p ≡ true
fits_to memory blocks size p some filled fits =
    let first : memory.start ≤ p = (fits p (omega arith) (omega arith)).0.0 in
    let last : p + size - 1 < end_of memory = (fits (p + size - 1) (omega arith) (omega arith)).0.1 in
    let bounds : is_within (record { start = p; len = size }) memory ≡ true = grind (arith, nat_tests) in
    let clear : list_all (is_clear_of p size) blocks ≡ true = list_all-to (is_clear_of p size) blocks (free_all p size blocks some filled (λ a low high. (fits a low high).1)) in
    rw (bounds, clear)

-- ---- the least of some places

least-le : (x : ℕ) (o : Option ℕ) → (least x o ≤ x) × IfSome o (λ y. least x o ≤ y)
least-le x None = (omega arith, tt)
least-le x (Some y) = grind (arith, nat_tests)

least-in : (P : ℕ → Type 0) (x : ℕ) (o : Option ℕ) → P x → IfSome o P → P (least x o)
least-in P x None p q = p
least-in P x (Some y) p q = elim (nat_le x y) as (λ b. P (cond b x y)) [ true ↦ p | false ↦ q ]

-- it is no greater than any of them
abbrev IsLeastOf : Option ℕ → List ℕ → Type 0
IsLeastOf None xs = xs ≡ []
IsLeastOf (Some p) xs = AllByRecursion (λ x. p ≤ x) xs

least_of-least : (xs : List ℕ) → IsLeastOf (least_of xs) xs
least_of-least [] = refl
least_of-least (x ∷ xs) = go (least_of xs) (least_of-least xs)
  where
    go : (o : Option ℕ) → IsLeastOf o xs → (least x o ≤ x) × AllByRecursion (λ y. least x o ≤ y) xs
    go None h = (omega arith, rw h tt)
    go (Some p) h = ((least-le x (Some p)).0, AllByRecursion-weaker (λ y. p ≤ y) (λ y. least x (Some p) ≤ y) xs (λ y k. omega (arith, (least-le x (Some p)).1)) h)

-- and one of them
least_of-in : (P : ℕ → Type 0) (xs : List ℕ) → AllByRecursion P xs → IfSome (least_of xs) P
least_of-in P [] h = tt
least_of-in P (x ∷ xs) h = least-in P x (least_of xs) h.0 (least_of-in P xs h.1)

-- what the filtered list has, by the tests of the whole
filtered : (P : ℕ → Type 0) (f : ℕ → Bool) (xs : List ℕ) → AllByRecursion P (filter f xs) → AllByRecursion (λ x. f x ≡ true → P x) xs
filtered P f [] h = tt
filtered P f (x ∷ xs) h = go (filtered P f xs) (f x) refl h
  where
    go : (AllByRecursion P (filter f xs) → AllByRecursion (λ y. f y ≡ true → P y) xs) → (b : Bool) → f x ≡ b → AllByRecursion P (cond b (x ∷ filter f xs) (filter f xs)) → (f x ≡ true → P x) × AllByRecursion (λ y. f y ≡ true → P y) xs
    go rest true e k = ((λ t. k.0), rest k.1)
    go rest false e k = ((λ t. cc), rest k)

all_filtered : (f : ℕ → Bool) (xs : List ℕ) → AllByRecursion (λ x. f x ≡ true) (filter f xs)
all_filtered f [] = tt
all_filtered f (x ∷ xs) = go (all_filtered f xs) (f x) refl
  where
    go : AllByRecursion (λ y. f y ≡ true) (filter f xs) → (b : Bool) → f x ≡ b → AllByRecursion (λ y. f y ≡ true) (cond b (x ∷ filter f xs) (filter f xs))
    go rest true e = (e, rest)
    go rest false e = rest

-- ---- each place that fits may be moved down to the first of the device, or to the end of a block

le_or_lt : (m n : ℕ) → (m ≤ n) ⊎ (n < m)
le_or_lt m n = grind arith

-- an address from the base to q, of which P holds and behind which no block ends up to q
record IsStart (P : ℕ → Type 0) (base q : ℕ) (blocks : List Block) (c : ℕ) : Type 0 where
  holds : P c
  below : c ≤ q
  on_device : base ≤ c
  above : AllByRecursion (λ b. block_end b ≤ q → block_end b ≤ c) blocks

lower_start : (P : ℕ → Type 0) (base q : ℕ) (blocks : List Block) → base ≤ q → P base → AllByRecursion P (map block_end blocks) → (c : ℕ) × IsStart P base q blocks c
lower_start P base q [] h p all = (base, record { holds = p; below = h; on_device = omega arith; above = tt })
lower_start P base q (b ∷ bs) h p all = go (lower_start P base q bs h p all.1)
  where
    go : (r : (c : ℕ) × IsStart P base q bs c) → (c : ℕ) × IsStart P base q (b ∷ bs) c
    go (c, r) = ⊎_elim
        (λ low. ⊎_elim
        (λ higher. (block_end b, record { holds = all.0; below = low; on_device = omega (arith, r.on_device); above = ((λ k. omega arith), AllByRecursion-weaker (λ d. block_end d ≤ q → block_end d ≤ c) (λ d. block_end d ≤ q → block_end d ≤ block_end b) bs (λ d k e. omega (arith, k e)) r.above) }))
        (λ lower. (c, record { holds = r.holds; below = r.below; on_device = r.on_device; above = ((λ k. lower), r.above) }))
        (cases_lt c (block_end b)))
        (λ high. (c, record { holds = r.holds; below = r.below; on_device = r.on_device; above = ((λ k. absurd (omega arith)), r.above) }))
        (le_or_lt (block_end b) q)

clear_below : (size q c : ℕ) (b : Block) → c ≤ q → is_clear_of q size b ≡ true → (block_end b ≤ q → block_end b ≤ c) → is_clear_of c size b ≡ true
clear_below size q c b h k a = ⊎_elim
    (λ low. let e : block_end b ≤ c = a low in grind (arith, nat_tests))
    (λ high. let e : q + size ≤ b.place = grind (arith, nat_tests) in grind (arith, nat_tests))
    (le_or_lt (block_end b) q)

fits_below : (memory : Section) (blocks : List Block) (size q c : ℕ) → c ≤ q → memory.start ≤ c → AllByRecursion (λ b. block_end b ≤ q → block_end b ≤ c) blocks → fits_at memory blocks size q ≡ true → fits_at memory blocks size c ≡ true
fits_below memory blocks size q c h base above fits =
    let parts : (is_within (record { start = q; len = size }) memory ≡ true) × (list_all (is_clear_of q size) blocks ≡ true) = and_true _ _ fits in
    let clear : list_all (is_clear_of c size) blocks ≡ true = list_all-to (is_clear_of c size) blocks (
    AllByRecursion-both (λ b. is_clear_of q size b ≡ true) (λ b. block_end b ≤ q → block_end b ≤ c) (λ b. is_clear_of c size b ≡ true) blocks
    (λ b k a. clear_below size q c b h k a)
    (list_all-from (is_clear_of q size) blocks parts.1) above) in
    let on_device : is_within (record { start = c; len = size }) memory ≡ true = grind (arith, nat_tests) in
    rw (on_device, clear)

-- ---- the search

-- what the search found, by its own test
abbrev pub IsFoundPlace : (ℕ → Bool) → Option ℕ → Type 0
IsFoundPlace f None = (q : ℕ) → f q ≡ true → ⊥
IsFoundPlace f (Some p) = (f p ≡ true) × ((q : ℕ) → f q ≡ true → p ≤ q)

pub place_for-found : (memory : Section) (blocks : List Block) (size : ℕ) → IsFoundPlace (fits_at memory blocks size) (place_for memory blocks size)
place_for-found memory blocks size = go (place_for memory blocks size) (least_of-least (filter f candidates)) (least_of-in (λ p. f p ≡ true) (filter f candidates) (all_filtered f candidates))
  where
    f : ℕ → Bool
    f = fits_at memory blocks size

    candidates : List ℕ
    candidates = memory.start ∷ map block_end blocks

    at_start : (P : ℕ → Type 0) → AllByRecursion (λ x. f x ≡ true → P x) candidates → (q : ℕ) → f q ≡ true → (c : ℕ) × (c ≤ q) × P c
    at_start P all q fits =
        let base : memory.start ≤ q = grind (arith, nat_tests) in
        let found : (c : ℕ) × IsStart (λ x. f x ≡ true → P x) memory.start q blocks c = lower_start (λ x. f x ≡ true → P x) memory.start q blocks base all.0 all.1 in
        (found.0, found.1.below, found.1.holds (fits_below memory blocks size q found.0 found.1.below found.1.on_device found.1.above fits))

    go : (o : Option ℕ) → IsLeastOf o (filter f candidates) → IfSome o (λ p. f p ≡ true) → IsFoundPlace f o
    go None none h = λ q fits. (at_start (λ x. ⊥) (filtered (λ x. ⊥) f candidates (rw none tt)) q fits).2
    go (Some p) all h = (h, λ q fits. let low : (c : ℕ) × (c ≤ q) × (p ≤ c) = at_start (λ x. p ≤ x) (filtered (λ x. p ≤ x) f candidates all) q fits in omega (arith, low.1, low.2))

-- the search gives the least address of all at which the size fits, and finds none only where there is none
pub place_for-least : (memory : Section) (blocks : List Block) (size : ℕ) → 0 < size → AreNotEmpty blocks → IsPlaceFor memory blocks size (place_for memory blocks size)
place_for-least memory blocks size some filled = go (place_for memory blocks size) (place_for-found memory blocks size)
  where
    go : (o : Option ℕ) → IsFoundPlace (fits_at memory blocks size) o → IsPlaceFor memory blocks size o
    go None none = λ q fits. none q (fits_to memory blocks size q some filled fits)
    go (Some p) found = (fits_says memory blocks size p found.0, λ q fits. found.1 q (fits_to memory blocks size q some filled fits))

-- ---- places are multiples of 16

end_even : (p n : ℕ) → p % 16 ≡ 0 → (p + 16 * n) % 16 ≡ 0
end_even p n e = omega arith

ends_even : (blocks : List Block) → AllByRecursion (λ b. b.place % 16 ≡ 0) blocks → AllByRecursion (λ p. p % 16 ≡ 0) (map block_end blocks)
ends_even [] h = tt
ends_even (b ∷ bs) h = (end_even b.place ((b.len + 15) / 16) h.0, ends_even bs h.1)

pub place_for-even : (memory : Section) (blocks : List Block) (size : ℕ) → memory.start % 16 ≡ 0 → AllByRecursion (λ b. b.place % 16 ≡ 0) blocks → IfSome (place_for memory blocks size) (λ p. p % 16 ≡ 0)
place_for-even memory blocks size base h =
    least_of-in (λ p. p % 16 ≡ 0) (filter (fits_at memory blocks size) (memory.start ∷ map block_end blocks))
    (AllByRecursion-filter (λ p. p % 16 ≡ 0) (fits_at memory blocks size) (memory.start ∷ map block_end blocks) (base, ends_even blocks h))
