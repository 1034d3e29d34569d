-- The place of a birth, where the holes and the blocks are the device.
use Rattle.std.proofs.Common.{ℕ, suc, ◌≡◌, ◌+◌, ◌<◌, ◌≤◌, ◌-◌, refl, sym, ap, subst, List, [], ◌∷◌, ◌++◌, Option, Some, None, arith, inl, inr, max}
use Rattle.std.specs.Prelude.{map, All, IfSome, IfNone}
use Rattle.std.specs.List.{AllByRecursion}
use Rattle.std.proofs.lemmas.Bool.{cases_lt}
use Rattle.std.proofs.lemmas.List.Sums.{sum_by-cons}
use Rattle.acc_base.specs.declared.addresses.TheConstants.{MEMORY_MAX}
use Rattle.acc_base.specs.declared.mappings.Block.{Block}
use Rattle.acc_base.specs.Limits.{IsFromOne}
use Rattle.acc_base.specs.declared.items.Section.{Section}
use Rattle.acc_base.specs.Section.{Spans}
use Rattle.acc_base.specs.Blocks.{rounded, size_of, block_end, used_bytes, IsFree, Fits, IsPlaceFor, place_for}
use Rattle.acc_base.specs.Accounts.{EachPair, IsOnDevice, IsClearOf}
use Rattle.acc_base.proofs.Elements.{AllByRecursion-weaker, AllByRecursion-append}
use Rattle.acc_base.proofs.Places.{place_for-least}
use Rattle.acc_base.specs.Holes.{IsIn, IsDisjoint, total, taken_range}
use Rattle.acc_placement.specs.Ranges.{IsLeastFit, IsFitBeside, IsLeastFitBeside, IsTakeBelow, IsAligned, all_rounded}
use Rattle.acc_placement.specs.Space.{Space, IsCanonical, IsPartition}
use Rattle.acc_placement.proofs.Rising.{in_bounds}
use Rattle.acc_dev.specs.Device.{planned_blocks}
use Rattle.acc_dev.specs.Kept.{memory_of}

-- ---- addresses in blocks

-- a free address is in no taken range
pub free_out : (bs : List Block) (a : ℕ) → IsFree bs a → IsIn (map taken_range bs) a → ⊥
free_out [] a free i = i
free_out (b ∷ bs) a free (inl w) = free.0 w.0 w.1
free_out (b ∷ bs) a free (inr i) = free_out bs a free.1 i

-- an address in no taken range is free
pub out_free : (bs : List Block) (a : ℕ) → (IsIn (map taken_range bs) a → ⊥) → IsFree bs a
out_free [] a out = tt
out_free (b ∷ bs) a out = (λ low high. out (inl (low, high)), out_free bs a (λ i. out (inr i)))

-- the blocks take what is used
pub total-used : (bs : List Block) → total (map taken_range bs) ≡ used_bytes bs
total-used [] = refl
total-used (b ∷ bs) = omega (arith, total-used bs, sum_by-cons size_of b bs)

-- ---- blocks that are yet to be born

-- the ranges of planned blocks are those of their takes
planned_ranges : (n : ℕ) (ts : List (ℕ × ℕ)) → map taken_range (planned_blocks n ts) ≡ all_rounded ts
planned_ranges n [] = refl
planned_ranges n (t ∷ ts) = ap (λ rs. (t.0, rounded t.1) ∷ rs) (planned_ranges (suc n) ts)

-- planned blocks take some bytes each
planned_some : (n top : ℕ) (ts : List (ℕ × ℕ)) → All (IsTakeBelow top) ts → AllByRecursion (λ b. 0 < size_of b) (planned_blocks n ts)
planned_some n top [] h = tt
planned_some n top (t ∷ ts) h = let k : IsTakeBelow top t = h 0 t (omega arith) in (omega (arith, k.0.0), planned_some (suc n) top ts (λ k d lt. h (suc k) d (omega arith)))

-- the blocks take some bytes each
pub some_bytes : (bs : List Block) → AllByRecursion (λ b. IsFromOne MEMORY_MAX b.len) bs → AllByRecursion (λ b. 0 < size_of b) bs
some_bytes bs h = AllByRecursion-weaker (λ b. IsFromOne MEMORY_MAX b.len) (λ b. 0 < size_of b) bs (λ b k. omega (arith, k.0)) h

-- ---- what fits in the holes and beside other ranges, and what fits on the device and in no block

-- the holes and the blocks are the device
pub record IsShared (s : Space) (bs : List Block) : Type 0 where
  pub canonical : IsCanonical s
  pub partition : IsPartition s (map taken_range bs)

-- what fits in the holes and beside other ranges fits on the device and in no block
fits_from : (s : Space) (bs cs : List Block) (n q : ℕ) → IsShared s bs → IsFitBeside s.holes (map taken_range cs) n q → Fits (memory_of s) (bs ++ cs) n q
fits_from s bs cs n q k fit a low high =
    let f = fit a (low, high) in
    let b : (s.base ≤ a) × (a < s.base + s.size) = in_bounds s.base s.holes (s.base + s.size) a k.canonical.rising f.0 in
    (b, AllByRecursion-append (λ b. b.place ≤ a → a < block_end b → ⊥) bs cs (out_free bs a (λ i. k.partition.not_free a i f.0)) (out_free cs a f.1))

-- an address that is in none of two lists of blocks is in none of each
free_parts : (bs cs : List Block) (a : ℕ) → IsFree (bs ++ cs) a → IsFree bs a × IsFree cs a
free_parts [] cs a free = (tt, free)
free_parts (b ∷ bs) cs a free = let rest = free_parts bs cs a free.1 in ((free.0, rest.0), rest.1)

-- what fits on the device and in no block fits in the holes and beside other ranges
pub fit_from : (s : Space) (bs cs : List Block) (n q : ℕ) → IsShared s bs → Fits (memory_of s) (bs ++ cs) n q → IsFitBeside s.holes (map taken_range cs) n q
fit_from s bs cs n q k fits a w =
    let f = fits a w.0 w.1 in
    let free = free_parts bs cs a f.1 in (
      elim (k.partition.covered a f.0) [ inl h ↦ h | inr i ↦ absurd (free_out bs a free.0 i) ],
      free_out cs a free.1,
    )

-- the place of a birth is the least that fits, and there is no other
same_place : (memory : Section) (size p : ℕ) (bs : List Block) (o : Option ℕ) → IsPlaceFor memory bs size o → IsPlaceFor memory bs size (Some p) → o ≡ Some p
same_place memory size p bs None none is = absurd (none p is.0)
same_place memory size p bs (Some q) found is = let e : q ≡ p = omega (arith, found.1 p is.0, is.1 q found.0) in ap (λ x. Some x) e

-- where nothing fits the search finds no place
no_place : (memory : Section) (size : ℕ) (bs : List Block) (o : Option ℕ) → IsPlaceFor memory bs size o → ((q : ℕ) → Fits memory bs size q → ⊥) → o ≡ None
no_place memory size bs None none is = refl
no_place memory size bs (Some q) found is = absurd (is q found.0)

-- the least place in the holes and beside planned blocks is that of the definition
beside_place : (s : Space) (bs cs : List Block) (n p : ℕ) → 0 < n → AllByRecursion (λ b. 0 < size_of b) (bs ++ cs) → IsShared s bs → IsLeastFitBeside s.holes (map taken_range cs) n p → place_for (memory_of s) (bs ++ cs) n ≡ Some p
beside_place s bs cs n p pos some k least =
    same_place (memory_of s) n p (bs ++ cs) _ (place_for-least (memory_of s) (bs ++ cs) n pos some) (fits_from s bs cs n p k least.0, λ q fits. least.1 q (fit_from s bs cs n q k fits))

-- where nothing fits in the holes and beside planned blocks, there is no place by the definition
beside_none : (s : Space) (bs cs : List Block) (n : ℕ) → 0 < n → AllByRecursion (λ b. 0 < size_of b) (bs ++ cs) → IsShared s bs → ((q : ℕ) → IsFitBeside s.holes (map taken_range cs) n q → ⊥) → place_for (memory_of s) (bs ++ cs) n ≡ None
beside_none s bs cs n pos some k none =
    no_place (memory_of s) n (bs ++ cs) _ (place_for-least (memory_of s) (bs ++ cs) n pos some) (λ q fits. none q (fit_from s bs cs n q k fits))

-- where a birth would be placed after planned ones
pub planned_place : (s : Space) (bs : List Block) (number top : ℕ) (ts : List (ℕ × ℕ)) (n : ℕ) (o : Option ℕ) → 0 < n → All (IsTakeBelow top) ts → AllByRecursion (λ b. IsFromOne MEMORY_MAX b.len) bs → IsShared s bs
    → IfSome o (IsLeastFitBeside s.holes (all_rounded ts) n) → IfNone o ((q : ℕ) → IsFitBeside s.holes (all_rounded ts) n q → ⊥) → o ≡ place_for (memory_of s) (bs ++ planned_blocks number ts) n
planned_place s bs number top ts n None pos listed lens k place none =
    sym (beside_none s bs (planned_blocks number ts) n pos (AllByRecursion-append (λ b. 0 < size_of b) bs (planned_blocks number ts) (some_bytes bs lens) (planned_some number top ts listed)) k (rw (planned_ranges number ts) none))
planned_place s bs number top ts n (Some p) pos listed lens k place none =
    sym (beside_place s bs (planned_blocks number ts) n p pos (AllByRecursion-append (λ b. 0 < size_of b) bs (planned_blocks number ts) (some_bytes bs lens) (planned_some number top ts listed)) k (rw (planned_ranges number ts) place))

-- the place of a birth
pub birth_at : (s : Space) (bs : List Block) (n p : ℕ) → 0 < n → AllByRecursion (λ b. IsFromOne MEMORY_MAX b.len) bs → IsShared s bs → IsLeastFit s.holes n p → place_for (memory_of s) bs n ≡ Some p
birth_at s bs n p pos lens k least =
    let same : bs ++ [] ≡ bs = Rattle.std.proofs.lemmas.List.append-nil bs in
    subst (λ (xs : List Block). place_for (memory_of s) xs n ≡ Some p) same (beside_place s bs [] n p pos (AllByRecursion-append (λ b. 0 < size_of b) bs [] (some_bytes bs lens) tt) k (λ a w. (least.0 a w, λ i. i), λ q fit. least.1 q (λ a w. (fit a w).0)))

-- ---- blocks lie apart

-- a block is clear of later ones with which it shares no address
beside_from : (b : Block) (bs : List Block) → 0 < size_of b → AllByRecursion (λ c. 0 < size_of c) bs → AllByRecursion (λ c. b.number < c.number) bs → ((a : ℕ) → Spans b.place (size_of b) a → IsIn (map taken_range bs) a → ⊥) → AllByRecursion (IsClearOf b) bs
beside_from b [] pos some rise off = tt
beside_from b (c ∷ cs) pos some rise off = (
  record {
    addresses = elim (cases_lt c.place (block_end b)) [
      | inl below ↦ elim (cases_lt b.place (block_end c)) [
        | inl over ↦ absurd (let m = max b.place c.place in let filled : 0 < size_of c = some.0 in off (max b.place c.place) (omega arith, omega arith) (inl (omega arith, omega arith)))
        | inr clear ↦ inr clear
      ]
      | inr clear ↦ inl clear
    ];
    numbers = rise.0;
  },
  beside_from b cs pos some.1 rise.1 (λ a w i. off a w (inr i)),
)

-- blocks whose addresses are apart, in the order of their births
pub clear_of : (bs : List Block) → AllByRecursion (λ b. 0 < size_of b) bs → EachPair (λ b c. b.number < c.number) bs → IsDisjoint (map taken_range bs) → EachPair IsClearOf bs
clear_of [] some rise off = tt
clear_of (b ∷ bs) some rise off = (beside_from b bs some.0 some.1 rise.0 off.0, clear_of bs some.1 rise.1 off.1)

-- each block lies on the device
pub on_device : (s : Space) (bs : List Block) → AllByRecursion (λ b. IsFromOne MEMORY_MAX b.len) bs → ((a : ℕ) → IsIn (map taken_range bs) a → Spans s.base s.size a) → All IsAligned (map taken_range bs) → AllByRecursion (IsOnDevice (memory_of s)) bs
on_device s [] lens within aligned = tt
on_device s (b ∷ bs) lens within aligned =
    let one : 1 ≤ b.len = lens.0.0 in
    let first : (s.base ≤ b.place) × (b.place < s.base + s.size) = within b.place (inl (omega arith, omega arith)) in
    let last : (s.base ≤ block_end b - 1) × (block_end b - 1 < s.base + s.size) = within (block_end b - 1) (inl (omega arith, omega arith)) in (
      record { some = omega arith; first = omega arith; last = omega arith; aligned = (aligned 0 (taken_range b) (omega arith)).0 },
      on_device s bs lens.1 (λ a i. within a (inr i)) (λ k d lt. aligned (suc k) d (omega arith)),
    )
