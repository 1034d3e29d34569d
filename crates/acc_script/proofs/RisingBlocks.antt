-- Blocks whose mapping has ended, by rising place, found one after the other by their places.
use Rattle.std.proofs.Common.{◌≡◌, ℕ, ◌+◌, ◌<◌, ◌≤◌, ◌^◌, Bool, true, false, cond, List, [], ◌∷◌, ◌++◌, Option, Some, None, refl, sym, ap, ◌∙◌, arith, inl, inr}
use Rattle.std.specs.Prelude.{◌⊎◌, ◌&&◌, nat_le, is_none, filter, find}
use Rattle.std.specs.List.{AllByRecursion}
use Rattle.std.proofs.lemmas.Bool.{leb-true, leb-false}
use Rattle.acc_base.proofs.Elements.{AllByRecursion-weaker, AllByRecursion-both, AllByRecursion-filter, EachPair-filter, found_has}
use Rattle.acc_base.specs.declared.mappings.Block.{Block}
use Rattle.acc_base.specs.declared.mappings.Ended.{Ended}
use Rattle.acc_base.specs.declared.items.Section.{Section}
use Rattle.acc_base.specs.Section.{end_of}
use Rattle.acc_base.specs.Ranges.{range_of}
use Rattle.acc_base.specs.Blocks.{block_end, lower, lowest}
use Rattle.acc_base.specs.Records.{Records}
use Rattle.acc_base.specs.Waits.{ended_blocks, told_ended, ended_from}
use Rattle.acc_base.specs.Accounts.{EachPair, IsOnDevice, IsClearOf, AreBlocksApart}
use Rattle.acc_script.specs.Texts.{ended_text, placed_among, by_place, ended_texts}
use Rattle.acc_script.proofs.Rising.{found_view, found_none, texts_turn, texts_none}

-- the first of some blocks
abbrev first : List Block → Option Block
first [] = None
first (b ∷ bs) = Some b

-- the one block lies lower
abbrev LiesUnder : Block → Block → Type 0
LiesUnder b c = b.place < c.place

-- the blocks lie at different places
abbrev LiesElsewhere : Block → Block → Type 0
LiesElsewhere b c = b.place ≡ c.place → ⊥

-- the block lies at an address or above
abbrev lies_from : ℕ → Block → Bool
lies_from from b = nat_le from b.place

-- ---- the lowest of all

-- the lower of a block and the first of others is the first of them all
lower_first : (b : Block) (cs : List Block) → Some (lower b (first cs)) ≡ first (placed_among b cs)
lower_first b [] = refl
lower_first b (c ∷ cs) = elim (nat_le b.place c.place) as (λ t. Some (cond t b c) ≡ first (cond t (b ∷ c ∷ cs) (c ∷ placed_among b cs))) [ true ↦ refl | false ↦ refl ]

-- the lowest block is the first by place
lowest_first : (bs : List Block) → lowest bs ≡ first (by_place bs)
lowest_first [] = refl
lowest_first (b ∷ bs) = ap (λ (o : Option Block). Some (lower b o)) (lowest_first bs) ∙ lower_first b (by_place bs)

-- ---- blocks by place

-- what holds of a block and of others holds of them all
all_placed : (P : Block → Type 0) (b : Block) (cs : List Block) → P b → AllByRecursion P cs
    → AllByRecursion P (placed_among b cs)
all_placed P b [] p h = (p, tt)
all_placed P b (c ∷ cs) p h = by (nat_le b.place c.place) (all_placed P b cs p h.1)
  where
    by : (t : Bool) → AllByRecursion P (placed_among b cs)
        → AllByRecursion P (cond t (b ∷ c ∷ cs) (c ∷ placed_among b cs))
    by true others = (p, h)
    by false others = (h.0, others)

-- what holds of blocks holds of them by place
all_by_place : (P : Block → Type 0) (bs : List Block) → AllByRecursion P bs → AllByRecursion P (by_place bs)
all_by_place P [] h = tt
all_by_place P (b ∷ bs) h = all_placed P b (by_place bs) h.0 (all_by_place P bs h.1)

-- a block among others that rise
rise_placed : (b : Block) (cs : List Block) → AllByRecursion (LiesElsewhere b) cs → EachPair LiesUnder cs
    → EachPair LiesUnder (placed_among b cs)
rise_placed b [] other rising = (tt, tt)
rise_placed b (c ∷ cs) other rising = by (nat_le b.place c.place) refl (rise_placed b cs other.1 rising.1)
  where
    by : (t : Bool) → nat_le b.place c.place ≡ t → EachPair LiesUnder (placed_among b cs)
        → EachPair LiesUnder (cond t (b ∷ c ∷ cs) (c ∷ placed_among b cs))
    by true e others =
        let le : b.place ≤ c.place = leb-true b.place c.place e in
        let lt : b.place < c.place = omega (arith, other.0) in
        ((lt, AllByRecursion-weaker (LiesUnder c) (LiesUnder b) cs (λ x under. omega arith) rising.0), rising)
    by false e others = (all_placed (LiesUnder c) b cs (leb-false b.place c.place e) rising.0, others)

-- blocks at different places rise by place
rise_by_place : (bs : List Block) → EachPair LiesElsewhere bs → EachPair LiesUnder (by_place bs)
rise_by_place [] other = tt
rise_by_place (b ∷ bs) other =
    rise_placed b (by_place bs) (all_by_place (LiesElsewhere b) bs other.0) (rise_by_place bs other.1)

-- ---- those from an address on

-- those from the address on of a block among others
kept_placed : (from : ℕ) (b : Block) (cs : List Block)
    → filter (lies_from from) (placed_among b cs)
    ≡ cond (lies_from from b) (placed_among b (filter (lies_from from) cs)) (filter (lies_from from) cs)
kept_placed from b [] = refl
kept_placed from b (c ∷ cs) = by (nat_le b.place c.place) (lies_from from b) (lies_from from c) refl refl refl (kept_placed from b cs)
  where
    by : (t u v : Bool) → nat_le b.place c.place ≡ t → lies_from from b ≡ u → lies_from from c ≡ v
        → filter (lies_from from) (placed_among b cs) ≡ cond u (placed_among b (filter (lies_from from) cs)) (filter (lies_from from) cs)
        → filter (lies_from from) (cond t (b ∷ c ∷ cs) (c ∷ placed_among b cs))
        ≡ cond u (placed_among b (cond v (c ∷ filter (lies_from from) cs) (filter (lies_from from) cs))) (cond v (c ∷ filter (lies_from from) cs) (filter (lies_from from) cs))
    by true true false t u v others =
        absurd (omega (arith, leb-true from b.place u, leb-true b.place c.place t, leb-false from c.place v))
    by true true true t u v others = rw (u, v, t) refl
    by true false _ t u v others = rw (u, v) refl
    by false true true t u v others = rw (v, t) (ap (λ (xs : List Block). c ∷ xs) others)
    by false false true t u v others = rw v (ap (λ (xs : List Block). c ∷ xs) others)
    by false _ false t u v others = rw v others

-- those from an address on, by place
kept_by_place : (from : ℕ) (bs : List Block)
    → filter (lies_from from) (by_place bs) ≡ by_place (filter (lies_from from) bs)
kept_by_place from [] = refl
kept_by_place from (b ∷ bs) =
    kept_placed from b (by_place bs) ∙ elim (lies_from from b) as (λ t. cond t (placed_among b (filter (lies_from from) (by_place bs))) (filter (lies_from from) (by_place bs)) ≡ by_place (cond t (b ∷ filter (lies_from from) bs) (filter (lies_from from) bs))) [
      | true ↦ ap (placed_among b) (kept_by_place from bs)
      | false ↦ kept_by_place from bs
    ]

-- the first of those from an address on is the first that is found there
found_kept : (from : ℕ) (bs : List Block) → first (filter (lies_from from) bs) ≡ find (lies_from from) bs
found_kept from [] = refl
found_kept from (b ∷ bs) = elim (lies_from from b) as (λ t. first (cond t (b ∷ filter (lies_from from) bs) (filter (lies_from from) bs)) ≡ cond t (Some b) (find (lies_from from) bs)) [
  | true ↦ refl
  | false ↦ found_kept from bs
]

-- ---- blocks whose mapping has ended

-- two tests one after the other
filter_both : (p q : Block → Bool) (bs : List Block) → filter (λ b. p b && q b) bs ≡ filter q (filter p bs)
filter_both p q [] = refl
filter_both p q (b ∷ bs) = elim (p b) as (λ t. cond (t && q b) (b ∷ filter (λ c. p c && q c) bs) (filter (λ c. p c && q c) bs) ≡ filter q (cond t (b ∷ filter p bs) (filter p bs))) [
  | true ↦ ap (λ (xs : List Block). cond (q b) (b ∷ xs) xs) (filter_both p q bs)
  | false ↦ filter_both p q bs
]

-- no range has the block
abbrev has_ended : Records → Block → Bool
has_ended w b = is_none (range_of b.number w.ranges)

-- all of them by place
abbrev ended_by_place : Records → List Block
ended_by_place w = by_place (filter (has_ended w) w.blocks)

-- those from an address on by place
kept_ended : (from : ℕ) (w : Records) → by_place (ended_blocks from w) ≡ filter (lies_from from) (ended_by_place w)
kept_ended from w = ap by_place (filter_both (has_ended w) (lies_from from) w.blocks) ∙ sym (kept_by_place from (filter (has_ended w) w.blocks))

-- blocks that do not overlap lie at different places
elsewhere : (memory : Section) (bs : List Block) → AllByRecursion (IsOnDevice memory) bs → EachPair IsClearOf bs
    → EachPair LiesElsewhere bs
elsewhere memory [] on_device apart = tt
elsewhere memory (b ∷ bs) on_device apart = (AllByRecursion-both (IsOnDevice memory) (IsClearOf b) (LiesElsewhere b) bs other on_device.1 apart.0, elsewhere memory bs on_device.1 apart.1)
  where
    other : (c : Block) → IsOnDevice memory c → IsClearOf b c → LiesElsewhere b c
    other c on clear same = by clear.addresses
      where
        by : (block_end b ≤ c.place) ⊎ (block_end c ≤ b.place) → ⊥
        by (inl p) = omega (arith, p, same, on_device.0.some)
        by (inr p) = omega (arith, p, same, on.some)

module _ (memory : Section) (births from : ℕ) (w : Records) (apart : AreBlocksApart memory w.blocks births) where
  -- they rise
  rising : EachPair LiesUnder (ended_by_place w)
  rising = rise_by_place (filter (has_ended w) w.blocks) (EachPair-filter LiesElsewhere (has_ended w) w.blocks (elsewhere memory w.blocks apart.on_device apart.apart))

  -- the lowest from an address on is the first that is found there
  found_lowest : lowest (ended_blocks from w) ≡ find (lies_from from) (ended_by_place w)
  found_lowest = lowest_first (ended_blocks from w) ∙ ap first (kept_ended from w) ∙ found_kept from (ended_by_place w)

  module _ (e : Ended) (found : Some e ≡ ended_from from w) where
    -- the block that an answer describes
    block_found : (b : Block) × (find (lies_from from) (ended_by_place w) ≡ Some b) × (told_ended w.queues b ≡ e)
    block_found =
        let seen = found_view (told_ended w.queues) (lowest (ended_blocks from w)) e found in
        (seen.0, sym found_lowest ∙ seen.1, seen.2)

    -- it lies where the search began or above, and well below the last address
    pub ended_place : end_of memory < 2 ^ 35 → (from ≤ e.place) × (e.place < 2 ^ 35)
    ended_place small =
        let kept = found_has (IsOnDevice memory) (lies_from from) (ended_by_place w) block_found.0 (all_by_place (IsOnDevice memory) (filter (has_ended w) w.blocks) (AllByRecursion-filter (IsOnDevice memory) (has_ended w) w.blocks apart.on_device)) block_found.1 in
        let place : block_found.0.place ≡ e.place = ap (λ (x : Ended). x.place) block_found.2 in
        (omega (arith, leb-true from block_found.0.place kept.1, place), omega (arith, kept.0.last, small, place))

    -- what there is to write from the address on is its line, and what there is above it
    pub ended_turn : ended_texts from w ≡ ended_text e ++ ended_texts (e.place + 1) w
    ended_turn = rw (kept_ended from w, kept_ended (e.place + 1) w) (texts_turn (told_ended w.queues) (λ e. e.place) ended_text (ended_by_place w) from block_found.0 e rising block_found.1 block_found.2)

  -- there is nothing to write where no block is found
  pub ended_none : None ≡ ended_from from w → ended_texts from w ≡ []
  ended_none none = rw (kept_ended from w) (texts_none (told_ended w.queues) (λ e. e.place) ended_text (ended_by_place w) from (sym found_lowest ∙ found_none (told_ended w.queues) (lowest (ended_blocks from w)) none))
