-- Blocks that lie apart on the device take no more than it has.
use Rattle.std.proofs.Common.{ℕ, zero, suc, ◌≡◌, ◌+◌, ◌-◌, ◌≤◌, refl, Bool, true, List, [], ◌∷◌, length, arith}
use Rattle.std.specs.Prelude.{◌⊎◌, filter, nat_le, not, sum_by}
use Rattle.std.specs.List.{AllByRecursion}
use Rattle.std.proofs.lemmas.Bool.Decides.{nat_tests}
use Rattle.std.proofs.lemmas.List.Sums.{sum_by-cons}
use Rattle.std.proofs.lemmas.List.Filters.{sum_by-filter_both, length-filter_both}
use Rattle.acc_base.specs.Words.{Block, Section}
use Rattle.acc_base.specs.Limits.{Limits}
use Rattle.acc_base.specs.Section.{device_memory, end_of}
use Rattle.acc_base.specs.Records.{Records}
use Rattle.acc_base.specs.Blocks.{block_end, size_of, used_bytes}
use Rattle.acc_base.specs.Accounts.{EachPair, IsOnDevice, IsClearOf, AreBlocksApart}
use Rattle.acc_base.proofs.Elements.{AllByRecursion-weaker, AllByRecursion-both, AllByRecursion-passed, EachPair-filter, EachPair-weaker}

-- the block lies between two addresses
record IsBetween (low high : ℕ) (b : Block) : Type 0 where
  first : low ≤ b.place
  last : block_end b ≤ high

abbrev IsBesideBlock : Block → Block → Type 0
IsBesideBlock b c = (block_end b ≤ c.place) ⊎ (block_end c ≤ b.place)

below : Block → Block → Bool
below b c = nat_le (block_end c) b.place

lies_below : (b c : Block) → below b c ≡ true → block_end c ≤ b.place
unfolding below
lies_below b c e = grind (arith, nat_tests)

lies_above : (b c : Block) → IsBesideBlock b c → not (below b c) ≡ true → block_end b ≤ c.place
unfolding below
lies_above b c beside e = grind (arith, nat_tests)

used_within : (fuel low high : ℕ) (blocks : List Block) → length blocks ≤ fuel → low ≤ high → AllByRecursion (IsBetween low high) blocks → EachPair IsBesideBlock blocks → sum_by size_of blocks ≤ high - low
used_within fuel low high [] few order all apart = omega arith
used_within zero low high (b ∷ bs) few order all apart = absurd (omega arith)
used_within (suc fuel) low high (b ∷ bs) few order all apart =
    let fewer : length (filter (below b) bs) + length (filter (λ c. not (below b c)) bs) ≡ length bs = length-filter_both (below b) (λ c. not (below b c)) (λ c. refl) bs in
    let unders : List Block = filter (below b) bs in
    let overs : List Block = filter (λ c. not (below b c)) bs in
    let under : sum_by size_of unders ≤ b.place - low = used_within fuel low b.place unders (omega arith) (omega (arith, all.0.first))
    (AllByRecursion-passed (IsBetween low high) (IsBetween low b.place) (below b) bs (λ c e i. record { first = i.first; last = lies_below b c e }) all.1)
    (EachPair-filter IsBesideBlock (below b) bs apart.1) in
    let between : AllByRecursion (λ c. IsBetween low high c × IsBesideBlock b c) bs = AllByRecursion-both (IsBetween low high) (IsBesideBlock b) (λ c. IsBetween low high c × IsBesideBlock b c) bs (λ c i s. (i, s)) all.1 apart.0 in
    let over : sum_by size_of overs ≤ high - block_end b = used_within fuel (block_end b) high overs (omega arith) (omega (arith, all.0.last))
    (AllByRecursion-passed (λ c. IsBetween low high c × IsBesideBlock b c) (IsBetween (block_end b) high) (λ c. not (below b c)) bs (λ c e i. record { first = lies_above b c i.1 e; last = i.0.last }) between)
    (EachPair-filter IsBesideBlock (λ c. not (below b c)) bs apart.1) in
    let both : sum_by size_of unders + sum_by size_of overs ≡ sum_by size_of bs = sum_by-filter_both (below b) (λ c. not (below b c)) (λ c. refl) size_of bs in
    let all_of : sum_by size_of (b ∷ bs) ≡ size_of b + sum_by size_of bs = sum_by-cons size_of b bs in
    let first : low ≤ b.place = all.0.first in
    let last : block_end b ≤ high = all.0.last in
    omega arith

pub used_le : (l : Limits) (w : Records) → AreBlocksApart (device_memory l) w.blocks w.births → used_bytes w.blocks ≤ l.device
used_le l w h =
    let memory : Section = device_memory l in
    let within : used_bytes w.blocks ≤ end_of memory - memory.start = used_within (length w.blocks) memory.start (end_of memory) w.blocks (omega arith) (omega arith)
    (AllByRecursion-weaker (IsOnDevice memory) (IsBetween memory.start (end_of memory)) w.blocks (λ b o. record { first = o.first; last = o.last }) h.on_device)
    (EachPair-weaker IsClearOf IsBesideBlock w.blocks (λ b c k. k.addresses) h.apart) in
    omega arith
