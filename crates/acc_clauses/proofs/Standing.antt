-- Which blocks have a range, and which have ended and are kept by queued transfers, as the marks of the device say.
use Rattle.std.proofs.lemmas.Bool.Decides.{nat_tests}
use Rattle.std.proofs.Common.{ℕ, ◌≡◌, ◌<◌, ◌∙◌, ap, Bool, List, [], ◌∷◌, Option, Some, arith}
use Rattle.std.specs.Prelude.{◌&&◌, nat_le, filter, is_none, option_map, IfSome, IsSome}
use Rattle.std.specs.List.{AllByRecursion, AllZip}
use Rattle.acc_clauses.specs.Words.{Range, Block, Transfer}
use Rattle.acc_base.specs.Ranges.{range_of}
use Rattle.acc_base.specs.Blocks.{block_at, lowest}
use Rattle.acc_base.specs.Queues.{pins_of}
use Rattle.acc_base.specs.Waits.{told_ended, ended_from}
use Rattle.acc_base.specs.Accounts.{IsClearOf, EachPair}
use Rattle.acc_base.proofs.Elements.{AllByRecursion-weaker, AllByRecursion-filter, EachPair-weaker}
use Rattle.acc_base.proofs.Lookups.{at-own}
use Rattle.acc_base.proofs.KeptMemories.{filter-same}
use Rattle.acc_dev.specs.Marks.{Mark, pins_at, is_ended_at, ended_told, lowest_ended, IsMarkOf}
use Rattle.acc_clauses.specs.Contents.{WithHost, bare_state, AreMarked}
use Rattle.acc_clauses.proofs.Steps.{is_some}
use Rattle.acc_clauses.proofs.Marked.{IsMarkAt, mark_told}

-- ---- the mark of a block

abbrev own_number : Block → ℕ
own_number b = b.number

pub told_by_mark : (x : WithHost) (k : ℕ) → AreMarked x → AllZip IsMarkOf x.device.marks x.device.blocks → IsSome (block_at k x.device.blocks) → IsMarkAt x.present.table.ranges x.queues.queues x.device.marks k
told_by_mark x k marked zip there = mark_told x.present.table.ranges x.queues.queues k x.device.marks x.device.blocks zip there marked

-- ---- the lowest block that has ended

lowest_has : (P : Block → Type 0) (bs : List Block) → AllByRecursion P bs → IfSome (lowest bs) P
lowest_has P [] h = tt
lowest_has P (b ∷ bs) h = grind (arith, nat_tests, lowest_has P bs h.1)

told_same : (queues : List (List Transfer)) (ms : List Mark) (o : Option Block) → IfSome o (λ b. pins_at b.number ms ≡ pins_of b.number queues) → option_map (ended_told ms) o ≡ option_map (told_ended queues) o
told_same queues ms o h = grind (arith, nat_tests)

lowest_same : (from : ℕ) (ranges : List Range) (queues : List (List Transfer)) (ms : List Mark) (bs : List Block) → AllByRecursion (λ b. IsMarkAt ranges queues ms b.number) bs
    → lowest_ended from ms bs ≡ option_map (told_ended queues) (lowest (filter (λ b. is_none (range_of b.number ranges) && nat_le from b.place) bs))
lowest_same from ranges queues ms bs h =
    let p : Block → Bool = λ b. is_ended_at b.number ms && nat_le from b.place in
    let q : Block → Bool = λ b. is_none (range_of b.number ranges) && nat_le from b.place in
    let same : filter p bs ≡ filter q bs = filter-same p q bs (AllByRecursion-weaker (λ (b : Block). IsMarkAt ranges queues ms b.number) (λ b. p b ≡ q b) bs (λ b t. ap (λ e. e && nat_le from b.place) t.ended) h) in
    let pins : AllByRecursion (λ (b : Block). pins_at b.number ms ≡ pins_of b.number queues) (filter q bs) =
    AllByRecursion-filter (λ (b : Block). pins_at b.number ms ≡ pins_of b.number queues) q bs (AllByRecursion-weaker (λ (b : Block). IsMarkAt ranges queues ms b.number) (λ (b : Block). pins_at b.number ms ≡ pins_of b.number queues) bs (λ b t. t.pins) h) in
    ap (λ cs. option_map (ended_told ms) (lowest cs)) same ∙ told_same queues ms (lowest (filter q bs)) (lowest_has (λ b. pins_at b.number ms ≡ pins_of b.number queues) (filter q bs) pins)

-- the device finds the block that the records say
pub ended_is : (x : WithHost) (from : ℕ) → AreMarked x → EachPair IsClearOf x.device.blocks → AllZip IsMarkOf x.device.marks x.device.blocks → lowest_ended from x.device.marks x.device.blocks ≡ ended_from from (bare_state x).records
ended_is x from marked clear zip =
    let distinct : EachPair (λ (b : Block) (c : Block). b.number ≡ c.number → ⊥) x.device.blocks =
    EachPair-weaker IsClearOf (λ (b : Block) (c : Block). b.number ≡ c.number → ⊥) x.device.blocks (λ b c clear same. let less : b.number < c.number = clear.numbers in omega arith) clear in
    lowest_same from x.present.table.ranges x.queues.queues x.device.marks x.device.blocks
    (AllByRecursion-weaker (λ (b : Block). block_at b.number x.device.blocks ≡ Some b) (λ (b : Block). IsMarkAt x.present.table.ranges x.queues.queues x.device.marks b.number) x.device.blocks
    (λ b own. told_by_mark x b.number marked zip (is_some (block_at b.number x.device.blocks) b own)) (at-own own_number x.device.blocks distinct))
