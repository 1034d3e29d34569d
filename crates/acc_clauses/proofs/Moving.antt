-- What a copy between host memory and a block of a device leaves.
use Rattle.std.proofs.lemmas.Bool.Decides.{nat_tests}
use Rattle.std.proofs.Common.{ℕ, ◌≡◌, ◌+◌, ◌-◌, ◌<◌, sym, ◌∙◌, ap, subst, true, false, List, [], ◌∷◌, length, map, Option, Some, arith}
use Rattle.std.specs.Prelude.{IsSome, slice_index, take, drop, slice_range}
use Rattle.std.specs.List.{AllByRecursion, AllZip}
use Rattle.acc_clauses.specs.Words.{Section, Block, Loan}
use Rattle.acc_base.specs.Loans.{is_lent}
use Rattle.acc_base.specs.Section.{host_base, covers, is_within, host_memory}
use Rattle.acc_base.specs.Records.{Memory}
use Rattle.acc_base.specs.Blocks.{block_at}
use Rattle.acc_base.specs.Bytes.{bytes_of, written_bytes, memory_changed, bytes_moved_in, bytes_moved_out}
use Rattle.acc_base.specs.Accounts.{EachPair, IsClearOf, IsMemoryOf}
use Rattle.acc_base.proofs.Elements.{AllByRecursion-weaker, EachPair-weaker}
use Rattle.acc_base.proofs.Lookups.{at-own}
use Rattle.acc_base.specs.Overwriting.{overwritten}
use Rattle.acc_dev.specs.Host.{bytes_in}
use Rattle.acc_dev.specs.Device.{DeviceState, IsBlockWritten, HasBlocksApart}
use Rattle.acc_clauses.proofs.Copying.{from_all, written-overwritten, part, IsPartAt, within_is_part, moved_in, moved_out, changed-same}

-- ---- to host memory

-- a section's bytes in the block, as a slice from where the block's range begins
abbrev slice : Section → ℕ → List ℕ → List ℕ
slice s start bytes = slice_range bytes (s.start - start) (s.start - start + s.len)

slice_is : (s : Section) (start : ℕ) (bytes : List ℕ) → slice s start bytes ≡ part bytes (s.start - start) s.len
slice_is s start bytes = ap (λ n. take n (drop (s.start - start) bytes)) (let same : s.start - start + s.len - (s.start - start) ≡ s.len = omega arith in same)

pub run_copied_out : (s : Section) (start : ℕ) (bytes host : List ℕ) → is_within s (host_memory (length host)) ≡ true → is_within s (record { start = start; len = length bytes }) ≡ true
    → overwritten (s.start - host_base) (slice s start bytes) host ≡ bytes_moved_out (covers s) bytes start host
run_copied_out s start bytes host in_host within = rw (slice_is s start bytes) (sym (moved_out s bytes start host in_host within))

-- ---- the memory of a block

-- each block is the one of its number, since numbers rise
own_blocks : (blocks : List Block) → EachPair IsClearOf blocks → AllByRecursion (λ b. block_at b.number blocks ≡ Some b) blocks
own_blocks blocks h = at-own (λ (b : Block). b.number) blocks (EachPair-weaker IsClearOf (λ b c. b.number ≡ c.number → ⊥) blocks (λ b c clear same. let below : b.number < c.number = clear.numbers in absurd (omega (arith, same))) h)

-- each block of a number that is there is as long as that one
lens_of : (block : ℕ) (blocks : List Block) (b : Block) → EachPair IsClearOf blocks → block_at block blocks ≡ Some b → AllByRecursion (λ c. c.number ≡ block → c.len ≡ b.len) blocks
lens_of block blocks b apart there = AllByRecursion-weaker (λ c. block_at c.number blocks ≡ Some c) (λ c. c.number ≡ block → c.len ≡ b.len) blocks
    (λ c own same. let is : block_at c.number blocks ≡ Some b = rw same there in let one : c ≡ b = cc in ap (λ (x : Block). x.len) one)
    (own_blocks blocks apart)

-- and so is each memory of it
memories_long : (ls : List Loan) (block len : ℕ) (memories : List Memory) (blocks : List Block) → AllZip (IsMemoryOf ls) memories blocks → is_lent block ls ≡ false → AllByRecursion (λ b. b.number ≡ block → b.len ≡ len) blocks
    → AllByRecursion (λ m. m.block ≡ block → length m.bytes ≡ len) memories
memories_long ls block len [] [] h free k = tt
memories_long ls block len (m ∷ ms) (b ∷ bs) h free k = ((λ is. let own : b.number ≡ block = sym h.0.block ∙ is in h.0.len (rw own free) ∙ k.0 own), memories_long ls block len ms bs h.1 free k.1)
memories_long ls block len _ _ h free k = absurd h

-- a block that is there and not lent has a memory as long
pub bytes_of-len : (ls : List Loan) (block : ℕ) (memories : List Memory) (blocks : List Block) (b : Block) → AllZip (IsMemoryOf ls) memories blocks → is_lent block ls ≡ false → block_at block blocks ≡ Some b → length (bytes_of block memories) ≡ b.len
bytes_of-len ls block [] [] b h free e = cc
bytes_of-len ls block (m ∷ ms) (c ∷ cs) b h free e = grind (arith, nat_tests, bytes_of-len ls block ms cs b h.1 free)
bytes_of-len ls block _ _ b h free e = absurd h

-- what is there is something
pub some_of : {X : Type 0} (o : Option X) → IsSome o → (x : X) × (o ≡ Some x)
some_of o h = grind (arith, nat_tests)

-- each memory of a block that is there and not lent is as long as its bytes
lens_by : (d : DeviceState) (block : ℕ) → HasBlocksApart d → AllZip (IsMemoryOf d.loans) d.memories d.blocks → is_lent block d.loans ≡ false → IsSome (block_at block d.blocks) → AllByRecursion (λ m. m.block ≡ block → length m.bytes ≡ length (bytes_of block d.memories)) d.memories
lens_by d block apart sized free there =
    let b : (b : Block) × (block_at block d.blocks ≡ Some b) = some_of (block_at block d.blocks) there in
    subst (λ n. AllByRecursion (λ m. m.block ≡ block → length m.bytes ≡ n) d.memories) (sym (bytes_of-len d.loans block d.memories d.blocks b.0 sized free b.1))
    (memories_long d.loans block b.0.len d.memories d.blocks sized free (lens_of block d.blocks b.0 apart.apart b.1))

-- ---- to a block

-- a device after a write has other memories, and nothing else changed
pub device_written : (old new : DeviceState) (block offset : ℕ) (bytes : List ℕ) (ms : List Memory) → IsBlockWritten old new block offset bytes → map (memory_changed block (overwritten offset bytes)) old.memories ≡ ms → new ≡ record old { memories = ms }
device_written old new block offset bytes ms h e = grind (arith, nat_tests)

pub run_copied_in : (s : Section) (start : ℕ) (host bytes : List ℕ) (d new : DeviceState) (block : ℕ) → HasBlocksApart d → AllZip (IsMemoryOf d.loans) d.memories d.blocks → is_lent block d.loans ≡ false → IsSome (block_at block d.blocks)
    → is_within s (host_memory (length host)) ≡ true → is_within s (record { start = start; len = length (bytes_of block d.memories) }) ≡ true → bytes ≡ bytes_in host s → IsBlockWritten d new block (s.start - start) bytes
    → new ≡ record d { memories = map (memory_changed block (bytes_moved_in (covers s) host start)) d.memories }
run_copied_in s start host bytes d new block apart sized free there in_host within bytes_are h =
    device_written d new block (s.start - start) bytes _ h (rw bytes_are (changed-same block (overwritten (s.start - start) (bytes_in host s)) (bytes_moved_in (covers s) host start) d.memories
    (AllByRecursion-weaker (λ y. y.block ≡ block → length y.bytes ≡ length (bytes_of block d.memories)) (λ y. y.block ≡ block → overwritten (s.start - start) (bytes_in host s) y.bytes ≡ bytes_moved_in (covers s) host start y.bytes) d.memories
    (λ y len e. sym (moved_in s host start y.bytes in_host (rw (len e) within))) (lens_by d block apart sized free there))))

-- ---- a pointer in a block

-- bytes that are written over a section of a block
pub put_in : (s : Section) (start : ℕ) (bytes : List ℕ) (d new : DeviceState) (block : ℕ) → HasBlocksApart d → AllZip (IsMemoryOf d.loans) d.memories d.blocks → is_lent block d.loans ≡ false → IsSome (block_at block d.blocks)
    → is_within s (record { start = start; len = length (bytes_of block d.memories) }) ≡ true → length bytes ≡ s.len → IsBlockWritten d new block (s.start - start) bytes
    → new ≡ record d { memories = map (memory_changed block (written_bytes (covers s) (λ a. slice_index bytes (a - s.start)) start)) d.memories }
put_in s start bytes d new block apart sized free there within len h =
    let n : ℕ = length (bytes_of block d.memories) in
    let to : IsPartAt s start n (s.start - start) = within_is_part s (record { start = start; len = n }) within in
    device_written d new block (s.start - start) bytes _ h (changed-same block (overwritten (s.start - start) bytes) (written_bytes (covers s) (λ a. slice_index bytes (a - s.start)) start) d.memories
    (AllByRecursion-weaker (λ y. y.block ≡ block → length y.bytes ≡ n) (λ y. y.block ≡ block → overwritten (s.start - start) bytes y.bytes ≡ written_bytes (covers s) (λ a. slice_index bytes (a - s.start)) start y.bytes) d.memories
    (λ y long e. let same : length y.bytes ≡ n = long e in
    sym (written-overwritten s (λ a. slice_index bytes (a - s.start)) (s.start - start) start y.bytes bytes to.at_is (omega (arith, to.fits, same)) len (from_all s.start bytes))) (lens_by d block apart sized free there)))
