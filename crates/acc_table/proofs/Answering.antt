-- What the queries return, by sets of addresses and within the machine's numbers.
use Rattle.std.proofs.Common.{ℕ, ◌≡◌, ◌<◌, ◌≤◌, ◌^◌, ◌+◌, refl, ◌∙◌, ap, subst, Bool, true, false, cond, List, [], ◌∷◌, length, Option, Some, None, arith}
use Rattle.std.specs.Prelude.{◌↔◌, ◌==◌, nat_le, IsTrue, IsSome, unwrap_or, option_map, take, drop}
use Rattle.std.specs.List.{AllByRecursion}
use Rattle.std.proofs.lemmas.Bool.Decides.{nat_tests}
use Rattle.acc_clauses.specs.Words.{Section, Range, Block, Loan, Found}
use Rattle.acc_base.specs.declared.mappings.Found.TheVariants.{Inside}
use Rattle.acc_base.specs.Limits.{Limits, IsWithinBounds}
use Rattle.acc_base.specs.Section.{is_within, end_of, host_memory, host_base, device_memory}
use Rattle.acc_base.specs.Ranges.{where_is, range_of, range_from, IsPlacedAt}
use Rattle.acc_base.specs.Loans.{is_lent}
use Rattle.acc_base.specs.Records.{State}
use Rattle.acc_base.specs.Bytes.{bytes_of}
use Rattle.acc_base.specs.Blocks.{block_at, place_of}
use Rattle.acc_base.specs.Accounts.{EachPair, IsHostSection, IsBelow, IsOnDevice, AreRecordsSound, AreMemoriesSized}
use Rattle.acc_base.proofs.Elements.{AllByRecursion-weaker, found_has}
use Rattle.acc_base.proofs.Lookups.{at-own}
use Rattle.acc_base.proofs.Where.{IsInside, where_is-placed, inside_exactly, IsInsideOf, inside_says}
use Rattle.acc_clauses.specs.Acts.{CanMove}
use Rattle.acc_clauses.proofs.Legal.{can_move}
use Rattle.acc_table.specs.declared.calls.Mapped.{Mapped}
use Rattle.acc_base.specs.Inside.{IsInsideOne}
use Rattle.acc_table.specs.Queries.{is_inside, mapped_as, mapped_from, IsLeastFrom, device_read_of}

-- ---- presence

never : {P : Type 0} → IsTrue false → P
never h = cc

-- no mapped range is empty
filled : (l : Limits) (w : State) → AreRecordsSound l w.records → AllByRecursion (λ (r : Range). 0 < r.section.len) w.records.ranges
filled l w a = AllByRecursion-weaker (λ r. IsHostSection l r.section) (λ r. 0 < r.section.len) w.records.ranges (λ r i. i.some) a.ranges_apart.in_host

-- in every table a section lies where its addresses say
pub placed : (l : Limits) (w : State) (s : Section) → AreRecordsSound l w.records → IsPlacedAt s w.records.ranges (where_is s w.records.ranges)
placed l w s a = where_is-placed s w.records.ranges (filled l w a)

as_test : (found : Found) → IsTrue (is_inside found) ↔ IsInside found
as_test (Inside block offset) = ((λ h. tt), (λ h. refl))
as_test _ = (never, (λ h. absurd h))

-- in every table the test of presence is right: one range has each address of the section
pub present : (l : Limits) (w : State) (s : Section) → AreRecordsSound l w.records → IsTrue (is_inside (where_is s w.records.ranges)) ↔ IsInsideOne s w.records.ranges
present l w s a =
    let test = as_test (where_is s w.records.ranges) in
    let exact = inside_exactly s w.records.ranges (filled l w a) in
    ((λ t. exact.0 (test.0 t)), (λ h. test.1 (exact.1 h)))

-- ---- the range of least start

-- what holds of the answer still holds with a range that starts below the address
least_more : (address : ℕ) (r : Range) (rs : List Range) (found : Option Mapped) → r.section.start < address → IsLeastFrom address rs found → IsLeastFrom address (r ∷ rs) found
least_more address r rs None below h = (below, h)
least_more address r rs (Some m) below h = (h.0, ((λ from. let from : address ≤ r.section.start = from in omega arith), h.1))

first_least : (address : ℕ) (blocks : List Block) (loans : List Loan) (ranges : List Range) → EachPair (λ (r : Range) (t : Range). IsBelow r.section t.section) ranges → IsLeastFrom address ranges (option_map (mapped_as blocks loans) (range_from address ranges))
first_least address blocks loans [] h = tt
first_least address blocks loans (r ∷ rs) h = go (nat_le address r.section.start) refl (first_least address blocks loans rs h.1)
  where
    go : (b : Bool) → nat_le address r.section.start ≡ b → IsLeastFrom address rs (option_map (mapped_as blocks loans) (range_from address rs)) → IsLeastFrom address (r ∷ rs) (option_map (mapped_as blocks loans) (cond b (Some r) (range_from address rs)))
    go true e rest = let from : address ≤ r.section.start = grind (arith, nat_tests) in
        (from, ((λ x. omega arith), AllByRecursion-weaker (λ (t : Range). IsBelow r.section t.section) (λ (t : Range). address ≤ t.section.start → r.section.start ≤ t.section.start) rs (λ t below x. let below : end_of r.section ≤ t.section.start = below in omega arith) h.0))
    go false e rest = let below : r.section.start < address = grind (arith, nat_tests) in least_more address r rs (option_map (mapped_as blocks loans) (range_from address rs)) below rest

-- in every table the first range from an address on is the one of least start
pub least_from : (l : Limits) (w : State) (address : ℕ) → AreRecordsSound l w.records → IsLeastFrom address w.records.ranges (mapped_from address w.records)
least_from l w address a = first_least address w.records.blocks w.records.loans w.records.ranges a.ranges_apart.rising

-- ---- device addresses

pub offset_low : (l : Limits) (w : State) (s : Section) (block offset : ℕ) → IsWithinBounds l → AreRecordsSound l w.records → 0 < s.len → where_is s w.records.ranges ≡ Inside block offset → offset < 2 ^ 40
offset_low l w s block offset bounds a some e =
    let found : (r : Range) × IsInsideOf s w.records.ranges block offset r = inside_says s w.records.ranges block offset e in
    let has : IsHostSection l found.0.section × (is_within s found.0.section ≡ true) = found_has (λ r. IsHostSection l r.section) (λ r. is_within s r.section) w.records.ranges found.0 a.ranges_apart.in_host found.1.around in
    let end_low : end_of found.0.section ≤ host_base + l.host = (let t : is_within found.0.section (host_memory l.host) ≡ true = has.0.within in grind (arith, nat_tests)) in
    let within : end_of s ≤ end_of found.0.section = (let t : is_within s found.0.section ≡ true = has.1 in grind (arith, nat_tests)) in
    omega (arith, found.1.offset_is, bounds.host.1)

pub place_low : (l : Limits) (w : State) (number : ℕ) → IsWithinBounds l → AreRecordsSound l w.records → place_of number w.records.blocks < 2 ^ 41
place_low l w number bounds a = go (block_at number w.records.blocks) refl
  where
    go : (o : Option Block) → block_at number w.records.blocks ≡ o → unwrap_or (option_map (λ b. b.place) o) 0 < 2 ^ 41
    go None e = omega arith
    go (Some b) e =
        let on : IsOnDevice (device_memory l) b = (found_has (IsOnDevice (device_memory l)) (λ b. b.number == number) w.records.blocks b a.blocks_apart.on_device e).0 in
        omega (arith, on.last, bounds.number, bounds.device.1)

-- ---- the bytes of a block

-- the section's bytes are at that offset of the block's, where it is not lent
pub record IsPartOf (section : Section) (block offset : ℕ) (s : State) : Type 0 where
  pub there : IsSome (block_at block s.records.blocks)
  pub fits : is_lent block s.records.loans ≡ false → offset + section.len ≤ length (bytes_of block s.memories)
  pub short : is_lent block s.records.loans ≡ false → length (bytes_of block s.memories) < 2 ^ 40

pub section_part : (l : Limits) (w : State) (section : Section) (block offset : ℕ) → IsWithinBounds l → AreRecordsSound l w.records → AreMemoriesSized l w → where_is section w.records.ranges ≡ Inside block offset → IsPartOf section block offset w
section_part l w section block offset bounds a sized e =
    let ranges : List Range = w.records.ranges in
    let records : AreRecordsSound l w.records = a in
    let found : (r : Range) × IsInsideOf section ranges block offset r = inside_says section ranges block offset e in
    let own : (range_of found.0.block ranges ≡ Some found.0) × (is_within section found.0.section ≡ true) =
    found_has (λ r. range_of r.block ranges ≡ Some r) (λ r. is_within section r.section) ranges found.0 (at-own (λ (r : Range). r.block) ranges records.one_block_each.distinct) found.1.around in
    let host : IsHostSection l found.0.section × (is_within section found.0.section ≡ true) =
    found_has (λ r. IsHostSection l r.section) (λ r. is_within section r.section) ranges found.0 records.ranges_apart.in_host found.1.around in
    let is : range_of block ranges ≡ Some found.0 = subst (λ n. range_of n ranges ≡ Some found.0) found.1.block_is own.0 in
    let move : CanMove section block w = can_move l w section block bounds records sized (record { range = found.0; range_is = is; within = own.1 }) in
    let same : move.range ≡ found.0 = (let r : range_of block ranges ≡ Some move.range = move.range_is in cc) in
    let len : is_lent block w.records.loans ≡ false → length (bytes_of block w.memories) ≡ found.0.section.len = λ free. move.len free ∙ ap (λ (r : Range). r.section.len) same in
    let bounds_of : (found.0.section.start ≤ section.start) × (end_of section ≤ end_of found.0.section) = (let t : is_within section found.0.section ≡ true = own.1 in grind (arith, nat_tests)) in
    let in_memory : found.0.section.len ≤ l.host = (let t : is_within found.0.section (host_memory l.host) ≡ true = host.0.within in grind (arith, nat_tests)) in
    record {
      there = move.there;
      fits = λ free. omega (arith, len free, found.1.offset_is, bounds_of.0, bounds_of.1);
      short = λ free. omega (arith, len free, in_memory, bounds.host.1);
    }

-- the device has no bytes of a section whose block is lent
pub read_lent : (section : Section) (block offset : ℕ) (s : State) → where_is section s.records.ranges ≡ Inside block offset → (is_lent block s.records.loans ≡ false → ⊥) → device_read_of section s ≡ None
read_lent section block offset s found out = rw found (go (is_lent block s.records.loans) refl)
  where
    go : (b : Bool) → is_lent block s.records.loans ≡ b → cond b None (Some (take section.len (drop offset (bytes_of block s.memories)))) ≡ None
    go true e = refl
    go false e = absurd (out e)
