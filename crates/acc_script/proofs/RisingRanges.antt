-- Mapped ranges by rising start, found one after the other by their starts.
use Rattle.std.proofs.Common.{◌≡◌, ℕ, ◌+◌, ◌<◌, ◌≤◌, ◌^◌, List, [], ◌∷◌, ◌++◌, Some, None, refl, ap, arith}
use Rattle.std.specs.Prelude.{nat_le}
use Rattle.std.specs.List.{AllByRecursion}
use Rattle.std.proofs.lemmas.Bool.{leb-true, and_parts}
use Rattle.acc_base.proofs.Elements.{AllByRecursion-weaker, found_has}
use Rattle.acc_base.specs.declared.mappings.Range.{Range}
use Rattle.acc_base.specs.Limits.{Limits, IsSize}
use Rattle.acc_base.specs.Section.{host_memory, host_base, end_of}
use Rattle.acc_base.specs.Ranges.{range_from}
use Rattle.acc_base.specs.Records.{Records}
use Rattle.acc_base.specs.Accounts.{IsHostSection, IsBelow, EachPair, AreRangesApart}
use Rattle.acc_table.specs.declared.calls.Mapped.{Mapped}
use Rattle.acc_table.specs.Queries.{mapped_as, mapped_from}
use Rattle.acc_script.specs.Texts.{range_text, ranges_text}
use Rattle.acc_script.proofs.Rising.{StandsUnder, all_from_zero, texts_from, texts_turn, texts_none, found_view, found_none}

-- a range as the report prints it
abbrev seen : Records → Range → Mapped
seen w r = mapped_as w.blocks w.loans r

-- where it starts
abbrev mapped_start : Mapped → ℕ
mapped_start m = m.start

-- the texts of the ranges that start at an address or above
abbrev pub ranges_texts : ℕ → Records → List ℕ
ranges_texts from w = texts_from (seen w) mapped_start (range_text w) w.ranges from

-- they are all from the least address on
pub ranges_all : (w : Records) → ranges_text w ≡ ranges_texts 0 w
ranges_all w = rw (all_from_zero (seen w) mapped_start w.ranges) refl

-- ranges that do not overlap rise by their starts
rise : (l : Limits) (w : Records) (ranges : List Range) → AllByRecursion (λ r. IsHostSection l r.section) ranges
    → EachPair (λ r t. IsBelow r.section t.section) ranges → EachPair (StandsUnder (seen w) mapped_start) ranges
rise l w [] in_host rising = tt
rise l w (r ∷ rs) in_host rising = (AllByRecursion-weaker (λ t. IsBelow r.section t.section) (StandsUnder (seen w) mapped_start r) rs (λ t below. omega (arith, below, in_host.0.some)) rising.0, rise l w rs in_host.1 rising.1)

module _ (l : Limits) (from : ℕ) (w : Records) (apart : AreRangesApart l w.ranges) (m : Mapped) (found : Some m ≡ mapped_from from w) where
  -- it starts where the search began or behind, and it lies well below the last address
  pub found_start : IsSize l.host → (from ≤ m.start) × (m.start + m.len < 2 ^ 32)
  found_start size =
      let at = found_view (seen w) (range_from from w.ranges) m found in
      let lies = found_has (λ r. IsHostSection l r.section) (λ r. nat_le from r.section.start) w.ranges at.0 apart.in_host at.1 in
      let ends : end_of at.0.section ≤ host_base + l.host = leb-true (end_of at.0.section) (end_of (host_memory l.host)) (and_parts (nat_le host_base at.0.section.start) (nat_le (end_of at.0.section) (end_of (host_memory l.host))) lies.0.within).1 in
      let start = ap mapped_start at.2 in
      let len = ap (λ (m : Mapped). m.len) at.2 in
      (omega (arith, leb-true from at.0.section.start lies.1, start), omega (arith, ends, size, start, len))

  -- what there is to write from the address on is its text, and what there is behind it
  pub ranges_turn : ranges_texts from w ≡ range_text w m ++ ranges_texts (m.start + 1) w
  ranges_turn =
      let at = found_view (seen w) (range_from from w.ranges) m found in
      texts_turn (seen w) mapped_start (range_text w) w.ranges from at.0 m (rise l w w.ranges apart.in_host apart.rising) at.1 at.2

-- there is nothing to write where no range is found
pub ranges_none : (from : ℕ) (w : Records) → None ≡ mapped_from from w → ranges_texts from w ≡ []
ranges_none from w none =
    texts_none (seen w) mapped_start (range_text w) w.ranges from (found_none (seen w) (range_from from w.ranges) none)
