-- The entries of the mapped ranges and of their starts, as mappings begin and end.
use Rattle.std.proofs.Common.{ℕ, ◌≡◌, ◌^◌, ◌<◌, ◌≤◌, refl, sym, ap, subst, ◌∙◌, Bool, true, false, cond, List, [], ◌∷◌, length, Option, Some, None, IsSome, arith, rules}
use Rattle.std.specs.Prelude.{◌==◌, not, find, option_map, nat_lt, nat_le, IfSome, Contains}
use Rattle.std.specs.Option.{option_or}
use Rattle.std.specs.List.{AllByRecursion}
use Rattle.std.proofs.lemmas.Bool.Decides.{nat_tests}
use Rattle.std.proofs.lemmas.Option.{same_Some}
use Rattle.std.proofs.lemmas.List.Filters.{length-filter_both}
use Rattle.acc_base.specs.declared.items.Section.{Section}
use Rattle.acc_base.specs.declared.mappings.Range.{Range}
use Rattle.acc_base.specs.declared.mappings.Found.TheVariants.{Absent}
use Rattle.acc_base.specs.Section.{is_apart}
use Rattle.acc_base.specs.Ranges.{where_is, range_of, range_from, with_range, without_range, changed_at}
use Rattle.acc_base.specs.Accounts.{EachPair, IsBelow}
use Rattle.acc_base.proofs.RangeChanges.{all_with, apart_with, rising_with, KeepsPlace, section-change, block-change}
use Rattle.acc_base.proofs.Where.{absent_says}
use Rattle.acc_base.proofs.Results.{equal, equal_self, differ}
use Rattle.acc_base.proofs.InPlace.{IsPut, all-put, find-put_other, find-put_new}
use Rattle.acc_base.proofs.Lookups.{at, at-own}
use Rattle.acc_base.proofs.Options.{some_mapped, none_mapped, from_none}
use Rattle.acc_base.proofs.Elements.{AllByRecursion-weaker, AllByRecursion-both, AllByRecursion-filter, AllByRecursion-map, EachPair-filter, EachPair-map, find-map, find-none, find_none, find_passes, found_has, list_all-from}
use Rattle.acc_base.proofs.Keyed as keyed
use Rattle.acc_index.specs.Indexed.{IsIndexRising, value_at}
use Rattle.acc_ordered.specs.declared.entries.KeyValueRef.{KeyValueRef}
use Rattle.acc_ordered.specs.Listing.{KeyValue, at_key, entry_in, seen, first_from, last_before, with_entry, without_key, value_written, with_value}
use Rattle.acc_present.specs.Present.{AreMapped}
use Rattle.acc_present.specs.declared.ranges.Mapping.{Mapping}
use Rattle.acc_present.specs.Kept.{range_in, ranges_in, mapping_of, IsAtAddress, start_at, IsIndexed}
use Rattle.acc_present.proofs.Finding.{last_below, starts_rise}

-- a range's start and its block
abbrev pub start_key : Range → ℕ
start_key r = r.section.start

abbrev pub block_key : Range → ℕ
block_key r = r.block

-- the same of an entry
abbrev pub key_of : KeyValue Mapping → ℕ
key_of e = e.key

abbrev pub mapped_block : KeyValue Mapping → ℕ
mapped_block e = e.value.block

-- ---- what a search among the entries finds

pub first-ranges : (k : ℕ) (es : List (KeyValue Mapping)) → option_map range_in (first_from k es) ≡ range_from k (ranges_in es)
first-ranges k es = sym (find-map range_in (λ e. nat_le k e.key) (λ r. nat_le k r.section.start) es (λ e. refl))

pub last-ranges : (k : ℕ) (es : List (KeyValue Mapping)) → option_map range_in (last_before k es) ≡ last_below k (ranges_in es)
last-ranges k [] = refl
last-ranges k (e ∷ es) = go (last-ranges k es) (last_before k es) refl (nat_lt e.key k)
  where
    go : option_map range_in (last_before k es) ≡ last_below k (ranges_in es) → (o : Option (KeyValue Mapping)) → last_before k es ≡ o → (b : Bool)
        → option_map range_in (option_or o (cond b (Some e) None)) ≡ option_or (last_below k (ranges_in es)) (cond b (Some (range_in e)) None)
    go rest None is true = rw (← rest, is) refl
    go rest None is false = rw (← rest, is) refl
    go rest (Some x) is b = rw (← rest, is) refl

pub block-ranges : (block : ℕ) (es : List (KeyValue Mapping)) → range_of block (ranges_in es) ≡ option_map range_in (at mapped_block block es)
block-ranges block es = find-map range_in (λ e. e.value.block == block) (λ r. r.block == block) es (λ e. refl)

pub start-ranges : (start : ℕ) (es : List (KeyValue Mapping)) → at start_key start (ranges_in es) ≡ option_map range_in (at_key start es)
start-ranges start es = find-map range_in (λ e. e.key == start) (λ r. r.section.start == start) es (λ e. refl)

-- the last entry below an address has the last range below it
pub last_found : (k : ℕ) (es : List (KeyValue Mapping)) (before : Option (KeyValue Mapping)) (o : Option Range) → before ≡ last_before k es → o ≡ option_map range_in before → last_below k (ranges_in es) ≡ o
last_found k es before o is image = sym (last-ranges k es) ∙ ap (option_map range_in) (sym is) ∙ sym image

-- no range begins behind the last address
pub none_past : (k : ℕ) (es : List (KeyValue Mapping)) → 2 ^ 64 ≤ k → AllByRecursion IsAtAddress es → range_from k (ranges_in es) ≡ None
none_past k es past addresses = find-none (λ (r : Range). nat_le k r.section.start) (ranges_in es) (AllByRecursion-map (λ (r : Range). nat_le k r.section.start ≡ false) range_in es (AllByRecursion-weaker IsAtAddress (λ (e : KeyValue Mapping). nat_le k e.key ≡ false) es (λ e bound. let less : e.key < 2 ^ 64 = bound in grind (arith, nat_tests)) addresses))

-- ---- each entry has its own start and its own block

all_unmapped : (P : Range → Type 0) (es : List (KeyValue Mapping)) → AllByRecursion P (ranges_in es) → AllByRecursion (λ e. P (range_in e)) es
all_unmapped P [] h = tt
all_unmapped P (e ∷ es) h = (h.0, all_unmapped P es h.1)

pairs_unmapped : (R : Range → Range → Type 0) (es : List (KeyValue Mapping)) → EachPair R (ranges_in es) → EachPair (λ (e f : KeyValue Mapping). R (range_in e) (range_in f)) es
pairs_unmapped R [] h = tt
pairs_unmapped R (e ∷ es) h = (all_unmapped (R (range_in e)) es h.0, pairs_unmapped R es h.1)

own_key : (es : List (KeyValue Mapping)) → AreMapped (ranges_in es) → AllByRecursion (λ e. at_key e.key es ≡ Some e) es
own_key es m = at-own key_of es (keyed.rise_distinct key_of es (pairs_unmapped (λ (r : Range) (t : Range). r.section.start < t.section.start) es (starts_rise (ranges_in es) m)))

own_mapped_block : (es : List (KeyValue Mapping)) → AreMapped (ranges_in es) → AllByRecursion (λ e. at mapped_block e.value.block es ≡ Some e) es
own_mapped_block es m = at-own mapped_block es (pairs_unmapped (λ (r : Range) (t : Range). r.block ≡ t.block → ⊥) es m.own_block)

-- the entry of a key is that of a block, by both
pub record IsEntryBoth (block : ℕ) (es : List (KeyValue Mapping)) (e : KeyValue Mapping) : Type 0 where
  pub key : at_key e.key es ≡ Some e
  pub by_block : at mapped_block block es ≡ Some e
  pub is : e.value.block ≡ block

-- an entry that a key finds is that of its block
pub by_key : (block : ℕ) (es : List (KeyValue Mapping)) (e : KeyValue Mapping) → AreMapped (ranges_in es) → at_key e.key es ≡ Some e → e.value.block ≡ block → IsEntryBoth block es e
by_key block es e m found is = record { key = found; by_block = subst (λ n. at mapped_block n es ≡ Some e) is (found_has (λ (x : KeyValue Mapping). at mapped_block x.value.block es ≡ Some x) (λ x. x.key == e.key) es e (own_mapped_block es m) found).0; is = is }

-- and has the range of that block
range_found : (key : ℕ) (es : List (KeyValue Mapping)) (e : KeyValue Mapping) → AreMapped (ranges_in es) → at_key key es ≡ Some e → range_of e.value.block (ranges_in es) ≡ Some (range_in e)
range_found key es e m found =
    let by_block = (found_has (λ (x : KeyValue Mapping). at mapped_block x.value.block es ≡ Some x) (λ x. x.key == key) es e (own_mapped_block es m) found).0 in
    block-ranges e.value.block es ∙ ap (option_map range_in) by_block

-- where there is one
pub ranges_found : (es : List (KeyValue Mapping)) (o : Option (KeyValueRef ℕ Mapping)) → AreMapped (ranges_in es) → IfSome o (λ found. at_key found.key es ≡ seen (λ (key : ℕ). key) o) → IfSome (option_map range_in (seen (λ (key : ℕ). key) o)) (λ r. range_of r.block (ranges_in es) ≡ Some r)
ranges_found es None m found = tt
ranges_found es (Some e) m found = range_found e.key es (entry_in (λ (key : ℕ). key) e) m found

-- a range that is found by a block is mapped to it
pub block_is : (block : ℕ) (rs : List Range) (r : Range) → range_of block rs ≡ Some r → r.block ≡ block
block_is block rs r found =
    let passes = subst (λ o. IfSome o (λ x. Contains rs x × ((x.block == block) ≡ true))) found (find_passes (λ x. x.block == block) rs) in
    equal r.block block passes.1

-- the entry is that of the range that is mapped to the block
pub record IsEntryOf (block : ℕ) (entries : List (KeyValue Mapping)) (e : KeyValue Mapping) : Type 0 where
  pub found : at_key e.key entries ≡ Some e
  pub range : range_of block (ranges_in entries) ≡ Some (range_in e)

-- and one that is found as the range of a block is found by its key
pub both_of : (block : ℕ) (es : List (KeyValue Mapping)) (e : KeyValue Mapping) → AreMapped (ranges_in es) → IsEntryOf block es e → IsEntryBoth block es e
both_of block es e m h =
    by_key block es e m h.found (block_is block (ranges_in es) (range_in e) h.range)

-- a mapped range has an entry
entry_of : (block : ℕ) (es : List (KeyValue Mapping)) (r : Range) → AreMapped (ranges_in es) → range_of block (ranges_in es) ≡ Some r → (e : KeyValue Mapping) × IsEntryOf block es e × (range_in e ≡ r)
entry_of block es r m there = go (at mapped_block block es) refl
  where
    go : (o : Option (KeyValue Mapping)) → at mapped_block block es ≡ o → (e : KeyValue Mapping) × IsEntryOf block es e × (range_in e ≡ r)
    go None is = let none : range_of block (ranges_in es) ≡ None = block-ranges block es ∙ ap (option_map range_in) is in cc
    go (Some e) is =
        let range : range_of block (ranges_in es) ≡ Some (range_in e) = block-ranges block es ∙ ap (option_map range_in) is in
        (e, record { found = (found_has (λ (x : KeyValue Mapping). at_key x.key es ≡ Some x) (λ x. x.value.block == block) es e (own_key es m) is).0; range = range }, same_Some (range_in e) r (sym range ∙ there))

-- which stands at its start
pub key_there : (block : ℕ) (es : List (KeyValue Mapping)) (r : Range) → AreMapped (ranges_in es) → range_of block (ranges_in es) ≡ Some r → IsSome (at_key r.section.start es)
key_there block es r m there =
    let p = entry_of block es r m there in
    rw (← p.2) (rw p.1.found refl)

-- ---- the start of a block's range

-- the range at the start that is kept for a block
pub range_at : (block start : ℕ) (es : List (KeyValue Mapping)) (starts : ℕ → Option ℕ) → IsIndexed es starts → starts block ≡ Some start → option_map range_in (at_key start es) ≡ range_of block (ranges_in es)
range_at block start es starts kept given = sym (start-ranges start es) ∙ go (range_of block (ranges_in es)) refl
  where
    go : (o : Option Range) → range_of block (ranges_in es) ≡ o → at start_key start (ranges_in es) ≡ o
    go None is = let none : starts block ≡ None = kept.agrees block ∙ ap (option_map start_key) is in cc
    go (Some r) is =
        let same : start ≡ start_key r = same_Some start (start_key r) (sym given ∙ kept.agrees block ∙ ap (option_map start_key) is) in
        ap (λ n. at start_key n (ranges_in es)) same ∙ keyed.at-found start_key (λ t. t.block == block) (ranges_in es) r (starts_rise (ranges_in es) kept.mapped) is

-- the range that begins where it is kept that a block's does
pub started : (block start : ℕ) (es : List (KeyValue Mapping)) (starts : ℕ → Option ℕ) → IsIndexed es starts → starts block ≡ Some start → (r : Range) × (range_of block (ranges_in es) ≡ Some r) × (r.section.start ≡ start)
started block start es starts kept given = go (range_of block (ranges_in es)) refl
  where
    go : (o : Option Range) → range_of block (ranges_in es) ≡ o → (r : Range) × (range_of block (ranges_in es) ≡ Some r) × (r.section.start ≡ start)
    go None is = let none : starts block ≡ None = kept.agrees block ∙ ap (option_map start_key) is in cc
    go (Some r) is = (r, is, same_Some (start_key r) start (sym (kept.agrees block ∙ ap (option_map start_key) is) ∙ given))

-- and no start is kept for a block that no range has
pub start_new : (block : ℕ) (es : List (KeyValue Mapping)) (starts : ℕ → Option ℕ) → IsIndexed es starts → range_of block (ranges_in es) ≡ None → starts block ≡ None
start_new block es starts kept none = kept.agrees block ∙ ap (option_map start_key) none

-- ---- a range more

-- its entry goes in by its start
pub with_entry-ranges : (new : KeyValue Mapping) (es : List (KeyValue Mapping)) → ranges_in (with_entry new es) ≡ with_range (range_in new) (ranges_in es)
with_entry-ranges new [] = refl
with_entry-ranges new (e ∷ es) = go (with_entry-ranges new es) (nat_lt new.key e.key)
  where
    go : ranges_in (with_entry new es) ≡ with_range (range_in new) (ranges_in es) → (b : Bool) → ranges_in (cond b (new ∷ e ∷ es) (e ∷ with_entry new es)) ≡ cond b (range_in new ∷ range_in e ∷ ranges_in es) (range_in e ∷ with_range (range_in new) (ranges_in es))
    go rest true = refl
    go rest false = ap (λ rs. range_in e ∷ rs) rest

put_in_entries : {T : Type 0} (new : KeyValue T) → IsPut new (λ e. nat_lt new.key e.key) (with_entry new)
put_in_entries new = record { alone = refl; among = λ e es. refl }

-- the range of a block once one more is mapped
of-with_range : (new : Range) (rs : List Range) (block : ℕ) → range_of new.block rs ≡ None → range_of block (with_range new rs) ≡ cond (new.block == block) (Some new) (range_of block rs)
of-with_range new rs block none = go (new.block == block) refl
  where
    put : IsPut new (λ r. nat_lt new.section.start r.section.start) (with_range new)
    put = record { alone = refl; among = λ r rs. refl }

    go : (b : Bool) → (new.block == block) ≡ b → range_of block (with_range new rs) ≡ cond b (Some new) (range_of block rs)
    go true t = find-put_new put (λ r. r.block == block) rs t (let same = equal new.block block t in subst (λ n. range_of n rs ≡ None) same none)
    go false t = find-put_other put (λ r. r.block == block) rs t

-- no range begins where an absent section does
pub absent_start : (new : Range) (es : List (KeyValue Mapping)) → AreMapped (ranges_in es) → where_is new.section (ranges_in es) ≡ Absent → at_key new.section.start es ≡ None
absent_start new es m absent =
    let says = absent_says new.section (ranges_in es) absent in
    let len : 0 < new.section.len = grind (arith, nat_tests, says.1) in
    let apart = list_all-from (λ r. is_apart new.section r.section) (ranges_in es) says.0 in
    let off : AllByRecursion (λ (r : Range). (r.section.start == new.section.start) ≡ false) (ranges_in es) = AllByRecursion-both (λ (r : Range). 0 < r.section.len) (λ r. is_apart new.section r.section ≡ true) (λ (r : Range). (r.section.start == new.section.start) ≡ false) (ranges_in es) (λ r l a. let filled : 0 < r.section.len = l in grind (arith, nat_tests)) m.some apart in
    from_none range_in (at_key new.section.start es) (sym (start-ranges new.section.start es) ∙ find-none (λ r. r.section.start == new.section.start) (ranges_in es) off)

-- ranges stay mapped with one more
mapped-with : (new : Range) (rs : List Range) → AreMapped rs → where_is new.section rs ≡ Absent → range_of new.block rs ≡ None → AreMapped (with_range new rs)
mapped-with new rs m absent none =
    let says = absent_says new.section rs absent in
    let len : 0 < new.section.len = grind (arith, nat_tests, says.1) in
    record {
      some = all_with (λ (r : Range). 0 < r.section.len) new rs len m.some;
      rising = rising_with new rs len m.some (list_all-from (λ r. is_apart new.section r.section) rs says.0) m.rising;
      own_block = apart_with (λ r t. r.block ≡ t.block → ⊥) new rs (AllByRecursion-weaker (λ (r : Range). (r.block == new.block) ≡ false) (λ r. (new.block ≡ r.block → ⊥) × (r.block ≡ new.block → ⊥)) rs (λ r f. (λ same. grind (arith, nat_tests), λ same. grind (arith, nat_tests))) (find_none (λ (r : Range). r.block == new.block) rs none)) m.own_block;
    }

pub mapped_now : (new : KeyValue Mapping) (es : List (KeyValue Mapping)) (starts told : ℕ → Option ℕ) → IsIndexed es starts → IsAtAddress new → where_is (range_in new).section (ranges_in es) ≡ Absent → range_of new.value.block (ranges_in es) ≡ None
    → ((block : ℕ) → told block ≡ cond (new.value.block == block) (Some new.key) (starts block)) → IsIndexed (with_entry new es) told
mapped_now new es starts told kept own absent none says = record {
  mapped = rw (with_entry-ranges new es) (mapped-with (range_in new) (ranges_in es) kept.mapped absent none);
  at_addresses = all-put (put_in_entries new) IsAtAddress es own kept.at_addresses;
  agrees = λ block.
      says block
      ∙ ap (cond (new.value.block == block) (Some new.key)) (kept.agrees block)
      ∙ sym (some_mapped start_key (new.value.block == block) (range_in new) (range_of block (ranges_in es)))
      ∙ ap (option_map start_key) (sym (of-with_range (range_in new) (ranges_in es) block none))
      ∙ ap (start_at block) (sym (with_entry-ranges new es));
}

-- ---- a range less

mapped-without : (block : ℕ) (rs : List Range) → AreMapped rs → AreMapped (without_range block rs)
mapped-without block rs m = record {
  some = AllByRecursion-filter (λ (r : Range). 0 < r.section.len) (λ r. not (r.block == block)) rs m.some;
  rising = EachPair-filter (λ (r : Range) (t : Range). IsBelow r.section t.section) (λ r. not (r.block == block)) rs m.rising;
  own_block = EachPair-filter (λ (r : Range) (t : Range). r.block ≡ t.block → ⊥) (λ r. not (r.block == block)) rs m.own_block;
}

-- of each entry, its key is that of the block's exactly where its block is the block
pub record IsOnlyOne (block : ℕ) (e x : KeyValue Mapping) : Type 0 where
  pub tests : (x.key == e.key) ≡ (x.value.block == block)
  pub same : (x.key == e.key) ≡ true → x ≡ e

pub only_one : (block : ℕ) (es : List (KeyValue Mapping)) (e : KeyValue Mapping) → AreMapped (ranges_in es) → IsEntryBoth block es e → AllByRecursion (IsOnlyOne block e) es
only_one block es e m h = AllByRecursion-both (λ x. at_key x.key es ≡ Some x) (λ x. at mapped_block x.value.block es ≡ Some x) (IsOnlyOne block e) es (λ x k b. record { tests = tests x k b; same = λ t. by_its_key x k t }) (own_key es m) (own_mapped_block es m)
  where
    by_its_key : (x : KeyValue Mapping) → at_key x.key es ≡ Some x → (x.key == e.key) ≡ true → x ≡ e
    by_its_key x k t = same_Some x e (sym k ∙ ap (λ n. at_key n es) (equal x.key e.key t) ∙ h.key)

    by_its_block : (x : KeyValue Mapping) → at mapped_block x.value.block es ≡ Some x → (x.value.block == block) ≡ true → x ≡ e
    by_its_block x b t = same_Some x e (sym b ∙ ap (λ n. at mapped_block n es) (equal x.value.block block t) ∙ h.by_block)

    tests : (x : KeyValue Mapping) → at_key x.key es ≡ Some x → at mapped_block x.value.block es ≡ Some x → (x.key == e.key) ≡ (x.value.block == block)
    tests x k b = go (x.key == e.key) refl (x.value.block == block) refl
      where
        go : (s : Bool) → (x.key == e.key) ≡ s → (t : Bool) → (x.value.block == block) ≡ t → s ≡ t
        go true s true t = refl
        go false s false t = refl
        go true s false t = let same : x ≡ e = by_its_key x k s in let is : x.value.block ≡ block = ap mapped_block same ∙ h.is in absurd (differ x.value.block block t is)
        go false s true t = let same : x ≡ e = by_its_block x b t in absurd (differ x.key e.key s (ap key_of same))

ranges-without : (block : ℕ) (e : KeyValue Mapping) (es : List (KeyValue Mapping)) → AllByRecursion (IsOnlyOne block e) es → ranges_in (without_key e.key es) ≡ without_range block (ranges_in es)
ranges-without block e [] only = refl
ranges-without block e (x ∷ es) only = rw only.0.tests (go (ranges-without block e es only.1) (x.value.block == block))
  where
    go : ranges_in (without_key e.key es) ≡ without_range block (ranges_in es) → (b : Bool) → ranges_in (cond (not b) (x ∷ without_key e.key es) (without_key e.key es)) ≡ cond (not b) (range_in x ∷ without_range block (ranges_in es)) (without_range block (ranges_in es))
    go rest true = rest
    go rest false = ap (λ rs. range_in x ∷ rs) rest

-- what the entries are once a range is taken out
pub record IsUnmappedNow (block : ℕ) (es ts : List (KeyValue Mapping)) (starts : ℕ → Option ℕ) : Type 0 where
  pub ranges : ranges_in ts ≡ without_range block (ranges_in es)
  pub indexed : IsIndexed ts starts

pub unmapped_now : (block : ℕ) (es : List (KeyValue Mapping)) (starts told : ℕ → Option ℕ) (r : Range) → IsIndexed es starts → range_of block (ranges_in es) ≡ Some r → ((other : ℕ) → told other ≡ cond (block == other) None (starts other)) → IsUnmappedNow block es (without_key r.section.start es) told
unmapped_now block es starts told r kept there says =
    let p = entry_of block es r kept.mapped there in
    let e = p.0 in
    let ranges = ranges-without block e es (only_one block es e kept.mapped (both_of block es e kept.mapped p.1)) in
    subst (λ (x : Range). IsUnmappedNow block es (without_key x.section.start es) told) p.2
    (record {
      ranges = ranges;
      indexed = record {
        mapped = rw ranges (mapped-without block (ranges_in es) kept.mapped);
        at_addresses = AllByRecursion-filter IsAtAddress (λ x. not (x.key == e.key)) es kept.at_addresses;
        agrees = λ other.
            says other
            ∙ ap (cond (block == other) None) (kept.agrees other)
            ∙ sym (none_mapped start_key (block == other) (range_of other (ranges_in es)))
            ∙ ap (option_map start_key) (sym (keyed.at-without block_key (ranges_in es) block other))
            ∙ ap (start_at other) (sym ranges);
      };
    })

-- ---- how many starts are kept

-- of the values behind one, that of its number is not
later : (e : ℕ × ℕ) (es : List (ℕ × ℕ)) (b : ℕ) → IsIndexRising (e ∷ es) → value_at b es ≡ cond (e.0 == b) None (value_at b (e ∷ es))
later e es b rise = go (e.0 == b) refl
  where
    go : (t : Bool) → (e.0 == b) ≡ t → value_at b es ≡ cond t None (option_map (λ (d : ℕ × ℕ). d.1) (cond t (Some e) (find (λ (d : ℕ × ℕ). d.0 == b) es)))
    go true t = ap (option_map (λ (d : ℕ × ℕ). d.1)) (find-none (λ (d : ℕ × ℕ). d.0 == b) es (AllByRecursion-weaker (λ (d : ℕ × ℕ). e.0 < d.0) (λ (d : ℕ × ℕ). (d.0 == b) ≡ false) es (λ d less. grind (arith, nat_tests)) rise.0))
    go false t = refl

-- with a range less there are fewer
fewer : (block : ℕ) (rs : List Range) → IsSome (start_at block rs) → length (without_range block rs) < length rs
fewer block [] there = absurd cc
fewer block (r ∷ rs) there = go (r.block == block) (fewer block rs) there
  where
    go : (t : Bool) → (IsSome (start_at block rs) → length (without_range block rs) < length rs) → IsSome (option_map start_key (cond t (Some r) (range_of block rs))) → length (cond (not t) (r ∷ without_range block rs) (without_range block rs)) < length (r ∷ rs)
    go true rest some = let both = length-filter_both (λ (x : Range). x.block == block) (λ (x : Range). not (x.block == block)) (λ x. refl) rs in omega arith
    go false rest some = let less = rest some in omega arith

-- no more starts are kept than there are ranges
pub starts_few : (starts : List (ℕ × ℕ)) (rs : List Range) → IsIndexRising starts → ((block : ℕ) → value_at block starts ≡ start_at block rs) → length starts ≤ length rs
starts_few [] rs rise agrees = omega arith
starts_few (e ∷ es) rs rise agrees =
    let rest = starts_few es (without_range e.0 rs) rise.1 (λ b.
    later e es b rise
    ∙ ap (cond (e.0 == b) None) (agrees b)
    ∙ sym (none_mapped start_key (e.0 == b) (range_of b rs))
    ∙ ap (option_map start_key) (sym (keyed.at-without block_key rs e.0 b))) in
    let less = fewer e.0 rs (subst IsSome (agrees e.0) (rw (equal_self e.0) (search rules))) in
    omega arith

-- ---- a range changed

-- a range at its own start is the range of its entry
whole : (r : Range) (k : ℕ) → r.section.start ≡ k → range_in (record { key = k; value = mapping_of r }) ≡ r
whole r k is = sym (ap (λ (n : ℕ). record r { section = record r.section { start = n } }) is)

ranges-changed : (block : ℕ) (f : Range → Range) (e : KeyValue Mapping) (es : List (KeyValue Mapping)) → KeepsPlace f → AllByRecursion (IsOnlyOne block e) es → ranges_in (with_value e.key (mapping_of (f (range_in e))) es) ≡ changed_at block f (ranges_in es)
ranges-changed block f e [] keeps only = refl
ranges-changed block f e (x ∷ es) keeps only = ap (λ r. r ∷ ranges_in (with_value e.key (mapping_of (f (range_in e))) es)) (one only.0) ∙ ap (λ rs. cond (x.value.block == block) (f (range_in x)) (range_in x) ∷ rs) (ranges-changed block f e es keeps only.1)
  where
    one : IsOnlyOne block e x → range_in (value_written e.key (mapping_of (f (range_in e))) x) ≡ cond (x.value.block == block) (f (range_in x)) (range_in x)
    one o = rw (← o.tests) (go (x.key == e.key) refl)
      where
        go : (b : Bool) → (x.key == e.key) ≡ b → range_in (cond b (record x { value = mapping_of (f (range_in e)) }) x) ≡ cond b (f (range_in x)) (range_in x)
        go true t = let same : x ≡ e = o.same t in rw same (whole (f (range_in e)) e.key (ap (λ (s : Section). s.start) (keeps.section (range_in e))))
        go false t = refl

-- what the entries are once the range of a block is changed
pub record IsChangedNow (block : ℕ) (f : Range → Range) (es ts : List (KeyValue Mapping)) (starts : ℕ → Option ℕ) : Type 0 where
  pub ranges : ranges_in ts ≡ changed_at block f (ranges_in es)
  pub indexed : IsIndexed ts starts

changed_now : (block : ℕ) (f : Range → Range) (es : List (KeyValue Mapping)) (starts : ℕ → Option ℕ) (e : KeyValue Mapping) → KeepsPlace f → IsIndexed es starts → IsEntryOf block es e → IsChangedNow block f es (with_value e.key (mapping_of (f (range_in e))) es) starts
changed_now block f es starts e keeps kept h = record {
  ranges = ranges;
  indexed = record {
    mapped = rw ranges changed_mapped;
    at_addresses = AllByRecursion-map IsAtAddress (value_written e.key (mapping_of (f (range_in e)))) es (AllByRecursion-weaker IsAtAddress (λ x. IsAtAddress (value_written e.key (mapping_of (f (range_in e))) x)) es (λ x k. still_there x k (x.key == e.key)) kept.at_addresses);
    agrees = λ other. kept.agrees other ∙ sym (start_same other (ranges_in es)) ∙ ap (start_at other) (sym ranges);
  };
}
  where
    still_there : (x : KeyValue Mapping) → IsAtAddress x → (b : Bool) → IsAtAddress (cond b (record x { value = mapping_of (f (range_in e)) }) x)
    still_there x k true = k
    still_there x k false = k

    ranges : ranges_in (with_value e.key (mapping_of (f (range_in e))) es) ≡ changed_at block f (ranges_in es)
    ranges = ranges-changed block f e es keeps (only_one block es e kept.mapped (both_of block es e kept.mapped h))

    changed_mapped : AreMapped (changed_at block f (ranges_in es))
    changed_mapped = record {
      some = AllByRecursion-map (λ (r : Range). 0 < r.section.len) (λ r. cond (r.block == block) (f r) r) (ranges_in es) (AllByRecursion-weaker (λ (r : Range). 0 < r.section.len) (λ r. 0 < (cond (r.block == block) (f r) r).section.len) (ranges_in es) (λ r l. rw (section-change block f keeps r) l) kept.mapped.some);
      rising = EachPair-map (λ (r : Range) (t : Range). IsBelow r.section t.section) (λ r. cond (r.block == block) (f r) r) (ranges_in es) (λ r t b. rw (section-change block f keeps r, section-change block f keeps t) b) kept.mapped.rising;
      own_block = EachPair-map (λ (r : Range) (t : Range). r.block ≡ t.block → ⊥) (λ r. cond (r.block == block) (f r) r) (ranges_in es) (λ r t d. rw (block-change block f keeps r, block-change block f keeps t) d) kept.mapped.own_block;
    }

    start_same : (other : ℕ) (xs : List Range) → start_at other (changed_at block f xs) ≡ start_at other xs
    start_same other [] = refl
    start_same other (x ∷ xs) =
        ap (λ n. option_map start_key (cond (n == other) (Some (cond (x.block == block) (f x) x)) (range_of other (changed_at block f xs)))) (block-change block f keeps x)
        ∙ pick (start_same other xs) (x.block == other)
      where
        pick : start_at other (changed_at block f xs) ≡ start_at other xs → (b : Bool) → option_map start_key (cond b (Some (cond (x.block == block) (f x) x)) (range_of other (changed_at block f xs))) ≡ option_map start_key (cond b (Some x) (range_of other xs))
        pick rest true = ap (λ s. Some s.start) (section-change block f keeps x)
        pick rest false = rest

-- the same where the changed range was written over it
pub written_now : (block : ℕ) (f : Range → Range) (es ts : List (KeyValue Mapping)) (starts : ℕ → Option ℕ) (r : Range) (new : Mapping) → KeepsPlace f → IsIndexed es starts → range_of block (ranges_in es) ≡ Some r
    → new ≡ mapping_of (f r) → ts ≡ with_value r.section.start new es → IsChangedNow block f es ts starts
written_now block f es ts starts r new keeps kept there is now =
    let p = entry_of block es r kept.mapped there in
    let same : ts ≡ with_value p.0.key (mapping_of (f (range_in p.0))) es = now ∙ ap (λ (m : Mapping). with_value r.section.start m es) is ∙ ap (λ (x : Range). with_value x.section.start (mapping_of (f x)) es) (sym p.2) in
    rw same (changed_now block f es starts p.0 keeps kept p.1)
