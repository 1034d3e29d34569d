-- The blocks whose mapping has ended, as their places find them.
use Rattle.std.proofs.Common.{ℕ, ◌≡◌, ◌+◌, ◌<◌, ◌≤◌, length, refl, sym, ap, ◌∙◌, subst, Bool, true, false, cond, List, [], ◌∷◌, ◌++◌, Option, Some, None, arith, inl, inr}
use Rattle.std.specs.Prelude.{◌==◌, ◌&&◌, not, nat_le, map, find, filter, unwrap_or, option_map, IfSome, IsSome, Contains}
use Rattle.std.specs.List.{AllByRecursion, AllZip}
use Rattle.std.proofs.lemmas.Bool.Decides.{nat_tests}
use Rattle.std.proofs.lemmas.Option.{same_Some}
use Rattle.acc_base.specs.declared.mappings.Block.{Block}
use Rattle.acc_base.specs.declared.items.Section.{Section}
use Rattle.acc_base.specs.Blocks.{block_at, without_block, lower, lowest}
use Rattle.acc_base.specs.Accounts.{EachPair, IsOnDevice, IsClearOf, AreBlocksApart}
use Rattle.acc_base.proofs.Results.{equal, differ, and_true}
use Rattle.acc_base.proofs.Lookups.{at, AreDistinct, at-own, at-none, at-changed}
use Rattle.acc_base.proofs.Options.{from_none, from_some}
use Rattle.acc_base.proofs.Elements.{AllByRecursion-weaker, AllByRecursion-both, AllByRecursion-passed, EachPair-weaker, filter-none, find_passes, found_has}
use Rattle.acc_base.proofs.Keyed as keyed
use Rattle.acc_ordered.specs.Listing.{KeyValue, KeysRise, at_key, first_from, with_entry, without_key}
use Rattle.acc_ordered.proofs.Listed.{at-with_entry, at-without_key, first_own, first_least, first_none}
use Rattle.acc_dev.specs.Marks.{Mark, new_mark, mark_numbered, is_ended_at, mark_changed, with_end, without_mark, ended_told, lowest_ended, IsMarkOf}
use Rattle.acc_dev.specs.Ending.{EndedState, block_placed, ended_number, number_kept, mapped_count, AreEndedKept}

abbrev place_key : Block → ℕ
place_key b = b.place

abbrev number_key : Block → ℕ
number_key b = b.number

abbrev mark_key : Mark → ℕ
mark_key m = m.block

-- ---- each block has a number and a place of its own

pub record AreOwn (blocks : List Block) : Type 0 where
  pub places : AreDistinct place_key blocks
  pub numbers : AreDistinct number_key blocks

pub own_of : (memory : Section) (blocks : List Block) (births : ℕ) → AreBlocksApart memory blocks births → AreOwn blocks
own_of memory blocks births h = record {
  places = places blocks h.on_device h.apart;
  numbers = EachPair-weaker IsClearOf (λ (b : Block) (c : Block). b.number ≡ c.number → ⊥) blocks (λ b c clear same. omega (arith, clear.numbers)) h.apart;
}
  where
    apart : (b c : Block) → 0 < b.len → 0 < c.len → IsClearOf b c → b.place ≡ c.place → ⊥
    apart b c some more clear same = elim clear.addresses [ inl below ↦ omega arith | inr above ↦ omega arith ]

    places : (bs : List Block) → AllByRecursion (IsOnDevice memory) bs → EachPair IsClearOf bs → AreDistinct place_key bs
    places [] on clear = tt
    places (b ∷ bs) on clear = (AllByRecursion-both (IsOnDevice memory) (IsClearOf b) (λ c. b.place ≡ c.place → ⊥) bs (λ c there off. apart b c on.0.some there.some off) on.1 clear.0, places bs on.1 clear.1)

-- a block is found by its place where it is found by its number
at_its_place : (n : ℕ) (blocks : List Block) (b : Block) → AreOwn blocks → block_at n blocks ≡ Some b → block_placed b.place blocks ≡ Some b
at_its_place n blocks b own found = (found_has (λ (c : Block). block_placed c.place blocks ≡ Some c) (λ c. c.number == n) blocks b (at-own place_key blocks own.places) found).0

number_is : (n : ℕ) (blocks : List Block) (b : Block) → AreOwn blocks → block_at n blocks ≡ Some b → b.number ≡ n
number_is n blocks b own found = equal b.number n (found_has (λ (c : Block). block_placed c.place blocks ≡ Some c) (λ c. c.number == n) blocks b (at-own place_key blocks own.places) found).1

-- one of its number is one of its place
same_tests : (n : ℕ) (blocks : List Block) (b : Block) → AreOwn blocks → block_at n blocks ≡ Some b → AllByRecursion (λ c. (c.number == n) ≡ (c.place == b.place)) blocks
same_tests n blocks b own found =
    AllByRecursion-both (λ (c : Block). at number_key c.number blocks ≡ Some c) (λ c. block_placed c.place blocks ≡ Some c) (λ c. (c.number == n) ≡ (c.place == b.place)) blocks
    (λ c by_number by_place. tests c by_number by_place (c.number == n) refl (c.place == b.place) refl) (at-own number_key blocks own.numbers) (at-own place_key blocks own.places)
  where
    tests : (c : Block) → at number_key c.number blocks ≡ Some c → block_placed c.place blocks ≡ Some c → (s : Bool) → (c.number == n) ≡ s → (t : Bool) → (c.place == b.place) ≡ t → s ≡ t
    tests c by_number by_place true s true t = refl
    tests c by_number by_place false s false t = refl
    tests c by_number by_place true s false t =
        let same : c ≡ b = same_Some c b (sym by_number ∙ ap (λ k. block_at k blocks) (equal c.number n s) ∙ found) in
        absurd (differ c.place b.place t (ap place_key same))
    tests c by_number by_place false s true t =
        let same : c ≡ b = same_Some c b (sym by_place ∙ ap (λ k. block_placed k blocks) (equal c.place b.place t) ∙ at_its_place n blocks b own found) in
        absurd (differ c.number n s (ap number_key same ∙ number_is n blocks b own found))

filter-same : {X : Type 0} (p q : X → Bool) (xs : List X) → AllByRecursion (λ x. p x ≡ q x) xs → filter (λ x. not (p x)) xs ≡ filter (λ x. not (q x)) xs
filter-same p q [] h = refl
filter-same {X} p q (x ∷ xs) h = ap (λ b. cond (not b) (x ∷ filter (λ y. not (p y)) xs) (filter (λ y. not (p y)) xs)) h.0 ∙ ap (λ (ys : List X). cond (not (q x)) (x ∷ ys) ys) (filter-same p q xs h.1)

-- what lies at a place once a block is gone
placed-without : (n place : ℕ) (blocks : List Block) (b : Block) → AreOwn blocks → block_at n blocks ≡ Some b → block_placed place (without_block n blocks) ≡ cond (b.place == place) None (block_placed place blocks)
placed-without n place blocks b own found =
    ap (block_placed place) (filter-same (λ (c : Block). c.number == n) (λ c. c.place == b.place) blocks (same_tests n blocks b own found))
    ∙ keyed.at-without place_key blocks b.place place

-- ---- marks

abbrev ended_in : Option Mark → Bool
ended_in o = unwrap_or (option_map (λ m. m.ended) o) false

-- a new mark changes nothing
ended-push : (n k : ℕ) (marks : List Mark) → is_ended_at n (marks ++ new_mark k ∷ []) ≡ is_ended_at n marks
ended-push n k [] = elim (k == n) as (λ t. ended_in (cond t (Some (new_mark k)) None) ≡ false) [ true ↦ refl | false ↦ refl ]
ended-push n k (m ∷ ms) = go (ended-push n k ms) (m.block == n)
  where
    go : is_ended_at n (ms ++ new_mark k ∷ []) ≡ is_ended_at n ms → (t : Bool) → ended_in (cond t (Some m) (mark_numbered n (ms ++ new_mark k ∷ []))) ≡ ended_in (cond t (Some m) (mark_numbered n ms))
    go rest true = refl
    go rest false = rest

-- a number without a mark has not ended
unmarked : (n : ℕ) (marks : List Mark) → AllByRecursion (λ m. m.block ≡ n → ⊥) marks → is_ended_at n marks ≡ false
unmarked n marks h = ap ended_in (at-none mark_key n marks h)

-- a mark that is found is that of its number
found_mark : (n : ℕ) (marks : List Mark) (m : Mark) → mark_numbered n marks ≡ Some m → (m.block == n) ≡ true
found_mark n [] m found = cc
found_mark n (x ∷ xs) m found = go (found_mark n xs m) (x.block == n) refl found
  where
    go : (mark_numbered n xs ≡ Some m → (m.block == n) ≡ true) → (t : Bool) → (x.block == n) ≡ t → cond t (Some x) (mark_numbered n xs) ≡ Some m → (m.block == n) ≡ true
    go rest true t is = let same : x ≡ m = cc in rw (← same) t
    go rest false t is = rest is

-- other marks stay without one
ended-without : (n j : ℕ) (marks : List Mark) → (j == n) ≡ false → is_ended_at j (without_mark n marks) ≡ is_ended_at j marks
ended-without n j marks other =
    let t : (n == j) ≡ false = grind (arith, nat_tests) in
    ap ended_in (keyed.at-without mark_key marks n j ∙ ap (λ s. cond s None (mark_numbered j marks)) t)

-- and with a change of one
ended-changed : (n j : ℕ) (f : Mark → Mark) (marks : List Mark) → ((m : Mark) → (f m).block ≡ m.block) → (j == n) ≡ false → is_ended_at j (map (mark_changed n f) marks) ≡ is_ended_at j marks
ended-changed n j f marks keeps other = ap ended_in (at-changed mark_key n j f marks keeps) ∙ go (mark_numbered j marks) refl
  where
    go : (o : Option Mark) → mark_numbered j marks ≡ o → ended_in (option_map (mark_changed n f) o) ≡ ended_in o
    go None is = refl
    go (Some m) is =
        let here = found_mark j marks m is in
        let t : (m.block == n) ≡ false = grind (arith, nat_tests) in
        rw t refl

-- the mark of a block that ends says so
ended_then : (n : ℕ) (marks : List Mark) (m : Mark) → mark_numbered n marks ≡ Some m → is_ended_at n (map (mark_changed n with_end) marks) ≡ true
ended_then n marks m is =
    ap ended_in (at-changed mark_key n n with_end marks (λ x. refl)) ∙ ap (λ (o : Option Mark). ended_in (option_map (mark_changed n with_end) o)) is ∙ rw (found_mark n marks m is) refl

-- the mark, with another number of pins
abbrev pub with_pins : ℕ → Mark → Mark
with_pins pins m = record m { pins = pins }

-- pins end no mapping
ended-pinned : (n j pins : ℕ) (marks : List Mark) → is_ended_at j (map (mark_changed n (with_pins pins)) marks) ≡ is_ended_at j marks
ended-pinned n j pins [] = refl
ended-pinned n j pins (m ∷ ms) = go (ended-pinned n j pins ms) (m.block == n)
  where
    pick : is_ended_at j (map (mark_changed n (with_pins pins)) ms) ≡ is_ended_at j ms → (t : Bool) (x : Mark) → x.ended ≡ m.ended → ended_in (cond t (Some x) (mark_numbered j (map (mark_changed n (with_pins pins)) ms))) ≡ ended_in (cond t (Some m) (mark_numbered j ms))
    pick rest true x same = same
    pick rest false x same = rest

    go : is_ended_at j (map (mark_changed n (with_pins pins)) ms) ≡ is_ended_at j ms → (t : Bool) → is_ended_at j (cond t (with_pins pins m) m ∷ map (mark_changed n (with_pins pins)) ms) ≡ is_ended_at j (m ∷ ms)
    go rest true = pick rest (m.block == j) (with_pins pins m) refl
    go rest false = pick rest (m.block == j) m refl

-- ---- how many blocks are mapped

count-push : (k : ℕ) (marks : List Mark) → mapped_count (marks ++ new_mark k ∷ []) ≡ mapped_count marks + 1
count-push k [] = refl
count-push k (m ∷ ms) = go (count-push k ms) m.ended
  where
    go : mapped_count (ms ++ new_mark k ∷ []) ≡ mapped_count ms + 1 → (t : Bool) → length (cond (not t) (m ∷ filter (λ x. not x.ended) (ms ++ new_mark k ∷ [])) (filter (λ x. not x.ended) (ms ++ new_mark k ∷ []))) ≡ length (cond (not t) (m ∷ filter (λ x. not x.ended) ms) (filter (λ x. not x.ended) ms)) + 1
    go rest true = rest
    go rest false = omega (arith, rest)

count-pinned : (n pins : ℕ) (marks : List Mark) → mapped_count (map (mark_changed n (with_pins pins)) marks) ≡ mapped_count marks
count-pinned n pins [] = refl
count-pinned n pins (m ∷ ms) = go (count-pinned n pins ms) (m.block == n) m.ended refl
  where
    go : mapped_count (map (mark_changed n (with_pins pins)) ms) ≡ mapped_count ms → (t e : Bool) → m.ended ≡ e → mapped_count (cond t (with_pins pins m) m ∷ map (mark_changed n (with_pins pins)) ms) ≡ mapped_count (m ∷ ms)
    go rest true true is = rw is rest
    go rest true false is = rw is (omega (arith, rest))
    go rest false true is = rw is rest
    go rest false false is = rw is (omega (arith, rest))

-- no more are without one
count_without : (n : ℕ) (marks : List Mark) → mapped_count (without_mark n marks) ≤ mapped_count marks
count_without n [] = omega arith
count_without n (m ∷ ms) = go (count_without n ms) (m.block == n) m.ended refl
  where
    go : mapped_count (without_mark n ms) ≤ mapped_count ms → (t e : Bool) → m.ended ≡ e → mapped_count (cond (not t) (m ∷ without_mark n ms) (without_mark n ms)) ≤ mapped_count (m ∷ ms)
    go rest true true is = rw is rest
    go rest true false is = rw is (omega (arith, rest))
    go rest false true is = rw is rest
    go rest false false is = rw is (omega (arith, rest))

-- and fewer without a mapped one
count_less : (n : ℕ) (marks : List Mark) (m : Mark) → mark_numbered n marks ≡ Some m → m.ended ≡ false → mapped_count (without_mark n marks) + 1 ≤ mapped_count marks
count_less n [] m found mapped = cc
count_less n (x ∷ xs) m found mapped = go (λ is. count_less n xs m is mapped) (x.block == n) found x.ended refl
  where
    go : (mark_numbered n xs ≡ Some m → mapped_count (without_mark n xs) + 1 ≤ mapped_count xs) → (t : Bool) → cond t (Some x) (mark_numbered n xs) ≡ Some m → (e : Bool) → x.ended ≡ e → mapped_count (cond (not t) (x ∷ without_mark n xs) (without_mark n xs)) + 1 ≤ mapped_count (x ∷ xs)
    go rest true is true e = let same : x ≡ m = cc in let no : true ≡ false = sym e ∙ ap (λ (y : Mark). y.ended) same ∙ mapped in cc
    go rest true is false e = rw e (omega (arith, count_without n xs))
    go rest false is true e = rw e (rest is)
    go rest false is false e = rw e (omega (arith, rest is))

-- no more are once one has ended
count_ended : (n : ℕ) (marks : List Mark) → mapped_count (map (mark_changed n with_end) marks) ≤ mapped_count marks
count_ended n [] = omega arith
count_ended n (m ∷ ms) = go (count_ended n ms) (m.block == n) m.ended refl
  where
    go : mapped_count (map (mark_changed n with_end) ms) ≤ mapped_count ms → (t e : Bool) → m.ended ≡ e → mapped_count (cond t (with_end m) m ∷ map (mark_changed n with_end) ms) ≤ mapped_count (m ∷ ms)
    go rest true true is = rw is rest
    go rest true false is = rw is (omega (arith, rest))
    go rest false true is = rw is rest
    go rest false false is = rw is (omega (arith, rest))

-- and fewer once a mapped one has
count_fallen : (n : ℕ) (marks : List Mark) (m : Mark) → mark_numbered n marks ≡ Some m → m.ended ≡ false → mapped_count (map (mark_changed n with_end) marks) + 1 ≤ mapped_count marks
count_fallen n [] m found mapped = cc
count_fallen n (x ∷ xs) m found mapped = go (λ is. count_fallen n xs m is mapped) (x.block == n) found x.ended refl
  where
    go : (mark_numbered n xs ≡ Some m → mapped_count (map (mark_changed n with_end) xs) + 1 ≤ mapped_count xs) → (t : Bool) → cond t (Some x) (mark_numbered n xs) ≡ Some m → (e : Bool) → x.ended ≡ e → mapped_count (cond t (with_end x) x ∷ map (mark_changed n with_end) xs) + 1 ≤ mapped_count (x ∷ xs)
    go rest true is true e = let same : x ≡ m = cc in let no : true ≡ false = sym e ∙ ap (λ (y : Mark). y.ended) same ∙ mapped in cc
    go rest true is false e = rw e (omega (arith, count_ended n xs))
    go rest false is true e = rw e (rest is)
    go rest false is false e = rw e (omega (arith, rest is))

-- ---- what is kept after a change

-- nothing changed that counts
pub ended_same : (e d : EndedState) (blocks blocks' : List Block) (marks marks' : List Mark) (births : ℕ) → AreEndedKept e blocks marks births → d.entries ≡ e.entries → d.mapped ≡ e.mapped → blocks' ≡ blocks → marks' ≡ marks → AreEndedKept d blocks' marks' births
ended_same e d blocks blocks' marks marks' births k entries mapped bs ms = record {
  agrees = λ place. ap (number_kept place) entries ∙ k.agrees place ∙ rw (bs, ms) refl;
  counted = rw ms (omega (arith, k.counted, mapped));
  few = omega (arith, k.few, mapped);
}

-- another block is born
pub ended_born : (e d : EndedState) (blocks : List Block) (marks : List Mark) (births : ℕ) (b : Block) → AreEndedKept e blocks marks births → AllByRecursion (λ m. m.block ≤ births) marks → b.number ≡ births + 1
    → d.entries ≡ e.entries → d.mapped ≡ e.mapped + 1 → AreEndedKept d (blocks ++ b ∷ []) (marks ++ new_mark (births + 1) ∷ []) (births + 1)
ended_born e d blocks marks births b k below number entries mapped = record {
  agrees = λ place. ap (number_kept place) entries ∙ k.agrees place ∙ sym (marked (block_placed place (blocks ++ b ∷ [])) ∙ pushed place blocks);
  counted = omega (arith, k.counted, mapped, count-push (births + 1) marks);
  few = omega (arith, k.few, mapped);
}
  where
    marked : (o : Option Block) → ended_number (marks ++ new_mark (births + 1) ∷ []) o ≡ ended_number marks o
    marked None = refl
    marked (Some c) = ap (λ t. cond t (Some c.number) None) (ended-push c.number (births + 1) marks)

    not_ended : is_ended_at b.number marks ≡ false
    not_ended = unmarked b.number marks (AllByRecursion-weaker (λ (m : Mark). m.block ≤ births) (λ m. m.block ≡ b.number → ⊥) marks (λ m le same. omega arith) below)

    pushed : (place : ℕ) (bs : List Block) → ended_number marks (block_placed place (bs ++ b ∷ [])) ≡ ended_number marks (block_placed place bs)
    pushed place [] = elim (b.place == place) as (λ t. ended_number marks (cond t (Some b) None) ≡ None) [ true ↦ rw not_ended refl | false ↦ refl ]
    pushed place (c ∷ cs) = go (pushed place cs) (c.place == place)
      where
        go : ended_number marks (block_placed place (cs ++ b ∷ [])) ≡ ended_number marks (block_placed place cs) → (t : Bool) → ended_number marks (cond t (Some c) (block_placed place (cs ++ b ∷ []))) ≡ ended_number marks (cond t (Some c) (block_placed place cs))
        go rest true = refl
        go rest false = rest

-- the number of transfers that name a block changes
pub ended_pinned : (e : EndedState) (blocks : List Block) (marks : List Mark) (births n pins : ℕ) → AreEndedKept e blocks marks births → AreEndedKept e blocks (map (mark_changed n (with_pins pins)) marks) births
ended_pinned e blocks marks births n pins k = record {
  agrees = λ place. k.agrees place ∙ sym (marked (block_placed place blocks));
  counted = omega (arith, k.counted, count-pinned n pins marks);
  few = k.few;
}
  where
    marked : (o : Option Block) → ended_number (map (mark_changed n (with_pins pins)) marks) o ≡ ended_number marks o
    marked None = refl
    marked (Some c) = ap (λ t. cond t (Some c.number) None) (ended-pinned n c.number pins marks)

-- the number of a block that is found at a place other than that of a block is another one
other_number : (n place : ℕ) (blocks : List Block) (b c : Block) → AreOwn blocks → block_at n blocks ≡ Some b → block_placed place blocks ≡ Some c → (b.place == place) ≡ false → (c.number == n) ≡ false
other_number n place blocks b c own found there other =
    let h = found_has (λ (x : Block). (x.number == n) ≡ (x.place == b.place)) (λ x. x.place == place) blocks c (same_tests n blocks b own found) there in
    let at_place = h.1 in
    let differs : (c.place == b.place) ≡ false = grind (arith, nat_tests) in
    h.0 ∙ differs

-- a block with its mark, and whether its mapping has ended
pub record IsFound (n : ℕ) (blocks : List Block) (marks : List Mark) (b : Block) (over : Bool) : Type 0 where
  pub own : AreOwn blocks
  pub block : block_at n blocks ≡ Some b
  pub mark : Mark
  pub marked : mark_numbered n marks ≡ Some mark
  pub ended : mark.ended ≡ over

-- each block has a mark
pub found_in : (n : ℕ) (blocks : List Block) (marks : List Mark) (b : Block) (over : Bool) → AreOwn blocks → AllZip IsMarkOf marks blocks → block_at n blocks ≡ Some b → is_ended_at n marks ≡ over → IsFound n blocks marks b over
found_in n blocks marks b over own zipped found is =
    let there = has_mark marks blocks zipped found in
    record { own = own; block = found; mark = there.0; marked = there.1; ended = sym (ap ended_in there.1) ∙ is }
  where
    has_mark : (ms : List Mark) (bs : List Block) → AllZip IsMarkOf ms bs → block_at n bs ≡ Some b → (m : Mark) × (mark_numbered n ms ≡ Some m)
    has_mark ms [] z f = let no : None ≡ Some b = f in cc
    has_mark [] (c ∷ cs) z f = absurd z
    has_mark (m ∷ ms) (c ∷ cs) z f = go (has_mark ms cs z.1) (c.number == n) refl f
      where
        go : (block_at n cs ≡ Some b → (x : Mark) × (mark_numbered n ms ≡ Some x)) → (t : Bool) → (c.number == n) ≡ t → cond t (Some c) (block_at n cs) ≡ Some b → (x : Mark) × (cond (m.block == n) (Some m) (mark_numbered n ms) ≡ Some x)
        go rest true t e = let same : (m.block == n) ≡ true = ap (λ (k : ℕ). k == n) z.0 ∙ t in (m, rw same refl)
        go rest false t e = let same : (m.block == n) ≡ false = ap (λ (k : ℕ). k == n) z.0 ∙ t in let found_later = rest e in (found_later.0, rw same found_later.1)

-- no place of a mapped block is kept
pub not_kept : (e : EndedState) (blocks : List Block) (marks : List Mark) (births n : ℕ) (b : Block) → AreEndedKept e blocks marks births → IsFound n blocks marks b false → at_key b.place e.entries ≡ None
not_kept e blocks marks births n b k f =
    let mapped : is_ended_at n marks ≡ false = ap ended_in f.marked ∙ f.ended in
    from_none (λ x. x.value) (at_key b.place e.entries)
    (k.agrees b.place ∙ ap (ended_number marks) (at_its_place n blocks b f.own f.block) ∙ ap (λ (j : ℕ). cond (is_ended_at j marks) (Some b.number) None) (number_is n blocks b f.own f.block) ∙ rw mapped refl)

-- and that of one that has ended is
pub kept_there : (e : EndedState) (blocks : List Block) (marks : List Mark) (births n : ℕ) (b : Block) → AreEndedKept e blocks marks births → IsFound n blocks marks b true → IsSome (at_key b.place e.entries)
kept_there e blocks marks births n b k f =
    let ended : is_ended_at n marks ≡ true = ap ended_in f.marked ∙ f.ended in
    let kept : number_kept b.place e.entries ≡ Some n = k.agrees b.place ∙ ap (ended_number marks) (at_its_place n blocks b f.own f.block) ∙ ap (λ (j : ℕ). cond (is_ended_at j marks) (Some j) None) (number_is n blocks b f.own f.block) ∙ rw ended refl in
    from_some (λ x. x.value) (at_key b.place e.entries) (rw kept refl)

-- a mapped block is counted
pub counted_there : (e : EndedState) (blocks : List Block) (marks : List Mark) (births n : ℕ) (b : Block) → AreEndedKept e blocks marks births → IsFound n blocks marks b false → 1 ≤ e.mapped
counted_there e blocks marks births n b k f = omega (arith, k.counted, count_less n marks f.mark f.marked f.ended)

-- the mapping of a block ends
pub ended_now : (e d : EndedState) (blocks : List Block) (marks : List Mark) (births n : ℕ) (b : Block) → AreEndedKept e blocks marks births → IsFound n blocks marks b false
    → d.entries ≡ with_entry (record { key = b.place; value = n }) e.entries → d.mapped + 1 ≡ e.mapped → AreEndedKept d blocks (map (mark_changed n with_end) marks) births
ended_now e d blocks marks births n b k f entries count = record {
  agrees = λ place. ap (number_kept place) entries ∙ ap (option_map (λ x. x.value)) (at-with_entry new e.entries place absent) ∙ agrees place (b.place == place) refl;
  counted = omega (arith, k.counted, count, count_fallen n marks f.mark f.marked f.ended);
  few = omega (arith, k.few, count);
}
  where
    new : KeyValue ℕ
    new = record { key = b.place; value = n }

    absent : at_key b.place e.entries ≡ None
    absent = not_kept e blocks marks births n b k f

    agrees : (place : ℕ) (t : Bool) → (b.place == place) ≡ t → option_map (λ x. x.value) (cond t (Some new) (at_key place e.entries)) ≡ ended_number (map (mark_changed n with_end) marks) (block_placed place blocks)
    agrees place true is =
        sym (ap (λ q. ended_number (map (mark_changed n with_end) marks) (block_placed q blocks)) (sym (equal b.place place is))
        ∙ ap (ended_number (map (mark_changed n with_end) marks)) (at_its_place n blocks b f.own f.block)
        ∙ ap (λ (j : ℕ). cond (is_ended_at j (map (mark_changed n with_end) marks)) (Some j) None) (number_is n blocks b f.own f.block)
        ∙ rw (ended_then n marks f.mark f.marked) refl)
    agrees place false is = k.agrees place ∙ sym (elsewhere (block_placed place blocks) refl)
      where
        elsewhere : (o : Option Block) → block_placed place blocks ≡ o → ended_number (map (mark_changed n with_end) marks) o ≡ ended_number marks o
        elsewhere None there = refl
        elsewhere (Some c) there = ap (λ t. cond t (Some c.number) None) (ended-changed n c.number with_end marks (λ x. refl) (other_number n place blocks b c f.own f.block there is))

-- a block is given back
pub ended_left : (e d : EndedState) (blocks : List Block) (marks : List Mark) (births n : ℕ) (b : Block) (over : Bool) → AreEndedKept e blocks marks births → IsFound n blocks marks b over
    → d.entries ≡ cond over (without_key b.place e.entries) e.entries → d.mapped + cond over 0 1 ≡ e.mapped → AreEndedKept d (without_block n blocks) (without_mark n marks) births
ended_left e d blocks marks births n b over k f entries count = record {
  agrees = λ place. ap (number_kept place) entries ∙ agrees place (b.place == place) refl over f ∙ sym (ap (ended_number (without_mark n marks)) (placed-without n place blocks b f.own f.block));
  counted = counted over f count;
  few = few over count;
}
  where
    counted : (o : Bool) → IsFound n blocks marks b o → d.mapped + cond o 0 1 ≡ e.mapped → mapped_count (without_mark n marks) ≤ d.mapped
    counted true g fall = omega (arith, k.counted, fall, count_without n marks)
    counted false g fall = omega (arith, k.counted, fall, count_less n marks g.mark g.marked g.ended)

    few : (o : Bool) → d.mapped + cond o 0 1 ≡ e.mapped → d.mapped ≤ births
    few true fall = omega (arith, k.few, fall)
    few false fall = omega (arith, k.few, fall)

    elsewhere : (place : ℕ) (o : Option Block) → (b.place == place) ≡ false → block_placed place blocks ≡ o → ended_number (without_mark n marks) o ≡ ended_number marks o
    elsewhere place None other there = refl
    elsewhere place (Some c) other there = ap (λ t. cond t (Some c.number) None) (ended-without n c.number marks (other_number n place blocks b c f.own f.block there other))

    agrees : (place : ℕ) (t : Bool) → (b.place == place) ≡ t → (o : Bool) → IsFound n blocks marks b o → number_kept place (cond o (without_key b.place e.entries) e.entries) ≡ ended_number (without_mark n marks) (cond (b.place == place) None (block_placed place blocks))
    agrees place true here true g = rw here (let none : at_key place (without_key b.place e.entries) ≡ None = at-without_key b.place place e.entries ∙ rw here refl in ap (option_map (λ (x : KeyValue ℕ). x.value)) none)
    agrees place true here false g = rw here (let none : at_key place e.entries ≡ None = subst (λ (q : ℕ). at_key q e.entries ≡ None) (equal b.place place here) (not_kept e blocks marks births n b k g) in ap (option_map (λ (x : KeyValue ℕ). x.value)) none)
    agrees place false other true g = rw other (let left : at_key place (without_key b.place e.entries) ≡ at_key place e.entries = at-without_key b.place place e.entries ∙ rw other refl in ap (option_map (λ (x : KeyValue ℕ). x.value)) left ∙ k.agrees place ∙ sym (elsewhere place (block_placed place blocks) other refl))
    agrees place false other false g = rw other (k.agrees place ∙ sym (elsewhere place (block_placed place blocks) other refl))

-- ---- the next block that has ended

lowest_has : (P : Block → Type 0) (bs : List Block) (c : Block) → AllByRecursion P bs → lowest bs ≡ Some c → P c
lowest_has P [] c h is = cc
lowest_has P (b ∷ bs) c h is = go (lowest bs) refl (λ d. lowest_has P bs d h.1) is
  where
    pick : (d : Block) (t : Bool) → P d → Some (cond t b d) ≡ Some c → P c
    pick d true p s = subst P (same_Some b c s) h.0
    pick d false p s = subst P (same_Some d c s) p

    go : (o : Option Block) → lowest bs ≡ o → ((d : Block) → lowest bs ≡ Some d → P d) → Some (lower b o) ≡ Some c → P c
    go None e rest s = subst P (same_Some b c s) h.0
    go (Some d) e rest s = pick d (nat_le b.place d.place) (rest d e) s

-- a block that is found at the least place is the lowest
lowest_is : (bs : List Block) (b : Block) → block_placed b.place bs ≡ Some b → AllByRecursion (λ c. b.place ≤ c.place) bs → lowest bs ≡ Some b
lowest_is [] b found least = cc
lowest_is (x ∷ xs) b found least = go (λ is. lowest_is xs b is least.1) (x.place == b.place) refl found
  where
    go : (block_placed b.place xs ≡ Some b → lowest xs ≡ Some b) → (t : Bool) → (x.place == b.place) ≡ t → cond t (Some x) (block_placed b.place xs) ≡ Some b → Some (lower x (lowest xs)) ≡ Some b
    go rest true t is = let same : x ≡ b = cc in first (lowest xs) refl same
      where
        first : (o : Option Block) → lowest xs ≡ o → x ≡ b → Some (lower x o) ≡ Some b
        first None e same = ap Some same
        first (Some c) e same =
            let le : b.place ≤ c.place = lowest_has (λ (y : Block). b.place ≤ y.place) xs c least.1 e in
            let up : nat_le x.place c.place ≡ true = rw same (let up : nat_le b.place c.place ≡ true = grind (arith, nat_tests) in up) in
            rw up (ap Some same)
    go rest false t is =
        let low = least.0 in
        let above : nat_le x.place b.place ≡ false = grind (arith, nat_tests) in
        ap (λ (o : Option Block). Some (lower x o)) (rest is) ∙ rw above refl

-- a block that passes a test is still found among those that do
found_filtered : (p q : Block → Bool) (bs : List Block) (b : Block) → find q bs ≡ Some b → p b ≡ true → find q (filter p bs) ≡ Some b
found_filtered p q [] b found passes = cc
found_filtered p q (x ∷ xs) b found passes = go (λ is. found_filtered p q xs b is passes) (q x) refl found (p x) refl
  where
    go : (find q xs ≡ Some b → find q (filter p xs) ≡ Some b) → (t : Bool) → q x ≡ t → cond t (Some x) (find q xs) ≡ Some b → (s : Bool) → p x ≡ s → find q (cond s (x ∷ filter p xs) (filter p xs)) ≡ Some b
    go rest true t is true s = rw t is
    go rest true t is false s = let same : x ≡ b = cc in let no : false ≡ true = sym s ∙ ap p same ∙ passes in cc
    go rest false t is true s = rw t (rest is)
    go rest false t is false s = rest is

-- the test of a block that has ended, and lies at or above a device address
abbrev passes_from : ℕ → List Mark → Block → Bool
passes_from from marks b = is_ended_at b.number marks && nat_le from b.place

-- the block of a number is the lowest that has ended, or there is none
abbrev pub IsNextEnded : ℕ → List Mark → List Block → Option ℕ → Type 0
IsNextEnded from marks blocks None = lowest_ended from marks blocks ≡ None
IsNextEnded from marks blocks (Some n) = (b : Block) × (block_at n blocks ≡ Some b) × (lowest_ended from marks blocks ≡ Some (ended_told marks b))

pub next_ended : (e : EndedState) (blocks : List Block) (marks : List Mark) (births from : ℕ) (o : Option ℕ) → AreEndedKept e blocks marks births → AreOwn blocks → KeysRise e.entries → o ≡ option_map (λ x. x.value) (first_from from e.entries) → IsNextEnded from marks blocks o
next_ended e blocks marks births from o k own rise is = rw is (go (first_from from e.entries) refl)
  where
    -- the entry of a block that has ended
    kept : (c : Block) → block_placed c.place blocks ≡ Some c → is_ended_at c.number marks ≡ true → (f : KeyValue ℕ) × (at_key c.place e.entries ≡ Some f)
    kept c there ended = pick (at_key c.place e.entries) refl (k.agrees c.place ∙ ap (ended_number marks) there ∙ rw ended refl)
      where
        pick : (a : Option (KeyValue ℕ)) → at_key c.place e.entries ≡ a → option_map (λ x. x.value) (at_key c.place e.entries) ≡ Some c.number → (f : KeyValue ℕ) × (at_key c.place e.entries ≡ Some f)
        pick None a some = let no : None ≡ Some c.number = ap (option_map (λ (x : KeyValue ℕ). x.value)) (sym a) ∙ some in cc
        pick (Some f) a some = (f, a)

    own_places : AllByRecursion (λ c. block_placed c.place blocks ≡ Some c) blocks
    own_places = at-own place_key blocks own.places

    go : (a : Option (KeyValue ℕ)) → first_from from e.entries ≡ a → IsNextEnded from marks blocks (option_map (λ x. x.value) a)
    go None none = ap (λ bs. option_map (ended_told marks) (lowest bs)) (filter-none (passes_from from marks) blocks (AllByRecursion-weaker (λ c. block_placed c.place blocks ≡ Some c) (λ c. passes_from from marks c ≡ false) blocks (λ c there. fails c there (passes_from from marks c) refl) own_places))
      where
        fails : (c : Block) → block_placed c.place blocks ≡ Some c → (t : Bool) → passes_from from marks c ≡ t → t ≡ false
        fails c there false t = refl
        fails c there true t =
            let both = and_true (is_ended_at c.number marks) (nat_le from c.place) t in
            let at_or_above = both.1 in
            let f = kept c there both.0 in
            let below = first_none from c.place e.entries f.0 none f.1 in
            absurd (grind (arith, nat_tests))
    go (Some x) found = here (block_placed x.key blocks) refl
      where
        mine : number_kept x.key e.entries ≡ Some x.value
        mine = ap (option_map (λ (y : KeyValue ℕ). y.value)) (first_own from e.entries x rise found)

        from_on : nat_le from x.key ≡ true
        from_on = let h = subst (λ (a : Option (KeyValue ℕ)). IfSome a (λ y. Contains e.entries y × (nat_le from y.key ≡ true))) found (find_passes (λ (y : KeyValue ℕ). nat_le from y.key) e.entries) in h.1

        here : (a : Option Block) → block_placed x.key blocks ≡ a → IsNextEnded from marks blocks (Some x.value)
        here None there = let no : Some x.value ≡ None = sym mine ∙ k.agrees x.key ∙ ap (ended_number marks) there in cc
        here (Some b) there = told (is_ended_at b.number marks) refl
          where
            at_x : b.place ≡ x.key
            at_x = equal b.place x.key (found_has (λ (c : Block). block_placed c.place blocks ≡ Some c) (λ c. c.place == x.key) blocks b own_places there).1

            told : (t : Bool) → is_ended_at b.number marks ≡ t → IsNextEnded from marks blocks (Some x.value)
            told false t = let no : Some x.value ≡ None = sym mine ∙ k.agrees x.key ∙ ap (ended_number marks) there ∙ rw t refl in cc
            told true t =
                let number : x.value ≡ b.number = same_Some x.value b.number (sym mine ∙ k.agrees x.key ∙ ap (ended_number marks) there ∙ rw t refl) in
                let own_place : block_placed b.place blocks ≡ Some b = ap (λ q. block_placed q blocks) at_x ∙ there in
                let on : nat_le from b.place ≡ true = ap (nat_le from) at_x ∙ from_on in
                let pass : passes_from from marks b ≡ true = rw (t, on) refl in
                let least : AllByRecursion (λ c. b.place ≤ c.place) (filter (passes_from from marks) blocks) =
                AllByRecursion-passed (λ (c : Block). block_placed c.place blocks ≡ Some c) (λ c. b.place ≤ c.place) (passes_from from marks) blocks (λ c p own_c. above c p own_c) own_places in (
                  b,
                  rw number (found_has (λ (c : Block). at number_key c.number blocks ≡ Some c) (λ c. c.place == x.key) blocks b (at-own number_key blocks own.numbers) there).0,
                  ap (option_map (ended_told marks)) (lowest_is (filter (passes_from from marks) blocks) b (found_filtered (passes_from from marks) (λ c. c.place == b.place) blocks b own_place pass) least),
                )
              where
                above : (c : Block) → passes_from from marks c ≡ true → block_placed c.place blocks ≡ Some c → b.place ≤ c.place
                above c p own_c =
                    let both = and_true (is_ended_at c.number marks) (nat_le from c.place) p in
                    let at_or_above = both.1 in
                    let le : from ≤ c.place = grind (arith, nat_tests) in
                    let f = kept c own_c both.0 in
                    omega (arith, at_x, first_least from c.place e.entries x f.0 rise found f.1 le)
