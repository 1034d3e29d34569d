-- Where a section lies, one range after the other.
use Rattle.std.proofs.Common.{ℕ, ◌≡◌, ◌+◌, ◌<◌, ◌≤◌, refl, sym, ap, ◌∙◌, subst, Bool, true, false, cond, List, [], ◌∷◌, ◌++◌, length, Option, Some, None, arith}
use Rattle.std.specs.Prelude.{◌==◌, ◌-◌, not, nat_lt, nat_le, IfSome, Contains}
use Rattle.std.specs.Option.{option_or}
use Rattle.std.specs.List.{AllByRecursion, list_all, list_any}
use Rattle.std.proofs.lemmas.Bool.Decides.{nat_tests}
use Rattle.std.proofs.lemmas.Option.{same_Some}
use Rattle.acc_base.specs.declared.items.Section.{Section}
use Rattle.acc_base.specs.declared.mappings.Range.{Range}
use Rattle.acc_base.specs.declared.mappings.Found.{Found}
use Rattle.acc_base.specs.declared.mappings.Found.TheVariants.{Inside, Partly, Absent}
use Rattle.acc_base.specs.Section.{is_empty, is_within, is_apart, end_of}
use Rattle.acc_base.specs.Ranges.{where_is, where_is_apart, without_ranges, range_around, range_from, range_of, found_in}
use Rattle.acc_base.specs.Accounts.{EachPair, IsBelow}
use Rattle.acc_base.proofs.Elements.{IfSome-weaker, find_passes, AllByRecursion-weaker, AllByRecursion-both, AllByRecursion-filter, EachPair-filter, find-none, find_none, filter-kept, filter-none, found_has, list_all-from, list_all-to, all_behind}
use Rattle.acc_base.proofs.Where.{absent_says}
use Rattle.acc_base.proofs.Lookups.{at-own}
use Rattle.acc_base.proofs.RangeChanges.{block_of}
use Rattle.acc_present.specs.Present.{AreMapped}
use Rattle.acc_present.specs.Kept.{ranges_from, IsNext}

-- one of the listed blocks is this one
abbrev pub is_listed : List ℕ → ℕ → Bool
is_listed blocks block = list_any (λ b. b == block) blocks

-- where a section that is not empty lies
pub where_is-some : (s : Section) (rs : List Range) → 0 < s.len → where_is s rs ≡ found_in s (range_around s rs) (cond (list_all (λ r. is_apart s r.section) rs) Absent Partly)
where_is-some s rs some = let t : is_empty s ≡ false = grind (arith, nat_tests) in rw t

-- a section that is apart from every range is absent
pub absent_from : (s : Section) (rs : List Range) → 0 < s.len → AllByRecursion (λ (r : Range). (0 < r.section.len) × (is_apart s r.section ≡ true)) rs → where_is s rs ≡ Absent
absent_from s rs some apart =
    let none : range_around s rs ≡ None = find-none (λ r. is_within s r.section) rs (AllByRecursion-weaker (λ (r : Range). (0 < r.section.len) × (is_apart s r.section ≡ true)) (λ r. is_within s r.section ≡ false) rs (λ r h. let l = h.0 in let a = h.1 in grind (arith, nat_tests)) apart) in
    let all : list_all (λ r. is_apart s r.section) rs ≡ true = list_all-to (λ r. is_apart s r.section) rs (AllByRecursion-weaker (λ (r : Range). (0 < r.section.len) × (is_apart s r.section ≡ true)) (λ r. is_apart s r.section ≡ true) rs (λ r h. h.1) apart) in
    where_is-some s rs some ∙ rw (none, all) refl

-- ---- the first of the ranges

-- nor one that ends before the section
pub skip_below : (s : Section) (blocks : List ℕ) (r : Range) (rs : List Range) → 0 < s.len → 0 < r.section.len → end_of r.section ≤ s.start → where_is_apart s blocks (r ∷ rs) ≡ where_is_apart s blocks rs
skip_below s blocks r rs some len below = go (is_listed blocks r.block)
  where
    out : is_within s r.section ≡ false
    out = grind (arith, nat_tests)

    apart : is_apart s r.section ≡ true
    apart = grind (arith, nat_tests)

    go : (b : Bool) → where_is s (cond (not b) (r ∷ without_ranges blocks rs) (without_ranges blocks rs)) ≡ where_is_apart s blocks rs
    go true = refl
    go false = rw (out, apart) refl

-- where the first one begins behind the section, it is absent
pub absent_before : (s : Section) (blocks : List ℕ) (r : Range) (rs : List Range) → 0 < s.len → AreMapped (r ∷ rs) → end_of s ≤ r.section.start → where_is_apart s blocks (r ∷ rs) ≡ Absent
absent_before s blocks r rs some m before =
    let later : AllByRecursion (λ (t : Range). (0 < t.section.len) × (is_apart s t.section ≡ true)) rs = AllByRecursion-both (λ (t : Range). 0 < t.section.len) (λ (t : Range). IsBelow r.section t.section) (λ (t : Range). (0 < t.section.len) × (is_apart s t.section ≡ true)) rs (λ t len below. let l : 0 < t.section.len = len in (l, grind (arith, nat_tests))) m.some.1 m.rising.0 in
    let first : is_apart s r.section ≡ true = grind (arith, nat_tests) in
    absent_from s (without_ranges blocks (r ∷ rs)) some (AllByRecursion-filter (λ (t : Range). (0 < t.section.len) × (is_apart s t.section ≡ true)) (λ t. not (is_listed blocks t.block)) (r ∷ rs) ((m.some.0, first), later))

-- one that is not listed and has some of the addresses
pub partly_first : (s : Section) (blocks : List ℕ) (r : Range) (rs : List Range) → 0 < s.len → AreMapped (r ∷ rs) → is_listed blocks r.block ≡ false → is_within s r.section ≡ false → s.start < end_of r.section → r.section.start < end_of s → where_is_apart s blocks (r ∷ rs) ≡ Partly
partly_first s blocks r rs some m free out reaches reached =
    let t : is_empty s ≡ false = grind (arith, nat_tests) in
    let touches : is_apart s r.section ≡ false = grind (arith, nat_tests) in
    let none : range_around s (without_ranges blocks rs) ≡ None = find-none (λ r. is_within s r.section) (without_ranges blocks rs) (AllByRecursion-filter (λ (t : Range). is_within s t.section ≡ false) (λ t. not (is_listed blocks t.block)) rs (AllByRecursion-weaker (λ (t : Range). IsBelow r.section t.section) (λ (t : Range). is_within s t.section ≡ false) rs (λ t below. grind (arith, nat_tests)) m.rising.0)) in
    rw free (rw (t, out, touches, none) refl)

-- ---- the ranges on both sides of an address

-- the last that begins below it
abbrev pub last_below : ℕ → List Range → Option Range
last_below k [] = None
last_below k (r ∷ rs) = option_or (last_below k rs) (cond (nat_lt r.section.start k) (Some r) None)

abbrev pub StartsRise : List Range → Type 0
StartsRise rs = EachPair (λ (r : Range) (t : Range). r.section.start < t.section.start) rs

-- mapped ranges have rising starts
pub starts_rise : (rs : List Range) → AreMapped rs → StartsRise rs
starts_rise rs m = go rs m.some m.rising
  where
    go : (rs : List Range) → AllByRecursion (λ (r : Range). 0 < r.section.len) rs → EachPair (λ (r : Range) (t : Range). IsBelow r.section t.section) rs → StartsRise rs
    go [] some rise = tt
    go (r ∷ rs) some rise =
        let len : 0 < r.section.len = some.0 in
        (AllByRecursion-weaker (λ (t : Range). IsBelow r.section t.section) (λ t. r.section.start < t.section.start) rs (λ t below. omega arith) rise.0, go rs some.1 rise.1)

-- mapped ranges stay so without the first
pub mapped_rest : (r : Range) (rs : List Range) → AreMapped (r ∷ rs) → AreMapped rs
mapped_rest r rs m = record { some = m.some.1; rising = m.rising.1; own_block = m.own_block.1 }

-- and those from an address on are mapped
pub mapped_rest_from : (k : ℕ) (rs : List Range) → AreMapped rs → AreMapped (ranges_from k rs)
mapped_rest_from k rs m = record {
  some = AllByRecursion-filter (λ (r : Range). 0 < r.section.len) (λ r. nat_le k r.section.start) rs m.some;
  rising = EachPair-filter (λ (r : Range) (t : Range). IsBelow r.section t.section) (λ r. nat_le k r.section.start) rs m.rising;
  own_block = EachPair-filter (λ (r : Range) (t : Range). r.block ≡ t.block → ⊥) (λ r. nat_le k r.section.start) rs m.own_block;
}

-- all that stand behind a range that begins at the address or behind it
all_behind_from : (k : ℕ) (r : Range) (rs : List Range) → k ≤ r.section.start → AllByRecursion (λ t. r.section.start < t.section.start) rs → ranges_from k rs ≡ rs
all_behind_from k r rs le later = filter-kept (λ t. nat_le k t.section.start) rs (AllByRecursion-weaker (λ t. r.section.start < t.section.start) (λ t. nat_le k t.section.start ≡ true) rs (λ t less. grind (arith, nat_tests)) later)

-- ---- the last range below

-- the range begins below the address, and all before it end before it
pub record IsLastBelow (k : ℕ) (rs : List Range) (r : Range) : Type 0 where
  pub front : List Range
  pub parts : rs ≡ front ++ r ∷ ranges_from k rs
  pub starts : r.section.start < k
  pub before : AllByRecursion (λ (t : Range). IsBelow t.section r.section) front
  pub mapped : AreMapped (r ∷ ranges_from k rs)

-- none begins below
none_below : (k : ℕ) (rs : List Range) → last_below k rs ≡ None → AllByRecursion (λ t. nat_le k t.section.start ≡ true) rs
none_below k [] none = tt
none_below k (r ∷ rs) none = go (λ e. none_below k rs e) (last_below k rs) refl (nat_lt r.section.start k) refl none
  where
    go : (last_below k rs ≡ None → AllByRecursion (λ t. nat_le k t.section.start ≡ true) rs) → (o : Option Range) → last_below k rs ≡ o → (b : Bool) → nat_lt r.section.start k ≡ b → option_or o (cond b (Some r) None) ≡ None → (nat_le k r.section.start ≡ true) × AllByRecursion (λ t. nat_le k t.section.start ≡ true) rs
    go rest None e true t h = cc
    go rest None e false t h = (grind (arith, nat_tests), rest e)
    go rest (Some x) e b t h = cc

pub all_from_below : (k : ℕ) (rs : List Range) → last_below k rs ≡ None → ranges_from k rs ≡ rs
all_from_below k rs none = filter-kept (λ t. nat_le k t.section.start) rs (none_below k rs none)

pub last_is : (k : ℕ) (rs : List Range) (r : Range) → AreMapped rs → last_below k rs ≡ Some r → IsLastBelow k rs r
last_is k [] r m e = cc
last_is k (x ∷ rs) r m e = go (last_is k rs r (mapped_rest x rs m)) (last_below k rs) refl (nat_lt x.section.start k) refl e
  where
    first : last_below k rs ≡ None → nat_lt x.section.start k ≡ true → x ≡ r → IsLastBelow k (x ∷ rs) r
    first none t same =
        let rest : ranges_from k rs ≡ rs = all_from_below k rs none in
        let out : nat_le k x.section.start ≡ false = grind (arith, nat_tests) in
        let from : ranges_from k (x ∷ rs) ≡ rs = rw out rest in
        rw (← same) record { front = []; parts = ap (λ ts. x ∷ ts) (sym from); starts = grind (arith, nat_tests); before = tt; mapped = subst (λ (ts : List Range). AreMapped (x ∷ ts)) (sym from) m }

    later : IsLastBelow k rs r → IsLastBelow k (x ∷ rs) r
    later l =
        let below : AllByRecursion (λ (t : Range). IsBelow x.section t.section) (l.front ++ r ∷ ranges_from k rs) = subst (λ (ts : List Range). AllByRecursion (λ (t : Range). IsBelow x.section t.section) ts) l.parts m.rising.0 in
        let last : IsBelow x.section r.section = (all_behind (λ (t : Range). IsBelow x.section t.section) l.front (r ∷ ranges_from k rs) below).0 in
        let starts = l.starts in
        let out : nat_le k x.section.start ≡ false = grind (arith, nat_tests) in
        let from : ranges_from k (x ∷ rs) ≡ ranges_from k rs = rw out refl in
        record {
          front = x ∷ l.front;
          parts = ap (λ ts. x ∷ ts) l.parts ∙ ap (λ ts. x ∷ (l.front ++ r ∷ ts)) (sym from);
          starts = l.starts;
          before = (last, l.before);
          mapped = subst (λ (ts : List Range). AreMapped (r ∷ ts)) (sym from) l.mapped;
        }

    go : (last_below k rs ≡ Some r → IsLastBelow k rs r) → (o : Option Range) → last_below k rs ≡ o → (b : Bool) → nat_lt x.section.start k ≡ b → option_or o (cond b (Some x) None) ≡ Some r → IsLastBelow k (x ∷ rs) r
    go rest None none true t h = first none t (same_Some x r h)
    go rest None none false t h = cc
    go rest (Some y) is b t h = later (rest (is ∙ h))

-- what holds of all ranges holds of the last one below an address
last_has : (P : Range → Type 0) (k : ℕ) (rs : List Range) (r : Range) → AllByRecursion P rs → last_below k rs ≡ Some r → P r
last_has P k [] r all e = cc
last_has P k (x ∷ rs) r all e = go (last_has P k rs r all.1) (last_below k rs) refl (nat_lt x.section.start k) e
  where
    go : (last_below k rs ≡ Some r → P r) → (o : Option Range) → last_below k rs ≡ o → (b : Bool) → option_or o (cond b (Some x) None) ≡ Some r → P r
    go rest None none true h = subst P (same_Some x r h) all.0
    go rest None none false h = cc
    go rest (Some y) is b h = rest (is ∙ h)

-- and it is the range of its block
pub last_own : (k : ℕ) (rs : List Range) (r : Range) → AreMapped rs → last_below k rs ≡ Some r → range_of r.block rs ≡ Some r
last_own k rs r m e = last_has (λ (t : Range). range_of t.block rs ≡ Some t) k rs r (at-own block_of rs m.own_block) e

-- ranges that end before a section say nothing of it
skip_all : (s : Section) (blocks : List ℕ) (front rs : List Range) → 0 < s.len → AllByRecursion (λ (r : Range). 0 < r.section.len) (front ++ rs) → AllByRecursion (λ (r : Range). end_of r.section ≤ s.start) front → where_is_apart s blocks (front ++ rs) ≡ where_is_apart s blocks rs
skip_all s blocks [] rs some lens ends = refl
skip_all s blocks (r ∷ front) rs some lens ends = skip_below s blocks r (front ++ rs) some lens.0 ends.0 ∙ skip_all s blocks front rs some lens.1 ends.1

-- so a search may begin at the last range below an address that is not far behind a section's first
from_last : (k : ℕ) (s : Section) (blocks : List ℕ) (rs : List Range) (r : Range) → k ≤ s.start + 1 → 0 < s.len → AreMapped rs → last_below k rs ≡ Some r → where_is_apart s blocks rs ≡ where_is_apart s blocks (r ∷ ranges_from k rs)
from_last k s blocks rs r near some m e =
    let l = last_is k rs r m e in
    let starts = l.starts in
    let lens = subst (λ (ts : List Range). AllByRecursion (λ (t : Range). 0 < t.section.len) ts) l.parts m.some in
    ap (where_is_apart s blocks) l.parts ∙ skip_all s blocks l.front (r ∷ ranges_from k rs) some lens (AllByRecursion-weaker (λ (t : Range). IsBelow t.section r.section) (λ (t : Range). end_of t.section ≤ s.start) l.front (λ t below. omega arith) l.before)

-- a range stands among others
record IsAmong (rs : List Range) (r : Range) : Type 0 where
  front : List Range
  back : List Range
  parts : rs ≡ front ++ r ∷ back

among : (b : ℕ) (rs : List Range) (r : Range) → range_of b rs ≡ Some r → IsAmong rs r
among b [] r e = cc
among b (x ∷ rs) r e = go (among b rs r) (x.block == b) refl e
  where
    go : (range_of b rs ≡ Some r → IsAmong rs r) → (t : Bool) → (x.block == b) ≡ t → cond t (Some x) (range_of b rs) ≡ Some r → IsAmong (x ∷ rs) r
    go rest true t h = record { front = []; back = rs; parts = ap (λ y. y ∷ rs) (same_Some x r h) }
    go rest false t h = let a = rest h in record { front = x ∷ a.front; back = a.back; parts = ap (λ ts. x ∷ ts) a.parts }

-- those before it end before it begins
before_ends : (front back : List Range) (r : Range) → EachPair (λ (t : Range) (u : Range). IsBelow t.section u.section) (front ++ r ∷ back) → AllByRecursion (λ (t : Range). IsBelow t.section r.section) front
before_ends [] back r rise = tt
before_ends (x ∷ front) back r rise = ((all_behind (λ (t : Range). IsBelow x.section t.section) front (r ∷ back) rise.0).0, before_ends front back r rise.1)

-- so one that is not listed and has all of the addresses says what all say
pub told_within : (s : Section) (blocks : List ℕ) (rs : List Range) (r : Range) → 0 < s.len → AreMapped rs → range_of r.block rs ≡ Some r → is_listed blocks r.block ≡ false → is_within s r.section ≡ true → Inside r.block (s.start - r.section.start) ≡ where_is_apart s blocks rs
told_within s blocks rs r some m e free inside =
    let a = among r.block rs r e in
    let lens = subst (λ (ts : List Range). AllByRecursion (λ (t : Range). 0 < t.section.len) ts) a.parts m.some in
    let rise = subst (λ (ts : List Range). EachPair (λ (t : Range) (u : Range). IsBelow t.section u.section) ts) a.parts m.rising in
    let starts : r.section.start ≤ s.start = grind (arith, nat_tests) in
    let filled : is_empty s ≡ false = grind (arith, nat_tests) in
    let first : where_is_apart s blocks (r ∷ a.back) ≡ Inside r.block (s.start - r.section.start) = rw free (rw (filled, inside) refl) in
    sym (ap (where_is_apart s blocks) a.parts
    ∙ skip_all s blocks a.front (r ∷ a.back) some lens (AllByRecursion-weaker (λ (t : Range). IsBelow t.section r.section) (λ (t : Range). end_of t.section ≤ s.start) a.front (λ t below. omega arith) (before_ends a.front a.back r rise))
    ∙ first)

-- what that one says holds of all
pub told_last : (k : ℕ) (s : Section) (blocks : List ℕ) (rs : List Range) (r : Range) (found : Found) → k ≤ s.start + 1 → 0 < s.len → AreMapped rs → last_below k rs ≡ Some r
    → ((others : List Range) → AreMapped (r ∷ others) → where_is_apart s blocks (r ∷ others) ≡ found) → found ≡ where_is_apart s blocks rs
told_last k s blocks rs r found near some m e told = sym (from_last k s blocks rs r near some m e ∙ told (ranges_from k rs) (last_is k rs r m e).mapped)

pub last_filled : (k : ℕ) (rs : List Range) (r : Range) → AreMapped rs → last_below k rs ≡ Some r → 0 < r.section.len
last_filled k rs r m e = (last_is k rs r m e).mapped.some.0

-- ---- one range after the other

-- nothing begins between an address and the first range from there on
nothing_between : (k : ℕ) (rs : List Range) (r : Range) → StartsRise rs → range_from k rs ≡ Some r → (ranges_from k rs ≡ ranges_from r.section.start rs) × (range_from r.section.start rs ≡ Some r) × (k ≤ r.section.start)
nothing_between k [] r rise e = cc
nothing_between k (x ∷ rs) r rise e = go (nothing_between k rs r rise.1) (nat_le k x.section.start) refl e
  where
    self : nat_le x.section.start x.section.start ≡ true
    self = grind (arith, nat_tests)

    go : (range_from k rs ≡ Some r → (ranges_from k rs ≡ ranges_from r.section.start rs) × (range_from r.section.start rs ≡ Some r) × (k ≤ r.section.start))
        → (b : Bool) → nat_le k x.section.start ≡ b → cond b (Some x) (range_from k rs) ≡ Some r
        → (ranges_from k (x ∷ rs) ≡ ranges_from r.section.start (x ∷ rs)) × (range_from r.section.start (x ∷ rs) ≡ Some r) × (k ≤ r.section.start)
    go rest true t h =
        let le : k ≤ x.section.start = grind (arith, nat_tests) in
        let same : x ≡ r = same_Some x r h in
        subst (λ (y : Range). (ranges_from k (x ∷ rs) ≡ ranges_from y.section.start (x ∷ rs)) × (range_from y.section.start (x ∷ rs) ≡ Some y) × (k ≤ y.section.start)) same (rw (t, self) (ap (λ ts. x ∷ ts) (all_behind_from k x rs le rise.0 ∙ sym (all_behind_from x.section.start x rs (omega arith) rise.0)), refl, le))
    go rest false t h =
        let p = rest h in
        let le = p.2 in
        let out : nat_le r.section.start x.section.start ≡ false = grind (arith, nat_tests) in
        rw (t, out) p

no_range_from : (k : ℕ) (rs : List Range) → range_from k rs ≡ None → ranges_from k rs ≡ []
no_range_from k rs none = filter-none (λ r. nat_le k r.section.start) rs (find_none (λ r. nat_le k r.section.start) rs none)

-- the first from an address on, where those from there on say what all say
pub next_is : (s : Section) (blocks : List ℕ) (rs : List Range) (k : ℕ) → 0 < s.len → AreMapped rs → where_is_apart s blocks rs ≡ where_is_apart s blocks (ranges_from k rs) → IsNext s blocks rs (range_from k rs)
next_is s blocks rs k some m same = go (range_from k rs) refl
  where
    go : (o : Option Range) → range_from k rs ≡ o → IsNext s blocks rs o
    go None e = same ∙ ap (where_is_apart s blocks) (no_range_from k rs e) ∙ absent_from s [] some tt
    go (Some r) e = let p = nothing_between k rs r (starts_rise rs m) e in (p.1, same ∙ ap (where_is_apart s blocks) p.0)

-- that one does not begin below
pub from_behind : (start k : ℕ) (rs : List Range) → start ≤ k → IfSome (range_from k rs) (λ (r : Range). start ≤ r.section.start)
from_behind start k rs le = IfSome-weaker (λ (r : Range). Contains rs r × (nat_le k r.section.start ≡ true)) (λ (r : Range). start ≤ r.section.start) (range_from k rs) (λ r h. let t = h.1 in grind (arith, nat_tests)) (find_passes (λ (r : Range). nat_le k r.section.start) rs)

-- the ranges from a range's start on are that range and those behind it
pub rest_parts : (rs : List Range) (r : Range) → StartsRise rs → range_from r.section.start rs ≡ Some r → ranges_from r.section.start rs ≡ r ∷ ranges_from (r.section.start + 1) rs
rest_parts [] r rise e = cc
rest_parts (x ∷ rs) r rise e = go (rest_parts rs r rise.1) (nat_le r.section.start x.section.start) refl e
  where
    go : (range_from r.section.start rs ≡ Some r → ranges_from r.section.start rs ≡ r ∷ ranges_from (r.section.start + 1) rs)
        → (b : Bool) → nat_le r.section.start x.section.start ≡ b → cond b (Some x) (range_from r.section.start rs) ≡ Some r
        → cond b (x ∷ ranges_from r.section.start rs) (ranges_from r.section.start rs) ≡ r ∷ cond (nat_le (r.section.start + 1) x.section.start) (x ∷ ranges_from (r.section.start + 1) rs) (ranges_from (r.section.start + 1) rs)
    go rest true t h =
        let same : x ≡ r = same_Some x r h in
        let out : nat_le (x.section.start + 1) x.section.start ≡ false = grind (arith, nat_tests) in
        let behind : ranges_from (x.section.start + 1) rs ≡ rs = filter-kept (λ y. nat_le (x.section.start + 1) y.section.start) rs (AllByRecursion-weaker (λ y. x.section.start < y.section.start) (λ y. nat_le (x.section.start + 1) y.section.start ≡ true) rs (λ y less. grind (arith, nat_tests)) rise.0) in
        rw (← same) (rw out (ap (λ ts. x ∷ ts) (all_behind_from x.section.start x rs (omega arith) rise.0 ∙ sym behind)))
    go rest false t h =
        let out : nat_le (r.section.start + 1) x.section.start ≡ false = grind (arith, nat_tests) in
        rw out (rest h)

-- where no range begins below an address
pub no_last : (k : ℕ) (s : Section) (blocks : List ℕ) (rs : List Range) → 0 < s.len → AreMapped rs → last_below k rs ≡ None → IsNext s blocks rs (range_from k rs)
no_last k s blocks rs some m none = next_is s blocks rs k some m (ap (where_is_apart s blocks) (sym (all_from_below k rs none)))

-- or the last of them says nothing
pub silent_last : (k : ℕ) (s : Section) (blocks : List ℕ) (rs : List Range) (r : Range) → k ≤ s.start + 1 → 0 < s.len → AreMapped rs → last_below k rs ≡ Some r
    → ((others : List Range) → where_is_apart s blocks (r ∷ others) ≡ where_is_apart s blocks others) → IsNext s blocks rs (range_from k rs)
silent_last k s blocks rs r near some m e silent = next_is s blocks rs k some m (from_last k s blocks rs r near some m e ∙ silent (ranges_from k rs))

-- what the next one says holds of all
pub told_next : (s : Section) (blocks : List ℕ) (rs : List Range) (r : Range) (found : Found) → AreMapped rs → IsNext s blocks rs (Some r)
    → ((others : List Range) → AreMapped (r ∷ others) → where_is_apart s blocks (r ∷ others) ≡ found) → found ≡ where_is_apart s blocks rs
told_next s blocks rs r found m n told =
    let parts = rest_parts rs r (starts_rise rs m) n.0 in
    sym (n.1 ∙ ap (where_is_apart s blocks) parts ∙ told (ranges_from (r.section.start + 1) rs) (subst (λ (ts : List Range). AreMapped ts) parts (mapped_rest_from r.section.start rs m)))

-- where it says nothing, those behind it say what all say
pub silent_next : (s : Section) (blocks : List ℕ) (rs : List Range) (r : Range) → 0 < s.len → AreMapped rs → IsNext s blocks rs (Some r)
    → ((others : List Range) → where_is_apart s blocks (r ∷ others) ≡ where_is_apart s blocks others) → IsNext s blocks rs (range_from (r.section.start + 1) rs)
silent_next s blocks rs r some m n silent = next_is s blocks rs (r.section.start + 1) some m (n.1 ∙ ap (where_is_apart s blocks) (rest_parts rs r (starts_rise rs m) n.0) ∙ silent (ranges_from (r.section.start + 1) rs))

pub next_filled : (s : Section) (blocks : List ℕ) (rs : List Range) (r : Range) → AreMapped rs → IsNext s blocks rs (Some r) → 0 < r.section.len
next_filled s blocks rs r m n = (found_has (λ (t : Range). 0 < t.section.len) (λ t. nat_le r.section.start t.section.start) rs r m.some n.0).0

-- the next one is the range of its block
pub next_own : (s : Section) (blocks : List ℕ) (rs : List Range) (r : Range) → AreMapped rs → IsNext s blocks rs (Some r) → range_of r.block rs ≡ Some r
next_own s blocks rs r m n = (found_has (λ (t : Range). range_of t.block rs ≡ Some t) (λ t. nat_le r.section.start t.section.start) rs r (at-own block_of rs m.own_block) n.0).0

-- how many are left
abbrev pub ranges_left : Option Range → List Range → ℕ
ranges_left None rs = 0
ranges_left (Some r) rs = length (ranges_from r.section.start rs)

-- each step leaves fewer
pub left_less : (s : Section) (blocks : List ℕ) (rs : List Range) (r : Range) → AreMapped rs → IsNext s blocks rs (Some r) → ranges_left (range_from (r.section.start + 1) rs) rs < ranges_left (Some r) rs
left_less s blocks rs r m n = let parts = ap (λ (ts : List Range). length ts) (rest_parts rs r (starts_rise rs m) n.0) in go (range_from (r.section.start + 1) rs) refl parts
  where
    go : (o : Option Range) → range_from (r.section.start + 1) rs ≡ o → length (ranges_from r.section.start rs) ≡ length (r ∷ ranges_from (r.section.start + 1) rs) → ranges_left o rs < length (ranges_from r.section.start rs)
    go None e parts = omega arith
    go (Some t) e parts = let p = ap (λ (ts : List Range). length ts) (nothing_between (r.section.start + 1) rs t (starts_rise rs m) e).0 in omega arith

-- with no block listed every range counts
without_none : (rs : List Range) → without_ranges [] rs ≡ rs
without_none [] = refl
without_none (r ∷ rs) = ap (λ ts. r ∷ ts) (without_none rs)

pub apart_from_none : (s : Section) (rs : List Range) → where_is_apart s [] rs ≡ where_is s rs
apart_from_none s rs = ap (where_is s) (without_none rs)

-- so where the next one begins at the section's start or behind it, and says nothing, the section is absent
pub silent_absent : (s : Section) (rs : List Range) (r : Range) → 0 < s.len → AreMapped rs → IsNext s [] rs (Some r) → s.start ≤ r.section.start
    → ((others : List Range) → where_is_apart s [] (r ∷ others) ≡ where_is_apart s [] others) → where_is s rs ≡ Absent
silent_absent s rs r some m n behind silent =
    let parts = rest_parts rs r (starts_rise rs m) n.0 in
    let mapped : AreMapped (r ∷ ranges_from (r.section.start + 1) rs) = subst (λ (ts : List Range). AreMapped ts) parts (mapped_rest_from r.section.start rs m) in
    let len : 0 < r.section.len = mapped.some.0 in
    let alone : where_is s (r ∷ []) ≡ Absent = silent [] ∙ absent_from s [] some tt in
    let apart : is_apart s r.section ≡ true = (list_all-from (λ (t : Range). is_apart s t.section) (r ∷ []) (absent_says s (r ∷ []) alone).0).0 in
    let before : end_of s ≤ r.section.start = grind (arith, nat_tests) in
    sym (apart_from_none s rs) ∙ n.1 ∙ ap (where_is_apart s []) parts ∙ absent_before s [] r (ranges_from (r.section.start + 1) rs) some mapped before
