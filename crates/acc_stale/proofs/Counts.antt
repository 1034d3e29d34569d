-- An account after each change: what it says of a block, and of a pointer.
use Rattle.std.proofs.Common.{Vec, Global, Option, ◌≡◌, ◌≢◌, ℕ, suc, ◌<◌, ◌≤◌, ◌+◌, ◌^◌, Bool, true, false, ◌&&◌, ◌==◌, not, cond, List, [], ◌∷◌, map, length, reverse, get_or, Some, None, unwrap_or, option_map, refl, sym, ap, ap₂, subst, ◌∙◌, arith}
use Rattle.std.specs.Prelude.{nat_lt}
use Rattle.std.specs.List.{find, position, position_or_len, remove, slice_get, AllByRecursion}
use Rattle.std.specs.List.Sorted.{IsStrictlySortedBy}
use Rattle.std.specs.Map.{lookup, keys_of, remove_entry}
use Rattle.std.specs.BTreeMap.{get, is_at, insert_entry, UpdatesBy}
use Rattle.std.specs.declared.cmp.Ordering.{Ordering}
use Rattle.std.specs.declared.cmp.Ordering.TheVariants.{Less, Equal, Greater}
use Rattle.std.specs.Ordering.{nat_cmp, ordering_then, is_eq, match_ordering}
use Rattle.std.proofs.lemmas.Bool.Decides.{nat_tests}
use Rattle.std.proofs.lemmas.Map.Lookups.{exact_unsigned}
use Rattle.std.proofs.lemmas.Option.{same_Some, slice_get_past, slice_get-get_or}
use Rattle.std.proofs.lemmas.List.Folds.{find_at}
use Rattle.acc_base.specs.declared.attachments.Attachment.{Attachment}
use Rattle.acc_base.specs.Attachments.{is_of, is_before, count_at, with_attachment, without_attachment}
use Rattle.acc_base.specs.declared.events.Did.{Did}
use Rattle.acc_base.specs.declared.events.Event.{Event}
use Rattle.acc_base.specs.declared.events.Event.TheVariants.{Left}
use Rattle.acc_base.specs.declared.mappings.Range.{Range}
use Rattle.acc_base.specs.declared.tasks.Task.{Task}
use Rattle.acc_base.specs.Ranges.{bare_range}
use Rattle.acc_base.specs.Tasks.{recounted as recounted_by}
use Rattle.acc_stale.specs.declared.accounts.Block.{Block}
use Rattle.acc_stale.specs.declared.accounts.Waiting.{Waiting}
use Rattle.acc_stale.specs.declared.accounts.Account.{Account}
use Rattle.acc_stale.specs.Accounts.{ToldBlock, asked_by, by_number, counted, told_of, told_at, attached_at, IsChanged, IsCountKept, CanCount, with_range_told, recounted, IsRecounted, without_first, IsRegionChanged}

-- ---- a block

same_number : (x y : ℕ) → nat_cmp x y ≡ Equal → (y == x) ≡ true
same_number x y e = let is : x ≡ y = exact_unsigned x y e in grind (arith, nat_tests, is)

-- another block stands at another key
apart : (d block e b : ℕ) → (e == d && b == block) ≡ false → is_at (by_number (d, block)) (e, b) ≡ false
apart d block e b other = go (nat_cmp d e) refl (nat_cmp block b) refl
  where
    go : (x : Ordering) → nat_cmp d e ≡ x → (y : Ordering) → nat_cmp block b ≡ y → is_eq (ordering_then x y) ≡ false
    go Less f y g = refl
    go Greater f y g = refl
    go Equal f Less g = refl
    go Equal f Greater g = refl
    go Equal f Equal g =
        let first : (e == d) ≡ true = same_number d e f in
        let second : (b == block) ≡ true = same_number block b g in
        cc

-- a block is written
written : (d block : ℕ) (old new : Account) (now : Block) → UpdatesBy by_number (by_number (d, block)) old.blocks new.blocks (Some now) → new.waiting ≡ old.waiting → IsChanged d block (Some (told_of block now)) old new
written d block old new now updates waiting = record {
  here = ap (option_map (told_of block)) updates.1;
  others = λ e b other. ap (option_map (told_of b)) (updates.2 (e, b) (apart d block e b other));
  waiting = waiting;
}

-- a block is new, and has no pointers
pub born_told : (d block : ℕ) (old new : Account) (now : Block) → UpdatesBy by_number (by_number (d, block)) old.blocks new.blocks (Some now) → new.waiting ≡ old.waiting → now.pointers.entries ≡ [] → IsChanged d block (Some (record { held = now.held; attached = [] })) old new
born_told d block old new now updates waiting none =
    subst (λ (xs : List Attachment). IsChanged d block (Some (record { held = now.held; attached = xs })) old new) (ap (map (counted block)) none) (written d block old new now updates waiting)

-- with other counters
pub rewritten_block : (d block pointer count : ℕ) (old new : Account) (was now : Block) → get by_number old.blocks (d, block) ≡ Some was → UpdatesBy by_number (by_number (d, block)) old.blocks new.blocks (Some now) → new.waiting ≡ old.waiting
    → told_of block now ≡ recounted block pointer count (told_of block was) → IsRecounted d block pointer count old new
rewritten_block d block pointer count old new was now there updates waiting is =
    subst (λ t. IsChanged d block t old new) (ap Some is ∙ sym (ap (λ o. option_map (recounted block pointer count) (option_map (told_of block) o)) there)) (written d block old new now updates waiting)

-- with other counters of its range
pub counted_block : (d block : ℕ) (task : Task) (old new : Account) (was : Block) (range : Range) → get by_number old.blocks (d, block) ≡ Some was → UpdatesBy by_number (by_number (d, block)) old.blocks new.blocks (Some (record { held = record was.held { range = range }; pointers = was.pointers })) → new.waiting ≡ old.waiting
    → (was.held.range.structured + 1 < 2 ^ 64 → was.held.range.dynamic + 1 < 2 ^ 64 → range ≡ recounted_by task was.held.range) → IsCountKept d block task old new
counted_block d block task old new was range there updates waiting is = record {
  range = range;
  here = ap (option_map (told_of block)) updates.1 ∙ sym (ap (λ o. option_map (with_range_told range) (option_map (told_of block) o)) there);
  counted = λ t e can.
      let same : told_of block was ≡ t = same_Some _ _ (sym (ap (option_map (told_of block)) there) ∙ e) in
      subst (λ (x : ToldBlock). CanCount x.held.range → range ≡ recounted_by task x.held.range) same (λ h. is h.0 h.1) can;
  others = λ e b other. ap (option_map (told_of b)) (updates.2 (e, b) (apart d block e b other));
  waiting = waiting;
}

pub held_there : (block : ℕ) (o : Option Block) (b : Block) → o ≡ Some b → option_map (λ (t : ToldBlock). t.held) (option_map (told_of block) o) ≡ Some b.held
held_there block o b there = ap (λ x. option_map (λ (t : ToldBlock). t.held) (option_map (told_of block) x)) there

-- there is no such block
pub counted_none : (d block : ℕ) (task : Task) (old new : Account) → get by_number old.blocks (d, block) ≡ None → new.blocks ≡ old.blocks → new.waiting ≡ old.waiting → IsCountKept d block task old new
counted_none d block task old new none same waiting =
    let gone : told_at d block old ≡ None = ap (option_map (told_of block)) none in
    record {
      range = bare_range (record { start = 0; len = 0 }) block;
      here = ap (λ m. option_map (told_of block) (get by_number m (d, block))) same ∙ gone ∙ sym (ap (option_map (with_range_told (bare_range (record { start = 0; len = 0 }) block))) gone);
      counted = λ t e can. cc;
      others = λ e b other. ap (λ m. option_map (told_of b) (get by_number m (e, b))) same;
      waiting = waiting;
    }

-- ---- its pointers

abbrev as_attached : ℕ → List (ℕ × ℕ) → List Attachment
as_attached block es = map (counted block) es

equal_number : (x y : ℕ) → is_eq (nat_cmp x y) ≡ (y == x)
equal_number x y = grind (arith, nat_tests)

self_equal : (n : ℕ) → (n == n) ≡ true
self_equal n = grind (arith, nat_tests)

-- the test of a pointer among those of one block
of_pointer : (block pointer : ℕ) (e : ℕ × ℕ) → is_of block pointer (counted block e) ≡ is_at (nat_cmp pointer) e.0
of_pointer block pointer e = rw (self_equal block) (sym (equal_number pointer e.0))

-- how often one is attached
pub count_there : (block pointer : ℕ) (es : List (ℕ × ℕ)) → unwrap_or (lookup (is_at (nat_cmp pointer)) es) 0 ≡ count_at block pointer (as_attached block es)
count_there block pointer [] = refl
count_there block pointer (e ∷ es) = rw (of_pointer block pointer e) (go (is_at (nat_cmp pointer) e.0) (count_there block pointer es))
  where
    go : (b : Bool) → unwrap_or (lookup (is_at (nat_cmp pointer)) es) 0 ≡ count_at block pointer (as_attached block es)
        → unwrap_or (cond b (Some e.1) (lookup (is_at (nat_cmp pointer)) es)) 0 ≡ unwrap_or (option_map (λ (a : Attachment). a.count) (cond b (Some (counted block e)) (find (is_of block pointer) (as_attached block es)))) 0
    go true rest = refl
    go false rest = rest

pub attached_there : (d block : ℕ) (a : Account) (b : Block) → get by_number a.blocks (d, block) ≡ Some b → attached_at d block a ≡ as_attached block b.pointers.entries
attached_there d block a b there = ap (λ o. unwrap_or (option_map (λ (t : ToldBlock). t.attached) (option_map (told_of block) o)) []) there

-- none of these pointers is the one
kept_all : (block pointer : ℕ) (es : List (ℕ × ℕ)) → lookup (is_at (nat_cmp pointer)) es ≡ None → without_attachment block pointer (as_attached block es) ≡ as_attached block es
kept_all block pointer [] none = refl
kept_all block pointer (e ∷ es) none = rw (of_pointer block pointer e) (go (is_at (nat_cmp pointer) e.0) none (kept_all block pointer es))
  where
    go : (b : Bool) → cond b (Some e.1) (lookup (is_at (nat_cmp pointer)) es) ≡ None → (lookup (is_at (nat_cmp pointer)) es ≡ None → without_attachment block pointer (as_attached block es) ≡ as_attached block es)
        → cond (not b) (counted block e ∷ without_attachment block pointer (as_attached block es)) (without_attachment block pointer (as_attached block es)) ≡ counted block e ∷ as_attached block es
    go true h rest = cc
    go false h rest = ap (λ xs. counted block e ∷ xs) (rest h)

-- one is taken out
pub taken_out : (block pointer : ℕ) (es : List (ℕ × ℕ)) → lookup (is_at (nat_cmp pointer)) (remove_entry (is_at (nat_cmp pointer)) es) ≡ None → as_attached block (remove_entry (is_at (nat_cmp pointer)) es) ≡ without_attachment block pointer (as_attached block es)
taken_out block pointer [] none = refl
taken_out block pointer (e ∷ es) none = rw (of_pointer block pointer e) (go (is_at (nat_cmp pointer) e.0) refl none (taken_out block pointer es))
  where
    go : (b : Bool) → is_at (nat_cmp pointer) e.0 ≡ b → lookup (is_at (nat_cmp pointer)) (cond b es (e ∷ remove_entry (is_at (nat_cmp pointer)) es)) ≡ None
        → (lookup (is_at (nat_cmp pointer)) (remove_entry (is_at (nat_cmp pointer)) es) ≡ None → as_attached block (remove_entry (is_at (nat_cmp pointer)) es) ≡ without_attachment block pointer (as_attached block es))
        → as_attached block (cond b es (e ∷ remove_entry (is_at (nat_cmp pointer)) es)) ≡ cond (not b) (counted block e ∷ without_attachment block pointer (as_attached block es)) (without_attachment block pointer (as_attached block es))
    go true f h rest = sym (kept_all block pointer es h)
    go false f h rest = ap (λ xs. counted block e ∷ xs) (rest (rw f at h))

-- those behind a pointer are others
above_none : (pointer : ℕ) (es : List (ℕ × ℕ)) → AllByRecursion (λ k. nat_cmp pointer k ≡ Less) (keys_of es) → lookup (is_at (nat_cmp pointer)) es ≡ None
above_none pointer [] h = refl
above_none pointer (e ∷ es) h = rw h.0 (above_none pointer es h.1)

first_before : (block pointer count : ℕ) (e : ℕ × ℕ) → is_before (record { block = block; pointer = pointer; count = count }) (counted block e) ≡ nat_lt pointer e.0
first_before block pointer count e = let no : nat_lt block block ≡ false = grind (arith, nat_tests) in rw no (rw (self_equal block) refl)

-- one goes in before those behind it
goes_first : (block pointer count : ℕ) (es : List (ℕ × ℕ)) → AllByRecursion (λ k. nat_cmp pointer k ≡ Less) (keys_of es) → with_attachment (record { block = block; pointer = pointer; count = count }) (as_attached block es) ≡ as_attached block ((pointer, count) ∷ es)
goes_first block pointer count [] h = refl
goes_first block pointer count (e ∷ es) h =
    let less : nat_lt pointer e.0 ≡ true = grind (arith, nat_tests, h.0) in
    rw (first_before block pointer count e) (rw less refl)

behind_more : (x y : ℕ) (ks : List ℕ) → nat_cmp x y ≡ Less → AllByRecursion (λ k. nat_cmp y k ≡ Less) ks → AllByRecursion (λ k. nat_cmp x k ≡ Less) ks
behind_more x y [] h all = tt
behind_more x y (k ∷ ks) h all = (grind (arith, nat_tests, h, all.0), behind_more x y ks h all.1)

-- one is put in, or gets another count
pub put_in : (block pointer count : ℕ) (es : List (ℕ × ℕ)) → IsStrictlySortedBy nat_cmp (keys_of es) → as_attached block (insert_entry nat_cmp es pointer count) ≡ with_attachment (record { block = block; pointer = pointer; count = count }) (without_attachment block pointer (as_attached block es))
unfolding IsStrictlySortedBy
put_in block pointer count [] sorted = refl
put_in block pointer count (e ∷ es) sorted = go (nat_cmp pointer e.0) refl (put_in block pointer count es)
  where
    new : Attachment
    new = record { block = block; pointer = pointer; count = count }

    tested : (b : Bool) → is_at (nat_cmp pointer) e.0 ≡ b → is_of block pointer (counted block e) ≡ b
    tested b f = of_pointer block pointer e ∙ f

    go : (x : Ordering) → nat_cmp pointer e.0 ≡ x → (IsStrictlySortedBy nat_cmp (keys_of es) → as_attached block (insert_entry nat_cmp es pointer count) ≡ with_attachment new (without_attachment block pointer (as_attached block es)))
        → as_attached block (match_ordering x ((pointer, count) ∷ e ∷ es) ((e.0, count) ∷ es) (e ∷ insert_entry nat_cmp es pointer count)) ≡ with_attachment new (without_attachment block pointer (as_attached block (e ∷ es)))
    go Less f rest =
        let behind : AllByRecursion (λ k. nat_cmp pointer k ≡ Less) (keys_of (e ∷ es)) = (f, behind_more pointer e.0 (keys_of es) f sorted.0) in
        sym (ap (with_attachment new) (kept_all block pointer (e ∷ es) (above_none pointer (e ∷ es) behind)) ∙ goes_first block pointer count (e ∷ es) behind)
    go Equal f rest =
        let same : pointer ≡ e.0 = exact_unsigned pointer e.0 f in
        let behind : AllByRecursion (λ k. nat_cmp pointer k ≡ Less) (keys_of es) = subst (λ (p : ℕ). AllByRecursion (λ k. nat_cmp p k ≡ Less) (keys_of es)) (sym same) sorted.0 in
        rw (tested true (ap is_eq f)) (ap (λ p. as_attached block ((p, count) ∷ es)) (sym same) ∙ sym (ap (with_attachment new) (kept_all block pointer es (above_none pointer es behind)) ∙ goes_first block pointer count es behind))
    go Greater f rest =
        let more : nat_lt pointer e.0 ≡ false = grind (arith, nat_tests, f) in
        rw (tested false (ap is_eq f), first_before block pointer count e ∙ more) (ap (λ xs. counted block e ∷ xs) (rest sorted.1))

-- the count is set, to zero or not
pub count_none : (block pointer count : ℕ) (was now : Block) → now.held ≡ was.held → count ≡ 0 → as_attached block now.pointers.entries ≡ without_attachment block pointer (as_attached block was.pointers.entries) → told_of block now ≡ recounted block pointer count (told_of block was)
count_none block pointer count was now held zero is =
    let none : (count == 0) ≡ true = grind (arith, nat_tests, zero) in
    rw none (ap₂ (λ h xs. record { held = h; attached = xs }) held is)

pub count_some : (block pointer count : ℕ) (was now : Block) → now.held ≡ was.held → count ≢ 0 → as_attached block now.pointers.entries ≡ with_attachment (record { block = block; pointer = pointer; count = count }) (without_attachment block pointer (as_attached block was.pointers.entries))
    → told_of block now ≡ recounted block pointer count (told_of block was)
count_some block pointer count was now held more is =
    let some : (count == 0) ≡ false = grind (arith, nat_tests, more) in
    rw some (ap₂ (λ h xs. record { held = h; attached = xs }) held is)

-- ---- transfers that wait

add-comm-one : (n : ℕ) → 1 + n ≡ suc n
add-comm-one n = omega arith

-- without the first that passes
removed : (test : Waiting → Bool) (ws : List Waiting) → position_or_len test ws < length ws → remove ws (position_or_len test ws) ≡ without_first test ws
removed test [] h = absurd (omega arith)
removed test (w ∷ ws) h = go (test w) h (removed test ws)
  where
    go : (b : Bool) → cond (not b) (1 + position_or_len test ws) 0 < suc (length ws) → (position_or_len test ws < length ws → remove ws (position_or_len test ws) ≡ without_first test ws)
        → remove (w ∷ ws) (cond (not b) (1 + position_or_len test ws) 0) ≡ cond b ws (w ∷ without_first test ws)
    go true k rest = refl
    go false k rest = ap (λ n. remove (w ∷ ws) n) (add-comm-one (position_or_len test ws)) ∙ ap (λ xs. w ∷ xs) (rest (omega arith))

stays : (test : Waiting → Bool) (ws : List Waiting) → length ws ≤ position_or_len test ws → ws ≡ without_first test ws
stays test [] h = refl
stays test (w ∷ ws) h = go (test w) h (stays test ws)
  where
    go : (b : Bool) → suc (length ws) ≤ cond (not b) (1 + position_or_len test ws) 0 → (length ws ≤ position_or_len test ws → ws ≡ without_first test ws) → w ∷ ws ≡ cond b ws (w ∷ without_first test ws)
    go true k rest = absurd (omega arith)
    go false k rest = ap (λ xs. w ∷ xs) (rest (omega arith))

place_there : (n m i : ℕ) → cond (nat_lt n m) (Some n) None ≡ Some i → (n < m) × (n ≡ i)
place_there n m i e = go (nat_lt n m) refl e
  where
    go : (b : Bool) → nat_lt n m ≡ b → cond b (Some n) None ≡ Some i → (n < m) × (n ≡ i)
    go true f h = (grind (arith, nat_tests), cc)
    go false f h = cc

place_none : (n m : ℕ) → cond (nat_lt n m) (Some n) None ≡ None → m ≤ n
place_none n m e = go (nat_lt n m) refl e
  where
    go : (b : Bool) → nat_lt n m ≡ b → cond b (Some n) None ≡ None → m ≤ n
    go true f h = cc
    go false f h = grind (arith, nat_tests)

-- the first that passes is taken out
pub first_taken : (test : Waiting → Bool) (ws : List Waiting) (i : ℕ) → position test ws ≡ Some i → remove ws i ≡ without_first test ws
first_taken test ws i e =
    let is : (position_or_len test ws < length ws) × (position_or_len test ws ≡ i) = place_there _ _ i e in
    ap (remove ws) (sym is.1) ∙ removed test ws is.0

pub first_found : (test : Waiting → Bool) (ws : List Waiting) (i : ℕ) (w : Waiting) → position test ws ≡ Some i → w ≡ get_or ws i w → find test ws ≡ Some w
first_found test ws i w e is =
    let at : (position_or_len test ws < length ws) × (position_or_len test ws ≡ i) = place_there _ _ i e in
    find_at test ws ∙ ap (slice_get ws) at.1 ∙ slice_get-get_or ws i w (omega (arith, at.0, at.1)) ∙ ap Some (sym is)

-- none passes
pub none_taken : (test : Waiting → Bool) (ws : List Waiting) → position test ws ≡ None → (ws ≡ without_first test ws) × (find test ws ≡ None)
none_taken test ws e =
    let past : length ws ≤ position_or_len test ws = place_none _ _ e in
    (stays test ws past, find_at test ws ∙ slice_get_past ws (position_or_len test ws) past)

-- ---- a region

pub region_written : (d number : ℕ) (old new : Account) (now : Option (Vec Task Global)) → UpdatesBy by_number (by_number (d, number)) old.regions new.regions now → new.blocks ≡ old.blocks → new.waiting ≡ old.waiting
    → IsRegionChanged d number (option_map (λ (tasks : Vec Task Global). tasks.items) now) old new
region_written d number old new now updates blocks waiting = record {
  here = ap (option_map (λ (tasks : Vec Task Global). tasks.items)) updates.1;
  others = λ e n other. ap (option_map (λ (tasks : Vec Task Global). tasks.items)) (updates.2 (e, n) (apart d number e n other));
  blocks = λ e b. ap (λ m. option_map (told_of b) (get by_number m (e, b))) blocks;
  waiting = waiting;
}

-- one that was entered
pub region_opened : (d number : ℕ) (old new : Account) (tasks : Vec Task Global) (asks : List Task) → tasks.items ≡ asks → UpdatesBy by_number (by_number (d, number)) old.regions new.regions (Some tasks) → new.blocks ≡ old.blocks → new.waiting ≡ old.waiting → IsRegionChanged d number (Some asks) old new
region_opened d number old new tasks asks is updates blocks waiting = subst (λ (ts : List Task). IsRegionChanged d number (Some ts) old new) is (region_written d number old new (Some tasks) updates blocks waiting)

-- what the exit from it asks
pub asked_there : (e : Event) (d number : ℕ) (did : List Did) (a : Account) (tasks : Vec Task Global) → e ≡ Left d number did → get by_number a.regions (d, number) ≡ Some tasks → asked_by e a ≡ reverse tasks.items
asked_there e d number did a tasks is there = subst (λ (v : Event). asked_by v a ≡ reverse tasks.items) (sym is) (ap (λ (o : Option (Vec Task Global)). reverse (unwrap_or (option_map (λ (ts : Vec Task Global). ts.items) o) [])) there)
