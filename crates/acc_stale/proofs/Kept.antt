-- Marks of attached pointers, put back one pointer after the other.
use Rattle.std.proofs.Common.{◌≡◌, ◌≢◌, ℕ, ◌+◌, ◌-◌, ◌<◌, ◌≤◌, min, Bool, true, false, ◌&&◌, ◌||◌, if◌then◌else◌, ◌==◌, nat_le, nat_lt, List, [], ◌∷◌, length, get_or, set, take, refl, sym, ap, ◌∙◌, inl, inr, arith}
use Rattle.std.specs.List.{list_any}
use Rattle.std.proofs.lemmas.Bool.{cases_order}
use Rattle.std.proofs.lemmas.Bool.Decides.{nat_tests}
use Rattle.std.proofs.lemmas.List.{ext_get_or, get_or-set_same, get_or-set_other, take_more}
use Rattle.std.proofs.lemmas.List.Folds.{list_any-append}
use Rattle.std.proofs.lemmas.Grind.{common_steps}
use Rattle.acc_base.specs.declared.attachments.Attachment.{Attachment}
use Rattle.acc_base.specs.Attachments.{pointer_at, is_skipped}
use Rattle.acc_base.specs.Section.{covers}
use Rattle.acc_stale.specs.declared.marks.Mark.{Mark}
use Rattle.acc_stale.specs.declared.marks.Mark.TheVariants.{New}
use Rattle.acc_stale.specs.Marks.{Change, each, beside_pointers, IsKept}
use Rattle.acc_stale.proofs.Each.{get_or-each, length-each}

-- the places from one to another
abbrev pub between : ℕ → ℕ → ℕ → Bool
between from end k = nat_le from k && nat_lt k end

pub kept_none : (test : ℕ → Bool) (kept s : List Mark) → ((k : ℕ) → test k ≡ false) → IsKept test kept s s
kept_none test kept s none = record { len = refl; marks = λ k h. sym (ap (λ b. if b then get_or kept k New else get_or s k New) (none k)) }

pub kept_same : (t u : ℕ → Bool) (kept old new : List Mark) → ((k : ℕ) → k < length old → t k ≡ u k) → IsKept t kept old new → IsKept u kept old new
kept_same t u kept old new same was = record { len = was.len; marks = λ k h. was.marks k h ∙ ap (λ b. if b then get_or kept k New else get_or old k New) (same k h) }

-- ---- one pointer, byte by byte

pub between_none : (from k : ℕ) → between from from k ≡ false
between_none from k = grind (arith, nat_tests)

between_here : (from end : ℕ) → from ≤ end → between from (end + 1) end ≡ true
between_here from end h = grind (arith, nat_tests, h)

between_other : (from end k : ℕ) → k ≢ end → between from end k ≡ between from (end + 1) k
between_other from end k other = grind (arith, nat_tests, other)

pub kept_suc : (from place : ℕ) (kept old new : List Mark) (d : Mark) → from ≤ place → place < length new → d ≡ get_or kept place New → IsKept (between from place) kept old new → IsKept (between from (place + 1)) kept old (set new place d)
kept_suc from place kept old new d low h is was = record { len = grind (arith, common_steps, was.len); marks = marks }
  where
    here : (k : ℕ) → k ≡ place → get_or (set new place d) k New ≡ (if between from (place + 1) k then get_or kept k New else get_or old k New)
    here k e =
        ap (λ n. get_or (set new place d) n New) e
        ∙ get_or-set_same new place d New h
        ∙ is
        ∙ sym (ap (λ b. if b then get_or kept place New else get_or old place New) (between_here from place low))
        ∙ sym (ap (λ n. if between from (place + 1) n then get_or kept n New else get_or old n New) e)

    other : (k : ℕ) → k < length old → k ≢ place → get_or (set new place d) k New ≡ (if between from (place + 1) k then get_or kept k New else get_or old k New)
    other k in_old ne =
        get_or-set_other new place k d New ne
        ∙ was.marks k in_old
        ∙ ap (λ b. if b then get_or kept k New else get_or old k New) (between_other from place k ne)

    marks : (k : ℕ) → k < length old → get_or (set new place d) k New ≡ (if between from (place + 1) k then get_or kept k New else get_or old k New)
    marks k in_old =
        elim (cases_order k place) [
          | inl e ↦ here k e
          | inr o ↦ elim o [ inl lt ↦ other k in_old (λ e. omega (arith, e, lt)) | inr lt ↦ other k in_old (λ e. omega (arith, e, lt)) ]
        ]

-- as far as the section has its bytes
pub pointer_between : (start pointer len from end place k : ℕ) → end ≡ min ((pointer + 8) - start) len → from ≡ min (pointer - start) end → place ≡ end → k < len → between from place k ≡ covers (pointer_at pointer) (start + k)
pointer_between start pointer len from end place k e f p h = grind (arith, nat_tests, e, f, p, h)

-- ---- one pointer after the other

pub or_false : (b : Bool) → (b || false) ≡ b
or_false true = refl
or_false false = refl

skipped_suc : (block i address : ℕ) (xs : List Attachment) (d : Attachment) → i < length xs → is_skipped block (take (i + 1) xs) address ≡ (is_skipped block (take i xs) address || ((get_or xs i d).block == block && covers (pointer_at (get_or xs i d).pointer) address))
skipped_suc block i address xs d h =
    let test : Attachment → Bool = λ a. a.block == block && covers (pointer_at a.pointer) address in
    ap (λ ys. list_any test ys) (take_more xs i d h)
    ∙ list_any-append test (take i xs) (get_or xs i d ∷ [])
    ∙ ap (λ b. list_any test (take i xs) || b) (or_false (test (get_or xs i d)))

either : (a c : Bool) (x y z w : Mark) → y ≡ (if a then x else z) → w ≡ (if c then x else y) → w ≡ (if (a || c) then x else z)
either true true x y z w e f = f
either true false x y z w e f = f ∙ e
either false true x y z w e f = f
either false false x y z w e f = f ∙ e

pub kept_more : (block start i : ℕ) (xs : List Attachment) (d : Attachment) (kept s0 s1 s2 : List Mark) → i < length xs → (get_or xs i d).block ≡ block → IsKept (λ place. is_skipped block (take i xs) (start + place)) kept s0 s1 → IsKept (λ place. covers (pointer_at (get_or xs i d).pointer) (start + place)) kept s1 s2 → IsKept (λ place. is_skipped block (take (i + 1) xs) (start + place)) kept s0 s2
kept_more block start i xs d kept s0 s1 s2 h same was more = record { len = more.len ∙ was.len; marks = marks }
  where
    test : (k : ℕ) → (is_skipped block (take i xs) (start + k) || covers (pointer_at (get_or xs i d).pointer) (start + k)) ≡ is_skipped block (take (i + 1) xs) (start + k)
    test k =
        let own : ((get_or xs i d).block == block) ≡ true = grind (arith, nat_tests, same) in
        sym (skipped_suc block i (start + k) xs d h ∙ ap (λ b. is_skipped block (take i xs) (start + k) || (b && covers (pointer_at (get_or xs i d).pointer) (start + k))) own)

    marks : (k : ℕ) → k < length s0 → get_or s2 k New ≡ (if is_skipped block (take (i + 1) xs) (start + k) then get_or kept k New else get_or s0 k New)
    marks k in_s =
        let lt : k < length s1 = omega (arith, was.len, in_s) in
        either (is_skipped block (take i xs) (start + k)) (covers (pointer_at (get_or xs i d).pointer) (start + k)) (get_or kept k New) (get_or s1 k New) (get_or s0 k New) (get_or s2 k New) (was.marks k in_s) (more.marks k lt)
        ∙ ap (λ b. if b then get_or kept k New else get_or s0 k New) (test k)

pub kept_other : (block start i : ℕ) (xs : List Attachment) (d : Attachment) (kept s0 s1 : List Mark) → i < length xs → (get_or xs i d).block ≢ block → IsKept (λ place. is_skipped block (take i xs) (start + place)) kept s0 s1 → IsKept (λ place. is_skipped block (take (i + 1) xs) (start + place)) kept s0 s1
kept_other block start i xs d kept s0 s1 h other was =
    kept_same (λ place. is_skipped block (take i xs) (start + place)) (λ place. is_skipped block (take (i + 1) xs) (start + place)) kept s0 s1 same was
  where
    same : (k : ℕ) → k < length s0 → is_skipped block (take i xs) (start + k) ≡ is_skipped block (take (i + 1) xs) (start + k)
    same k in_s =
        let own : ((get_or xs i d).block == block) ≡ false = grind (arith, nat_tests, other) in
        sym (skipped_suc block i (start + k) xs d h
        ∙ ap (λ b. is_skipped block (take i xs) (start + k) || (b && covers (pointer_at (get_or xs i d).pointer) (start + k))) own
        ∙ or_false (is_skipped block (take i xs) (start + k)))

-- ---- all put back, the section is changed beside them

pub beside_kept : (block : ℕ) (xs : List Attachment) (start : ℕ) (f : Change) (s new : List Mark) → IsKept (λ place. is_skipped block xs (start + place)) s (each f s) new → new ≡ each (beside_pointers block xs start f) s
beside_kept block xs start f s new was =
    ext_get_or New new (each (beside_pointers block xs start f) s)
    (was.len ∙ length-each f s ∙ sym (length-each (beside_pointers block xs start f) s))
    (λ k h. place k (omega (arith, h, was.len, length-each f s)))
  where
    place : (k : ℕ) → k < length s → get_or new k New ≡ get_or (each (beside_pointers block xs start f) s) k New
    place k h =
        was.marks k (omega (arith, h, length-each f s))
        ∙ ap (λ m. if is_skipped block xs (start + k) then get_or s k New else m) (get_or-each f s k New h)
        ∙ sym (get_or-each (beside_pointers block xs start f) s k New h)
