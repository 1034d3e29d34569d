-- Spans take the addresses that the births take, and so leave the same place to the next one.
use Rattle.std.proofs.Common.{ℕ, suc, ◌≡◌, ◌<◌, refl, sym, ap, ◌∙◌, Bool, List, [], ◌∷◌, ◌++◌, Option, Some, None, arith}
use Rattle.std.specs.Prelude.{◌&&◌}
use Rattle.std.specs.List.{AllByRecursion, list_all}
use Rattle.std.proofs.lemmas.List.Folds.{list_all-append}
use Rattle.std.proofs.lemmas.Bool.Decides.{nat_tests}
use Rattle.acc_base.specs.declared.mappings.Block.{Block}
use Rattle.acc_base.specs.declared.items.Section.{Section}
use Rattle.acc_base.specs.Section.{is_within}
use Rattle.acc_base.specs.Blocks.{is_clear_of, fits_at, place_for}
use Rattle.acc_base.proofs.Elements.{AllByRecursion-append}
use Rattle.acc_base.proofs.Places.{IsFoundPlace, place_for-found}
use Rattle.acc_placement.specs.Ranges.{IsTakeBelow}
use Rattle.acc_dev.specs.Device.{planned_blocks}
use Rattle.acc_clauses.specs.Spans.{is_beside, AreSpans, IsJoined}

-- ---- one more birth

split_all : (P : ℕ × ℕ → Type 0) (xs : List (ℕ × ℕ)) (x : ℕ × ℕ) → AllByRecursion P (xs ++ x ∷ []) → AllByRecursion P xs × P x
split_all P [] x all = (tt, all.0)
split_all P (y ∷ ys) x all = let rest = split_all P ys x all.1 in ((all.0, rest.0), rest.1)

all_beside : (q n : ℕ) (xs : List (ℕ × ℕ)) (x : ℕ × ℕ) → list_all (is_beside q n) (xs ++ x ∷ []) ≡ (list_all (is_beside q n) xs && is_beside q n x)
all_beside q n xs x = grind (arith, nat_tests, list_all-append)

pub spans-none : AreSpans [] []
spans-none = record { below = λ top all. tt; same = λ top q n all some. refl }

-- it has a span of its own
pub spans-push : (births spans : List (ℕ × ℕ)) (x : ℕ × ℕ) → AreSpans births spans → AreSpans (births ++ x ∷ []) (spans ++ x ∷ [])
spans-push births spans x are = record {
  below = λ top all. let parts = split_all (IsTakeBelow top) births x all in AllByRecursion-append (IsTakeBelow top) spans (x ∷ []) (are.below top parts.0) (parts.1, tt);
  same = λ top q n all some. all_beside q n spans x ∙ ap (λ b. b && is_beside q n x) (are.same top q n (split_all (IsTakeBelow top) births x all).0 some) ∙ sym (all_beside q n births x);
}

joined_beside : (q n top : ℕ) (span birth both : ℕ × ℕ) → IsJoined span birth both → 0 < n → IsTakeBelow top span → IsTakeBelow top birth → is_beside q n both ≡ (is_beside q n span && is_beside q n birth)
joined_beside q n top span birth both is some one two = grind (arith, nat_tests)

joined_below : (top : ℕ) (span birth both : ℕ × ℕ) → IsJoined span birth both → IsTakeBelow top span → IsTakeBelow top birth → IsTakeBelow top both
joined_below top span birth both is one two = ((omega (arith, is.len, two.0.0), is.most), omega (arith, is.len, is.start, is.behind, two.1))

-- it shares the last span
pub spans-joined : (births front : List (ℕ × ℕ)) (span birth both : ℕ × ℕ) → IsJoined span birth both → AreSpans births (front ++ span ∷ []) → AreSpans (births ++ birth ∷ []) (front ++ both ∷ [])
spans-joined births front span birth both is are = record {
  below = λ top all.
      let parts = split_all (IsTakeBelow top) births birth all in
      let spans = split_all (IsTakeBelow top) front span (are.below top parts.0) in
      AllByRecursion-append (IsTakeBelow top) front (both ∷ []) spans.0 (joined_below top span birth both is spans.1 parts.1, tt);
  same = λ top q n all some.
      let parts = split_all (IsTakeBelow top) births birth all in
      let spans = split_all (IsTakeBelow top) front span (are.below top parts.0) in
      let whole = are.same top q n parts.0 some in
      let one = joined_beside q n top span birth both is some spans.1 parts.1 in
      grind (arith, nat_tests, all_beside);
}

-- ---- the place of the next one

planned_clear : (q n number : ℕ) (ts : List (ℕ × ℕ)) → list_all (is_clear_of q n) (planned_blocks number ts) ≡ list_all (is_beside q n) ts
planned_clear q n number [] = refl
planned_clear q n number (t ∷ ts) = ap (λ b. is_beside q n t && b) (planned_clear q n (suc number) ts)

-- what fits at a place beside the births fits there beside the spans
fits_same : (memory : Section) (blocks : List Block) (number size q : ℕ) (xs ys : List (ℕ × ℕ)) → list_all (is_beside q size) xs ≡ list_all (is_beside q size) ys
    → fits_at memory (blocks ++ planned_blocks number xs) size q ≡ fits_at memory (blocks ++ planned_blocks number ys) size q
fits_same memory blocks number size q xs ys same =
    let clear : list_all (is_clear_of q size) (planned_blocks number xs) ≡ list_all (is_clear_of q size) (planned_blocks number ys) = planned_clear q size number xs ∙ same ∙ sym (planned_clear q size number ys) in
    ap (λ b. is_within (record { start = q; len = size }) memory && b)
    (list_all-append (is_clear_of q size) blocks (planned_blocks number xs)
    ∙ ap (λ b. list_all (is_clear_of q size) blocks && b) clear
    ∙ sym (list_all-append (is_clear_of q size) blocks (planned_blocks number ys)))

-- there is one place alone
found_same : (f g : ℕ → Bool) → ((q : ℕ) → f q ≡ g q) → (o p : Option ℕ) → IsFoundPlace f o → IsFoundPlace g p → o ≡ p
found_same f g same None None h k = refl
found_same f g same None (Some q) h k = absurd (h q (same q ∙ k.0))
found_same f g same (Some p) None h k = absurd (k p (sym (same p) ∙ h.0))
found_same f g same (Some p) (Some q) h k = let e : p ≡ q = omega (arith, h.1 q (same q ∙ k.0), k.1 p (sym (same p) ∙ h.0)) in ap (λ x. Some x) e

pub place-spanned : (memory : Section) (blocks : List Block) (number size top : ℕ) (births spans : List (ℕ × ℕ)) → 0 < size → AreSpans births spans → AllByRecursion (IsTakeBelow top) births
    → place_for memory (blocks ++ planned_blocks number spans) size ≡ place_for memory (blocks ++ planned_blocks number births) size
place-spanned memory blocks number size top births spans some are all =
    found_same (fits_at memory (blocks ++ planned_blocks number spans) size) (fits_at memory (blocks ++ planned_blocks number births) size)
    (λ q. fits_same memory blocks number size q spans births (are.same top q size all some))
    _ _ (place_for-found memory (blocks ++ planned_blocks number spans) size) (place_for-found memory (blocks ++ planned_blocks number births) size)
