-- What an outline tells of tasks.
use Rattle.std.proofs.Common.{ℕ, ◌≡◌, ◌<◌, ◌≤◌, ◌⊎◌, refl, ap, subst, ◌∙◌, Bool, true, false, cond, List, [], ◌∷◌, ◌++◌, arith}
use Rattle.std.specs.List.{AllByRecursion}
use Rattle.std.specs.Prelude.{◌==◌}
use Rattle.std.proofs.lemmas.Bool.Decides.{nat_tests}
use Rattle.acc_clauses.specs.Words.{Section, Counters, Found, Task, Step, Aim}
use Rattle.acc_base.specs.declared.events.Step.TheVariants.{Nothing, Counted, Born, Dropped, Moved}
use Rattle.acc_base.specs.declared.mappings.Found.TheVariants.{Inside, Partly, Absent, Empty}
use Rattle.acc_base.specs.Section.{end_of, is_within, is_apart}
use Rattle.acc_base.specs.Tasks.{section_of}
use Rattle.acc_base.proofs.Results.{equal}
use Rattle.acc_clauses.specs.declared.acted.Acted.{Acted}
use Rattle.acc_clauses.specs.declared.outlines.Outline.{Outline}
use Rattle.acc_clauses.specs.Overlays.{found_beside, found_by, found_over, counters_by, counters_over, with_aim}
use Rattle.acc_clauses.specs.Outlined.{IsBornWithin, is_marked, IsStepMarked, IsOutlined}

-- ---- sections

-- a section apart from a range is as it was beside it
beside_clear : (s range : Section) (block : ℕ) (found : Found) → 0 < s.len → is_within s range ≡ false → is_apart s range ≡ true → found_beside s range block found ≡ found
beside_clear s range block Absent some out apart = rw (out, apart) refl
beside_clear s range block Empty some out apart = refl
beside_clear s range block Partly some out apart = refl
beside_clear s range block (Inside b offset) some out apart = refl

found_by_clear : (low high : ℕ) (s : Section) (found : Found) (task : Task) (step : Step) → 0 < s.len → (end_of s ≤ low) ⊎ (high ≤ s.start) → IsBornWithin low high task step → found_by s found task step ≡ found
found_by_clear low high s found task Nothing some clear within = refl
found_by_clear low high s found task (Counted block) some clear within = refl
found_by_clear low high s found task (Born block place) some clear within =
    let from : low ≤ (section_of task).start = within.0 in
    let to : end_of (section_of task) ≤ high = within.1 in
    beside_clear s (section_of task) block found some (grind (arith, nat_tests)) (grind (arith, nat_tests))
found_by_clear low high s found task (Dropped block ended) some clear within = refl
found_by_clear low high s found task (Moved block) some clear within = refl

pub found_over_clear : (low high : ℕ) (s : Section) (found : Found) (xs : List Acted) → 0 < s.len → (end_of s ≤ low) ⊎ (high ≤ s.start) → AllByRecursion (λ x. IsBornWithin low high x.task x.did.step) xs → found_over s found xs ≡ found
found_over_clear low high s found [] some clear within = refl
found_over_clear low high s found (x ∷ xs) some clear within = ap (λ f. found_over s f xs) (found_by_clear low high s found x.task x.did.step some clear within.0) ∙ found_over_clear low high s found xs some clear within.1

-- ---- counters

named_other : (b block : ℕ) (marks : List Bool) (c d : Counters) → is_marked b marks ≡ true → is_marked block marks ≡ false → cond (b == block) d c ≡ c
named_other b block marks c d marked not_marked = go (b == block) refl
  where
    go : (t : Bool) → (b == block) ≡ t → cond t d c ≡ c
    go true e = let same : b ≡ block = equal b block e in let on : is_marked block marks ≡ true = subst (λ (k : ℕ). is_marked k marks ≡ true) same marked in cc
    go false e = refl

counters_by_without : (block : ℕ) (marks : List Bool) (c : Counters) (task : Task) (step : Step) → is_marked block marks ≡ false → IsStepMarked marks step → counters_by block c task step ≡ c
counters_by_without block marks c task Nothing none marked = refl
counters_by_without block marks c task (Counted b) none marked = named_other b block marks c _ marked none
counters_by_without block marks c task (Born b place) none marked = named_other b block marks c _ marked none
counters_by_without block marks c task (Dropped b ended) none marked = named_other b block marks c _ marked none
counters_by_without block marks c task (Moved b) none marked = refl

pub counters_over_without : (block : ℕ) (marks : List Bool) (c : Counters) (xs : List Acted) → is_marked block marks ≡ false → AllByRecursion (λ x. IsStepMarked marks x.did.step) xs → counters_over block c xs ≡ c
counters_over_without block marks c [] none marked = refl
counters_over_without block marks c (x ∷ xs) none marked = ap (λ d. counters_over block d xs) (counters_by_without block marks c x.task x.did.step none marked.0) ∙ counters_over_without block marks c xs none marked.1

-- ---- the last task

all_last : (P : Acted → Type 0) (xs : List Acted) (x y : Acted) → (P x → P y) → AllByRecursion P (xs ++ x ∷ []) → AllByRecursion P (xs ++ y ∷ [])
all_last P [] x y last all = (last all.0, tt)
all_last P (z ∷ xs) x y last all = (all.0, all_last P xs x y last all.1)

-- it does not matter what became of its pointer
pub outlined_aimed : (xs : List Acted) (x : Acted) (aim : Aim) (o : Outline) → IsOutlined (xs ++ x ∷ []) o → IsOutlined (xs ++ with_aim aim x ∷ []) o
outlined_aimed xs x aim o is = record {
  born = all_last (λ y. IsBornWithin o.low o.high y.task y.did.step) xs x (with_aim aim x) (λ h. h) is.born;
  marked = all_last (λ y. IsStepMarked o.marks y.did.step) xs x (with_aim aim x) (λ h. h) is.marked;
  marks = is.marks;
}
