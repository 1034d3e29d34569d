-- The births and ends that a draft notes, after one more task.
use Rattle.std.proofs.lemmas.Bool.Decides.{nat_tests}
use Rattle.std.proofs.Common.{ℕ, ◌≡◌, ◌+◌, ◌<◌, ◌≤◌, refl, sym, ap, subst, ◌∙◌, List, [], ◌∷◌, ◌++◌, length, arith}
use Rattle.std.proofs.lemmas.List.{append-nil, append_assoc, length-append, length-map}
use Rattle.acc_clauses.specs.Words.{Task, Aim, Step}
use Rattle.acc_clauses.specs.declared.acted.Acted.{Acted}
use Rattle.acc_base.specs.declared.events.Step.TheVariants.{Born}
use Rattle.acc_base.specs.Tasks.{section_of}
use Rattle.acc_clauses.specs.Spans.{AreSpans}
use Rattle.acc_clauses.specs.Acts.{lens_born, pointers_of, pointers_in}
use Rattle.acc_clauses.proofs.Spanned.{spans-none}
use Rattle.acc_clauses.specs.Overlays.{IsDraft, tasks_in, dids_in, birth_by, births_of, lens_of, end_by, ended_of, with_aim}

births_of-append : (xs ys : List Acted) → births_of (xs ++ ys) ≡ births_of xs ++ births_of ys
births_of-append [] ys = refl
births_of-append (x ∷ xs) ys = ap (λ ps. birth_by x.task x.did.step ++ ps) (births_of-append xs ys) ∙ sym (append_assoc (birth_by x.task x.did.step) (births_of xs) (births_of ys))

ended_of-append : (xs ys : List Acted) → ended_of (xs ++ ys) ≡ ended_of xs ++ ended_of ys
ended_of-append [] ys = refl
ended_of-append (x ∷ xs) ys = ap (λ ps. end_by x.did.step ++ ps) (ended_of-append xs ys) ∙ sym (append_assoc (end_by x.did.step) (ended_of xs) (ended_of ys))

-- the births of one more task stand last
pub births_of-push : (xs : List Acted) (x : Acted) → births_of (xs ++ x ∷ []) ≡ births_of xs ++ birth_by x.task x.did.step
births_of-push xs x = births_of-append xs (x ∷ []) ∙ ap (λ ps. births_of xs ++ ps) (append-nil (birth_by x.task x.did.step))

pub ended_of-push : (xs : List Acted) (x : Acted) → ended_of (xs ++ x ∷ []) ≡ ended_of xs ++ end_by x.did.step
ended_of-push xs x = ended_of-append xs (x ∷ []) ∙ ap (λ ps. ended_of xs ++ ps) (append-nil (end_by x.did.step))

lens_of-push : (births : List (ℕ × ℕ)) (b : ℕ × ℕ) → lens_of (births ++ b ∷ []) ≡ lens_of births ++ b.1 ∷ []
lens_of-push [] b = refl
lens_of-push (c ∷ births) b = ap (λ ls. c.1 ∷ ls) (lens_of-push births b)

length-birth_by : (task : Task) (step : Step) → length (birth_by task step) ≤ 1
length-birth_by task step = grind (arith, nat_tests)

length-end_by : (step : Step) → length (end_by step) ≤ 1
length-end_by step = grind (arith, nat_tests)

-- a task gives birth to one block at most
pub length-births_of : (xs : List Acted) → length (births_of xs) ≤ length xs
length-births_of [] = omega arith
length-births_of (x ∷ xs) = omega (arith, length-births_of xs, length-birth_by x.task x.did.step, length-append (birth_by x.task x.did.step) (births_of xs))

-- a task ends one mapping at most
pub length-ended_of : (xs : List Acted) → length (ended_of xs) ≤ length xs
length-ended_of [] = omega arith
length-ended_of (x ∷ xs) = omega (arith, length-ended_of xs, length-end_by x.did.step, length-append (end_by x.did.step) (ended_of xs))

-- there is a place for one more length
pub few_lens : (xs : List Acted) (lens : List ℕ) (spans : List (ℕ × ℕ)) (ended : List ℕ) → IsDraft xs lens spans ended → length xs < 64 → length lens < 64
few_lens xs lens spans ended draft few = let same : length lens ≡ length (births_of xs) = ap length draft.lens_are ∙ length-map (births_of xs) (λ (b : ℕ × ℕ). b.1) in omega (arith, same, few, length-births_of xs)

-- one more task takes what its own aim takes
pub pointers_in-push : (xs : List Acted) (x : Acted) → pointers_in (dids_in (xs ++ x ∷ [])) ≡ pointers_in (dids_in xs) + pointers_of x.did.aim
pointers_in-push [] x = omega arith
pointers_in-push (y ∷ xs) x = omega (arith, pointers_in-push xs x)

one_pointer : (aim : Aim) → pointers_of aim ≤ 1
one_pointer aim = grind (arith, nat_tests)

-- a task takes one attachment counter more at most
pub few_pointers : (xs : List Acted) → pointers_in (dids_in xs) ≤ length xs
few_pointers [] = omega arith
few_pointers (x ∷ xs) = omega (arith, few_pointers xs, one_pointer x.did.aim)

-- the lengths that births have
pub lens_born-births : (xs : List Acted) → lens_born (tasks_in xs) (dids_in xs) ≡ lens_of (births_of xs)
lens_born-births [] = refl
lens_born-births (x ∷ xs) = grind (arith, nat_tests, lens_born-births xs)

-- a draft with one more task that gives birth to none
pub drafted : (xs : List Acted) (x : Acted) (lens : List ℕ) (spans : List (ℕ × ℕ)) (ended ended' : List ℕ) (step : Step) → IsDraft xs lens spans ended → length xs < 64
    → x.did.step ≡ step → birth_by x.task step ≡ [] → ended' ≡ ended ++ end_by step → IsDraft (xs ++ x ∷ []) lens spans ended'
drafted xs x lens spans ended ended' step draft few is none e =
    let same : births_of (xs ++ x ∷ []) ≡ births_of xs = grind (arith, nat_tests, births_of-push, append-nil) in record {
      lens_are = draft.lens_are ∙ ap lens_of (sym same);
      spans_are = subst (λ (bs : List (ℕ × ℕ)). AreSpans bs spans) (sym same) draft.spans_are;
      few_spans = draft.few_spans;
      ended_are = grind (arith, nat_tests, draft.ended_are, ended_of-push);
      few = grind (arith, nat_tests, length-append);
    }

-- and with one that does
pub drafted_birth : (xs : List Acted) (x : Acted) (block place : ℕ) (lens lens' : List ℕ) (spans spans' : List (ℕ × ℕ)) (ended : List ℕ) → IsDraft xs lens spans ended → length xs < 64
    → x.did.step ≡ Born block place → lens' ≡ lens ++ (section_of x.task).len ∷ [] → AreSpans (births_of xs ++ (place, (section_of x.task).len) ∷ []) spans' → length spans' ≤ length spans + 1 → IsDraft (xs ++ x ∷ []) lens' spans' ended
drafted_birth xs x block place lens lens' spans spans' ended draft few is len are most =
    let more : births_of (xs ++ x ∷ []) ≡ births_of xs ++ (place, (section_of x.task).len) ∷ [] = grind (arith, nat_tests, births_of-push) in record {
      lens_are = len ∙ ap (λ ls. ls ++ (section_of x.task).len ∷ []) draft.lens_are ∙ sym (lens_of-push (births_of xs) (place, (section_of x.task).len)) ∙ ap lens_of (sym more);
      spans_are = subst (λ (bs : List (ℕ × ℕ)). AreSpans bs spans') (sym more) are;
      few_spans = rw len (omega (arith, draft.few_spans, most, length-append lens ((section_of x.task).len ∷ [])));
      ended_are = grind (arith, nat_tests, draft.ended_are, ended_of-push, append-nil);
      few = grind (arith, nat_tests, length-append);
    }

-- its births and ends are those of its steps, whatever became of the last pointer
pub drafted_aimed : (xs : List Acted) (x : Acted) (aim : Aim) (lens : List ℕ) (spans : List (ℕ × ℕ)) (ended : List ℕ) → IsDraft (xs ++ x ∷ []) lens spans ended
    → IsDraft (xs ++ with_aim aim x ∷ []) lens spans ended
drafted_aimed xs x aim lens spans ended draft =
    let same : births_of (xs ++ with_aim aim x ∷ []) ≡ births_of (xs ++ x ∷ []) = births_of-push xs (with_aim aim x) ∙ sym (births_of-push xs x) in record {
      lens_are = draft.lens_are ∙ ap lens_of (sym same);
      spans_are = subst (λ (bs : List (ℕ × ℕ)). AreSpans bs spans) (sym same) draft.spans_are;
      few_spans = draft.few_spans;
      ended_are = draft.ended_are ∙ ended_of-push xs x ∙ sym (ended_of-push xs (with_aim aim x));
      few = grind (arith, nat_tests, draft.few, length-append);
    }

pub ruleset tally_laws = (spans-none, births_of-push, ended_of-push, length-births_of, length-ended_of, append-nil)

pub ruleset pointer_laws = (pointers_in-push, few_pointers)

pub ruleset lens_laws = (lens_born-births)
