-- What look-ups before the tasks of a plan say of the records after them.
use Rattle.std.proofs.Common.{ℕ, ◌≡◌, ◌+◌, ◌<◌, ◌≤◌, refl, sym, ap, ◌∙◌, true, false, ◌&&◌, List, [], ◌∷◌, ◌++◌, length, suc, Option, Some, arith}
use Rattle.std.specs.Prelude.{not, unwrap_or, option_map, All, IfSome}
use Rattle.std.specs.List.{list_all, list_any, AllByRecursion}
use Rattle.std.proofs.lemmas.List.Folds.{list_all-append, list_any-append}
use Rattle.std.proofs.lemmas.List.Elements.{All-from_recursion}
use Rattle.std.proofs.lemmas.Bool.Decides.{nat_tests}
use Rattle.acc_clauses.specs.Words.{Section, Range, Counters, Found, Task, Step}
use Rattle.acc_base.specs.declared.mappings.Counter.TheVariants.{Structured, Dynamic}
use Rattle.acc_base.specs.Limits.{Limits, IsWithinBounds}
use Rattle.acc_base.specs.Section.{end_of, device_memory}
use Rattle.acc_base.specs.Records.{Records}
use Rattle.acc_base.specs.Ranges.{where_is, where_is_apart, range_of, counter_in, structured_of, dynamic_of, is_unused, ends_by}
use Rattle.acc_base.specs.Blocks.{place_for}
use Rattle.acc_base.specs.Tasks.{recounted}
use Rattle.acc_base.specs.Steps.{act}
use Rattle.acc_base.specs.History.{AreJudged}
use Rattle.acc_base.specs.Accounts.{AreRecordsSound}
use Rattle.acc_base.proofs.Elements.{found_has}
use Rattle.acc_base.proofs.Places.{place_for-found}
use Rattle.acc_base.proofs.Judged.{IsJudgedTo, task_says}
use Rattle.acc_placement.specs.Ranges.{IsTakeBelow}
use Rattle.acc_dev.specs.Device.{planned_blocks}
use Rattle.acc_clauses.specs.declared.acted.Acted.{Acted}
use Rattle.acc_clauses.specs.Overlays.{IsPlanned, AreUnmixed, tasks_in, dids_in, records_after, enters, births_of, end_by, ended_of, found_by, found_over, counters_at, recount, are_zero, counters_over}
use Rattle.acc_clauses.proofs.Overlaid.{or_false, birth_entry, sound-after, counters-after, found-entered, found-left, blocks-after, births-after, first_enters}
use Rattle.acc_present.proofs.Finding.{apart_from_none}
use Rattle.acc_clauses.proofs.Legal.{birth_len}
use Rattle.acc_clauses.specs.Spans.{AreSpans}
use Rattle.acc_clauses.proofs.Spanned.{place-spanned}

-- ---- where a section lies

end_none : (l : Limits) (task : Task) (step : Step) (w : Records) → IsJudgedTo l task step w → enters task ≡ true → end_by step ≡ []
end_none l task step w says none = grind (arith, nat_tests)

ended_none : (l : Limits) (n : ℕ) (xs : List Acted) (w : Records) → AreJudged l n (tasks_in xs) (dids_in xs) w → list_all enters (tasks_in xs) ≡ true → ended_of xs ≡ []
ended_none l n [] w judged all = refl
ended_none l n (x ∷ xs) w judged all =
    rw (end_none l x.task x.did.step w (task_says l n x.task w x.did.step judged.0) (first_enters x xs all).0, ended_none l (suc n) xs (act x.task x.did w) judged.2 (first_enters x xs all).1) refl

found_stays : (l : Limits) (task : Task) (step : Step) (w : Records) (s : Section) (f : Found) → IsJudgedTo l task step w → enters task ≡ false → found_by s f task step ≡ f
found_stays l task step w s f says none = grind (arith, nat_tests)

found_same : (l : Limits) (n : ℕ) (xs : List Acted) (w : Records) (s : Section) (f : Found) → AreJudged l n (tasks_in xs) (dids_in xs) w → list_any enters (tasks_in xs) ≡ false → found_over s f xs ≡ f
found_same l n [] w s f judged none = refl
found_same l n (x ∷ xs) w s f judged none =
    ap (λ g. found_over s g xs) (found_stays l x.task x.did.step w s f (task_says l n x.task w x.did.step judged.0) (or_false (enters x.task) (list_any enters (tasks_in xs)) none).0)
    ∙ found_same l (suc n) xs (act x.task x.did w) s f judged.2 (or_false (enters x.task) (list_any enters (tasks_in xs)) none).1

pub found-planned : (l : Limits) (xs : List Acted) (w : Records) (s : Section) → IsPlanned l xs w → AreUnmixed (tasks_in xs)
    → found_over s (where_is_apart s (ended_of xs) w.ranges) xs ≡ where_is s (records_after xs w).ranges
found-planned l xs w s p unmixed = grind (arith, nat_tests, ended_none, apart_from_none, found-entered, found_same, found-left)

-- ---- counters

pub counters-planned : (l : Limits) (xs : List Acted) (w : Records) (b : ℕ) → IsPlanned l xs w → counters_over b (counters_at b w.ranges) xs ≡ counters_at b (records_after xs w).ranges
counters-planned l xs w b p = counters-after l 0 xs w b p.bounds p.sound p.judged

-- both counters of a range that is looked for; both are 0 where there is none
abbrev counters_found : Option Range → Counters
counters_found o = record { structured = unwrap_or (option_map (counter_in Structured) o) 0; dynamic = unwrap_or (option_map (counter_in Dynamic) o) 0 }

-- a counter of the range is above zero
abbrev IsReferenced : Range → Type 0
IsReferenced r = 0 < r.structured + r.dynamic

ends_found : (task : Task) (o : Option Range) → IfSome o IsReferenced → unwrap_or (option_map (λ r. is_unused (recounted task r)) o) false ≡ (not (are_zero (counters_found o)) && are_zero (recount task (counters_found o)))
ends_found task o above = grind (arith, nat_tests)

found_above : (l : Limits) (w : Records) (b : ℕ) (o : Option Range) → range_of b w.ranges ≡ o → AreRecordsSound l w → IfSome o IsReferenced
found_above l w b o e h = grind (arith, nat_tests, found_has)

-- a range is mapped just as long as one of its counters is above zero
pub ends-planned : (l : Limits) (xs : List Acted) (w : Records) (task : Task) (b : ℕ) → IsPlanned l xs w
    → ends_by (recounted task) b (records_after xs w).ranges ≡ (not (are_zero (counters_at b (records_after xs w).ranges)) && are_zero (recount task (counters_at b (records_after xs w).ranges)))
ends-planned l xs w task b p =
    let after : Records = records_after xs w in
    ends_found task (range_of b after.ranges) (found_above l after b (range_of b after.ranges) refl (sound-after l 0 xs w p.bounds p.sound p.judged))

-- what is read of a block before the tasks gives its counters after them
pub counters_read : (l : Limits) (xs acts : List Acted) (w : Records) (b : ℕ) (c r : Counters) → IsPlanned l xs w → acts ≡ xs → c.structured ≡ structured_of b w.ranges → c.dynamic ≡ dynamic_of b w.ranges
    → r ≡ counters_over b c acts → r ≡ counters_at b (records_after xs w).ranges
counters_read l xs acts w b c r p same s d e = grind (arith, nat_tests, counters-planned l xs w b p)

-- ---- births

place_below : (l : Limits) (w : Records) (size p : ℕ) → place_for (device_memory l) w.blocks size ≡ Some p → p + size ≤ end_of (device_memory l)
place_below l w size p e = grind (arith, nat_tests, place_for-found (device_memory l) w.blocks size)

takes : (l : Limits) (n : ℕ) (xs : List Acted) (w : Records) → IsWithinBounds l → AreJudged l n (tasks_in xs) (dids_in xs) w → AllByRecursion (IsTakeBelow (end_of (device_memory l))) (births_of xs)
takes l n [] w bounds judged = tt
takes l n (x ∷ xs) w bounds judged = grind (arith, nat_tests, takes l (suc n) xs (act x.task x.did w) bounds judged.2, birth_entry, birth_len, place_below, task_says l n x.task w x.did.step judged.0)

-- each block that the tasks give birth to ends on the device, and so do the spans of them
pub takes-planned : (l : Limits) (xs : List Acted) (w : Records) (spans : List (ℕ × ℕ)) → IsPlanned l xs w → AreSpans (births_of xs) spans → All (IsTakeBelow (end_of (device_memory l))) spans
takes-planned l xs w spans p are = All-from_recursion (IsTakeBelow (end_of (device_memory l))) spans (are.below (end_of (device_memory l)) (takes l 0 xs w p.bounds p.judged))

-- and leave the place that the blocks leave
pub place-planned : (l : Limits) (xs : List Acted) (w : Records) (spans : List (ℕ × ℕ)) (size : ℕ) → 0 < size → IsPlanned l xs w → list_all enters (tasks_in xs) ≡ true → AreSpans (births_of xs) spans
    → place_for (device_memory l) (w.blocks ++ planned_blocks (w.births + 1) spans) size ≡ place_for (device_memory l) (records_after xs w).blocks size
place-planned l xs w spans size some p none are =
    place-spanned (device_memory l) w.blocks (w.births + 1) size (end_of (device_memory l)) (births_of xs) spans some are (takes l 0 xs w p.bounds p.judged)
    ∙ ap (λ bs. place_for (device_memory l) bs size) (sym (blocks-after l 0 xs w p.judged none))

pub births-planned : (l : Limits) (xs : List Acted) (w : Records) → IsPlanned l xs w → list_all enters (tasks_in xs) ≡ true → (records_after xs w).births ≡ w.births + length (births_of xs)
births-planned l xs w p none = births-after l 0 xs w p.judged none

pub ruleset plan_laws = (found-planned, counters-planned, ends-planned, takes-planned, place-planned, births-planned)

-- ---- kinds of tasks

-- the first tasks of some that are unmixed
pub unmixed_front : (ts us : List Task) → AreUnmixed (ts ++ us) → AreUnmixed ts
unmixed_front ts us unmixed = grind (arith, nat_tests, list_all-append, list_any-append)

pub ruleset kind_laws = (unmixed_front)
