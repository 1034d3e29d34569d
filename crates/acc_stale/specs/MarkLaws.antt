-- Marks behind the bytes that are compared stay.
use Rattle.std.proofs.Common.{◌≡◌, ℕ, ◌≤◌, min, List, length, Option, Some, None, refl, ap, ◌∙◌, ◌⊎◌, inl, inr, arith}
use Rattle.std.specs.List.{slice_get}
use Rattle.std.proofs.lemmas.Option.{slice_get_past}
use Rattle.acc_stale.specs.declared.marks.Mark.{Mark}
use Rattle.acc_stale.specs.declared.marks.Mark.TheVariants.{New, Behind, Unfilled}
use Rattle.acc_stale.specs.Marks.{Change, against, filled_against, where_other, outdated, outrun, rewritten, filled}

-- one of two lists ends before a place
ended : (m n place : ℕ) → min m n ≤ place → (m ≤ place) ⊎ (n ≤ place)
ended m n place h = grind (arith, h)

against_none_left : (own : Option ℕ) (mark : Mark) → against None own mark ≡ mark
against_none_left own mark = refl

against_none_right : (written : Option ℕ) (mark : Mark) → against written None mark ≡ mark
against_none_right None mark = refl
against_none_right (Some w) mark = refl

filled_none_left : (own : Option ℕ) (mark : Mark) → filled_against None own mark ≡ mark
filled_none_left own New = refl
filled_none_left own Behind = refl
filled_none_left own Unfilled = refl

filled_none_right : (written : Option ℕ) (mark : Mark) → filled_against written None mark ≡ mark
filled_none_right None New = refl
filled_none_right None Behind = refl
filled_none_right None Unfilled = refl
filled_none_right (Some w) New = refl
filled_none_right (Some w) Behind = refl
filled_none_right (Some w) Unfilled = refl

other_none_left : (after : Option ℕ) (mark next : Mark) → where_other None after mark next ≡ mark
other_none_left after mark next = refl

other_none_right : (before : Option ℕ) (mark next : Mark) → where_other before None mark next ≡ mark
other_none_right None mark next = refl
other_none_right (Some b) mark next = refl

other_same : (before after : Option ℕ) (mark : Mark) → where_other before after mark mark ≡ mark
other_same None after mark = refl
other_same (Some b) None mark = refl
other_same (Some b) (Some a) mark = grind (arith)

pub outdated_past : (written own : List ℕ) (place : ℕ) (mark : Mark) → min (length written) (length own) ≤ place → outdated written own place mark ≡ mark
outdated_past written own place mark past =
    elim (ended (length written) (length own) place past) [
      | inl h ↦ ap (λ o. filled_against o (slice_get own place) mark) (slice_get_past written place h) ∙ filled_none_left (slice_get own place) mark
      | inr h ↦ ap (λ o. filled_against (slice_get written place) o mark) (slice_get_past own place h) ∙ filled_none_right (slice_get written place) mark
    ]

pub outrun_all_past : (written own : List ℕ) (place : ℕ) (mark : Mark) → min (length written) (length own) ≤ place → outrun written own place mark ≡ mark
outrun_all_past written own place mark past =
    elim (ended (length written) (length own) place past) [
      | inl h ↦ ap (λ o. against o (slice_get own place) mark) (slice_get_past written place h) ∙ against_none_left (slice_get own place) mark
      | inr h ↦ ap (λ o. against (slice_get written place) o mark) (slice_get_past own place h) ∙ against_none_right (slice_get written place) mark
    ]

-- whatever becomes of others
rewritten_so : (change : Change) (before after : List ℕ) (place : ℕ) (mark : Mark) → min (length before) (length after) ≤ place → rewritten before after change place mark ≡ mark
rewritten_so change before after place mark past =
    elim (ended (length before) (length after) place past) [
      | inl h ↦ ap (λ o. where_other o (slice_get after place) mark (change place mark)) (slice_get_past before place h) ∙ other_none_left (slice_get after place) mark (change place mark)
      | inr h ↦ ap (λ o. where_other (slice_get before place) o mark (change place mark)) (slice_get_past after place h) ∙ other_none_right (slice_get before place) mark (change place mark)
    ]

pub rewritten_past : (before after : List ℕ) (place : ℕ) (mark : Mark) → min (length before) (length after) ≤ place → rewritten before after (filled New) place mark ≡ mark
rewritten_past before after place mark past = rewritten_so (filled New) before after place mark past

pub outrun_past : (before after own : List ℕ) (place : ℕ) (mark : Mark) → min (min (length before) (length after)) (length own) ≤ place → rewritten before after (outrun after own) place mark ≡ mark
outrun_past before after own place mark past =
    elim (ended (min (length before) (length after)) (length own) place past) [
      | inl h ↦ rewritten_so (outrun after own) before after place mark h
      | inr h ↦
          let e : outrun after own place mark ≡ mark = ap (λ o. against (slice_get after place) o mark) (slice_get_past own place h) ∙ against_none_right (slice_get after place) mark in
          ap (λ m. where_other (slice_get before place) (slice_get after place) mark m) e ∙ other_same (slice_get before place) (slice_get after place) mark
    ]
