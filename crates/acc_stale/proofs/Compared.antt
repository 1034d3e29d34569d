-- Marks by bytes that are compared, at a place where there are such bytes.
use Rattle.std.proofs.Common.{◌≡◌, ◌≢◌, ℕ, ◌<◌, min, false, ◌==◌, if◌then◌else◌, List, length, get_or, Some, sym, ap, ap₂, ◌∙◌, arith}
use Rattle.std.specs.List.{slice_get}
use Rattle.std.proofs.lemmas.Bool.Decides.{nat_tests}
use Rattle.std.proofs.lemmas.Option.{slice_get-get_or}
use Rattle.acc_stale.specs.declared.marks.Mark.{Mark}
use Rattle.acc_stale.specs.declared.marks.Mark.TheVariants.{New, Behind, Unfilled}
use Rattle.acc_stale.specs.Marks.{is_mark, against, filled_against, where_other, outdated, outrun, rewritten}

filled_by : (w o : ℕ) (mark r : Mark) → is_mark mark Unfilled ≡ false → r ≡ (if w == o then New else Behind) → r ≡ filled_against (Some w) (Some o) mark
filled_by w o New r h e = e
filled_by w o Behind r h e = e
filled_by w o Unfilled r h e = cc

pub outdated_at : (written own : List ℕ) (place : ℕ) (d e : ℕ) (mark r : Mark) → place < min (length written) (length own) → is_mark mark Unfilled ≡ false → r ≡ (if get_or written place d == get_or own place e then New else Behind) → r ≡ outdated written own place mark
outdated_at written own place d e mark r h filled is =
    let w : place < length written = grind (arith, h) in
    let o : place < length own = grind (arith, h) in
    filled_by (get_or written place d) (get_or own place e) mark r filled is
    ∙ sym (ap₂ (λ x y. filled_against x y mark) (slice_get-get_or written place d w) (slice_get-get_or own place e o))

pub overrun_at : (after own : List ℕ) (place : ℕ) (d e : ℕ) (mark r : Mark) → place < min (length after) (length own) → r ≡ (if get_or after place d == get_or own place e then New else Behind) → r ≡ outrun after own place mark
overrun_at after own place d e mark r h is =
    let a : place < length after = grind (arith, h) in
    let o : place < length own = grind (arith, h) in
    is ∙ sym (ap₂ (λ x y. against x y mark) (slice_get-get_or after place d a) (slice_get-get_or own place e o))

other_by : (b a o : ℕ) (mark r : Mark) → b ≢ a → r ≡ (if a == o then New else Behind) → r ≡ where_other (Some b) (Some a) mark (against (Some a) (Some o) mark)
other_by b a o mark r ne e =
    let differ : (b == a) ≡ false = grind (arith, nat_tests, ne) in
    e ∙ sym (ap (λ t. if t then mark else (if a == o then New else Behind)) differ)

pub outrun_at : (before after own : List ℕ) (place : ℕ) (d e f : ℕ) (mark r : Mark) → place < min (min (length before) (length after)) (length own) → get_or before place d ≢ get_or after place e → r ≡ (if get_or after place e == get_or own place f then New else Behind) → r ≡ rewritten before after (outrun after own) place mark
outrun_at before after own place d e f mark r h ne is =
    let b : place < length before = grind (arith, h) in
    let a : place < length after = grind (arith, h) in
    let o : place < length own = grind (arith, h) in
    other_by (get_or before place d) (get_or after place e) (get_or own place f) mark r ne is
    ∙ sym (ap₂ (λ x y. where_other x y mark (against y (slice_get own place) mark)) (slice_get-get_or before place d b) (slice_get-get_or after place e a)
    ∙ ap (λ z. where_other (Some (get_or before place d)) (Some (get_or after place e)) mark (against (Some (get_or after place e)) z mark)) (slice_get-get_or own place f o))
