-- Marks: what is known of each byte of a memory, and what writes and copies make of it.
use Rattle.std.specs.Prelude.{ℕ, ◌≡◌, ◌<◌, ◌+◌, ◌++◌, Bool, true, false, not, if◌then◌else◌, ◌==◌, List, map, take, drop, length, position, Option, Some, unwrap_or, option_map, slice_get, slice_index_or}
use Rattle.std.specs.List.{enumerate_from}
use Rattle.acc_base.specs.declared.attachments.Attachment.{Attachment}
use Rattle.acc_base.specs.Attachments.{is_skipped}
use Rattle.acc_stale.specs.declared.marks.Mark.{Mark}
use Rattle.acc_stale.specs.declared.marks.Run.{Run}
use Rattle.acc_stale.specs.declared.marks.Mark.TheVariants.{New, Behind, Unfilled}

-- what becomes of each mark of a section, by its place in the section
abbrev pub Change : Type 0
Change = ℕ → Mark → Mark

-- each mark changed
abbrev pub each : Change → List Mark → List Mark
each change marks = map (λ p. change p.0 p.1) (enumerate_from 0 marks)

-- so many marks from an offset on changed, and all others as they were
abbrev pub changed : ℕ → ℕ → Change → List Mark → List Mark
changed at len change marks = take at marks ++ each change (take len (drop at marks)) ++ drop (at + len) marks

-- a change that leaves out the bytes of attached pointers of a block, of a section that begins at a host address
abbrev pub beside_pointers : ℕ → List Attachment → ℕ → Change → Change
beside_pointers block attached start change place mark = if is_skipped block attached (start + place) then mark else change place mark

-- the marks that were kept where a test holds of their place, and the old ones elsewhere
pub record IsKept (test : ℕ → Bool) (kept old new : List Mark) : Type 0 where
  pub len : length new ≡ length old
  pub marks : (k : ℕ) → k < length old → slice_index_or new k New ≡ (if test k then slice_index_or kept k New else slice_index_or old k New)

-- ---- the changes

-- a new block has one mark for all its bytes
abbrev pub filled : Mark → Change
filled with_mark place mark = with_mark

-- a copy brings with each byte its mark. The bytes that are read lie from an offset on
abbrev pub copied : List Mark → ℕ → Change
copied from at place mark = unwrap_or (slice_get from (at + place)) mark

-- the mark of a byte where the other memory was written: it is behind if that has another byte now
abbrev pub against : Option ℕ → Option ℕ → Mark → Mark
against (Some written) (Some own) mark = if written == own then New else Behind
against _ _ mark = mark

-- the same of a byte of a device: one that nothing filled stays so
abbrev pub filled_against : Option ℕ → Option ℕ → Mark → Mark
filled_against written own Unfilled = Unfilled
filled_against written own mark = against written own mark

-- a device has these bytes of its own, where the host wrote those
abbrev pub outdated : List ℕ → List ℕ → Change
outdated written own place mark = filled_against (slice_get written place) (slice_get own place) mark

-- the host has these bytes of its own, where a kernel wrote those
abbrev pub outrun : List ℕ → List ℕ → Change
outrun written own place mark = against (slice_get written place) (slice_get own place) mark

-- the change of a mark where a byte is another one than before
abbrev pub where_other : Option ℕ → Option ℕ → Mark → Mark → Mark
where_other (Some before) (Some after) mark changed_mark = if before == after then mark else changed_mark
where_other _ _ mark changed_mark = mark

-- a kernel wrote the bytes that it left others than they were
abbrev pub rewritten : List ℕ → List ℕ → Change → Change
rewritten before after change place mark = where_other (slice_get before place) (slice_get after place) mark (change place mark)

-- ---- bytes that are not new

-- the two marks are one
abbrev pub is_mark : Mark → Mark → Bool
is_mark New New = true
is_mark Behind Behind = true
is_mark Unfilled Unfilled = true
is_mark _ _ = false

-- the place of the first of these marks that is another one
abbrev pub first_other : Mark → List Mark → Option ℕ
first_other mark marks = position (λ m. not (is_mark mark m)) marks

-- how many of these marks, from the first on, are this one
abbrev pub count_of : Mark → List Mark → ℕ
count_of mark marks = unwrap_or (first_other mark marks) (length marks)

-- so many marks alike from a place on
abbrev pub run_at : List Mark → ℕ → Run
run_at marks at = record { at = at; len = count_of (slice_index_or marks at New) (drop at marks); mark = slice_index_or marks at New }

-- the first marks that are not new and alike, as many as there are
abbrev pub first_run : List Mark → Option Run
first_run marks = option_map (run_at marks) (first_other New marks)
