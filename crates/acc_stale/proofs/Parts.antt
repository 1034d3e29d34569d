-- The parts that the mapped ranges have of a write, told one after the other: what is known then is what the definition
-- says.
use Rattle.std.proofs.Common.{◌≡◌, ℕ, suc, ◌<◌, ◌≤◌, ◌-◌, ◌+◌, Bool, true, false, if◌then◌else◌, List, [], ◌∷◌, ◌++◌, map, filter, take, drop, length, get_or, refl, sym, ap, ap₂, ◌∙◌, add-zero, arith}
use Rattle.std.specs.List.{slice_set}
use Rattle.std.proofs.lemmas.Bool.Decides.{nat_tests}
use Rattle.std.proofs.lemmas.Grind.{common_steps}
use Rattle.std.proofs.lemmas.List.{set-get_or, take-append-drop, take_more}
use Rattle.acc_base.specs.declared.items.Section.{Section}
use Rattle.acc_base.specs.declared.attachments.Attachment.{Attachment}
use Rattle.acc_base.specs.declared.mappings.Range.{Range}
use Rattle.acc_base.specs.Records.{State}
use Rattle.acc_base.specs.Bytes.{bytes_of}
use Rattle.acc_base.specs.Devices.{OneDevice, Whole, view}
use Rattle.acc_stale.specs.declared.marks.Mark.{Mark}
use Rattle.acc_stale.specs.declared.known.Mapped.{Mapped}
use Rattle.acc_stale.specs.declared.writes.Part.{Part}
use Rattle.acc_stale.specs.Marks.{Change, each, changed, beside_pointers, filled_against, outdated}
use Rattle.acc_stale.specs.Known.{Known, marks_on, on_device, device_outdated, host_wrote}
use Rattle.acc_stale.specs.Events.{placed_in, mapped_at, pointers_of, known_of_range, known_of_ranges, known_of_devices}
use Rattle.acc_stale.specs.Parts.{TakenPart, both_in, has_part, part_of, parts_in, parts_on, told_part, AreParts, part_outdated, all_outdated}
use Rattle.acc_stale.proofs.Written.{Agree, changed_same, beside_same, get_in_take}

-- ---- a range that has no part

none_each : (change : Change) (marks : List Mark) → each change (take 0 marks) ≡ []
none_each change marks = refl

rejoined : (at : ℕ) (marks : List Mark) → take at marks ++ [] ++ drop (at + 0) marks ≡ marks
rejoined at marks = grind (arith, common_steps, add-zero at, take-append-drop at marks)

none_changed : (at : ℕ) (change : Change) (marks : List Mark) → changed at 0 change marks ≡ marks
none_changed at change marks = ap (λ part. take at marks ++ part ++ drop (at + 0) marks) (none_each change (drop at marks)) ∙ rejoined at marks

none_on : (d at : ℕ) (change : Change) (k : Known) → on_device d at 0 change k ≡ k
none_on d at change k =
    ap (λ marks. record k { devices = slice_set k.devices d marks }) (none_changed at change (marks_on d k))
    ∙ ap (λ devices. record k { devices = devices }) (set-get_or k.devices d [])

none_outdated : (p : Mapped) (attached : List Attachment) (written own : List ℕ) (k : Known) → p.section.len ≡ 0 → device_outdated p attached written own k ≡ k
none_outdated p attached written own k e =
    let change : Change = beside_pointers p.block attached p.section.start (outdated written own) in
    ap (λ n. on_device p.device p.at n change k) e ∙ none_on p.device p.at change k

-- ---- a range that has one

outdated_within : (len : ℕ) (written own : List ℕ) → Agree len (outdated (take len written) (take len own)) (outdated written own)
outdated_within len written own place mark h = ap₂ (λ w o. filled_against w o mark) (get_in_take len written place h) (get_in_take len own place h)

within : (p : Mapped) (attached : List Attachment) (written own : List ℕ) (k : Known) → device_outdated p attached (take p.section.len written) (take p.section.len own) k ≡ device_outdated p attached written own k
within p attached written own k =
    let short : Change = outdated (take p.section.len written) (take p.section.len own) in
    ap (λ marks. record k { devices = slice_set k.devices p.device marks })
    (changed_same (beside_pointers p.block attached p.section.start short) (beside_pointers p.block attached p.section.start (outdated written own)) p.at p.section.len (marks_on p.device k) (beside_same p.block attached p.section.start p.section.len short (outdated written own) (outdated_within p.section.len written own)))

part_so : (d addr : ℕ) (bytes : List ℕ) (s : State) (r : Range) (k : Known) → part_outdated (part_of d addr bytes s r) k ≡ known_of_range d addr bytes s r k
part_so d addr bytes s r k =
    let both : Section = both_in addr bytes r in
    within (mapped_at (placed_in d r.block s) both) (pointers_of r.block s.records.attached) (drop (both.start - addr) bytes) (drop (both.start - r.section.start) (bytes_of r.block s.memories)) k

-- ---- one after the other

no_part : (addr : ℕ) (bytes : List ℕ) (r : Range) → has_part addr bytes r ≡ false → (both_in addr bytes r).len ≡ 0
no_part addr bytes r e = grind (arith, nat_tests, e)

-- a range before others, whose parts are told
first_in : (d addr : ℕ) (bytes : List ℕ) (s : State) (r : Range) (rs : List Range) (k : Known) (b : Bool) → has_part addr bytes r ≡ b → ((x : Known) → all_outdated (parts_in d addr bytes s rs) x ≡ known_of_ranges d addr bytes s rs x) → all_outdated (parts_in d addr bytes s (r ∷ rs)) k ≡ known_of_ranges d addr bytes s (r ∷ rs) k
first_in d addr bytes s r rs k true e rest =
    ap (λ b. all_outdated (map (part_of d addr bytes s) (if b then r ∷ filter (has_part addr bytes) rs else filter (has_part addr bytes) rs)) k) e
    ∙ rest (part_outdated (part_of d addr bytes s r) k)
    ∙ ap (λ x. known_of_ranges d addr bytes s rs x) (part_so d addr bytes s r k)
first_in d addr bytes s r rs k false e rest =
    ap (λ b. all_outdated (map (part_of d addr bytes s) (if b then r ∷ filter (has_part addr bytes) rs else filter (has_part addr bytes) rs)) k) e
    ∙ rest k
    ∙ ap (λ x. known_of_ranges d addr bytes s rs x) (sym (none_outdated (mapped_at (placed_in d r.block s) (both_in addr bytes r)) (pointers_of r.block s.records.attached) (drop ((both_in addr bytes r).start - addr) bytes) (drop ((both_in addr bytes r).start - r.section.start) (bytes_of r.block s.memories)) k (no_part addr bytes r e)))

all_in : (d addr : ℕ) (bytes : List ℕ) (s : State) (ranges : List Range) (k : Known) → all_outdated (parts_in d addr bytes s ranges) k ≡ known_of_ranges d addr bytes s ranges k
all_in d addr bytes s [] k = refl
all_in d addr bytes s (r ∷ rs) k = first_in d addr bytes s r rs k (has_part addr bytes r) refl (λ x. all_in d addr bytes s rs x)

all_joined : (ps qs : List TakenPart) (k : Known) → all_outdated (ps ++ qs) k ≡ all_outdated qs (all_outdated ps k)
all_joined [] qs k = refl
all_joined (p ∷ ps) qs k = all_joined ps qs (part_outdated p k)

all_on : (d addr : ℕ) (bytes : List ℕ) (w : Whole) (devices : List OneDevice) (k : Known) → all_outdated (parts_on d addr bytes w devices) k ≡ known_of_devices d addr bytes w devices k
all_on d addr bytes w [] k = refl
all_on d addr bytes w (x ∷ xs) k =
    all_joined (parts_in d addr bytes (view d w) x.records.ranges) (parts_on (suc d) addr bytes w xs) k
    ∙ all_on (suc d) addr bytes w xs (all_outdated (parts_in d addr bytes (view d w) x.records.ranges) k)
    ∙ ap (λ y. known_of_devices (suc d) addr bytes w xs y) (all_in d addr bytes (view d w) x.records.ranges k)

-- ---- the loop over the parts

-- those before a place are told
abbrev pub outdated_to : ℕ → List Part → Known → Known
outdated_to i parts k = all_outdated (map told_part (take i parts)) k

map_joined : (xs ys : List Part) → map told_part (xs ++ ys) ≡ map told_part xs ++ map told_part ys
map_joined [] ys = refl
map_joined (x ∷ xs) ys = ap (λ zs. told_part x ∷ zs) (map_joined xs ys)

pub one_more : (i : ℕ) (parts : List Part) (d : Part) (k was r : Known) → i < length parts → was ≡ outdated_to i parts k → r ≡ part_outdated (told_part (get_or parts i d)) was → r ≡ outdated_to (i + 1) parts k
one_more i parts d k was r h before is =
    is
    ∙ ap (λ x. part_outdated (told_part (get_or parts i d)) x) before
    ∙ sym (all_joined (map told_part (take i parts)) (told_part (get_or parts i d) ∷ []) k)
    ∙ sym (ap (λ ps. all_outdated ps k) (map_joined (take i parts) (get_or parts i d ∷ [])))
    ∙ sym (ap (λ xs. all_outdated (map told_part xs) k) (take_more parts i d h))

wrote_so : (parts : List Part) (section : Section) (bytes : List ℕ) (w : Whole) (k r : Known) → AreParts parts section bytes w → r ≡ all_outdated (map told_part parts) (host_wrote section k) → r ≡ known_of_devices 0 section.start bytes w w.devices (host_wrote (record { start = section.start; len = length bytes }) k)
wrote_so parts section bytes w k r are is =
    is
    ∙ ap (λ ps. all_outdated ps (host_wrote section k)) are.all
    ∙ all_on 0 section.start bytes w w.devices (host_wrote section k)
    ∙ ap (λ n. known_of_devices 0 section.start bytes w w.devices (host_wrote (record { start = section.start; len = n }) k)) are.len

-- behind the last part
pub wrote_done : (i : ℕ) (parts : List Part) (section : Section) (bytes : List ℕ) (w : Whole) (k was r : Known) → length parts ≤ i → was ≡ host_wrote section k → r ≡ outdated_to i parts was → AreParts parts section bytes w → r ≡ known_of_devices 0 section.start bytes w w.devices (host_wrote (record { start = section.start; len = length bytes }) k)
wrote_done i parts section bytes w k was r end before is are =
    let all : take i parts ≡ parts = grind (arith, common_steps, end) in
    wrote_so parts section bytes w k r are (is ∙ ap₂ (λ xs x. all_outdated (map told_part xs) x) all before)
