-- A lease that is back, as it is told: what is known then is what the definition says. So it is of a kernel that left each
-- byte another one, whose bytes before are not asked for.
use Rattle.std.proofs.Common.{◌≡◌, ◌≢◌, ℕ, suc, zero, ◌<◌, ◌-◌, ◌+◌, ◌==◌, false, if◌then◌else◌, List, [], ◌∷◌, length, get_or, take, drop, ◌++◌, Option, Some, None, refl, sym, ap, ap₂, subst, ◌∙◌, arith}
use Rattle.std.specs.List.{slice_get, slice_set}
use Rattle.std.proofs.lemmas.Bool.Decides.{nat_tests}
use Rattle.std.proofs.lemmas.Grind.{common_steps}
use Rattle.std.proofs.lemmas.List.{ext_get_or}
use Rattle.std.proofs.lemmas.Option.{slice_get-get_or}
use Rattle.acc_base.specs.declared.attachments.Attachment.{Attachment}
use Rattle.acc_base.specs.Attachments.{is_skipped}
use Rattle.acc_base.specs.declared.items.Section.{Section}
use Rattle.acc_base.specs.Section.{host_base}
use Rattle.acc_base.specs.Ranges.{start_of}
use Rattle.acc_base.specs.Records.{State}
use Rattle.acc_base.specs.Bytes.{bytes_of}
use Rattle.acc_base.specs.Replay.{offset_lent}
use Rattle.acc_stale.specs.declared.marks.Mark.{Mark}
use Rattle.acc_stale.specs.declared.marks.Mark.TheVariants.{New}
use Rattle.acc_stale.specs.declared.known.Mapped.{Mapped}
use Rattle.acc_stale.specs.Marks.{Change, each, changed, beside_pointers, against, where_other, rewritten, outrun, filled}
use Rattle.acc_stale.specs.declared.known.Placed.{Placed}
use Rattle.acc_stale.specs.Known.{Known, on_mapped, on_section, marks_on, kernel_wrote, kernel_wrote_all}
use Rattle.acc_stale.specs.Events.{placed_in, mapped_at, known_gathered}
use Rattle.acc_stale.specs.Told.{AreOther, IsLeaseTold}
use Rattle.acc_stale.proofs.Each.{length-each, get_or-each}

-- two changes agree at so many places
abbrev pub Agree : ℕ → Change → Change → Type 0
Agree len f g = (place : ℕ) (mark : Mark) → place < len → f place mark ≡ g place mark

each_same : (f g : Change) (s : List Mark) → Agree (length s) f g → each f s ≡ each g s
each_same f g s same = ext_get_or New (each f s) (each g s) (length-each f s ∙ sym (length-each g s)) (λ i h. at i (omega (arith, h, length-each f s)))
  where
    at : (i : ℕ) → i < length s → get_or (each f s) i New ≡ get_or (each g s) i New
    at i h = get_or-each f s i New h ∙ same i (get_or s i New) h ∙ sym (get_or-each g s i New h)

pub changed_same : (f g : Change) (at len : ℕ) (marks : List Mark) → Agree len f g → changed at len f marks ≡ changed at len g marks
changed_same f g at len marks same =
    ap (λ part. take at marks ++ part ++ drop (at + len) marks) (each_same f g (take len (drop at marks)) (λ i m h. same i m (grind (arith, common_steps, h))))

pub beside_same : (block : ℕ) (attached : List Attachment) (start len : ℕ) (f g : Change) → Agree len f g → Agree len (beside_pointers block attached start f) (beside_pointers block attached start g)
beside_same block attached start len f g same place mark h = ap (λ m. if is_skipped block attached (start + place) then mark else m) (same place mark h)

other_so : (b a : ℕ) (mark next : Mark) → b ≢ a → where_other (Some b) (Some a) mark next ≡ next
other_so b a mark next ne =
    let differ : (b == a) ≡ false = grind (arith, nat_tests, ne) in
    ap (λ t. if t then mark else next) differ

rewritten_all : (len : ℕ) (before after : List ℕ) (change : Change) → AreOther len before after → Agree len (rewritten before after change) change
rewritten_all len before after change others place mark h =
    ap₂ (λ x y. where_other x y mark (change place mark)) (slice_get-get_or before place 0 (others.has_before place h)) (slice_get-get_or after place 0 (others.has_after place h))
    ∙ other_so (get_or before place 0) (get_or after place 0) mark (change place mark) (others.other place h)

-- two pairs of changes that agree in the section
wrote_same : (p : Mapped) (attached : List Attachment) (f g f2 g2 : Change) (k : Known) → Agree p.section.len f f2 → Agree p.section.len g g2 → on_section p attached f (on_mapped p attached g k) ≡ on_section p attached f2 (on_mapped p attached g2 k)
wrote_same p attached f g f2 g2 k same_f same_g =
    ap₂ (λ host marks. record { host = host; devices = slice_set k.devices p.device marks })
    (changed_same (beside_pointers p.block attached p.section.start f) (beside_pointers p.block attached p.section.start f2) (p.section.start - host_base) p.section.len k.host (beside_same p.block attached p.section.start p.section.len f f2 same_f))
    (changed_same (beside_pointers p.block attached p.section.start g) (beside_pointers p.block attached p.section.start g2) p.at p.section.len (marks_on p.device k) (beside_same p.block attached p.section.start p.section.len g g2 same_g))

all_written : (p : Mapped) (attached : List Attachment) (before after own : List ℕ) (k : Known) → AreOther p.section.len before after → kernel_wrote_all p attached after own k ≡ kernel_wrote p attached before after own k
all_written p attached before after own k others =
    let same = λ (change : Change) (place : ℕ) (mark : Mark) (h : place < p.section.len). sym (rewritten_all p.section.len before after change others place mark h) in
    wrote_same p attached (outrun after own) (filled New) (rewritten before after (outrun after own)) (rewritten before after (filled New)) k (same (outrun after own)) (same (filled New))

-- ---- bytes behind the section are not asked for

pub get_in_take : (n : ℕ) (xs : List ℕ) (i : ℕ) → i < n → slice_get (take n xs) i ≡ slice_get xs i
get_in_take zero xs i h = absurd (omega arith)
get_in_take (suc n) [] i h = refl
get_in_take (suc n) (x ∷ xs) zero h = refl
get_in_take (suc n) (x ∷ xs) (suc i) h = get_in_take n xs i (omega arith)

own_within : (len : ℕ) (after own : List ℕ) → Agree len (outrun after (take len own)) (outrun after own)
own_within len after own place mark h = ap (λ o. against (slice_get after place) o mark) (get_in_take len own place h)

found_within : (len : ℕ) (before after : List ℕ) (f g : Change) → Agree len f g → Agree len (rewritten (take len before) after f) (rewritten before after g)
found_within len before after f g same place mark h = ap₂ (λ o m. where_other o (slice_get after place) mark m) (get_in_take len before place h) (same place mark h)

wrote_within : (p : Mapped) (attached : List Attachment) (before after own : List ℕ) (k : Known) → kernel_wrote p attached (take p.section.len before) after (take p.section.len own) k ≡ kernel_wrote p attached before after own k
wrote_within p attached before after own k =
    let len : ℕ = p.section.len in
    wrote_same p attached (rewritten (take len before) after (outrun after (take len own))) (rewritten (take len before) after (filled New)) (rewritten before after (outrun after own)) (rewritten before after (filled New)) k
    (found_within len before after (outrun after (take len own)) (outrun after own) (own_within len after own))
    (found_within len before after (filled New) (filled New) (λ place mark h. refl))

all_within : (p : Mapped) (attached : List Attachment) (after own : List ℕ) (k : Known) → kernel_wrote_all p attached after (take p.section.len own) k ≡ kernel_wrote_all p attached after own k
all_within p attached after own k = wrote_same p attached (outrun after (take p.section.len own)) (filled New) (outrun after own) (filled New) k (own_within p.section.len after own) (λ place mark h. refl)

-- ---- as it is told

-- where a lease comes back, and what the kernel found there, in a state
abbrev lent_in : Placed → List ℕ → State → Section
lent_in p after s = record { start = start_of p.block s.records.ranges + offset_lent p.block s.records.loans; len = length after }

lent_so : (p : Placed) (section : Section) (after : List ℕ) (s : State) → section.start ≡ start_of p.block s.records.ranges + offset_lent p.block s.records.loans → section.len ≡ length after → section ≡ lent_in p after s
lent_so p section after s start len = ap₂ (λ a n. record { start = a; len = n }) start len

abbrev found_in : Placed → State → List ℕ
found_in p s = drop (offset_lent p.block s.records.loans) (bytes_of p.block s.memories)

-- of a block that lies there
placed_back : (p : Placed) (section : Section) (attached : List Attachment) (found : Option (List ℕ)) (after own : List ℕ) (s : State) (k : Known) → IsLeaseTold p section attached found after own s → kernel_wrote (mapped_at p section) attached (found_in p s) after (drop (section.start - host_base) s.host) k ≡ known_gathered p.device p.block after s k
placed_back p section attached found after own s k back =
    let in_state = λ (x : Placed) (a : List Attachment) (at : Section). kernel_wrote (mapped_at x at) a (found_in p s) after (drop (at.start - host_base) s.host) k in
    ap (λ x. in_state x attached section) back.there.placed
    ∙ ap₂ (λ a at. in_state (placed_in p.device p.block s) a at) back.there.pointers (lent_so p section after s back.from back.len)

found_back : (p : Placed) (section : Section) (attached : List Attachment) (before after own : List ℕ) (s : State) (k : Known) → IsLeaseTold p section attached (Some before) after own s → kernel_wrote (mapped_at p section) attached before after own k ≡ known_gathered p.device p.block after s k
found_back p section attached before after own s k back =
    ap₂ (λ b o. kernel_wrote (mapped_at p section) attached b after o k) back.kernel back.host
    ∙ wrote_within (mapped_at p section) attached (found_in p s) after (drop (section.start - host_base) s.host) k
    ∙ placed_back p section attached (Some before) after own s k back

other_back : (p : Placed) (section : Section) (attached : List Attachment) (after own : List ℕ) (s : State) (k : Known) → IsLeaseTold p section attached None after own s → kernel_wrote_all (mapped_at p section) attached after own k ≡ known_gathered p.device p.block after s k
other_back p section attached after own s k back =
    ap (λ o. kernel_wrote_all (mapped_at p section) attached after o k) back.host
    ∙ all_within (mapped_at p section) attached after (drop (section.start - host_base) s.host) k
    ∙ all_written (mapped_at p section) attached (found_in p s) after (drop (section.start - host_base) s.host) k back.kernel
    ∙ placed_back p section attached None after own s k back

-- whichever it was
pub back_found : (p : Placed) (section : Section) (attached : List Attachment) (found : Option (List ℕ)) (before after own : List ℕ) (s : State) (k r : Known) → found ≡ Some before → r ≡ kernel_wrote (mapped_at p section) attached before after own k → IsLeaseTold p section attached found after own s → r ≡ known_gathered p.device p.block after s k
back_found p section attached found before after own s k r e is = subst (λ (f : Option (List ℕ)). IsLeaseTold p section attached f after own s → r ≡ known_gathered p.device p.block after s k) (sym e) (λ back. is ∙ found_back p section attached before after own s k back)

pub back_other : (p : Placed) (section : Section) (attached : List Attachment) (found : Option (List ℕ)) (after own : List ℕ) (s : State) (k r : Known) → found ≡ None → r ≡ kernel_wrote_all (mapped_at p section) attached after own k → IsLeaseTold p section attached found after own s → r ≡ known_gathered p.device p.block after s k
back_other p section attached found after own s k r e is = subst (λ (f : Option (List ℕ)). IsLeaseTold p section attached f after own s → r ≡ known_gathered p.device p.block after s k) (sym e) (λ back. is ∙ other_back p section attached after own s k back)
