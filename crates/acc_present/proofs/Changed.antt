-- What a change of one ring is to the queues and to their room.
use Rattle.std.proofs.Common.{ℕ, ◌≡◌, ◌≢◌, ◌+◌, ◌<◌, ◌≤◌, sym, ap, ◌∙◌, List, [], ◌∷◌, ◌++◌, length, get_or, set, drop, arith, inl, inr}
use Rattle.std.proofs.lemmas.List.{map-set, get_or-map, set-get_or, length-map, get_or-set_same, get_or-set_other}
use Rattle.std.proofs.lemmas.Bool.{cases_eq}
use Rattle.acc_base.specs.declared.transfers.Transfer.{Transfer}
use Rattle.acc_base.specs.Queues.{queue_at, put, popped}
use Rattle.acc_present.specs.Queued.{spare_at, AreRoomsKept, IsRoomTaken}
use Rattle.acc_present.specs.KeptRings.{RingState, queues_in, spares_in}

-- the queue of a number is what the ring of the number has
ring_queue : (rings : List RingState) (q : ℕ) (x : RingState) → q < length rings → x ≡ get_or rings q x → queue_at q (queues_in rings) ≡ x.transfers
ring_queue rings q x known is = get_or-map (λ (r : RingState). r.transfers) rings q x [] known ∙ ap (λ (r : RingState). r.transfers) (sym is)

-- and so is its room
spare_of : (rings : List RingState) (q : ℕ) (x : RingState) → q < length rings → x ≡ get_or rings q x → spare_at q (spares_in rings) ≡ x.spare
spare_of rings q x known is = get_or-map (λ (r : RingState). r.spare) rings q x 0 known ∙ ap (λ (r : RingState). r.spare) (sym is)

-- ---- the ring of a number is replaced: the queues

-- the transfers of the new one are those of a function of the old one's
ring_changed : (f : List Transfer → List Transfer) (rings : List RingState) (q : ℕ) (old new : RingState) → q < length rings → old ≡ get_or rings q old → new.transfers ≡ f old.transfers → queues_in (set rings q new) ≡ set (queues_in rings) q (f (queue_at q (queues_in rings)))
ring_changed f rings q old new known is e = map-set (λ (r : RingState). r.transfers) rings q new ∙ ap (λ ts. set (queues_in rings) q ts) (e ∙ ap f (sym (ring_queue rings q old known is)))

pub put_at : (rings : List RingState) (q : ℕ) (old new : RingState) (t : Transfer) → q < length rings → old ≡ get_or rings q old → new.transfers ≡ old.transfers ++ t ∷ [] → queues_in (set rings q new) ≡ put q t (queues_in rings)
put_at rings q old new t known is e = ring_changed (λ ts. ts ++ t ∷ []) rings q old new known is e

pub popped_at : (rings : List RingState) (q : ℕ) (old new : RingState) → q < length rings → old ≡ get_or rings q old → new.transfers ≡ drop 1 old.transfers → queues_in (set rings q new) ≡ popped q (queues_in rings)
popped_at rings q old new known is e = ring_changed (λ ts. drop 1 ts) rings q old new known is e

pub same_at : (rings : List RingState) (q : ℕ) (old new : RingState) → q < length rings → old ≡ get_or rings q old → new.transfers ≡ old.transfers → queues_in (set rings q new) ≡ queues_in rings
same_at rings q old new known is e = ring_changed (λ ts. ts) rings q old new known is e ∙ set-get_or (queues_in rings) q []

-- ---- the ring of a number is replaced: the room

pub spare_new : (rings : List RingState) (q : ℕ) (new : RingState) → q < length rings → spare_at q (spares_in (set rings q new)) ≡ new.spare
spare_new rings q new known = ap (λ spares. get_or spares q 0) (map-set (λ (r : RingState). r.spare) rings q new) ∙ get_or-set_same (spares_in rings) q new.spare 0 (omega (arith, length-map rings (λ (r : RingState). r.spare)))

spare_other : (rings : List RingState) (q : ℕ) (new : RingState) (other : ℕ) → other ≢ q → spare_at other (spares_in (set rings q new)) ≡ spare_at other (spares_in rings)
spare_other rings q new other differs = ap (λ spares. get_or spares other 0) (map-set (λ (r : RingState). r.spare) rings q new) ∙ get_or-set_other (spares_in rings) q other new.spare 0 differs

pub ring_taken_at : (rings : List RingState) (q : ℕ) (old new : RingState) → q < length rings → old ≡ get_or rings q old → old.spare ≤ new.spare + 1 → IsRoomTaken q (spares_in rings) (spares_in (set rings q new))
ring_taken_at rings q old new known is le = record {
  one = omega (arith, spare_of rings q old known is, spare_new rings q new known);
  others = λ other differs. omega (arith, spare_other rings q new other differs);
}

pub kept_at : (rings : List RingState) (q : ℕ) (old new : RingState) → q < length rings → old ≡ get_or rings q old → old.spare ≤ new.spare → AreRoomsKept (spares_in rings) (spares_in (set rings q new))
kept_at rings q old new known is le other = elim (cases_eq other q) [
  | inl same ↦ rw same (omega (arith, spare_of rings q old known is, spare_new rings q new known))
  | inr differs ↦ omega (arith, spare_other rings q new other differs)
]
