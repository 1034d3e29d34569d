-- What a device keeps of the blocks whose mapping has ended, as its slots and its index change.
use Rattle.std.proofs.Common.{ℕ, ◌≡◌, ◌+◌, ◌≤◌, refl, sym, ap, ◌∙◌, subst, Bool, false, List, [], ◌∷◌, ◌++◌, Option, Some}
use Rattle.std.proofs.lemmas.Option.{same_Some}
use Rattle.acc_base.specs.declared.mappings.Ended.{Ended}
use Rattle.acc_base.specs.Blocks.{rounded, block_at}
use Rattle.acc_base.proofs.Elements.{AllByRecursion-map}
use Rattle.acc_placement.specs.Space.{Space}
use Rattle.acc_dev.specs.declared.entries.Stored.{Stored}
use Rattle.acc_dev.specs.Device.{DeviceState}
use Rattle.acc_dev.specs.Marks.{Mark, new_mark, is_ended_at, pins_at, lowest_ended, ended_told}
use Rattle.acc_dev.specs.Kept.{mark_from, slot_of, blocks_in, marks_in, AreSlotsKept, AreNumbersBorn, IsStoredOf}
use Rattle.acc_dev.specs.Ending.{EndedState, AreEndedKept}
use Rattle.acc_dev.proofs.Slots.{marks_in_step}
use Rattle.acc_dev.proofs.Keeping.{device_of, apart_of}
use Rattle.acc_dev.proofs.EndedPlaces.{AreOwn, own_of, IsFound, found_in, IsNextEnded, ended_born}

-- each block of a device has a number and a place of its own
pub own_in : (h : Space) (s : List (Option Stored)) (xs : List (ℕ × ℕ)) (births : ℕ) (room : List ℕ) → AreSlotsKept h s xs → AreNumbersBorn xs births → AreOwn (blocks_in s xs)
own_in h s xs births room k c = own_of (device_of h s xs births room).memory (blocks_in s xs) births (apart_of h s xs births room k c)

-- what a slot has, as the blocks and the marks say it
pub found_stored : (h : Space) (s : List (Option Stored)) (xs : List (ℕ × ℕ)) (births n : ℕ) (room : List ℕ) (x : Stored) (now : DeviceState) → AreSlotsKept h s xs → AreNumbersBorn xs births → device_of h s xs births room ≡ now → IsStoredOf now n x
    → IsFound n (blocks_in s xs) (marks_in s xs) (record { number = n; place = x.place; len = x.len }) x.ended
found_stored h s xs births n room x now k c is stored =
    found_in n (blocks_in s xs) (marks_in s xs) (record { number = n; place = x.place; len = x.len }) x.ended (own_in h s xs births room k c) (marks_in_step s xs)
    (ap (λ (d : DeviceState). block_at n d.blocks) is ∙ stored.block_is) (ap (λ (d : DeviceState). is_ended_at n d.marks) is ∙ sym stored.ended)

-- what the slot of a mapped block has
pub mapped_stored : (h : Space) (s : List (Option Stored)) (xs : List (ℕ × ℕ)) (births n : ℕ) (room : List ℕ) (x : Stored) (now : DeviceState) → AreSlotsKept h s xs → AreNumbersBorn xs births → device_of h s xs births room ≡ now → IsStoredOf now n x → is_ended_at n now.marks ≡ false
    → IsFound n (blocks_in s xs) (marks_in s xs) (record { number = n; place = x.place; len = x.len }) false
mapped_stored h s xs births n room x now k c is stored mapped =
    subst (λ (o : Bool). IsFound n (blocks_in s xs) (marks_in s xs) (record { number = n; place = x.place; len = x.len }) o) (stored.ended ∙ mapped) (found_stored h s xs births n room x now k c is stored)

-- a birth leaves it
pub ended_put : (e between d : EndedState) (s s' t : List (Option Stored)) (xs xs' ys : List (ℕ × ℕ)) (births place len : ℕ) → AreEndedKept e (blocks_in s xs) (marks_in s xs) births → AreNumbersBorn xs births
    → between.entries ≡ e.entries → between.mapped ≡ e.mapped → s' ≡ s → xs' ≡ xs
    → blocks_in t ys ≡ blocks_in s' xs' ++ record { number = births + 1; place = place; len = len } ∷ [] → marks_in t ys ≡ marks_in s' xs' ++ new_mark (births + 1) ∷ []
    → d.entries ≡ between.entries → d.mapped ≡ between.mapped + 1 → AreEndedKept d (blocks_in t ys) (marks_in t ys) (births + 1)
ended_put e between d s s' t xs xs' ys births place len k c entries mapped slots index blocks marks entries' mapped' =
    let now : AreEndedKept d (blocks_in s xs ++ record { number = births + 1; place = place; len = len } ∷ []) (marks_in s xs ++ new_mark (births + 1) ∷ []) (births + 1) =
    ended_born e d (blocks_in s xs) (marks_in s xs) births (record { number = births + 1; place = place; len = len }) k
    (AllByRecursion-map (λ (m : Mark). m.block ≤ births) (λ (x : ℕ × ℕ). mark_from x.0 (slot_of s x)) xs c.below) refl (entries' ∙ entries) (mapped' ∙ ap (λ n. n + 1) mapped) in
    rw (blocks, marks, slots, index) now

-- what a query says of the next block that has ended
pub told_next : (h : Space) (s : List (Option Stored)) (xs : List (ℕ × ℕ)) (births n from : ℕ) (room : List ℕ) (x : Stored) (now : DeviceState) → device_of h s xs births room ≡ now → IsNextEnded from (marks_in s xs) (blocks_in s xs) (Some n) → IsStoredOf now n x
    → Some (record { place = x.place; size = rounded x.len; pins = x.pins }) ≡ lowest_ended from now.marks now.blocks
told_next h s xs births n from room x now is next stored =
    let same : next.0 ≡ record { number = n; place = x.place; len = x.len } = same_Some _ _ (sym next.1 ∙ ap (λ (d : DeviceState). block_at n d.blocks) is ∙ stored.block_is) in
    let pins : x.pins ≡ pins_at n (marks_in s xs) = stored.pins ∙ sym (ap (λ (d : DeviceState). pins_at n d.marks) is) in
    let told : ended_told (marks_in s xs) next.0 ≡ record { place = x.place; size = rounded x.len; pins = x.pins } = ap (ended_told (marks_in s xs)) same ∙ ap (λ (p : ℕ). let e : Ended = record { place = x.place; size = rounded x.len; pins = p } in e) (sym pins) in
    sym (ap Some told) ∙ sym next.2 ∙ ap (λ (d : DeviceState). lowest_ended from d.marks d.blocks) is
