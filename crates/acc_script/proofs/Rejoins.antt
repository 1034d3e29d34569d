-- A reader of std gives what it had at first, less what is left.
use Rattle.std.proofs.Common.{◌≡◌, ℕ, ◌-◌, Bool, List, ◌++◌, length, take, Option, Some, None, refl, sym, ap, ◌∙◌, append_assoc, arith, rules, length-append}
use Rattle.std.proofs.lemmas.List.{take_at}
use Rattle.std.proofs.lemmas.Bool.Decides.{nat_tests}
use Rattle.std.specs.Io.KnownBytes.{Consumes, Keeps, IsAtEnd}
use Rattle.std.specs.Prelude.{zero, suc, ◌<◌, ◌==◌, true, false, [], ◌∷◌}
use Rattle.acc_script.specs.Streams.{offered_of, given_by, rejoined, HandsOut, EndsEmpty, EndsAt}
use Rattle.acc_script.specs.Told.{Given, Becomes, one_more}

-- a known list
abbrev some_list : List ℕ → Option (List ℕ)
some_list x = Some x

-- known lists that are the same, without their wrapping
list_is : (x y : List ℕ) → some_list x ≡ Some y → x ≡ y
list_is x y e = cc

-- what was given, after some more bytes were consumed
consumed : (all left after bs : List ℕ) → take (length all - length left) all ++ left ≡ all → left ≡ bs ++ after
    → take (length all - length after) all ≡ take (length all - length left) all ++ bs
consumed all left after bs whole e =
    let p : List ℕ = take (length all - length left) all in
    let regrouped : all ≡ (p ++ bs) ++ after = sym whole ∙ ap (λ (x : List ℕ). p ++ x) e ∙ sym (append_assoc p bs after) in
    let len : length (p ++ bs) ≡ length all - length after = omega (arith, ap length regrouped, length-append (p ++ bs) after) in
    ap (take (length all - length after)) regrouped ∙ take_at (p ++ bs) after (length all - length after) len

-- what was given and what is left make the whole, after some more bytes were consumed
rejoins : (all left after bs : List ℕ) → take (length all - length left) all ++ left ≡ all → left ≡ bs ++ after
    → take (length all - length after) all ++ after ≡ all
rejoins all left after bs whole e = rw (consumed all left after bs whole e) (append_assoc (take (length all - length left) all) bs after ∙ ap (λ (x : List ℕ). take (length all - length left) all ++ x) (sym e) ∙ whole)

-- what was given and what is left make the whole, over a read
pub follows_read : (start old new : Option (List ℕ)) (bs : List ℕ) → rejoined start old ≡ start → Consumes old new bs
    → rejoined start new ≡ start
follows_read (Some all) (Some left) (Some after) bs h c = ap some_list (rejoins all left after bs (list_is _ all h) c)
follows_read _ _ _ bs h c = search rules

-- what was given and what is left make the whole, where nothing was consumed
pub follows_kept : (start old new : Option (List ℕ)) → rejoined start old ≡ start → Keeps old new
    → rejoined start new ≡ start
follows_kept (Some all) (Some left) (Some after) h c = rw c h
follows_kept _ _ _ h c = search rules

-- what a source is known to have given
abbrev some_given : Given → Option Given
some_given g = Some g

-- a read gives the bytes that it consumed
pub gives_read : (start old new : Option (List ℕ)) (bs : List ℕ) (ended next : Bool) (failures : ℕ)
    → rejoined start old ≡ start → Consumes old new bs
    → Becomes (given_by (offered_of start old ended failures)) (given_by (offered_of start new next failures))
    (λ g. record { bytes = g.bytes ++ bs; ended = next; failures = g.failures })
gives_read (Some all) (Some left) (Some after) bs ended next failures h c = ap (λ (x : List ℕ). some_given (record { bytes = x; ended = next; failures = failures })) (consumed all left after bs (list_is _ all h) c)
gives_read _ _ _ bs ended next failures h c = search rules

-- a read that failed gives nothing, and is one more failure
pub gives_nothing : (start old new : Option (List ℕ)) (ended : Bool) (failures more : ℕ) → Keeps old new
    → more ≡ one_more failures
    → Becomes (given_by (offered_of start old ended failures)) (given_by (offered_of start new ended more))
    (λ g. record g { failures = one_more g.failures })
gives_nothing (Some all) (Some left) (Some after) ended failures more c e = rw (c, e) refl
gives_nothing _ _ _ ended failures more c e = search rules

-- a read gives the front of what was left
pub hands_read : (start old new : Option (List ℕ)) (n : ℕ) (piece : List ℕ) (ended next : Bool) (failures more : ℕ)
    → rejoined start old ≡ start → Consumes old new (take n piece)
    → HandsOut (offered_of start old ended failures) (offered_of start new next more) (Some n) piece
hands_read (Some all) (Some left) (Some after) n piece ended next failures more h c = c
hands_read _ _ _ n piece ended next failures more h c = search rules

-- a read that failed leaves what was left
pub hands_nothing : (start old new : Option (List ℕ)) (piece : List ℕ) (ended next : Bool) (failures more : ℕ)
    → rejoined start old ≡ start → Keeps old new
    → HandsOut (offered_of start old ended failures) (offered_of start new next more) None piece
hands_nothing (Some all) (Some left) (Some after) piece ended next failures more h c = c
hands_nothing _ _ _ piece ended next failures more h c = search rules

-- what is known of the end stays true where nothing was consumed
pub ends_kept : (start old new : Option (List ℕ)) (ended : Bool) → rejoined start old ≡ start → EndsAt start ended old
    → Keeps old new → EndsAt start ended new
ends_kept (Some all) (Some left) (Some after) true h e c = rw c e
ends_kept _ _ _ _ h e c = search rules

-- a read that gave nothing, into a piece with room, was at the end
pub ends_read : (start new : Option (List ℕ)) (n len : ℕ) → (n ≡ 0 → 0 < len → IsAtEnd new) → 0 < len
    → EndsAt start (n == 0) new
ends_read None new n len h lt = tt
ends_read (Some all) new (suc n) len h lt =
    let t : (suc n == 0) ≡ false = grind (arith, nat_tests) in
    rw t tt
ends_read (Some all) None zero len h lt = tt
ends_read (Some all) (Some left) zero len h lt = h refl lt

-- a read into a piece without room leaves what is known of the end
pub ends_without_room : (start old new : Option (List ℕ)) (ended : Bool) (bs : List ℕ) → rejoined start old ≡ start
    → EndsAt start ended old → Consumes old new bs → length bs ≡ 0 → EndsAt start ended new
ends_without_room (Some all) (Some left) (Some after) true [] h e c l = sym c ∙ e
ends_without_room (Some all) (Some left) (Some after) true (b ∷ bs) h e c l = absurd (omega arith)
ends_without_room _ _ _ _ bs h e c l = search rules

-- what a reader is known to have left is nothing once it met its end
pub ends_empty : (start left : Option (List ℕ)) (ended : Bool) (failures : ℕ) → EndsAt start ended left
    → EndsEmpty (offered_of start left ended failures)
ends_empty None left ended failures e = tt
ends_empty (Some all) None ended failures e = tt
ends_empty (Some all) (Some left) true failures e = λ _. e
ends_empty (Some all) (Some left) false failures e = λ told. absurd cc

-- what a read leaves of a stream, and what it gives
pub ruleset reading_laws = (follows_read, follows_kept, gives_read, gives_nothing, hands_read, hands_nothing, ends_kept, ends_read, ends_without_room, ends_empty)
