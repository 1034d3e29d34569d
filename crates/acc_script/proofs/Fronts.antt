-- A sink that failed in one of several pieces took a front of all of them.
use Rattle.std.proofs.Common.{Bool, true, false, ◌≡◌, ℕ, suc, ◌<◌, List, [], ◌++◌, length, get_or, take, drop, Option, Some, None, refl, sym, ap, ◌∙◌, append_assoc, rules}
use Rattle.std.specs.List.{flat_map}
use Rattle.std.proofs.lemmas.List.{take-append-drop, append-nil}
use Rattle.std.proofs.lemmas.List.Concat.{flat_map-append, flat_map-cons}
use Rattle.std.proofs.Math.Seq.{drop-cons}
use Rattle.acc_script.specs.Told.{Taken, Took, TookFront, one_more}
use Rattle.acc_script.specs.Ends.{Wrote}

-- a sink took one text, failed in the next, and others follow
pub Took-then_front : (a b c : Option Taken) (xs ys more : List ℕ) → Took a b xs → TookFront b c ys
    → TookFront a c (xs ++ (ys ++ more))
Took-then_front (Some a) (Some b) (Some c) xs ys more p q = (
  xs ++ q.0,
  q.1 ++ more,
  ap (λ (z : List ℕ). xs ++ (z ++ more)) q.2 ∙ ap (λ (z : List ℕ). xs ++ z) (append_assoc q.0 q.1 more) ∙ sym (append_assoc xs q.0 (q.1 ++ more)),
  q.3 ∙ ap (λ (x : List ℕ). x ++ q.0) p.0 ∙ append_assoc a.bytes xs q.0,
  q.4 ∙ ap one_more p.1,
)
Took-then_front _ _ _ xs ys more p q = search rules

-- a sink took some pieces and failed in the next
pub front_of_pieces : {X : Type 0} (f : X → List ℕ) (a b c : Option Taken) (pieces : List X) (i : ℕ) (d : X)
    → i < length pieces → Took a b (flat_map f (take i pieces)) → TookFront b c (f (get_or pieces i d))
    → TookFront a c (flat_map f pieces)
front_of_pieces {X} f a b c pieces i d lt p q =
    let tail : flat_map f (drop i pieces) ≡ f (get_or pieces i d) ++ flat_map f (drop (suc i) pieces) = ap (flat_map f) (drop-cons pieces i d lt) ∙ flat_map-cons f (get_or pieces i d) (drop (suc i) pieces) in
    let whole : flat_map f pieces ≡ flat_map f (take i pieces) ++ (f (get_or pieces i d) ++ flat_map f (drop (suc i) pieces)) =
    ap (flat_map f) (sym (take-append-drop i pieces)) ∙ flat_map-append f (take i pieces) (drop i pieces) ∙ ap (λ (z : List ℕ). flat_map f (take i pieces) ++ z) tail in
    rw whole (Took-then_front a b c (flat_map f (take i pieces)) (f (get_or pieces i d)) (flat_map f (drop (suc i) pieces)) p q)

-- a sink took one text, and then another
pub Took_then : (a b c : Option Taken) (xs ys : List ℕ) → Took a b xs → Took b c ys → Took a c (xs ++ ys)
Took_then (Some a) (Some b) (Some c) xs ys p q =
    (q.0 ∙ ap (λ (x : List ℕ). x ++ ys) p.0 ∙ append_assoc a.bytes xs ys, q.1 ∙ p.1)
Took_then _ _ _ xs ys p q = search rules

-- a sink took a text, and then nothing
pub took_on : (a b c : Option Taken) (xs : List ℕ) → Took a b xs → Took b c [] → Took a c xs
took_on (Some a) (Some b) (Some c) xs p q = (q.0 ∙ append-nil b.bytes ∙ p.0, q.1 ∙ p.1)
took_on _ _ _ xs p q = search rules

-- a front of a text is one of the text with more behind it
pub front_more : (a b : Option Taken) (xs ys : List ℕ) → TookFront a b xs → TookFront a b (xs ++ ys)
front_more (Some a) (Some b) xs ys p =
    (p.0, p.1 ++ ys, ap (λ (z : List ℕ). z ++ ys) p.2 ∙ append_assoc p.0 p.1 ys, p.3, p.4)
front_more _ _ xs ys p = search rules

-- a sink took one text and failed in the next
pub front_then : (a b c : Option Taken) (xs ys : List ℕ) → Took a b xs → TookFront b c ys → TookFront a c (xs ++ ys)
front_then (Some a) (Some b) (Some c) xs ys p q = (
  xs ++ q.0,
  q.1,
  ap (λ (z : List ℕ). xs ++ z) q.2 ∙ sym (append_assoc xs q.0 q.1),
  q.3 ∙ ap (λ (x : List ℕ). x ++ q.0) p.0 ∙ append_assoc a.bytes xs q.0,
  q.4 ∙ ap one_more p.1,
)
front_then _ _ _ xs ys p q = search rules

-- a text that was written, and what was then written of another
pub wrote_then : (a b c : Option Taken) (xs ys : List ℕ) (done : Bool) → Took a b xs → Wrote b c ys done
    → Wrote a c (xs ++ ys) done
wrote_then a b c xs ys true p q = Took_then a b c xs ys p q
wrote_then a b c xs ys false p q = front_then a b c xs ys p q

-- a sink took no bytes
pub took_nothing : (a : Option Taken) → Took a a []
took_nothing None = tt
took_nothing (Some a) = (sym (append-nil a.bytes), refl)

-- of a sink whose bytes are not known nothing is claimed
pub took_untold : (a : Option Taken) (bytes : List ℕ) → a ≡ None → Took a a bytes
took_untold a bytes e = rw e tt

-- a text that was written in parts
pub ruleset writing_laws = (wrote_then, Took_then, front_more, front_then)
