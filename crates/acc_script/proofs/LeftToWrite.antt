-- A text of which a front was written.
use Rattle.std.proofs.Common.{◌≡◌, ℕ, List, [], ◌++◌, Option, refl, sym, ap, ◌∙◌, append_assoc}
use Rattle.std.proofs.lemmas.List.{append-nil}
use Rattle.acc_script.specs.Told.{Taken, Took, TookFront}
use Rattle.acc_script.proofs.Fronts.{took_nothing, Took_then, Took-then_front}

-- a sink took a front of a text, and this is what is left of it
abbrev pub Leaves : Option Taken → Option Taken → List ℕ → List ℕ → Type 0
Leaves old new whole left = (front : List ℕ) × (whole ≡ front ++ left) × Took old new front

-- before anything is written, all of it is left
pub leaves_all : (a : Option Taken) (whole : List ℕ) → Leaves a a whole whole
leaves_all a whole = ([], refl, took_nothing a)

-- one part more was written
pub leaves_less : (a b c : Option Taken) (whole left part more : List ℕ) → left ≡ part ++ more → Leaves a b whole left
    → Took b c part → Leaves a c whole more
leaves_less a b c whole left part more e h p = (h.0 ++ part, h.1 ∙ ap (λ (x : List ℕ). h.0 ++ x) e ∙ sym (append_assoc h.0 part more), Took_then a b c h.0 part h.2 p)

-- the sink failed in the next part
pub leaves_lost : (a b c : Option Taken) (whole left part more : List ℕ) → left ≡ part ++ more → Leaves a b whole left
    → TookFront b c part → TookFront a c whole
leaves_lost a b c whole left part more e h p =
    rw (h.1 ∙ ap (λ (x : List ℕ). h.0 ++ x) e) (Took-then_front a b c h.0 part more h.2 p)

-- nothing is left
pub leaves_none : (a b : Option Taken) (whole left : List ℕ) → left ≡ [] → Leaves a b whole left → Took a b whole
leaves_none a b whole left e h = rw (h.1 ∙ ap (λ (x : List ℕ). h.0 ++ x) e ∙ append-nil h.0) h.2
