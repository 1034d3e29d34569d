-- What two lists of clones have in common.
use Rattle.std.proofs.Common.{◌≡◌, refl, List, [], ◌∷◌}
use Rattle.std.specs.Prelude.{map}
use Rattle.std.specs.List.{AllZip}

-- what each clone has in common with its source, the lists have
pub same_of_clones : {X B : Type 0} (R : X → X → Type 0) (v : X → B) (xs ys : List X) → AllZip R xs ys → ((x y : X) → R x y → v y ≡ v x) → map v ys ≡ map v xs
same_of_clones R v [] [] h same = refl
same_of_clones R v [] (y ∷ ys) h same = absurd h
same_of_clones R v (x ∷ xs) [] h same = absurd h
same_of_clones R v (x ∷ xs) (y ∷ ys) h same = λ i. same x y h.0 i ∷ same_of_clones R v xs ys h.1 same i
