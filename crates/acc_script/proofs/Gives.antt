-- What a source gives over several reads.
use Rattle.std.proofs.Common.{◌≡◌, ℕ, ◌+◌, ◌≤◌, List, ◌++◌, length, take, drop, Option, Some, None, refl, sym, ap, ◌∙◌, append_assoc, rules}
use Rattle.std.proofs.lemmas.List.{take_at, take-append-le, take-append-drop, drop-drop}
use Rattle.std.proofs.Math.Seq.{take-add}
use Rattle.acc_script.specs.Told.{Given, Gave, Becomes, after_read}

-- the bytes up to a place and some more, as those before and those given
pub given_further : (at n : ℕ) (bytes given rest : List ℕ) → given ≡ take n (drop at bytes) → length given ≡ n
    → take (at + n) bytes ≡ take at bytes ++ take n (given ++ rest)
given_further at n bytes given rest e len =
    take-add at n bytes ∙ ap (λ (x : List ℕ). take at bytes ++ x) (sym e ∙ sym (take_at given rest n len))

-- bytes that a source gave, and then others
pub Gave-then : (a b c : Option Given) (xs ys : List ℕ) → Gave a b xs → Gave b c ys → Gave a c (xs ++ ys)
Gave-then (Some a) (Some b) (Some c) xs ys p q =
    (q.0 ∙ ap (λ (x : List ℕ). x ++ ys) p.0 ∙ append_assoc a.bytes xs ys, q.1 ∙ p.1)
Gave-then _ _ _ xs ys p q = search rules

-- a read into the front of a piece gave what is there
pub gave_part : (a b : Option Given) (n : ℕ) (part rest : List ℕ) → n ≤ length part
    → Becomes a b (λ g. after_read g (Some n) part) → Gave a b (take n (part ++ rest))
gave_part None b n part rest le h = tt
gave_part (Some a) b n part rest le h = rw (h, take-append-le n part rest le) (refl, refl)

-- the bytes from a place on, as those given and those behind
pub left_further : (at n : ℕ) (bytes given rest : List ℕ) → given ≡ take n (drop at bytes) → length given ≡ n
    → drop at bytes ≡ take n (given ++ rest) ++ drop (at + n) bytes
left_further at n bytes given rest e len =
    sym (take-append-drop n (drop at bytes)) ∙ ap (λ (x : List ℕ). x ++ drop n (drop at bytes)) (sym e ∙ sym (take_at given rest n len)) ∙ ap (λ (x : List ℕ). take n (given ++ rest) ++ x) (drop-drop n at bytes)
