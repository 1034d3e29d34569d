-- What a sink takes over several writes.
use Rattle.std.proofs.Common.{◌≡◌, ℕ, ◌+◌, ◌<◌, List, ◌++◌, length, take, drop, length-drop, Option, Some, None, false, sym, ap, ◌∙◌, append_assoc, arith}
use Rattle.std.specs.Prelude.{◌==◌}
use Rattle.std.proofs.Math.Seq.{take-add}
use Rattle.std.proofs.lemmas.List.{take-append-drop, append-nil}
use Rattle.std.proofs.lemmas.Grind.{common_steps}
use Rattle.acc_script.specs.Told.{Taken, Took, TookFront, Becomes, after_write, one_more}

-- a positive number is not zero
pub not_zero : (n : ℕ) → 0 < n → (n == 0) ≡ false
not_zero n lt = grind (arith, common_steps)

-- a write that took some bytes, behind those before
pub took_more : (a b c : Option Taken) (bytes : List ℕ) (at n : ℕ) → Took a b (take at bytes)
    → Becomes b c (λ t. after_write t (Some n) (drop at bytes)) → at < length bytes → 0 < n
    → Took a c (take (at + n) bytes)
took_more None b c bytes at n p h lt some = tt
took_more (Some a) None c bytes at n p h lt some = absurd p
took_more (Some a) (Some b) c bytes at n p h lt some =
    let has_room : (length (drop at bytes) == 0) ≡ false = not_zero (length (drop at bytes)) (omega (arith, length-drop at bytes)) in
    rw (h, has_room, not_zero n some) (ap (λ (x : List ℕ). x ++ take n (drop at bytes)) p.0 ∙ append_assoc a.bytes (take at bytes) (take n (drop at bytes)) ∙ ap (λ (x : List ℕ). a.bytes ++ x) (sym (take-add at n bytes)), p.1)

-- a write that failed, behind those that took a front
pub took_none : (a b c : Option Taken) (bytes : List ℕ) (at : ℕ) → Took a b (take at bytes)
    → Becomes b c (λ t. after_write t None (drop at bytes)) → TookFront a c bytes
took_none None b c bytes at p h = tt
took_none (Some a) None c bytes at p h = absurd p
took_none (Some a) (Some b) c bytes at p h =
    rw h (take at bytes, drop at bytes, sym (take-append-drop at bytes), p.0, ap one_more p.1)

-- a write that took no byte, behind those that took a front
pub took_zero : (a b c : Option Taken) (bytes : List ℕ) (at : ℕ) → Took a b (take at bytes)
    → Becomes b c (λ t. after_write t (Some 0) (drop at bytes)) → at < length bytes → TookFront a c bytes
took_zero None b c bytes at p h lt = tt
took_zero (Some a) None c bytes at p h lt = absurd p
took_zero (Some a) (Some b) c bytes at p h lt =
    let has_room : (length (drop at bytes) == 0) ≡ false = not_zero (length (drop at bytes)) (omega (arith, length-drop at bytes)) in
    rw (h, has_room) (take at bytes, drop at bytes, sym (take-append-drop at bytes), append-nil b.bytes ∙ p.0, ap one_more p.1)

-- what a sink took after a piece
pub ruleset taking_laws = (took_more, took_none, took_zero)
