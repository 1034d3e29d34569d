-- Which bytes of a block are those of attached pointers.
use Rattle.std.proofs.Common.{ℕ, ◌≡◌, ◌≤◌, refl, Bool, true, false, cond, List, [], ◌∷◌, Some, arith}
use Rattle.std.specs.Prelude.{◌==◌, ◌&&◌, ◌||◌, nat_le, find, option_map}
use Rattle.std.specs.List.{AllByRecursion}
use Rattle.std.proofs.lemmas.Bool.Decides.{nat_tests}
use Rattle.acc_base.specs.declared.attachments.Attachment.{Attachment}
use Rattle.acc_base.specs.Section.{covers}
use Rattle.acc_base.specs.Attachments.{pointer_at, is_skipped, next_pointer}
use Rattle.acc_base.proofs.Results.{and_true, equal}

-- the next pointer from an address on begins there or above it
pub next_low : (block from : ℕ) (xs : List Attachment) (p : ℕ) → next_pointer block from xs ≡ Some p → from ≤ p
next_low block from [] p e = cc
next_low block from (a ∷ xs) p e = go (next_low block from xs p) (a.block == block && nat_le from a.pointer) refl e
  where
    go : (next_pointer block from xs ≡ Some p → from ≤ p) → (b : Bool) → (a.block == block && nat_le from a.pointer) ≡ b
        → option_map (λ (x : Attachment). x.pointer) (cond b (Some a) (find (λ x. x.block == block && nat_le from x.pointer) xs)) ≡ Some p → from ≤ p
    go rest true t h =
        let is : a.pointer ≡ p = cc in
        let low : nat_le from a.pointer ≡ true = (and_true (a.block == block) (nat_le from a.pointer) t).1 in
        grind (arith, nat_tests)
    go rest false t h = rest h

-- a block without attachment counters has no byte that is skipped
pub fresh-clear : (block : ℕ) (xs : List Attachment) → AllByRecursion (λ a. a.block ≡ block → ⊥) xs → (address : ℕ) → is_skipped block xs address ≡ false
fresh-clear block [] h address = refl
fresh-clear block (a ∷ xs) h address = go (fresh-clear block xs h.1 address) (a.block == block) refl
  where
    go : is_skipped block xs address ≡ false → (b : Bool) → (a.block == block) ≡ b → ((b && covers (pointer_at a.pointer) address) || is_skipped block xs address) ≡ false
    go rest true e = absurd (h.0 (equal a.block block e))
    go rest false e = rest
