-- The memories of blocks that are there, where a block is gone or none is.
use Rattle.std.proofs.Common.{ℕ, ◌≡◌, refl, ◌∙◌, ap, Bool, true, false, cond, List, [], ◌∷◌, ◌&&◌, ◌||◌, arith}
use Rattle.std.specs.Prelude.{◌==◌, filter, not}
use Rattle.std.specs.List.{AllByRecursion, AllZip, list_any}
use Rattle.std.proofs.lemmas.Bool.Decides.{nat_tests}
use Rattle.acc_base.specs.Words.{Block, Loan}
use Rattle.acc_base.specs.Records.{Memory}
use Rattle.acc_base.specs.Blocks.{without_block}
use Rattle.acc_base.specs.Bytes.{memories_kept}
use Rattle.acc_base.specs.Accounts.{IsMemoryOf}
use Rattle.acc_base.proofs.Results.{equal_self}
use Rattle.acc_base.proofs.Elements.{AllByRecursion-weaker}

-- ---- memories of blocks that are there

-- a block of the number is there
abbrev has : List Block → ℕ → Bool
has blocks n = list_any (λ (b : Block). b.number == n) blocks

or_true : (x y : Bool) → y ≡ true → (x || y) ≡ true
or_true true y e = refl
or_true false y e = e

owners_there : (ls : List Loan) (ms : List Memory) (bs : List Block) → AllZip (IsMemoryOf ls) ms bs → AllByRecursion (λ m. has bs m.block ≡ true) ms
owners_there ls [] [] h = tt
owners_there ls (m ∷ ms) (b ∷ bs) h = (
  (let e : (b.number == m.block) ≡ true = rw h.0.block (equal_self b.number) in rw e),
  AllByRecursion-weaker (λ x. has bs x.block ≡ true) (λ x. has (b ∷ bs) x.block ≡ true) ms (λ x e. or_true (b.number == x.block) (has bs x.block) e) (owners_there ls ms bs h.1),
)
owners_there ls _ _ h = absurd h

has-without : (k n : ℕ) (blocks : List Block) → has (without_block k blocks) n ≡ (not (n == k) && has blocks n)
has-without k n [] = go (n == k)
  where
    go : (t : Bool) → false ≡ (not t && false)
    go true = refl
    go false = refl
has-without k n (b ∷ bs) = go (has-without k n bs) (b.number == k) refl (b.number == n) refl (n == k) refl
  where
    go : has (without_block k bs) n ≡ (not (n == k) && has bs n) → (x : Bool) → (b.number == k) ≡ x → (y : Bool) → (b.number == n) ≡ y → (z : Bool) → (n == k) ≡ z
        → has (cond (not x) (b ∷ without_block k bs) (without_block k bs)) n ≡ (not z && (y || has bs n))
    go rest true e true f false g = absurd (grind (arith, nat_tests))
    go rest false e true f true g = absurd (grind (arith, nat_tests))
    go rest false e true f false g = ap (λ t. t || has (without_block k bs) n) f
    go rest false e false f z g = ap (λ t. t || has (without_block k bs) n) f ∙ (rest ∙ ap (λ t. not t && has bs n) g)
    go rest true e _ f _ g = rest ∙ ap (λ t. not t && has bs n) g

pub filter-same : {X : Type 0} (p q : X → Bool) (xs : List X) → AllByRecursion (λ x. p x ≡ q x) xs → filter p xs ≡ filter q xs
filter-same p q [] h = refl
filter-same {X} p q (x ∷ xs) h = rw h.0 (ap (λ ys. cond (q x) (x ∷ ys) ys) (filter-same p q xs h.1))

and_unit : (x : Bool) → (x && true) ≡ x
and_unit true = refl
and_unit false = refl

-- one block is gone, and its memory with it
pub memories_kept-without : (ls : List Loan) (k : ℕ) (ms : List Memory) (bs : List Block) → AllZip (IsMemoryOf ls) ms bs → memories_kept (without_block k bs) ms ≡ filter (λ m. not (m.block == k)) ms
memories_kept-without ls k ms bs h = filter-same (λ m. has (without_block k bs) m.block) (λ m. not (m.block == k)) ms
    (AllByRecursion-weaker (λ m. has bs m.block ≡ true) (λ m. has (without_block k bs) m.block ≡ not (m.block == k)) ms (λ m there. has-without k m.block bs ∙ (ap (λ t. not (m.block == k) && t) there ∙ and_unit (not (m.block == k)))) (owners_there ls ms bs h))
