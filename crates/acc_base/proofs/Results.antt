-- Tests, and results in a row.
use Rattle.std.proofs.Common.{ℕ, ◌≡◌, ◌<◌, refl, Bool, true, false, cond, Result, Ok, Err, ◌&&◌, arith, inl, inr}
use Rattle.std.specs.Prelude.{◌⊎◌, ◌==◌, nat_le, ⊤}
use Rattle.std.proofs.lemmas.Bool.Decides.{nat_tests}
use Rattle.acc_base.specs.declared.faults.Fault.{Fault}
use Rattle.acc_base.specs.Results.{◌>>=◌, ◌>>◌, refuse_if}

pub and_true : (a b : Bool) → (a && b) ≡ true → (a ≡ true) × (b ≡ true)
and_true true true e = (refl, refl)
and_true _ _ e = cc

pub and_false : (a b : Bool) → (a && b) ≡ false → (a ≡ false) ⊎ (b ≡ false)
and_false true b e = inr e
and_false false b e = inl refl

-- a test, with its result
pub tested : (b : Bool) → (b ≡ true) ⊎ (b ≡ false)
tested true = inl refl
tested false = inr refl

pub equal : (a b : ℕ) → (a == b) ≡ true → a ≡ b
equal a b e = grind (arith, nat_tests)

pub differ : (a b : ℕ) → (a == b) ≡ false → a ≡ b → ⊥
differ a b e same = grind (arith, nat_tests)

pub below_most : (most n : ℕ) → nat_le most n ≡ false → n < most
below_most most n e = grind (arith, nat_tests)

pub equal_self : (a : ℕ) → (a == a) ≡ true
equal_self a = grind (arith, nat_tests)

-- equality is tested either way round
pub equal_swap : (a b : ℕ) → (a == b) ≡ (b == a)
equal_swap a b = go (a == b) refl (b == a) refl
  where
    go : (s : Bool) → (a == b) ≡ s → (t : Bool) → (b == a) ≡ t → s ≡ t
    go true e false f = absurd (grind (arith, nat_tests))
    go false e true f = absurd (grind (arith, nat_tests))
    go _ e _ f = refl

pub chosen : {X : Type 0} (b : Bool) (x y z : X) → cond b x y ≡ z → ((b ≡ true) × (x ≡ z)) ⊎ ((b ≡ false) × (y ≡ z))
chosen true x y z e = inl (refl, e)
chosen false x y z e = inr (refl, e)

-- ---- results in a row

pub bind_ok : {A B : Type 0} (r : Result A Fault) (f : A → Result B Fault) (y : B) → (r >>= f) ≡ Ok y → (x : A) × (r ≡ Ok x) × (f x ≡ Ok y)
bind_ok (Ok x) f y e = (x, refl, e)
bind_ok (Err fault) f y e = cc

pub then_ok : {B : Type 0} (r : Result ⊤ Fault) (s : Result B Fault) (y : B) → (r >> s) ≡ Ok y → (r ≡ Ok tt) × (s ≡ Ok y)
then_ok (Ok x) s y e = (refl, e)
then_ok (Err fault) s y e = cc

pub ok_same : {A : Type 0} (x y : A) → ◌≡◌ {A = Result A Fault} (Ok x) (Ok y) → x ≡ y
ok_same x y e = cc

pub refused_not : (b : Bool) (fault : Fault) → refuse_if b fault ≡ Ok tt → b ≡ false
refused_not true fault e = cc
refused_not false fault e = refl
