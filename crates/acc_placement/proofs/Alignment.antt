-- A fact of each range of a list, where the list changes at an index.
use Rattle.std.proofs.Common.{◌≡◌, ℕ, zero, suc, ◌+◌, ◌<◌, ◌%◌, List, [], ◌∷◌, ◌++◌, arith, subst, sym, length, get_or}
use Rattle.std.specs.Prelude.{All, Any}
use Rattle.acc_base.specs.Blocks.{rounded}

-- what holds of each of two lists holds of the first
pub All-left : (P : ℕ × ℕ → Type 0) (l r : List (ℕ × ℕ)) → All P (l ++ r) → All P l
All-left P [] r a k d lt = absurd (omega arith)
All-left P (h ∷ l) r a zero d lt = a zero d (omega arith)
All-left P (h ∷ l) r a (suc k) d lt = All-left P l r (λ j e u. a (suc j) e (omega arith)) k d (omega arith)

-- what holds of each of two lists holds of the second
pub All-right : (P : ℕ × ℕ → Type 0) (l r : List (ℕ × ℕ)) → All P (l ++ r) → All P r
All-right P [] r a = a
All-right P (h ∷ l) r a = All-right P l r (λ j e u. a (suc j) e (omega arith))

-- what holds of each range holds of one between two lists
pub All-middle : (P : ℕ × ℕ → Type 0) (l : List (ℕ × ℕ)) (x : ℕ × ℕ) (r : List (ℕ × ℕ)) → All P (l ++ x ∷ r) → P x
All-middle P l x r a = All-right P l (x ∷ r) a 0 x (omega arith)

-- what holds of each range holds of those behind one
pub All-behind : (P : ℕ × ℕ → Type 0) (l : List (ℕ × ℕ)) (x : ℕ × ℕ) (r : List (ℕ × ℕ)) → All P (l ++ x ∷ r) → All P r
All-behind P l x r a k d lt = All-right P l (x ∷ r) a (suc k) d (omega arith)

-- the range that an index reads
pub All-read : (P : ℕ × ℕ → Type 0) (xs : List (ℕ × ℕ)) (i : ℕ) (x : ℕ × ℕ) → x ≡ get_or xs i x → i < length xs → All P xs → P x
All-read P xs i x is lt a = subst P (sym is) (a i x lt)

-- the end of a taken range is a multiple of 16 where its place is
pub end_aligned : (ts : List (ℕ × ℕ)) (size at end : ℕ) → Any (λ t. (end ≡ t.0 + rounded t.1) × (t.0 < at + size) × (at < end)) ts → All (λ t. t.0 % 16 ≡ 0) ts → end % 16 ≡ 0
end_aligned ts size at end (k, t, lt, is, p) a =
    let z : t.0 % 16 ≡ 0 = subst (λ (x : ℕ × ℕ). x.0 % 16 ≡ 0) is (a k t lt) in
    omega (arith, p.0)
