-- The first attached pointer of a block in a section, from the next pointer at the section's start or behind.
use Rattle.std.proofs.Common.{ℕ, ◌≡◌, ◌<◌, ◌≤◌, refl, Bool, true, false, cond, ◌&&◌, List, [], ◌∷◌, Some, None, arith, inl, inr}
use Rattle.std.specs.Prelude.{◌==◌, nat_le, nat_lt, find, option_map, unwrap_or}
use Rattle.std.specs.List.{AllByRecursion}
use Rattle.std.proofs.lemmas.Bool.Decides.{nat_tests}
use Rattle.acc_base.specs.declared.attachments.Attachment.{Attachment}
use Rattle.acc_base.specs.declared.items.Section.{Section}
use Rattle.acc_base.specs.Section.{covers, end_of}
use Rattle.acc_base.specs.Accounts.{EachPair}
use Rattle.acc_base.specs.Attachments.{IsBefore, is_of, count_at, next_pointer}
use Rattle.acc_base.proofs.Results.{equal}
use Rattle.acc_base.proofs.Pointers.{next_low}

never : (b : Bool) → (b && false) ≡ false
never true = refl
never false = refl

module _ (block : ℕ) (s : Section) where
  -- the pointer is the block's and begins in the section
  abbrev begins : Attachment → Bool
  begins a = a.block == block && covers s a.pointer

  -- the next pointer at the start or behind, where it begins in the section, with its counter
  pub first_begins : (p : ℕ) (xs : List Attachment) → next_pointer block s.start xs ≡ Some p → p < end_of s → find begins xs ≡ Some (record { block = block; pointer = p; count = count_at block p xs })
  first_begins p [] e less = cc
  first_begins p (x ∷ xs) e less = go (first_begins p xs) (next_low block s.start xs p) (x.block == block) refl (nat_le s.start x.pointer) refl e
    where
      go : (next_pointer block s.start xs ≡ Some p → p < end_of s → find begins xs ≡ Some (record { block = block; pointer = p; count = count_at block p xs }))
          → (next_pointer block s.start xs ≡ Some p → s.start ≤ p)
          → (b : Bool) → (x.block == block) ≡ b → (t : Bool) → nat_le s.start x.pointer ≡ t
          → option_map (λ (a : Attachment). a.pointer) (cond (b && t) (Some x) (find (λ a. a.block == block && nat_le s.start a.pointer) xs)) ≡ Some p
          → cond (b && (t && nat_lt x.pointer (end_of s))) (Some x) (find begins xs)
          ≡ Some (record { block = block; pointer = p; count = unwrap_or (option_map (λ (a : Attachment). a.count) (cond (b && x.pointer == p) (Some x) (find (is_of block p) xs))) 0 })
      go rest low true f true g h =
          let is : x.pointer ≡ p = cc in
          let inside : nat_lt x.pointer (end_of s) ≡ true = grind (arith, nat_tests) in
          let same : (x.pointer == p) ≡ true = grind (arith, nat_tests) in
          let of : x.block ≡ block = equal x.block block f in
          rw (inside, same, ← of, ← is) refl
      go rest low true f false g h =
          let from : s.start ≤ p = low h in
          let other : (x.pointer == p) ≡ false = grind (arith, nat_tests) in
          rw other (rest h less)
      go rest low false f t g h = rest h less

  -- what stands behind a pointer of the block at the section's end or above does not begin in the section
  none_behind : (x : Attachment) (xs : List Attachment) → x.block ≡ block → end_of s ≤ x.pointer → AllByRecursion (IsBefore x) xs → find begins xs ≡ None
  none_behind x [] e above h = refl
  none_behind x (y ∷ ys) e above h = go (none_behind x ys e above h.1) (y.block == block) refl (nat_lt y.pointer (end_of s)) refl
    where
      go : find begins ys ≡ None → (b : Bool) → (y.block == block) ≡ b → (t : Bool) → nat_lt y.pointer (end_of s) ≡ t
          → cond (b && (nat_le s.start y.pointer && t)) (Some y) (find begins ys) ≡ None
      go rest true f true g = absurd (past (equal y.block block f) h.0)
        where
          past : y.block ≡ block → IsBefore x y → ⊥
          past f (inl k) = omega arith
          past f (inr k) = let t : y.pointer < end_of s = grind (arith, nat_tests) in omega (arith, k.1)
      go rest true f false g = rw (never (nat_le s.start y.pointer)) rest
      go rest false f t g = rest

  -- where the next pointer begins at the section's end or above, none begins in the section
  pub none_begins : (p : ℕ) (xs : List Attachment) → EachPair IsBefore xs → next_pointer block s.start xs ≡ Some p → end_of s ≤ p → find begins xs ≡ None
  none_begins p [] r e above = refl
  none_begins p (x ∷ xs) r e above = go (none_begins p xs r.1) (x.block == block) refl (nat_le s.start x.pointer) refl e
    where
      go : (next_pointer block s.start xs ≡ Some p → end_of s ≤ p → find begins xs ≡ None)
          → (b : Bool) → (x.block == block) ≡ b → (t : Bool) → nat_le s.start x.pointer ≡ t
          → option_map (λ (a : Attachment). a.pointer) (cond (b && t) (Some x) (find (λ a. a.block == block && nat_le s.start a.pointer) xs)) ≡ Some p
          → cond (b && (t && nat_lt x.pointer (end_of s))) (Some x) (find begins xs) ≡ None
      go rest true f true g h =
          let is : x.pointer ≡ p = cc in
          let above : end_of s ≤ x.pointer = omega arith in
          let outside : nat_lt x.pointer (end_of s) ≡ false = grind (arith, nat_tests) in
          rw outside (none_behind x xs (equal x.block block f) above r.0)
      go rest true f false g h = rest h above
      go rest false f t g h = rest h above

  -- nor where there is no pointer at its start or behind
  pub none_next : (xs : List Attachment) → next_pointer block s.start xs ≡ None → find begins xs ≡ None
  none_next [] e = refl
  none_next (x ∷ xs) e = go (none_next xs) (x.block == block) refl (nat_le s.start x.pointer) refl e
    where
      go : (next_pointer block s.start xs ≡ None → find begins xs ≡ None)
          → (b : Bool) → (x.block == block) ≡ b → (t : Bool) → nat_le s.start x.pointer ≡ t
          → option_map (λ (a : Attachment). a.pointer) (cond (b && t) (Some x) (find (λ a. a.block == block && nat_le s.start a.pointer) xs)) ≡ None
          → cond (b && (t && nat_lt x.pointer (end_of s))) (Some x) (find begins xs) ≡ None
      go rest true f true g h = cc
      go rest true f false g h = rest h
      go rest false f t g h = rest h
