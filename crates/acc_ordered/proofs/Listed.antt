-- The entry of a key in a list of entries that changes.
use Rattle.std.proofs.Common.{ℕ, ◌≡◌, ◌<◌, ◌≤◌, refl, subst, Bool, true, false, cond, List, [], ◌∷◌, Some, None, arith}
use Rattle.std.specs.Prelude.{◌==◌, nat_le, nat_lt}
use Rattle.std.proofs.lemmas.Bool.Decides.{nat_tests}
use Rattle.acc_base.proofs.Results.{equal}
use Rattle.acc_base.proofs.Elements.{found_has}
use Rattle.acc_base.proofs.InPlace.{IsPut, find-put_other, find-put_new}
use Rattle.acc_base.proofs.Keyed as keyed
use Rattle.acc_ordered.specs.Listing.{KeyValue, KeysRise, at_key, first_from, with_entry, without_key}

module _ {T : Type 0} where
  put_entry : (new : KeyValue T) → IsPut new (λ e. nat_lt new.key e.key) (with_entry new)
  put_entry new = record { alone = refl; among = λ e es. refl }

  -- once one more is in
  pub at-with_entry : (new : KeyValue T) (es : List (KeyValue T)) (key : ℕ) → at_key new.key es ≡ None → at_key key (with_entry new es) ≡ cond (new.key == key) (Some new) (at_key key es)
  at-with_entry new es key none = go (new.key == key) refl
    where
      go : (b : Bool) → (new.key == key) ≡ b → at_key key (with_entry new es) ≡ cond b (Some new) (at_key key es)
      go true t = find-put_new (put_entry new) (λ e. e.key == key) es t (let same = equal new.key key t in subst (λ n. at_key n es ≡ None) same none)
      go false t = find-put_other (put_entry new) (λ e. e.key == key) es t

  -- once one is taken out
  pub at-without_key : (gone key : ℕ) (es : List (KeyValue T)) → at_key key (without_key gone es) ≡ cond (gone == key) None (at_key key es)
  at-without_key gone key es = keyed.at-without (λ (e : KeyValue T). e.key) es gone key

  -- the first entry from a key on is the one of its own key
  pub first_own : (from : ℕ) (es : List (KeyValue T)) (e : KeyValue T) → KeysRise es → first_from from es ≡ Some e → at_key e.key es ≡ Some e
  first_own from es e rise found = keyed.at-found (λ (x : KeyValue T). x.key) (λ x. nat_le from x.key) es e rise found

  -- and no entry from that key on has a lesser key
  pub first_least : (from key : ℕ) (es : List (KeyValue T)) (e f : KeyValue T) → KeysRise es → first_from from es ≡ Some e → at_key key es ≡ Some f → from ≤ key → e.key ≤ key
  first_least from key [] e f rise found there le = absurd (let bad : None ≡ Some e = found in cc)
  first_least from key (x ∷ es) e f rise found there le = go (λ is own. first_least from key es e f rise.1 is own le) (nat_le from x.key) refl (x.key == key) refl found there
    where
      go : (first_from from es ≡ Some e → at_key key es ≡ Some f → e.key ≤ key) → (b : Bool) → nat_le from x.key ≡ b → (t : Bool) → (x.key == key) ≡ t → cond b (Some x) (first_from from es) ≡ Some e → cond t (Some x) (at_key key es) ≡ Some f → e.key ≤ key
      go rest true s true t is own = let same : x ≡ e = cc in let k : x.key ≡ key = equal x.key key t in rw (← same) (omega arith)
      go rest true s false t is own =
          let same : x ≡ e = cc in
          let behind = found_has (λ (y : KeyValue T). x.key < y.key) (λ y. y.key == key) es f rise.0 own in
          let k : f.key ≡ key = equal f.key key behind.1 in
          rw (← same) (omega (arith, behind.0))
      go rest false s true t is own = let k : x.key ≡ key = equal x.key key t in absurd (grind (arith, nat_tests))
      go rest false s false t is own = rest is own

  -- and there is none from a key on where none is found
  pub first_none : (from key : ℕ) (es : List (KeyValue T)) (f : KeyValue T) → first_from from es ≡ None → at_key key es ≡ Some f → key < from
  first_none from key [] f none there = absurd (let bad : None ≡ Some f = there in cc)
  first_none from key (x ∷ es) f none there = go (first_none from key es f) (nat_le from x.key) refl (x.key == key) refl none there
    where
      go : (first_from from es ≡ None → at_key key es ≡ Some f → key < from) → (b : Bool) → nat_le from x.key ≡ b → (t : Bool) → (x.key == key) ≡ t → cond b (Some x) (first_from from es) ≡ None → cond t (Some x) (at_key key es) ≡ Some f → key < from
      go rest true s t e is own = absurd (let bad : Some x ≡ None = is in cc)
      go rest false s true t is own = let k : x.key ≡ key = equal x.key key t in grind (arith, nat_tests)
      go rest false s false t is own = rest is own
