-- How the items of an array are read one after the other.
use Rattle.std.proofs.Common.{ℕ, ◌≡◌, ◌+◌, ◌<◌, ◌≤◌, refl, sym, ◌∙◌, ap, subst, arith, append_assoc, suc, List, [], ◌∷◌, ◌++◌, length, drop, Option, Some, None, Result, Ok, Err, inl, inr}
use Rattle.std.proofs.lemmas.List.{drop_more, drop_all, append-nil}
use Rattle.std.proofs.Math.ListN.{get_or}
use Rattle.acc_base.specs.declared.faults.Fault.TheVariants.{Memory}
use Rattle.acc_base.specs.declared.items.Item.{Item}
use Rattle.lamwiest_c.specs.declared.items.RawItem.{RawItem}
use Rattle.lamwiest_c.specs.declared.statuses.Refusal.{Refusal}
use Rattle.lamwiest_c.specs.declared.statuses.Refusal.TheVariants.{BadClause, OfTable}
use Rattle.lamwiest_c.specs.Clauses.{item_of, item_then, items_from, IsRead}

-- the items read so far, before what comes of the others
abbrev pub read_then : {C : Type 0} → List (Item C) → Result (List (Item C)) Refusal → Result (List (Item C)) Refusal
read_then done (Ok more) = Ok (done ++ more)
read_then done (Err refusal) = Err refusal

-- one more item is read
read_one : {C : Type 0} (done : List (Item C)) (clause : C) (place : ℕ) (item : RawItem) (rest : Result (List (Item C)) Refusal) → read_then (done ++ item_of clause item ∷ []) rest ≡ read_then done (item_then (Some clause) place item rest)
read_one done clause place item (Ok more) = ap Ok (append_assoc done (item_of clause item ∷ []) more)
read_one done clause place item (Err refusal) = refl

module _ {C : Type 0} (f : ℕ → Option C) (place i : ℕ) (items : List RawItem) (done : List (Item C)) (whole : Result (List (Item C)) Refusal) where
  -- what is left, by its first item
  next : (d : RawItem) → i < length items → items_from f place (drop i items) ≡ item_then (f (get_or items i d).clause) place (get_or items i d) (items_from f (place + 1) (drop (i + 1) items))
  next d within = ap (items_from f place) (drop_more items i d within)

  pub turn_read : (d : RawItem) (clause : C) → i < length items → f (get_or items i d).clause ≡ Some clause → read_then done (items_from f place (drop i items)) ≡ whole
      → read_then (done ++ item_of clause (get_or items i d) ∷ []) (items_from f (place + 1) (drop (i + 1) items)) ≡ whole
  turn_read d clause within is so_far =
      let rest = items_from f (place + 1) (drop (i + 1) items) in
      read_one done clause place (get_or items i d) rest ∙ (ap (λ c. read_then done (item_then c place (get_or items i d) rest)) (sym is) ∙ (ap (read_then done) (sym (next d within)) ∙ so_far))

  pub turn_bad : (d : RawItem) → i < length items → f (get_or items i d).clause ≡ None → read_then done (items_from f place (drop i items)) ≡ whole → Err (BadClause place) ≡ whole
  turn_bad d within is so_far =
      let rest = items_from f (place + 1) (drop (i + 1) items) in
      ap (λ c. read_then done (item_then c place (get_or items i d) rest)) (sym is) ∙ (ap (read_then done) (sym (next d within)) ∙ so_far)

  pub turns_over : length items ≤ i → read_then done (items_from f place (drop i items)) ≡ whole → Ok done ≡ whole
  turns_over past so_far =
      ap Ok (sym (append-nil done)) ∙ (ap (λ rest. read_then done (items_from f place rest)) (sym (drop_all i items past)) ∙ so_far)

-- the outcome of all items, where the list of the first ones is not kept
pub record IsReadSoFar {C : Type 0} (rest whole : Result (List (Item C)) Refusal) : Type 0 where
  pub done : List (Item C)
  pub before : read_then done rest ≡ whole

-- the refusal of an item is the outcome of all
pub refused_so : {C : Type 0} (r : Result (List (Item C)) Refusal) (refusal : Refusal) → Err refusal ≡ r → IsRead r (Err refusal)
refused_so r refusal is = subst (λ x. IsRead x (Err refusal)) is refl

-- as many are read as there are
as_many : {C : Type 0} (f : ℕ → Option C) (place : ℕ) (items : List RawItem) (read : List (Item C)) → items_from f place items ≡ Ok read → length read ≡ length items
as_many {C} f place [] read is = let same : [] ≡ read = cc in subst (λ (xs : List (Item C)). length xs ≡ 0) same refl
as_many {C} f place (item ∷ items) read is = go (f item.clause) (items_from f (place + 1) items) (as_many f (place + 1) items) is
  where
    go : (c : Option C) (rest : Result (List (Item C)) Refusal) → ((more : List (Item C)) → rest ≡ Ok more → length more ≡ length items) → item_then c place item rest ≡ Ok read → length read ≡ length (item ∷ items)
    go None rest later h = cc
    go (Some clause) (Err refusal) later h = cc
    go (Some clause) (Ok more) later h =
        let same : item_of clause item ∷ more ≡ read = cc in
        subst (λ (xs : List (Item C)). length xs ≡ length (item ∷ items)) same (ap suc (later more refl))

-- where none is refused, memory may be lacking for more than one
pub wanted_so : {C : Type 0} (f : ℕ → Option C) (items : List RawItem) (read : List (Item C)) → 1 < length items → Ok read ≡ items_from f 0 items → IsRead (items_from f 0 items) (Err (OfTable Memory))
wanted_so {C} f items read many is = subst (λ (r : Result (List (Item C)) Refusal). IsRead r (Err (OfTable Memory))) is (inr (refl, omega (arith, many, as_many f 0 items read (sym is))))

-- the items are returned, where all were read
pub all_read : {C : Type 0} (r : Result (List (Item C)) Refusal) (items : List (Item C)) → Ok items ≡ r → IsRead r (Ok items)
all_read r items is = subst (λ x. IsRead x (Ok items)) is (inl refl)

-- before anything is read
pub read_nothing : {C : Type 0} (r : Result (List (Item C)) Refusal) → read_then [] r ≡ r
read_nothing (Ok items) = refl
read_nothing (Err refusal) = refl
