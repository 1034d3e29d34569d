-- What a caller that keeps a list of its taken ranges does with it.
use Rattle.std.proofs.Common.{◌≡◌, ℕ, suc, ◌+◌, ◌<◌, ◌↔◌, List, [], ◌∷◌, ◌++◌, inl, inr, arith, sym, subst, ap, ◌∙◌, length, take, drop, get_or, length-append}
use Rattle.std.specs.List.{remove}
use Rattle.std.proofs.lemmas.List.{append-nil}
use Rattle.std.proofs.lemmas.List.Elements.{All-append, All-cons}
use Rattle.acc_base.specs.Holes.{IsIn, IsDisjoint}
use Rattle.acc_base.specs.Section.{Spans}
use Rattle.acc_placement.specs.Ranges.{HasAddress, IsAligned}
use Rattle.acc_placement.specs.Space.{Space, IsCanonical, IsPartition, IsTaken}
use Rattle.acc_placement.proofs.Rising.{in_bounds, rising_disjoint, disjoint_join, in_join_left, in_join_right, in_parts, total-append}
use Rattle.acc_placement.proofs.Alignment.{All-left, All-right, All-middle, All-behind}
use Rattle.std.proofs.lemmas.List.{take-append-drop}
use Rattle.std.proofs.Math.Seq.{drop-cons}

-- a list is what stands before an index, the range there, and what stands behind
pub split_at : (hs : List (ℕ × ℕ)) (i : ℕ) (d : ℕ × ℕ) → i < length hs → hs ≡ take i hs ++ get_or hs i d ∷ drop (suc i) hs
split_at hs i d lt = sym (take-append-drop i hs) ∙ ap (λ r. take i hs ++ r) (drop-cons hs i d lt)

-- the same, round the range that was read there
pub split_read : (hs : List (ℕ × ℕ)) (i : ℕ) (x : ℕ × ℕ) → x ≡ get_or hs i x → i < length hs → hs ≡ take i hs ++ x ∷ drop (suc i) hs
split_read hs i x is lt = split_at hs i x lt ∙ ap (λ (y : ℕ × ℕ). take i hs ++ y ∷ drop (suc i) hs) (sym is)

-- a range that stands elsewhere in the list
in_moved : (l r : List (ℕ × ℕ)) (x : ℕ × ℕ) (a : ℕ) → IsIn (x ∷ (l ++ r)) a → IsIn (l ++ x ∷ r) a
in_moved l r x a (inl w) = in_join_right l (x ∷ r) a (inl w)
in_moved l r x a (inr i) = elim (in_parts l r a i) [ inl j ↦ in_join_left l (x ∷ r) a j | inr j ↦ in_join_right l (x ∷ r) a (inr j) ]

-- an address that stands in a list stands in it with one range moved to the front
in_front : (l r : List (ℕ × ℕ)) (x : ℕ × ℕ) (a : ℕ) → IsIn (l ++ x ∷ r) a → IsIn (x ∷ (l ++ r)) a
in_front l r x a i = elim (in_parts l (x ∷ r) a i) [ inl j ↦ inr (in_join_left l r a j) | inr (inl w) ↦ inl w | inr (inr j) ↦ inr (in_join_right l r a j) ]

-- a list that shares no address shares none with its first range moved
disjoint_moved : (l r : List (ℕ × ℕ)) (x : ℕ × ℕ) → IsDisjoint (x ∷ (l ++ r)) → IsDisjoint (l ++ x ∷ r)
disjoint_moved [] r x d = d
disjoint_moved (h ∷ l) r x d = (
  λ a w i. elim (in_front l r x a i) [ inl v ↦ d.0 a v (inl w) | inr j ↦ d.1.0 a w j ],
  disjoint_moved l r x (λ a w i. d.0 a w (inr i), d.1.1),
)

-- the order of the list is free: the newest range may be put anywhere
pub partition_moved : (r : Space) (before after : List (ℕ × ℕ)) (x : ℕ × ℕ) → IsPartition r (x ∷ (before ++ after)) → IsPartition r (before ++ x ∷ after)
partition_moved r before after x p =
    record {
      count = omega (arith, p.count, length-append before (x ∷ after), length-append before after);
      sizes = omega (arith, p.sizes, total-append before (x ∷ after), total-append before after);
      aligned = All-append IsAligned before (x ∷ after) (All-left IsAligned before after (All-behind IsAligned [] x (before ++ after) p.aligned)) (All-cons IsAligned x after (All-middle IsAligned [] x (before ++ after) p.aligned) (All-right IsAligned before after (All-behind IsAligned [] x (before ++ after) p.aligned)));
      not_empty = All-append HasAddress before (x ∷ after) (All-left HasAddress before after (All-behind HasAddress [] x (before ++ after) p.not_empty)) (All-cons HasAddress x after (All-middle HasAddress [] x (before ++ after) p.not_empty) (All-right HasAddress before after (All-behind HasAddress [] x (before ++ after) p.not_empty)));
      disjoint = disjoint_moved before after x p.disjoint;
      within = λ a i. p.within a (in_front before after x a i);
      not_free = λ a i h. p.not_free a (in_front before after x a i) h;
      covered = λ a w. elim (p.covered a w) [ inl h ↦ inl h | inr i ↦ inr (in_moved before after x a i) ];
    }

-- the newest range, put at the end
pub partition_last : (r : Space) (ts : List (ℕ × ℕ)) (x : ℕ × ℕ) → IsPartition r (x ∷ ts) → IsPartition r (ts ++ x ∷ [])
partition_last r ts x p = partition_moved r ts [] x (rw append-nil p)

-- the range at an index of the list is taken
pub taken_at : (r : Space) (ts : List (ℕ × ℕ)) (i : ℕ) (x : ℕ × ℕ) (n : ℕ) → x ≡ get_or ts i x → n ≡ x.1 → i < length ts → IsPartition r ts → IsTaken r x.0 n
taken_at r ts i x n is size lt p =
    record {
      before = take i ts;
      after = drop (suc i) ts;
      partition = rw size (subst (λ (l : List (ℕ × ℕ)). IsPartition r l) (split_read ts i x is lt) p);
    }

-- the list without the range at an index, which was given back
pub partition_without : (old new : Space) (ts : List (ℕ × ℕ)) (i : ℕ) (x : ℕ × ℕ) (n : ℕ) → x ≡ get_or ts i x → n ≡ x.1 → i < length ts → IsPartition old ts → ((before after : List (ℕ × ℕ)) → IsPartition old (before ++ (x.0, n) ∷ after) → IsPartition new (before ++ after)) → IsPartition new (remove ts i)
partition_without old new ts i x n is size lt p back = back (take i ts) (drop (suc i) ts) (rw size (subst (λ (l : List (ℕ × ℕ)). IsPartition old l) (split_read ts i x is lt) p))

-- no address is in two of the taken ranges and the holes
pub all_disjoint : (r : Space) (ts : List (ℕ × ℕ)) → IsCanonical r → IsPartition r ts → IsDisjoint (ts ++ r.holes)
all_disjoint r ts s p = disjoint_join ts r.holes p.disjoint (rising_disjoint r.base r.holes (r.base + r.size) s.rising) p.not_free

-- the taken ranges and the holes have the addresses of the space, and no others
pub all_whole : (r : Space) (ts : List (ℕ × ℕ)) → IsCanonical r → IsPartition r ts → (a : ℕ) → IsIn (ts ++ r.holes) a ↔ Spans r.base r.size a
all_whole r ts s p a = (
  λ i. elim (in_parts ts r.holes a i) [ inl j ↦ p.within a j | inr j ↦ in_bounds r.base r.holes (r.base + r.size) a s.rising j ],
  λ w. elim (p.covered a w) [ inl h ↦ in_join_right ts r.holes a h | inr i ↦ in_join_left ts r.holes a i ],
)
