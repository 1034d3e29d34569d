-- Each mark of a section changed: place by place, as a whole, and where what is copied ends early.
use Rattle.std.proofs.Common.{◌≡◌, ℕ, ◌+◌, ◌-◌, ◌<◌, ◌≤◌, min, suc, zero, List, [], ◌∷◌, ◌++◌, length, get_or, take, drop, map, unwrap_or, refl, sym, ap, ◌∙◌, ◌⊎◌, inl, inr, zero-add, arith}
use Rattle.std.specs.List.{enumerate_from}
use Rattle.std.proofs.lemmas.Bool.{cases_order}
use Rattle.std.proofs.lemmas.List.{ext_get_or, get_or-map, length-map, get_or_append_left, get_or-append_right, get_or-drop, get_or-take}
use Rattle.std.proofs.lemmas.List.FromFn.{length-enumerate_from, get_or-enumerate_from}
use Rattle.std.proofs.lemmas.Option.{slice_get_past, slice_get-get_or}
use Rattle.std.proofs.lemmas.Grind.{common_steps}
use Rattle.acc_stale.specs.declared.marks.Mark.{Mark}
use Rattle.acc_stale.specs.declared.marks.Mark.TheVariants.{New}
use Rattle.acc_stale.specs.Marks.{Change, each, copied}
use Rattle.acc_stale.proofs.Turns.{changed_from}

pub length-each : (f : Change) (s : List Mark) → length (each f s) ≡ length s
length-each f s = length-map (enumerate_from 0 s) (λ p. f p.0 p.1) ∙ length-enumerate_from 0 s

pub get_or-each : (f : Change) (s : List Mark) (k : ℕ) (d : Mark) → k < length s → get_or (each f s) k d ≡ f k (get_or s k d)
get_or-each f s k d h =
    let low : k < length (enumerate_from 0 s) = omega (arith, length-enumerate_from 0 s) in
    get_or-map (λ p. f p.0 p.1) (enumerate_from 0 s) k (0, d) d low
    ∙ ap (λ p. f p.0 p.1) (get_or-enumerate_from 0 s k (0, d) h)
    ∙ ap (λ n. f n (get_or s k d)) (zero-add k)

-- where the others stay, changing the first ones changes all
stays_behind : (f : Change) (at n : ℕ) (s : List Mark) → ((p : ℕ) (m : Mark) → at + n ≤ p → p < at + length s → f p m ≡ m) → changed_from f at n s ≡ map (λ p. f p.0 p.1) (enumerate_from at s)
stays_behind f at zero [] h = refl
stays_behind f at (suc n) [] h = refl
stays_behind f at zero (m ∷ s) h =
    ap (λ x. x ∷ s) (sym (h at m (omega arith) (omega arith)))
    ∙ ap (λ xs. f at m ∷ xs) (stays_behind f (at + 1) zero s (λ p x low high. h p x (omega arith) (omega arith)))
stays_behind f at (suc n) (m ∷ s) h =
    ap (λ xs. f at m ∷ xs) (stays_behind f (at + 1) n s (λ p x low high. h p x (omega arith) (omega arith)))

pub all_changed : (f : Change) (n size : ℕ) (s : List Mark) → n ≡ min (length s) size → ((p : ℕ) (m : Mark) → size ≤ p → f p m ≡ m) → each f (take n s) ++ drop n s ≡ each f s
all_changed f n size s e h = stays_behind f 0 n s (λ p m low high. h p m (grind (arith, e, low, high)))

-- a copy, of as many as there are
copied_within : (src : List Mark) (at i : ℕ) (m : Mark) → at + i < length src → copied src at i m ≡ get_or src (at + i) New
copied_within src at i m h = ap (λ o. unwrap_or o m) (slice_get-get_or src (at + i) New h)

copied_past : (src : List Mark) (at i : ℕ) (m : Mark) → length src ≤ at + i → copied src at i m ≡ m
copied_past src at i m h = ap (λ o. unwrap_or o m) (slice_get_past src (at + i) h)

split : (i n : ℕ) → (i < n) ⊎ (n ≤ i)
split i n = elim (cases_order i n) [ inl e ↦ inr (omega arith) | inr o ↦ elim o [ inl h ↦ inl h | inr h ↦ inr (omega arith) ] ]

pub copied_is : (src : List Mark) (at f n : ℕ) (s part : List Mark) → f ≡ min at (length src) → n ≡ min (length s) (length src - f) → length part ≡ n → part ≡ take n (drop f src) → part ++ drop n s ≡ each (copied src at) s
copied_is src at f n s part ef en el ep =
    ext_get_or New (part ++ drop n s) (each (copied src at) s) lengths (λ i h. place i (omega (arith, h, lengths, length-each (copied src at) s)))
  where
    short : n ≤ length s
    short = grind (arith, en)

    lengths : length (part ++ drop n s) ≡ length (each (copied src at) s)
    lengths = grind (arith, common_steps, el, short, length-each (copied src at) s)

    first : (i : ℕ) → i < length s → i < n → get_or (part ++ drop n s) i New ≡ copied src at i (get_or s i New)
    first i h low =
        let from : f ≡ at = grind (arith, ef, en, low) in
        let there : at + i < length src = grind (arith, ef, en, low) in
        get_or_append_left part (drop n s) New i (omega (arith, el, low))
        ∙ ap (λ xs. get_or xs i New) ep
        ∙ get_or-take n (drop f src) i New low
        ∙ get_or-drop f src i New
        ∙ ap (λ k. get_or src (k + i) New) from
        ∙ sym (copied_within src at i (get_or s i New) there)

    rest : (i : ℕ) → i < length s → n ≤ i → get_or (part ++ drop n s) i New ≡ copied src at i (get_or s i New)
    rest i h low =
        let past : length src ≤ at + i = grind (arith, ef, en, low, h) in
        let e : n + (i - n) ≡ i = omega (arith, low) in
        get_or-append_right part (drop n s) n i New el low
        ∙ get_or-drop n s (i - n) New
        ∙ ap (λ k. get_or s k New) e
        ∙ sym (copied_past src at i (get_or s i New) past)

    place : (i : ℕ) → i < length s → get_or (part ++ drop n s) i New ≡ get_or (each (copied src at) s) i New
    place i h =
        elim (split i n) [ inl low ↦ first i h low ∙ sym (get_or-each (copied src at) s i New h) | inr low ↦ rest i h low ∙ sym (get_or-each (copied src at) s i New h) ]
