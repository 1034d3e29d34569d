-- A count of the keys of a row that lie below one, eighth by eighth and then one by one.
use Rattle.std.proofs.Common.{ℕ, zero, suc, ◌≡◌, ◌+◌, ◌*◌, ◌<◌, ◌≤◌, ◌⊎◌, inl, inr, true, false, List, [], ◌∷◌, length, get_or, take, drop, min, arith, sym, subst}
use Rattle.std.specs.Prelude.{nat_lt}
use Rattle.std.specs.Bool.{if◌then◌else◌}
use Rattle.std.specs.List.{AllByRecursion}
use Rattle.std.proofs.lemmas.Bool.Decides.{nat_tests}
use Rattle.acc_base.specs.Splits.{IsSplitBy}
use Rattle.acc_base.proofs.Keyed.{Rise}
use Rattle.acc_ordered.proofs.Halving.{passed_up, failed_down, nothing_behind}

-- what the number of a test says
pub one_cases : (a key one : ℕ) → one ≡ (if nat_lt a key then 1 else 0) → ((one ≡ 1) × (a < key)) ⊎ ((one ≡ 0) × (key ≤ a))
one_cases a key one is = grind (arith, nat_tests)

less_or_same : (m n : ℕ) → m ≤ n → (m < n) ⊎ (m ≡ n)
less_or_same m n le = grind arith

one_of_two : (m n : ℕ) → (n ≤ m) ⊎ (m ≤ n)
one_of_two m n = grind arith

module _ {X : Type 0} (key : X → ℕ) (number : ℕ) where
  abbrev pub IsLow : X → Type 0
  IsLow x = nat_lt (key x) number ≡ true

  abbrev pub IsHigh : X → Type 0
  IsHigh x = nat_lt (key x) number ≡ false

  -- no item is both
  apart : (xs : List X) (p q : ℕ) → AllByRecursion IsLow (take p xs) → AllByRecursion IsHigh (drop q xs) → q < p → p ≤ length xs → ⊥
  apart [] p q l h less bound = absurd (omega arith)
  apart (x ∷ xs) zero q l h less bound = absurd (omega arith)
  apart (x ∷ xs) (suc p) zero l h less bound = let low = l.0 in let high = h.0 in cc
  apart (x ∷ xs) (suc p) (suc q) l h less bound = apart xs p q l.1 h (omega arith) (omega arith)

  -- ---- whole eighths

  pub record IsEighths (xs : List X) (nth low : ℕ) : Type 0 where
    pub order : low ≤ 8 * nth
    pub passed : AllByRecursion IsLow (take low xs)
    pub failed : low < 8 * nth → AllByRecursion IsHigh (drop (low + 7) xs)

  eighth_below : (xs : List X) (nth low one : ℕ) (d : X) → Rise key xs → 8 * nth + 7 < length xs → IsEighths xs nth low → one ≡ 1 → key (get_or xs (8 * nth + 7) d) < number → IsEighths xs (nth + 1) (low + 8 * one)
  eighth_below xs nth low one d rise bound before is less =
      let passed = passed_up key number xs (8 * nth + 7) d rise bound less in
      let order : low ≤ 8 * nth = before.order in
      let all : low ≡ 8 * nth = elim (less_or_same low (8 * nth) order) [ inl w ↦ absurd (apart xs (suc (8 * nth + 7)) (low + 7) passed (before.failed w) (omega arith) (omega arith)) | inr w ↦ w ] in
      let place : suc (8 * nth + 7) ≡ low + 8 * one = omega arith in
      record {
        order = omega arith;
        passed = subst (λ (n : ℕ). AllByRecursion IsLow (take n xs)) place passed;
        failed = λ more. absurd (omega arith);
      }

  eighth_above : (xs : List X) (nth low one : ℕ) (d : X) → Rise key xs → 8 * nth + 7 < length xs → IsEighths xs nth low → one ≡ 0 → number ≤ key (get_or xs (8 * nth + 7) d) → IsEighths xs (nth + 1) (low + 8 * one)
  eighth_above xs nth low one d rise bound before is le =
      let same : low + 8 * one ≡ low = omega arith in
      let order : low ≤ 8 * nth = before.order in
      let failed = failed_down key number xs (8 * nth + 7) d rise bound le in
      subst (λ (i : ℕ). IsEighths xs (nth + 1) i) (sym same) (record {
        order = omega arith;
        passed = before.passed;
        failed = λ more. elim (less_or_same low (8 * nth) order) [ inl w ↦ before.failed w | inr w ↦ subst (λ (i : ℕ). AllByRecursion IsHigh (drop (i + 7) xs)) (sym w) failed ];
      })

  pub eighth_step : (xs : List X) (nth low one : ℕ) (d : X) → Rise key xs → 8 * nth + 7 < length xs → IsEighths xs nth low → one ≡ (if nat_lt (key (get_or xs (8 * nth + 7) d)) number then 1 else 0) → IsEighths xs (nth + 1) (low + 8 * one)
  eighth_step xs nth low one d rise bound before is =
      elim (one_cases (key (get_or xs (8 * nth + 7) d)) number one is) [ inl w ↦ eighth_below xs nth low one d rise bound before w.0 w.1 | inr w ↦ eighth_above xs nth low one d rise bound before w.0 w.1 ]

  pub eighths_end : (xs : List X) (nth low : ℕ) → length xs < 8 * nth + 8 → IsEighths xs nth low → AllByRecursion IsHigh (drop (low + 7) xs)
  eighths_end xs nth low rest e =
      let order : low ≤ 8 * nth = e.order in
      elim (less_or_same low (8 * nth) order) [ inl w ↦ e.failed w | inr w ↦ nothing_behind key IsHigh xs (low + 7) (omega arith) ]

  -- ---- one by one

  pub record IsCounted (xs : List X) (nth place : ℕ) : Type 0 where
    pub order : place ≤ nth
    pub passed : AllByRecursion IsLow (take place xs)
    pub failed : place < nth → AllByRecursion IsHigh (drop place xs)

  counted_below : (xs : List X) (nth place one : ℕ) (d : X) → Rise key xs → nth < length xs → IsCounted xs nth place → one ≡ 1 → key (get_or xs nth d) < number → IsCounted xs (nth + 1) (place + one)
  counted_below xs nth place one d rise bound before is less =
      let passed = passed_up key number xs nth d rise bound less in
      let order : place ≤ nth = before.order in
      let all : place ≡ nth = elim (less_or_same place nth order) [ inl w ↦ absurd (apart xs (suc nth) place passed (before.failed w) (omega arith) (omega arith)) | inr w ↦ w ] in
      let at : suc nth ≡ place + one = omega arith in
      record {
        order = omega arith;
        passed = subst (λ (n : ℕ). AllByRecursion IsLow (take n xs)) at passed;
        failed = λ more. absurd (omega arith);
      }

  counted_above : (xs : List X) (nth place one : ℕ) (d : X) → Rise key xs → nth < length xs → IsCounted xs nth place → one ≡ 0 → number ≤ key (get_or xs nth d) → IsCounted xs (nth + 1) (place + one)
  counted_above xs nth place one d rise bound before is le =
      let same : place + one ≡ place = omega arith in
      let order : place ≤ nth = before.order in
      let failed = failed_down key number xs nth d rise bound le in
      subst (λ (i : ℕ). IsCounted xs (nth + 1) i) (sym same) (record {
        order = omega arith;
        passed = before.passed;
        failed = λ more. elim (less_or_same place nth order) [ inl w ↦ before.failed w | inr w ↦ subst (λ (i : ℕ). AllByRecursion IsHigh (drop i xs)) (sym w) failed ];
      })

  pub counted_step : (xs : List X) (nth place one : ℕ) (d : X) → Rise key xs → nth < length xs → IsCounted xs nth place → one ≡ (if nat_lt (key (get_or xs nth d)) number then 1 else 0) → IsCounted xs (nth + 1) (place + one)
  counted_step xs nth place one d rise bound before is =
      elim (one_cases (key (get_or xs nth d)) number one is) [ inl w ↦ counted_below xs nth place one d rise bound before w.0 w.1 | inr w ↦ counted_above xs nth place one d rise bound before w.0 w.1 ]

  -- so the row is split there, where no item behind the end lies below
  pub counted_split : (xs : List X) (high place : ℕ) → high ≤ length xs → IsCounted xs high place → AllByRecursion IsHigh (drop high xs) → IsSplitBy (λ x. nat_lt (key x) number) xs place
  counted_split xs high place bound counted behind =
      let order : place ≤ high = counted.order in
      record {
        bound = omega arith;
        passed = counted.passed;
        failed = elim (less_or_same place high order) [ inl w ↦ counted.failed w | inr w ↦ subst (λ (i : ℕ). AllByRecursion IsHigh (drop i xs)) (sym w) behind ];
      }

  -- none does behind the end of the row, or the first seven of an eighth that does not lie below whole
  pub high_behind : (xs : List X) (low high nth : ℕ) → high ≡ min (length xs) (low + 7) → nth ≡ high → AllByRecursion IsHigh (drop (low + 7) xs) → AllByRecursion IsHigh (drop nth xs)
  high_behind xs low high nth is same failed = elim (one_of_two (length xs) (low + 7)) [
    | inl w ↦ let end : nth ≡ low + 7 = omega arith in subst (λ (i : ℕ). AllByRecursion IsHigh (drop i xs)) (sym end) failed
    | inr w ↦ nothing_behind key IsHigh xs nth (omega arith)
  ]
