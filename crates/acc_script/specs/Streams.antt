-- What a source in memory has still to give, and what the wrappers of std's readers and writers make known.
use Rattle.std.specs.Prelude.{ℕ, ◌-◌, ◌≡◌, Bool, true, false, ⊤, List, [], ◌++◌, length, take, Option, Some, None, option_map}
use Rattle.acc_script.specs.Told.{Given, Taken, nothing_given}

-- what a source in memory gave, and what it has left
pub record Offered : Type 0 where
  pub given : Given
  pub left : List ℕ

-- what a reader gave and has left, from what it had at first and what is left, where both are known
abbrev pub offered_of : Option (List ℕ) → Option (List ℕ) → Bool → ℕ → Option Offered
offered_of None left ended failures = None
offered_of (Some all) None ended failures = None
offered_of (Some all) (Some left) ended failures = Some (record {
  given = record { bytes = take (length all - length left) all; ended = ended; failures = failures };
  left = left;
})

-- what a reader gave and has left before its first read
abbrev pub offered_at_first : Option (List ℕ) → Option Offered
offered_at_first all = option_map (λ bytes. record { given = nothing_given; left = bytes }) all

-- what a source gave, where it is known what it gave and has left
abbrev pub given_by : Option Offered → Option Given
given_by offered = option_map (λ o. o.given) offered

-- a source gives what it has left from the front on, and a read that fails leaves it as it was
abbrev pub HandsOut : Option Offered → Option Offered → Option ℕ → List ℕ → Type 0
HandsOut None new count piece = ⊤
HandsOut (Some a) None count piece = ⊥
HandsOut (Some a) (Some b) None piece = b.left ≡ a.left
HandsOut (Some a) (Some b) (Some n) piece = a.left ≡ take n piece ++ b.left

-- a source that met its end has nothing left, where this is known
abbrev pub EndsEmpty : Option Offered → Type 0
EndsEmpty None = ⊤
EndsEmpty (Some o) = o.given.ended ≡ true → o.left ≡ []

-- a reader that met its end has nothing left, where what it had at first and what is left are known
abbrev pub EndsAt : Option (List ℕ) → Bool → Option (List ℕ) → Type 0
EndsAt None ended left = ⊤
EndsAt (Some all) false left = ⊤
EndsAt (Some all) true None = ⊤
EndsAt (Some all) true (Some left) = left ≡ []

-- what was given, and then what is left
abbrev pub rejoined : Option (List ℕ) → Option (List ℕ) → Option (List ℕ)
rejoined None left = None
rejoined (Some all) None = None
rejoined (Some all) (Some left) = Some (take (length all - length left) all ++ left)

-- what a writer took, where what it holds is known
abbrev pub taken_of : Option (List ℕ) → ℕ → Option Taken
taken_of None failures = None
taken_of (Some held) failures = Some (record { bytes = held; failures = failures })
