-- What sources gave, what sinks took, and how often they failed.
use Rattle.std.specs.Prelude.{◌≡◌, ℕ, ◌+◌, ◌%◌, ◌^◌, ◌⊎◌, Bool, true, false, List, [], ◌++◌, length, take, ⊤, Option, Some, None, ◌==◌, if◌then◌else◌}

-- what a source gave, whether its last read into a piece with room met the end, and its failures, modulo 2^64
pub record Given : Type 0 where
  pub bytes : List ℕ
  pub ended : Bool
  pub failures : ℕ

-- what a sink took, and its failures, modulo 2^64
pub record Taken : Type 0 where
  pub bytes : List ℕ
  pub failures : ℕ

-- a source before its first read
abbrev pub nothing_given : Given
nothing_given = record { bytes = []; ended = false; failures = 0 }

-- a sink before its first write
abbrev pub nothing_taken : Taken
nothing_taken = record { bytes = []; failures = 0 }

-- one more failure
abbrev pub one_more : ℕ → ℕ
one_more failures = (failures + 1) % 2 ^ 64

-- a source after a read into a piece, which then holds these bytes: a failure, or how many it gave
abbrev pub after_read : Given → Option ℕ → List ℕ → Given
after_read g None piece = record g { failures = one_more g.failures }
after_read g (Some n) piece = record {
  bytes = g.bytes ++ take n piece;
  ended = (if length piece == 0 then g.ended else n == 0);
  failures = g.failures;
}

-- a sink after a write of a piece: it failed, or took this many bytes. None of a piece with bytes is a failure too
abbrev pub after_write : Taken → Option ℕ → List ℕ → Taken
after_write t None piece = record t { failures = one_more t.failures }
after_write t (Some n) piece = record {
  bytes = t.bytes ++ take n piece;
  failures = (if length piece == 0 then t.failures else if n == 0 then one_more t.failures else t.failures);
}

-- what is known changes so; where nothing is known, nothing is claimed
abbrev pub Becomes : {A : Type 0} → Option A → Option A → (A → A) → Type 0
Becomes None new f = ⊤
Becomes (Some a) new f = new ≡ Some (f a)

-- a source gave these bytes and did not fail, where that is known
abbrev pub Gave : Option Given → Option Given → List ℕ → Type 0
Gave None new bytes = ⊤
Gave (Some a) None bytes = ⊥
Gave (Some a) (Some b) bytes = (b.bytes ≡ a.bytes ++ bytes) × (b.failures ≡ a.failures)

-- a source gave these bytes, met its end and did not fail, where that is known
abbrev pub GaveAll : Option Given → Option Given → List ℕ → Type 0
GaveAll None new bytes = ⊤
GaveAll (Some a) None bytes = ⊥
GaveAll (Some a) (Some b) bytes = (b.bytes ≡ a.bytes ++ bytes) × (b.ended ≡ true) × (b.failures ≡ a.failures)

-- a source failed once
abbrev pub Failed : Option Given → Option Given → Type 0
Failed None new = ⊤
Failed (Some a) None = ⊥
Failed (Some a) (Some b) = b.failures ≡ one_more a.failures

-- a source failed once, or gave one byte more than the limit
abbrev pub FailedOrPassed : ℕ → Option Given → Option Given → Type 0
FailedOrPassed limit None new = ⊤
FailedOrPassed limit (Some a) None = ⊥
FailedOrPassed limit (Some a) (Some b) =
    (b.failures ≡ one_more a.failures) ⊎ ((length b.bytes ≡ length a.bytes + limit + 1) × (b.failures ≡ a.failures))

-- a sink took these bytes and did not fail, where that is known
abbrev pub Took : Option Taken → Option Taken → List ℕ → Type 0
Took None new bytes = ⊤
Took (Some a) None bytes = ⊥
Took (Some a) (Some b) bytes = (b.bytes ≡ a.bytes ++ bytes) × (b.failures ≡ a.failures)

-- a sink took a front of these bytes, and failed once
abbrev pub TookFront : Option Taken → Option Taken → List ℕ → Type 0
TookFront None new bytes = ⊤
TookFront (Some a) None bytes = ⊥
TookFront (Some a) (Some b) bytes =
    (front : List ℕ) × (rest : List ℕ) × (bytes ≡ front ++ rest) × (b.bytes ≡ a.bytes ++ front)
    × (b.failures ≡ one_more a.failures)
