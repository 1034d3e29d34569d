-- A loop that reads one or more of the same kind.
use Rattle.std.proofs.Common.{◌≡◌, ℕ, suc, ◌-◌, ◌+◌, ◌≤◌, ◌<◌, Bool, true, false, List, Result, Ok, Err, refl, sym, ◌∙◌, arith}
use Rattle.std.specs.Prelude.{if◌then◌else◌}
use Rattle.acc_base.specs.declared.faults.ScriptFault.{ScriptFault}
use Rattle.acc_base.specs.declared.faults.ScriptFault.TheVariants.{Syntax}
use Rattle.acc_read.specs.Reading.{◌>>=◌}
use Rattle.acc_read.specs.Repeating.{repeated}
use Rattle.acc_read.specs.Tokens.{skip_comma}

module _ {A : Type 0} (step : A → List ℕ → Result (A × List ℕ) ScriptFault) (goes_on : List ℕ → Bool) where
  -- what follows a step
  abbrev pub after_step : ℕ → A × List ℕ → Result (A × List ℕ) ScriptFault
  after_step fuel read = if goes_on read.1 then repeated fuel step goes_on read.0 (skip_comma read.1) else Ok read

  -- steps with fuel left are one and what follows it
  turn : (n i : ℕ) (before : A) (text : List ℕ) → i < n
      → repeated (n - i) step goes_on before text ≡ (step before text >>= after_step (n - (i + 1)))
  unfolding repeated
  turn n i before text lt = let k : n - i ≡ suc (n - (i + 1)) = omega arith in rw k refl

  -- what is left after some turns, behind what was read in them, reads as all of the text does
  abbrev pub IsLeft : (old new : A → Type 0) (n i : ℕ) (text rest : List ℕ) → Type 0
  IsLeft old new n i text rest = (before : A) → old before → (now : A) × (repeated (n - i) step goes_on now rest ≡ repeated n step goes_on before text) × new now

  -- a step reads something, behind whatever was kept before
  abbrev Steps : (old new : A → Type 0) (rest after : List ℕ) → Type 0
  Steps old new rest after = (before : A) → old before → (now : A) × (step before rest ≡ Ok (now, after)) × new now

  module _ (old now : A → Type 0) (n i : ℕ) (text rest : List ℕ) where
    -- a turn behind which the text goes on
    pub goes_further : (new : A → Type 0) (after : List ℕ) → i < n → IsLeft old now n i text rest
        → Steps now new rest after → goes_on after ≡ true → IsLeft old new n (i + 1) text (skip_comma after)
    goes_further new after lt left steps more = λ before h.
        let at = left before h in
        let read = steps at.0 at.2 in
        (read.0, sym (turn n i at.0 rest lt ∙ rw (read.1, more) refl) ∙ at.1, read.2)

    -- a turn behind which the text does not go on
    pub ends : (new : A → Type 0) (after : List ℕ) → i < n → IsLeft old now n i text rest → Steps now new rest after
        → goes_on after ≡ false → (before : A) → old before
        → (now : A) × (repeated n step goes_on before text ≡ Ok (now, after)) × new now
    ends new after lt left steps last = λ before h.
        let at = left before h in
        let read = steps at.0 at.2 in
        (read.0, sym at.1 ∙ turn n i at.0 rest lt ∙ rw (read.1, last) refl, read.2)

    -- a turn that is at fault
    pub fails : (kind : ScriptFault) → i < n → IsLeft old now n i text rest
        → ((before : A) → now before → step before rest ≡ Err kind)
        → (before : A) → old before → repeated n step goes_on before text ≡ Err kind
    fails kind lt left faulty before h =
        let at = left before h in
        sym at.1 ∙ turn n i at.0 rest lt ∙ rw (faulty at.0 at.2) refl

    -- no turn is left
    pub runs_out : n ≤ i → IsLeft old now n i text rest → (before : A) → old before
        → repeated n step goes_on before text ≡ Err Syntax
    unfolding repeated
    runs_out le left before h =
        let at = left before h in
        let none : n - i ≡ 0 = omega arith in
        sym at.1 ∙ rw none refl
