-- One or more of the same kind.
use Rattle.std.specs.Prelude.{ℕ, zero, suc, Bool, List, length, Result, Ok, Err, if◌then◌else◌}
use Rattle.acc_base.specs.declared.faults.ScriptFault.{ScriptFault}
use Rattle.acc_base.specs.declared.faults.ScriptFault.TheVariants.{Syntax}
use Rattle.acc_read.specs.Reading.{◌>>=◌}
use Rattle.acc_read.specs.Tokens.{skip_comma}

-- one step or more, each behind what was read before, as long as the text goes on; fuel bounds their number
unfoldable pub repeated : {A : Type 0} → (fuel : ℕ) → (step : A → List ℕ → Result (A × List ℕ) ScriptFault)
    → (goes_on : List ℕ → Bool) → A → List ℕ → Result (A × List ℕ) ScriptFault
repeated zero step goes_on before text = Err Syntax
repeated (suc fuel) step goes_on before text = do
  read ← step before text
  if goes_on read.1 then repeated fuel step goes_on read.0 (skip_comma read.1) else Ok read

-- one step or more: as much fuel as the text has bytes is enough where each takes one (`items_enough`,
-- `clauses_enough`)
abbrev pub one_or_more : {A : Type 0} → (step : A → List ℕ → Result (A × List ℕ) ScriptFault)
    → (goes_on : List ℕ → Bool) → A → List ℕ → Result (A × List ℕ) ScriptFault
one_or_more step goes_on before text = repeated (length text) step goes_on before text
