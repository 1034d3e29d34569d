-- What is kept of clauses and options as they are read.
use Rattle.std.proofs.Common.{◌≡◌, ℕ, List, Some, Result, Ok, Err, refl}
use Rattle.std.specs.Prelude.{MatchResult}
use Rattle.acc_base.specs.declared.faults.ScriptFault.{ScriptFault}
use Rattle.acc_base.specs.declared.items.Item.{Item}
use Rattle.acc_read.specs.declared.kept.KeptItems.{KeptItems}
use Rattle.acc_read.specs.declared.clauses.Unfinished.{Unfinished}
use Rattle.acc_read.specs.Reading.{◌>>=◌, Reads}
use Rattle.acc_read.specs.Layout.{ArrayLayout}
use Rattle.acc_read.specs.Grammar.{Grammar}
use Rattle.acc_read.specs.Clauses.{ClausesRead, group_at, listed}
use Rattle.acc_read.specs.Meanings.{IsKept, IsRead}

-- what was kept stays where only the text after it is read
pub closes : {X Y Z : Type 0} (kept : Y → Type 0) (view : X → Z) (y : Y) (result : Result X ScriptFault)
    (read : Result Z ScriptFault) → kept y → Reads view result read
    → let whole : Result (Y × Z) ScriptFault = read >>= (λ rest. Ok (y, rest)) in
    MatchResult result (λ x. (after : Y) × (whole ≡ Ok (after, view x)) × kept after) (λ fault. whole ≡ Err fault)
closes kept view y (Ok x) read h e = (y, rw e refl, h)
closes kept view y (Err kind) read h e = rw e refl

module _ {C : Type 0} where
  -- the items of a clause are kept behind those before
  pub lists : {X : Type 0} (old : Unfinished C) (items : KeptItems (Item C)) (view : X → List ℕ) (grammar : Grammar C)
      (clause : C) (layout : ArrayLayout) (before : ClausesRead C) (rest : List ℕ) (result : Result X ScriptFault)
      → IsRead old before → let read = group_at grammar clause layout before.items rest in
      MatchResult result (λ x. (after : List (Item C)) × (read ≡ Ok (after, view x)) × IsKept items after) (λ fault. read ≡ Err fault)
      → let whole = listed (Some clause) grammar layout before rest in
      MatchResult result (λ x. (after : ClausesRead C) × (whole ≡ Ok (after, view x)) × IsRead (record old { items = items }) after) (λ fault. whole ≡ Err fault)
  lists old items view grammar clause layout before rest (Ok x) h kept = (
    record before { items = kept.0 },
    rw kept.1 refl,
    record { items = kept.2; has_option = h.has_option; queue = h.queue },
  )
  lists old items view grammar clause layout before rest (Err kind) h e = rw e refl
