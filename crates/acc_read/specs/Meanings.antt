-- What statements and clauses of the code say, without where they lie in memory.
use Rattle.std.specs.Prelude.{◌≡◌, true, false, List, [], ◌∷◌, Option, Some, None, Result, Ok, Err, IsOkAnd, IsTrue, length, ◌==◌, vec_len, vec_capacity}
use Rattle.std.specs.Int.{to_le_bytes, w64}
use Rattle.acc_read.specs.declared.kept.KeptItems.{KeptItems}
use Rattle.acc_read.specs.declared.kept.Finished.{Finished}
use Rattle.acc_read.specs.declared.kept.Finished.TheVariants.{Fitted, Single, Refused}
use Rattle.acc_read.specs.declared.clauses.Clauses.{Clauses}
use Rattle.acc_read.specs.declared.clauses.Unfinished.{Unfinished}
use Rattle.acc_base.specs.declared.faults.ScriptFault.{ScriptFault}
use Rattle.acc_read.specs.declared.troubles.Trouble.{Trouble}
use Rattle.acc_read.specs.declared.troubles.Trouble.TheVariants as trouble
use Rattle.acc_read.specs.declared.statements.Statement.{Statement}
use Rattle.acc_read.specs.declared.statements.Statement.TheVariants as code
use Rattle.acc_read.specs.Clauses.{ClausesRead}
use Rattle.acc_read.specs.Statements.{Meaning, takes_memory, Blank, Declare, Direct, Select, Kernel, Write, Show, Peek, Present, Address, Report}

-- what a statement says
abbrev pub meaning_of : Statement → Meaning
meaning_of code.Blank = Blank
meaning_of (code.Declare name array) = Declare name.now array
meaning_of (code.Direct directive) = Direct directive
meaning_of (code.Select device) = Select device
meaning_of (code.Kernel region kernel section) = Kernel region kernel section
meaning_of (code.Write addr bytes) = Write addr bytes
meaning_of (code.Point addr target) = Write addr (to_le_bytes w64 target)
meaning_of (code.Show section) = Show section
meaning_of (code.Peek section) = Peek section
meaning_of (code.Present section) = Present section
meaning_of (code.Address addr) = Address addr
meaning_of code.Report = Report

-- a statement says what a definition reads; or both meet one fault; or memory was wanting for a right line that takes it
abbrev pub Says : Result Statement Trouble → Result Meaning ScriptFault → Type 0
Says (Ok statement) read = read ≡ Ok (meaning_of statement)
Says (Err trouble.Memory) read = IsOkAnd read (λ meaning. IsTrue (takes_memory meaning))
Says (Err (trouble.Line fault)) read = read ≡ Err fault

-- what clauses in memory say
abbrev pub clauses_read : {C : Type 0} → Clauses C → ClausesRead C
clauses_read clauses = record { items = clauses.items; has_option = clauses.has_option; queue = clauses.queue }

-- ---- lists that are being filled

-- the items of a list, or one alone
abbrev pub IsAll : {A : Type 0} → Option A → List A → List A → Type 0
IsAll None items all = items ≡ all
IsAll (Some item) items all = (items ≡ []) × (item ∷ [] ≡ all)

-- what is kept of a list is all of it; or memory was refused for an item of it
pub record IsKept {A : Type 0} (kept : KeptItems A) (items : List A) : Type 0 where
  pub all : kept.is_wanting ≡ false → IsAll kept.alone kept.items.items items
  pub some : kept.is_wanting ≡ true → (length items == 0) ≡ false

-- what items come to: a list of just their length, the only one, or that memory was refused for some of them
abbrev pub IsFinished : {A : Type 0} → Finished A → List A → Type 0
IsFinished (Fitted copy) items = (copy.items ≡ items) × (vec_capacity copy ≡ vec_len copy)
IsFinished (Single item) items = item ∷ [] ≡ items
IsFinished Refused items = (length items == 0) ≡ false

-- what is kept of clauses and options that were read
pub record IsRead {C : Type 0} (unfinished : Unfinished C) (read : ClausesRead C) : Type 0 where
  pub items : IsKept unfinished.items read.items
  pub has_option : unfinished.has_option ≡ read.has_option
  pub queue : unfinished.queue ≡ read.queue
