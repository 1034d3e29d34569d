-- What an outline tells of the tasks that were judged so far.
use Rattle.std.specs.Prelude.{ℕ, ◌≡◌, ◌≤◌, ◌%◌, Bool, true, false, List, length, slice_index_or}
use Rattle.std.specs.List.{AllByRecursion}
use Rattle.acc_clauses.specs.Words.{Task, Step}
use Rattle.acc_base.specs.declared.events.Step.TheVariants.{Counted, Born, Dropped}
use Rattle.acc_base.specs.Section.{end_of}
use Rattle.acc_base.specs.Tasks.{section_of}
use Rattle.acc_clauses.specs.declared.acted.Acted.{Acted}
use Rattle.acc_clauses.specs.declared.outlines.Outline.{Outline}

-- a section that the task maps to a new block lies between these addresses
abbrev pub IsBornWithin : ℕ → ℕ → Task → Step → Type 0
IsBornWithin low high task (Born block place) = (low ≤ (section_of task).start) × (end_of (section_of task) ≤ high)
IsBornWithin low high task _ = Unit {0}

-- the block has a mark
abbrev pub is_marked : ℕ → List Bool → Bool
is_marked block marks = slice_index_or marks (block % 64) false

-- the block whose counters the step changes has one
abbrev pub IsStepMarked : List Bool → Step → Type 0
IsStepMarked marks (Counted block) = is_marked block marks ≡ true
IsStepMarked marks (Born block place) = is_marked block marks ≡ true
IsStepMarked marks (Dropped block ended) = is_marked block marks ≡ true
IsStepMarked marks _ = Unit {0}

-- both hold of each task
pub record IsOutlined (xs : List Acted) (o : Outline) : Type 0 where
  pub born : AllByRecursion (λ x. IsBornWithin o.low o.high x.task x.did.step) xs
  pub marked : AllByRecursion (λ x. IsStepMarked o.marks x.did.step) xs
  pub marks : length o.marks ≡ 64
