-- The words of the clauses of each directive.
use Rattle.std.specs.Prelude.{ℕ, Bool, true, false, List, Option, Some, None, if◌then◌else◌, codes}
use Rattle.std.specs.Str.{bytes_eq}
use Rattle.acc_base.specs.declared.items.RegionClause.{RegionClause}
use Rattle.acc_base.specs.declared.items.RegionClause.TheVariants as region
use Rattle.acc_base.specs.declared.items.EnterClause.{EnterClause}
use Rattle.acc_base.specs.declared.items.EnterClause.TheVariants as enter
use Rattle.acc_base.specs.declared.items.ExitClause.{ExitClause}
use Rattle.acc_base.specs.declared.items.ExitClause.TheVariants as exit
use Rattle.acc_base.specs.declared.items.UpdateClause.{UpdateClause}
use Rattle.acc_base.specs.declared.items.UpdateClause.TheVariants.{ToSelf, ToDevice}
use Rattle.acc_read.specs.declared.items.ItemKind.{ItemKind}
use Rattle.acc_read.specs.declared.items.ItemKind.TheVariants.{Sections, Items, Pointers}

-- what the words of a directive say: a clause, a clause with a modifier, what a clause lists, the option, and `async`
pub record Grammar (C : Type 0) : Type 0 where
  pub clause_of : List ℕ → Option C
  pub modified : C → List ℕ → Option C
  pub lists : C → ItemKind
  pub is_option : List ℕ → Bool
  pub is_async : List ℕ → Bool

-- no word is an option
abbrev pub no_option : List ℕ → Bool
no_option word = false

-- the option that puts the copies of a directive into a queue (OpenACC 3.3, section 2.16)
abbrev pub says_async : List ℕ → Bool
says_async word = bytes_eq word (codes "async")

-- ---- `data` (OpenACC 3.3, the data construct)

-- the clause of `data` that a word names
abbrev pub region_clause_of : List ℕ → Option RegionClause
region_clause_of word = if bytes_eq word (codes "copy") then Some region.Copy
    else if bytes_eq word (codes "copyin") then Some region.Copyin
    else if bytes_eq word (codes "copyout") then Some (region.Copyout false)
    else if bytes_eq word (codes "create") then Some (region.Create false)
    else if bytes_eq word (codes "no_create") then Some region.NoCreate
    else if bytes_eq word (codes "present") then Some region.Present
    else if bytes_eq word (codes "attach") then Some region.Attach
    else None

-- a clause of `data` with a modifier; `readonly` changes nothing
abbrev pub region_modified : RegionClause → List ℕ → Option RegionClause
region_modified region.Copyin word = if bytes_eq word (codes "readonly") then Some region.Copyin else None
region_modified (region.Copyout filled) word = if bytes_eq word (codes "zero") then Some (region.Copyout true) else None
region_modified (region.Create filled) word = if bytes_eq word (codes "zero") then Some (region.Create true) else None
region_modified _ word = None

-- what a clause of `data` lists
abbrev pub region_lists : RegionClause → ItemKind
region_lists region.Attach = Pointers
region_lists _ = Items

-- the words of `data`
abbrev pub region_grammar : Grammar RegionClause
region_grammar = record {
  clause_of = region_clause_of;
  modified = region_modified;
  lists = region_lists;
  is_option = no_option;
  is_async = no_option;
}

-- ---- `enter data` (OpenACC 3.3, the enter data directive)

-- the clause of `enter data` that a word names
abbrev pub enter_clause_of : List ℕ → Option EnterClause
enter_clause_of word = if bytes_eq word (codes "copyin") then Some enter.Copyin
    else if bytes_eq word (codes "create") then Some (enter.Create false)
    else if bytes_eq word (codes "attach") then Some enter.Attach
    else None

-- a clause of `enter data` with a modifier; `readonly` changes nothing
abbrev pub enter_modified : EnterClause → List ℕ → Option EnterClause
enter_modified enter.Copyin word = if bytes_eq word (codes "readonly") then Some enter.Copyin else None
enter_modified (enter.Create filled) word = if bytes_eq word (codes "zero") then Some (enter.Create true) else None
enter_modified enter.Attach word = None

-- what a clause of `enter data` lists
abbrev pub enter_lists : EnterClause → ItemKind
enter_lists enter.Attach = Pointers
enter_lists _ = Items

-- the words of `enter data`
abbrev pub enter_grammar : Grammar EnterClause
enter_grammar = record {
  clause_of = enter_clause_of;
  modified = enter_modified;
  lists = enter_lists;
  is_option = no_option;
  is_async = says_async;
}

-- ---- `exit data` (OpenACC 3.3, the exit data directive)

-- the clause of `exit data` that a word names
abbrev pub exit_clause_of : List ℕ → Option ExitClause
exit_clause_of word = if bytes_eq word (codes "copyout") then Some exit.Copyout
    else if bytes_eq word (codes "delete") then Some exit.Delete
    else if bytes_eq word (codes "detach") then Some exit.Detach
    else None

-- what a clause of `exit data` lists
abbrev pub exit_lists : ExitClause → ItemKind
exit_lists exit.Detach = Pointers
exit_lists _ = Items

-- the option of `exit data`
abbrev pub is_finalize : List ℕ → Bool
is_finalize word = bytes_eq word (codes "finalize")

-- the words of `exit data`
abbrev pub exit_grammar : Grammar ExitClause
exit_grammar = record {
  clause_of = exit_clause_of;
  modified = λ clause word. None;
  lists = exit_lists;
  is_option = is_finalize;
  is_async = says_async;
}

-- ---- `update` (OpenACC 3.3, the update directive)

-- the clause of `update` that a word names; `host` says what `self` says
abbrev pub update_clause_of : List ℕ → Option UpdateClause
update_clause_of word = if bytes_eq word (codes "self") then Some ToSelf
    else if bytes_eq word (codes "host") then Some ToSelf
    else if bytes_eq word (codes "device") then Some ToDevice
    else None

-- the option of `update`
abbrev pub is_if_present : List ℕ → Bool
is_if_present word = bytes_eq word (codes "if_present")

-- the words of `update`
abbrev pub update_grammar : Grammar UpdateClause
update_grammar = record {
  clause_of = update_clause_of;
  modified = λ clause word. None;
  lists = λ clause. Sections;
  is_option = is_if_present;
  is_async = says_async;
}
