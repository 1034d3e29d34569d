-- The clauses and options of a directive.
use Rattle.std.specs.Prelude.{ℕ, Bool, true, false, not, List, [], ◌∷◌, ◌++◌, length, Option, Some, None, Result, Ok, Err, ok_or, is_some, ◌==◌, if◌then◌else◌}
use Rattle.acc_base.specs.declared.faults.ScriptFault.{ScriptFault}
use Rattle.acc_base.specs.declared.faults.ScriptFault.TheVariants.{Syntax}
use Rattle.acc_base.specs.declared.items.Item.{Item}
use Rattle.acc_read.specs.declared.items.ItemKind.{ItemKind}
use Rattle.acc_read.specs.Reading.{◌>>=◌}
use Rattle.acc_read.specs.Repeating.{one_or_more}
use Rattle.acc_read.specs.Tokens.{word_at, mark_at, is_mark_next, is_word_before, is_at_end, left_parenthesis, right_parenthesis, colon, comma}
use Rattle.acc_read.specs.Layout.{ArrayLayout}
use Rattle.acc_read.specs.Items.{one_item_at}
use Rattle.acc_read.specs.Queues.{async_queue_at}
use Rattle.acc_read.specs.Grammar.{Grammar}

-- ---- the items of a clause

-- an item, behind the items before
unfoldable pub item_at : {C : Type 0} → ItemKind → C → ArrayLayout → List (Item C) → List ℕ
    → Result (List (Item C) × List ℕ) ScriptFault
item_at kind clause layout before text = do
  item ← one_item_at kind clause layout text
  Ok (before ++ item.0 ∷ [], item.1)

-- one item or more, separated by commas, behind the items before
abbrev pub items_at : {C : Type 0} → ItemKind → C → ArrayLayout → List (Item C) → List ℕ
    → Result (List (Item C) × List ℕ) ScriptFault
items_at kind clause layout before text = one_or_more (item_at kind clause layout) (is_mark_next comma) before text

-- ---- a clause

-- a modifier, and the colon after it
unfoldable pub modifier_at : {C : Type 0} → Grammar C → C → List ℕ → Result (C × List ℕ) ScriptFault
modifier_at grammar clause text = do
  word ← word_at text
  between ← mark_at colon word.1
  modified ← ok_or (grammar.modified clause word.0) Syntax
  Ok (modified, between)

-- the first word is a modifier exactly where a colon follows it
unfoldable pub modified_at : {C : Type 0} → Grammar C → C → List ℕ → Result (C × List ℕ) ScriptFault
modified_at grammar clause text = if is_word_before colon text then modifier_at grammar clause text
    else Ok (clause, text)

-- the items of a clause, in parentheses
unfoldable pub group_at : {C : Type 0} → Grammar C → C → ArrayLayout → List (Item C) → List ℕ
    → Result (List (Item C) × List ℕ) ScriptFault
group_at grammar clause layout before text = do
  inside ← mark_at left_parenthesis text
  modified ← modified_at grammar clause inside
  items ← items_at (grammar.lists modified.0) modified.0 layout before modified.1
  close ← mark_at right_parenthesis items.1
  Ok (items.0, close)

-- ---- clauses and options

-- the items so far, whether the option stood before, and the queue, if one was named
pub record ClausesRead (C : Type 0) : Type 0 where
  pub items : List (Item C)
  pub has_option : Bool
  pub queue : Option ℕ

-- no clause, no option and no queue
abbrev pub nothing_read : {C : Type 0} → ClausesRead C
nothing_read = record { items = []; has_option = false; queue = None }

-- the items of the clause of a word, behind those before, if the word is one
abbrev pub listed : {C : Type 0} → Option C → Grammar C → ArrayLayout → ClausesRead C → List ℕ
    → Result (ClausesRead C × List ℕ) ScriptFault
listed named grammar layout before rest = do
  clause ← ok_or named Syntax
  items ← group_at grammar clause layout before.items rest
  Ok (record before { items = items.0 }, items.1)

-- the option, which stands once at most
abbrev pub passed_over : {C : Type 0} → ClausesRead C → List ℕ → Result (ClausesRead C × List ℕ) ScriptFault
passed_over before rest = if before.has_option then Err Syntax else Ok (record before { has_option = true }, rest)

-- the queue of `async`
abbrev pub with_queue : {C : Type 0} → ClausesRead C → List ℕ → Result (ClausesRead C × List ℕ) ScriptFault
with_queue before rest = do
  queue ← async_queue_at rest
  Ok (record before { queue = Some queue.0 }, queue.1)

-- `async`, which stands once at most
abbrev pub queued : {C : Type 0} → ClausesRead C → List ℕ → Result (ClausesRead C × List ℕ) ScriptFault
queued before rest = if is_some before.queue then Err Syntax else with_queue before rest

-- a clause or an option
unfoldable pub clause_at : {C : Type 0} → Grammar C → ArrayLayout → ClausesRead C → List ℕ
    → Result (ClausesRead C × List ℕ) ScriptFault
clause_at grammar layout before text = do
  word ← word_at text
  if grammar.is_option word.0
      then passed_over before word.1
      else if grammar.is_async word.0 then queued before word.1
      else listed (grammar.clause_of word.0) grammar layout before word.1

-- more than blanks is left
abbrev pub goes_on : List ℕ → Bool
goes_on text = not (is_at_end text)

-- clauses and options up to the end of the line, with or without a comma between two of them, behind those before
abbrev pub all_clauses_at : {C : Type 0} → Grammar C → ArrayLayout → ClausesRead C → List ℕ
    → Result (ClausesRead C × List ℕ) ScriptFault
all_clauses_at grammar layout before text = one_or_more (clause_at grammar layout) goes_on before text

-- what was read, if a clause was among it: each clause has an item
abbrev pub with_clause : {C : Type 0} → ClausesRead C → Result (ClausesRead C) ScriptFault
with_clause read = if length read.items == 0 then Err Syntax else Ok read

-- the clauses and options of a directive, at least one clause
unfoldable pub clauses_at : {C : Type 0} → Grammar C → ArrayLayout → List ℕ → Result (ClausesRead C) ScriptFault
clauses_at grammar layout text = do
  read ← all_clauses_at grammar layout nothing_read text
  with_clause read.0
