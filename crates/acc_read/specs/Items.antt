-- The items of a clause: sections, the pointers to them, or pointers alone.
use Rattle.std.specs.Prelude.{ℕ, List, Option, Some, None, Result, Ok, if◌then◌else◌, codes}
use Rattle.acc_base.specs.declared.faults.ScriptFault.{ScriptFault}
use Rattle.acc_base.specs.declared.items.Item.{Item}
use Rattle.acc_base.specs.Attachments.{pointer_at}
use Rattle.acc_read.specs.declared.items.ItemKind.{ItemKind}
use Rattle.acc_read.specs.declared.items.ItemKind.TheVariants.{Sections, Items, Pointers}
use Rattle.acc_read.specs.Reading.{◌>>=◌}
use Rattle.acc_read.specs.Tokens.{is_word_next, keyword_at}
use Rattle.acc_read.specs.Layout.{ArrayLayout}
use Rattle.acc_read.specs.Places.{address_at, section_at}

-- the pointer behind the word `via`
unfoldable pub via_at : ArrayLayout → List ℕ → Result (Option ℕ × List ℕ) ScriptFault
via_at layout text = do
  rest ← keyword_at (codes "via") text
  pointer ← address_at layout rest
  Ok (Some pointer.0, pointer.1)

-- the pointer to a section, where the word `via` stands next
unfoldable pub aim_at : ArrayLayout → List ℕ → Result (Option ℕ × List ℕ) ScriptFault
aim_at layout text = if is_word_next (codes "via") text then via_at layout text else Ok (None, text)

-- an item: a section; or a section, and the pointer to it where one is named; or a pointer, which is its own eight bytes
unfoldable pub one_item_at : {C : Type 0} → ItemKind → C → ArrayLayout → List ℕ → Result (Item C × List ℕ) ScriptFault
one_item_at Sections clause layout text = do
  section ← section_at layout text
  Ok (record { clause = clause; section = section.0; pointer = None }, section.1)
one_item_at Items clause layout text = do
  section ← section_at layout text
  aim ← aim_at layout section.1
  Ok (record { clause = clause; section = section.0; pointer = aim.0 }, aim.1)
one_item_at Pointers clause layout text = do
  pointer ← address_at layout text
  Ok (record { clause = clause; section = pointer_at pointer.0; pointer = None }, pointer.1)
