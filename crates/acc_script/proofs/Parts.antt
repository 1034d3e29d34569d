-- Texts as the parts that are written one after the other.
use Rattle.std.proofs.Common.{◌≡◌, ℕ, List, ◌++◌, refl, sym, append_assoc}
use Rattle.std.specs.Prelude.{codes}
use Rattle.std.specs.Fmt.{decimal}
use Rattle.acc_base.specs.declared.faults.Fault.{Fault}
use Rattle.acc_base.specs.Faults.{number_of, name_of, fields_text}
use Rattle.acc_base.specs.Devices.{open_regions}
use Rattle.acc_base.specs.Calls.{World, event_count}
use Rattle.acc_script.specs.Texts.{refusal_start, refusal_text, memories_text, totals_text, report_text}

-- the texts of a refusal, grouped as they are written
regrouped : (line number name fields : List ℕ)
    → ((codes "line " ++ (line ++ (codes ": refused " ++ (number ++ (codes " " ++ name))))) ++ fields) ++ codes "\n"
    ≡ codes "line " ++ (line ++ (codes ": refused " ++ ((number ++ codes " " ++ name ++ fields) ++ codes "\n")))
regrouped line number name fields = simp append_assoc

-- the line of a refusal as its start, its fields and its end
pub refusal_parts : (line : ℕ) (fault : Fault)
    → refusal_text line fault ≡ (refusal_start line fault ++ fields_text fault) ++ codes "\n"
unfolding refusal_text
refusal_parts line fault =
    sym (regrouped (decimal line) (decimal (number_of fault)) (name_of fault) (fields_text fault))

-- ---- the report

-- the line of totals of a world
abbrev pub totals_of : World → List ℕ
totals_of w = totals_text (open_regions w.state) (event_count w.history)

-- a report as the lines of its memories and that of totals
pub report_parts : (w : World) → report_text w ≡ memories_text w ++ totals_of w
unfolding report_text
report_parts w = refl
