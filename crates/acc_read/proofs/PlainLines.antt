-- A line that is text, and that no comment ends.
use Rattle.std.proofs.Common.{◌≡◌, ℕ, Bool, true, false, ◌+◌, cond, List, [], ◌∷◌, length, take_all, Ok, refl, ap, ◌∙◌, arith}
use Rattle.std.specs.Prelude.{not, ◌==◌, ◌&&◌, ◌||◌, nat_le}
use Rattle.std.specs.List.{list_all, prefix_len}
use Rattle.std.proofs.lemmas.Bool.{and_parts}
use Rattle.acc_read.specs.Tokens.{tab}
use Rattle.acc_read.specs.Statements.{is_text_byte, hash, before_comment}
use Rattle.acc_read.specs.PlainLines.{is_plain_byte, text_of}

-- a line without a comment stands before it as long as it is
all_before : (line : List ℕ) → list_all is_plain_byte line ≡ true → prefix_len (λ b. not (b == hash)) line ≡ length line
all_before [] all = refl
all_before (b ∷ line) all =
    let parts = and_parts (is_plain_byte b) (list_all is_plain_byte line) all in
    let bytes = and_parts (nat_le 32 b && nat_le b 126) (not (b == hash)) parts.0 in
    let rest = all_before line parts.1 in
    ap (λ c. cond c (1 + prefix_len (λ b. not (b == hash)) line) 0) bytes.1 ∙ omega (arith, rest)

-- all of it stands before it
plain_before : (line : List ℕ) → list_all is_plain_byte line ≡ true → before_comment line ≡ line
plain_before line all = let whole = all_before line all in take_all _ line (omega (arith, whole))

or_so : (x y : Bool) → y ≡ true → (x || y) ≡ true
or_so true y e = refl
or_so false y e = e

-- its bytes are text
plain_text : (line : List ℕ) → list_all is_plain_byte line ≡ true → list_all is_text_byte line ≡ true
plain_text [] all = refl
plain_text (b ∷ line) all =
    let parts = and_parts (is_plain_byte b) (list_all is_plain_byte line) all in
    let bytes = and_parts (nat_le 32 b && nat_le b 126) _ parts.0 in
    rw (or_so (b == tab) _ bytes.0, plain_text line parts.1) refl

-- it is read as it stands
pub plain_line : (line : List ℕ) → list_all is_plain_byte line ≡ true → text_of line ≡ Ok line
plain_line line all = rw (plain_before line all, plain_text line all) refl

-- what is known of plain lines
pub ruleset plain_laws = (plain_line)
