-- A section that is written over leaves the block's other bytes.
use Rattle.std.proofs.Common.{◌≡◌, ℕ, ◌+◌, ◌≤◌, List, ◌++◌, length, take, drop, refl, sym, ap, ap₂, ◌∙◌, arith, append_assoc, length-append, length-drop}
use Rattle.std.proofs.lemmas.List.{take_all, length-take-le}
use Rattle.std.proofs.Math.Seq.{take-append_seam, drop-append_seam}
use Rattle.acc_base.specs.Loans.{Leased}
use Rattle.acc_lend.specs.Loans.{IsLoan, section, with_section, written_over, IsKeptOutside}

-- where the bytes fit, nothing is cut off
written_whole : (offset : ℕ) (bytes old : List ℕ) → offset + length bytes ≤ length old → written_over offset bytes old ≡ take offset old ++ (bytes ++ drop (offset + length bytes) old)
written_whole offset bytes old fits =
    let front : length (take offset old) ≡ offset = length-take-le offset old (omega arith) in
    take_all (length old) _ (simp (length-append, length-drop) (omega arith))

before_written : (offset : ℕ) (bytes old : List ℕ) → offset + length bytes ≤ length old → take offset (written_over offset bytes old) ≡ take offset old
before_written offset bytes old fits =
    let front : length (take offset old) ≡ offset = length-take-le offset old (omega arith) in
    let rest = bytes ++ drop (offset + length bytes) old in
    ap₂ take (sym front) (written_whole offset bytes old fits) ∙ take-append_seam (take offset old) rest

behind_written : (offset : ℕ) (bytes old : List ℕ) → offset + length bytes ≤ length old → drop (offset + length bytes) (written_over offset bytes old) ≡ drop (offset + length bytes) old
behind_written offset bytes old fits =
    let front : length (take offset old) ≡ offset = length-take-le offset old (omega arith) in
    let seam : offset + length bytes ≡ length (take offset old ++ bytes) = simp length-append (omega arith) in
    let rest = drop (offset + length bytes) old in
    ap₂ drop seam (written_whole offset bytes old fits ∙ sym (append_assoc (take offset old) bytes rest))
    ∙ drop-append_seam (take offset old ++ bytes) rest

-- the bytes of the section are those that were written over it
pub section_written : (l : Leased) (bytes : List ℕ) → IsLoan l → length bytes ≡ l.len → section (with_section l bytes) ≡ bytes
section_written l bytes laws long =
    let fits : l.offset + length bytes ≤ length l.bytes = omega (arith, laws.within) in
    let front : length (take l.offset l.bytes) ≡ l.offset = length-take-le l.offset l.bytes (omega arith) in
    let rest = drop (l.offset + length bytes) l.bytes in
    ap₂ (λ n xs. take n xs) (sym long) (ap₂ drop (sym front) (written_whole l.offset bytes l.bytes fits) ∙ drop-append_seam (take l.offset l.bytes) (bytes ++ rest))
    ∙ take-append_seam bytes rest

pub kept_outside : (l : Leased) (bytes : List ℕ) → IsLoan l → length bytes ≡ l.len → IsKeptOutside l (with_section l bytes)
kept_outside l bytes laws long =
    let fits : l.offset + length bytes ≤ length l.bytes = omega (arith, laws.within) in
    record {
      device = refl;
      serial = refl;
      block = refl;
      offset = refl;
      len = refl;
      before = before_written l.offset bytes l.bytes fits;
      behind = ap (λ n. drop (l.offset + n) (with_section l bytes).bytes) (sym long) ∙ behind_written l.offset bytes l.bytes fits ∙ ap (λ n. drop (l.offset + n) l.bytes) long;
    }
