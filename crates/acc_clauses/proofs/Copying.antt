-- A copy is a part of a list that is replaced.
use Rattle.std.proofs.Common.{ℕ, zero, suc, ◌≡◌, ◌+◌, ◌-◌, ◌<◌, ◌≤◌, refl, ◌∙◌, ap, subst, true, false, List, [], ◌∷◌, ◌++◌, length, take, drop, replicate, map, append-nil, arith}
use Rattle.std.specs.Prelude.{slice_index}
use Rattle.std.specs.List.{AllByRecursion}
use Rattle.std.proofs.lemmas.Bool.Decides.{nat_tests}
use Rattle.std.proofs.lemmas.List.{get_or-take, get_or-drop, length-drop, length-take-le, length-replicate, take-append-drop}
use Rattle.acc_clauses.specs.Words.{Section, Attachment}
use Rattle.acc_base.specs.Section.{covers, end_of, is_within, host_memory, host_base}
use Rattle.acc_base.specs.Attachments.{is_skipped}
use Rattle.acc_base.specs.Records.{Memory}
use Rattle.acc_base.specs.Bytes.{written_bytes, memory_changed, is_moved, bytes_moved_in, bytes_moved_out, host_after_write}
use Rattle.acc_base.proofs.Results.{equal_self}
use Rattle.acc_base.specs.Overwriting.{overwritten}
use Rattle.acc_dev.specs.Host.{bytes_in}

-- ---- bytes written at the addresses of a section

covers_not : (s : Section) (a : ℕ) → end_of s ≤ a → covers s a ≡ false
covers_not s a h = grind (arith, nat_tests)

covers_before : (s : Section) (a : ℕ) → a < s.start → covers s a ≡ false
covers_before s a h = grind (arith, nat_tests)

-- these are the source's bytes from an address on
abbrev pub IsFrom : (ℕ → ℕ) → ℕ → List ℕ → Type 0
IsFrom source a bytes = (k : ℕ) → k < length bytes → slice_index bytes k ≡ source (a + k)

from_next : (source : ℕ → ℕ) (a byte : ℕ) (bytes : List ℕ) → IsFrom source a (byte ∷ bytes) → IsFrom source (suc a) bytes
from_next source a byte bytes h k below = h (suc k) (omega (arith, below)) ∙ ap source (let same : a + suc k ≡ suc a + k = omega arith in same)

from_first : (source : ℕ → ℕ) (a byte : ℕ) (bytes : List ℕ) → IsFrom source a (byte ∷ bytes) → byte ≡ source a
from_first source a byte bytes h = h 0 (omega arith) ∙ ap source (let same : a + 0 ≡ a = omega arith in same)

written-behind : (s : Section) (source : ℕ → ℕ) (a : ℕ) (old : List ℕ) → end_of s ≤ a → written_bytes (covers s) source a old ≡ old
written-behind s source a [] h = refl
written-behind s source a (x ∷ xs) h = rw (covers_not s a h, written-behind s source (suc a) xs (omega (arith, h))) refl

written-within : (s : Section) (source : ℕ → ℕ) (a : ℕ) (old bytes : List ℕ) → s.start ≤ a → a + length bytes ≡ end_of s → length bytes ≤ length old → IsFrom source a bytes
    → written_bytes (covers s) source a old ≡ bytes ++ drop (length bytes) old
written-within s source a old [] low ends fits is = written-behind s source a old (omega (arith, ends))
written-within s source a [] (byte ∷ bytes) low ends fits is = absurd (omega (arith, fits))
written-within s source a (x ∷ xs) (byte ∷ bytes) low ends fits is = grind (arith, nat_tests, written-within s source (suc a) xs bytes (omega (arith, low)) (omega (arith, ends)) (omega (arith, fits)) (from_next source a byte bytes is), from_first)

pub written-overwritten : (s : Section) (source : ℕ → ℕ) (n a : ℕ) (old bytes : List ℕ) → a + n ≡ s.start → end_of s ≤ a + length old → length bytes ≡ s.len → IsFrom source s.start bytes
    → written_bytes (covers s) source a old ≡ overwritten n bytes old
written-overwritten s source zero a old bytes at fits len is =
    written-within s source a old bytes (omega (arith, at)) (omega (arith, at, len)) (omega (arith, at, len, fits)) (subst (λ x. IsFrom source x bytes) (let same : s.start ≡ a = omega (arith, at) in same) is)
    ∙ ap (λ m. bytes ++ drop m old) (let same : length bytes ≡ 0 + length bytes = omega arith in same)
written-overwritten s source (suc n) a [] bytes at fits len is = absurd (omega (arith, at, fits))
written-overwritten s source (suc n) a (x ∷ xs) bytes at fits len is =
    let rest : written_bytes (covers s) source (suc a) xs ≡ overwritten n bytes xs = written-overwritten s source n (suc a) xs bytes (omega (arith, at)) (omega (arith, fits)) len is in
    rw (covers_before s a (omega (arith, at)), rest) (ap (λ m. take (suc n) (x ∷ xs) ++ bytes ++ drop m (x ∷ xs)) (let same : suc (n + length bytes) ≡ suc n + length bytes = omega arith in same))

-- ---- which addresses are written

-- no attached pointer has the address
pub moved-clear : (s : Section) (block : ℕ) (attached : List Attachment) (a : ℕ) → is_skipped block attached a ≡ false → is_moved s block attached a ≡ covers s a
moved-clear s block attached a e = grind (arith, nat_tests)

-- ---- a part of a list

-- so many elements from an index on
abbrev pub part : List ℕ → ℕ → ℕ → List ℕ
part xs at len = take len (drop at xs)

pub part-length : (xs : List ℕ) (at len : ℕ) → at + len ≤ length xs → length (part xs at len) ≡ len
part-length xs at len h = length-take-le len (drop at xs) (let below : length (drop at xs) ≡ length xs - at = length-drop at xs in omega (arith, h, below))

part-each : (xs : List ℕ) (at len k : ℕ) → k < len → slice_index (part xs at len) k ≡ slice_index xs (at + k)
part-each xs at len k h = get_or-take len (drop at xs) k 0 h ∙ get_or-drop at xs k 0

-- ---- copies

-- a section in a list that begins at an address
pub record IsPartAt (s : Section) (first size at : ℕ) : Type 0 where
  pub at_is : first + at ≡ s.start
  pub fits : end_of s ≤ first + size
  pub index_is : s.start - first ≡ at

pub within_is_part : (s t : Section) → is_within s t ≡ true → IsPartAt s t.start t.len (s.start - t.start)
within_is_part s t h = grind (arith, nat_tests)

from_part : (s : Section) (first : ℕ) (xs : List ℕ) → first ≤ s.start → end_of s ≤ first + length xs → IsFrom (λ a. slice_index xs (a - first)) s.start (part xs (s.start - first) s.len)
from_part s first xs low fits k below = grind (arith, nat_tests, part-length, part-each)

pub moved_in : (s : Section) (host : List ℕ) (start : ℕ) (bytes : List ℕ) → is_within s (host_memory (length host)) ≡ true → is_within s (record { start = start; len = length bytes }) ≡ true
    → bytes_moved_in (covers s) host start bytes ≡ overwritten (s.start - start) (bytes_in host s) bytes
moved_in s host start bytes in_host inside = grind (arith, nat_tests, written-overwritten, part-length, from_part)

pub moved_out : (s : Section) (bytes : List ℕ) (start : ℕ) (host : List ℕ) → is_within s (host_memory (length host)) ≡ true → is_within s (record { start = start; len = length bytes }) ≡ true
    → bytes_moved_out (covers s) bytes start host ≡ overwritten (s.start - host_base) (part bytes (s.start - start) s.len) host
moved_out s bytes start host in_host inside = grind (arith, nat_tests, part-length, written-overwritten, from_part)

-- ---- a write of the host

pub from_all : (addr : ℕ) (bytes : List ℕ) → IsFrom (λ a. slice_index bytes (a - addr)) addr bytes
from_all addr bytes k below = ap (slice_index bytes) (let same : k ≡ addr + k - addr = omega arith in same)

written-empty : (s : Section) (source : ℕ → ℕ) (a : ℕ) (old : List ℕ) → s.len ≡ 0 → written_bytes (covers s) source a old ≡ old
written-empty s source a [] h = refl
written-empty s source a (x ∷ xs) h = grind (arith, nat_tests, written-empty s source (suc a) xs h)

overwritten-none : (offset : ℕ) (host bytes : List ℕ) → length bytes ≡ 0 → overwritten offset bytes host ≡ host
overwritten-none offset host [] e = rw (append-nil (take offset host)) (ap (λ n. take offset host ++ drop n host) (let same : offset + 0 ≡ offset = omega arith in same) ∙ take-append-drop offset host)
overwritten-none offset host (x ∷ xs) e = absurd (omega (arith, e))

pub host_written : (addr : ℕ) (bytes host : List ℕ) → (0 < length bytes → is_within (record { start = addr; len = length bytes }) (host_memory (length host)) ≡ true)
    → host_after_write addr (length bytes) bytes host ≡ overwritten (addr - host_base) bytes host
host_written addr bytes host inside = grind (arith, nat_tests, written-empty, overwritten-none, within_is_part, written-overwritten, from_all)

-- ---- the bytes of a new block

drop-replicate : (n fill : ℕ) → drop n (replicate n fill) ≡ []
drop-replicate zero fill = refl
drop-replicate (suc n) fill = drop-replicate n fill

-- a new block that is copied whole has the host's bytes, whatever filled it
pub born_copied : (s : Section) (start fill : ℕ) (host : List ℕ) → is_within s (host_memory (length host)) ≡ true → start ≡ s.start → bytes_moved_in (covers s) host start (replicate s.len fill) ≡ bytes_in host s
born_copied s start fill host in_host e = grind (arith, nat_tests, length-replicate, within_is_part, part-length, moved_in, drop-replicate, append-nil)

-- ---- memories

-- only the block's memory matters
pub changed-same : (block : ℕ) (f g : List ℕ → List ℕ) (memories : List Memory) → AllByRecursion (λ m. m.block ≡ block → f m.bytes ≡ g m.bytes) memories → map (memory_changed block f) memories ≡ map (memory_changed block g) memories
changed-same block f g [] h = refl
changed-same block f g (m ∷ ms) h = grind (arith, nat_tests, changed-same block f g ms h.1)

-- a new block's memory is the last one
pub changed-last : (block : ℕ) (f : List ℕ → List ℕ) (bytes : List ℕ) (memories : List Memory) → AllByRecursion (λ m. m.block ≡ block → ⊥) memories
    → map (memory_changed block f) (memories ++ record { block = block; bytes = bytes } ∷ []) ≡ memories ++ record { block = block; bytes = f bytes } ∷ []
changed-last block f bytes [] h = rw (equal_self block) refl
changed-last block f bytes (m ∷ ms) h = grind (arith, nat_tests, changed-last block f bytes ms h.1)
