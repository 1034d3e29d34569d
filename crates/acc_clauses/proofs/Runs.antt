-- A copy in runs, each up to the next attached pointer, leaves out the bytes of these pointers and copies all others.
use Rattle.std.proofs.Common.{ℕ, suc, ◌≡◌, ◌+◌, ◌-◌, ◌<◌, ◌≤◌, refl, Bool, true, false, List, [], ◌∷◌, map, Some, None, arith, ⊎_elim}
use Rattle.std.specs.Prelude.{◌⊎◌, ◌||◌}
use Rattle.std.proofs.lemmas.Bool.Decides.{nat_tests}
use Rattle.acc_clauses.specs.Words.{Section, Attachment}
use Rattle.acc_base.specs.Section.{covers, end_of, is_within}
use Rattle.acc_base.specs.Attachments.{IsBefore, next_pointer}
use Rattle.acc_base.specs.Records.{Memory}
use Rattle.acc_base.specs.Bytes.{written_bytes, memory_changed, is_moved}
use Rattle.acc_base.specs.Accounts.{EachPair}
use Rattle.acc_base.proofs.Attached.{clear_to_end, clear_to_next, skipped_at_next}
use Rattle.acc_base.proofs.Pointers.{next_low}
use Rattle.acc_clauses.specs.Copies.{moved_below, IsRunEnd}

-- ---- where a run ends

-- at the next pointer, or at the end where that comes first
pub ends_at_next : (block : ℕ) (attached : List Attachment) (at end next stop : ℕ) → EachPair IsBefore attached → next_pointer block (at - 7) attached ≡ Some next → at < end → stop ≤ next → stop ≤ end → (stop < end → stop ≡ next)
    → IsRunEnd block attached at end stop
ends_at_next block attached at end next stop rising e some below most is = record {
  most = most;
  more = let low : at - 7 ≤ next = next_low block (at - 7) attached next e in ⊎_elim (λ (less : stop < end). let same : stop ≡ next = is less in omega (arith, low, same)) (λ (same : stop ≡ end). omega (arith, some, same)) (sides stop end most);
  clear = λ a low high. clear_to_next block at a next attached rising e low (omega (arith, high, below));
  skipped = λ a low first last inside. let same : stop ≡ next = is (omega (arith, first, inside)) in skipped_at_next block (at - 7) a next attached e (omega (arith, first, same)) (omega (arith, last, same));
}
  where
    sides : (a b : ℕ) → a ≤ b → (a < b) ⊎ (a ≡ b)
    sides a b h = grind (arith, nat_tests)

-- and where there is none
pub ends_without : (block : ℕ) (attached : List Attachment) (at end : ℕ) → next_pointer block (at - 7) attached ≡ None → at < end → IsRunEnd block attached at end end
ends_without block attached at end e some = grind (arith, nat_tests, clear_to_end)

-- ---- which addresses are copied

-- at the start none is copied yet
below_start : (s : Section) (block : ℕ) (attached : List Attachment) (a : ℕ) → moved_below s block attached s.start a ≡ false
below_start s block attached a = grind (arith, nat_tests)

-- at the end all are
below_end : (s : Section) (block : ℕ) (attached : List Attachment) (at a : ℕ) → end_of s ≤ at → moved_below s block attached at a ≡ is_moved s block attached a
below_end s block attached at a h = grind (arith, nat_tests)

-- the addresses that are copied once one more run is
below_next : (s run : Section) (block : ℕ) (attached : List Attachment) (at stop a : ℕ) → s.start ≤ at → at < end_of s → run.start ≡ at → run.len ≡ stop - at → IsRunEnd block attached at (end_of s) stop
    → moved_below s block attached (stop + 8) a ≡ (moved_below s block attached at a || covers run a)
below_next s run block attached at stop a low inside first len h = grind (arith, nat_tests)

-- ---- bytes written one run after the other

pub written-none : (p : ℕ → Bool) (source : ℕ → ℕ) (a : ℕ) (old : List ℕ) → ((x : ℕ) → p x ≡ false) → written_bytes p source a old ≡ old
written-none p source a [] h = refl
written-none p source a (x ∷ xs) h = rw (h a, written-none p source (suc a) xs h) refl

-- the same bytes are written where the same addresses are
pub written-same : (p q : ℕ → Bool) (source : ℕ → ℕ) (a : ℕ) (old : List ℕ) → ((x : ℕ) → p x ≡ q x) → written_bytes p source a old ≡ written_bytes q source a old
written-same p q source a [] h = refl
written-same p q source a (x ∷ xs) h = rw (h a, written-same p q source (suc a) xs h) refl

-- what is written from one source in two turns
pub written-twice : (p q r : ℕ → Bool) (source : ℕ → ℕ) (a : ℕ) (old : List ℕ) → ((x : ℕ) → r x ≡ (p x || q x)) → written_bytes q source a (written_bytes p source a old) ≡ written_bytes r source a old
written-twice p q r source a [] h = refl
written-twice p q r source a (x ∷ xs) h = grind (arith, nat_tests, written-twice p q r source (suc a) xs h)

-- ---- memories changed one run after the other

pub changed-twice : (block : ℕ) (f g h : List ℕ → List ℕ) (ms : List Memory) → ((bytes : List ℕ) → g (f bytes) ≡ h bytes) → map (memory_changed block g) (map (memory_changed block f) ms) ≡ map (memory_changed block h) ms
changed-twice block f g h [] e = refl
changed-twice block f g h (m ∷ ms) e = grind (arith, nat_tests, changed-twice block f g h ms e)

pub changed-none : (block : ℕ) (f : List ℕ → List ℕ) (ms : List Memory) → ((bytes : List ℕ) → f bytes ≡ bytes) → map (memory_changed block f) ms ≡ ms
changed-none block f [] e = refl
changed-none block f (m ∷ ms) e = grind (arith, nat_tests, changed-none block f ms e)

-- ---- one more run

-- what is within a part is within the whole
pub within_both : (s t u : Section) → is_within s t ≡ true → is_within t u ≡ true → is_within s u ≡ true
within_both s t u h k = grind (arith, nat_tests)

-- a run of a section lies within it
pub run_within : (s run : Section) (at stop : ℕ) → s.start ≤ at → at < end_of s → run.start ≡ at → run.len ≡ stop - at → stop ≤ end_of s → is_within run s ≡ true
run_within s run at stop low inside first len most = grind (arith, nat_tests)

-- a run at which a copy has arrived, with where it ends
pub record IsByteRun (s run : Section) (block : ℕ) (attached : List Attachment) (at stop : ℕ) : Type 0 where
  pub low : s.start ≤ at
  pub inside : at < end_of s
  pub first : run.start ≡ at
  pub len : run.len ≡ stop - at
  pub ends : IsRunEnd block attached at (end_of s) stop

-- bytes that were written below an address, and then in the run from it on
pub written_next : (s run : Section) (block : ℕ) (attached : List Attachment) (at stop : ℕ) (source : ℕ → ℕ) (first : ℕ) (old : List ℕ) → IsByteRun s run block attached at stop
    → written_bytes (covers run) source first (written_bytes (moved_below s block attached at) source first old) ≡ written_bytes (moved_below s block attached (stop + 8)) source first old
written_next s run block attached at stop source first old h = search (written-twice, below_next)

-- before the first run nothing was written
pub written_start : (s : Section) (block : ℕ) (attached : List Attachment) (source : ℕ → ℕ) (first : ℕ) (old : List ℕ) → written_bytes (moved_below s block attached s.start) source first old ≡ old
written_start s block attached source first old = written-none (moved_below s block attached s.start) source first old (below_start s block attached)

-- and behind the last one all was
pub written_end : (s : Section) (block : ℕ) (attached : List Attachment) (at : ℕ) (source : ℕ → ℕ) (first : ℕ) (old : List ℕ) → end_of s ≤ at
    → written_bytes (moved_below s block attached at) source first old ≡ written_bytes (is_moved s block attached) source first old
written_end s block attached at source first old h = written-same (moved_below s block attached at) (is_moved s block attached) source first old (λ a. below_end s block attached at a h)
