-- A copy in runs: what holds before each run, and what one more run leaves.
use Rattle.std.proofs.lemmas.Bool.Decides.{nat_tests}
use Rattle.std.proofs.Common.{ℕ, ◌≡◌, ◌+◌, ◌-◌, ◌<◌, ◌≤◌, refl, sym, ◌∙◌, ap, true, List, [], ◌∷◌, length, map, arith}
use Rattle.std.specs.Prelude.{slice_index}
use Rattle.acc_clauses.specs.Words.{Section, Attachment}
use Rattle.acc_base.specs.Section.{covers, end_of, is_within, host_memory, host_base}
use Rattle.acc_base.specs.Records.{Memory}
use Rattle.acc_base.specs.Bytes.{bytes_of, host_byte, memory_changed, is_moved, bytes_moved_in, bytes_moved_out}
use Rattle.acc_base.proofs.Memories.{length-moved_in, length-moved_out}
use Rattle.acc_dev.specs.Device.{DeviceState}
use Rattle.acc_clauses.specs.declared.environments.Environment.{Environment}
use Rattle.acc_clauses.specs.Contents.{WithHost, bare_state, beside}
use Rattle.acc_clauses.specs.Acts.{CanCopy}
use Rattle.acc_clauses.specs.Copies.{moved_below, IsRunEnd}
use Rattle.acc_clauses.proofs.Runs.{within_both, IsByteRun, run_within, written_next, written_start, written_end, changed-twice, changed-none}

-- ---- runs and blocks

-- a run of a section that lies in a memory lies in one as long
pub run_fits : (section run : Section) (block : ℕ) (attached : List Attachment) (at stop start n m : ℕ) → IsByteRun section run block attached at stop → is_within section (record { start = start; len = n }) ≡ true → m ≡ n
    → is_within run (record { start = start; len = m }) ≡ true
run_fits section run block attached at stop start n m h inside e = rw e (within_both run section (record { start = start; len = n }) (run_within section run at stop h.low h.inside h.first h.len h.ends.most) inside)

-- the bytes of a block stay as many
pub length-changed : (block : ℕ) (f : List ℕ → List ℕ) (ms : List Memory) → ((bytes : List ℕ) → length (f bytes) ≡ length bytes) → length (bytes_of block (map (memory_changed block f) ms)) ≡ length (bytes_of block ms)
length-changed block f [] keeps = refl
length-changed block f (m ∷ ms) keeps = grind (arith, nat_tests, length-changed block f ms keeps)

-- ---- to host memory

-- host memory once the runs below an address were copied there
abbrev pub swept_out : Section → ℕ → ℕ → ℕ → WithHost → List ℕ
swept_out section block start at x = bytes_moved_out (moved_below section block x.attached.attached at) (bytes_of block x.device.memories) start x.host

pub out_first : (section : Section) (block start : ℕ) (x : WithHost) → x.host ≡ swept_out section block start section.start x
out_first section block start x = sym (written_start section block x.attached.attached (λ a. slice_index (bytes_of block x.device.memories) (a - start)) host_base x.host)

pub out_next : (section run : Section) (block start at stop : ℕ) (x : WithHost) (now host : List ℕ) → now ≡ swept_out section block start at x → IsByteRun section run block x.attached.attached at stop
    → host ≡ bytes_moved_out (covers run) (bytes_of block x.device.memories) start now → host ≡ swept_out section block start (stop + 8) x
out_next section run block start at stop x now host e h is = grind (arith, nat_tests, written_next)

pub out_last : (section : Section) (block start at : ℕ) (x : WithHost) → end_of section ≤ at
    → swept_out section block start at x ≡ bytes_moved_out (is_moved section block x.attached.attached) (bytes_of block x.device.memories) start x.host
out_last section block start at x h = written_end section block x.attached.attached at (λ a. slice_index (bytes_of block x.device.memories) (a - start)) host_base x.host h

-- ---- to a block

-- what the device has once the runs below an address were copied to the block from this host memory
abbrev pub swept_in : Section → ℕ → ℕ → ℕ → List ℕ → Environment → Environment
swept_in section block start at host x = record x { device = record x.device { memories = map (memory_changed block (bytes_moved_in (moved_below section block x.attached.attached at) host start)) x.device.memories } }

-- it with other memories
abbrev with_memories : Environment → List Memory → Environment
with_memories x ms = record x { device = record x.device { memories = ms } }

pub in_first : (section : Section) (block start : ℕ) (host : List ℕ) (x : Environment) → x ≡ swept_in section block start section.start host x
in_first section block start host x = search (changed-none, written_start)

pub in_next : (section run : Section) (block start at stop : ℕ) (host : List ℕ) (x y : Environment) (device : DeviceState) → y ≡ swept_in section block start at host x → IsByteRun section run block x.attached.attached at stop
    → device ≡ record y.device { memories = map (memory_changed block (bytes_moved_in (covers run) host start)) y.device.memories } → record y { device = device } ≡ swept_in section block start (stop + 8) host x
in_next section run block start at stop host x y device e h is =
    let below : List ℕ → List ℕ = bytes_moved_in (moved_below section block x.attached.attached at) host start in
    let next : List ℕ → List ℕ = bytes_moved_in (covers run) host start in
    let done : device ≡ record x.device { memories = map (memory_changed block next) (map (memory_changed block below) x.device.memories) } = rw e at is in
    ap (λ (g : Environment). let z : Environment = record g { device = device } in z) e
    ∙ (ap (λ d. let z : Environment = record x { device = d } in z) done
    ∙ ap (with_memories x) (changed-twice block below next (bytes_moved_in (moved_below section block x.attached.attached (stop + 8)) host start) x.device.memories
    (λ bytes. written_next section run block x.attached.attached at stop (host_byte host) start bytes h)))

pub in_last : (section : Section) (block start at : ℕ) (host : List ℕ) (x : Environment) → end_of section ≤ at
    → swept_in section block start at host x ≡ record x { device = record x.device { memories = map (memory_changed block (bytes_moved_in (is_moved section block x.attached.attached) host start)) x.device.memories } }
in_last section block start at host x h = grind (arith, nat_tests)

-- ---- what each run needs of the parts, and what they say of it

-- the run that a copy to host memory makes next
pub out_run : (section run : Section) (block at stop : ℕ) (x : WithHost) → section.start ≤ at → at < end_of section → run.start ≡ at → run.len ≡ stop - at
    → IsRunEnd block x.attached.attached at (end_of section) stop → IsByteRun section run block x.attached.attached at stop
out_run section run block at stop x low inside first len ends = record { low = low; inside = inside; first = first; len = len; ends = ends }

pub out_in_host : (section run : Section) (block start at stop : ℕ) (x : WithHost) (now : List ℕ) → now ≡ swept_out section block start at x → IsByteRun section run block x.attached.attached at stop → CanCopy section block start (bare_state x)
    → is_within run (host_memory (length now)) ≡ true
out_in_host section run block start at stop x now e h can = grind (arith, nat_tests, length-moved_out)

-- the run that a copy to a block makes next
pub in_run : (section run : Section) (block start at stop : ℕ) (host : List ℕ) (x y : Environment) → y ≡ swept_in section block start at host x → section.start ≤ at → at < end_of section → run.start ≡ at → run.len ≡ stop - at
    → IsRunEnd block y.attached.attached at (end_of section) stop → IsByteRun section run block x.attached.attached at stop
in_run section run block start at stop host x y e low inside first len ends = record { low = low; inside = inside; first = first; len = len; ends = rw e at ends }

pub in_within : (section run : Section) (block start at stop : ℕ) (host : List ℕ) (x y : Environment) → y ≡ swept_in section block start at host x → IsByteRun section run block x.attached.attached at stop → CanCopy section block start (bare_state (beside x host))
    → is_within run (record { start = start; len = length (bytes_of block y.device.memories) }) ≡ true
in_within section run block start at stop host x y e h can = grind (arith, nat_tests, run_fits, length-changed, length-moved_in)
