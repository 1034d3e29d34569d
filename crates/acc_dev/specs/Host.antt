-- Host memory: bytes at the addresses from HOST_BASE on. Addresses are whole numbers without an upper bound.
use Rattle.std.specs.Prelude.{ℕ, ◌≡◌, ◌+◌, ◌-◌, ◌<◌, ◌≤◌, List, length, take, drop, slice_index}
use Rattle.acc_base.specs.declared.items.Section.{Section}
use Rattle.acc_base.specs.Section.{Covers, host_base}
use Rattle.acc_base.specs.Bytes.{host_byte}

-- the address is one of host memory's
abbrev pub IsHost : List ℕ → ℕ → Type 0
IsHost host a = (host_base ≤ a) × (a < host_base + length host)

-- each address of the section is one of host memory's
abbrev pub IsInHost : List ℕ → Section → Type 0
IsInHost host s = (a : ℕ) → Covers s a → IsHost host a

-- some address of the section is not one of host memory's
pub record IsOutOfHost (host : List ℕ) (s : Section) : Type 0 where
  pub address : ℕ
  pub covered : Covers s address
  pub outside : ¬ IsHost host address

-- the bytes are those of the section, which lies in host memory
pub record IsRead (host : List ℕ) (s : Section) (bytes : List ℕ) : Type 0 where
  pub in_host : IsInHost host s
  pub length_is : length bytes ≡ s.len
  pub each : (a : ℕ) → Covers s a → slice_index bytes (a - s.start) ≡ host_byte host a

-- the section, which lies in host memory, has these bytes, and each other address keeps its own
pub record IsWritten (old new : List ℕ) (s : Section) (bytes : List ℕ) : Type 0 where
  pub in_host : IsInHost old s
  pub length_is : length new ≡ length old
  pub written : (a : ℕ) → Covers s a → host_byte new a ≡ slice_index bytes (a - s.start)
  pub kept : (a : ℕ) → IsHost old a → ¬ Covers s a → host_byte new a ≡ host_byte old a

-- the part of the host's bytes that a section in host memory is
abbrev pub bytes_in : List ℕ → Section → List ℕ
bytes_in host s = take s.len (drop (s.start - host_base) host)
