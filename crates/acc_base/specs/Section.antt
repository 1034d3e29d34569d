-- A section is the set of its addresses, as whole numbers without an upper bound (OpenACC 3.3, section 2.6).
use Rattle.std.specs.Prelude.{ℕ, ◌+◌, ◌<◌, ◌≤◌, Bool, ◌&&◌, ◌||◌, nat_le, nat_lt, ◌==◌}
use Rattle.acc_base.specs.declared.items.Section.{Section}
use Rattle.acc_base.specs.declared.addresses.TheConstants.{HOST_BASE}
use Rattle.acc_base.specs.Limits.{Limits, base_on}

-- the address is one of the n from p on
abbrev pub Spans : ℕ → ℕ → ℕ → Type 0
Spans p n a = (p ≤ a) × (a < p + n)

-- the address is one of the section's
abbrev pub Covers : Section → ℕ → Type 0
Covers s a = Spans s.start s.len a

-- each address of the one is an address of the other
abbrev pub IsWithin : Section → Section → Type 0
IsWithin s t = (a : ℕ) → Covers s a → Covers t a

-- no address is in both
abbrev pub IsApart : Section → Section → Type 0
IsApart s t = (a : ℕ) → Covers s a → Covers t a → ⊥

-- ---- the same, as tests on the two ends

-- the address behind its last one
abbrev pub end_of : Section → ℕ
end_of s = s.start + s.len

abbrev pub is_empty : Section → Bool
is_empty s = s.len == 0

abbrev pub covers : Section → ℕ → Bool
covers s a = nat_le s.start a && nat_lt a (end_of s)

-- for a section that is not empty
abbrev pub is_within : Section → Section → Bool
is_within s t = nat_le t.start s.start && nat_le (end_of s) (end_of t)

-- for sections that are not empty
abbrev pub is_apart : Section → Section → Bool
is_apart s t = nat_le (end_of s) t.start || nat_le (end_of t) s.start

-- ---- host memory, and the memory of a device

-- where host memory begins
abbrev pub host_base : ℕ
host_base = HOST_BASE

-- the host memory of a size in bytes
abbrev pub host_memory : ℕ → Section
host_memory size = record { start = host_base; len = size }

-- the memory of a device
abbrev pub device_memory : Limits → Section
device_memory l = record { start = base_on l.number; len = l.device }

-- one address
abbrev pub only : ℕ → Section
only address = record { start = address; len = 1 }
