-- The attachment counters of pointers in blocks, and what attaching and detaching makes of them (OpenACC 3.3, sections
-- 2.6.8 and 2.7.2). And which bytes transfers leave out: those of attached pointers. That is this project's rule; the
-- end of section 2.6.8 leaves an update of them undefined.
use Rattle.std.specs.Prelude.{ℕ, ◌+◌, ◌-◌, ◌≡◌, ◌<◌, ◌≤◌, ◌⊎◌, Bool, not, ◌&&◌, ◌||◌, if◌then◌else◌, nat_le, nat_lt, ◌==◌, List, [], ◌∷◌, Option, find, filter, unwrap_or, option_map, Result, Ok}
use Rattle.std.specs.List.{list_any}
use Rattle.acc_base.specs.Words.{Section, Attachment, Aim, Fault}
use Rattle.acc_base.specs.declared.attachments.Aim.TheVariants as aims
use Rattle.acc_base.specs.declared.faults.Fault.TheVariants.{CounterFull}
use Rattle.acc_base.specs.Results.{◌>>◌, refuse_if}
use Rattle.acc_base.specs.Section.{covers}

-- the eight bytes of the pointer at a host address
abbrev pub pointer_at : ℕ → Section
pointer_at address = record { start = address; len = 8 }

-- ---- the counters: those above zero, by rising block and then by rising pointer

-- it is the counter of the pointer at this address in the block
abbrev pub is_of : ℕ → ℕ → Attachment → Bool
is_of block pointer a = a.block == block && a.pointer == pointer

-- the one stands before the other
abbrev pub IsBefore : Attachment → Attachment → Type 0
IsBefore a b = (a.block < b.block) ⊎ ((a.block ≡ b.block) × (a.pointer < b.pointer))

-- the same, as a test
abbrev pub is_before : Attachment → Attachment → Bool
is_before a b = nat_lt a.block b.block || (a.block == b.block && nat_lt a.pointer b.pointer)

-- the counter is above zero, and at most so high
pub record IsCountWithin (counter_max : ℕ) (a : Attachment) : Type 0 where
  pub some : 0 < a.count
  pub limit : a.count ≤ counter_max

-- how often a pointer in a block is attached
abbrev pub count_at : ℕ → ℕ → List Attachment → ℕ
count_at block pointer attached = unwrap_or (option_map (λ a. a.count) (find (is_of block pointer) attached)) 0

-- the counters with one more, in its place
abbrev pub with_attachment : Attachment → List Attachment → List Attachment
with_attachment new [] = new ∷ []
with_attachment new (a ∷ attached) = if is_before new a then new ∷ a ∷ attached else a ∷ with_attachment new attached

-- the counters without that of a pointer
abbrev pub without_attachment : ℕ → ℕ → List Attachment → List Attachment
without_attachment block pointer attached = filter (λ a. not (is_of block pointer a)) attached

-- the counters with that of a pointer set to a number
abbrev pub with_count : ℕ → ℕ → ℕ → List Attachment → List Attachment
with_count block pointer count attached =
    if count == 0
    then without_attachment block pointer attached
    else with_attachment (record { block = block; pointer = pointer; count = count }) (without_attachment block pointer attached)

-- the counters without those of a block
abbrev pub without_attachments : ℕ → List Attachment → List Attachment
without_attachments block attached = filter (λ a. not (a.block == block)) attached

-- ---- attaching and detaching

-- a pointer that holds `now` on the device is aimed at a target: the counter rises where it is aimed there already,
-- below the limit
abbrev pub attach : ℕ → ℕ → ℕ → ℕ → ℕ → ℕ → List Attachment → Result Aim Fault
attach counter_max n block pointer target now attached =
    let count : ℕ = count_at block pointer attached in
    if not (count == 0) && (now == target)
    then refuse_if (nat_le counter_max count) (CounterFull n) >> Ok (aims.Again pointer block)
    else Ok (aims.New pointer block target)

-- the counter falls by one, or at once to zero; a counter that is zero stays
abbrev pub detach : Bool → ℕ → ℕ → List Attachment → Aim
detach immediate block pointer attached =
    if count_at block pointer attached == 0
    then aims.None
    else (if immediate then aims.Cleared pointer block else aims.Less pointer block)

-- the counters after it
abbrev pub attached_by : Aim → List Attachment → List Attachment
attached_by aims.None attached = attached
attached_by (aims.New pointer block target) attached = with_count block pointer 1 attached
attached_by (aims.Again pointer block) attached = with_count block pointer (count_at block pointer attached + 1) attached
attached_by (aims.Less pointer block) attached = with_count block pointer (count_at block pointer attached - 1) attached
attached_by (aims.Cleared pointer block) attached = with_count block pointer 0 attached

-- what it makes of the count of one pointer in a block
abbrev pub count_after : ℕ → ℕ → Aim → ℕ → ℕ
count_after block pointer aims.None count = count
count_after block pointer (aims.New p b target) count = if b == block && p == pointer then 1 else count
count_after block pointer (aims.Again p b) count = if b == block && p == pointer then count + 1 else count
count_after block pointer (aims.Less p b) count = if b == block && p == pointer then count - 1 else count
count_after block pointer (aims.Cleared p b) count = if b == block && p == pointer then 0 else count

-- ---- the bytes that no transfer touches

-- the address is one of the eight bytes of an attached pointer in the block
abbrev pub is_skipped : ℕ → List Attachment → ℕ → Bool
is_skipped block attached address = list_any (λ a. a.block == block && covers (pointer_at a.pointer) address) attached

-- the least address, from one on, at which an attached pointer of the block begins
abbrev pub next_pointer : ℕ → ℕ → List Attachment → Option ℕ
next_pointer block from attached = option_map (λ a. a.pointer) (find (λ a. a.block == block && nat_le from a.pointer) attached)
