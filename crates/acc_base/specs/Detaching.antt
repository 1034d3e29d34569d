-- Where a pointer is present, and what detaching it does, which bytes have no part in (OpenACC 3.3, sections 2.6.8 and
-- 2.7.2).
use Rattle.std.specs.Prelude.{ℕ, Bool, false, if◌then◌else◌, ◌==◌, List, Option, Some, None}
use Rattle.acc_base.specs.Words.{Range, Found, Attachment, Aim}
use Rattle.acc_base.specs.declared.mappings.Found.TheVariants.{Inside}
use Rattle.acc_base.specs.declared.attachments.Aim.TheVariants as aims
use Rattle.acc_base.specs.Ranges.{where_is}
use Rattle.acc_base.specs.Attachments.{pointer_at, detach}
use Rattle.acc_base.specs.Records.{Records}

-- the block of the range that a section is inside
abbrev pub block_in : Found → Option ℕ
block_in (Inside block offset) = Some block
block_in _ = None

-- the block that holds a pointer: its eight bytes are inside one range
abbrev pub block_with : ℕ → List Range → Option ℕ
block_with pointer ranges = block_in (where_is (pointer_at pointer) ranges)

abbrev pub detach_there : Bool → ℕ → Option ℕ → List Attachment → Aim
detach_there immediate pointer None attached = aims.None
detach_there immediate pointer (Some block) attached = detach immediate block pointer attached

-- detaching a pointer where it is present, with `finalize` at once
unfoldable pub judge_detach : Bool → ℕ → Records → Aim
judge_detach immediate pointer w = detach_there immediate pointer (block_with pointer w.ranges) w.attached

-- detaching a pointer, if there is one
abbrev pub detach_if : Bool → Option ℕ → Records → Aim
detach_if immediate None w = aims.None
detach_if immediate (Some pointer) w = judge_detach immediate pointer w

abbrev pub release_there : ℕ → ℕ → Option ℕ → List Attachment → Aim
release_there pointer block None attached = aims.None
release_there pointer block (Some now) attached = if now == block then detach false block pointer attached else aims.None

-- detaching the pointer that an entry to a region attached, where it is still present in the block of then
unfoldable pub judge_release : Option (ℕ × ℕ) → Records → Aim
judge_release None w = aims.None
judge_release (Some aim) w = release_there aim.0 aim.1 (block_with aim.0 w.ranges) w.attached

-- the block that holds the pointer of an attachment or a detachment
abbrev pub block_aimed : Aim → Option ℕ
block_aimed aims.None = None
block_aimed (aims.New pointer block target) = Some block
block_aimed (aims.Again pointer block) = Some block
block_aimed (aims.Less pointer block) = Some block
block_aimed (aims.Cleared pointer block) = Some block
