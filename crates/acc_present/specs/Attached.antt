-- What contracts see of the attachment counters of a device, and what a detachment leaves of one (OpenACC 3.3, 2.6.8
-- and 2.7.2).
use Rattle.std.specs.Prelude.{ℕ, ◌^◌, ◌<◌, ◌≤◌, Bool, ◌||◌, if◌then◌else◌, ◌==◌, List}
use Rattle.std.specs.List.{AllByRecursion}
use Rattle.acc_base.specs.declared.attachments.Attachment.{Attachment}
use Rattle.acc_base.specs.Attachments.{IsBefore, IsCountWithin}
use Rattle.acc_base.specs.Accounts.{EachPair}
use Rattle.acc_present.specs.declared.left.Left.{Left}
use Rattle.acc_present.specs.declared.left.Left.TheVariants as left

-- the limit of the counters, those above zero by rising block and pointer, and how many more can be added without
-- allocating
pub record AttachedState : Type 0 where
  pub counter_max : ℕ
  pub attached : List Attachment
  pub spare : ℕ

-- counters stand by rising block and pointer, each from one to a limit below 2^32
pub record AreAttached (counter_max : ℕ) (attached : List Attachment) : Type 0 where
  pub some : 1 ≤ counter_max
  pub limit : counter_max < 2 ^ 32
  pub rising : EachPair IsBefore attached
  pub counted : AllByRecursion (IsCountWithin counter_max) attached

-- what a detachment leaves of a counter of this value
abbrev pub left_of : Bool → ℕ → Left
left_of immediate count =
    if count == 0
    then left.Nothing
    else (if immediate || (count == 1) then left.Zero else left.Less)
