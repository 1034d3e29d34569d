-- What holds of all attachment counters holds after each change of them.
use Rattle.std.proofs.Common.{ℕ, ◌≡◌, ◌≤◌, List, None}
use Rattle.std.specs.Prelude.{find}
use Rattle.acc_base.specs.declared.attachments.Attachment.{Attachment}
use Rattle.acc_base.specs.Attachments.{is_of, count_at, with_count, without_attachments}
use Rattle.acc_base.proofs.Attached.{none_at, count_at-most, rising-with_count, counted-with_count, rising-without, within-without}
use Rattle.acc_present.specs.Attached.{AreAttached}

-- after a counter is set to a number up to the limit
pub kept_with : (most block pointer count : ℕ) (xs : List Attachment) → AreAttached most xs → count ≤ most → AreAttached most (with_count block pointer count xs)
kept_with most block pointer count xs h le = record {
  some = h.some;
  limit = h.limit;
  rising = rising-with_count block pointer count xs h.rising;
  counted = counted-with_count most block pointer count xs le h.counted;
}

-- after those of a block are forgotten
pub kept_without : (most block : ℕ) (xs : List Attachment) → AreAttached most xs → AreAttached most (without_attachments block xs)
kept_without most block xs h = record {
  some = h.some;
  limit = h.limit;
  rising = rising-without block xs h.rising;
  counted = within-without most block xs h.counted;
}

-- a pointer whose counter is zero stands nowhere
pub zero_none : (most block pointer : ℕ) (xs : List Attachment) → AreAttached most xs → count_at block pointer xs ≡ 0 → find (is_of block pointer) xs ≡ None
zero_none most block pointer xs h e = none_at most block pointer xs h.counted e

-- a counter is not above the limit
pub count_limit : (most block pointer : ℕ) (xs : List Attachment) → AreAttached most xs → count_at block pointer xs ≤ most
count_limit most block pointer xs h = count_at-most most block pointer xs h.counted
