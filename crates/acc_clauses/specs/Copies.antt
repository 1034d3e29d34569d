-- A copy that leaves out the bytes of attached pointers goes in runs, each up to the next such pointer.
use Rattle.std.specs.Prelude.{ℕ, ◌+◌, ◌≡◌, ◌<◌, ◌≤◌, Bool, true, false, ◌&&◌, nat_lt, List}
use Rattle.acc_clauses.specs.Words.{Section, Attachment}
use Rattle.acc_base.specs.Attachments.{is_skipped}
use Rattle.acc_base.specs.Bytes.{is_moved}

-- the addresses of a section that are copied once all runs below an address are
abbrev pub moved_below : Section → ℕ → List Attachment → ℕ → ℕ → Bool
moved_below section block attached at address = is_moved section block attached address && nat_lt address at

-- the run from an address on ends here. No byte of it is an attached pointer's, and the eight bytes behind it are
-- one's, or the section has ended
pub record IsRunEnd (block : ℕ) (attached : List Attachment) (at end stop : ℕ) : Type 0 where
  pub most : stop ≤ end
  pub more : at < stop + 8
  pub clear : (a : ℕ) → at ≤ a → a < stop → is_skipped block attached a ≡ false
  pub skipped : (a : ℕ) → at ≤ a → stop ≤ a → a < stop + 8 → a < end → is_skipped block attached a ≡ true
