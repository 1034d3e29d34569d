-- What events make of what is known of all bytes: one recursion over the events of a full trace, beside the states that
-- they lead to.
use Rattle.std.specs.Prelude.{ℕ, suc, min, max, ◌+◌, ◌-◌, Bool, false, if◌then◌else◌, ◌==◌, List, [], ◌∷◌, length, drop, filter, Option, Some, None}
use Rattle.acc_base.specs.declared.items.Section.{Section}
use Rattle.acc_base.specs.declared.attachments.Attachment.{Attachment}
use Rattle.acc_base.specs.declared.attachments.Aim.{Aim}
use Rattle.acc_base.specs.declared.attachments.Aim.TheVariants as aims
use Rattle.acc_base.specs.declared.mappings.Range.{Range}
use Rattle.acc_base.specs.declared.transfers.Transfer.{Transfer}
use Rattle.acc_base.specs.declared.tasks.Task.{Task}
use Rattle.acc_base.specs.declared.tasks.Task.TheVariants.{Enter}
use Rattle.acc_base.specs.declared.events.Did.{Did}
use Rattle.acc_base.specs.declared.events.Step.{Step}
use Rattle.acc_base.specs.declared.events.Step.TheVariants.{Born}
use Rattle.acc_base.specs.declared.events.Event.{Event}
use Rattle.acc_base.specs.declared.events.Event.TheVariants.{HostWritten, Gathered}
use Rattle.acc_base.specs.Limits.{base_on}
use Rattle.acc_base.specs.Section.{end_of, host_base}
use Rattle.acc_base.specs.Clauses.{is_zeroed}
use Rattle.acc_base.specs.Ranges.{start_of}
use Rattle.acc_base.specs.Blocks.{place_of}
use Rattle.acc_base.specs.Queues.{head_of}
use Rattle.acc_base.specs.Attachments.{pointer_at, count_at}
use Rattle.acc_base.specs.Tasks.{section_of}
use Rattle.acc_base.specs.Transfers.{made_now}
use Rattle.acc_base.specs.Records.{State}
use Rattle.acc_base.specs.Bytes.{bytes_of, step_state}
use Rattle.acc_base.specs.Pointers.{aimed}
use Rattle.acc_base.specs.Waits.{stepped}
use Rattle.acc_base.specs.Walk.{asked_in, done_in, stepped_in}
use Rattle.acc_base.specs.Acting.{act_state, act_all_state}
use Rattle.acc_base.specs.Replay.{offset_lent}
use Rattle.acc_base.specs.Devices.{OneDevice, Whole, device_in, view, after_told}
use Rattle.acc_stale.specs.declared.known.Mapped.{Mapped}
use Rattle.acc_stale.specs.declared.known.Placed.{Placed}
use Rattle.acc_stale.specs.Known.{Known, born, copied_in, copied_out, pointer_aimed, pointer_left, host_wrote, device_outdated, kernel_wrote}

-- ---- where bytes of a block lie

-- a block of a device, where it lies in a state
abbrev pub placed_in : ℕ → ℕ → State → Placed
placed_in d block s = record { device = d; block = block; start = start_of block s.records.ranges; place = place_of block s.records.blocks }

-- a section that begins so far behind the start of a block
abbrev pub mapped_behind : Placed → ℕ → Section → Mapped
mapped_behind p offset section = record { device = p.device; block = p.block; section = section; at = (p.place + offset) - base_on p.device }

-- a section of the range that is mapped to a block
abbrev pub mapped_at : Placed → Section → Mapped
mapped_at p section = mapped_behind p (section.start - p.start) section

-- the attached pointers of a block
abbrev pub pointers_of : ℕ → List Attachment → List Attachment
pointers_of block attached = filter (λ a. a.block == block) attached

-- ---- a transfer that is made, to or from a block that lies there

abbrev pub known_made : Placed → Transfer → List Attachment → Known → Known
known_made p t attached k = if t.out then copied_out (mapped_behind p t.offset t.section) attached k else copied_in (mapped_behind p t.offset t.section) attached k

-- if there is one
abbrev pub known_made_by : ℕ → Option Transfer → State → Known → Known
known_made_by d None s k = k
known_made_by d (Some t) s k = known_made (placed_in d t.block s) t (pointers_of t.block s.records.attached) k

-- ---- one item: a new block is made, then the copy

-- the modifier `zero` fills the block that is born by this task
abbrev pub zeroes : Task → Bool
zeroes (Enter counter item queue) = is_zeroed item.clause
zeroes _ = false

-- the block that is born by a task at a place
abbrev pub placed_new : ℕ → ℕ → ℕ → Task → Placed
placed_new d block place task = record { device = d; block = block; start = (section_of task).start; place = place }

abbrev pub known_begun : ℕ → Task → Step → Known → Known
known_begun d task (Born block place) k = born (mapped_at (placed_new d block place task) (section_of task)) (zeroes task) k
known_begun d task _ k = k

-- the copy into a new block, or else that of a block which was there before
abbrev pub known_copied : ℕ → Task → Step → State → Option Transfer → Known → Known
known_copied d task (Born block place) s (Some t) k = known_made (placed_new d block place task) t [] k
known_copied d task step s t k = known_made_by d t s k

unfoldable pub known_stepped : ℕ → Task → Step → State → Known → Known
known_stepped d task step s k = known_copied d task step s (made_now task step s.records.ranges) (known_begun d task step k)

-- ---- its pointer: an attachment writes the device's bytes, and the last detachment copies the host's

unfoldable pub known_aimed : ℕ → Aim → State → Known → Known
known_aimed d (aims.New pointer block target) s k = pointer_aimed (mapped_at (placed_in d block s) (pointer_at pointer)) k
known_aimed d (aims.Less pointer block) s k = if count_at block pointer s.records.attached == 1 then pointer_left (mapped_at (placed_in d block s) (pointer_at pointer)) k else k
known_aimed d (aims.Cleared pointer block) s k = pointer_left (mapped_at (placed_in d block s) (pointer_at pointer)) k
known_aimed d _ s k = k

-- ---- both, in their order

abbrev pub known_acted : ℕ → Task → Did → State → Known → Known
known_acted d (Enter counter item queue) did s k = known_aimed d did.aim (step_state (Enter counter item queue) did.step s) (known_stepped d (Enter counter item queue) did.step s k)
known_acted d task did s k = known_stepped d task did.step (aimed did.aim s) (known_aimed d did.aim s k)

-- all items of an event, one after the other
unfoldable pub known_all : ℕ → List Task → List Did → State → Known → Known
known_all d (task ∷ tasks) (did ∷ dids) s k = known_all d tasks dids (act_state task did s) (known_acted d task did s k)
known_all d _ _ s k = k

-- ---- queued transfers: they copy when they are made

unfoldable pub known_drained : ℕ → List ℕ → State → Known → Known
known_drained d [] s k = k
known_drained d (q ∷ qs) s k = known_drained d qs (stepped q s) (known_made_by d (head_of q s.records.queues) s k)

-- ---- a write of the host: where it is mapped, on whichever device, those bytes are behind that are others

-- the addresses that are in both
abbrev pub overlap : Section → Section → Section
overlap s t = let start : ℕ = max s.start t.start in record { start = start; len = min (end_of s) (end_of t) - start }

abbrev pub known_of_range : ℕ → ℕ → List ℕ → State → Range → Known → Known
known_of_range d addr bytes s r k =
    let both : Section = overlap (record { start = addr; len = length bytes }) r.section in
    device_outdated (mapped_at (placed_in d r.block s) both) (pointers_of r.block s.records.attached) (drop (both.start - addr) bytes) (drop (both.start - r.section.start) (bytes_of r.block s.memories)) k

abbrev pub known_of_ranges : ℕ → ℕ → List ℕ → State → List Range → Known → Known
known_of_ranges d addr bytes s [] k = k
known_of_ranges d addr bytes s (r ∷ rs) k = known_of_ranges d addr bytes s rs (known_of_range d addr bytes s r k)

-- on the devices from a number on
abbrev pub known_of_devices : ℕ → ℕ → List ℕ → Whole → List OneDevice → Known → Known
known_of_devices d addr bytes w [] k = k
known_of_devices d addr bytes w (x ∷ xs) k = known_of_devices (suc d) addr bytes w xs (known_of_ranges d addr bytes (view d w) x.records.ranges k)

-- ---- a lease that is back: the section's bytes, where they differ, were written by the kernel

abbrev pub known_gathered : ℕ → ℕ → List ℕ → State → Known → Known
known_gathered d block bytes s k =
    let offset : ℕ = offset_lent block s.records.loans in
    let section : Section = record { start = start_of block s.records.ranges + offset; len = length bytes } in
    kernel_wrote (mapped_at (placed_in d block s) section) (pointers_of block s.records.attached) (drop offset (bytes_of block s.memories)) bytes (drop (section.start - host_base) s.host) k

-- ---- an event

abbrev pub known_written : Event → Whole → State → Known → Known
known_written (HostWritten addr len bytes) w s k = known_of_devices 0 addr bytes w w.devices (host_wrote (record { start = addr; len = length bytes }) k)
known_written (Gathered device serial block bytes) w s k = known_gathered device block bytes s k
known_written _ w s k = k

-- what an event makes of what is known, where it acted on this
unfoldable pub known_after : Event → Whole → Known → Known
known_after e w k =
    let d : ℕ = device_in e in
    let s : State = view d w in
    let acted : State = act_all_state (asked_in e s.register) (done_in e) s in
    known_written e w s (known_drained d (stepped_in e s.records.queues) acted (known_all d (asked_in e s.register) (done_in e) s k))

-- the events of a full trace, one after the other
unfoldable pub known_from : List Event → Whole → Known → Known
known_from [] w k = k
known_from (e ∷ events) w k = known_from events (after_told e w) (known_after e w k)
