-- What is known of the bytes of all memories, and what each thing that happens to bytes makes of it.
use Rattle.std.specs.Prelude.{ℕ, ◌-◌, Bool, if◌then◌else◌, List, [], replicate, take, drop, slice_index_or, slice_set, Option}
use Rattle.acc_base.specs.declared.items.Section.{Section}
use Rattle.acc_base.specs.declared.attachments.Attachment.{Attachment}
use Rattle.acc_base.specs.Section.{host_base}
use Rattle.acc_stale.specs.declared.marks.Mark.{Mark}
use Rattle.acc_stale.specs.declared.marks.Mark.TheVariants.{New, Unfilled}
use Rattle.acc_stale.specs.declared.marks.Run.{Run}
use Rattle.acc_stale.specs.declared.known.Mapped.{Mapped}
use Rattle.acc_stale.specs.Marks.{Change, changed, beside_pointers, filled, copied, outdated, outrun, rewritten, first_run}

-- the marks of host memory, and those of the memory of each device, by its number
pub record Known : Type 0 where
  pub host : List Mark
  pub devices : List (List Mark)

-- all bytes of a new table are new; those of a device are first asked for once a block has them
abbrev pub all_new : ℕ → ℕ → ℕ → Known
all_new host count device = record { host = replicate host New; devices = replicate count (replicate device New) }

-- the marks of a device
abbrev pub marks_on : ℕ → Known → List Mark
marks_on d k = slice_index_or k.devices d []

-- a section of host memory is changed
abbrev pub on_host : Section → Change → Known → Known
on_host s change k = record k { host = changed (s.start - host_base) s.len change k.host }

-- so many bytes of a device are changed, from an offset in its memory on
abbrev pub on_device : ℕ → ℕ → ℕ → Change → Known → Known
on_device d at len change k = record k { devices = slice_set k.devices d (changed at len change (marks_on d k)) }

-- ---- where a section is mapped: attached pointers of its block are left out, as transfers leave them out

-- the section is changed on the device
abbrev pub on_mapped : Mapped → List Attachment → Change → Known → Known
on_mapped p attached change k = on_device p.device p.at p.section.len (beside_pointers p.block attached p.section.start change) k

-- the section is changed in host memory
abbrev pub on_section : Mapped → List Attachment → Change → Known → Known
on_section p attached change k = on_host p.section (beside_pointers p.block attached p.section.start change) k

-- ---- what happens to bytes

-- the mark of a new block's bytes: with the modifier `zero` they are filled
abbrev pub mark_born : Bool → Mark
mark_born zeroed = if zeroed then New else Unfilled

-- a block is made for a section
abbrev pub born : Mapped → Bool → Known → Known
born p zeroed k = on_device p.device p.at p.section.len (filled (mark_born zeroed)) k

-- a copy to the device
abbrev pub copied_in : Mapped → List Attachment → Known → Known
copied_in p attached k = on_mapped p attached (copied k.host (p.section.start - host_base)) k

-- a copy to host memory
abbrev pub copied_out : Mapped → List Attachment → Known → Known
copied_out p attached k = on_section p attached (copied (marks_on p.device k) p.at) k

-- a pointer was attached: the device has its target's address
abbrev pub pointer_aimed : Mapped → Known → Known
pointer_aimed p k = on_device p.device p.at p.section.len (filled New) k

-- a pointer was detached: the device has the host's bytes
abbrev pub pointer_left : Mapped → Known → Known
pointer_left p k = copied_in p [] k

-- the host wrote a section
abbrev pub host_wrote : Section → Known → Known
host_wrote s k = on_host s (filled New) k

-- and so made bytes of a device behind, if these are what was written and what the device has
abbrev pub device_outdated : Mapped → List Attachment → List ℕ → List ℕ → Known → Known
device_outdated p attached written own k = on_mapped p attached (outdated written own) k

-- a kernel found bytes in a section, and left others, where the host has these
abbrev pub kernel_wrote : Mapped → List Attachment → List ℕ → List ℕ → List ℕ → Known → Known
kernel_wrote p attached before after own k = on_section p attached (rewritten before after (outrun after own)) (on_mapped p attached (rewritten before after (filled New)) k)

-- the same of a kernel that left each byte another one
abbrev pub kernel_wrote_all : Mapped → List Attachment → List ℕ → List ℕ → Known → Known
kernel_wrote_all p attached after own k = on_section p attached (outrun after own) (on_mapped p attached (filled New) k)

-- ---- questions

-- the first bytes of a section of host memory that are not new
abbrev pub stale_host : Section → Known → Option Run
stale_host s k = first_run (take s.len (drop (s.start - host_base) k.host))

-- the same on a device
abbrev pub stale_device : Mapped → Known → Option Run
stale_device p k = first_run (take p.section.len (drop p.at (marks_on p.device k)))
