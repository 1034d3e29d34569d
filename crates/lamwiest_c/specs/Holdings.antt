-- What waits in a queue and what an open region holds, as C sees it.
use Rattle.std.specs.Prelude.{ℕ, if◌then◌else◌, Option, option_map, option_and_then, unwrap_or}
use Rattle.std.specs.List.{slice_get}
use Rattle.acc_base.specs.declared.regions.Holding.{Holding}
use Rattle.acc_base.specs.declared.transfers.Transfer.{Transfer}
use Rattle.acc_base.specs.Calls.{World}
use Rattle.acc_table.specs.Queries.{holdings_of}
use Rattle.lamwiest_c.specs.declared.holdings.RawTransfer.{RawTransfer}
use Rattle.lamwiest_c.specs.declared.holdings.RawHolding.{RawHolding}
use Rattle.lamwiest_c.specs.Events.{region_number, item_under}

-- a transfer, with 1 to the device and 2 to the host
abbrev pub raw_transfer : Transfer → RawTransfer
raw_transfer t = record { block = t.block; offset = t.offset; start = t.section.start; len = t.section.len; way = if t.out then 2 else 1 }

-- the address of a pointer and the block that has its copy, and 0 for both without one
abbrev pub aim_or_none : Option (ℕ × ℕ) → ℕ × ℕ
aim_or_none aim = unwrap_or aim (0, 0)

-- what an item holds
abbrev pub raw_holding : Holding → RawHolding
raw_holding h = record { item = item_under (region_number h.item.clause) h.item; block = unwrap_or h.block 0; pointer = (aim_or_none h.aim).0; holder = (aim_or_none h.aim).1 }

-- the same of an item of an open region, by its place in the written order
abbrev pub holding_at : ℕ → ℕ → World → Option RawHolding
holding_at region item w = option_map raw_holding (option_and_then (λ holdings. slice_get holdings item) (holdings_of region w.state))
