-- How long the bytes are that the device has of a section.
use Rattle.std.proofs.Common.{ℕ, ◌≡◌, ◌+◌, ◌≤◌, ◌<◌, refl, sym, ap, subst, ◌∙◌, arith, cond, Bool, true, false, List, [], length, take, drop, Some, None}
use Rattle.std.specs.Prelude.{nat_le}
use Rattle.std.proofs.lemmas.Bool.{leb-true, leb-false}
use Rattle.std.proofs.lemmas.List.{length-take-le, length-drop}
use Rattle.acc_base.specs.declared.items.Section.{Section}
use Rattle.acc_base.specs.declared.mappings.Found.{Found}
use Rattle.acc_base.specs.declared.mappings.Found.TheVariants.{Empty, Inside, Partly, Absent}
use Rattle.acc_base.specs.Limits.{Limits, IsWithinBounds, limits_on}
use Rattle.acc_base.proofs.OnDevices.{bounds_on}
use Rattle.acc_base.specs.Records.{State}
use Rattle.acc_base.specs.declared.mappings.Range.{Range}
use Rattle.acc_base.specs.Devices.{OneDevice, view}
use Rattle.acc_base.proofs.Views.{device_beyond}
use Rattle.acc_base.specs.Section.{is_empty}
use Rattle.acc_base.specs.Accounts.{IsSound, IsAccounted}
use Rattle.acc_base.specs.Bytes.{bytes_of}
use Rattle.acc_base.specs.Calls.{World}
use Rattle.acc_base.specs.Loans.{is_lent}
use Rattle.acc_base.specs.Ranges.{where_is}
use Rattle.acc_table.specs.Queries.{device_read_in, device_read_of}
use Rattle.acc_table.proofs.Answering.{IsPartOf, section_part}

-- the bytes of a block from an offset on are as many as fit
part_len : (xs : List ℕ) (offset len : ℕ) → offset + len ≤ length xs → length (take len (drop offset xs)) ≡ len
part_len xs offset len fits =
    let left = length-drop offset xs in
    length-take-le len (drop offset xs) (omega (arith, left, fits))

-- they are as many as the section is long
read_len : (l : Limits) (s : State) (section : Section) (bytes : List ℕ) → IsWithinBounds l → IsSound l s → device_read_of section s ≡ Some bytes → length bytes ≡ section.len
read_len l s section bytes bounds sound read = go (where_is section s.records.ranges) refl read
  where
    inside : (block offset : ℕ) (lent : Bool) → is_lent block s.records.loans ≡ lent → (lent ≡ false → offset + section.len ≤ length (bytes_of block s.memories))
        → cond lent None (Some (take section.len (drop offset (bytes_of block s.memories)))) ≡ Some bytes → length bytes ≡ section.len
    inside block offset true is fits h = cc
    inside block offset false is fits h =
        let same : take section.len (drop offset (bytes_of block s.memories)) ≡ bytes = cc in
        sym (ap length same) ∙ part_len (bytes_of block s.memories) offset section.len (fits refl)

    go : (found : Found) → where_is section s.records.ranges ≡ found → device_read_in found section.len s ≡ Some bytes → length bytes ≡ section.len
    go Empty is h = cc
    go (Inside block offset) is h =
        let part : IsPartOf section block offset s = section_part l s section block offset bounds sound.layout.records sound.memories_sized is in
        inside block offset (is_lent block s.records.loans) refl (λ e. part.fits e) h
    go Partly is h = cc
    go Absent is h = cc

-- where nothing is mapped a section has no byte
none_mapped : (section : Section) (s : State) (bytes : List ℕ) → s.records.ranges ≡ [] → device_read_of section s ≡ Some bytes → length bytes ≡ section.len
none_mapped section s bytes none read = go (is_empty section) (subst (λ (ranges : List Range). device_read_in (where_is section ranges) section.len s ≡ Some bytes) none read)
  where
    go : (b : Bool) → device_read_in (cond b Empty Absent) section.len s ≡ Some bytes → length bytes ≡ section.len
    go true h = cc
    go false h = cc

-- the same of each device of a table
pub device_read_len : (device : ℕ) (w : World) (section : Section) (bytes : List ℕ) → IsWithinBounds w.limits → IsAccounted w → device_read_of section (view device w.state) ≡ Some bytes → length bytes ≡ section.len
device_read_len device w section bytes bounds accounted read = go (nat_le w.limits.devices device) refl
  where
    go : (b : Bool) → nat_le w.limits.devices device ≡ b → length bytes ≡ section.len
    go true is =
        let beyond : length w.state.devices ≤ device = omega (arith, accounted.as_many, leb-true w.limits.devices device is) in
        let nothing : (view device w.state).records.ranges ≡ [] = ap (λ (x : OneDevice). x.records.ranges) (device_beyond device w.state.devices beyond) in
        none_mapped section (view device w.state) bytes nothing read
    go false is =
        let there : device < w.limits.devices = leb-false w.limits.devices device is in
        read_len (limits_on device w.limits) (view device w.state) section bytes (bounds_on device w.limits there bounds) (accounted.devices device there).sound read
