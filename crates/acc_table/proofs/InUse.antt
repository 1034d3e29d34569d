-- The devices of a table, of which one is used: what holds of it beside what all share holds of the table.
use Rattle.std.proofs.Common.{ℕ, ◌≡◌, ◌+◌, ◌^◌, ◌*◌, ◌<◌, ◌≤◌, ◌∙◌, sym, refl, ap, subst, arith, List, Ok, length}
use Rattle.std.specs.Prelude.{slice_index_or}
use Rattle.std.specs.Vec.{with_item}
use Rattle.acc_clauses.specs.Words.{Call, Event}
use Rattle.acc_base.specs.declared.calls.Call.TheVariants.{Gather}
use Rattle.acc_base.specs.Loans.{Leased}
use Rattle.acc_base.specs.Limits.{Limits, limits_on}
use Rattle.acc_base.specs.Records.{State}
use Rattle.acc_base.specs.Devices.{OneDevice, Whole, view, with_view, device_in, after_on}
use Rattle.acc_base.specs.Acting.{after}
use Rattle.acc_base.specs.Judge.{Makes, gathered}
use Rattle.acc_base.specs.Calls.{Base, World, event_count, judge, bytes_brought, world_after}
use Rattle.acc_clauses.specs.Devices.{DeviceContents, SharedContents, contents_with}
use Rattle.acc_table.specs.declared.calls.Reply.{Reply}
use Rattle.acc_table.specs.declared.devices.Devices.{Devices}
use Rattle.acc_table.specs.declared.tables.TableData.{TableData}
use Rattle.acc_table.specs.Devices.{whole_of, IsDeviceOf, AreSet}
use Rattle.acc_table.specs.Tables.{IsTableSound, world_of}
use Rattle.acc_table.specs.Making.{IsMadeInto, IsAsBefore}
use Rattle.acc_table.proofs.DeviceLists.{view_used, whole_put, set_own}

-- the devices with another in the place of one, and with what they share then
abbrev pub with_device : Devices → ℕ → DeviceContents → SharedContents → Devices
with_device x n z s = record { shared = s; each = with_item x.each n z }

-- the world of these devices
abbrev pub world_in : Limits → Base → Devices → List Event → World
world_in l base x trace = world_of l base (whole_of x) trace

-- these devices are those of a table that is this world
pub record AreDevicesOf (l : Limits) (base : Base) (x : Devices) (trace : List Event) (w : World) : Type 0 where
  pub set : AreSet l x
  pub kept : IsTableSound (world_in l base x trace)
  pub same : world_in l base x trace ≡ w

-- what is in the box is what a call on the box hands out
pub opened : {k j : TableData} {w : World} → j ≡ k → IsTableSound (world_in k.config k.base k.devices k.trace.items) × AreSet k.config k.devices → world_in k.config k.base k.devices k.trace.items ≡ w → AreDevicesOf j.config j.base j.devices j.trace.items w
opened {w = w} e h is = subst (λ (o : TableData). AreDevicesOf o.config o.base o.devices o.trace.items w) (sym e) (record { set = h.1; kept = h.0; same = is })

-- this is the one in a place
pub record IsUsed (x : Devices) (n : ℕ) (y : DeviceContents) : Type 0 where
  pub there : n < length x.each.items
  pub is : y ≡ slice_index_or x.each.items n y

module _ {l : Limits} {base : Base} {x : Devices} {trace : List Event} {w : World} (t : AreDevicesOf l base x trace w) where
  -- a number that is a device's is the place of one
  pub there_of : (d : ℕ) → d < w.limits.devices → d < length x.each.items
  there_of d h = omega (arith, h, t.set.count, ap (λ (v : World). v.limits.devices) t.same)

  -- there is room for one number of a region and one of a loan
  pub region_fits : x.shared.numbers.region < 2 ^ 48
  region_fits = omega (arith, t.kept.regions, t.kept.accounted.books_counted.tickets, t.kept.bounds.tickets.1)

  pub serial_fits : x.shared.numbers.serial < 2 ^ 48
  serial_fits = omega (arith, t.kept.serials, t.kept.accounted.books_counted.tickets, t.kept.bounds.tickets.1)

module _ {l : Limits} {base : Base} {x : Devices} {trace : List Event} {w : World} (t : AreDevicesOf l base x trace w) {n : ℕ} {y : DeviceContents} (u : IsUsed x n y) where
  -- the view of the device that is used is its state beside what all share
  state_used : view n (whole_of x) ≡ (contents_with y x.shared).state
  state_used = view_used n x.each.items y x.shared u.there u.is

  pub device_used : IsDeviceOf l n x.shared y
  device_used = subst (λ z. IsDeviceOf l n x.shared z) (sym u.is) (t.set.each n y u.there)

  pub number_used : y.limits.number ≡ n
  number_used = ap (λ (m : Limits). m.number) device_used.limits

  -- what holds of it holds of the view
  pub in_view : (d : ℕ) (P : Limits → State → Type 0) → n ≡ d → P y.limits (contents_with y x.shared).state → P (limits_on d w.limits) (view d w.state)
  in_view d P on h =
      let used : P y.limits (view n (whole_of x)) = subst (λ s. P y.limits s) (sym state_used) h in
      let own : P (limits_on n l) (view n (whole_of x)) = subst (λ m. P m (view n (whole_of x))) device_used.limits used in
      subst (λ (v : World). P (limits_on d v.limits) (view d v.state)) t.same (subst (λ k. P (limits_on k l) (view k (whole_of x))) on own)

  -- and the other way round
  pub of_view : (d : ℕ) (P : Limits → State → Type 0) → n ≡ d → P (limits_on d w.limits) (view d w.state) → P y.limits (contents_with y x.shared).state
  of_view d P on h = in_view d (λ m s. P m s → P y.limits (contents_with y x.shared).state) on (λ own. own) h

  -- so is a lease that comes back by its event
  pub gathers_in : (lease : Leased) → judge w (Gather lease) ≡ Ok (Makes (gathered w.limits.full lease)) → judge w (Gather lease) ≡ Ok (Makes (gathered y.limits.full lease))
  gathers_in lease h = subst (λ full. judge w (Gather lease) ≡ Ok (Makes (gathered full lease))) (sym (ap (λ (m : Limits). m.full) device_used.limits ∙ ap (λ (v : World). v.limits.full) t.same)) h

  -- the event of a call on it is told from its state
  pub seen_in : (e : Event) → device_in e ≡ n → (contents_with y x.shared).state ≡ view (device_in e) w.state
  seen_in e on = in_view (device_in e) (λ m s. (contents_with y x.shared).state ≡ s) (sym on) refl

  -- another in its place is its view put back
  pub event_made : (z : DeviceContents) (s : SharedContents) (call : Call Leased) (e : Event) (reply : Reply) (longer : List Event) → device_in e ≡ n → IsMadeInto e (bytes_brought call) reply (contents_with y x.shared) (contents_with z s) trace longer → world_in l base (with_device x n z s) longer ≡ world_after call e w
  unfolding world_after
  event_made z s call e reply longer on h =
      let full : y.limits.full ≡ l.full = ap (λ (m : Limits). m.full) device_used.limits in
      let is : (contents_with z s).state ≡ after l.full e (bytes_brought call) (view n (whole_of x)) = h.state ∙ (ap (λ b. after b e (bytes_brought call) (contents_with y x.shared).state) full ∙ ap (after l.full e (bytes_brought call)) (sym state_used)) in
      let whole : whole_of (with_device x n z s) ≡ after_on l.full e (bytes_brought call) (whole_of x) =
      whole_put n x.each.items z x.shared s ∙ (ap (λ o. with_view n o (whole_of x)) is ∙ ap (λ k. with_view k (after l.full e (bytes_brought call) (view k (whole_of x))) (whole_of x)) (sym on)) in
      ap (λ v. world_of l base v longer) whole ∙ (ap (λ events. world_of l base (after_on l.full e (bytes_brought call) (whole_of x)) events) h.trace ∙ ap (λ (v : World). world_after call e v) t.same)

  -- the world is as before where only room was made
  pub unchanged : (z : DeviceContents) (s : SharedContents) (same : List Event) → IsAsBefore (contents_with y x.shared) (contents_with z s) trace same → world_in l base (with_device x n z s) same ≡ w
  unchanged z s same h =
      let back : with_view n (view n (whole_of x)) (whole_of x) ≡ whole_of x = ap (λ (ds : List OneDevice). let v : Whole = record { devices = ds; next = (whole_of x).next; serial = (whole_of x).serial; host = (whole_of x).host } in v) (set_own n (whole_of x).devices) in
      let whole : whole_of (with_device x n z s) ≡ whole_of x = whole_put n x.each.items z x.shared s ∙ (ap (λ o. with_view n o (whole_of x)) (h.state ∙ sym state_used) ∙ back) in
      ap (λ v. world_of l base v same) whole ∙ (ap (λ events. world_in l base x events) h.trace ∙ t.same)

  -- it has room for 64 births more
  pub births_fit : y.device.records.births + 64 ≤ 2 ^ 48
  births_fit =
      let seen : (view n (whole_of x)).records.births ≡ y.device.records.births = ap (λ (s : State). s.records.births) state_used in
      let most : (view n (whole_of x)).records.births ≤ 64 * event_count (world_in l base x trace).history = t.kept.births n in
      omega (arith, seen, most, t.kept.accounted.books_counted.tickets, t.kept.bounds.tickets.1)
