-- Each accepted call keeps what a table keeps.
use Rattle.std.proofs.Common.{ℕ, zero, suc, replicate, ◌≡◌, ◌+◌, ◌*◌, ◌<◌, ◌≤◌, refl, sym, ◌∙◌, ap, subst, Bool, true, false, List, [], ◌∷◌, ◌++◌, length, Result, Ok, Err, arith, length-append, length-set}
use Rattle.std.specs.Prelude.{◌==◌, slice_index_or, IfOk, OnOk, OnErr}
use Rattle.acc_clauses.specs.Words.{Section, Fault, Directive, Call, Task, Did, Event}
use Rattle.acc_base.specs.declared.calls.Call.TheVariants.{Do, HostWrite}
use Rattle.acc_base.specs.Loans.{Leased}
use Rattle.acc_base.specs.declared.events.Event.TheVariants.{Entered}
use Rattle.acc_base.specs.Limits.{Limits, IsWithinBounds, limits_on}
use Rattle.acc_base.specs.Records.{Records, Layout, State, layout_of}
use Rattle.acc_base.specs.Devices.{Whole, view, with_view, device_in, new_whole, new_device}
use Rattle.acc_base.specs.Steps.{act, act_all}
use Rattle.acc_base.specs.Waits.{records_drained}
use Rattle.acc_base.specs.Walk.{walk, asked_in, done_in, stepped_in, loaned}
use Rattle.acc_base.specs.Acting.{after}
use Rattle.acc_base.specs.Calls.{Base, World, base_of, event_count, judge, device_for, world_after, bytes_brought, new_world, rebased}
use Rattle.acc_base.specs.Judge.{Verdict, Makes, Idle, plan_of, written}
use Rattle.acc_base.specs.Bytes.{host_after_write}
use Rattle.acc_base.proofs.SameMapping.{mapping-act}
use Rattle.acc_base.proofs.Walked.{layout-after}
use Rattle.acc_base.proofs.Accounted.{accepted_accounted, new_accounted, rebased_accounted, sound_on}
use Rattle.acc_base.proofs.Accepted.{IsAccepted, accepted}
use Rattle.acc_base.proofs.Results.{equal, differ}
use Rattle.acc_base.proofs.Views.{view-own, view-other}
use Rattle.acc_base.proofs.Births.{births_most, births-drained}
use Rattle.acc_clauses.specs.Stored.{AreContentsSound}
use Rattle.acc_clauses.specs.Devices.{DeviceContents, SharedContents, HaveRisen, contents_with}
use Rattle.acc_table.specs.declared.devices.Devices.{Devices}
use Rattle.acc_table.specs.Devices.{whole_of, AreSet}
use Rattle.acc_clauses.specs.Planned.{Planned, IsPlanOf}
use Rattle.acc_clauses.proofs.Events.{planned_asked}
use Rattle.acc_table.specs.declared.calls.Reply.{Reply}
use Rattle.acc_table.specs.declared.calls.Reply.TheVariants.{Done}
use Rattle.acc_table.specs.Calls.{IsDone}
use Rattle.acc_table.specs.Tables.{IsTableSound, world_of}
use Rattle.acc_clauses.specs.Acts.{CanWrite}
use Rattle.acc_table.specs.Making.{admitted, write_admitted, planned_verdict, IsMadeInto, IsCommitted, IsAsBefore}
use Rattle.acc_table.proofs.DeviceLists.{devices_put, devices_later}
use Rattle.acc_table.proofs.InUse.{with_device, world_in, AreDevicesOf, IsUsed, device_used, seen_in, event_made, unchanged}
use Rattle.acc_table.proofs.Verdicts.{told_on, made_done, directive_done, directive_judged, write_made, judged_write, can_write}

-- ---- births, of which a directive has at most 64

act_births : (task : Task) (did : Did) (w : Records) → (act task did w).births ≤ w.births + 1
act_births task did w = rw (mapping-act task did w).births (births_most task did.step w)

all_births : (tasks : List Task) (dids : List Did) (w : Records) → (act_all tasks dids w).births ≤ w.births + length tasks
unfolding act_all
all_births [] [] w = omega arith
all_births (t ∷ ts) (d ∷ ds) w = omega (arith, act_births t d w, all_births ts ds (act t d w))
all_births _ _ w = omega arith

-- nor does a loan
loaned_births : (e : Event) (w : Records) → (loaned e w).births ≡ w.births
unfolding loaned
loaned_births (Entered device number items did) w = refl
loaned_births _ w = refl

walk_births : (e : Event) (lay : Layout) (tasks : List Task) → asked_in e lay.register ≡ tasks → (walk e lay).records.births ≤ lay.records.births + length tasks
unfolding walk
walk_births e lay tasks is =
    let most : (act_all (asked_in e lay.register) (done_in e) lay.records).births ≤ lay.records.births + length tasks = subst (λ ts. (act_all ts (done_in e) lay.records).births ≤ lay.records.births + length tasks) (sym is) (all_births tasks (done_in e) lay.records) in
    let acted : Records = act_all (asked_in e lay.register) (done_in e) lay.records in
    subst (λ n. n ≤ lay.records.births + length tasks) (sym (loaned_births e (records_drained (stepped_in e lay.records.queues) acted) ∙ births-drained (stepped_in e lay.records.queues) acted)) most

-- ---- region numbers, of which an event uses at most one

walk_regions : (e : Event) (lay : Layout) → (walk e lay).register.next ≤ lay.register.next + 1
unfolding walk
walk_regions (Entered device number items did) lay = omega arith
walk_regions _ lay = omega arith

-- ---- serial numbers of loans, of which an event uses at most one

walk_serials : (e : Event) (lay : Layout) → (walk e lay).register.serial ≤ lay.register.serial + 1
unfolding walk
walk_serials (Entered device number items did) lay = omega arith
walk_serials _ lay = omega arith

-- ---- the devices

-- what a call leaves of a device and of what all share: it is sound, and nothing has fallen
pub record IsLeft (old new : SharedContents) (z : DeviceContents) : Type 0 where
  pub sound : AreContentsSound (contents_with z new)
  pub risen : HaveRisen old new

pub risen_none : (s : SharedContents) → HaveRisen s s
risen_none s = record { host = refl; region = omega arith; serial = omega arith }

-- they stay set with another in the place of one
pub set_put : (l : Limits) (x : Devices) (n : ℕ) (z : DeviceContents) (s : SharedContents) → AreSet l x → n < length x.each.items → z.limits ≡ limits_on n l → IsLeft x.shared s z → AreSet l (with_device x n z s)
set_put l x n z s set there limits left = record {
  count = length-set x.each.items n z ∙ set.count;
  each = devices_put l x.shared s x.each.items n z left.risen there (record { limits = limits; sound = left.sound }) set.each;
}

-- and with what they share later
pub set_later : (l : Limits) (x : Devices) (s : SharedContents) → AreSet l x → HaveRisen x.shared s → AreSet l (record { shared = s; each = x.each })
set_later l x s set risen = record { count = set.count; each = devices_later l x.shared s x.each.items risen set.each }

-- ---- a call

-- an accepted call keeps it whose event asks 64 tasks at most
kept_after : (w : World) (call : Call Leased) (e : Event) (tasks : List Task) → IsTableSound w → judge w call ≡ Ok (Makes e) → asked_in e (view (device_in e) w.state).register ≡ tasks → length tasks ≤ 64 → IsTableSound (world_after call e w)
unfolding world_after
kept_after w call e tasks k h asked few =
    record {
      bounds = k.bounds;
      accounted = accepted_accounted w call e k.bounds h k.accounted;
      births = λ n. born n (n == d) refl;
      regions = omega (arith, regions, more, k.regions);
      serials = omega (arith, serials, more, k.serials);
    }
  where
    d : ℕ
    d = device_in e

    s : State
    s = view d w.state

    made : State
    made = after w.limits.full e (bytes_brought call) s

    ok : IsAccepted w (bytes_brought call) e
    ok = accepted w call e k.bounds k.accounted.as_many (sound_on w k.accounted) h

    is : layout_of made ≡ walk e (layout_of s)
    is = layout-after w.limits.full e (bytes_brought call) s

    more : length (w.history.trace ++ e ∷ []) ≡ length w.history.trace + 1
    more = length-append w.history.trace (e ∷ [])

    births : made.records.births ≤ s.records.births + length tasks
    births = subst (λ (lay : Layout). lay.records.births ≤ s.records.births + length tasks) (sym is) (walk_births e (layout_of s) tasks asked)

    regions : made.register.next ≤ s.register.next + 1
    regions = subst (λ (lay : Layout). lay.register.next ≤ s.register.next + 1) (sym is) (walk_regions e (layout_of s))

    serials : made.register.serial ≤ s.register.serial + 1
    serials = subst (λ (lay : Layout). lay.register.serial ≤ s.register.serial + 1) (sym is) (walk_serials e (layout_of s))

    born : (n : ℕ) (b : Bool) → (n == d) ≡ b → (view n (with_view d made w.state)).records.births ≤ 64 * (w.history.base.events + length (w.history.trace ++ e ∷ []))
    born n true same = subst (λ m. (view m (with_view d made w.state)).records.births ≤ 64 * (w.history.base.events + length (w.history.trace ++ e ∷ []))) (sym (equal n d same))
        (subst (λ (t : State). t.records.births ≤ 64 * (w.history.base.events + length (w.history.trace ++ e ∷ []))) (sym (view-own d made w.state ok.there)) (omega (arith, births, few, more, k.births d)))
    born n false other = subst (λ (t : State). t.records.births ≤ 64 * (w.history.base.events + length (w.history.trace ++ e ∷ []))) (sym (view-other d n made w.state (differ n d other))) (omega (arith, more, k.births n))

-- and a call whose event asks none: a write of the host, a loan, a lease that is back
pub kept_alone : (w : World) (call : Call Leased) (e : Event) → IsTableSound w → judge w call ≡ Ok (Makes e) → asked_in e (view (device_in e) w.state).register ≡ [] → IsTableSound (world_after call e w)
kept_alone w call e k h none = kept_after w call e [] k h none (omega arith)

-- host memory has its size
pub host_sized : (w : World) → IsTableSound w → length w.state.host ≡ w.limits.host
host_sized w k = (k.accounted.devices 0 (omega (arith, k.bounds.devices.0))).sound.memories_sized.host

-- ---- a new table

pub new_world_kept : (l : Limits) → IsWithinBounds l → IsTableSound (new_world l)
new_world_kept l bounds = record { bounds = bounds; accounted = new_accounted l bounds; births = none; regions = omega arith; serials = omega arith }
  where
    births_of : (count d : ℕ) → (slice_index_or (replicate count new_device) d new_device).records.births ≡ 0
    births_of zero d = refl
    births_of (suc n) zero = refl
    births_of (suc n) (suc d) = births_of n d

    none : (d : ℕ) → (view d (new_whole l.devices l.host)).records.births ≤ 64 * 0
    none d = omega (arith, births_of l.devices d)

pub new_kept : (l : Limits) (base : Base) (x : Devices) → IsWithinBounds l → AreSet l x → whole_of x ≡ new_whole l.devices l.host → base ≡ base_of l.full (whole_of x) 0 → IsTableSound (world_in l base x []) × AreSet l x
new_kept l base x bounds set new is =
    let same : world_in l base x [] ≡ new_world l = ap (λ b. world_in l b x []) is ∙ ap (λ (w : Whole). world_of l (base_of l.full w 0) w []) new in
    (subst (λ w. IsTableSound w) (sym same) (new_world_kept l bounds), set)

-- ---- a new base

pub rebased_kept : (w : World) → IsTableSound w → IsTableSound (rebased w)
rebased_kept w k = record { bounds = k.bounds; accounted = rebased_accounted w k.bounds k.accounted; births = λ d. omega (arith, k.births d); regions = omega (arith, k.regions); serials = omega (arith, k.serials) }

pub kept_rebased : (l : Limits) (base new : Base) (x : Devices) (trace : List Event) → IsTableSound (world_in l base x trace) → new ≡ base_of l.full (whole_of x) (event_count (world_in l base x trace).history) → IsTableSound (world_in l new x [])
kept_rebased l base new x trace k is = subst (λ b. IsTableSound (world_in l b x [])) (sym is) (rebased_kept (world_in l base x trace) k)

-- ---- a table, whichever device is used

module _ {l : Limits} {base : Base} {x : Devices} {trace : List Event} {w : World} (t : AreDevicesOf l base x trace w) {n : ℕ} {y : DeviceContents} (u : IsUsed x n y) {z : DeviceContents} {s : SharedContents} (left : IsLeft x.shared s z) where
  -- what the devices and a trace keep that were made into those after an event
  pub kept_called : (call : Call Leased) (e : Event) (reply : Reply) (longer : List Event) → device_in e ≡ n → IsTableSound (world_after call e w) → IsMadeInto e (bytes_brought call) reply (contents_with y x.shared) (contents_with z s) trace longer → IsTableSound (world_in l base (with_device x n z s) longer) × AreSet l (with_device x n z s)
  kept_called call e reply longer on k m = (subst (λ v. IsTableSound v) (sym (event_made t u z s call e reply longer on m)) k, set_put l x n z s t.set u.there (m.limits ∙ (device_used t u).limits) left)

  -- or only had room made
  pub kept_same : (same : List Event) → IsAsBefore (contents_with y x.shared) (contents_with z s) trace same → IsTableSound (world_in l base (with_device x n z s) same) × AreSet l (with_device x n z s)
  kept_same same h = (subst (λ v. IsTableSound v) (t.same ∙ sym (unchanged t u z s same h)) t.kept, set_put l x n z s t.set u.there (h.limits ∙ (device_used t u).limits) left)

  -- a call whose event asks no task is done, and keeps it, or only room was made
  pub made_alone : {E : Type 0} (call : Call Leased) (e : Event) (longer : List Event) (r : Result Reply E) → device_in e ≡ n → judge w call ≡ Ok (Makes e) → asked_in e (view (device_in e) w.state).register ≡ []
      → IfOk r (λ reply. IsMadeInto e (bytes_brought call) reply (contents_with y x.shared) (contents_with z s) trace longer) → OnErr r (IsAsBefore (contents_with y x.shared) (contents_with z s) trace longer)
      → (IsTableSound (world_in l base (with_device x n z s) longer) × AreSet l (with_device x n z s)) × IfOk r (λ reply. IsDone w call reply (world_in l base (with_device x n z s) longer))
  made_alone call e longer (Ok reply) on h none m same = (kept_called call e reply longer on (kept_alone w call e (subst (λ v. IsTableSound v) t.same t.kept) h none) m, made_done t u z s call e reply longer on h m)
  made_alone call e longer (Err back) on h none m same = (kept_same longer same, tt)

  -- so do they that carried a directive out, or were asked in vain
  directive_kept : (d : Directive) (p : Planned) (e : Event) → IsPlanOf y.limits d (contents_with y x.shared).state p → planned_verdict d p (contents_with y x.shared) ≡ Makes e → judge w (Do d) ≡ Ok (Makes e) → IsTableSound (world_after (Do d) e w)
  directive_kept d p e planned is h =
      let asked : asked_in e (contents_with y x.shared).state.register ≡ p.tasks = planned_asked y.limits y.limits.number d (contents_with y x.shared).state p e planned is in
      kept_after w (Do d) e p.tasks (subst (λ v. IsTableSound v) t.same t.kept) h (subst (λ (s : State). asked_in e s.register ≡ p.tasks) (seen_in t u e (told_on t u d p e is)) asked) planned.few

  kept_carried : (d : Directive) (p : Planned) (longer : List Event) (r : Result Reply (Directive × Fault)) → OnOk r (IsPlanOf y.limits d (contents_with y x.shared).state p) → OnOk r (judge w (Do d) ≡ Ok (planned_verdict d p (contents_with y x.shared)))
      → IfOk r (λ reply. IsCommitted (planned_verdict d p (contents_with y x.shared)) reply (contents_with y x.shared) (contents_with z s) trace longer) → OnErr r (IsAsBefore (contents_with y x.shared) (contents_with z s) trace longer) → IsTableSound (world_in l base (with_device x n z s) longer) × AreSet l (with_device x n z s)
  kept_carried d p longer (Ok reply) planned h done same = go (planned_verdict d p (contents_with y x.shared)) refl done
    where
      go : (v : Verdict) → planned_verdict d p (contents_with y x.shared) ≡ v → IsCommitted v reply (contents_with y x.shared) (contents_with z s) trace longer → IsTableSound (world_in l base (with_device x n z s) longer) × AreSet l (with_device x n z s)
      go (Makes e) is m = kept_called (Do d) e reply longer (told_on t u d p e is) (directive_kept d p e planned is (h ∙ ap Ok is)) m
      go Idle is m = kept_same longer m.1
  kept_carried d p longer (Err back) planned h done same = kept_same longer same

  pub carried : (d : Directive) (p : Planned) (longer : List Event) (r : Result Reply (Directive × Fault)) → n ≡ device_for d w.state → admitted w d ≡ Ok tt → OnOk r (plan_of y.limits d (contents_with y x.shared).state ≡ Ok (planned_verdict d p (contents_with y x.shared))) → OnOk r (IsPlanOf y.limits d (contents_with y x.shared).state p)
      → IfOk r (λ reply. IsCommitted (planned_verdict d p (contents_with y x.shared)) reply (contents_with y x.shared) (contents_with z s) trace longer) → OnErr r (IsAsBefore (contents_with y x.shared) (contents_with z s) trace longer)
      → (IsTableSound (world_in l base (with_device x n z s) longer) × AreSet l (with_device x n z s)) × IfOk r (λ reply. IsDone w (Do d) reply (world_in l base (with_device x n z s) longer))
  carried d p longer r for ok plan planned done same = let judged = directive_judged t u d p r for ok plan in (kept_carried d p longer r planned judged done same, directive_done t u z s d p longer r judged done)

-- ---- a write of the host

module _ {l : Limits} {base : Base} {x : Devices} {trace : List Event} {w : World} (t : AreDevicesOf l base x trace w) where
  -- the addresses of a write of the host that is not refused are in host memory
  pub may_write : (s : Section) → write_admitted w s ≡ Ok tt → CanWrite s x.shared.host
  may_write s ok = can_write (world_in l base x trace) s (subst (λ (v : World). write_admitted v s ≡ Ok tt) (sym t.same) ok) (host_sized (world_in l base x trace) t.kept)

  -- such a write is done, and keeps it
  pub written_so : (s : SharedContents) (addr : ℕ) (bytes : List ℕ) (longer : List Event) → write_admitted w (record { start = addr; len = length bytes }) ≡ Ok tt
      → s.host ≡ host_after_write addr (length bytes) bytes x.shared.host → s.numbers ≡ x.shared.numbers → HaveRisen x.shared s → longer ≡ trace ++ written l.full addr bytes ∷ []
      → let y : Devices = record { shared = s; each = x.each } in (IsTableSound (world_in l base y longer) × AreSet l y) × IsDone w (HostWrite addr bytes) Done (world_in l base y longer)
  written_so s addr bytes longer ok host numbers risen is =
      let v : World = world_in l base x trace in
      let y : Devices = record { shared = s; each = x.each } in
      let call : Call Leased = HostWrite addr bytes in
      let judged : judge v call ≡ Ok (Makes (written l.full addr bytes)) = judged_write v addr bytes (subst (λ (v : World). write_admitted v (record { start = addr; len = length bytes }) ≡ Ok tt) (sym t.same) ok) in
      let made : world_in l base y longer ≡ world_after call (written l.full addr bytes) v = write_made l base x s addr bytes trace longer host numbers is in
      let done : IsDone v call Done (world_in l base y longer) = rw judged (refl, made) in (
        (subst (λ u. IsTableSound u) (sym made) (kept_alone v call (written l.full addr bytes) t.kept judged refl), set_later l x s t.set risen),
        subst (λ (u : World). IsDone u call Done (world_in l base y longer)) t.same done,
      )
