-- Events that are told: each leaves an account that follows all devices, and what is known as the definition says.
use Rattle.std.proofs.Common.{Vec, Global, ◌≡◌, ℕ, ◌<◌, Bool, true, false, ◌==◌, List, [], ◌∷◌, ◌++◌, map, length, reverse, Option, Some, None, unwrap_or, option_map, Ok, refl, sym, ap, subst, ◌∙◌, arith}
use Rattle.std.specs.Prelude.{IsSome, nat_lt, Result, Err, OnOk, ⊤}
use Rattle.std.proofs.lemmas.Bool.Decides.{nat_tests}
use Rattle.std.proofs.lemmas.List.{map-append, reverse-append, length-reverse}
use Rattle.acc_base.specs.declared.events.Did.{Did}
use Rattle.acc_base.specs.declared.events.Event.{Event}
use Rattle.acc_base.specs.declared.events.Event.TheVariants.{Entered, Left, EnteredData, ExitedData, Updated, Waited, Stepped, Lent, Gathered}
use Rattle.acc_base.specs.declared.faults.Fault.{Fault}
use Rattle.acc_base.specs.declared.items.Item.{Item}
use Rattle.acc_base.specs.declared.items.RegionClause.{RegionClause}
use Rattle.acc_base.specs.declared.transfers.TheConstants.{QUEUE_COUNT}
use Rattle.acc_base.specs.declared.transfers.Transfer.{Transfer}
use Rattle.acc_base.proofs.Queued.{head_there}
use Rattle.acc_base.specs.declared.regions.Holding.{Holding}
use Rattle.acc_base.specs.declared.tasks.Task.{Task}
use Rattle.acc_base.specs.declared.tasks.Task.TheVariants.{ExitRegion}
use Rattle.acc_base.specs.Limits.{Limits}
use Rattle.acc_base.specs.Register.{Region, Register, holdings_at, region_at, with_region, without_region, opened, closed}
use Rattle.acc_base.specs.Records.{Records, State}
use Rattle.acc_base.specs.Items.{tasks_named, tasks_undone}
use Rattle.acc_base.specs.Queues.{head_of, queue_named}
use Rattle.acc_base.specs.Waits.{drained, steps_of}
use Rattle.acc_base.specs.Walk.{asked_in, did_in, done_in, stepped_in, loaned, register_after, leave_tasks, holdings_of}
use Rattle.acc_base.specs.Acting.{act_all_state, judge_all, after}
use Rattle.acc_base.specs.Replay.{bytes_told}
use Rattle.acc_base.specs.Devices.{Whole, device_in, view, after_told}
use Rattle.acc_base.specs.Accounts.{AreRecordsSound, IsRegisterSound}
use Rattle.acc_base.proofs.Results.{equal, equal_self}
use Rattle.acc_base.proofs.Elements.{AllByRecursion-weaker}
use Rattle.acc_base.proofs.InPlace.{IsPut, find-put_new, find-put_other}
use Rattle.acc_base.proofs.Lookups.{at-without_same, at-without_other, at-none}
use Rattle.acc_base.proofs.Views.{numbers_from, view-own, view-other}
use Rattle.acc_stale.specs.declared.accounts.Account.{Account}
use Rattle.acc_stale.specs.declared.trackers.Tracker.{Tracker}
use Rattle.acc_stale.specs.Events.{known_all, known_drained, known_written, known_after}
use Rattle.std.specs.BTreeMap.{get}
use Rattle.acc_stale.specs.Accounts.{by_number, told_at, undone_at, asked_by, waiting_in, IsRegionChanged, IsRegionOpened}
use Rattle.acc_stale.specs.Follows.{FollowsDevice, AreRegionsTold, FollowsState, FollowsWhole, IsEventIn}
use Rattle.acc_stale.specs.Tells.{LeavesOthers, IsDrained, AreActed, IsEventTold}
use Rattle.acc_stale.proofs.Followed.{still_told, same_kept}
use Rattle.acc_stale.proofs.Telling.{told_same}
use Rattle.acc_stale.proofs.Draining.{others_then}

-- ---- what the items of an event ask and did

reverse-map : {X Y : Type 0} (f : X → Y) (xs : List X) → reverse (map f xs) ≡ map f (reverse xs)
reverse-map f [] = refl
reverse-map f (x ∷ xs) = reverse-append (f x ∷ []) (map f xs) ∙ ap (λ ys. ys ++ f x ∷ []) (reverse-map f xs) ∙ sym (map-append f (reverse xs) (x ∷ [])) ∙ sym (ap (map f) (reverse-append (x ∷ []) xs))

-- an account that follows says what they ask
pub asks : (l : Limits) (e : Event) (s : State) (a : Account) → IsEventIn l e s → FollowsState (device_in e) a s → asked_by e a ≡ asked_in e s.register
asks l (Left device number did) s a ev follows = go (holdings_at number s.register.regions) refl ev.names
  where
    go : (o : Option (List Holding)) → holdings_at number s.register.regions ≡ o → IsSome o → reverse (unwrap_or (undone_at device number a) []) ≡ leave_tasks (unwrap_or (holdings_at number s.register.regions) [])
    go None e some = absurd (let bad : false ≡ true = some in cc)
    go (Some holdings) e some =
        ap (λ (o : Option (List Task)). reverse (unwrap_or o [])) (follows.regions number holdings e)
        ∙ reverse-map ExitRegion holdings
        ∙ sym (ap (λ (o : Option (List Holding)). leave_tasks (unwrap_or o [])) e)
asks l _ s a ev follows = refl

pub asks_kept : (e : Event) (a b : Account) → b.regions ≡ a.regions → asked_by e b ≡ asked_by e a
asks_kept (Left device number did) a b same = ap (λ m. reverse (unwrap_or (option_map (λ (tasks : Vec Task Global). tasks.items) (get by_number m (device, number))) [])) same
asks_kept _ a b same = refl

-- they were judged to do what they did
pub all_made : (l : Limits) (e : Event) (s : State) → IsEventIn l e s → judge_all l 0 (asked_in e s.register) s ≡ Ok (done_in e)
unfolding judge_all
all_made l (Entered device number items did) s ev = ev.made
all_made l (Left device number did) s ev = ev.made
all_made l (EnteredData device items queue did) s ev = ev.made
all_made l (ExitedData device items finalize queue did) s ev = ev.made
all_made l (Updated device items if_present queue did) s ev = ev.made
all_made l _ s ev = refl

pub as_many_done : (e : Event) → length (done_in e) ≡ length (did_in e)
as_many_done (Left device number did) = length-reverse did
as_many_done _ = refl

-- a region that is kept or dropped leaves blocks and queues
pub closed_device : (d number : ℕ) (now : Option (List Task)) (a b : Account) (e : ℕ) (w : Records) → IsRegionChanged d number now a b → FollowsDevice e a w → FollowsDevice e b w
closed_device d number now a b e w changed follows = record {
  told = told_same e (λ j. told_at e j a) (λ j. told_at e j b) w (changed.blocks e) follows.told;
  queues = λ q low. ap (λ (x : _). waiting_in e q x.items) changed.waiting ∙ follows.queues q low;
}

-- ---- open regions

regions_same : (d : ℕ) (a b : Account) (g : Register) → b.regions ≡ a.regions → AreRegionsTold d a g → AreRegionsTold d b g
regions_same d a b g same h number holdings found = ap (λ m. option_map (λ (tasks : Vec Task Global). tasks.items) (get by_number m (d, number))) same ∙ h number holdings found

put_region : (new : Region) → IsPut new (λ r. nat_lt new.number r.number) (with_region new)
put_region new = record { alone = refl; among = λ x xs. refl }

pub regions_opened : (d number : ℕ) (held : List Holding) (a b : Account) (g : Register) → IsRegionOpened d number (Some (map ExitRegion held)) a b → number ≡ g.next → IsRegisterSound g → AreRegionsTold d a g → AreRegionsTold d b (opened number held g)
regions_opened d number held a b g is next sound h m holdings found = go (m == number) refl
  where
    new : Region
    new = record { number = number; holdings = held }

    fresh : region_at number g.regions ≡ None
    fresh = at-none (λ (r : Region). r.number) number g.regions (AllByRecursion-weaker (λ (r : Region). r.number < g.next) (λ (r : Region). r.number ≡ number → ⊥) g.regions (λ r low same. omega (arith, low, same, next)) sound.known)

    go : (s : Bool) → (m == number) ≡ s → undone_at d m b ≡ Some (map ExitRegion holdings)
    go true e =
        let same : m ≡ number = equal m number e in
        let at : holdings_at number (with_region (record { number = number; holdings = held }) g.regions) ≡ Some held = ap (option_map (λ (r : Region). r.holdings)) (find-put_new (put_region (record { number = number; holdings = held })) (λ r. r.number == number) g.regions (equal_self number) fresh) in
        let there : holdings_at number (with_region (record { number = number; holdings = held }) g.regions) ≡ Some holdings = subst (λ (n : ℕ). holdings_at n (with_region (record { number = number; holdings = held }) g.regions) ≡ Some holdings) same found in
        let these : held ≡ holdings = cc in
        ap (λ n. undone_at d n b) same ∙ is.here ∙ ap (λ hs. Some (map ExitRegion hs)) these
    go false e =
        let other : (number == m) ≡ false = grind (arith, nat_tests, e) in
        let left : holdings_at m g.regions ≡ Some holdings = sym (ap (option_map (λ (r : Region). r.holdings)) (find-put_other (put_region (record { number = number; holdings = held })) (λ r. r.number == m) g.regions other)) ∙ found in
        is.others d m (rw (equal_self d) e) ∙ h m holdings left

pub regions_closed : (d number : ℕ) (a b : Account) (g : Register) → IsRegionOpened d number None a b → AreRegionsTold d a g → AreRegionsTold d b (closed number g)
regions_closed d number a b g is h m holdings found = go (m == number) refl
  where
    go : (s : Bool) → (m == number) ≡ s → undone_at d m b ≡ Some (map ExitRegion holdings)
    go true e =
        let none : region_at m (without_region number g.regions) ≡ None = subst (λ (n : ℕ). region_at n (without_region number g.regions) ≡ None) (sym (equal m number e)) (at-without_same (λ (r : Region). r.number) number g.regions) in
        let bad : None ≡ Some holdings = sym (ap (option_map (λ (r : Region). r.holdings)) none) ∙ found in
        cc
    go false e =
        let left : holdings_at m g.regions ≡ Some holdings = sym (ap (option_map (λ (r : Region). r.holdings)) (at-without_other (λ (r : Region). r.number) number m g.regions e)) ∙ found in
        is.others d m (rw (equal_self d) e) ∙ h m holdings left

-- ---- an event in the state of its device

pub record IsToldIn (e : Event) (s : State) (x y : Tracker) : Type 0 where
  pub known : y.known ≡ known_drained (device_in e) (stepped_in e s.records.queues) (act_all_state (asked_in e s.register) (done_in e) s) (known_all (device_in e) (asked_in e s.register) (done_in e) s x.known)
  pub device : FollowsDevice (device_in e) y.account (drained (stepped_in e s.records.queues) (act_all_state (asked_in e s.register) (done_in e) s)).records
  pub regions : AreRegionsTold (device_in e) y.account (register_after e s.register)
  pub others : LeavesOthers (device_in e) x.account y.account
  pub apart : (k n : ℕ) → (k == device_in e) ≡ false → undone_at k n y.account ≡ undone_at k n x.account

-- loans are not told
loaned_follows : (d : ℕ) (a : Account) (e : Event) (w : Records) → FollowsDevice d a w → FollowsDevice d a (loaned e w)
unfolding loaned
loaned_follows d a (Lent device region section block serial) w h = record { told = still_told d (λ j. told_at d j a) w (loaned (Lent device region section block serial) w) (same_kept w (loaned (Lent device region section block serial) w) refl refl refl) h.told; queues = h.queues }
loaned_follows d a (Gathered device serial block bytes) w h = record { told = still_told d (λ j. told_at d j a) w (loaned (Gathered device serial block bytes) w) (same_kept w (loaned (Gathered device serial block bytes) w) refl refl refl) h.told; queues = h.queues }
loaned_follows d a _ w h = h

own_after : (e : Event) (s : State) (x y : Tracker) (brought : List ℕ) → IsToldIn e s x y → FollowsState (device_in e) y.account (after true e brought s)
unfolding after
own_after e s x y brought told = record { device = loaned_follows (device_in e) y.account e _ told.device; regions = told.regions }

other_after : (k : ℕ) (e : Event) (s : State) (w : Whole) (x y : Tracker) → (k == device_in e) ≡ false → IsToldIn e (view (device_in e) w) x y → FollowsState k x.account (view k w)
    → FollowsState k y.account (record { records = (view k w).records; register = numbers_from s.register (view k w).register; host = s.host; memories = (view k w).memories })
other_after k e s w x y other told h = record {
  device = told.others k (view k w).records other h.device;
  regions = λ n holdings found. told.apart k n other ∙ h.regions n holdings found;
}

pub event_told : (e : Event) (w : Whole) (x y : Tracker) → device_in e < length w.devices → FollowsWhole x.account w → IsToldIn e (view (device_in e) w) x y → IsEventTold e w x y
unfolding known_after
event_told e w x y there follows told = record {
  known = sym (ap (known_written e w (view (device_in e) w)) told.known);
  follows = λ k. go k (k == device_in e) refl;
}
  where
    go : (k : ℕ) (b : Bool) → (k == device_in e) ≡ b → FollowsState k y.account (view k (after_told e w))
    go k true same =
        let is : k ≡ device_in e = equal k (device_in e) same in
        subst (λ (n : ℕ). FollowsState n y.account (view n (after_told e w))) (sym is)
        (subst (λ (v : State). FollowsState (device_in e) y.account v) (sym (view-own (device_in e) (after true e (bytes_told e (view (device_in e) w)) (view (device_in e) w)) w there))
        (own_after e (view (device_in e) w) x y (bytes_told e (view (device_in e) w)) told))
    go k false other =
        let differs : k ≡ device_in e → ⊥ = λ is. let yes : (k == device_in e) ≡ true = subst (λ (n : ℕ). (k == n) ≡ true) is (equal_self k) in cc in
        subst (λ (v : State). FollowsState k y.account v) (sym (view-other (device_in e) k (after true e (bytes_told e (view (device_in e) w)) (view (device_in e) w)) w differs))
        (other_after k e (after true e (bytes_told e (view (device_in e) w)) (view (device_in e) w)) w x y other told (follows k))

-- ---- each kind of event

pub on_ok_two : {P Q R : Type 0} (r : Result ⊤ Fault) → (P → Q → R) → OnOk r P → OnOk r Q → OnOk r R
on_ok_two (Ok x) f p q = f p q
on_ok_two (Err e) f p q = tt

-- all its items acted
abbrev pub AreItemsActed : Event → Tracker → Tracker → Type 0
AreItemsActed e x y = (l : Limits) (s : State) → IsEventIn l e s → FollowsState (device_in e) x.account s → AreActed (device_in e) (asked_in e s.register) (done_in e) s x y

region_kept : (a b : Account) → b.regions ≡ a.regions → (k n : ℕ) → undone_at k n b ≡ undone_at k n a
region_kept a b same k n = ap (λ m. option_map (λ (tasks : Vec Task Global). tasks.items) (get by_number m (k, n))) same

-- a region is opened or closed behind them
region_told : (d number : ℕ) (now : Option (List Task)) (a b c : Account) → b.regions ≡ a.regions → IsRegionChanged d number now b c → IsRegionOpened d number now a c
region_told d number now a b c same is = record { here = is.here; others = λ e n other. is.others e n other ∙ region_kept a b same e n }

region_apart : (d number : ℕ) (now : Option (List Task)) (a b : Account) → IsRegionOpened d number now a b → (k n : ℕ) → (k == d) ≡ false → undone_at k n b ≡ undone_at k n a
region_apart d number now a b is k n other = is.others k n (rw other refl)

others_changed : (d number : ℕ) (now : Option (List Task)) (a b c : Account) → IsRegionChanged d number now b c → LeavesOthers d a b → LeavesOthers d a c
others_changed d number now a b c changed others e w other follows = closed_device d number now b c e w changed (others e w other follows)

pub entered_told : (l : Limits) (e : Event) (device number : ℕ) (items : List (Item RegionClause)) (did : List Did) (s : State) (x y z : Tracker) → e ≡ Entered device number items did → IsEventIn l e s → FollowsState (device_in e) x.account s → AreItemsActed e x y → LeavesOthers (device_in e) x.account y.account → y.account.regions ≡ x.account.regions
    → z.known ≡ y.known → IsRegionChanged device number (Some (tasks_undone e)) y.account z.account → IsToldIn e s x z
unfolding drained known_drained
entered_told l e device number items did s x y z is = subst (λ (v : Event). IsEventIn l v s → FollowsState (device_in v) x.account s → AreItemsActed v x y → LeavesOthers (device_in v) x.account y.account → y.account.regions ≡ x.account.regions → z.known ≡ y.known → IsRegionChanged device number (Some (tasks_undone v)) y.account z.account → IsToldIn v s x z) (sym is) go
  where
    go : IsEventIn l (Entered device number items did) s → FollowsState device x.account s → AreItemsActed (Entered device number items did) x y → LeavesOthers device x.account y.account → y.account.regions ≡ x.account.regions → z.known ≡ y.known → IsRegionChanged device number (Some (tasks_undone (Entered device number items did))) y.account z.account → IsToldIn (Entered device number items did) s x z
    go ev follows items_acted others same known changed =
        let acted : AreActed device (tasks_named (Entered device number items did)) did s x y = items_acted l s ev follows in
        let opened_now : IsRegionOpened device number (Some (tasks_undone (Entered device number items did))) x.account z.account = region_told device number _ x.account y.account z.account same changed in
        record {
          known = known ∙ acted.known;
          device = closed_device device number _ y.account z.account device _ changed acted.follows;
          regions = regions_opened device number (holdings_of items did) x.account z.account s.register opened_now ev.names ev.register follows.regions;
          others = others_changed device number _ x.account y.account z.account changed others;
          apart = region_apart device number _ x.account z.account opened_now;
        }

pub left_told : (l : Limits) (e : Event) (device number : ℕ) (did : List Did) (s : State) (x y z : Tracker) → e ≡ Left device number did → IsEventIn l e s → FollowsState (device_in e) x.account s → AreItemsActed e x y → LeavesOthers (device_in e) x.account y.account → y.account.regions ≡ x.account.regions
    → z.known ≡ y.known → IsRegionChanged device number None y.account z.account → IsToldIn e s x z
unfolding drained known_drained
left_told l e device number did s x y z is = subst (λ (v : Event). IsEventIn l v s → FollowsState (device_in v) x.account s → AreItemsActed v x y → LeavesOthers (device_in v) x.account y.account → y.account.regions ≡ x.account.regions → z.known ≡ y.known → IsRegionChanged device number None y.account z.account → IsToldIn v s x z) (sym is) go
  where
    go : IsEventIn l (Left device number did) s → FollowsState device x.account s → AreItemsActed (Left device number did) x y → LeavesOthers device x.account y.account → y.account.regions ≡ x.account.regions → z.known ≡ y.known → IsRegionChanged device number None y.account z.account → IsToldIn (Left device number did) s x z
    go ev follows items_acted others same known changed =
        let acted : AreActed device (leave_tasks (unwrap_or (holdings_at number s.register.regions) [])) (reverse did) s x y = items_acted l s ev follows in
        let closed_now : IsRegionOpened device number None x.account z.account = region_told device number None x.account y.account z.account same changed in
        record {
          known = known ∙ acted.known;
          device = closed_device device number None y.account z.account device _ changed acted.follows;
          regions = regions_closed device number x.account z.account s.register closed_now follows.regions;
          others = others_changed device number None x.account y.account z.account changed others;
          apart = region_apart device number None x.account z.account closed_now;
        }

-- transfers of queues are made
abbrev pub IsWaited : ℕ → Option ℕ → Tracker → Tracker → Type 0
IsWaited device queue y z = (l : Limits) (s : State) → FollowsDevice device y.account s.records → AreRecordsSound l s.records → queue_named queue ≡ Ok tt → IsDrained device (steps_of queue s.records.queues) s y z

pub waited_told : (l : Limits) (e : Event) (device count : ℕ) (queue : Option ℕ) (s : State) (x y z : Tracker) → e ≡ Waited device queue count → IsEventIn l e s → FollowsState (device_in e) x.account s → AreItemsActed e x y → LeavesOthers (device_in e) x.account y.account → y.account.regions ≡ x.account.regions
    → IsWaited device queue y z → LeavesOthers device y.account z.account → z.account.regions ≡ y.account.regions → IsToldIn e s x z
unfolding act_all_state known_all
waited_told l e device count queue s x y z is = subst (λ (v : Event). IsEventIn l v s → FollowsState (device_in v) x.account s → AreItemsActed v x y → LeavesOthers (device_in v) x.account y.account → y.account.regions ≡ x.account.regions → IsWaited device queue y z → LeavesOthers device y.account z.account → z.account.regions ≡ y.account.regions → IsToldIn v s x z) (sym is) go
  where
    go : IsEventIn l (Waited device queue count) s → FollowsState device x.account s → AreItemsActed (Waited device queue count) x y → LeavesOthers device x.account y.account → y.account.regions ≡ x.account.regions → IsWaited device queue y z → LeavesOthers device y.account z.account → z.account.regions ≡ y.account.regions → IsToldIn (Waited device queue count) s x z
    go ev follows items_acted others same waited others_made same_made =
        let acted : AreActed device [] [] s x y = items_acted l s ev follows in
        let made : IsDrained device (steps_of queue s.records.queues) s y z = waited l s acted.follows ev.sound ev.names.0 in
        record {
          known = made.known ∙ ap (known_drained device (steps_of queue s.records.queues) s) acted.known;
          device = made.follows;
          regions = regions_same device x.account z.account s.register (same_made ∙ same) follows.regions;
          others = others_then device x.account y.account z.account others others_made;
          apart = λ k n other. region_kept x.account z.account (same_made ∙ same) k n;
        }

queue_there : (l : Limits) (q block : ℕ) (s : State) → AreRecordsSound l s.records → option_map (λ (t : Transfer). t.block) (head_of q s.records.queues) ≡ Some block → q < QUEUE_COUNT
queue_there l q block s sound named = go (head_of q s.records.queues) refl named
  where
    go : (o : Option Transfer) → head_of q s.records.queues ≡ o → option_map (λ (t : Transfer). t.block) o ≡ Some block → q < QUEUE_COUNT
    go None e h = cc
    go (Some t) e h = let there : q < length s.records.queues = head_there q t s.records.queues e in omega (arith, there, sound.queues.all)

-- the first transfer of one is made
abbrev pub IsStepMade : ℕ → ℕ → Tracker → Tracker → Type 0
IsStepMade device queue y z = (l : Limits) (s : State) → FollowsDevice device y.account s.records → AreRecordsSound l s.records → queue < QUEUE_COUNT → IsDrained device (queue ∷ []) s y z

pub stepped_told : (l : Limits) (e : Event) (device queue block : ℕ) (s : State) (x y z : Tracker) → e ≡ Stepped device queue block → IsEventIn l e s → FollowsState (device_in e) x.account s → AreItemsActed e x y → LeavesOthers (device_in e) x.account y.account → y.account.regions ≡ x.account.regions
    → IsStepMade device queue y z → LeavesOthers device y.account z.account → z.account.regions ≡ y.account.regions → IsToldIn e s x z
unfolding act_all_state known_all
stepped_told l e device queue block s x y z is = subst (λ (v : Event). IsEventIn l v s → FollowsState (device_in v) x.account s → AreItemsActed v x y → LeavesOthers (device_in v) x.account y.account → y.account.regions ≡ x.account.regions → IsStepMade device queue y z → LeavesOthers device y.account z.account → z.account.regions ≡ y.account.regions → IsToldIn v s x z) (sym is) go
  where
    go : IsEventIn l (Stepped device queue block) s → FollowsState device x.account s → AreItemsActed (Stepped device queue block) x y → LeavesOthers device x.account y.account → y.account.regions ≡ x.account.regions → IsStepMade device queue y z → LeavesOthers device y.account z.account → z.account.regions ≡ y.account.regions → IsToldIn (Stepped device queue block) s x z
    go ev follows items_acted others same stepped others_made same_made =
        let acted : AreActed device [] [] s x y = items_acted l s ev follows in
        let made : IsDrained device (queue ∷ []) s y z = stepped l s acted.follows ev.sound (queue_there l queue block s ev.sound ev.names.0) in
        record {
          known = made.known ∙ ap (known_drained device (queue ∷ []) s) acted.known;
          device = made.follows;
          regions = regions_same device x.account z.account s.register (same_made ∙ same) follows.regions;
          others = others_then device x.account y.account z.account others others_made;
          apart = λ k n other. region_kept x.account z.account (same_made ∙ same) k n;
        }

-- nothing is done behind them
abbrev pub is_plain : Event → Bool
is_plain (Entered device number items did) = false
is_plain (Left device number did) = false
is_plain (Waited device queue count) = false
is_plain (Stepped device queue block) = false
is_plain _ = true

pub plain_told : (l : Limits) (e : Event) (s : State) (x y : Tracker) → is_plain e ≡ true → IsEventIn l e s → FollowsState (device_in e) x.account s → AreItemsActed e x y → LeavesOthers (device_in e) x.account y.account → y.account.regions ≡ x.account.regions → IsToldIn e s x y
unfolding drained known_drained
plain_told l (Entered device number items did) s x y is ev follows items_acted others same = cc
plain_told l (Left device number did) s x y is ev follows items_acted others same = cc
plain_told l (Waited device queue count) s x y is ev follows items_acted others same = cc
plain_told l (Stepped device queue block) s x y is ev follows items_acted others same = cc
plain_told l e s x y is ev follows items_acted others same =
    let acted : AreActed (device_in e) (asked_in e s.register) (done_in e) s x y = items_acted l s ev follows in
    record { known = acted.known; device = acted.follows; regions = regions_same (device_in e) x.account y.account s.register same follows.regions; others = others; apart = λ k n other. region_kept x.account y.account same k n }

pub plain_of : (e : Event) → ((device number : ℕ) (items : List (Item RegionClause)) (did : List Did) → e ≡ Entered device number items did → ⊥) → ((device number : ℕ) (did : List Did) → e ≡ Left device number did → ⊥) → ((device : ℕ) (queue : Option ℕ) (count : ℕ) → e ≡ Waited device queue count → ⊥)
    → ((device queue block : ℕ) → e ≡ Stepped device queue block → ⊥) → is_plain e ≡ true
plain_of (Entered device number items did) entered left waited stepped = absurd (entered device number items did refl)
plain_of (Left device number did) entered left waited stepped = absurd (left device number did refl)
plain_of (Waited device queue count) entered left waited stepped = absurd (waited device queue count refl)
plain_of (Stepped device queue block) entered left waited stepped = absurd (stepped device queue block refl)
plain_of _ entered left waited stepped = refl
