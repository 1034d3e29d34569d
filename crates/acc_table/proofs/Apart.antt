-- No region is open on two devices, and the open region of the greatest number was entered last on all of them.
use Rattle.std.proofs.Common.{ℕ, zero, suc, ◌≡◌, ◌+◌, ◌<◌, ◌≤◌, refl, sym, ◌∙◌, ap, subst, Bool, true, false, cond, List, [], ◌∷◌, length, Option, Some, None, inl, inr, arith}
use Rattle.std.specs.Prelude.{◌⊎◌, ◌==◌, not, nat_lt, nat_le, max, is_some, IsSome}
use Rattle.std.proofs.lemmas.Bool.Decides.{nat_tests}
use Rattle.acc_clauses.specs.Words.{Event}
use Rattle.acc_base.specs.declared.events.Event.TheVariants.{Entered, Left, Lent}
use Rattle.acc_base.specs.Limits.{Limits, limits_on}
use Rattle.acc_base.specs.Register.{Region, Register, region_at, newest_region, with_region, without_region}
use Rattle.acc_base.specs.Records.{Layout}
use Rattle.acc_base.specs.Walk.{register_after, holdings_of, walk}
use Rattle.acc_base.specs.History.{NamesRight, IsLegalOn, AreLegal}
use Rattle.acc_base.specs.Devices.{OneDevice, Whole, WholeLayout, device_at, new_whole_layout, whole_layout_of, layout_in, device_in, device_of_region, walk_on, walk_all_on}
use Rattle.acc_base.specs.Accounts.{EachPair, IsAccounted}
use Rattle.acc_base.specs.Calls.{World}
use Rattle.acc_base.proofs.Results.{equal, equal_self, differ}
use Rattle.acc_base.proofs.Views.{device_beyond, layout-own, layout-other, layout-view}
use Rattle.acc_base.proofs.OnDevices.{new_is}
use Rattle.acc_table.specs.Queries.{later, newest_of, IsOpenOn, IsLastEntered}
use Rattle.acc_table.proofs.AllDevices.{region_found}

nothing_open : {P : Type 0} → IsSome (region_at 0 []) → P
nothing_open h = let never : false ≡ true = h in absurd cc

-- ---- one list of regions

-- a region that is open after one more was entered is that one, or was open before
at_with : (m : ℕ) (new : Region) (rs : List Region) → IsSome (region_at m (with_region new rs)) → (m ≡ new.number) ⊎ IsSome (region_at m rs)
at_with m new [] h = go (new.number == m) refl h
  where
    go : (b : Bool) → (new.number == m) ≡ b → IsSome (cond b (Some new) None) → (m ≡ new.number) ⊎ IsSome (region_at m [])
    go true e h = inl (sym (equal new.number m e))
    go false e h = inr h
at_with m new (r ∷ rs) h = place (at_with m new rs) (nat_lt new.number r.number) h
  where
    first : (b : Bool) → (new.number == m) ≡ b → IsSome (cond b (Some new) (region_at m (r ∷ rs))) → (m ≡ new.number) ⊎ IsSome (region_at m (r ∷ rs))
    first true e h = inl (sym (equal new.number m e))
    first false e h = inr h

    own : (IsSome (region_at m (with_region new rs)) → (m ≡ new.number) ⊎ IsSome (region_at m rs)) → (c : Bool) → IsSome (cond c (Some r) (region_at m (with_region new rs))) → (m ≡ new.number) ⊎ IsSome (cond c (Some r) (region_at m rs))
    own rest true h = inr h
    own rest false h = rest h

    place : (IsSome (region_at m (with_region new rs)) → (m ≡ new.number) ⊎ IsSome (region_at m rs)) → (a : Bool) → IsSome (region_at m (cond a (new ∷ r ∷ rs) (r ∷ with_region new rs))) → (m ≡ new.number) ⊎ IsSome (region_at m (r ∷ rs))
    place rest true h = first (new.number == m) refl h
    place rest false h = own rest (r.number == m) h

-- a region that is open after one was left was open before
at_without : (m number : ℕ) (rs : List Region) → IsSome (region_at m (without_region number rs)) → IsSome (region_at m rs)
at_without m number [] h = h
at_without m number (r ∷ rs) h = place (at_without m number rs) (not (r.number == number)) h
  where
    kept : (IsSome (region_at m (without_region number rs)) → IsSome (region_at m rs)) → (c : Bool) → IsSome (cond c (Some r) (region_at m (without_region number rs))) → IsSome (cond c (Some r) (region_at m rs))
    kept rest true h = h
    kept rest false h = rest h

    passed : (IsSome (region_at m (without_region number rs)) → IsSome (region_at m rs)) → (c : Bool) → IsSome (region_at m (without_region number rs)) → IsSome (cond c (Some r) (region_at m rs))
    passed rest true h = let yes : true ≡ true = refl in yes
    passed rest false h = rest h

    place : (IsSome (region_at m (without_region number rs)) → IsSome (region_at m rs)) → (a : Bool) → IsSome (region_at m (cond a (r ∷ without_region number rs) (without_region number rs))) → IsSome (region_at m (r ∷ rs))
    place rest true h = kept rest (r.number == m) h
    place rest false h = passed rest (r.number == m) h

-- so of an event
at_after : (l : Limits) (e : Event) (lay : Layout) (m : ℕ) → NamesRight l e lay → IsSome (region_at m (register_after e lay.register).regions) → ((m ≡ lay.register.next) × ((register_after e lay.register).next ≡ lay.register.next + 1)) ⊎ IsSome (region_at m lay.register.regions)
at_after l (Entered device number items did) lay m names h = elim (at_with m (record { number = number; holdings = holdings_of items did }) lay.register.regions h) [ inl new ↦ inl (new ∙ names, refl) | inr old ↦ inr old ]
at_after l (Left device number did) lay m names h = inr (at_without m number lay.register.regions h)
at_after l (Lent device region section block serial) lay m names h = inr h
at_after l _ lay m names h = inr h

-- ---- all devices

-- no region is open on two devices, and each that is open is below the next one
pub record AreRegionsApart (w : WholeLayout) : Type 0 where
  pub apart : (number d k : ℕ) → IsSome (region_at number (layout_in d w).register.regions) → IsSome (region_at number (layout_in k w).register.regions) → d ≡ k
  pub known : (number d : ℕ) → IsSome (region_at number (layout_in d w).register.regions) → number < w.next

-- a region that is open after an event is the one that was entered, or was open before
was_open : (l : Limits) (e : Event) (w : WholeLayout) (number d : ℕ) → IsLegalOn l e w → IsSome (region_at number (layout_in d (walk_on e w)).register.regions)
    → ((d ≡ device_in e) × (number ≡ w.next) × ((walk_on e w).next ≡ w.next + 1)) ⊎ IsSome (region_at number (layout_in d w).register.regions)
unfolding walk
was_open l e w number d legal h = go (d == device_in e) refl
  where
    k : ℕ
    k = device_in e

    lay : Layout
    lay = layout_in k w

    now : Layout
    now = walk e lay

    go : (b : Bool) → (d == k) ≡ b → ((d ≡ k) × (number ≡ w.next) × ((walk_on e w).next ≡ w.next + 1)) ⊎ IsSome (region_at number (layout_in d w).register.regions)
    go true same =
        let is : d ≡ k = equal d k same in
        let own : layout_in d (walk_on e w) ≡ now = ap (λ n. layout_in n (walk_on e w)) is ∙ layout-own k now w legal.there in
        let here : IsSome (region_at number (register_after e lay.register).regions) = subst (λ (x : Layout). IsSome (region_at number x.register.regions)) own h in
        elim (at_after (limits_on k l) e lay number legal.legal.names here) [
          | inl new ↦ inl (is, new.0, new.1)
          | inr old ↦ inr (subst (λ n. IsSome (region_at number (layout_in n w).register.regions)) (sym is) old)
        ]
    go false other =
        let same = layout-other k d now w (differ d k other) in
        inr (subst (λ (x : Layout). IsSome (region_at number x.register.regions)) same h)

-- numbers rise
next_rises : (e : Event) (w : WholeLayout) → w.next ≤ (walk_on e w).next
unfolding walk
next_rises e w = go e (layout_in (device_in e) w).register
  where
    go : (e : Event) (g : Register) → g.next ≤ (register_after e g).next
    go (Entered device number items did) g = omega arith
    go (Left device number did) g = omega arith
    go (Lent device region section block serial) g = omega arith
    go _ g = omega arith

apart_after : (l : Limits) (e : Event) (w : WholeLayout) → IsLegalOn l e w → AreRegionsApart w → AreRegionsApart (walk_on e w)
apart_after l e w legal h = record { apart = apart; known = known }
  where
    apart : (number d k : ℕ) → IsSome (region_at number (layout_in d (walk_on e w)).register.regions) → IsSome (region_at number (layout_in k (walk_on e w)).register.regions) → d ≡ k
    apart number d k x y = elim (was_open l e w number d legal x) [
      | inl new ↦ elim (was_open l e w number k legal y) [
        | inl too ↦ new.0 ∙ sym too.0
        | inr old ↦ absurd (let low : number < w.next = h.known number k old in omega (arith, low, new.1))
      ]
      | inr old ↦ elim (was_open l e w number k legal y) [
        | inl new ↦ absurd (let low : number < w.next = h.known number d old in omega (arith, low, new.1))
        | inr too ↦ h.apart number d k old too
      ]
    ]

    known : (number d : ℕ) → IsSome (region_at number (layout_in d (walk_on e w)).register.regions) → number < (walk_on e w).next
    known number d x = elim (was_open l e w number d legal x) [
      | inl new ↦ omega (arith, new.1, new.2)
      | inr old ↦ omega (arith, h.known number d old, next_rises e w)
    ]

apart_all : (l : Limits) (events : List Event) (w : WholeLayout) → AreLegal l events w → AreRegionsApart w → AreRegionsApart (walk_all_on events w)
unfolding walk_all_on
apart_all l [] w legal h = h
apart_all l (e ∷ events) w legal h = apart_all l events (walk_on e w) legal.1 (apart_after l e w legal.0 h)

apart_new : (count : ℕ) → AreRegionsApart (new_whole_layout count)
apart_new count = record { apart = λ number d k x y. none number d x; known = λ number d x. none number d x }
  where
    none : {P : Type 0} (number d : ℕ) → IsSome (region_at number (layout_in d (new_whole_layout count)).register.regions) → P
    none number d x = nothing_open (subst (λ (lay : Layout). IsSome (region_at number lay.register.regions)) (new_is count d) x)

-- so on the devices of every table
pub apart_world : (w : World) → IsAccounted w → AreRegionsApart (whole_layout_of w.state)
apart_world w h =
    let legal = h.history_legal in
    let founded = apart_all w.limits legal.founded.events (new_whole_layout w.limits.devices) legal.founded.legal (apart_new w.limits.devices) in
    let base : AreRegionsApart (whole_layout_of w.history.base.state) = subst AreRegionsApart legal.founded.leads founded in
    subst AreRegionsApart legal.leads (apart_all w.limits w.history.trace (whole_layout_of w.history.base.state) legal.legal base)

open_device_layout : (number d : ℕ) (w : Whole) → IsOpenOn number d w → IsSome (region_at number (layout_in d (whole_layout_of w)).register.regions)
open_device_layout number d w h = subst (λ (lay : Layout). IsSome (region_at number lay.register.regions)) (sym (layout-view d w)) h

-- a region is open on the device where it is found, and on no other
pub region_placed : (w : World) → IsAccounted w → (number d : ℕ) → IsOpenOn number d w.state → d ≡ device_of_region number w.state
region_placed w h number d here = go (nat_lt d (length w.state.devices)) refl
  where
    p : ℕ → Bool
    p k = is_some (region_at number (device_at k w.state.devices).regions)

    before : (k : ℕ) → k < d → (b : Bool) → p k ≡ b → p k ≡ false
    before k lt false e = e
    before k lt true e = absurd (let same : k ≡ d = (apart_world w h).apart number k d (open_device_layout number k w.state e) (open_device_layout number d w.state here) in omega (arith, same, lt))

    go : (b : Bool) → nat_lt d (length w.state.devices) ≡ b → d ≡ device_of_region number w.state
    go true e = let there : d < length w.state.devices = grind (arith, nat_tests) in region_found number d w.state there (λ k lt. before k lt (p k) refl) here
    go false e = let high : length w.state.devices ≤ d = grind (arith, nat_tests) in nothing_open (subst (λ (x : OneDevice). IsSome (region_at number x.regions)) (device_beyond d w.state.devices high) here)

-- ---- the region that was entered last

stands_first : (r : Region) (rs : List Region) → IsSome (region_at r.number (r ∷ rs))
stands_first r rs = subst (λ b. IsSome (cond b (Some r) (region_at r.number rs))) (sym (equal_self r.number)) (let yes : true ≡ true = refl in yes)

-- no region of the list has a greater number than that which stands last
newest_most : (rs : List Region) → EachPair (λ (r : Region) (t : Region). r.number < t.number) rs → (n : ℕ) → newest_region rs ≡ Some n → (m : ℕ) → IsSome (region_at m rs) → m ≤ n
newest_most [] h n is m here = absurd cc
newest_most (r ∷ []) h n is m here = go (r.number == m) refl here
  where
    last : r.number ≡ n
    last = cc

    go : (b : Bool) → (r.number == m) ≡ b → IsSome (cond b (Some r) None) → m ≤ n
    go true e x = omega (arith, equal r.number m e, last)
    go false e x = nothing_open x
newest_most (r ∷ s ∷ rs) h n is m here = go (newest_most (s ∷ rs) h.1 n is) (r.number == m) refl here
  where
    go : ((k : ℕ) → IsSome (region_at k (s ∷ rs)) → k ≤ n) → (b : Bool) → (r.number == m) ≡ b → IsSome (cond b (Some r) (region_at m (s ∷ rs))) → m ≤ n
    go rest true e x =
        let above : s.number ≤ n = rest s.number (stands_first s rs) in
        let below : r.number < s.number = h.0.0 in
        omega (arith, equal r.number m e, above, below)
    go rest false e x = rest m x

newest_there : (rs : List Region) (n : ℕ) → newest_region rs ≡ Some n → IsSome (region_at n rs)
newest_there [] n is = absurd cc
newest_there (r ∷ []) n is = let last : r.number ≡ n = cc in subst (λ m. IsSome (region_at m (r ∷ []))) last (stands_first r [])
newest_there (r ∷ s ∷ rs) n is = go (newest_there (s ∷ rs) n is) (r.number == n)
  where
    go : IsSome (region_at n (s ∷ rs)) → (b : Bool) → IsSome (cond b (Some r) (region_at n (s ∷ rs)))
    go rest true = let yes : true ≡ true = refl in yes
    go rest false = rest

newest_none : {P : Type 0} (rs : List Region) (m : ℕ) → newest_region rs ≡ None → IsSome (region_at m rs) → P
newest_none [] m is here = nothing_open here
newest_none (r ∷ []) m is here = absurd cc
newest_none (r ∷ s ∷ rs) m is here = newest_none (s ∷ rs) s.number is (stands_first s rs)

-- ---- of all devices

-- a region of the number is open on a device of the list
abbrev IsOpenIn : ℕ → ℕ → List OneDevice → Type 0
IsOpenIn number d devices = IsSome (region_at number (device_at d devices).regions)

abbrev IsLastIn : List OneDevice → Option ℕ → Type 0
IsLastIn devices None = (d number : ℕ) → IsOpenIn number d devices → ⊥
IsLastIn devices (Some n) = ((d : ℕ) × IsOpenIn n d devices) × ((d number : ℕ) → IsOpenIn number d devices → number ≤ n)

-- what holds of the regions of the first device and of those of the others holds of all
each_open : (P : ℕ → Type 0) (x : OneDevice) (devices : List OneDevice) → ((number : ℕ) → IsSome (region_at number x.regions) → P number) → ((d number : ℕ) → IsOpenIn number d devices → P number) → (d number : ℕ) → IsOpenIn number d (x ∷ devices) → P number
each_open P x devices own others zero number h = own number h
each_open P x devices own others (suc d) number h = others d number h

last_in : (devices : List OneDevice) → ((d : ℕ) → EachPair (λ (r : Region) (t : Region). r.number < t.number) (device_at d devices).regions) → IsLastIn devices (newest_of devices)
last_in [] rising = λ d number h. nothing_open h
last_in (x ∷ devices) rising = go (newest_region x.regions) (newest_of devices) refl (last_in devices (λ d. rising (suc d)))
  where
    either : (m n : ℕ) → IsSome (region_at m x.regions) → ((d : ℕ) × IsOpenIn n d devices) → (b : Bool) → nat_le m n ≡ b → (d : ℕ) × IsOpenIn (max m n) d (x ∷ devices)
    either m n own other true e =
        let most : n ≡ max m n = (let le : m ≤ n = grind (arith, nat_tests) in omega arith) in
        (suc other.0, subst (λ k. IsOpenIn k other.0 devices) most other.1)
    either m n own other false e =
        let most : m ≡ max m n = (let lt : n < m = grind (arith, nat_tests) in omega arith) in
        (0, subst (λ k. IsSome (region_at k x.regions)) most own)

    go : (o q : Option ℕ) → newest_region x.regions ≡ o → IsLastIn devices q → IsLastIn (x ∷ devices) (later o q)
    go None None e h = each_open (λ number. ⊥) x devices (λ number own. newest_none x.regions number e own) h
    go None (Some n) e h = ((suc h.0.0, h.0.1), each_open (λ number. number ≤ n) x devices (λ number own. newest_none x.regions number e own) h.1)
    go (Some m) None e h = ((0, newest_there x.regions m e), each_open (λ number. number ≤ m) x devices (λ number own. newest_most x.regions (rising 0) m e number own) (λ d number other. absurd (h d number other)))
    go (Some m) (Some n) e h = (
      either m n (newest_there x.regions m e) h.0 (nat_le m n) refl,
      each_open (λ number. number ≤ max m n) x devices
          (λ number own. let le : number ≤ m = newest_most x.regions (rising 0) m e number own in omega arith)
          (λ d number other. let le : number ≤ n = h.1 d number other in omega arith),
    )

rising_on : (w : World) → IsAccounted w → (d : ℕ) → EachPair (λ (r : Region) (t : Region). r.number < t.number) (device_at d w.state.devices).regions
rising_on w h d = go (nat_lt d w.limits.devices) refl
  where
    go : (b : Bool) → nat_lt d w.limits.devices ≡ b → EachPair (λ (r : Region) (t : Region). r.number < t.number) (device_at d w.state.devices).regions
    go true e = let there : d < w.limits.devices = grind (arith, nat_tests) in (h.devices d there).sound.layout.register.rising
    go false e =
        let high : w.limits.devices ≤ d = grind (arith, nat_tests) in
        subst (λ (x : OneDevice). EachPair (λ (r : Region) (t : Region). r.number < t.number) x.regions) (sym (device_beyond d w.state.devices (omega (arith, high, h.as_many)))) tt

-- the open region that was entered last on all devices has the greatest number
pub last_entered : (w : World) → IsAccounted w → IsLastEntered w.state (newest_of w.state.devices)
last_entered w h = go (newest_of w.state.devices) (last_in w.state.devices (rising_on w h))
  where
    go : (o : Option ℕ) → IsLastIn w.state.devices o → IsLastEntered w.state o
    go None x = x
    go (Some n) x = (subst (λ d. IsOpenIn n d w.state.devices) (region_placed w h n x.0.0 x.0.1) x.0.1, x.1)
