-- A device has what its own events alone lead to: whatever happens on other devices changes nothing of it.
use Rattle.std.proofs.Common.{ℕ, ◌≡◌, refl, sym, ◌∙◌, ap, subst, Bool, true, false, List, [], ◌∷◌}
use Rattle.std.specs.Prelude.{◌==◌}
use Rattle.acc_base.specs.Words.{Event}
use Rattle.acc_base.specs.declared.events.Event.TheVariants.{Entered, Left, Lent}
use Rattle.acc_base.specs.Limits.{Limits}
use Rattle.acc_base.specs.Records.{Layout}
use Rattle.acc_base.specs.Walk.{walk}
use Rattle.acc_base.specs.Devices.{Whole, DeviceLayout, WholeLayout, new_device, new_device_layout, new_whole_layout, device_layout_of, whole_layout_of, device_at, device_layout_at, layout_in, device_in, events_on, walk_on, walk_all_on, device_layout_left, device_layout_alone}
use Rattle.acc_base.specs.Calls.{History}
use Rattle.acc_base.specs.History.{AreLegal}
use Rattle.acc_base.specs.Accounts.{IsHistoryLegal}
use Rattle.acc_base.proofs.Results.{equal, differ}
use Rattle.acc_base.proofs.Views.{layout-own, layout-other, at-map}
use Rattle.acc_base.proofs.OnDevices.{events-own, events-other, new_at}

abbrev device_layout_in : Layout → DeviceLayout
device_layout_in lay = record { records = lay.records; regions = lay.register.regions }

-- the walk of an event reads no number of the register
left_is : (e : Event) (lay : Layout) → device_layout_in (walk e lay) ≡ device_layout_left (device_layout_in lay) e
unfolding walk
left_is (Entered device number items did) lay = refl
left_is (Left device number did) lay = refl
left_is (Lent device region section block serial) lay = refl
left_is _ lay = refl

-- events of all devices leave of one what its own leave
pub alone_all : (l : Limits) (events : List Event) (w : WholeLayout) (d : ℕ) → AreLegal l events w → device_layout_at d (walk_all_on events w).devices ≡ device_layout_alone (device_layout_at d w.devices) (events_on d events)
unfolding walk_all_on
alone_all l [] w d legal = refl
alone_all l (e ∷ events) w d legal = go (alone_all l events (walk_on e w) d legal.1) (device_in e == d) refl
  where
    k : ℕ
    k = device_in e

    after : Layout
    after = walk e (layout_in k w)

    go : device_layout_at d (walk_all_on events (walk_on e w)).devices ≡ device_layout_alone (device_layout_at d (walk_on e w).devices) (events_on d events)
        → (b : Bool) → (k == d) ≡ b → device_layout_at d (walk_all_on events (walk_on e w)).devices ≡ device_layout_alone (device_layout_at d w.devices) (events_on d (e ∷ events))
    go rest true same =
        let own : device_layout_at k (walk_on e w).devices ≡ device_layout_left (device_layout_at k w.devices) e = ap device_layout_in (layout-own k after w legal.0.there) ∙ left_is e (layout_in k w) in
        let first : device_layout_at d (walk_on e w).devices ≡ device_layout_left (device_layout_at d w.devices) e = subst (λ n. device_layout_at n (walk_on e w).devices ≡ device_layout_left (device_layout_at n w.devices) e) (equal k d same) own in
        rest ∙ (ap (λ x. device_layout_alone x (events_on d events)) first ∙ sym (ap (device_layout_alone (device_layout_at d w.devices)) (events-own d e events same)))
    go rest false same =
        let first : device_layout_at d (walk_on e w).devices ≡ device_layout_at d w.devices = ap device_layout_in (layout-other k d after w (λ own. differ k d same (sym own))) in
        rest ∙ (ap (λ x. device_layout_alone x (events_on d events)) first ∙ sym (ap (device_layout_alone (device_layout_at d w.devices)) (events-other d e events same)))

-- so does a legal history, from its base on
pub legal_alone : (l : Limits) (h : History) (w : WholeLayout) (d : ℕ) → IsHistoryLegal l h w → device_layout_at d w.devices ≡ device_layout_alone (device_layout_at d (whole_layout_of h.base.state).devices) (events_on d h.trace)
legal_alone l h w d history = subst (λ (v : WholeLayout). device_layout_at d v.devices ≡ device_layout_alone (device_layout_at d (whole_layout_of h.base.state).devices) (events_on d h.trace)) history.leads (alone_all l h.trace (whole_layout_of h.base.state) d history.legal)

-- in the words of the devices with bytes
pub device_alone : (l : Limits) (h : History) (w : Whole) (d : ℕ) → IsHistoryLegal l h (whole_layout_of w) → device_layout_of (device_at d w.devices) ≡ device_layout_alone (device_layout_of (device_at d h.base.state.devices)) (events_on d h.trace)
device_alone l h w d history =
    sym (at-map device_layout_of w.devices d new_device) ∙ (legal_alone l h (whole_layout_of w) d history ∙ ap (λ x. device_layout_alone x (events_on d h.trace)) (at-map device_layout_of h.base.state.devices d new_device))

-- and events that found a base, from a new table on
pub founded_alone : (l : Limits) (events : List Event) (state : Whole) (d : ℕ) → AreLegal l events (new_whole_layout l.devices) → walk_all_on events (new_whole_layout l.devices) ≡ whole_layout_of state → device_layout_of (device_at d state.devices) ≡ device_layout_alone new_device_layout (events_on d events)
founded_alone l events state d legal leads =
    sym (at-map device_layout_of state.devices d new_device)
    ∙ (sym (ap (λ (v : WholeLayout). device_layout_at d v.devices) leads)
    ∙ (alone_all l events (new_whole_layout l.devices) d legal ∙ ap (λ x. device_layout_alone x (events_on d events)) (new_at l.devices d new_device_layout)))
