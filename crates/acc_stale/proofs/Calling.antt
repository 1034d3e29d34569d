-- What a table makes of a call that it accepts is an event that an account can be told.
use Rattle.std.proofs.Common.{◌≡◌, ◌<◌, Bool, true, Ok, sym, ap, subst, ◌∙◌, arith}
use Rattle.acc_base.specs.declared.calls.Call.{Call}
use Rattle.acc_base.specs.declared.events.Event.{Event}
use Rattle.acc_base.specs.Limits.{limits_on, IsWithinBounds}
use Rattle.acc_base.specs.Loans.{Leased}
use Rattle.acc_base.specs.Devices.{Whole, device_in, after_told, after_on}
use Rattle.acc_base.specs.Calls.{World, bytes_brought, judge, world_after}
use Rattle.acc_base.specs.Judge.{Makes}
use Rattle.acc_base.specs.Accounts.{IsAccounted, IsAccountedOn}
use Rattle.acc_base.proofs.Accepted.{IsAccepted, accepted}
use Rattle.acc_base.proofs.Accounted.{sound_on}
use Rattle.acc_base.proofs.OnDevices.{bounds_on}
use Rattle.acc_stale.specs.declared.accounts.Account.{Account}
use Rattle.acc_stale.specs.Follows.{FollowsWhole, IsEventOf}

-- in a world that is accounted for
pub event_of : (w : World) (call : Call Leased) (e : Event) → IsWithinBounds w.limits → IsAccounted w → judge w call ≡ Ok (Makes e) → IsEventOf (limits_on (device_in e) w.limits) e w.state
event_of w call e bounds accounted judged =
    let ok : IsAccepted w (bytes_brought call) e = accepted w call e bounds accounted.as_many (sound_on w accounted) judged in
    let there : device_in e < w.limits.devices = omega (arith, ok.there, accounted.as_many) in
    let on : IsAccountedOn w.limits w.history (device_in e) w.state = accounted.devices (device_in e) there in
    record {
      there = ok.there;
      event = record {
        bounds = bounds_on (device_in e) w.limits there bounds;
        sound = on.sound.layout.records;
        register = on.sound.layout.register;
        names = ok.legal.names;
        made = ok.made;
      };
    }

-- with full traces an account that follows the event follows the call
pub followed : (w : World) (call : Call Leased) (e : Event) (a : Account) → IsWithinBounds w.limits → IsAccounted w → judge w call ≡ Ok (Makes e) → w.limits.full ≡ true → FollowsWhole a (after_told e w.state) → FollowsWhole a (world_after call e w).state
unfolding world_after
followed w call e a bounds accounted judged full follows =
    let ok : IsAccepted w (bytes_brought call) e = accepted w call e bounds accounted.as_many (sound_on w accounted) judged in
    let same : after_told e w.state ≡ after_on w.limits.full e (bytes_brought call) w.state = ap (λ bytes. after_on true e bytes w.state) (ok.told full) ∙ ap (λ (b : Bool). after_on b e (bytes_brought call) w.state) (sym full) in
    subst (λ (v : Whole). FollowsWhole a v) same follows
