use Rattle.std.proofs.Common.{refl}
use Rattle.acc_base.specs.Devices.{device_in, view}
use Rattle.acc_stale.proofs.Leaving.{on_ok_two, event_told, entered_told, left_told, waited_told, stepped_told, plain_told, plain_of}
use Rattle.acc_stale.proofs.trackers.Tracker.seen.Goals as goal

pub returns-in_ok-open-in-Entered-clause-told : goal.returns-in_ok-open-in-Entered-clause-told
returns-in_ok-open-in-Entered-clause-told g c l w ev follows =
    let e = c.args.event.now in
    event_told e w c.args.self.now _ ev.there follows
    (entered_told l e c.in-Entered.device c.in-Entered.number c.in-Entered.items c.in-Entered.did (view (device_in e) w) c.args.self.now c.items.new.self (record { known = c.items.new.self.known; account = c.open.new.self }) c.in-Entered.is ev.event (follows (device_in e)) c.in_ok-items.ensures.acted c.in_ok-items.ensures.others c.in_ok-items.ensures.regions refl c.in_ok-open-in-Entered.ensures.ok)

pub returns-in-Left-clause-told : goal.returns-in-Left-clause-told
returns-in-Left-clause-told g c l w ev follows =
    let e = c.args.event.now in
    event_told e w c.args.self.now _ ev.there follows
    (left_told l e c.in-Left.device c.in-Left.number c.in-Left.did (view (device_in e) w) c.args.self.now c.items.new.self (record { known = c.items.new.self.known; account = c.close.new.self }) c.in-Left.is ev.event (follows (device_in e)) c.in_ok-items.ensures.acted c.in_ok-items.ensures.others c.in_ok-items.ensures.regions refl c.close.ensures.closed)

pub returns-in-Waited-clause-told : goal.returns-in-Waited-clause-told
returns-in-Waited-clause-told g c = on_ok_two c.waited.result (λ made others l w ev follows.
    let e = c.args.event.now in
    event_told e w c.args.self.now c.waited.new.self ev.there follows
    (waited_told l e c.in-Waited.device c.in-Waited.count c.in-Waited.queue (view (device_in e) w) c.args.self.now c.items.new.self c.waited.new.self c.in-Waited.is ev.event (follows (device_in e)) c.in_ok-items.ensures.acted c.in_ok-items.ensures.others c.in_ok-items.ensures.regions made others c.waited.ensures.regions)) c.waited.ensures.drained c.waited.ensures.others

pub returns-in-Stepped-clause-told : goal.returns-in-Stepped-clause-told
returns-in-Stepped-clause-told g c = on_ok_two c.made.result (λ made others l w ev follows.
    let e = c.args.event.now in
    event_told e w c.args.self.now c.made.new.self ev.there follows
    (stepped_told l e c.in-Stepped.device c.in-Stepped.queue c.in-Stepped.block (view (device_in e) w) c.args.self.now c.items.new.self c.made.new.self c.in-Stepped.is ev.event (follows (device_in e)) c.in_ok-items.ensures.acted c.in_ok-items.ensures.others c.in_ok-items.ensures.regions made others c.made.ensures.regions)) c.made.ensures.drained c.made.ensures.others

pub returns-in_default : goal.returns-in_default
returns-in_default g c = record {
  told = λ l w ev follows.
      let e = c.args.event.now in
      event_told e w c.args.self.now c.items.new.self ev.there follows
      (plain_told l e (view (device_in e) w) c.args.self.now c.items.new.self (plain_of e c.in_default.not-Entered c.in_default.not-Left c.in_default.not-Waited c.in_default.not-Stepped) ev.event (follows (device_in e)) c.in_ok-items.ensures.acted c.in_ok-items.ensures.others c.in_ok-items.ensures.regions);
  only = tt;
}
