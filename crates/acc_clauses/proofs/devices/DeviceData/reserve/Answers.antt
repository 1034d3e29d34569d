use Rattle.std.proofs.Common.{◌≡◌, ◌∙◌, ◌≤◌, length, OnOk, sym, ap, subst, arith}
use Rattle.std.specs.List.{All}
use Rattle.acc_base.specs.declared.addresses.TheConstants.{MEMORY_MAX}
use Rattle.acc_base.specs.Limits.{IsFromOne}
use Rattle.acc_present.specs.Queued.{spare_at}
use Rattle.acc_clauses.specs.Overlays.{dids_in, puts_in}
use Rattle.acc_clauses.specs.Contents.{Contents}
use Rattle.acc_clauses.specs.Devices.{DeviceContents, contents_with}
use Rattle.acc_clauses.specs.Planned.{Planned, IsPlanOf, holdings_by}
use Rattle.acc_clauses.specs.Acts.{HasRoomFor, HasPutRoom, pointers_in}
use Rattle.acc_clauses.proofs.Asking.{asked_with}
use Rattle.acc_clauses.proofs.Events.{planned_judged}
use Rattle.acc_clauses.proofs.Remaining.{lens_fit}
use Rattle.acc_clauses.proofs.Reserved.{none_room, one_room, room_made}
use Rattle.acc_clauses.proofs.devices.DeviceData.reserve.Goals as goal
use Rattle.acc_clauses.proofs.devices.DeviceData.reserve.Goals.{in-Some+in_ok-reserve_puts-in-Some, in-None}

pub reserve_parts-requires-clause-lens : goal.reserve_parts-requires-clause-lens
reserve_parts-requires-clause-lens c =
    let p = c.args.plan.now in
    let k : Contents = contents_with c.args.self.now c.requires.planned.0 in
    let planned : IsPlanOf k.limits c.args.directive.now k.state p = c.requires.planned.1.1 in
    subst (λ ls. All (IsFromOne MEMORY_MAX) ls) (sym c.lens.ensures.lens) (lens_fit k.limits 0 p.tasks p.dids k.state.records c.laws.ensures.limits (planned_judged k.limits c.args.directive.now k.state p planned))

pub count_holdings-holdings-requires : goal.count_holdings-holdings-requires
count_holdings-holdings-requires c =
    let k : Contents = contents_with c.args.self.now c.requires.planned.0 in
    let planned : IsPlanOf k.limits c.args.directive.now k.state c.args.plan.now = c.requires.planned.1.1 in
    let asked = asked_with c.args.directive.now k.state.register c.args.plan.now.tasks planned.asked in
    record { asked = (asked.holdings, asked.are ∙ sym c.acts-acts.ensures.tasks) }

pub reserve_puts-requires-clause-known : goal.reserve_puts-requires-clause-known
reserve_puts-requires-clause-known c = grind (arith)

pub returns-clause-room : goal.returns-clause-room
returns-clause-room c =
    let k : Contents = contents_with c.args.self.now c.requires.planned.0 in
    let d = c.args.directive.now in
    let p = c.args.plan.now in
    let room = c.reserve_parts.new.self.room in
    let acts = c.acts-acts.result.now in
    let planned : IsPlanOf k.limits d k.state p = c.requires.planned.1.1 in
    let puts : HasPutRoom (λ q. puts_in q p.tasks p.dids) room = elim c.match-queue.branch [
      | in-Some+in_ok-reserve_puts-in-Some w ↦
          let q = w.in-Some.q in
          let count : w.puts_in.result ≡ puts_in q p.tasks p.dids = w.puts_in.ensures.value ∙ ap (λ ts. puts_in q ts (dids_in acts)) c.acts-acts.ensures.tasks ∙ ap (λ ds. puts_in q p.tasks ds) c.acts-acts.ensures.dids in
          let kept : room.puts ≡ w.reserve_puts.new.self.room.puts = c.reserve_parts.ensures.puts ∙ ap (λ (x : DeviceContents). x.room.puts) w.self-is in
          one_room d k p q room c.requires.planned.1.0 planned (sym planned.queued ∙ sym c.queue.ensures ∙ w.in-Some.is)
          (subst (λ ps. puts_in q p.tasks p.dids ≤ spare_at q ps) (sym kept) (subst (λ n. n ≤ spare_at q w.reserve_puts.new.self.room.puts) count w.in_ok-reserve_puts-in-Some.ensures.room))
      | in-None w ↦ none_room d k p room c.requires.planned.1.0 planned (sym planned.queued ∙ sym c.queue.ensures ∙ w.in-None.is)
    ] in
    let count : c.count_holdings-holdings.result ≡ length (holdings_by p.tasks p.dids) = c.count_holdings-holdings.ensures ∙ ap (λ ts. length (holdings_by ts (dids_in acts))) c.acts-acts.ensures.tasks ∙ ap (λ ds. length (holdings_by p.tasks ds)) c.acts-acts.ensures.dids in
    room_made c.reserve_parts.result d p room
    (subst (λ ls. OnOk c.reserve_parts.result (HasRoomFor ls room)) c.lens.ensures.lens c.reserve_parts.ensures.room)
    (rw (← c.regions_entered-regions.ensures, ← count) c.reserve_parts.ensures.room_region)
    (subst (λ n. OnOk c.reserve_parts.result (n ≤ room.attachments)) (c.pointers.ensures ∙ ap (λ (y : Planned). pointers_in y.dids) c.plan.view_is) c.reserve_parts.ensures.room_pointers) puts
