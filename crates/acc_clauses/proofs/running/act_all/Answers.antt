use Rattle.std.proofs.Common.{◌<◌, ◌∙◌, refl, sym, ap, arith, length}
use Rattle.std.proofs.lemmas.List.{drop_more}
use Rattle.acc_base.specs.Limits.{Limits}
use Rattle.acc_clauses.specs.Contents.{Contents, bare_numbers}
use Rattle.acc_clauses.specs.Devices.{state_beside, contents_beside}
use Rattle.acc_clauses.proofs.Remaining.{first_judged, first_room, first_pointers, first_puts, rest_can, births_next, rest_state, rest_done, turn_can}
use Rattle.acc_clauses.proofs.running.act_all.Goals as goal

pub loop-n-init : goal.loop-n-init
loop-n-init c = record {
  host = refl;
  can = record { limits = refl; item = 0; judged = c.requires.judged; known = c.requires.known; room = c.requires.room; pointers = c.requires.pointers; puts = c.requires.puts };
  births = omega arith;
  rest = λ next. refl;
  regions = omega arith;
  holdings = omega arith;
}

pub act-requires-clause-host : goal.act-requires-clause-host
act-requires-clause-host c = c.loop-n.invariant.host ∙ c.requires.host ∙ ap (λ (l : Limits). l.host) (sym c.loop-n.invariant.can.limits)

pub act-requires-clause-judged : goal.act-requires-clause-judged
act-requires-clause-judged c = first_judged _ _ _ _ _ _ (turn_can _ c.args.acts.now c.loop-n.n _ _ (omega arith) c.loop-n.invariant.can)

pub act-requires-clause-known : goal.act-requires-clause-known
act-requires-clause-known c = (turn_can _ c.args.acts.now c.loop-n.n _ _ (omega arith) c.loop-n.invariant.can).known.0

pub act-requires-clause-room : goal.act-requires-clause-room
act-requires-clause-room c = first_room _ _ _ _ _ _ (turn_can _ c.args.acts.now c.loop-n.n _ _ (omega arith) c.loop-n.invariant.can)

pub act-requires-clause-pointers : goal.act-requires-clause-pointers
act-requires-clause-pointers c = first_pointers _ _ _ _ _ _ (turn_can _ c.args.acts.now c.loop-n.n _ _ (omega arith) c.loop-n.invariant.can)

pub act-requires-clause-puts : goal.act-requires-clause-puts
act-requires-clause-puts c = first_puts _ _ _ _ _ _ (turn_can _ c.args.acts.now c.loop-n.n _ _ (omega arith) c.loop-n.invariant.can)

pub loop-n-preserved : goal.loop-n-preserved
loop-n-preserved c =
    let within : c.loop-n.n < length c.args.acts.now = omega arith in
    let cons = drop_more c.args.acts.now c.loop-n.n _ within in
    let can = rw cons at c.loop-n.invariant.can in
    let old : Contents = contents_beside c.loop-n.device c.loop-n.host bare_numbers in
    let new : Contents = contents_beside c.act.new.self c.act.new.host bare_numbers in
    let births = births_next _ _ old new (c.act.ensures.state bare_numbers) in
    record {
      host = c.act.ensures.host ∙ c.loop-n.invariant.host;
      can = rest_can _ _ _ _ _ old new can c.act.ensures.limits (c.act.ensures.state bare_numbers) c.act.ensures.room;
      births = omega (arith, births, c.loop-n.invariant.births);
      rest = λ next. rest_state _ _ _ _ _ _ _ (c.act.ensures.state next) (rw cons at (c.loop-n.invariant.rest next));
      regions = omega (arith, c.loop-n.invariant.regions, c.act.ensures.room.regions);
      holdings = omega (arith, c.loop-n.invariant.holdings, c.act.ensures.room.holdings);
    }

pub returns-clause-state : goal.returns-clause-state
returns-clause-state c = λ next. rest_done c.args.acts.now c.loop-n.n (state_beside c.loop-n.device.device c.loop-n.host next) _ (omega arith) (c.loop-n.invariant.rest next)
