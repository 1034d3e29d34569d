use Rattle.std.proofs.Common.{rules, arith, ◌*◌, ap, vec_len, Some, ◌≡◌, ◌+◌, sym, ◌∙◌, map, sum_by}
use Rattle.std.specs.Option.{option_or}
use Rattle.std.proofs.lemmas.List.Elements.{All-pop}
use Rattle.std.proofs.lemmas.List.Sums.{sum_by_push}
use Rattle.acc_runtime.specs.Drills.{IsWorked, first_fault}
use Rattle.acc_runtime.proofs.Faults.{first_behind, or_none_both, stopped_with}
use Rattle.acc_runtime.proofs.drilling.merge_all.Goals as goal

pub loop-worker-preserved : goal.loop-worker-preserved
loop-worker-preserved g c =
    let inv = c.loop-worker.invariant in
    let left = c.merge.ensures.sum in
    let allowance = ap (λ p. p.allowance) left in
    let tickets = ap (λ p. p.tickets) left in
    let made = ap (λ p. p.made) left in
    let items = c.in-Some.ensures.items in
    let both = All-pop (λ w. IsWorked c.args.rounds w.caller w.fault) _ _ (Some c.in-Some.worker) items inv.worked in
    let worked : IsWorked c.args.rounds c.in-Some.worker.caller c.in-Some.worker.fault = both.1 in
    let theirs = worked.kept in
    let bounds = stopped_with (2 * c.args.rounds) worked.stopped.0 c.in-Some.worker.caller worked.stopped.1 in
    let at_most = bounds.0 in
    let entered = bounds.1 in
    let len : vec_len c.loop-worker.workers ≡ vec_len c.pop.new.self + 1 = search rules in
    let product = ap (λ n. 2 * c.args.rounds * n) len in
    let first : c.or-first.result ≡ option_or c.in-Some.worker.fault c.loop-worker.first = search rules in
    let allowances = ap (sum_by (λ w. w.caller.allowance)) items ∙ sum_by_push (λ w. w.caller.allowance) c.pop.new.self.items c.in-Some.worker in
    let all_tickets = ap (sum_by (λ w. w.caller.tickets)) items ∙ sum_by_push (λ w. w.caller.tickets) c.pop.new.self.items c.in-Some.worker in
    let events = ap (sum_by (λ w. w.caller.made)) items ∙ sum_by_push (λ w. w.caller.made) c.pop.new.self.items c.in-Some.worker in
    record {
      worked = both.0;
      kept = omega arith;
      made = λ none. (let clean = or_none_both _ _ (sym first ∙ none) in let m = inv.made clean.1 in let their_made = worked.made clean.0 in omega arith);
      back = λ none. (let clean = or_none_both _ _ (sym first ∙ none) in let m = inv.back clean.1 in let their_back = worked.back clean.0 in omega arith);
      most = omega arith;
      entered = omega arith;
      more = omega arith;
      allowance = omega (arith, inv.allowance, allowances, allowance);
      tickets = omega (arith, inv.tickets, all_tickets, tickets);
      all = omega (arith, inv.all, events, made);
      first = rw first (sym (first_behind (λ w. w.fault) c.pop.new.self.items c.in-Some.worker c.loop-worker.first)
          ∙ ap (λ xs. option_or (first_fault (map (λ w. w.fault) xs)) c.loop-worker.first) (sym items) ∙ inv.first);
    }
