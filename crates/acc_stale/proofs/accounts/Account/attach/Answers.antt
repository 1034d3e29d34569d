use Rattle.std.proofs.Common.{rules, ◌≡◌, ◌∙◌, ap, sym, Some, map, refl}
use Rattle.std.specs.BTreeMap.{WritesThrough, get, UpdatesBy}
use Rattle.acc_stale.specs.declared.accounts.Block.{Block}
use Rattle.acc_stale.specs.Accounts.{by_number, counted}
use Rattle.acc_stale.proofs.Counts.{rewritten_block, taken_out, put_in, count_none, count_some}
use Rattle.acc_stale.proofs.accounts.Account.attach.Goals as goal

pub returns-then-count-eq0-clause-ok : goal.returns-then-count-eq0-clause-ok
returns-then-count-eq0-clause-ok c =
    let was : Block = c.in-Some.found.now in
    let now : Block = record { held = was.held; pointers = c.remove.new.self } in
    let w : WritesThrough by_number (by_number (c.args.device, c.args.block)) c.args.self.now.blocks now (c.get_mut.follows.lender now) = search rules in
    let there : get by_number c.args.self.now.blocks (c.args.device, c.args.block) ≡ Some was = search rules in
    rewritten_block c.args.device c.args.block c.args.pointer c.args.count c.args.self.now _ was now there (w.3 (rw there refl)) refl
    (count_none c.args.block c.args.pointer c.args.count was now refl c.if-count-eq0.true (ap (map (counted c.args.block)) c.remove.ensures.entries ∙ taken_out c.args.block c.args.pointer was.pointers.entries (sym (ap (Rattle.std.specs.Map.lookup _) c.remove.ensures.entries) ∙ c.remove.ensures.updates.1)))

pub returns-in_ok-insert-clause-ok : goal.returns-in_ok-insert-clause-ok
returns-in_ok-insert-clause-ok c =
    let was : Block = c.in-Some.found.now in
    let now : Block = record { held = was.held; pointers = c.insert.new.self } in
    let w : WritesThrough by_number (by_number (c.args.device, c.args.block)) c.args.self.now.blocks now (c.get_mut.follows.lender now) = search rules in
    let there : get by_number c.args.self.now.blocks (c.args.device, c.args.block) ≡ Some was = search rules in
    rewritten_block c.args.device c.args.block c.args.pointer c.args.count c.args.self.now _ was now there (w.3 (rw there refl)) refl
    (count_some c.args.block c.args.pointer c.args.count was now refl c.if-count-eq0.false (ap (map (counted c.args.block)) c.in_ok-insert.ensures.entries ∙ put_in c.args.block c.args.pointer c.args.count was.pointers.entries c.in_ok-insert.ensures.was_ordered))
