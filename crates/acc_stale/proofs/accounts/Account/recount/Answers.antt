use Rattle.std.proofs.Common.{rules, ◌≡◌, sym, Some, None, refl, arith}
use Rattle.std.specs.BTreeMap.{WritesThrough, get}
use Rattle.acc_stale.specs.declared.accounts.Block.{Block}
use Rattle.acc_stale.specs.Accounts.{by_number}
use Rattle.acc_stale.proofs.Counts.{counted_block, counted_none, held_there}
use Rattle.acc_stale.proofs.accounts.Account.recount.Goals as goal

pub returns-clause-counted : goal.returns-clause-counted
returns-clause-counted c =
    let was : Block = c.in_ok-found.found.now in
    let now : Block = record { held = record was.held { range = c.recounted-found.result }; pointers = was.pointers } in
    let w : WritesThrough by_number (by_number (c.args.device, c.args.block)) c.args.self.now.blocks now (c.get_mut.follows.lender now) = search rules in
    let there : get by_number c.args.self.now.blocks (c.args.device, c.args.block) ≡ Some was = search rules in
    counted_block c.args.device c.args.block c.args.task c.args.self.now _ was c.recounted-found.result there (w.3 (rw there refl)) refl (λ low less. c.recounted-found.ensures (omega (arith, low)) (omega (arith, less)))

pub returns-in_err-found-clause-counted : goal.returns-in_err-found-clause-counted
returns-in_err-found-clause-counted c =
    let none : get by_number c.args.self.now.blocks (c.args.device, c.args.block) ≡ None = search rules in
    counted_none c.args.device c.args.block c.args.task c.args.self.now _ none (search rules) refl

pub returns-clause-held : goal.returns-clause-held
returns-clause-held c =
    let was : Block = c.in_ok-found.found.now in
    let now : Block = record { held = record was.held { range = c.recounted-found.result }; pointers = was.pointers } in
    let w : WritesThrough by_number (by_number (c.args.device, c.args.block)) c.args.self.now.blocks now (c.get_mut.follows.lender now) = search rules in
    let there : get by_number c.args.self.now.blocks (c.args.device, c.args.block) ≡ Some was = search rules in
    sym (held_there c.args.block _ now (w.3 (rw there refl)).1)
