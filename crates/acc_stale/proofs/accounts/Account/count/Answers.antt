use Rattle.std.proofs.Common.{◌≡◌, ap, sym, ◌∙◌, Some, rules, unwrap_or}
use Rattle.std.specs.BTreeMap.{get, get_by}
use Rattle.std.specs.Ordering.{nat_cmp}
use Rattle.acc_base.specs.Attachments.{count_at}
use Rattle.acc_stale.specs.Accounts.{by_number}
use Rattle.acc_stale.proofs.Counts.{count_there, attached_there}
use Rattle.acc_stale.proofs.accounts.Account.count.Goals as goal

pub returns-in-Some : goal.returns-in-Some
returns-in-Some c =
    let there : get by_number c.args.self.now.blocks (c.args.device, c.args.block) ≡ Some c.in-Some.found.now = search rules in
    let count : c.unwrap_or.result ≡ unwrap_or (get_by (nat_cmp c.args.pointer) c.in-Some.found.now.pointers) 0 = search rules in
    count ∙ count_there c.args.block c.args.pointer c.in-Some.found.now.pointers.entries ∙ sym (ap (count_at c.args.block c.args.pointer) (attached_there c.args.device c.args.block c.args.self.now c.in-Some.found.now there))
