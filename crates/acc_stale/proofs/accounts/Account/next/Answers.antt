use Rattle.std.proofs.Common.{◌≡◌, Option, option_map, unwrap_or, [], Some, None, ap, rules}
use Rattle.std.specs.List.{find}
use Rattle.acc_base.specs.declared.transfers.Transfer.{Transfer}
use Rattle.acc_stale.specs.declared.accounts.Waiting.{Waiting}
use Rattle.acc_stale.specs.declared.known.Placed.{Placed}
use Rattle.acc_stale.specs.Accounts.{ToldBlock, is_in, told_block, told_at, attached_at}
use Rattle.acc_stale.specs.Tells.{placed_at}
use Rattle.acc_stale.proofs.Draining.{next_told, none_next, next_lost, next_follows, next_others}
use Rattle.acc_stale.proofs.accounts.Account.next.Goals as goal

pub returns-in_default-clause-told : goal.returns-in_default-clause-told
returns-in_default-clause-told c l s follows sound low =
    let none : None ≡ option_map {T = Waiting} {U = Transfer} (λ x. x.transfer) (find (is_in c.args.device c.args.queue) c.args.self.now.waiting.items) = search rules in
    none_next c.args.device c.args.queue c.args.self.now s none follows low

pub returns-in_default-clause-follows : goal.returns-in_default-clause-follows
returns-in_default-clause-follows c l s follows sound low = next_follows l c.args.device c.args.queue c.take.result c.args.self.now c.take.new.self s c.take.ensures.taken c.take.ensures.left c.take.ensures.blocks follows sound low

pub returns-in_default-clause-others : goal.returns-in_default-clause-others
returns-in_default-clause-others c = next_others c.args.device c.args.queue c.args.self.now c.take.new.self c.take.ensures.left c.take.ensures.blocks

pub returns-in_default-2-clause-told : goal.returns-in_default-2-clause-told
returns-in_default-2-clause-told c l s follows sound low =
    let taken : Some c.in-Some.transfer ≡ option_map {T = Waiting} {U = Transfer} (λ x. x.transfer) (find (is_in c.args.device c.args.queue) c.args.self.now.waiting.items) = search rules in
    let none : told_at c.args.device c.in-Some.transfer.block c.take.new.self ≡ None = search rules in
    let lost : placed_at c.args.device c.in-Some.transfer.block c.take.new.self ≡ None = ap (option_map (λ (t : ToldBlock). t.held.placed)) none in
    absurd (next_lost l c.args.device c.args.queue c.in-Some.transfer c.args.self.now c.take.new.self s taken lost c.take.ensures.blocks follows sound low)

pub returns-in_default-2-clause-follows : goal.returns-in_default-2-clause-follows
returns-in_default-2-clause-follows c l s follows sound low = next_follows l c.args.device c.args.queue c.take.result c.args.self.now c.take.new.self s c.take.ensures.taken c.take.ensures.left c.take.ensures.blocks follows sound low

pub returns-in_default-2-clause-others : goal.returns-in_default-2-clause-others
returns-in_default-2-clause-others c = next_others c.args.device c.args.queue c.args.self.now c.take.new.self c.take.ensures.left c.take.ensures.blocks

pub returns-clause-told : goal.returns-clause-told
returns-clause-told c l s follows sound low =
    let taken : Some c.in-Some.transfer ≡ option_map {T = Waiting} {U = Transfer} (λ x. x.transfer) (find (is_in c.args.device c.args.queue) c.args.self.now.waiting.items) = search rules in
    let there : Some (told_block c.in-Some-2.told) ≡ told_at c.args.device c.in-Some.transfer.block c.take.new.self = search rules in
    let placed : ◌≡◌ {A = Option Placed} (Some c.in-Some-2.told.held.placed) (placed_at c.args.device c.in-Some.transfer.block c.take.new.self) = ap (option_map (λ (t : ToldBlock). t.held.placed)) there in
    let attached : c.in-Some-2.told.attached.items ≡ attached_at c.args.device c.in-Some.transfer.block c.take.new.self = ap (λ (o : Option ToldBlock). unwrap_or (option_map (λ (t : ToldBlock). t.attached) o) []) there in
    next_told l c.args.device c.args.queue c.in-Some.transfer c.in-Some-2.told.held.placed c.in-Some-2.told.attached.items c.args.self.now c.take.new.self s taken placed attached c.take.ensures.blocks follows sound low

pub returns-clause-follows : goal.returns-clause-follows
returns-clause-follows c l s follows sound low = next_follows l c.args.device c.args.queue c.take.result c.args.self.now c.take.new.self s c.take.ensures.taken c.take.ensures.left c.take.ensures.blocks follows sound low

pub returns-clause-others : goal.returns-clause-others
returns-clause-others c = next_others c.args.device c.args.queue c.args.self.now c.take.new.self c.take.ensures.left c.take.ensures.blocks
