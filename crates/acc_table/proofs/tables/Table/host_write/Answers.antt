use Rattle.std.proofs.Common.{◌≡◌, ◌∙◌, ◌++◌, ◌∷◌, [], ap, length, Ok, rules}
use Rattle.acc_base.specs.Judge.{written}
use Rattle.acc_table.specs.Making.{write_admitted}
use Rattle.acc_table.proofs.InUse.{AreDevicesOf, opened}
use Rattle.acc_table.proofs.Keeping.{may_write, written_so}
use Rattle.acc_table.proofs.tables.Table.host_write.Goals.{After-deref_mut-data}
use Rattle.acc_table.proofs.tables.Table.host_write.Goals as goal

held : (c : After-deref_mut-data) → AreDevicesOf c.deref_mut-data.result.now.config c.deref_mut-data.result.now.base c.deref_mut-data.result.now.devices c.deref_mut-data.result.now.trace.items c.args.self.now
held c = opened c.deref_mut-data.ensures.value c.self.invariant c.self.view_is

admitted : (c : After-deref_mut-data) → write_admitted c.args.self.now (record { start = c.args.addr; len = length c.args.bytes.now }) ≡ Ok tt
admitted c = search rules

pub copy_to_host-requires : goal.copy_to_host-requires
copy_to_host-requires c = let s = (goal.at.copy_to_host-requires c).After-deref_mut-data in record { can = may_write (held s) _ (admitted s) }

pub invariant_of-self : goal.invariant_of-self
invariant_of-self c = let o = held (goal.at.invariant_of-self c).After-deref_mut-data in rw (c.in_err-copy_to_host.ensures.same, c.in_err-copy_to_host.ensures.same_trace) (o.kept, o.set)

pub invariant_of-self-2 : goal.invariant_of-self-2
invariant_of-self-2 c =
    let s = (goal.at.invariant_of-self-2 c).After-deref_mut-data in
    let told = c.in_ok-copy_to_host.ensures in
    (written_so (held s) c.copy_to_host.new.shared c.args.addr c.args.bytes.now c.copy_to_host.new.trace.items (admitted s) told.host told.numbers told.risen (told.trace ∙ ap (λ full. c.deref_mut-data.result.now.trace.items ++ written full c.args.addr c.args.bytes.now ∷ []) c.full-full.ensures)).0

pub returns-clause-done : goal.returns-clause-done
returns-clause-done c =
    let s = (goal.at.returns-clause-done c).After-deref_mut-data in
    let told = c.in_ok-copy_to_host.ensures in
    (written_so (held s) c.copy_to_host.new.shared c.args.addr c.args.bytes.now c.copy_to_host.new.trace.items (admitted s) told.host told.numbers told.risen (told.trace ∙ ap (λ full. c.deref_mut-data.result.now.trace.items ++ written full c.args.addr c.args.bytes.now ∷ []) c.full-full.ensures)).1
