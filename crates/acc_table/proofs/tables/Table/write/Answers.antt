use Rattle.std.proofs.Common.{◌≡◌, ◌∙◌, ◌++◌, ◌∷◌, [], ap, sym, subst, List, ℕ, length, Ok}
use Rattle.acc_base.specs.Judge.{written}
use Rattle.acc_table.specs.Making.{write_admitted}
use Rattle.acc_table.proofs.InUse.{AreDevicesOf, opened}
use Rattle.acc_table.proofs.Keeping.{may_write, written_so}
use Rattle.acc_table.proofs.tables.Table.write.Goals.{After-deref_mut-data}
use Rattle.acc_table.proofs.tables.Table.write.Goals as goal

held : (c : After-deref_mut-data) → AreDevicesOf c.deref_mut-data.result.now.config c.deref_mut-data.result.now.base c.deref_mut-data.result.now.devices c.deref_mut-data.result.now.trace.items c.args.self.now
held c = opened c.deref_mut-data.ensures.value c.self.invariant c.self.view_is

admitted : (c : After-deref_mut-data) → write_admitted c.args.self.now (record { start = c.args.addr; len = length c.args.bytes }) ≡ Ok tt
admitted c = subst (λ (bytes : List ℕ). write_admitted c.args.self.now (record { start = c.args.addr; len = length bytes }) ≡ Ok tt) c.as_slice.ensures (sym c.admit_write.ensures ∙ c.in-Ok.is)

pub write_host-requires : goal.write_host-requires
write_host-requires c = let s = (goal.at.write_host-requires c).After-deref_mut-data in record { can = may_write (held s) _ (admitted s) }

pub invariant_of-self-in-Ok : goal.invariant_of-self-in-Ok
invariant_of-self-in-Ok c =
    let s = (goal.at.invariant_of-self-in-Ok c).After-deref_mut-data in
    let told = c.in_ok-write_host-in-Ok.ensures in
    (written_so (held s) c.write_host.new.shared c.args.addr c.args.bytes c.write_host.new.trace.items (admitted s) told.host told.numbers told.risen (told.trace ∙ ap (λ full. c.deref_mut-data.result.now.trace.items ++ written full c.args.addr c.args.bytes ∷ []) c.full-full.ensures)).0

pub invariant_of-self : goal.invariant_of-self
invariant_of-self c = let o = held (goal.at.invariant_of-self c).After-deref_mut-data in rw (c.in_err-write_host-in-Ok.ensures.same, c.in_err-write_host-in-Ok.ensures.same_trace) (o.kept, o.set)

pub returns-in_ok-write_host-in-Ok-clause-done : goal.returns-in_ok-write_host-in-Ok-clause-done
returns-in_ok-write_host-in-Ok-clause-done c =
    let s = (goal.at.returns-in_ok-write_host-in-Ok-clause-done c).After-deref_mut-data in
    let told = c.in_ok-write_host-in-Ok.ensures in
    (written_so (held s) c.write_host.new.shared c.args.addr c.args.bytes c.write_host.new.trace.items (admitted s) told.host told.numbers told.risen (told.trace ∙ ap (λ full. c.deref_mut-data.result.now.trace.items ++ written full c.args.addr c.args.bytes ∷ []) c.full-full.ensures)).1
