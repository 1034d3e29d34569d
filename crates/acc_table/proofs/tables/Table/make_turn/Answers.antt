use Rattle.std.proofs.Common.{refl, sym, subst}
use Rattle.acc_base.specs.declared.calls.Call.TheVariants.{Do, HostWrite}
use Rattle.acc_table.specs.declared.calls.Turn.{Turn}
use Rattle.acc_table.specs.Turning.{IsTurnMade}
use Rattle.acc_table.proofs.Running.{directive_lends_none, write_lends_none}
use Rattle.acc_table.proofs.tables.Table.make_turn.Goals as goal

pub returns-in-Ok-clause-taken : goal.returns-in-Ok-clause-taken
returns-in-Ok-clause-taken c = subst (λ (turn : Turn). IsTurnMade c.args.self.now c.args.leases.now.items turn c.in-Ok.reply c.direct.new.self c.args.leases.now.items) (sym c.in-Do.is) (record {
  call = Do c.in-Do.directive;
  asked = refl;
  done = c.in-Ok.ensures.done;
  kept_is = refl;
  idle = λ is. refl;
  few = directive_lends_none c.args.self.now c.direct.new.self c.in-Do.directive c.in-Ok.reply c.in-Ok.ensures.done;
})

pub returns-in-Ok-write-clause-taken : goal.returns-in-Ok-write-clause-taken
returns-in-Ok-write-clause-taken c = subst (λ (turn : Turn). IsTurnMade c.args.self.now c.args.leases.now.items turn c.in-Ok-write.reply c.write.new.self c.args.leases.now.items) (sym c.in-HostWrite.is) (record {
  call = HostWrite c.in-HostWrite.addr c.in-HostWrite.bytes;
  asked = refl;
  done = c.in-Ok-write.ensures.done;
  kept_is = refl;
  idle = λ is. refl;
  few = write_lends_none c.args.self.now c.write.new.self c.in-HostWrite.addr c.in-HostWrite.bytes c.in-Ok-write.reply c.in-Ok-write.ensures.done;
})
