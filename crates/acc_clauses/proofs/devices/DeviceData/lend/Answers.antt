use Rattle.std.proofs.Common.{◌≡◌, ◌+◌, ◌∙◌, refl, sym, subst, arith, []}
use Rattle.acc_base.specs.declared.events.Event.TheVariants.{Lent}
use Rattle.acc_base.specs.Limits.{Limits}
use Rattle.acc_base.specs.Records.{State}
use Rattle.acc_base.specs.Acting.{after}
use Rattle.acc_clauses.specs.Devices.{SharedContents, HaveRisen, contents_with}
use Rattle.acc_clauses.specs.Stored.{AreContentsSound}
use Rattle.acc_clauses.proofs.Lends.{planned_says, lent_after, lent_sound}
use Rattle.acc_clauses.proofs.devices.DeviceData.lend.Goals as goal

pub take_out-requires-clause-free : goal.take_out-requires-clause-free
take_out-requires-clause-free c = (planned_says _ _ _ _ c.args.loan c.requires.sound.sound.layout.records c.requires.planned.2).free

pub take_out-requires-clause-sound : goal.take_out-requires-clause-sound
take_out-requires-clause-sound c = (planned_says _ _ _ _ c.args.loan c.requires.sound.sound.layout.records c.requires.planned.2).sound

pub take_out-requires-clause-few : goal.take_out-requires-clause-few
take_out-requires-clause-few c = omega (arith, c.requires.sound.few, c.requires.serial)

-- what is shared behind the loan
abbrev next : SharedContents → SharedContents
next s = record { host = s.host; numbers = record { region = s.numbers.region; serial = s.numbers.serial + 1 } }

pub returns-clause-sound : goal.returns-clause-sound
returns-clause-sound c =
    let x = c.args.self.now in
    subst (λ (s : SharedContents). AreContentsSound (contents_with c.take_out.new.self (next s))) (sym c.shared.view_is)
    (lent_sound _ _ (contents_with x c.args.shared.now) (contents_with c.take_out.new.self (next c.args.shared.now)) c.args.loan c.laws.ensures.limits c.requires.sound c.requires.planned.2 c.take_out.ensures.limits (c.in_ok-lease.ensures.state c.args.shared.now.host c.args.shared.now.numbers))

pub returns-clause-lease : goal.returns-clause-lease
returns-clause-lease c = c.in_ok-lease.ensures.lease c.args.shared.now.host c.args.shared.now.numbers

pub returns-clause-state : goal.returns-clause-state
returns-clause-state c = λ region section p.
    let l : Limits = c.args.self.now.limits in
    let t : SharedContents = c.args.shared.now in
    let old : State = (contents_with c.args.self.now t).state in
    subst (λ (s : SharedContents). (contents_with c.take_out.new.self (next s)).state ≡ after l.full (Lent l.number region section c.args.loan.block c.args.loan.serial) [] old) (sym c.shared.view_is)
    (c.in_ok-lease.ensures.state t.host t.numbers ∙ lent_after l.full l.number region section c.args.loan old p.loan_is)

pub returns-clause-risen : goal.returns-clause-risen
returns-clause-risen c = subst (λ (s : SharedContents). HaveRisen c.args.shared.now (next s)) (sym c.shared.view_is) (record { host = refl; region = omega arith; serial = omega arith })
