use Rattle.std.proofs.Common.{◌≡◌, ◌∙◌, true}
use Rattle.acc_base.specs.Leases.{is_returnable}
use Rattle.acc_base.specs.Judge.{gathered}
use Rattle.acc_clauses.specs.Devices.{contents_with}
use Rattle.acc_clauses.proofs.Lends.{returnable, gather_is, gathered_after, gathered_sound}
use Rattle.acc_clauses.proofs.devices.DeviceData.gather.Goals.{After-laws}
use Rattle.acc_clauses.proofs.devices.DeviceData.gather.Goals as goal

-- the lease fits the device, whatever all devices share
fits : (c : After-laws) → let x = c.args.self.now in is_returnable x.limits.full x.limits.number c.args.lease x.device.records.blocks x.device.records.loans x.device.memories ≡ true
fits c =
    let l = c.args.self.now.limits in
    returnable l c.args.lease (contents_with c.args.self.now c.requires.planned.0).state (gathered l.full c.args.lease) c.requires.planned.1.1

pub put_back-requires : goal.put_back-requires
put_back-requires c = fits (goal.at.put_back-requires c).After-laws

pub returns-clause-state : goal.returns-clause-state
returns-clause-state c = λ s. c.put_back.ensures.state s.host s.numbers ∙ gathered_after c.args.self.now.limits.full c.args.lease (contents_with c.args.self.now s).state

pub returns-clause-sound : goal.returns-clause-sound
returns-clause-sound c = λ s h.
    let x = contents_with c.args.self.now s in
    let ready = gather_is x.limits c.args.lease x.state (fits (goal.at.returns-clause-sound c).After-laws) in
    gathered_sound x (contents_with c.put_back.new.self s) c.args.lease c.laws.ensures.limits h ready c.put_back.ensures.limits (c.put_back.ensures.state s.host s.numbers)
