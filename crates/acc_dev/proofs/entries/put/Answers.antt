use Rattle.std.proofs.Common.{◌≡◌, length, refl, rules, arith}
use Rattle.std.proofs.lemmas.Bool.{false≢true}
use Rattle.acc_dev.proofs.Births.{blocks-born, memories-born, marks-born, loans-born, born_kept}
use Rattle.acc_dev.proofs.entries.put.Goals as goal

pub returns-clause-kept : goal.returns-clause-kept
returns-clause-kept c =
    let u = c.insert_reserved-slot.ensures in
    let len : c.len-len.result ≡ length c.args.bytes.items = search (rules, c.len-len.ensures) in
    rw c.push.ensures.entries (born_kept c.args.holes.now c.take_reserved-place.new.self c.args.slab.now.slots c.insert_reserved-slot.new.self.slots c.args.index.now.entries c.args.number c.insert_reserved-slot.result _
    c.requires.kept c.requires.above u.was_vacant u.updates.changed u.updates.others (rw len c.requires.len) len refl (record { few = omega arith; held = λ ended. absurd (false≢true ended) }) c.take_reserved-place.ensures.canonical c.take_reserved-place.ensures.partition)

pub returns-clause-blocks : goal.returns-clause-blocks
returns-clause-blocks c =
    let u = c.insert_reserved-slot.ensures in
    let len : c.len-len.result ≡ length c.args.bytes.items = search (rules, c.len-len.ensures) in
    rw (c.push.ensures.entries, ← len) (blocks-born c.args.slab.now.slots c.insert_reserved-slot.new.self.slots c.args.index.now.entries c.args.number c.insert_reserved-slot.result _ c.requires.kept.filled u.was_vacant u.updates.changed u.updates.others)

pub returns-clause-memories : goal.returns-clause-memories
returns-clause-memories c =
    let u = c.insert_reserved-slot.ensures in
    rw c.push.ensures.entries (memories-born c.args.slab.now.slots c.insert_reserved-slot.new.self.slots c.args.index.now.entries c.args.number c.insert_reserved-slot.result _ c.requires.kept.filled u.was_vacant u.updates.changed u.updates.others)

pub returns-clause-marks : goal.returns-clause-marks
returns-clause-marks c =
    let u = c.insert_reserved-slot.ensures in
    rw c.push.ensures.entries (marks-born c.args.slab.now.slots c.insert_reserved-slot.new.self.slots c.args.index.now.entries c.args.number c.insert_reserved-slot.result _ c.requires.kept.filled u.was_vacant u.updates.changed u.updates.others)

pub returns-clause-loans : goal.returns-clause-loans
returns-clause-loans c =
    let u = c.insert_reserved-slot.ensures in
    rw c.push.ensures.entries (loans-born c.args.slab.now.slots c.insert_reserved-slot.new.self.slots c.args.index.now.entries c.args.number c.insert_reserved-slot.result _ c.requires.kept.filled u.was_vacant u.updates.changed u.updates.others refl)
