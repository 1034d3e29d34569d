use Rattle.std.proofs.Common.{◌≡◌, ◌∙◌, ap, sym, subst, true, false, refl, arith, rules, None}
use Rattle.std.specs.Prelude.{IsSome}
use Rattle.acc_base.specs.Limits.{limits_on}
use Rattle.acc_base.specs.Ranges.{where_is}
use Rattle.acc_base.specs.Devices.{view}
use Rattle.acc_base.specs.Loans.{is_lent}
use Rattle.acc_base.specs.Blocks.{block_at}
use Rattle.acc_base.specs.Bytes.{bytes_of}
use Rattle.acc_base.proofs.OnDevices.{bounds_on}
use Rattle.acc_base.proofs.Accounted.{sound_on}
use Rattle.acc_clauses.specs.Devices.{Seen}
use Rattle.acc_table.specs.Queries.{device_read_of}
use Rattle.acc_table.proofs.Answering.{IsPartOf, section_part, read_lent}
use Rattle.acc_table.proofs.tables.Table.device_read.Goals.{In-Inside, In_ok-bytes-in-Inside}
use Rattle.acc_table.proofs.tables.Table.device_read.Goals as goal

part : (c : In-Inside) → IsPartOf c.args.section c.in-Inside.block c.in-Inside.offset (view c.args.device c.args.self.now.state)
part c =
    section_part (limits_on c.args.device c.args.self.now.limits) _ c.args.section _ _ (bounds_on c.args.device c.args.self.now.limits c.in_ok-view.ensures.known c.laws.ensures.bounds) (sound_on c.args.self.now c.laws.ensures.accounted c.args.device) (c.laws.ensures.accounted.devices c.args.device c.in_ok-view.ensures.known).sound.memories_sized
    (ap (λ (v : Seen). where_is c.args.section v.state.records.ranges) (sym c.in_ok-view.ensures.there) ∙ sym c.in-Inside.ensures)

free : (c : In_ok-bytes-in-Inside) → is_lent c.in-Inside.block (view c.args.device c.args.self.now.state).records.loans ≡ false
free c = let yes : true ≡ true = refl in subst (λ (v : Seen). is_lent c.in-Inside.block v.state.records.loans ≡ false) c.in_ok-view.ensures.there (c.in_ok-bytes-in-Inside.ensures.there.0 yes).1

pub returns-in_err-bytes-in-Inside : goal.returns-in_err-bytes-in-Inside
returns-in_err-bytes-in-Inside c =
    let s = view c.args.device c.args.self.now.state in
    let there = (part (goal.at.returns-in_err-bytes-in-Inside c).In-Inside).there in
    let out : is_lent c.in-Inside.block s.records.loans ≡ false → ⊥ = λ free. (let never : false ≡ true = c.in_err-bytes-in-Inside.ensures.there.1
    (subst (λ (v : Seen). IsSome (block_at c.in-Inside.block v.state.records.blocks)) (sym c.in_ok-view.ensures.there) there, subst (λ (v : Seen). is_lent c.in-Inside.block v.state.records.loans ≡ false) (sym c.in_ok-view.ensures.there) free) in cc) in
    let none : device_read_of c.args.section s ≡ None = read_lent c.args.section c.in-Inside.block c.in-Inside.offset s (ap (λ (v : Seen). where_is c.args.section v.state.records.ranges) (sym c.in_ok-view.ensures.there) ∙ sym c.in-Inside.ensures) out in
    rw none (search rules)

pub overflow_add-result : goal.overflow_add-result
overflow_add-result c =
    let part = part (goal.at.overflow_add-result c).In-Inside in
    let free = free (goal.at.overflow_add-result c).In_ok-bytes-in-Inside in
    omega (arith, part.fits free, part.short free)

pub slice_bounds-result-end : goal.slice_bounds-result-end
slice_bounds-result-end c =
    let part = part (goal.at.slice_bounds-result-end c).In-Inside in
    let free = free (goal.at.slice_bounds-result-end c).In_ok-bytes-in-Inside in
    rw (c.in_ok-bytes-in-Inside.ensures.bytes ∙ ap (λ (v : Seen). bytes_of c.in-Inside.block v.state.memories) c.in_ok-view.ensures.there) (part.fits free)
