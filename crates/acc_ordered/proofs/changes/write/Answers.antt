use Rattle.std.proofs.Common.{◌<◌, length, ap, arith}
use Rattle.acc_ordered.proofs.Placing.{row_is_row}
use Rattle.acc_ordered.proofs.Reading.{read_row, read_at}
use Rattle.acc_ordered.proofs.Answering.{write_row, row_written, row_long, in_rows_kept, got_in_row}
use Rattle.acc_ordered.proofs.HalfFull.{longer_set}
use Rattle.acc_ordered.proofs.changes.write.Goals as goal

pub write_at-requires : goal.write_at-requires
write_at-requires g c = omega (arith, c.requires.bound, ap length (read_row c.args.rows.now.items c.args.place.row c.requires.row c.index_mut.result.now c.requires.row_is c.index_mut.ensures.value))

pub returns-clause-entries : goal.returns-clause-entries
returns-clause-entries g c = λ entry is.
    let at = read_at c.args.rows.now.items c.args.place.row c.requires.row c.index_mut.result.now c.requires.row_is c.index_mut.ensures.value in
    let lt : c.args.place.at < length c.index_mut.result.now = omega (arith, c.requires.bound, ap length (read_row c.args.rows.now.items c.args.place.row c.requires.row c.index_mut.result.now c.requires.row_is c.index_mut.ensures.value)) in
    let there = got_in_row c.args.rows.now.items c.args.place c.index_mut.result.now entry at lt is in
    write_row c.args.rows.now.items c.args.place c.index_mut.result.now c.write_at.new.self (record entry { value = c.args.value }) at lt (c.write_at.ensures entry there)

pub returns-clause-in_rows : goal.returns-clause-in_rows
returns-clause-in_rows g c = λ firsts h rising.
    let at = read_at c.args.rows.now.items c.args.place.row c.requires.row c.index_mut.result.now c.requires.row_is c.index_mut.ensures.value in
    let lt : c.args.place.at < length c.index_mut.result.now = omega (arith, c.requires.bound, ap length (read_row c.args.rows.now.items c.args.place.row c.requires.row c.index_mut.result.now c.requires.row_is c.index_mut.ensures.value)) in
    let written = row_written c.index_mut.result.now c.write_at.new.self c.args.place.at c.args.value lt (row_is_row c.args.rows.now.items c.args.place.row c.index_mut.result.now h.each at) c.write_at.ensures in
    in_rows_kept firsts c.args.rows.now.items c.args.place.row c.index_mut.result.now c.write_at.new.self h at written.0 written.1 rising

pub returns-clause-half_full : goal.returns-clause-half_full
returns-clause-half_full g c = λ half.
    let lt : c.args.place.at < length c.index_mut.result.now = omega (arith, c.requires.bound, ap length (read_row c.args.rows.now.items c.args.place.row c.requires.row c.index_mut.result.now c.requires.row_is c.index_mut.ensures.value)) in
    let at = read_at c.args.rows.now.items c.args.place.row c.requires.row c.index_mut.result.now c.requires.row_is c.index_mut.ensures.value in
    longer_set c.args.rows.now.items c.args.place.row c.index_mut.result.now c.write_at.new.self at (omega (arith, row_long c.index_mut.result.now c.write_at.new.self c.args.place.at c.args.value lt c.write_at.ensures)) half
