use Rattle.std.proofs.Common.{subst, sym, ap, List, length, arith}
use Rattle.std.specs.Prelude.{map}
use Rattle.std.proofs.lemmas.List.{map-set}
use Rattle.std.proofs.lemmas.List.Edits.{length-insert}
use Rattle.acc_ordered.specs.Listing.{KeyValue, KeysRise, keyed, entry_in}
use Rattle.acc_ordered.proofs.Changing.{roomy, put_row, row_more, least_got, in_rows_set}
use Rattle.acc_ordered.proofs.HalfFull.{longer_set}
use Rattle.acc_ordered.proofs.changes.put.Goals as goal

pub insert_at-requires-clause-within : goal.insert_at-requires-clause-within
insert_at-requires-clause-within g c = (roomy c.args.rows.now.items c.args.place c.index_mut-row.result.now c.requires.in_rows.each c.requires.place c.index_mut-row.ensures.value).bound

pub insert_at-requires-clause-free : goal.insert_at-requires-clause-free
insert_at-requires-clause-free g c = (roomy c.args.rows.now.items c.args.place c.index_mut-row.result.now c.requires.in_rows.each c.requires.place c.index_mut-row.ensures.value).free

pub at-requires : goal.at-requires
at-requires g c =
    let r = roomy c.args.rows.now.items c.args.place c.index_mut-row.result.now c.requires.in_rows.each c.requires.place c.index_mut-row.ensures.value in
    (row_more c.index_mut-row.result.now c.insert_at.new.self c.args.place.at (keyed (g.K.Key.number c.args.key) c.args.value) r.bound r.free c.insert_at.ensures).some

pub returns-clause-in_rows : goal.returns-clause-in_rows
returns-clause-in_rows g c =
    let e = keyed (g.K.Key.number c.args.key) c.args.value in
    let r = roomy c.args.rows.now.items c.args.place c.index_mut-row.result.now c.requires.in_rows.each c.requires.place c.index_mut-row.ensures.value in
    let whole = row_more c.index_mut-row.result.now c.insert_at.new.self c.args.place.at e r.bound r.free c.insert_at.ensures in
    let rising = subst (λ (es : List (KeyValue g.row.T.Denot)). KeysRise es) (sym (put_row c.args.rows.now.items c.args.place c.index_mut-row.result.now c.insert_at.new.self e r.at r.bound c.insert_at.ensures)) c.requires.rising in
    let in_rows = in_rows_set (map g.K.Key.number c.args.firsts.now.items) c.args.rows.now.items c.args.place.row (g.K.Key.number c.at.result.key) c.insert_at.new.self c.requires.in_rows whole (least_got c.insert_at.new.self (entry_in g.K.Key.number c.at.result) c.at.ensures) rising in
    rw (map-set g.K.Key.number c.args.firsts.now.items c.args.place.row c.at.result.key) in_rows

pub returns-clause-entries : goal.returns-clause-entries
returns-clause-entries g c =
    let r = roomy c.args.rows.now.items c.args.place c.index_mut-row.result.now c.requires.in_rows.each c.requires.place c.index_mut-row.ensures.value in
    put_row c.args.rows.now.items c.args.place c.index_mut-row.result.now c.insert_at.new.self (keyed (g.K.Key.number c.args.key) c.args.value) r.at r.bound c.insert_at.ensures

pub returns-clause-half_full : goal.returns-clause-half_full
returns-clause-half_full g c =
    let e = keyed (g.K.Key.number c.args.key) c.args.value in
    let r = roomy c.args.rows.now.items c.args.place c.index_mut-row.result.now c.requires.in_rows.each c.requires.place c.index_mut-row.ensures.value in
    longer_set c.args.rows.now.items c.args.place.row c.index_mut-row.result.now c.insert_at.new.self r.at (omega (arith, ap length c.insert_at.ensures, length-insert c.index_mut-row.result.now c.args.place.at e r.bound)) c.requires.half_full
