use Rattle.std.proofs.Common.{subst, sym, ap, List, length, arith}
use Rattle.std.specs.Prelude.{map}
use Rattle.std.proofs.lemmas.List.{map-set}
use Rattle.std.proofs.lemmas.List.Edits.{length-remove}
use Rattle.acc_ordered.specs.Listing.{KeyValue, KeysRise, entry_in}
use Rattle.acc_ordered.specs.Laid.{side_by_side}
use Rattle.acc_ordered.specs.Spots.{index_of}
use Rattle.acc_ordered.proofs.Changing.{one_of, take_from_row, row_less, least_got, in_rows_set, rises_without}
use Rattle.acc_ordered.proofs.HalfFull.{shorter_set}
use Rattle.acc_ordered.proofs.changes.shorten.Goals as goal

pub remove_at-requires : goal.remove_at-requires
remove_at-requires g c = (one_of c.args.rows.now.items c.args.place c.index_mut-row.result.now c.requires.in_rows.each c.requires.among c.index_mut-row.ensures.value).bound

pub at-requires : goal.at-requires
at-requires g c =
    let r = one_of c.args.rows.now.items c.args.place c.index_mut-row.result.now c.requires.in_rows.each c.requires.among c.index_mut-row.ensures.value in
    (row_less c.index_mut-row.result.now c.remove_at.new.self c.args.place.at r.whole r.others r.bound c.remove_at.ensures).some

pub returns-clause-in_rows : goal.returns-clause-in_rows
returns-clause-in_rows g c =
    let r = one_of c.args.rows.now.items c.args.place c.index_mut-row.result.now c.requires.in_rows.each c.requires.among c.index_mut-row.ensures.value in
    let whole = row_less c.index_mut-row.result.now c.remove_at.new.self c.args.place.at r.whole r.others r.bound c.remove_at.ensures in
    let rising = subst (λ (es : List (KeyValue g.row.T.Denot)). KeysRise es) (sym (take_from_row c.args.rows.now.items c.args.place c.index_mut-row.result.now c.remove_at.new.self r.at r.bound c.remove_at.ensures)) (rises_without (side_by_side c.args.rows.now.items) (index_of c.args.rows.now.items c.args.place) c.requires.in_rows.rising) in
    let in_rows = in_rows_set (map g.K.Key.number c.args.firsts.now.items) c.args.rows.now.items c.args.place.row (g.K.Key.number c.at.result.key) c.remove_at.new.self c.requires.in_rows whole (least_got c.remove_at.new.self (entry_in g.K.Key.number c.at.result) c.at.ensures) rising in
    rw (map-set g.K.Key.number c.args.firsts.now.items c.args.place.row c.at.result.key) in_rows

pub returns-clause-entries : goal.returns-clause-entries
returns-clause-entries g c =
    let r = one_of c.args.rows.now.items c.args.place c.index_mut-row.result.now c.requires.in_rows.each c.requires.among c.index_mut-row.ensures.value in
    take_from_row c.args.rows.now.items c.args.place c.index_mut-row.result.now c.remove_at.new.self r.at r.bound c.remove_at.ensures

pub returns-clause-one_short : goal.returns-clause-one_short
returns-clause-one_short g c =
    let r = one_of c.args.rows.now.items c.args.place c.index_mut-row.result.now c.requires.in_rows.each c.requires.among c.index_mut-row.ensures.value in
    shorter_set c.args.rows.now.items c.args.place.row c.index_mut-row.result.now c.remove_at.new.self r.at (omega (arith, ap length c.remove_at.ensures, length-remove c.index_mut-row.result.now c.args.place.at r.bound)) c.requires.half_full
