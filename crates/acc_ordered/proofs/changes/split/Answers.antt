use Rattle.std.proofs.Common.{◌≡◌, ◌<◌, ◌+◌, length, set, insert, deque_len, deque_capacity, ap, sym, ◌∙◌, refl, arith}
use Rattle.std.specs.Prelude.{map}
use Rattle.acc_ordered.specs.Listing.{entry_in}
use Rattle.acc_ordered.proofs.Numbers.{insert_numbers, firsts_long, ok_there}
use Rattle.acc_ordered.proofs.Reading.{read_row, read_at}
use Rattle.acc_ordered.proofs.Changing.{side_cut, in_rows_cut, least_got}
use Rattle.acc_ordered.proofs.Starting.{last_waits, cut_made, lower_whole, upper_whole}
use Rattle.acc_ordered.proofs.changes.split.Goals as goal

pub cut-requires-clause-within : goal.cut-requires-clause-within
cut-requires-clause-within g c =
    let at = read_at c.args.rows.now.items c.args.row c.requires.full.row c.index_mut.result.now c.requires.full.row_is c.index_mut.ensures.value in
    let full : length c.index_mut.result.now ≡ 64 = sym (ap length (read_row c.args.rows.now.items c.args.row c.requires.full.row c.index_mut.result.now c.requires.full.row_is c.index_mut.ensures.value)) ∙ c.requires.full.count_is in
    omega (arith, full, c.requires.not_all)

pub cut-requires-clause-empty : goal.cut-requires-clause-empty
cut-requires-clause-empty g c = (last_waits c.args.spare.now.items c.take_last-upper.new.self.items c.take_last-upper.result c.requires.rows.waiting c.take_last-upper.ensures.items).1

pub at-requires : goal.at-requires
at-requires g c =
    let at = read_at c.args.rows.now.items c.args.row c.requires.full.row c.index_mut.result.now c.requires.full.row_is c.index_mut.ensures.value in
    let full : length c.index_mut.result.now ≡ 64 = sym (ap length (read_row c.args.rows.now.items c.args.row c.requires.full.row c.index_mut.result.now c.requires.full.row_is c.index_mut.ensures.value)) ∙ c.requires.full.count_is in
    (upper_whole c.index_mut.result.now c.cut.new.upper c.args.cut c.cut.ensures.upper full c.requires.some c.requires.not_all).some

pub returns-clause-cut : goal.returns-clause-cut
returns-clause-cut g c =
    let at = read_at c.args.rows.now.items c.args.row c.requires.full.row c.index_mut.result.now c.requires.full.row_is c.index_mut.ensures.value in
    let full : length c.index_mut.result.now ≡ 64 = sym (ap length (read_row c.args.rows.now.items c.args.row c.requires.full.row c.index_mut.result.now c.requires.full.row_is c.index_mut.ensures.value)) ∙ c.requires.full.count_is in
    let places : deque_len c.args.rows.now < deque_capacity c.args.rows.now = omega (arith, c.requires.rows.places_rows, c.requires.room) in
    let rows_is = ok_there c.insert-2.result (deque_len c.args.rows.now) (deque_capacity c.args.rows.now) c.insert-2.ensures.items c.insert-2.ensures.full places in
    let cut = cut_made c.args.rows.now.items c.args.row c.args.cut c.index_mut.result.now c.cut.new.self c.cut.new.upper at full c.cut.ensures.lower c.cut.ensures.upper in
    rw rows_is cut

pub returns-clause-entries : goal.returns-clause-entries
returns-clause-entries g c =
    let at = read_at c.args.rows.now.items c.args.row c.requires.full.row c.index_mut.result.now c.requires.full.row_is c.index_mut.ensures.value in
    let full : length c.index_mut.result.now ≡ 64 = sym (ap length (read_row c.args.rows.now.items c.args.row c.requires.full.row c.index_mut.result.now c.requires.full.row_is c.index_mut.ensures.value)) ∙ c.requires.full.count_is in
    let places : deque_len c.args.rows.now < deque_capacity c.args.rows.now = omega (arith, c.requires.rows.places_rows, c.requires.room) in
    let rows_is = ok_there c.insert-2.result (deque_len c.args.rows.now) (deque_capacity c.args.rows.now) c.insert-2.ensures.items c.insert-2.ensures.full places in
    let cut = cut_made c.args.rows.now.items c.args.row c.args.cut c.index_mut.result.now c.cut.new.self c.cut.new.upper at full c.cut.ensures.lower c.cut.ensures.upper in
    rw rows_is (side_cut c.args.rows.now.items (insert (set c.args.rows.now.items c.args.row c.cut.new.self) (c.args.row + 1) c.cut.new.upper) c.args.row c.args.cut cut)

pub returns-clause-rows : goal.returns-clause-rows
returns-clause-rows g c =
    let at = read_at c.args.rows.now.items c.args.row c.requires.full.row c.index_mut.result.now c.requires.full.row_is c.index_mut.ensures.value in
    let full : length c.index_mut.result.now ≡ 64 = sym (ap length (read_row c.args.rows.now.items c.args.row c.requires.full.row c.index_mut.result.now c.requires.full.row_is c.index_mut.ensures.value)) ∙ c.requires.full.count_is in
    let places : deque_len c.args.rows.now < deque_capacity c.args.rows.now = omega (arith, c.requires.rows.places_rows, c.requires.room) in
    let rows_is = ok_there c.insert-2.result (deque_len c.args.rows.now) (deque_capacity c.args.rows.now) c.insert-2.ensures.items c.insert-2.ensures.full places in
    let cut = cut_made c.args.rows.now.items c.args.row c.args.cut c.index_mut.result.now c.cut.new.self c.cut.new.upper at full c.cut.ensures.lower c.cut.ensures.upper in
    let waits = last_waits c.args.spare.now.items c.take_last-upper.new.self.items c.take_last-upper.result c.requires.rows.waiting c.take_last-upper.ensures.items in
    let count = firsts_long g.K.Key.number c.args.firsts.now.items c.args.rows.now.items c.requires.rows.in_rows in
    let places_firsts : deque_len c.args.firsts.now < deque_capacity c.args.firsts.now = omega (arith, count, c.args.firsts.now.ok.0, c.args.rows.now.ok.0, c.requires.rows.places_firsts, c.requires.room) in
    let firsts_is = ok_there c.insert.result (deque_len c.args.firsts.now) (deque_capacity c.args.firsts.now) c.insert.ensures.items c.insert.ensures.full places_firsts in
    let long = ok_there c.insert-2.result (deque_len c.args.rows.now) (deque_capacity c.args.rows.now) c.insert-2.ensures.len c.insert-2.ensures.full places in
    let lower = lower_whole c.index_mut.result.now c.cut.new.self c.args.cut c.cut.ensures.lower full c.requires.some c.requires.not_all in
    let upper = upper_whole c.index_mut.result.now c.cut.new.upper c.args.cut c.cut.ensures.upper full c.requires.some c.requires.not_all in
    let least = least_got c.cut.new.upper (entry_in g.K.Key.number c.at.result) c.at.ensures in
    record {
      in_rows = rw (firsts_is, rows_is, insert_numbers g.K.Key.number c.args.firsts.now.items (c.args.row + 1) c.at.result.key) (in_rows_cut (map g.K.Key.number c.args.firsts.now.items) c.args.rows.now.items (insert (set c.args.rows.now.items c.args.row c.cut.new.self) (c.args.row + 1) c.cut.new.upper) c.args.row c.args.cut (c.args.row + 1) (g.K.Key.number c.at.result.key) c.requires.rows.in_rows cut c.requires.some lower upper refl least);
      waiting = waits.0;
      places_firsts = omega (arith, c.requires.rows.places_firsts, long, c.insert.ensures.capacity);
      places_rows = omega (arith, c.requires.rows.places_rows, long, c.insert-2.ensures.capacity);
      places_spare = omega (arith, c.requires.rows.places_spare, long);
    }
