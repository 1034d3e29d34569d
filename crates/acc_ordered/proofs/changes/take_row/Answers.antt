use Rattle.std.proofs.Common.{◌≡◌, ◌∷◌, [], length, ap, sym, ◌∙◌, refl, arith}
use Rattle.std.specs.Prelude.{map}
use Rattle.acc_base.proofs.Elements.{AllByRecursion-append}
use Rattle.acc_ordered.specs.Laid.{IsWaiting}
use Rattle.acc_ordered.proofs.Numbers.{remove_numbers, firsts_long, some_there}
use Rattle.acc_ordered.proofs.Reading.{read_row, read_at}
use Rattle.acc_ordered.proofs.Changing.{side_without, in_rows_without}
use Rattle.acc_ordered.proofs.HalfFull.{half_without}
use Rattle.acc_ordered.proofs.changes.take_row.Goals as goal

pub returns-in-Some-clause-rows : goal.returns-in-Some-clause-rows
returns-in-Some-clause-rows g c =
    let at = read_at c.args.rows.now.items c.args.row c.requires.alone.row c.in-Some.empty c.requires.alone.row_is (rw c.in-Some.is at c.remove-2.ensures.value) in
    let one : length c.in-Some.empty ≡ 1 = sym (ap length (read_row c.args.rows.now.items c.args.row c.requires.alone.row c.in-Some.empty c.requires.alone.row_is (rw c.in-Some.is at c.remove-2.ensures.value))) ∙ c.requires.alone.count_is in
    let long = firsts_long g.K.Key.number c.args.firsts.now.items c.args.rows.now.items c.requires.rows.in_rows in
    let within = (rw c.in-Some.is at c.remove-2.ensures.variant).0 refl in
    let shorter = rw c.in-Some.is at c.remove-2.ensures.len in
    let firsts_is = some_there c.remove.result c.remove.ensures.items (c.remove.ensures.variant.1 (omega (arith, within, long, c.args.firsts.now.ok.0, c.args.rows.now.ok.0))) in
    record {
      in_rows = rw (firsts_is, (rw c.in-Some.is at c.remove-2.ensures.items), remove_numbers g.K.Key.number c.args.firsts.now.items c.args.row) (in_rows_without (map g.K.Key.number c.args.firsts.now.items) c.args.rows.now.items c.args.row c.in-Some.empty c.requires.rows.in_rows at one);
      waiting = rw c.push_reserved.ensures.items (AllByRecursion-append IsWaiting c.args.spare.now.items (c.clear.new.self ∷ []) c.requires.rows.waiting (c.clear.ensures, tt));
      places_firsts = omega (arith, shorter, c.requires.rows.places_firsts);
      places_rows = omega (arith, shorter, c.requires.rows.places_rows);
      places_spare = omega (arith, shorter, c.requires.rows.places_spare);
    }

pub returns-in-Some-clause-entries : goal.returns-in-Some-clause-entries
returns-in-Some-clause-entries g c =
    let at = read_at c.args.rows.now.items c.args.row c.requires.alone.row c.in-Some.empty c.requires.alone.row_is (rw c.in-Some.is at c.remove-2.ensures.value) in
    let one : length c.in-Some.empty ≡ 1 = sym (ap length (read_row c.args.rows.now.items c.args.row c.requires.alone.row c.in-Some.empty c.requires.alone.row_is (rw c.in-Some.is at c.remove-2.ensures.value))) ∙ c.requires.alone.count_is in
    rw (rw c.in-Some.is at c.remove-2.ensures.items) (side_without c.args.rows.now.items c.args.row c.in-Some.empty at one)

pub returns-in-Some-clause-half_full : goal.returns-in-Some-clause-half_full
returns-in-Some-clause-half_full g c =
    let at = read_at c.args.rows.now.items c.args.row c.requires.alone.row c.in-Some.empty c.requires.alone.row_is (rw c.in-Some.is at c.remove-2.ensures.value) in
    let one : length c.in-Some.empty ≡ 1 = sym (ap length (read_row c.args.rows.now.items c.args.row c.requires.alone.row c.in-Some.empty c.requires.alone.row_is (rw c.in-Some.is at c.remove-2.ensures.value))) ∙ c.requires.alone.count_is in
    rw (rw c.in-Some.is at c.remove-2.ensures.items) (half_without c.args.rows.now.items c.args.row c.in-Some.empty at one c.requires.half_full)
