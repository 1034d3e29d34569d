use Rattle.std.proofs.Common.{◌≡◌, ◌++◌, ◌∷◌, [], List, ap, ◌∙◌, length, arith}
use Rattle.std.specs.Prelude.{map}
use Rattle.std.specs.List.{insert}
use Rattle.std.proofs.lemmas.List.{map-append}
use Rattle.acc_ordered.specs.Listing.{KeyValue, keyed}
use Rattle.acc_ordered.proofs.Starting.{last_waits, started}
use Rattle.acc_ordered.proofs.changes.start.Goals as goal

pub insert_at-requires-clause-within : goal.insert_at-requires-clause-within
insert_at-requires-clause-within g c = omega arith

pub insert_at-requires-clause-free : goal.insert_at-requires-clause-free
insert_at-requires-clause-free g c = omega (arith, ap length (last_waits c.args.spare.now.items c.take_last-row.new.self.items c.take_last-row.result c.requires.rows.waiting c.take_last-row.ensures.items).1)

pub returns-clause-rows : goal.returns-clause-rows
returns-clause-rows g c =
    let e = keyed (g.K.Key.number c.args.key) c.args.value in
    let waits = last_waits c.args.spare.now.items c.take_last-row.new.self.items c.take_last-row.result c.requires.rows.waiting c.take_last-row.ensures.items in
    let is : c.insert_at.new.self ≡ e ∷ [] = c.insert_at.ensures ∙ ap (λ (es : List (KeyValue g.row.T.Denot)). insert es 0 e) waits.1 in
    let first = started (map g.K.Key.number c.args.firsts.now.items) c.args.rows.now.items e c.insert_at.new.self c.requires.rows.in_rows c.requires.none is in
    record {
      in_rows = rw (c.push_back_reserved-2.ensures.items, c.push_back_reserved.ensures.items, map-append g.K.Key.number c.args.firsts.now.items (c.args.key ∷ [])) first;
      waiting = waits.0;
      places_firsts = omega (arith, c.requires.rows.places_firsts);
      places_rows = omega (arith, c.requires.rows.places_rows);
      places_spare = omega (arith, c.requires.rows.places_spare);
    }

pub returns-clause-entries : goal.returns-clause-entries
returns-clause-entries g c =
    let e = keyed (g.K.Key.number c.args.key) c.args.value in
    let waits = last_waits c.args.spare.now.items c.take_last-row.new.self.items c.take_last-row.result c.requires.rows.waiting c.take_last-row.ensures.items in
    let is : c.insert_at.new.self ≡ e ∷ [] = c.insert_at.ensures ∙ ap (λ (es : List (KeyValue g.row.T.Denot)). insert es 0 e) waits.1 in
    rw (c.push_back_reserved.ensures.items, c.requires.none) (ap (λ (es : List (KeyValue g.row.T.Denot)). es ++ []) is)

pub returns-clause-half_full : goal.returns-clause-half_full
returns-clause-half_full g c =
    let e = keyed (g.K.Key.number c.args.key) c.args.value in
    let waits = last_waits c.args.spare.now.items c.take_last-row.new.self.items c.take_last-row.result c.requires.rows.waiting c.take_last-row.ensures.items in
    let is : c.insert_at.new.self ≡ e ∷ [] = c.insert_at.ensures ∙ ap (λ (es : List (KeyValue g.row.T.Denot)). insert es 0 e) waits.1 in
    rw (c.push_back_reserved.ensures.items, c.requires.none) (omega (arith, ap length is), tt)
