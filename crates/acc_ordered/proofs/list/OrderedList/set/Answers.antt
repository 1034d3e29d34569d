use Rattle.std.proofs.lemmas.List.{length-map, length-set}
use Rattle.acc_ordered.specs.Sound.{room_for}
use Rattle.std.proofs.Common.{◌≡◌, List, length, vec_len, deque_len, ap, sym, subst, ◌∙◌, arith}
use Rattle.std.specs.Prelude.{map}
use Rattle.acc_ordered.specs.Listing.{KeyValue, Listing, KeysRise, at_key, value_written, with_value}
use Rattle.acc_ordered.specs.Laid.{side_by_side}
use Rattle.acc_ordered.specs.Spots.{index_of}
use Rattle.acc_ordered.proofs.Searched.{with_got}
use Rattle.acc_ordered.proofs.Answering.{key_of_found, some_is}
use Rattle.acc_ordered.proofs.Written.{rise-with_value}
use Rattle.std.proofs.Common.{IsSome}
use Rattle.acc_ordered.proofs.list.OrderedList.set.Goals as goal

pub returns-clause-entries : goal.returns-clause-entries
returns-clause-entries g c =
    let is : side_by_side c.self.inside.rows.items ≡ c.args.self.now.entries = ap (λ (l : Listing g.row.T.Denot). l.entries) c.self.view_is in
    let found = c.locate-place.ensures.entry in
    let there : IsSome (at_key (g.K.Key.number c.args.key) (side_by_side c.self.inside.rows.items)) = rw is c.requires.there in
    let e = some_is (at_key (g.K.Key.number c.args.key) (side_by_side c.self.inside.rows.items)) there in
    c.write.ensures.entries e.0 (found ∙ e.1) ∙ with_got (g.K.Key.number c.args.key) c.args.value (side_by_side c.self.inside.rows.items) (index_of c.self.inside.rows.items c.locate-place.result) e.0 c.self.invariant.rows.in_rows.rising (found ∙ e.1) (key_of_found (g.K.Key.number c.args.key) (side_by_side c.self.inside.rows.items) e.0 e.1) ∙ ap (with_value (g.K.Key.number c.args.key) c.args.value) is

pub invariant_of-self : goal.invariant_of-self
invariant_of-self g c =
    let is : side_by_side c.self.inside.rows.items ≡ c.args.self.now.entries = ap (λ (l : Listing g.row.T.Denot). l.entries) c.self.view_is in
    let found = c.locate-place.ensures.entry in
    let there : IsSome (at_key (g.K.Key.number c.args.key) (side_by_side c.self.inside.rows.items)) = rw is c.requires.there in
    let e = some_is (at_key (g.K.Key.number c.args.key) (side_by_side c.self.inside.rows.items)) there in
    let new : side_by_side c.write.new.rows.items ≡ with_value (g.K.Key.number c.args.key) c.args.value (side_by_side c.self.inside.rows.items) = c.write.ensures.entries e.0 (found ∙ e.1) ∙ with_got (g.K.Key.number c.args.key) c.args.value (side_by_side c.self.inside.rows.items) (index_of c.self.inside.rows.items c.locate-place.result) e.0 c.self.invariant.rows.in_rows.rising (found ∙ e.1) (key_of_found (g.K.Key.number c.args.key) (side_by_side c.self.inside.rows.items) e.0 e.1) in
    record {
      rows = record {
        in_rows = c.write.ensures.in_rows (map g.K.Key.number c.self.inside.firsts.items) c.self.invariant.rows.in_rows (subst (λ (es : List (KeyValue g.row.T.Denot)). KeysRise es) (sym new) (rise-with_value (g.K.Key.number c.args.key) c.args.value (side_by_side c.self.inside.rows.items) c.self.invariant.rows.in_rows.rising));
        waiting = c.self.invariant.rows.waiting;
        places_firsts = omega (arith, c.self.invariant.rows.places_firsts);
        places_rows = omega (arith, c.self.invariant.rows.places_rows);
        places_spare = omega (arith, c.self.invariant.rows.places_spare);
      };
      half_full = c.write.ensures.half_full c.self.invariant.half_full;
      counted = omega (arith, c.self.invariant.counted, ap length new, length-map (side_by_side c.self.inside.rows.items) (value_written (g.K.Key.number c.args.key) c.args.value));
      few = omega (arith, c.self.invariant.few, c.write.ensures.len);
    }

pub returns-clause-room : goal.returns-clause-room
returns-clause-room g c =
    let is : side_by_side c.self.inside.rows.items ≡ c.args.self.now.entries = ap (λ (l : Listing g.row.T.Denot). l.entries) c.self.view_is in
    let found = c.locate-place.ensures.entry in
    let there : IsSome (at_key (g.K.Key.number c.args.key) (side_by_side c.self.inside.rows.items)) = rw is c.requires.there in
    let e = some_is (at_key (g.K.Key.number c.args.key) (side_by_side c.self.inside.rows.items)) there in
    let new : length (side_by_side c.write.new.rows.items) ≡ length (side_by_side c.self.inside.rows.items) = ap length (c.write.ensures.entries e.0 (found ∙ e.1)) ∙ length-set (side_by_side c.self.inside.rows.items) (index_of c.self.inside.rows.items c.locate-place.result) (record e.0 { value = c.args.value }) in
    ap (λ n. room_for n (vec_len c.self.inside.spare) (length (side_by_side c.write.new.rows.items))) c.write.ensures.len ∙ ap (room_for (deque_len c.self.inside.rows) (vec_len c.self.inside.spare)) new ∙ ap (λ (l : Listing g.row.T.Denot). l.room) c.self.view_is
