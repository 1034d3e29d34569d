use Rattle.std.proofs.Common.{◌≡◌, ◌-◌, List, length, take, drop, ap, ◌∙◌, arith}
use Rattle.std.specs.Prelude.{IsOk}
use Rattle.std.proofs.lemmas.List.{length-take, length-drop, take_rest}
use Rattle.acc_ordered.specs.Listing.{KeyValue}
use Rattle.acc_ordered.specs.Pairs.{paired}
use Rattle.acc_ordered.proofs.Paired.{entries_length, paired_take, paired_drop, behind_none}
use Rattle.acc_ordered.proofs.rows.Row.cut.Goals as goal

pub offset_bounds-deref-place : goal.offset_bounds-deref-place
offset_bounds-deref-place g c = omega (arith, c.requires.within, entries_length g.K.Key.number c.args.self.now c.self.inside.keys.items c.self.inside.values.items c.self.view_is c.self.invariant.each, ap length c.deref.ensures.value)

pub slice_bounds-extend_from_slice-count : goal.slice_bounds-extend_from_slice-count
slice_bounds-extend_from_slice-count g c = omega (arith, c.requires.within, entries_length g.K.Key.number c.args.self.now c.self.inside.keys.items c.self.inside.values.items c.self.view_is c.self.invariant.each, ap length c.deref.ensures.value)

pub slice_bounds-extend_from_slice-start : goal.slice_bounds-extend_from_slice-start
slice_bounds-extend_from_slice-start g c = omega (arith, c.requires.within, entries_length g.K.Key.number c.args.self.now c.self.inside.keys.items c.self.inside.values.items c.self.view_is c.self.invariant.each, ap length c.deref.ensures.value)

pub offset_bounds-deref-place-2 : goal.offset_bounds-deref-place-2
offset_bounds-deref-place-2 g c = omega (arith, c.requires.within, entries_length g.K.Key.number c.args.self.now c.self.inside.keys.items c.self.inside.values.items c.self.view_is c.self.invariant.each, c.self.invariant.each, ap length c.deref-2.ensures.value)

pub slice_bounds-extend_from_slice-count-2 : goal.slice_bounds-extend_from_slice-count-2
slice_bounds-extend_from_slice-count-2 g c = omega (arith, c.requires.within, entries_length g.K.Key.number c.args.self.now c.self.inside.keys.items c.self.inside.values.items c.self.view_is c.self.invariant.each, c.self.invariant.each, ap length c.deref-2.ensures.value)

pub slice_bounds-extend_from_slice-start-2 : goal.slice_bounds-extend_from_slice-start-2
slice_bounds-extend_from_slice-start-2 g c = omega (arith, c.requires.within, entries_length g.K.Key.number c.args.self.now c.self.inside.keys.items c.self.inside.values.items c.self.view_is c.self.invariant.each, c.self.invariant.each, ap length c.deref-2.ensures.value)

-- what is put behind no keys, or no values, is all there is
pub invariant_of-upper : goal.invariant_of-upper
invariant_of-upper g c =
    let none : length c.upper.inside.keys.items ≡ 0 = omega (arith, ap length c.requires.empty, entries_length g.K.Key.number c.args.upper.now c.upper.inside.keys.items c.upper.inside.values.items c.upper.view_is c.upper.invariant.each) in
    let ok : IsOk c.extend_from_slice.result = c.extend_from_slice.ensures.succeeds (omega (arith, none, c.upper.invariant.keys, c.self.invariant.most, length-take (length c.deref.result.now - c.args.place) (drop c.args.place c.deref.result.now), length-drop c.args.place c.deref.result.now, ap length c.deref.ensures.value, c.upper.inside.keys.ok.0, c.upper.inside.values.ok.0)) in
    let ok_values : IsOk c.extend_from_slice-2.result = c.extend_from_slice-2.ensures.succeeds (omega (arith, none, c.upper.invariant.values, c.upper.invariant.each, c.self.invariant.most, c.self.invariant.each, length-take (length c.deref-2.result.now - c.args.place) (drop c.args.place c.deref-2.result.now), length-drop c.args.place c.deref-2.result.now, ap length c.deref-2.ensures.value, c.upper.inside.keys.ok.0, c.upper.inside.values.ok.0)) in
    let keys : length c.extend_from_slice.new.self.items ≡ length c.self.inside.keys.items - c.args.place = omega (arith, none, rw ok at c.extend_from_slice.ensures.len, c.extend_from_slice.new.self.ok.0, length-take (length c.deref.result.now - c.args.place) (drop c.args.place c.deref.result.now), length-drop c.args.place c.deref.result.now, ap length c.deref.ensures.value, c.upper.inside.keys.ok.0, c.upper.inside.values.ok.0) in
    let values : length c.extend_from_slice-2.new.self.items ≡ length c.self.inside.values.items - c.args.place = omega (arith, none, rw ok_values at c.extend_from_slice-2.ensures.len, c.extend_from_slice-2.new.self.ok.0, length-take (length c.deref-2.result.now - c.args.place) (drop c.args.place c.deref-2.result.now), length-drop c.args.place c.deref-2.result.now, ap length c.deref-2.ensures.value, c.upper.invariant.each, c.upper.inside.keys.ok.0, c.upper.inside.values.ok.0) in
    record {
      each = omega (arith, keys, values, c.self.invariant.each);
      most = omega (arith, keys, c.self.invariant.most);
      keys = omega (arith, c.upper.invariant.keys, c.extend_from_slice.ensures.capacity);
      values = omega (arith, c.upper.invariant.values, c.extend_from_slice-2.ensures.capacity);
    }

pub returns-clause-lower : goal.returns-clause-lower
returns-clause-lower g c =
    ap (λ ks. paired g.K.Key.number ks c.truncate-2.new.self.items) c.truncate.ensures.items
    ∙ ap (λ vs. paired g.K.Key.number (take c.args.place c.self.inside.keys.items) vs) c.truncate-2.ensures.items
    ∙ paired_take g.K.Key.number c.self.inside.keys.items c.self.inside.values.items c.args.place c.self.invariant.each
    ∙ ap (λ (es : List (KeyValue g.row.T.Denot)). take c.args.place es) c.self.view_is

pub returns-clause-upper : goal.returns-clause-upper
returns-clause-upper g c =
    let none : length c.upper.inside.keys.items ≡ 0 = omega (arith, ap length c.requires.empty, entries_length g.K.Key.number c.args.upper.now c.upper.inside.keys.items c.upper.inside.values.items c.upper.view_is c.upper.invariant.each) in
    let ok : IsOk c.extend_from_slice.result = c.extend_from_slice.ensures.succeeds (omega (arith, none, c.upper.invariant.keys, c.self.invariant.most, length-take (length c.deref.result.now - c.args.place) (drop c.args.place c.deref.result.now), length-drop c.args.place c.deref.result.now, ap length c.deref.ensures.value, c.upper.inside.keys.ok.0, c.upper.inside.values.ok.0)) in
    let ok_values : IsOk c.extend_from_slice-2.result = c.extend_from_slice-2.ensures.succeeds (omega (arith, none, c.upper.invariant.values, c.upper.invariant.each, c.self.invariant.most, c.self.invariant.each, length-take (length c.deref-2.result.now - c.args.place) (drop c.args.place c.deref-2.result.now), length-drop c.args.place c.deref-2.result.now, ap length c.deref-2.ensures.value, c.upper.inside.keys.ok.0, c.upper.inside.values.ok.0)) in
    let keys : c.extend_from_slice.new.self.items ≡ drop c.args.place c.self.inside.keys.items = (rw ok at c.extend_from_slice.ensures.items) ∙ behind_none c.upper.inside.keys.items _ none ∙ take_rest c.deref.result.now c.args.place ∙ ap (λ (ks : List g.row.K.Denot). drop c.args.place ks) c.deref.ensures.value in
    let values : c.extend_from_slice-2.new.self.items ≡ drop c.args.place c.self.inside.values.items = (rw ok_values at c.extend_from_slice-2.ensures.items) ∙ behind_none c.upper.inside.values.items _ (omega (arith, none, c.upper.invariant.each)) ∙ take_rest c.deref-2.result.now c.args.place ∙ ap (λ (vs : List g.row.T.Denot). drop c.args.place vs) c.deref-2.ensures.value in
    ap (λ ks. paired g.K.Key.number ks c.extend_from_slice-2.new.self.items) keys
    ∙ ap (λ vs. paired g.K.Key.number (drop c.args.place c.self.inside.keys.items) vs) values
    ∙ paired_drop g.K.Key.number c.self.inside.keys.items c.self.inside.values.items c.args.place c.self.invariant.each
    ∙ ap (λ (es : List (KeyValue g.row.T.Denot)). drop c.args.place es) c.self.view_is
