use Rattle.std.proofs.Common.{◌++◌, List, length, ap, ◌∙◌, arith}
use Rattle.std.specs.Prelude.{IsOk}
use Rattle.acc_ordered.specs.Listing.{KeyValue}
use Rattle.acc_ordered.specs.Pairs.{paired}
use Rattle.acc_ordered.proofs.Paired.{entries_length, paired_append}
use Rattle.acc_ordered.proofs.rows.Row.append.Goals as goal

pub invariant_of-self : goal.invariant_of-self
invariant_of-self g c =
    let len = entries_length g.K.Key.number c.args.self.now c.self.inside.keys.items c.self.inside.values.items c.self.view_is c.self.invariant.each in
    let more = entries_length g.K.Key.number c.args.upper.now c.upper.inside.keys.items c.upper.inside.values.items c.upper.view_is c.upper.invariant.each in
    let ok : IsOk c.extend_from_slice.result = c.extend_from_slice.ensures.succeeds (omega (arith, c.requires, c.self.invariant.keys, len, more, ap length c.deref.ensures.value, c.self.inside.keys.ok.0, c.self.inside.values.ok.0)) in
    let ok_values : IsOk c.extend_from_slice-2.result = c.extend_from_slice-2.ensures.succeeds (omega (arith, c.requires, c.self.invariant.values, len, more, c.self.invariant.each, c.upper.invariant.each, ap length c.deref-2.ensures.value, c.self.inside.keys.ok.0, c.self.inside.values.ok.0)) in
    record {
      each = omega (arith, rw ok at c.extend_from_slice.ensures.len, rw ok_values at c.extend_from_slice-2.ensures.len, c.extend_from_slice.new.self.ok.0, c.extend_from_slice-2.new.self.ok.0, c.self.invariant.each, c.upper.invariant.each, ap length c.deref.ensures.value, ap length c.deref-2.ensures.value, c.self.inside.keys.ok.0, c.self.inside.values.ok.0);
      most = omega (arith, c.requires, rw ok at c.extend_from_slice.ensures.len, c.extend_from_slice.new.self.ok.0, len, more, ap length c.deref.ensures.value, c.self.inside.keys.ok.0, c.self.inside.values.ok.0);
      keys = omega (arith, c.self.invariant.keys, c.extend_from_slice.ensures.capacity);
      values = omega (arith, c.self.invariant.values, c.extend_from_slice-2.ensures.capacity);
    }

pub returns : goal.returns
returns g c =
    let len = entries_length g.K.Key.number c.args.self.now c.self.inside.keys.items c.self.inside.values.items c.self.view_is c.self.invariant.each in
    let more = entries_length g.K.Key.number c.args.upper.now c.upper.inside.keys.items c.upper.inside.values.items c.upper.view_is c.upper.invariant.each in
    let ok : IsOk c.extend_from_slice.result = c.extend_from_slice.ensures.succeeds (omega (arith, c.requires, c.self.invariant.keys, len, more, ap length c.deref.ensures.value, c.self.inside.keys.ok.0, c.self.inside.values.ok.0)) in
    let ok_values : IsOk c.extend_from_slice-2.result = c.extend_from_slice-2.ensures.succeeds (omega (arith, c.requires, c.self.invariant.values, len, more, c.self.invariant.each, c.upper.invariant.each, ap length c.deref-2.ensures.value, c.self.inside.keys.ok.0, c.self.inside.values.ok.0)) in
    ap (λ ks. paired g.K.Key.number ks c.extend_from_slice-2.new.self.items) ((rw ok at c.extend_from_slice.ensures.items) ∙ ap (λ ks. c.self.inside.keys.items ++ ks) c.deref.ensures.value)
    ∙ ap (λ vs. paired g.K.Key.number (c.self.inside.keys.items ++ c.upper.inside.keys.items) vs) ((rw ok_values at c.extend_from_slice-2.ensures.items) ∙ ap (λ vs. c.self.inside.values.items ++ vs) c.deref-2.ensures.value)
    ∙ paired_append g.K.Key.number c.self.inside.keys.items c.self.inside.values.items c.upper.inside.keys.items c.upper.inside.values.items c.self.invariant.each
    ∙ ap (λ (es : List (KeyValue g.row.T.Denot)). es ++ paired g.K.Key.number c.upper.inside.keys.items c.upper.inside.values.items) c.self.view_is
    ∙ ap (λ (es : List (KeyValue g.row.T.Denot)). c.args.self.now ++ es) c.upper.view_is
