use Rattle.std.proofs.Common.{List, ◌≡◌, ◌+◌, ◌++◌, ◌∷◌, [], length, set, ap, sym, ◌∙◌, refl, arith}
use Rattle.std.specs.Prelude.{map}
use Rattle.std.specs.List.{remove}
use Rattle.acc_base.proofs.Elements.{AllByRecursion-append}
use Rattle.acc_ordered.specs.Listing.{KeyValue}
use Rattle.acc_ordered.specs.Laid.{IsWaiting}
use Rattle.acc_ordered.proofs.Numbers.{remove_numbers, firsts_long, some_there}
use Rattle.acc_ordered.proofs.Placing.{row_is_row}
use Rattle.acc_ordered.proofs.Reading.{read_row}
use Rattle.acc_ordered.proofs.Joining.{upper_at, lower_at, old_lower_at, joined, in_rows_joined, whole_row}
use Rattle.acc_ordered.proofs.changes.join.Goals as goal

pub append-requires : goal.append-requires
append-requires g c =
    let f = c.requires.few in
    let upper = read_row c.args.rows.now.items (c.args.row + 1) f.upper c.in-Some.upper (upper_at c.args.rows.now.items c.args.row (c.args.row + 1) f refl) (rw c.in-Some.is at c.remove-2.ensures.value) in
    let lower = read_row c.remove-2.new.self.items c.args.row f.lower c.index_mut.result.now (rw (rw c.in-Some.is at c.remove-2.ensures.items) (lower_at c.args.rows.now.items c.args.row (c.args.row + 1) f refl)) c.index_mut.ensures.value in
    omega (arith, f.few, ap length upper, ap length lower)

pub returns-in-Some-clause-joined : goal.returns-in-Some-clause-joined
returns-in-Some-clause-joined g c =
    let f = c.requires.few in
    let upper = read_row c.args.rows.now.items (c.args.row + 1) f.upper c.in-Some.upper (upper_at c.args.rows.now.items c.args.row (c.args.row + 1) f refl) (rw c.in-Some.is at c.remove-2.ensures.value) in
    let lower = read_row c.remove-2.new.self.items c.args.row f.lower c.index_mut.result.now (rw (rw c.in-Some.is at c.remove-2.ensures.items) (lower_at c.args.rows.now.items c.args.row (c.args.row + 1) f refl)) c.index_mut.ensures.value in
    let is : c.append.new.self ≡ f.lower ++ f.upper = c.append.ensures ∙ ap (λ (es : List (KeyValue g.row.T.Denot)). es ++ c.in-Some.upper) (sym lower) ∙ ap (λ (es : List (KeyValue g.row.T.Denot)). f.lower ++ es) (sym upper) in
    rw (rw c.in-Some.is at c.remove-2.ensures.items) (joined c.args.rows.now.items c.args.row (c.args.row + 1) c.append.new.self f refl is)

pub returns-in-Some-clause-rows : goal.returns-in-Some-clause-rows
returns-in-Some-clause-rows g c =
    let f = c.requires.few in
    let upper = read_row c.args.rows.now.items (c.args.row + 1) f.upper c.in-Some.upper (upper_at c.args.rows.now.items c.args.row (c.args.row + 1) f refl) (rw c.in-Some.is at c.remove-2.ensures.value) in
    let lower = read_row c.remove-2.new.self.items c.args.row f.lower c.index_mut.result.now (rw (rw c.in-Some.is at c.remove-2.ensures.items) (lower_at c.args.rows.now.items c.args.row (c.args.row + 1) f refl)) c.index_mut.ensures.value in
    let is : c.append.new.self ≡ f.lower ++ f.upper = c.append.ensures ∙ ap (λ (es : List (KeyValue g.row.T.Denot)). es ++ c.in-Some.upper) (sym lower) ∙ ap (λ (es : List (KeyValue g.row.T.Denot)). f.lower ++ es) (sym upper) in
    let whole = row_is_row c.args.rows.now.items c.args.row f.lower c.requires.rows.in_rows.each (old_lower_at c.args.rows.now.items c.args.row f) in
    let j = joined c.args.rows.now.items c.args.row (c.args.row + 1) c.append.new.self f refl is in
    let long = firsts_long g.K.Key.number c.args.firsts.now.items c.args.rows.now.items c.requires.rows.in_rows in
    let within = (rw c.in-Some.is at c.remove-2.ensures.variant).0 refl in
    let shorter = rw c.in-Some.is at c.remove-2.ensures.len in
    let firsts_is = some_there c.remove.result c.remove.ensures.items (c.remove.ensures.variant.1 (omega (arith, within, long, c.args.firsts.now.ok.0, c.args.rows.now.ok.0))) in
    record {
      in_rows = rw (firsts_is, (rw c.in-Some.is at c.remove-2.ensures.items), remove_numbers g.K.Key.number c.args.firsts.now.items (c.args.row + 1)) (in_rows_joined (map g.K.Key.number c.args.firsts.now.items) c.args.rows.now.items (set (remove c.args.rows.now.items (c.args.row + 1)) c.args.row c.append.new.self) c.args.row (c.args.row + 1) c.requires.rows.in_rows j (whole_row f.lower f.upper c.append.new.self whole (omega (arith, f.few)) is) refl);
      waiting = rw c.push_reserved.ensures.items (AllByRecursion-append IsWaiting c.args.spare.now.items (c.clear.new.self ∷ []) c.requires.rows.waiting (c.clear.ensures, tt));
      places_firsts = omega (arith, shorter, c.requires.rows.places_firsts);
      places_rows = omega (arith, shorter, c.requires.rows.places_rows);
      places_spare = omega (arith, shorter, c.requires.rows.places_spare);
    }
