use Rattle.std.proofs.Common.{ℕ, ◌≡◌, ◌+◌, ◌<◌, ◌++◌, ◌∷◌, [], suc, List, length, take, get_or, sym, ap, append_assoc, ◌∙◌, arith}
use Rattle.std.proofs.lemmas.List.{take_all}
use Rattle.acc_ordered.specs.Listing.{KeyValue, told_in}
use Rattle.acc_ordered.specs.Pairs.{paired}
use Rattle.acc_ordered.proofs.Paired.{entries_length, told_next}
use Rattle.acc_ordered.proofs.rows.Row.copy_into.Goals as goal

pub returns-clause-ok : goal.returns-clause-ok
returns-clause-ok g c =
    let all = take_all c.loop-place.place c.args.self.now (omega (arith, c.loop-place.auto.place-end, c.len-place-end.ensures, entries_length g.K.Key.number c.args.self.now c.self.inside.keys.items c.self.inside.values.items c.self.view_is c.self.invariant.each, c.self.inside.keys.ok.0, c.self.inside.values.ok.0)) in
    c.loop-place.invariant ∙ ap (λ (es : List (KeyValue g.row.T.Denot)). c.args.copied.now.items ++ told_in (g.C.Telling.told c.args.telling.now) es) all

pub loop-place-preserved : goal.loop-place-preserved
loop-place-preserved g c =
    let ks = c.self.inside.keys.items in
    let vs = c.self.inside.values.items in
    let f = g.C.Telling.told c.args.telling.now in
    let n = c.loop-place.place in
    let k = c.index.result.now in
    let v = c.index-in-loop-place.result.now in
    let lt : n < length ks = omega (arith, c.loop-place.auto.place-end, c.len-place-end.ensures, c.self.inside.keys.ok.0, c.self.inside.values.ok.0) in
    let next : suc n ≡ n + 1 = omega arith in
    let told : c.tell.result ≡ f (g.K.Key.number (get_or ks n k)) (get_or vs n v) = c.tell.ensures ∙ ap (λ (j : g.row.K.Denot). f (g.K.Key.number j) v) c.index.ensures ∙ ap (λ (w : g.row.T.Denot). f (g.K.Key.number (get_or ks n k)) w) c.index-in-loop-place.ensures in
    let step : told_in f (take n (paired g.K.Key.number ks vs)) ++ c.tell.result ∷ [] ≡ told_in f (take (n + 1) (paired g.K.Key.number ks vs)) =
    ap (λ (u : g.row.U.Denot). told_in f (take n (paired g.K.Key.number ks vs)) ++ u ∷ []) told ∙ sym (told_next g.K.Key.number f ks vs n k v c.self.invariant.each lt) ∙ ap (λ (m : ℕ). told_in f (take m (paired g.K.Key.number ks vs))) next in
    (rw c.in_ok-push.was at c.push.ensures.items)
    ∙ ap (λ us. us ++ c.tell.result ∷ []) (c.loop-place.invariant ∙ ap (λ (es : List (KeyValue g.row.T.Denot)). c.args.copied.now.items ++ told_in f (take n es)) (sym c.self.view_is))
    ∙ append_assoc c.args.copied.now.items (told_in f (take n (paired g.K.Key.number ks vs))) (c.tell.result ∷ [])
    ∙ ap (λ us. c.args.copied.now.items ++ us) (step ∙ ap (λ (es : List (KeyValue g.row.T.Denot)). told_in f (take (n + 1) es)) c.self.view_is)
