use Rattle.std.proofs.Common.{◌≡◌, ◌++◌, ◌∷◌, [], Some, None, length, get_or, take, ap, sym, ◌∙◌, arith}
use Rattle.std.specs.Prelude.{map, vec_capacity}
use Rattle.std.proofs.lemmas.List.{map-append, length-map}
use Rattle.acc_index.specs.Indexed.{live_entries}
use Rattle.acc_index.proofs.Indexing.{live_more, live_same, live_room}
use Rattle.acc_present.specs.Present.{region_of}
use Rattle.acc_present.specs.Kept.{region_in, regions_in}
use Rattle.acc_present.proofs.copying.copy_regions_of.Goals as goal
use Rattle.acc_present.proofs.copying.copy_regions_of.Goals.{in-Some+in_ok-copy_region, in_default}

pub push_reserved-requires : goal.push_reserved-requires
push_reserved-requires c =
    let xs = c.items-place-items.result.now in
    let i = c.loop-place.place-index in
    let here : (get_or xs i c.place-item.result).value ≡ Some c.in-Some.holdings = ap (λ e. e.value) (sym c.place-item.is) ∙ c.in-Some.is in
    let few = live_room xs i c.place-item.result c.in-Some.holdings c.loop-place-test.true here in
    omega (arith, few, ap (λ es. length es) c.items-place-items.ensures, ap (λ rs. length rs) c.loop-place.invariant.copied, length-map c.loop-place.copied.items region_of, length-map (live_entries (take i xs)) region_in, c.loop-place.invariant.exact, c.loop-place.copied.ok.0)

pub loop-place-preserved : goal.loop-place-preserved
loop-place-preserved c =
    let xs = c.items-place-items.result.now in
    let i = c.loop-place.place-index in
    elim c.match-place.branch [
      | in-Some+in_ok-copy_region w ↦
          let here : (get_or xs i c.place-item.result).value ≡ Some w.in-Some.holdings = ap (λ e. e.value) (sym c.place-item.is) ∙ w.in-Some.is in
          record {
            copied =
                ap (λ v. map region_of v.items) w.copied-is
                ∙ ap (map region_of) w.push_reserved.ensures.items
                ∙ map-append region_of c.loop-place.copied.items (w.in_ok-copy_region.field-0 ∷ [])
                ∙ ap (λ rs. rs ++ region_of w.in_ok-copy_region.field-0 ∷ []) c.loop-place.invariant.copied
                ∙ ap (λ r. regions_in (live_entries (take i xs)) ++ r ∷ []) (w.in_ok-copy_region.ensures.ok ∙ ap (λ hs. record { number = c.place-item.result.number; holdings = hs }) w.deref.ensures.value ∙ ap (λ e. record { number = e.number; holdings = w.in-Some.holdings.items }) c.place-item.is)
                ∙ sym (ap regions_in (live_more xs i c.place-item.result w.in-Some.holdings c.loop-place-test.true here) ∙ map-append region_in (live_entries (take i xs)) (((get_or xs i c.place-item.result).number, w.in-Some.holdings) ∷ []));
            exact = ap vec_capacity w.copied-is ∙ w.push_reserved.ensures.capacity ∙ c.loop-place.invariant.exact;
          }
      | in_default w ↦
          let gone : (get_or xs i c.place-item.result).value ≡ None = ap (λ e. e.value) (sym c.place-item.is) ∙ w.in_default.is in
          record {
            copied = ap (λ v. map region_of v.items) w.copied-is ∙ c.loop-place.invariant.copied ∙ sym (ap regions_in (live_same xs i c.place-item.result c.loop-place-test.true gone));
            exact = ap vec_capacity w.copied-is ∙ c.loop-place.invariant.exact;
          }
    ]
