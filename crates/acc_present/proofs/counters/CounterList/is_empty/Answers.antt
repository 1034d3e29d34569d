use Rattle.std.proofs.Common.{ℕ, ◌≡◌, refl, ap, sym, ◌∙◌, List, [], ◌∷◌}
use Rattle.acc_ordered.specs.Listing.{KeyValue}
use Rattle.acc_present.specs.KeptCounters.{CountersState, counters_in}
use Rattle.acc_present.proofs.counters.CounterList.is_empty.Goals as goal

-- there is no counter just where there is no entry
none_of : (entries : List (KeyValue ℕ)) → counters_in entries ≡ [] → entries ≡ []
none_of [] e = refl
none_of (x ∷ xs) e = cc

pub returns : goal.returns
returns c =
    let entries = c.self.inside.counts.entries in
    let is : counters_in entries ≡ c.args.self.now.counters = ap (λ (s : CountersState). s.counters) c.self.view_is in (
      λ t. sym is ∙ ap counters_in (c.is_empty.ensures.0 t),
      λ e. c.is_empty.ensures.1 (none_of entries (is ∙ e)),
    )
