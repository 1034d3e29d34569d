use Rattle.std.proofs.Common.{◌++◌, ◌∷◌, [], Some, length, length-append, ap, ◌∙◌, arith}
use Rattle.acc_index.specs.Indexed.{live_entries}
use Rattle.acc_index.proofs.Indexing.{entries-append, entries_few, rising-push, ends-push}
use Rattle.acc_index.proofs.index.Index.push.Goals as goal

pub overflow_add-self : goal.overflow_add-self
overflow_add-self g c = let few = entries_few c.self.inside.items.items in omega (arith, few, c.self.invariant)

pub invariant_of-self : goal.invariant_of-self
invariant_of-self g c =
    let xs = c.self.inside.items.items in
    let more = entries-append xs (record { number = c.args.number; value = Some c.args.value } ∷ []) in
    let count = length-append (live_entries xs) ((c.args.number, c.args.value) ∷ []) in
    let is = c.push_reserved.ensures.items in (
      rw is (rising-push xs _ c.self.invariant.0 c.self.invariant.1 (rw (← c.self.view_is) at c.requires.above)),
      rw is (ends-push xs _),
      omega (arith, c.self.invariant, ap (λ es. length es) more, count, ap (λ es. length (live_entries es)) is),
      omega (arith, c.self.invariant, c.push_reserved.ensures.len),
    )

pub returns-clause-entries : goal.returns-clause-entries
returns-clause-entries g c =
    ap live_entries c.push_reserved.ensures.items
    ∙ entries-append c.self.inside.items.items (record { number = c.args.number; value = Some c.args.value } ∷ [])
    ∙ ap (λ s. s.entries ++ (c.args.number, c.args.value) ∷ []) c.self.view_is
