use Rattle.std.proofs.Common.{ℕ, ◌≡◌, ◌<◌, ◌-◌, None, IsSome, length, refl, sym, ap, subst, ◌∙◌, List, get_or, set, vec_len, vec_capacity, rules}
use Rattle.acc_index.specs.declared.index.IndexEntry.{IndexEntry}
use Rattle.acc_index.specs.Indexed.{AreEntriesRising, IsNumberAt, value_at, with_other, with_own, live_entries, blank_entry}
use Rattle.acc_index.proofs.Indexing.{read_number, read_value, value_here, value_none, entries-other, length-others, rising-set, ends-set}
use Rattle.acc_index.proofs.index.Index.value_mut_near.Goals as goal

-- the entry at a place has the number, and a value
record IsFound {T : Type 0} (xs : List (IndexEntry T)) (at number : ℕ) (e : IndexEntry T) : Type 0 where
  within : at < length xs
  number_at : (get_or xs at blank_entry).number ≡ number
  number_is : e.number ≡ number
  value_is : value_at number (live_entries xs) ≡ e.value
  there : IsSome (get_or xs at blank_entry).value

found : {T : Type 0} (xs : List (IndexEntry T)) (at number : ℕ) (e : IndexEntry T) → AreEntriesRising xs → IsNumberAt xs number at → e ≡ get_or xs at e → IsSome (value_at number (live_entries xs)) → IsFound xs at number e
found {T} xs at number e rise is same some =
    let value : value_at number (live_entries xs) ≡ (get_or xs at blank_entry).value = value_here xs at number rise is.in_bounds is.is in
    record {
      within = is.in_bounds;
      number_at = is.is;
      number_is = ap (λ (d : IndexEntry T). d.number) same ∙ sym (read_number xs at e is.in_bounds) ∙ is.is;
      value_is = value ∙ read_value xs at e is.in_bounds ∙ ap (λ (d : IndexEntry T). d.value) (sym same);
      there = subst IsSome value some;
    }

with_own-entries : {T : Type 0} (xs : List (IndexEntry T)) (at number : ℕ) (e : IndexEntry T) (w : T) → AreEntriesRising xs → IsFound xs at number e → live_entries (set xs at (with_own e w)) ≡ with_other number w (live_entries xs)
with_own-entries xs at number e w rise f = entries-other xs at number w (with_own e w) rise f.within f.number_at f.there f.number_is refl

pub unreachable-requires : goal.unreachable-requires
unreachable-requires g c =
    let none : value_at c.args.number (live_entries c.self.inside.items.items) ≡ None = value_none c.self.inside.items.items c.args.number (rw c.deref.ensures.value at c.in_default.ensures.none) in
    let some : IsSome (value_at c.args.number (live_entries c.self.inside.items.items)) = rw (← c.self.view_is) at c.requires in
    absurd (search (rules, rw none at some))

pub value_mut-requires : goal.value_mut-requires
value_mut-requires g c =
    let f = found c.self.inside.items.items c.in-Some.at c.args.number c.index_mut.result.now c.self.invariant.0 (rw c.deref.ensures.value at c.in-Some.ensures.found) c.index_mut.ensures.value (rw (← c.self.view_is) at c.requires) in
    subst IsSome f.value_is (rw (← c.self.view_is) at c.requires)

pub invariant_of-self-lent : goal.invariant_of-self-lent
invariant_of-self-lent g c w =
    let xs = c.self.inside.items.items in
    let e = c.index_mut.result.now in
    let f = found xs c.in-Some.at c.args.number e c.self.invariant.0 (rw c.deref.ensures.value at c.in-Some.ensures.found) c.index_mut.ensures.value (rw (← c.self.view_is) at c.requires) in
    let is = with_own-entries xs c.in-Some.at c.args.number e w c.self.invariant.0 f in (
      rising-set xs c.in-Some.at (with_own e w) c.self.invariant.0 f.within (f.number_is ∙ sym f.number_at),
      ends-set xs c.in-Some.at (with_own e w) refl c.self.invariant.1,
      c.self.invariant.2 ∙ sym (ap (λ (es : List (ℕ × g.row.T.Denot)). length es) is ∙ length-others c.args.number w (live_entries xs)),
      c.self.invariant.3,
    )

pub returns : goal.returns
returns g c =
    let xs = c.self.inside.items.items in
    let e = c.index_mut.result.now in
    let f = found xs c.in-Some.at c.args.number e c.self.invariant.0 (rw c.deref.ensures.value at c.in-Some.ensures.found) c.index_mut.ensures.value (rw (← c.self.view_is) at c.requires) in (
      (refl, λ w. rw (← c.self.view_is) (λ i. record { entries = (with_own-entries xs c.in-Some.at c.args.number e w c.self.invariant.0 f) i; gone = vec_len c.self.inside.items - c.self.inside.count; room = vec_capacity c.self.inside.items - vec_len c.self.inside.items })),
      record { writes_back = tt; value = rw (← c.self.view_is) (f.value_is ∙ c.value_mut.ensures.value) },
    )
