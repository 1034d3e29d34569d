use Rattle.std.proofs.Common.{◌≡◌, true, sym, ap, ◌∙◌, arith}
use Rattle.acc_index.specs.Indexed.{ends_gone}
use Rattle.acc_index.proofs.Indexing.{last_taken}
use Rattle.acc_index.proofs.index.trim.Goals as goal

pub loop-items-preserved-in-loop-items : goal.loop-items-preserved-in-loop-items
loop-items-preserved-in-loop-items g c =
    let i = c.loop-items.invariant in
    let gone : ends_gone c.loop-items.items.items ≡ true = sym (c.is_last_gone.ensures ∙ ap ends_gone c.deref.ensures.value) ∙ c.loop-items-test.true in
    let left = last_taken c.loop-items.items.items c.pop.new.self.items c.pop.result c.pop.ensures.items gone i.rising in
    record { rising = left.0; entries = left.1 ∙ i.entries; len = omega (arith, c.pop.ensures.len, i.len); capacity = c.pop.ensures.capacity ∙ i.capacity }

pub loop-items-preserved-in-loop-items-2 : goal.loop-items-preserved-in-loop-items-2
loop-items-preserved-in-loop-items-2 g c =
    let i = c.loop-items.invariant in
    let gone : ends_gone c.loop-items.items.items ≡ true = sym (c.is_last_gone.ensures ∙ ap ends_gone c.deref.ensures.value) ∙ c.loop-items-test.true in
    let left = last_taken c.loop-items.items.items c.pop.new.self.items c.pop.result c.pop.ensures.items gone i.rising in
    record { rising = left.0; entries = left.1 ∙ i.entries; len = omega (arith, c.pop.ensures.len, i.len); capacity = c.pop.ensures.capacity ∙ i.capacity }
