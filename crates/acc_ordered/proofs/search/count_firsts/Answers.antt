use Rattle.std.proofs.Common.{ℕ, ◌≡◌, ◌<◌, ◌≤◌, true, false, ap, sym, ◌∙◌, arith}
use Rattle.std.specs.Prelude.{nat_lt}
use Rattle.std.proofs.lemmas.Bool.{not-true, not-false}
use Rattle.std.proofs.lemmas.Bool.Decides.{nat_tests}
use Rattle.acc_ordered.proofs.Placing.{pairs_front, pairs_behind}
use Rattle.acc_ordered.proofs.Halved.{split_first, split_second}
use Rattle.acc_ordered.proofs.search.count_firsts.Goals as goal
use Rattle.acc_ordered.proofs.search.count_firsts.Goals.{then-is_empty, else-is_empty}

high : {a n b : ℕ} → nat_lt a n ≡ false → a ≡ b → n ≤ b
high e same = grind (arith, nat_tests, e, same)

low : {a n b : ℕ} → nat_lt a n ≡ true → a ≡ b → b < n
low e same = grind (arith, nat_tests, e, same)

pub count_many-requires-clause-rising : goal.count_many-requires-clause-rising
count_many-requires-clause-rising g c = pairs_front (λ a b. g.K.Key.number a < g.K.Key.number b) c.as_slices.result.0.now c.as_slices.result.1.now (rw (← c.as_slices.ensures.items) at c.requires.rising)

pub count_many-requires-else-not-is_below-clause-rising : goal.count_many-requires-else-not-is_below-clause-rising
count_many-requires-else-not-is_below-clause-rising g c = pairs_behind (λ a b. g.K.Key.number a < g.K.Key.number b) c.as_slices.result.0.now c.as_slices.result.1.now (rw (← c.as_slices.ensures.items) at c.requires.rising)

pub returns-then-not-is_below-clause-split : goal.returns-then-not-is_below-clause-split
returns-then-not-is_below-clause-split g c = elim c.if-is_empty.branch [
  | then-is_empty w ↦ split_first g.K.Key.number (g.K.Key.number c.args.key) c.args.keys.now.items c.as_slices.result.0.now c.as_slices.result.1.now c.count_many.result c.args.key c.as_slices.ensures.items c.requires.rising (λ some. absurd (grind (arith, nat_tests, some, w.if-is_empty.true, c.is_empty.ensures))) c.count_many.ensures.split
  | else-is_empty w ↦ split_first g.K.Key.number (g.K.Key.number c.args.key) c.args.keys.now.items c.as_slices.result.0.now c.as_slices.result.1.now c.count_many.result w.index-behind-0.result c.as_slices.ensures.items c.requires.rising (λ some. high (sym w.is_below.ensures ∙ not-true w.is_below.result (sym w.value-is ∙ c.if-not-is_below.true)) (ap g.K.Key.number w.index-behind-0.is)) c.count_many.ensures.split
]

pub returns-else-not-is_below-clause-split : goal.returns-else-not-is_below-clause-split
returns-else-not-is_below-clause-split g c = elim c.if-is_empty.branch [
  | then-is_empty w ↦ cc
  | else-is_empty w ↦ split_second g.K.Key.number (g.K.Key.number c.args.key) c.args.keys.now.items c.as_slices.result.0.now c.as_slices.result.1.now c.count_many-else-not-is_below.result w.index-behind-0.result c.as_slices.ensures.items c.requires.rising (grind (arith, nat_tests, w.if-is_empty.false, c.is_empty.ensures)) (low (sym w.is_below.ensures ∙ not-false w.is_below.result (sym w.value-is ∙ c.if-not-is_below.false)) (ap g.K.Key.number w.index-behind-0.is)) c.count_many-else-not-is_below.ensures.split
]
