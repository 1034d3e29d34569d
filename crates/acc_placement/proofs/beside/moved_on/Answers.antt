use Rattle.std.proofs.Common.{arith, subst, get_or, List, ◌≡◌, ◌⊎◌, inl, inr, ℕ, ◌+◌, ◌<◌, ◌≤◌}
use Rattle.std.specs.Prelude.{All, Any}
use Rattle.std.proofs.lemmas.Bool.{OnTrue_from}
use Rattle.std.proofs.lemmas.List.{take_all, get_or_default}
use Rattle.std.proofs.lemmas.List.Elements.{All-more}
use Rattle.acc_base.specs.Blocks.{rounded}
use Rattle.acc_placement.specs.Changes.{IsBeside}
use Rattle.acc_placement.proofs.Outside.{beside_all, moved}
use Rattle.acc_placement.proofs.Alignment.{end_aligned}
use Rattle.acc_placement.proofs.beside.moved_on.Goals.{then-at-end+then-start-at, then-at-end+else-start-at, else-at-end}
use Rattle.acc_placement.proofs.beside.moved_on.Goals as goal

pub loop-start-preserved : goal.loop-start-preserved
loop-start-preserved c =
    let ts = c.args.listed.now in
    let i = c.loop-start.start-index in
    let t : ℕ × ℕ = get_or ts i (0, 0) in
    let v = c.loop-start.invariant in
    elim c.if-at-end.branch [
      | then-at-end+then-start-at w ↦
          let met : Any (λ (x : ℕ × ℕ). (c.if-at-end.at ≡ x.0 + rounded x.1) × (x.0 < c.loop-start.at + c.args.size) × (c.loop-start.at < c.if-at-end.at)) ts = (i, t, c.loop-start-test.true, get_or_default ts i t (0, 0) c.loop-start-test.true, (omega (arith, w.at-is, c.rounded.ensures.value), w.if-start-at.true, omega (arith, w.at-is, w.if-at-end.true))) in
          let m = moved ts c.args.size c.loop-start.at c.if-at-end.at c.args.top met c.requires.listed c.requires.size_limit.0 in
          record {
            not_before = omega (arith, m.0, v.not_before);
            limit = m.1;
            stays = λ same. absurd (omega (arith, m.0, v.not_before));
            behind = λ all. All-more (λ (x : ℕ × ℕ). x.0 + rounded x.1 ≤ c.if-at-end.at) ts i (0, 0) c.loop-start-test.true (λ k d lt. omega (arith, v.behind (rw (← w.all_behind-is) all) k d lt, m.0)) (omega (arith, w.at-is, c.rounded.ensures.value));
            least = λ q le out. m.2 q (v.least q le out) out;
            aligned = λ places from. end_aligned ts c.args.size c.loop-start.at c.if-at-end.at met places;
          }
      | then-at-end+else-start-at w ↦ rw (w.at-is) record {
        not_before = v.not_before;
        limit = v.limit;
        stays = λ same. All-more (λ (x : ℕ × ℕ). (c.args.from + c.args.size ≤ x.0) ⊎ (x.0 + rounded x.1 ≤ c.args.from)) ts i (0, 0) c.loop-start-test.true (v.stays same) (inl (omega (arith, w.if-start-at.false)));
        behind = λ all. absurd (grind (arith, w.all_behind-is, all));
        least = v.least;
        aligned = v.aligned;
      }
      | else-at-end w ↦ rw (w.at-is) record {
        not_before = v.not_before;
        limit = v.limit;
        stays = λ same. All-more (λ (x : ℕ × ℕ). (c.args.from + c.args.size ≤ x.0) ⊎ (x.0 + rounded x.1 ≤ c.args.from)) ts i (0, 0) c.loop-start-test.true (v.stays same) (inr (omega (arith, w.if-at-end.false, c.rounded.ensures.value)));
        behind = λ all. All-more (λ (x : ℕ × ℕ). x.0 + rounded x.1 ≤ c.loop-start.at) ts i (0, 0) c.loop-start-test.true (v.behind (rw (← w.all_behind-is) all)) (omega (arith, w.if-at-end.false, c.rounded.ensures.value));
        least = v.least;
        aligned = v.aligned;
      }
    ]

pub returns-clause-stays : goal.returns-clause-stays
returns-clause-stays c =
    let P : ℕ × ℕ → Type 0 = λ t. (c.args.from + c.args.size ≤ t.0) ⊎ (t.0 + rounded t.1 ≤ c.args.from) in
    λ same. beside_all c.args.listed.now c.args.size c.args.from (subst (λ (l : List (ℕ × ℕ)). All P l) (take_all c.loop-start.start-index c.args.listed.now c.loop-start-test.false) (c.loop-start.invariant.stays same))

pub returns-clause-outside : goal.returns-clause-outside
returns-clause-outside c =
    let P : ℕ × ℕ → Type 0 = λ t. t.0 + rounded t.1 ≤ c.loop-start.at in
    OnTrue_from c.loop-start.all_behind (IsBeside c.args.listed.now c.args.size c.loop-start.at) (λ all.
    let behind = subst (λ (l : List (ℕ × ℕ)). All P l) (take_all c.loop-start.start-index c.args.listed.now c.loop-start-test.false) (c.loop-start.invariant.behind all) in
    beside_all c.args.listed.now c.args.size c.loop-start.at (λ k d lt. inr (behind k d lt)))
