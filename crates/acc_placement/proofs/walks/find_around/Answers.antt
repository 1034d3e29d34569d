use Rattle.std.proofs.Common.{ℕ, sym, ap, ◌∙◌, Some}
use Rattle.std.specs.Option.{option_or}
use Rattle.acc_base.proofs.Options.{or_or}
use Rattle.acc_placement.specs.Listing.{first_from, last_before}
use Rattle.acc_placement.specs.Nodes.{holes_in}
use Rattle.acc_placement.proofs.Steps.{before_left, before_right, from_left, from_right}
use Rattle.acc_placement.proofs.Opened.{IsOpened, opened}
use Rattle.acc_placement.proofs.walks.find_around.Goals as goal

pub down-preserved-then-node-place : goal.down-preserved-then-node-place
down-preserved-then-node-place c =
    let n = c.node.inside in
    let x : ℕ × ℕ = (n.place, n.size) in
    let o : IsOpened c.down.rest.now n = opened c.down.rest.now c.in-Some.node n c.in-Some.is (c.node.view_is ∙ c.deref-node.ensures) in
    let d = o.sides c.down.invariant.rising in
    record {
      rising = d.right;
      before = sym (or_or (last_before c.args.place (holes_in n.right)) (Some x) c.down.before) ∙ ap (λ k. option_or k c.down.before) (sym (ap (last_before c.args.place) o.whole ∙ before_right d c.args.place c.if-node-place.true)) ∙ c.down.invariant.before;
      from = ap (λ k. option_or k c.down.from) (sym (ap (first_from c.args.place) o.whole ∙ from_right d c.args.place c.if-node-place.true)) ∙ c.down.invariant.from;
    }

pub down-preserved : goal.down-preserved
down-preserved c =
    let n = c.node.inside in
    let x : ℕ × ℕ = (n.place, n.size) in
    let o : IsOpened c.down.rest.now n = opened c.down.rest.now c.in-Some.node n c.in-Some.is (c.node.view_is ∙ c.deref-node.ensures) in
    let d = o.sides c.down.invariant.rising in
    record {
      rising = d.left;
      before = ap (λ k. option_or k c.down.before) (sym (ap (last_before c.args.place) o.whole ∙ before_left d c.args.place c.if-node-place.false)) ∙ c.down.invariant.before;
      from = sym (or_or (first_from c.args.place (holes_in n.left)) (Some x) c.down.from) ∙ ap (λ k. option_or k c.down.from) (sym (ap (first_from c.args.place) o.whole ∙ from_left d c.args.place c.if-node-place.false)) ∙ c.down.invariant.from;
    }
