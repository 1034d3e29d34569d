use Rattle.std.proofs.Common.{◌≡◌, ◌<◌, ◌^◌, ℕ, arith, refl, sym, ap, subst, ◌∙◌, List, length, IsSome}
use Rattle.acc_base.specs.Holes.{IsRising}
use Rattle.acc_placement.specs.Listing.{Listing, first_large, without_place, without_front}
use Rattle.acc_placement.specs.Nodes.{holes_in}
use Rattle.acc_placement.proofs.Fronts.{IsFirst, large_fits, first_of, first_there, front_removed, front_taken, length-front}
use Rattle.acc_placement.proofs.tree.Tree.take_front.Goals as goal

pub cut_front-hole-requires-clause-fits : goal.cut_front-hole-requires-clause-fits
cut_front-hole-requires-clause-fits c = large_fits c.args.size (holes_in c.self.inside.root) (subst (λ (l : Listing). IsSome (first_large c.args.size l.holes)) (sym c.self.view_is) c.requires.fits)

pub remove-requires : goal.remove-requires
remove-requires c =
    let hs = holes_in c.self.inside.root in
    let kept : holes_in c.cut_front-hole.new.tree ≡ hs = c.cut_front-hole.ensures.whole c.if-hole-size.true in
    let f : IsFirst c.args.size hs c.cut_front-hole.result = first_of c.args.size hs c.cut_front-hole.result c.requires.some c.cut_front-hole.ensures.hole in
    record { there = rw (kept, first_there c.args.size hs c.cut_front-hole.result f 0 (2 ^ 41) c.self.invariant.rising) refl }

pub invariant_of-self-else-hole-size : goal.invariant_of-self-else-hole-size
invariant_of-self-else-hole-size c =
    let hs = holes_in c.self.inside.root in
    let x = c.cut_front-hole.result in
    let f : IsFirst c.args.size hs x = first_of c.args.size hs x c.requires.some c.cut_front-hole.ensures.hole in
    let more : c.args.size < x.1 = omega (arith, f.large, c.if-hole-size.false) in
    record {
      rising = subst (λ (k : List (ℕ × ℕ)). IsRising 0 k (2 ^ 41)) (sym (c.cut_front-hole.ensures.cut more)) (front_taken 0 hs (2 ^ 41) c.args.size x c.requires.some c.self.invariant.rising c.cut_front-hole.ensures.hole).rising;
      is_tree = c.cut_front-hole.ensures.is_tree;
      chain = c.self.invariant.chain;
      len = omega (arith, c.self.invariant.len, c.cut_front-hole.ensures.length);
      nodes = omega (arith, c.self.invariant.nodes, c.cut_front-hole.ensures.length);
      limit = c.self.invariant.limit;
    }

pub returns-then-hole-size-clause-holes : goal.returns-then-hole-size-clause-holes
returns-then-hole-size-clause-holes c =
    let hs = holes_in c.self.inside.root in
    let x = c.cut_front-hole.result in
    let kept : holes_in c.cut_front-hole.new.tree ≡ hs = c.cut_front-hole.ensures.whole c.if-hole-size.true in
    let f : IsFirst c.args.size hs x = first_of c.args.size hs x c.requires.some c.cut_front-hole.ensures.hole in
    c.remove.ensures.holes ∙ ap (without_place x.0) kept ∙ front_removed c.args.size hs x f 0 (2 ^ 41) c.self.invariant.rising c.if-hole-size.true ∙ ap (λ (l : Listing). without_front c.args.size l.holes) c.self.view_is

pub returns-then-hole-size-clause-nodes : goal.returns-then-hole-size-clause-nodes
returns-then-hole-size-clause-nodes c =
    let hs = holes_in c.self.inside.root in
    let x = c.cut_front-hole.result in
    let kept : holes_in c.cut_front-hole.new.tree ≡ hs = c.cut_front-hole.ensures.whole c.if-hole-size.true in
    let f : IsFirst c.args.size hs x = first_of c.args.size hs x c.requires.some c.cut_front-hole.ensures.hole in
    let gone = c.remove.ensures.holes ∙ ap (without_place x.0) kept ∙ front_removed c.args.size hs x f 0 (2 ^ 41) c.self.invariant.rising c.if-hole-size.true in
    omega (arith, ap length gone, length-front c.args.size hs x f c.if-hole-size.true, ap (λ (l : Listing). length l.holes) c.self.view_is, ap (λ (l : Listing). l.room) c.self.view_is, c.remove.ensures.room)

pub returns-else-hole-size-clause-holes : goal.returns-else-hole-size-clause-holes
returns-else-hole-size-clause-holes c =
    let hs = holes_in c.self.inside.root in
    let x = c.cut_front-hole.result in
    let f : IsFirst c.args.size hs x = first_of c.args.size hs x c.requires.some c.cut_front-hole.ensures.hole in
    let more : c.args.size < x.1 = omega (arith, f.large, c.if-hole-size.false) in
    c.cut_front-hole.ensures.cut more ∙ ap (λ (l : Listing). without_front c.args.size l.holes) c.self.view_is
