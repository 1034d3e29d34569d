use Rattle.std.proofs.Common.{rules, ◌≡◌, true, option_map, sym, ap, ◌∙◌, arith}
use Rattle.std.specs.Option.{is_some}
use Rattle.acc_read.specs.Lines.{lines_of}
use Rattle.acc_follow.proofs.Alike.{goes_on, some_mapped}
use Rattle.acc_follow.proofs.differences.first_difference.Goals as goal

pub lines-preserved : goal.lines-preserved
lines-preserved c =
    let is : is_some c.front.result.0 ≡ true = search (rules) in
    let same : option_map (λ line. line.now) c.front.result.0 ≡ option_map (λ line. line.now) c.front-in-lines.result.0 = search (rules) in
    record {
      alike = rw (c.front.ensures.behind, c.front-in-lines.ensures.behind) (goes_on c.lines.same (lines_of c.args.expected.now) (lines_of c.args.found.now)
          (lines_of c.lines.wanted.now) (lines_of c.lines.came.now) c.lines.invariant.alike
          (sym c.front.ensures.line ∙ same ∙ c.front-in-lines.ensures.line)
          (ap is_some (sym c.front.ensures.line) ∙ some_mapped (λ line. line.now) c.front.result.0 ∙ is));
      count = omega (arith, c.lines.invariant.count, c.front.ensures.shorter is);
    }
