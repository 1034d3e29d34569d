use Rattle.std.proofs.Common.{◌+◌, ◌^◌, ◌<◌, ◌≤◌, arith}
use Rattle.acc_base.proofs.Elements.{IfSome-weaker}
use Rattle.acc_placement.specs.Listing.{last_before}
use Rattle.acc_placement.proofs.Touching.{around_seen, last_limit}
use Rattle.acc_placement.proofs.filling.touched.Goals as goal

pub size_before-front-requires : goal.size_before-front-requires
size_before-front-requires c = record { limit = rw c.around-before.ensures.before (IfSome-weaker (λ h. h.0 + h.1 ≤ 2 ^ 41) (λ h. h.0 + h.1 < 2 ^ 64) (last_before c.args.place c.args.holes.now.holes) (λ h le. omega arith) (last_limit c.args.place 0 c.args.holes.now.holes (2 ^ 41) c.requires.rising)) }

pub returns : goal.returns
returns c = around_seen c.args.holes.now.holes c.args.place c.args.size c.size_before-front.result c.size_from-back.result c.around-before.result.0 c.around-before.result.1 c.around-before.ensures.before c.around-before.ensures.from c.size_before-front.ensures c.size_from-back.ensures c.requires.not_empty c.requires.not_free
