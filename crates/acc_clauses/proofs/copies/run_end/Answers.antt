use Rattle.std.proofs.Common.{◌≡◌, ◌-◌, ◌∙◌, sym, ap, Some, None, arith}
use Rattle.acc_base.specs.Attachments.{next_pointer}
use Rattle.acc_clauses.proofs.Runs.{ends_at_next, ends_without}
use Rattle.acc_clauses.proofs.copies.run_end.Goals as goal

pub returns-in-Some : goal.returns-in-Some
returns-in-Some c =
    let attached = c.args.attached.now.attached in
    let from : c.saturating_sub-from.result ≡ c.args.at - 7 = c.saturating_sub-from.ensures in
    let next : next_pointer c.args.block (c.args.at - 7) attached ≡ Some c.in-Some.pointer = ap (λ n. next_pointer c.args.block n attached) (sym from) ∙ (sym c.next_pointer_near-pointer.ensures ∙ c.in-Some.is) in
    ends_at_next c.args.block attached c.args.at c.args.end c.in-Some.pointer c.min.result c.laws.ensures.rising next c.requires (omega arith) (omega arith) (λ less. omega (arith, less))

pub returns-in-None : goal.returns-in-None
returns-in-None c =
    let attached = c.args.attached.now.attached in
    let from : c.saturating_sub-from.result ≡ c.args.at - 7 = c.saturating_sub-from.ensures in
    let next : next_pointer c.args.block (c.args.at - 7) attached ≡ None = ap (λ n. next_pointer c.args.block n attached) (sym from) ∙ (sym c.next_pointer_near-pointer.ensures ∙ c.in-None.is) in
    ends_without c.args.block attached c.args.at c.args.end next c.requires
