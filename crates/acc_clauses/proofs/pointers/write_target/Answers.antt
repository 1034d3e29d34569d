use Rattle.std.proofs.Common.{◌≡◌, ap, length}
use Rattle.acc_base.specs.Attachments.{pointer_at}
use Rattle.acc_clauses.specs.Contents.{beside, bare_state}
use Rattle.acc_clauses.proofs.Moving.{put_in}
use Rattle.acc_clauses.proofs.Giving.{within_block}
use Rattle.acc_clauses.proofs.Aiming.{target_put}
use Rattle.acc_clauses.proofs.pointers.write_target.Goals as goal

pub returns : goal.returns
returns c =
    let x = c.args.environment.now in
    let eight : length c.to_le_bytes.result ≡ 8 = ap length c.to_le_bytes.ensures in
    let within = within_block (pointer_at c.args.pointer) c.args.block c.start_of-start.result (bare_state (beside x c.requires.can.0)) c.requires.can.1.move c.requires.can.1.free c.start_of-start.ensures in
    target_put c.args.pointer c.args.block c.args.target c.start_of-start.result x c.write.new.self c.to_le_bytes.result
    (put_in (pointer_at c.args.pointer) c.start_of-start.result c.to_le_bytes.result x.device c.write.new.self c.args.block c.laws.ensures.blocks_apart c.laws.ensures.memories c.requires.can.1.free c.requires.can.1.move.there within eight c.write.ensures)
    c.to_le_bytes.ensures c.start_of-start.ensures
