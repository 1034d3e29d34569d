use Rattle.std.proofs.Common.{◌+◌, length, drop}
use Rattle.acc_base.specs.Queues.{queue_at}
use Rattle.acc_base.specs.declared.transfers.TheConstants.{QUEUE_COUNT}
use Rattle.acc_base.specs.Devices.{view}
use Rattle.acc_script.specs.Texts.{waiting_text, queues_text}
use Rattle.acc_script.proofs.LeftToWrite.{leaves_all, leaves_less, leaves_lost, leaves_none}
use Rattle.acc_script.proofs.WaitingQueues.{queues_turn, no_queue_left}
use Rattle.acc_script.proofs.print.queues.write_queues.Goals as goal

pub loop-q-init : goal.loop-q-init
loop-q-init g c = leaves_all (g.W.Sink.told c.args.writer.now) (queues_text 0 (view c.args.device c.args.table.now.state).records.queues)

pub returns-then-not-write_waiting : goal.returns-then-not-write_waiting
returns-then-not-write_waiting g c =
    let told = g.W.Sink.told in
    let queues = (view c.args.device c.args.table.now.state).records.queues in
    let q = c.loop-q.q in
    let turn = queues_turn QUEUE_COUNT q queues (c.laws.ensures.accounted.devices c.args.device c.requires.there).sound.layout.records.queues.all c.loop-q-test.true in
    leaves_lost (told c.args.writer.now) (told c.loop-q.writer) (told c.write_waiting.new.writer) (queues_text 0 queues) (queues_text q (drop q queues)) (waiting_text q (length (queue_at q queues))) (queues_text (q + 1) (drop (q + 1) queues)) turn c.loop-q.invariant (rw (← c.queue_len.ensures) c.if-not-write_waiting.ensures)

pub loop-q-preserved : goal.loop-q-preserved
loop-q-preserved g c =
    let told = g.W.Sink.told in
    let queues = (view c.args.device c.args.table.now.state).records.queues in
    let q = c.loop-q.q in
    let turn = queues_turn QUEUE_COUNT q queues (c.laws.ensures.accounted.devices c.args.device c.requires.there).sound.layout.records.queues.all c.loop-q-test.true in
    leaves_less (told c.args.writer.now) (told c.loop-q.writer) (told c.write_waiting.new.writer) (queues_text 0 queues) (queues_text q (drop q queues)) (waiting_text q (length (queue_at q queues))) (queues_text (q + 1) (drop (q + 1) queues)) turn c.loop-q.invariant (rw (← c.queue_len.ensures) c.if-not-write_waiting.ensures)

pub returns : goal.returns
returns g c =
    let told = g.W.Sink.told in
    let queues = (view c.args.device c.args.table.now.state).records.queues in
    let q = c.loop-q.q in
    leaves_none (told c.args.writer.now) (told c.loop-q.writer) (queues_text 0 queues) (queues_text q (drop q queues)) (no_queue_left QUEUE_COUNT q queues (c.laws.ensures.accounted.devices c.args.device c.requires.there).sound.layout.records.queues.all c.loop-q-test.false) c.loop-q.invariant
