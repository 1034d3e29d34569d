use Rattle.std.proofs.Common.{◌≡◌, Some, insert, ap, ◌∙◌, rules}
use Rattle.std.specs.Prelude.{IsOk}
use Rattle.std.proofs.lemmas.List.Sorted.{IsPartitionPoint-from_clause}
use Rattle.acc_base.specs.Splits.{IsSplitBy}
use Rattle.acc_base.proofs.Splitting.{parted, split}
use Rattle.acc_base.proofs.Keyed as keyed
use Rattle.acc_index.specs.Indexed.{live_entries}
use Rattle.acc_index.proofs.Indexing.{place_key, new_place, entries-insert}
use Rattle.acc_index.proofs.index.put_between.Given.{Over}
use Rattle.acc_index.proofs.index.put_between.Goals as goal

parts : (g : Over) (c : goal.Joined-insert g) → IsSplitBy (keyed.is_key_below place_key c.args.number) c.args.items.now.items c.partition_point-at.result
parts g c =
    let xs = c.args.items.now.items in
    let p = keyed.is_key_below place_key c.args.number in
    let sorted = parted p xs (keyed.below_first place_key c.args.number xs c.requires.rising) in
    rw (← c.deref.ensures.value) (split p c.deref.result.now _ c.partition_point-at.ensures.bound (IsPartitionPoint-from_clause p _ _ c.partition_point-at.ensures.partitioned (rw c.deref.ensures.value sorted) (λ a r q k. search rules)))

put : (g : Over) (c : goal.Joined-insert g) → c.insert.new.self.items ≡ insert c.args.items.now.items c.partition_point-at.result (record { number = c.args.number; value = Some c.args.value })
put g c = let ok : IsOk c.insert.result = c.insert.ensures.succeeds c.requires.room in rw ok at c.insert.ensures.items

pub returns-clause-rising : goal.returns-clause-rising
returns-clause-rising g c =
    let xs = c.args.items.now.items in
    rw (put g c) (keyed.rise-insert place_key xs c.partition_point-at.result _ c.requires.rising (parts g c) (new_place xs c.args.number c.requires.here c.requires.new))

pub returns-clause-here : goal.returns-clause-here
returns-clause-here g c = rw (put g c) (keyed.all-insert _ c.args.items.now.items c.partition_point-at.result _ c.requires.here (search rules))

pub returns-clause-entries : goal.returns-clause-entries
returns-clause-entries g c =
    let xs = c.args.items.now.items in
    ap live_entries (put g c) ∙ entries-insert xs c.partition_point-at.result c.args.number c.args.value c.requires.here (keyed.keys_below place_key c.args.number xs c.partition_point-at.result (parts g c)) (keyed.above_new place_key c.args.number xs c.partition_point-at.result (parts g c) (new_place xs c.args.number c.requires.here c.requires.new))
