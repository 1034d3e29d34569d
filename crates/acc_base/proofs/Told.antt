-- A legal event keeps the records of its device sound and the numbers of regions rising, and gives both counters of
-- every block.
use Rattle.std.proofs.Common.{ℕ, ◌≡◌, ◌+◌, ◌-◌, refl, ◌∙◌, ap, cond, List, [], Option, Some, None, arith}
use Rattle.std.specs.Prelude.{reverse, unwrap_or, IsSome}
use Rattle.acc_base.specs.Words.{Item, RegionClause, EnterClause, Holding, Task, Did, Event}
use Rattle.acc_base.specs.declared.mappings.Counter.TheVariants.{Structured, Dynamic}
use Rattle.acc_base.specs.declared.tasks.Task.TheVariants.{ExitRegion}
use Rattle.acc_base.specs.declared.events.Event.TheVariants.{Entered, Left, EnteredData, ExitedData, Updated, Lent}
use Rattle.acc_base.specs.Limits.{Limits, IsWithinBounds}
use Rattle.acc_base.specs.Records.{Records, Layout, new_layout}
use Rattle.acc_base.specs.Register.{Register, holdings_at, opened, closed, is_counted_block, count_held, held_in}
use Rattle.acc_base.specs.Ranges.{structured_of, dynamic_of}
use Rattle.acc_base.specs.Clauses.{as_region}
use Rattle.acc_base.specs.Steps.{act_all}
use Rattle.acc_base.specs.Waits.{records_drained}
use Rattle.acc_base.specs.Walk.{enter_task, enter_data_task, exit_task, move_task, asked_in, done_in, stepped_in, register_after, holdings_of, walk, loaned}
use Rattle.acc_base.specs.History.{NamesRight, drops, count_counted, count_dropped, entries_of, exits_of, entries_in, exits_in, dynamic_in, dynamic_after, IsLegal, Past}
use Rattle.acc_base.specs.Accounts.{AreRecordsSound, AreHeld}
use Rattle.acc_base.proofs.Sound.{ranges-drained, drained_sound, new_sound}
use Rattle.acc_base.proofs.Loaned.{ranges-loaned, loaned_sound}
use Rattle.acc_base.proofs.AllTasks.{recount_same, AreLeft, all_left, AreSaid, all_said, entered_recount, held-entered, exited_recount, left_recount, held-left, sum_by-reverse}
use Rattle.acc_base.proofs.Registers.{IsNumbered, new_numbered, opened_numbered, opened_held, closed_numbered, closed_held}

-- ---- one event

-- both counters of a block after an event, from what they were
record IsRecounted (b : ℕ) (e : Event) (w v : Records) : Type 0 where
  structured : structured_of b v.ranges ≡ structured_of b w.ranges + entries_of b e - exits_of b e
  dynamic : dynamic_of b v.ranges ≡ dynamic_after b (dynamic_of b w.ranges) e

-- what an entry to a region holds, and what an exit from one held
record IsHeldBy (b : ℕ) (e : Event) (g k : Register) : Type 0 where
  held : held_in b k.regions + exits_of b e ≡ held_in b g.regions + entries_of b e

-- what the tasks of an event make of the counters
recounted_by : (l : Limits) (e : Event) (g : Register) (w : Records) (b : ℕ) → AreSaid l (asked_in e g) (done_in e) → AreLeft l (asked_in e g) (done_in e) w (act_all (asked_in e g) (done_in e) w) → IsRecounted b e w (act_all (asked_in e g) (done_in e) w)
recounted_by l (Entered device number items did) g w b said left = record {
  structured = left.counter_is Structured b ∙ (entered_recount l Structured b (λ (i : Item RegionClause). i) None items did (structured_of b w.ranges) said ∙ omega arith);
  dynamic = left.counter_is Dynamic b ∙ recount_same Dynamic b enter_task items did (dynamic_of b w.ranges) (λ x m. refl);
}
recounted_by l (Left device number did) g w b said left =
    let last_to_first : List Holding = reverse (unwrap_or (holdings_at number g.regions) []) in
    let turned : count_dropped b (reverse did) ≡ count_dropped b did = sum_by-reverse (λ (d : Did). cond (drops b d.step) 1 0) did in
    record {
      structured = left.counter_is Structured b ∙ (left_recount l b last_to_first (reverse did) (structured_of b w.ranges) said ∙ omega arith);
      dynamic = left.counter_is Dynamic b ∙ recount_same Dynamic b ExitRegion last_to_first (reverse did) (dynamic_of b w.ranges) (λ x m. refl);
    }
recounted_by l (EnteredData device items queue did) g w b said left = record {
  structured = left.counter_is Structured b ∙ (recount_same Structured b (enter_data_task queue) items did (structured_of b w.ranges) (λ x m. refl) ∙ omega arith);
  dynamic = left.counter_is Dynamic b ∙ entered_recount l Dynamic b (λ (i : Item EnterClause). record { clause = as_region i.clause; section = i.section; pointer = i.pointer }) queue items did (dynamic_of b w.ranges) said;
}
recounted_by l (ExitedData device items finalize queue did) g w b said left = record {
  structured = left.counter_is Structured b ∙ (recount_same Structured b (exit_task finalize queue) items did (structured_of b w.ranges) (λ x m. refl) ∙ omega arith);
  dynamic = left.counter_is Dynamic b ∙ exited_recount l b finalize queue items did (dynamic_of b w.ranges) said;
}
recounted_by l (Updated device items if_present queue did) g w b said left = record {
  structured = left.counter_is Structured b ∙ (recount_same Structured b (move_task if_present queue) items did (structured_of b w.ranges) (λ x m. refl) ∙ omega arith);
  dynamic = left.counter_is Dynamic b ∙ recount_same Dynamic b (move_task if_present queue) items did (dynamic_of b w.ranges) (λ x m. refl);
}
recounted_by l _ g w b said left = record { structured = left.counter_is Structured b ∙ omega arith; dynamic = left.counter_is Dynamic b }

-- what a number of a region holds, where one of that number is open
holds : (o : Option (List Holding)) → IsSome o → o ≡ Some (unwrap_or o [])
holds None h = cc
holds (Some holdings) h = refl

-- how often a block is held after an event
held_by : (l : Limits) (e : Event) (lay : Layout) (b : ℕ) → IsNumbered lay.register → IsLegal l e lay → AreSaid l (asked_in e lay.register) (done_in e) → IsHeldBy b e lay.register (register_after e lay.register)
held_by l (Entered device number items did) lay b h legal said =
    let more : held_in b (opened number (holdings_of items did) lay.register).regions ≡ held_in b lay.register.regions + count_held b (holdings_of items did) = rw legal.names (opened_held b (holdings_of items did) lay.register h) in
    let counted : count_held b (holdings_of items did) ≡ count_counted b did = held-entered l b items did said in
    record { held = omega arith }
held_by l (Left device number did) lay b h legal said =
    let holdings : List Holding = unwrap_or (holdings_at number lay.register.regions) [] in
    let less : held_in b lay.register.regions ≡ held_in b (closed number lay.register).regions + count_held b holdings = closed_held b number holdings lay.register h (holds (holdings_at number lay.register.regions) legal.names) in
    let turned : count_dropped b (reverse did) ≡ count_dropped b did = sum_by-reverse (λ (d : Did). cond (drops b d.step) 1 0) did in
    let turned_back : count_held b (reverse holdings) ≡ count_held b holdings = sum_by-reverse (λ (x : Holding). cond (is_counted_block b x.block) 1 0) holdings in
    let dropped : count_dropped b (reverse did) ≡ count_held b (reverse holdings) = held-left l b (reverse holdings) (reverse did) said in
    record { held = omega arith }
held_by l _ lay b h legal said = record { held = refl }

numbered_by : (l : Limits) (e : Event) (lay : Layout) → NamesRight l e lay → IsNumbered lay.register → IsNumbered (register_after e lay.register)
numbered_by l (Entered device number items did) lay names h = rw names (opened_numbered (holdings_of items did) lay.register h)
numbered_by l (Left device number did) lay names h = closed_numbered number lay.register h
numbered_by l (Lent device region section block serial) lay names h = record { first = h.first; rising = h.rising; known = h.known }
numbered_by l _ lay names h = h

-- what holds of a layout, with how often each block was counted and dropped by regions, and its dynamic counter
pub record IsTold (l : Limits) (lay : Layout) (entries exits dynamics : ℕ → ℕ) : Type 0 where
  pub sound : AreRecordsSound l lay.records
  pub numbered : IsNumbered lay.register
  pub held : AreHeld lay
  pub structured : (b : ℕ) → structured_of b lay.records.ranges + exits b ≡ entries b
  pub dynamic : (b : ℕ) → dynamic_of b lay.records.ranges ≡ dynamics b

-- an event that is legal keeps it
pub walk_told : (l : Limits) (e : Event) (lay : Layout) (entries exits dynamics : ℕ → ℕ) → IsWithinBounds l → IsTold l lay entries exits dynamics → IsLegal l e lay
    → IsTold l (walk e lay) (λ b. entries b + entries_of b e) (λ b. exits b + exits_of b e) (λ b. dynamic_after b (dynamics b) e)
unfolding walk
walk_told l e lay entries exits dynamics bounds h legal =
    let tasks : List Task = asked_in e lay.register in
    let said : AreSaid l tasks (done_in e) = all_said l 0 tasks (done_in e) lay.records legal.judged in
    let left : AreLeft l tasks (done_in e) lay.records (act_all tasks (done_in e) lay.records) = all_left l 0 tasks (done_in e) lay.records bounds h.sound legal.judged in
    let qs : List ℕ = stepped_in e lay.records.queues in
    let made : Records = records_drained qs (act_all tasks (done_in e) lay.records) in
    let same : (loaned e made).ranges ≡ (act_all tasks (done_in e) lay.records).ranges = ranges-loaned e made ∙ ranges-drained qs (act_all tasks (done_in e) lay.records) in
    record {
      sound = loaned_sound l e lay legal.names (drained_sound l qs (act_all tasks (done_in e) lay.records) left.sound);
      numbered = numbered_by l e lay legal.names h.numbered;
      held = λ b. ap (structured_of b) same ∙ held_still b (recounted_by l e lay.register lay.records b said left) (held_by l e lay b h.numbered legal said);
      structured = λ b. ap (λ rs. structured_of b rs + (exits b + exits_of b e)) same ∙ counted_still b (recounted_by l e lay.register lay.records b said left) (held_by l e lay b h.numbered legal said);
      dynamic = λ b. ap (dynamic_of b) same ∙ (recounted_by l e lay.register lay.records b said left).dynamic ∙ ap (λ n. dynamic_after b n e) (h.dynamic b);
    }
  where
    held_still : (b : ℕ) → IsRecounted b e lay.records (act_all (asked_in e lay.register) (done_in e) lay.records) → IsHeldBy b e lay.register (register_after e lay.register)
        → structured_of b (act_all (asked_in e lay.register) (done_in e) lay.records).ranges ≡ held_in b (register_after e lay.register).regions
    held_still b counted holds = omega (arith, h.held b, counted.structured, holds.held)

    counted_still : (b : ℕ) → IsRecounted b e lay.records (act_all (asked_in e lay.register) (done_in e) lay.records) → IsHeldBy b e lay.register (register_after e lay.register)
        → structured_of b (act_all (asked_in e lay.register) (done_in e) lay.records).ranges + (exits b + exits_of b e) ≡ entries b + entries_of b e
    counted_still b counted holds = omega (arith, h.held b, h.structured b, counted.structured, holds.held)

-- ---- a new device

pub new_told : (l : Limits) → IsTold l new_layout (λ b. 0) (λ b. 0) (λ b. 0)
new_told l = record { sound = new_sound l; numbered = new_numbered; held = λ b. refl; structured = λ b. refl; dynamic = λ b. refl }

-- what the past of a device says of the layout that it leads to
pub record IsLedTo (l : Limits) (h : Past) (lay : Layout) : Type 0 where
  pub sound : AreRecordsSound l lay.records
  pub numbered : IsNumbered lay.register
  pub held : AreHeld lay
  pub structured : (b : ℕ) → structured_of b lay.records.ranges + exits_in b h ≡ entries_in b h
  pub dynamic : (b : ℕ) → dynamic_of b lay.records.ranges ≡ dynamic_in b h
