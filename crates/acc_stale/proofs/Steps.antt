-- A step as it is told is that of the definition.
use Rattle.std.proofs.Common.{◌≡◌, ℕ, Bool, true, false, if◌then◌else◌, List, [], ◌∷◌, Option, Some, None, refl, sym, ap, ap₂, ◌∙◌}
use Rattle.acc_base.specs.declared.attachments.Attachment.{Attachment}
use Rattle.acc_base.specs.declared.mappings.Range.{Range}
use Rattle.acc_base.specs.declared.tasks.Task.{Task}
use Rattle.acc_base.specs.declared.tasks.Task.TheVariants.{Enter, ExitRegion, ExitData, Move}
use Rattle.acc_base.specs.declared.transfers.Transfer.{Transfer}
use Rattle.acc_base.specs.declared.events.Did.{Did}
use Rattle.acc_base.specs.declared.events.Step.{Step}
use Rattle.acc_base.specs.declared.events.Step.TheVariants.{Nothing, Counted, Born, Dropped, Moved}
use Rattle.acc_base.specs.Records.{State}
use Rattle.acc_base.specs.Bytes.{step_state}
use Rattle.acc_base.specs.Pointers.{aimed}
use Rattle.acc_base.specs.Tasks.{queue_of}
use Rattle.acc_base.specs.Transfers.{transfer_of, transfer_at, at_once, gives_bytes}
use Rattle.acc_stale.specs.declared.known.Placed.{Placed}
use Rattle.acc_stale.specs.declared.known.Mapped.{Mapped}
use Rattle.acc_stale.specs.Known.{Known, copied_in, copied_out}
use Rattle.acc_stale.specs.Events.{placed_in, placed_new, mapped_behind, pointers_of, known_made, known_stepped, known_copied, known_made_by, known_begun, known_aimed, known_acted, known_drained}
use Rattle.acc_stale.specs.Told.{IsStepBlockTold, IsNextTold, TouchesNone, begun_told, made_told, enters, before_step, before_aim}

-- a new block
copied_new : (d block place : ℕ) (task : Task) (s : State) (t : Option Transfer) (k : Known) → made_told (placed_new d block place task) t [] k ≡ known_copied d task (Born block place) s t k
copied_new d block place task s None k = refl
copied_new d block place task s (Some t) k = refl

-- a copy of a block that was there, made at once or not, if the clause has one
copied_there : (d block : ℕ) (task : Task) (s : State) (ranges : List Range) (has : Bool) (q : Option ℕ) (k : Known) → made_told (placed_in d block s) (at_once q (if has then Some (transfer_at task block ranges) else None)) (pointers_of block s.records.attached) k ≡ known_made_by d (at_once q (if has then Some (transfer_at task block ranges) else None)) s k
copied_there d block task s ranges true None k = refl
copied_there d block task s ranges false None k = refl
copied_there d block task s ranges has (Some q) k = refl

nothing_made : (p : Placed) (attached : List Attachment) (q : Option ℕ) (k : Known) → made_told p (at_once q None) attached k ≡ k
nothing_made p attached None k = refl
nothing_made p attached (Some q) k = refl

none_made : (d : ℕ) (s : State) (q : Option ℕ) (k : Known) → known_made_by d (at_once q None) s k ≡ k
none_made d s None k = refl
none_made d s (Some q) k = refl

-- the same told
stepped_so : (p : Placed) (task : Task) (step : Step) (attached : List Attachment) (s : State) (k : Known) → IsStepBlockTold p task step attached s → made_told p (at_once (queue_of task) (transfer_of task step s.records.ranges)) attached (begun_told p task step k) ≡ known_stepped p.device task step s k
unfolding known_stepped
stepped_so p task Nothing attached s k told = nothing_made p attached (queue_of task) k ∙ sym (none_made p.device s (queue_of task) k)
stepped_so p task (Counted block) attached s k told = nothing_made p attached (queue_of task) k ∙ sym (none_made p.device s (queue_of task) k)
stepped_so p task (Born block place) attached s k told =
    let t : Option Transfer = at_once (queue_of task) (transfer_of task (Born block place) s.records.ranges) in
    ap₂ (λ x a. made_told x t a (begun_told x task (Born block place) k)) told.0 told.1
    ∙ copied_new p.device block place task s t (known_begun p.device task (Born block place) k)
stepped_so p task (Dropped block true) attached s k told =
    ap₂ (λ x a. made_told x (at_once (queue_of task) (transfer_of task (Dropped block true) s.records.ranges)) a k) told.placed told.pointers
    ∙ copied_there p.device block task s s.records.ranges (gives_bytes task) (queue_of task) k
stepped_so p task (Dropped block false) attached s k told = nothing_made p attached (queue_of task) k ∙ sym (none_made p.device s (queue_of task) k)
stepped_so p task (Moved block) attached s k told =
    ap₂ (λ x a. made_told x (at_once (queue_of task) (transfer_of task (Moved block) s.records.ranges)) a k) told.placed told.pointers
    ∙ copied_there p.device block task s s.records.ranges true (queue_of task) k

pub stepped_told : (p : Placed) (task : Task) (step : Step) (attached : List Attachment) (s : State) (k : Known) (t : Option Transfer) → IsStepBlockTold p task step attached s → t ≡ transfer_of task step s.records.ranges → made_told p (at_once (queue_of task) t) attached (begun_told p task step k) ≡ known_stepped p.device task step s k
stepped_told p task step attached s k t told e = ap (λ x. made_told p (at_once (queue_of task) x) attached (begun_told p task step k)) e ∙ stepped_so p task step attached s k told

-- a step that touches the bytes of no block
pub none_touched : (d : ℕ) (task : Task) (step : Step) (s : State) (k : Known) → TouchesNone step → k ≡ known_stepped d task step s k
unfolding known_stepped
none_touched d task Nothing s k none = sym (none_made d s (queue_of task) k)
none_touched d task (Counted block) s k none = sym (none_made d s (queue_of task) k)
none_touched d task (Born block place) s k none = absurd none
none_touched d task (Dropped block true) s k none = absurd none
none_touched d task (Dropped block false) s k none = sym (none_made d s (queue_of task) k)
none_touched d task (Moved block) s k none = absurd none

-- ---- a queued transfer

made_there : (p x : Placed) (t : Transfer) (attached pointers : List Attachment) (k : Known) → p.device ≡ x.device → p.block ≡ x.block → p.place ≡ x.place → attached ≡ pointers → known_made p t attached k ≡ known_made x t pointers k
made_there p x t attached pointers k device block place same =
    ap₂ (λ d b. known_made (record { device = d; block = b; start = p.start; place = p.place }) t attached k) device block
    ∙ ap₂ (λ at a. known_made (record { device = x.device; block = x.block; start = p.start; place = at }) t a k) place same

-- the next one is made
next_told : (q : ℕ) (p : Placed) (t : Transfer) (attached : List Attachment) (s : State) (k : Known) → IsNextTold q p t attached s → known_made p t attached k ≡ known_drained p.device (q ∷ []) s k
unfolding known_drained
next_told q p t attached s k next =
    made_there p (placed_in p.device t.block s) t attached (pointers_of t.block s.records.attached) k refl next.block next.place next.pointers
    ∙ sym (ap (λ o. known_made_by p.device o s k) next.head)

pub next_out : (q : ℕ) (p : Placed) (m : Mapped) (t : Transfer) (attached : List Attachment) (s : State) (k r : Known) → m ≡ mapped_behind p t.offset t.section → t.out ≡ true → r ≡ copied_out m attached k → IsNextTold q p t attached s → r ≡ known_drained p.device (q ∷ []) s k
next_out q p m t attached s k r e out is next =
    is
    ∙ ap (λ x. copied_out x attached k) e
    ∙ sym (ap (λ b. if b then copied_out (mapped_behind p t.offset t.section) attached k else copied_in (mapped_behind p t.offset t.section) attached k) out)
    ∙ next_told q p t attached s k next

pub next_in : (q : ℕ) (p : Placed) (m : Mapped) (t : Transfer) (attached : List Attachment) (s : State) (k r : Known) → m ≡ mapped_behind p t.offset t.section → t.out ≡ false → r ≡ copied_in m attached k → IsNextTold q p t attached s → r ≡ known_drained p.device (q ∷ []) s k
next_in q p m t attached s k r e out is next =
    is
    ∙ ap (λ x. copied_in x attached k) e
    ∙ sym (ap (λ b. if b then copied_out (mapped_behind p t.offset t.section) attached k else copied_in (mapped_behind p t.offset t.section) attached k) out)
    ∙ next_told q p t attached s k next

-- ---- an item: its step and its pointer

pub acted_enter : (d : ℕ) (task : Task) (did : Did) (s : State) (k stepped_k r : Known) → enters task ≡ true → stepped_k ≡ known_stepped d task did.step (before_step task did s) k → r ≡ known_aimed d did.aim (before_aim task did s) stepped_k → r ≡ known_acted d task did s k
acted_enter d (Enter counter item queue) did s k stepped_k r e step aim = aim ∙ ap (λ x. known_aimed d did.aim (step_state (Enter counter item queue) did.step s) x) step
acted_enter d (ExitRegion holding) did s k stepped_k r e step aim = cc
acted_enter d (ExitData finalize item queue) did s k stepped_k r e step aim = cc
acted_enter d (Move if_present item queue) did s k stepped_k r e step aim = cc

pub acted_other : (d : ℕ) (task : Task) (did : Did) (s : State) (k aimed_k r : Known) → enters task ≡ false → aimed_k ≡ known_aimed d did.aim (before_aim task did s) k → r ≡ known_stepped d task did.step (before_step task did s) aimed_k → r ≡ known_acted d task did s k
acted_other d (Enter counter item queue) did s k aimed_k r e aim step = cc
acted_other d (ExitRegion holding) did s k aimed_k r e aim step = step ∙ ap (λ x. known_stepped d (ExitRegion holding) did.step (aimed did.aim s) x) aim
acted_other d (ExitData finalize item queue) did s k aimed_k r e aim step = step ∙ ap (λ x. known_stepped d (ExitData finalize item queue) did.step (aimed did.aim s) x) aim
acted_other d (Move if_present item queue) did s k aimed_k r e aim step = step ∙ ap (λ x. known_stepped d (Move if_present item queue) did.step (aimed did.aim s) x) aim
