-- What an account tells of an item is so where it follows the device, and it follows what the item leaves.
use Rattle.std.proofs.Common.{◌≡◌, ◌≢◌, ℕ, ◌<◌, ◌+◌, Bool, true, false, ◌&&◌, ◌==◌, cond, List, [], ◌∷◌, ◌++◌, map, length, Option, Some, None, unwrap_or, option_map, refl, sym, ap, ap₂, subst, ◌∙◌, append-nil, arith}
use Rattle.std.specs.Prelude.{filter, IsSome}
use Rattle.std.specs.Option.{IsSomeAnd}
use Rattle.std.proofs.lemmas.Bool.Decides.{nat_tests}
use Rattle.std.proofs.lemmas.List.{get_or-set_same, get_or-set_other, map-append}
use Rattle.std.proofs.lemmas.List.Elements.{filter-append}
use Rattle.acc_base.specs.declared.attachments.Attachment.{Attachment}
use Rattle.acc_base.specs.declared.events.Step.{Step}
use Rattle.acc_base.specs.declared.events.Step.TheVariants.{Nothing, Counted, Born, Dropped, Moved}
use Rattle.acc_base.specs.declared.items.Section.{Section}
use Rattle.acc_base.specs.declared.mappings.Range.{Range}
use Rattle.acc_base.specs.declared.tasks.Task.{Task}
use Rattle.acc_base.specs.declared.transfers.Transfer.{Transfer}
use Rattle.acc_base.specs.Limits.{Limits}
use Rattle.acc_base.specs.Ranges.{range_of, start_of, bare_range}
use Rattle.acc_base.specs.Blocks.{block_at}
use Rattle.acc_base.specs.Queues.{queue_at, put}
use Rattle.acc_base.specs.Tasks.{section_of, queue_of, recounted}
use Rattle.acc_base.specs.Transfers.{transfer_of, queues_after}
use Rattle.acc_base.specs.Records.{Records, State}
use Rattle.acc_base.specs.Steps.{act_row, act_step, with_put, released, records_after_birth, records_after_end, with_range_changed}
use Rattle.acc_base.specs.Accounts.{IsMapped, AreRecordsSound}
use Rattle.acc_base.proofs.Results.{equal, equal_self}
use Rattle.acc_base.proofs.Elements.{found_has}
use Rattle.acc_base.proofs.Sound.{recounted_keeps}
use Rattle.acc_stale.specs.declared.accounts.Account.{Account}
use Rattle.acc_stale.specs.declared.accounts.Waiting.{Waiting}
use Rattle.acc_stale.specs.declared.known.Placed.{Placed}
use Rattle.acc_stale.specs.Events.{placed_in, pointers_of}
use Rattle.acc_stale.specs.Told.{IsThere, StartsIn, IsStepTold}
use Rattle.acc_stale.specs.Accounts.{ToldBlock, CanCount, told_at, attached_at, HasSameBlocks, IsChanged, IsCountKept, is_in, waiting_in}
use Rattle.acc_stale.specs.Follows.{IsBlockTold, IsRangeTold, AreBlocksTold, FollowsDevice, IsStepFit}
use Rattle.acc_stale.specs.Tells.{placed_at, held_new, placed_by, IsStepKept, attached_by, waiting_after, LeavesOthers}
use Rattle.acc_stale.proofs.Followed.{AreKept, still_told, same_kept, ended_kept, recount_told, born_told}

-- ---- a block that is mapped

-- an account tells where it lies
pub record IsTelling (d k : ℕ) (a : Account) (s : State) : Type 0 where
  pub t : ToldBlock
  pub is : told_at d k a ≡ Some t
  pub placed : t.held.placed ≡ placed_in d k s
  pub attached : t.attached ≡ pointers_of k s.records.attached

same_place : (p : Placed) (d k start place : ℕ) → p.device ≡ d → p.block ≡ k → p.start ≡ start → p.place ≡ place → p ≡ record { device = d; block = k; start = start; place = place }
same_place p d k start place device block begins lies =
    ap₂ (λ x y. record { device = x; block = y; start = p.start; place = p.place }) device block
    ∙ ap₂ (λ x y. record { device = d; block = k; start = x; place = y }) begins lies

block_there : (l : Limits) (k : ℕ) (r : Range) (w : Records) → AreRecordsSound l w → range_of k w.ranges ≡ Some r → IsSome (block_at k w.blocks)
block_there l k r w sound e =
    let mapped : IsMapped w.blocks r × ((r.block == k) ≡ true) = found_has (IsMapped w.blocks) (λ x. x.block == k) w.ranges r sound.one_block_each.mapped e in
    rw (← equal r.block k mapped.1, mapped.0.1) refl

telling_of : (d k : ℕ) (a : Account) (s : State) (r : Range) (o : Option ToldBlock) → told_at d k a ≡ o → range_of k s.records.ranges ≡ Some r → IsSomeAnd o (IsBlockTold d k s.records) → IsSomeAnd o (IsRangeTold r) → IsTelling d k a s
telling_of d k a s r None e is block range = absurd block
telling_of d k a s r (Some t) e is block range =
    let start : t.held.placed.start ≡ start_of k s.records.ranges = range.start ∙ sym (ap (λ (x : Option Range). unwrap_or (option_map (λ (y : Range). y.section.start) x) 0) is) in
    record { t = t; is = e; placed = same_place t.held.placed d k _ _ block.device block.number start block.place; attached = block.attached }

pub mapped_told : (l : Limits) (d k : ℕ) (a : Account) (s : State) → FollowsDevice d a s.records → AreRecordsSound l s.records → IsSome (range_of k s.records.ranges) → IsTelling d k a s
mapped_told l d k a s follows sound some = go (range_of k s.records.ranges) refl some
  where
    go : (o : Option Range) → range_of k s.records.ranges ≡ o → IsSome o → IsTelling d k a s
    go None e h = cc
    go (Some r) e h = telling_of d k a s r (told_at d k a) refl e (follows.told.blocks k (block_there l k r s.records sound e)) (follows.told.ranges k r e)

-- so it does, as an account tells of a step
pub placed_told : (d k : ℕ) (a : Account) (s : State) → IsTelling d k a s → placed_at d k a ≡ Some (placed_in d k s)
placed_told d k a s telling = ap (option_map (λ (t : ToldBlock). t.held.placed)) telling.is ∙ ap Some telling.placed

attached_told : (d k : ℕ) (a : Account) (s : State) → IsTelling d k a s → attached_at d k a ≡ pointers_of k s.records.attached
attached_told d k a s telling = ap (λ (o : Option ToldBlock). unwrap_or (option_map (λ (t : ToldBlock). t.attached) o) []) telling.is ∙ telling.attached

-- ---- the step of an item is told

there_told : (d k : ℕ) (a : Account) (s : State) (block : Option Placed) (P : Option Placed → Type 0) → block ≡ placed_at d k a → IsTelling d k a s → P (Some (placed_in d k s)) → P block
there_told d k a s block P is telling h = subst P (sym (is ∙ placed_told d k a s telling)) h

step_there : (d k : ℕ) (a : Account) (s : State) (attached : List Attachment) → attached ≡ attached_at d k a → IsTelling d k a s → IsThere (placed_in d k s) k attached s
step_there d k a s attached own telling = record { placed = refl; pointers = own ∙ attached_told d k a s telling }

pub step_told : (l : Limits) (d : ℕ) (task : Task) (step : Step) (a : Account) (s : State) (block : Option Placed) (attached : List Attachment) → block ≡ placed_by d (section_of task) step a → attached ≡ attached_by d step a
    → FollowsDevice d a s.records → AreRecordsSound l s.records → IsStepFit step s.records → IsStepTold d block task step attached s
step_told l d task Nothing a s block attached is own follows sound fit = subst (λ o. IsStepTold d o task Nothing attached s) (sym is) tt
step_told l d task (Counted k) a s block attached is own follows sound fit = subst (λ o. IsStepTold d o task (Counted k) attached s) (sym is) tt
step_told l d task (Born k place) a s block attached is own follows sound fit = subst (λ o. IsStepTold d o task (Born k place) attached s) (sym is) (refl, (refl, own))
step_told l d task (Dropped k true) a s block attached is own follows sound fit =
    let telling : IsTelling d k a s = mapped_told l d k a s follows sound fit in
    there_told d k a s block (λ o. IsStepTold d o task (Dropped k true) attached s) is telling (refl, step_there d k a s attached own telling)
step_told l d task (Dropped k false) a s block attached is own follows sound fit = subst (λ o. IsStepTold d o task (Dropped k false) attached s) (sym is) tt
step_told l d task (Moved k) a s block attached is own follows sound fit =
    let telling : IsTelling d k a s = mapped_told l d k a s follows sound fit in
    there_told d k a s block (λ o. IsStepTold d o task (Moved k) attached s) is telling (refl, step_there d k a s attached own telling)

-- its range begins there
pub starts_told : (l : Limits) (d : ℕ) (section : Section) (step : Step) (a : Account) (s : State) (block : Option Placed) → block ≡ placed_by d section step a → FollowsDevice d a s.records → AreRecordsSound l s.records → IsStepFit step s.records → StartsIn block step s.records.ranges
starts_told l d section Nothing a s block is follows sound fit = subst (λ o. StartsIn o Nothing s.records.ranges) (sym is) tt
starts_told l d section (Counted k) a s block is follows sound fit = subst (λ o. StartsIn o (Counted k) s.records.ranges) (sym is) tt
starts_told l d section (Born k place) a s block is follows sound fit = subst (λ o. StartsIn o (Born k place) s.records.ranges) (sym is) tt
starts_told l d section (Dropped k true) a s block is follows sound fit = there_told d k a s block (λ o. StartsIn o (Dropped k true) s.records.ranges) is (mapped_told l d k a s follows sound fit) refl
starts_told l d section (Dropped k false) a s block is follows sound fit = subst (λ o. StartsIn o (Dropped k false) s.records.ranges) (sym is) tt
starts_told l d section (Moved k) a s block is follows sound fit = there_told d k a s block (λ o. StartsIn o (Moved k) s.records.ranges) is (mapped_told l d k a s follows sound fit) refl

-- ---- the account follows what the step leaves

pub told_same : (d : ℕ) (told now : ℕ → Option ToldBlock) (w : Records) → ((b : ℕ) → now b ≡ told b) → AreBlocksTold d told w → AreBlocksTold d now w
told_same d told now w same h = record {
  blocks = λ b some. subst (λ o. IsSomeAnd o (IsBlockTold d b w)) (sym (same b)) (h.blocks b some);
  ranges = λ b r is. subst (λ o. IsSomeAnd o (IsRangeTold r)) (sym (same b)) (h.ranges b r is);
}

-- another block of the same device
pub other_here : (d k j : ℕ) → (j == k) ≡ false → (d == d && j == k) ≡ false
other_here d k j e = rw (equal_self d) e

blocks_born : (l : Limits) (d line k place : ℕ) (task : Task) (a b : Account) (w : Records) → IsChanged d k (Some (record { held = held_new d task line k place; attached = [] })) a b → k ≡ w.births + 1 → AreRecordsSound l w → AreBlocksTold d (λ j. told_at d j a) w
    → AreBlocksTold d (λ j. told_at d j b) (records_after_birth (recounted task (bare_range (section_of task) k)) place w)
blocks_born l d line k place task a b w kept number sound h =
    let new : Range = recounted task (bare_range (section_of task) k) in
    let block : new.block ≡ k = (recounted_keeps task).block (bare_range (section_of task) k) in
    let section : new.section ≡ section_of task = (recounted_keeps task).section (bare_range (section_of task) k) in
    born_told l d (λ j. told_at d j a) (λ j. told_at d j b) new place (record { held = held_new d task line k place; attached = [] }) w sound (block ∙ number) (ap (λ j. told_at d j b) block ∙ kept.here)
    (λ j e. kept.others d j (other_here d k j (subst (λ (x : ℕ). (j == x) ≡ false) block e))) refl (sym block) refl (sym (ap (λ (x : Section). x.start) section)) refl refl h

born_kept : (new : Range) (place : ℕ) (task : Task) (step : Step) (w : Records) → AreKept (records_after_birth new place w) (records_after_birth new place (with_put task step w))
unfolding records_after_birth
born_kept new place task step w = same_kept (records_after_birth new place w) (records_after_birth new place (with_put task step w)) refl refl refl

blocks_counted : (d k : ℕ) (task : Task) (step : Step) (a b : Account) (w : Records) → IsCountKept d k task a b → ((r : Range) → range_of k w.ranges ≡ Some r → CanCount r) → AreBlocksTold d (λ j. told_at d j a) w → AreBlocksTold d (λ j. told_at d j b) (with_range_changed k (recounted task) (with_put task step w))
blocks_counted d k task step a b w kept fit h =
    let put_told = still_told d (λ j. told_at d j a) w (with_put task step w) (same_kept w (with_put task step w) refl refl refl) h in
    recount_told d k task (λ j. told_at d j a) (λ j. told_at d j b) kept.range (with_put task step w) kept.here (λ j e. kept.others d j (other_here d k j e)) kept.counted fit put_told

blocks_acted : (l : Limits) (d line : ℕ) (task : Task) (step : Step) (a b : Account) (w : Records) → IsStepKept d task line step a b → IsStepFit step w → AreRecordsSound l w → AreBlocksTold d (λ j. told_at d j a) w → AreBlocksTold d (λ j. told_at d j b) (act_step task step w)
unfolding act_step act_row
blocks_acted l d line task Nothing a b w kept fit sound h = told_same d _ _ _ (kept.0 d) (still_told d _ w (with_put task Nothing w) (same_kept w (with_put task Nothing w) refl refl refl) h)
blocks_acted l d line task (Counted k) a b w kept fit sound h = blocks_counted d k task (Counted k) a b w kept fit h
blocks_acted l d line task (Born k place) a b w kept fit sound h =
    let new : Range = recounted task (bare_range (section_of task) k) in
    still_told d _ (records_after_birth new place w) (records_after_birth new place (with_put task (Born k place) w)) (born_kept new place task (Born k place) w) (blocks_born l d line k place task a b w kept fit sound h)
blocks_acted l d line task (Dropped k true) a b w kept fit sound h =
    let put_told = still_told d (λ j. told_at d j a) w (with_put task (Dropped k true) w) (same_kept w (with_put task (Dropped k true) w) refl refl refl) h in
    told_same d _ _ _ (kept.0 d) (still_told d _ _ _ (ended_kept k (with_put task (Dropped k true) w)) put_told)
blocks_acted l d line task (Dropped k false) a b w kept fit sound h = blocks_counted d k task (Dropped k false) a b w kept fit h
blocks_acted l d line task (Moved k) a b w kept fit sound h = told_same d _ _ _ (kept.0 d) (still_told d _ w (with_put task (Moved k) w) (same_kept w (with_put task (Moved k) w) refl refl refl) h)

-- ---- its queue

queues_acted : (task : Task) (step : Step) (w : Records) → (act_step task step w).queues ≡ queues_after (queue_of task) (transfer_of task step w.ranges) w.queues
unfolding act_step act_row records_after_birth records_after_end released with_range_changed
queues_acted task (Dropped k true) w = refl
queues_acted task _ w = refl

one_more : (d q : ℕ) (ws : List Waiting) (x : Waiting) → waiting_in d q (ws ++ x ∷ []) ≡ waiting_in d q ws ++ cond (is_in d q x) (x.transfer ∷ []) []
one_more d q ws x =
    ap (map (λ (y : Waiting). y.transfer)) (filter-append (is_in d q) ws (x ∷ []))
    ∙ map-append (λ (y : Waiting). y.transfer) (filter (is_in d q) ws) (filter (is_in d q) (x ∷ []))
    ∙ ap (λ ys. waiting_in d q ws ++ ys) (go (is_in d q x))
  where
    go : (s : Bool) → map (λ (y : Waiting). y.transfer) (cond s (x ∷ []) []) ≡ cond s (x.transfer ∷ []) []
    go true = refl
    go false = refl

queue_after : (d q : ℕ) (o : Option ℕ) (t : Option Transfer) (ws : List Waiting) (queues : List (List Transfer)) → q < length queues → waiting_in d q ws ≡ queue_at q queues → waiting_in d q (waiting_after d o t ws) ≡ queue_at q (queues_after o t queues)
queue_after d q None t ws queues there is = is
queue_after d q (Some p) None ws queues there is = is
queue_after d q (Some p) (Some t) ws queues there is = one_more d q ws (record { device = d; queue = p; transfer = t }) ∙ rw (equal_self d) (go (p == q) refl)
  where
    go : (s : Bool) → (p == q) ≡ s → waiting_in d q ws ++ cond s (t ∷ []) [] ≡ queue_at q (put p t queues)
    go true e =
        let same : p ≡ q = equal p q e in
        ap (λ ts. ts ++ t ∷ []) is ∙ sym (subst (λ (x : ℕ). queue_at q (put x t queues) ≡ queue_at q queues ++ t ∷ []) (sym same) (get_or-set_same queues q (queue_at q queues ++ t ∷ []) [] there))
    go false e =
        let other : q ≢ p = grind (arith, nat_tests, e) in
        append-nil (waiting_in d q ws) ∙ is ∙ sym (get_or-set_other queues p q (queue_at p queues ++ t ∷ []) [] other)

pub step_follows : (l : Limits) (d line : ℕ) (task : Task) (step : Step) (a b c : Account) (t : Option Transfer) (s : State) → IsStepKept d task line step a b → b.waiting ≡ a.waiting → HasSameBlocks b c → c.waiting.items ≡ waiting_after d (queue_of task) t b.waiting.items → t ≡ transfer_of task step s.records.ranges
    → FollowsDevice d a s.records → AreRecordsSound l s.records → IsStepFit step s.records → FollowsDevice d c (act_step task step s.records)
step_follows l d line task step a b c t s kept waiting same put_in is follows sound fit = record {
  told = told_same d (λ j. told_at d j b) (λ j. told_at d j c) (act_step task step s.records) (same d) (blocks_acted l d line task step a b s.records kept fit sound follows.told);
  queues = λ q low.
      let there : q < length s.records.queues = omega (arith, low, sound.queues.all) in
      ap (waiting_in d q) (put_in ∙ ap₂ (λ x ws. waiting_after d (queue_of task) x ws) is (ap (λ (x : _). x.items) waiting))
      ∙ queue_after d q (queue_of task) (transfer_of task step s.records.ranges) a.waiting.items s.records.queues there (follows.queues q low)
      ∙ sym (ap (queue_at q) (queues_acted task step s.records));
}

-- a step keeps what waits
pub step_waits : (d line : ℕ) (task : Task) (step : Step) (a b : Account) → IsStepKept d task line step a b → b.waiting ≡ a.waiting
step_waits d line task Nothing a b kept = kept.1
step_waits d line task (Counted k) a b kept = kept.waiting
step_waits d line task (Born k place) a b kept = kept.waiting
step_waits d line task (Dropped k true) a b kept = kept.1
step_waits d line task (Dropped k false) a b kept = kept.waiting
step_waits d line task (Moved k) a b kept = kept.1

-- ---- other devices

other_in : (d e q : ℕ) (o : Option ℕ) (t : Option Transfer) (ws : List Waiting) → (e == d) ≡ false → waiting_in e q (waiting_after d o t ws) ≡ waiting_in e q ws
other_in d e q None t ws other = refl
other_in d e q (Some p) None ws other = refl
other_in d e q (Some p) (Some t) ws other =
    let swapped : (d == e) ≡ false = grind (arith, nat_tests, other) in
    one_more e q ws (record { device = d; queue = p; transfer = t }) ∙ rw swapped (append-nil (waiting_in e q ws))

step_others_told : (d e line : ℕ) (task : Task) (step : Step) (a b : Account) → IsStepKept d task line step a b → (e == d) ≡ false → (j : ℕ) → told_at e j b ≡ told_at e j a
step_others_told d e line task Nothing a b kept other j = kept.0 e j
step_others_told d e line task (Counted k) a b kept other j = kept.others e j (rw other refl)
step_others_told d e line task (Born k place) a b kept other j = kept.others e j (rw other refl)
step_others_told d e line task (Dropped k true) a b kept other j = kept.0 e j
step_others_told d e line task (Dropped k false) a b kept other j = kept.others e j (rw other refl)
step_others_told d e line task (Moved k) a b kept other j = kept.0 e j

pub step_others : (d line : ℕ) (task : Task) (step : Step) (a b c : Account) (t : Option Transfer) → IsStepKept d task line step a b → b.waiting ≡ a.waiting → HasSameBlocks b c → c.waiting.items ≡ waiting_after d (queue_of task) t b.waiting.items → LeavesOthers d a c
step_others d line task step a b c t kept waiting same put_in e w other follows = record {
  told = told_same e (λ j. told_at e j a) (λ j. told_at e j c) w (λ j. same e j ∙ step_others_told d e line task step a b kept other j) follows.told;
  queues = λ q low. ap (waiting_in e q) (put_in ∙ ap (λ (x : _). waiting_after d (queue_of task) t x.items) waiting) ∙ other_in d e q (queue_of task) t a.waiting.items other ∙ follows.queues q low;
}
