-- Queued transfers that are made: what an account tells of them is so, and it follows what they leave.
use Rattle.std.proofs.Common.{◌≡◌, ◌≢◌, ℕ, suc, zero, ◌<◌, ◌≤◌, ◌+◌, Bool, true, false, ◌&&◌, ◌==◌, cond, List, [], ◌∷◌, ◌++◌, map, length, drop, take, replicate, Option, Some, None, unwrap_or, option_map, refl, sym, ap, subst, ◌∙◌, append_assoc, append-nil, add-zero, zero-add, Ok, arith}
use Rattle.std.specs.Prelude.{filter, IsSome, nat_le}
use Rattle.acc_base.specs.declared.faults.Fault.TheVariants.{NoQueue}
use Rattle.std.specs.Option.{IsSomeAnd}
use Rattle.std.specs.List.{find, slice_get, AllByRecursion}
use Rattle.std.proofs.lemmas.Bool.Decides.{nat_tests}
use Rattle.std.proofs.lemmas.Grind.{common_steps}
use Rattle.std.proofs.lemmas.List.{get_or-set_same, get_or-set_other, replicate-append-replicate, length-map}
use Rattle.std.proofs.Math.Seq.{take-suc}
use Rattle.acc_base.specs.declared.attachments.Attachment.{Attachment}
use Rattle.acc_base.specs.declared.transfers.TheConstants.{QUEUE_COUNT}
use Rattle.acc_base.specs.declared.transfers.Transfer.{Transfer}
use Rattle.acc_base.specs.Limits.{Limits}
use Rattle.acc_base.specs.Blocks.{block_at}
use Rattle.acc_base.specs.Queues.{queue_at, head_of, popped, queue_named}
use Rattle.acc_base.specs.Records.{Records, State}
use Rattle.acc_base.specs.Steps.{released}
use Rattle.acc_base.specs.Waits.{records_made, records_stepped, state_made, stepped, records_drained, drained, steps_from}
use Rattle.acc_base.specs.Accounts.{IsTransferSound, AreRecordsSound}
use Rattle.acc_base.proofs.Results.{equal, equal_self, and_true, below_most, refused_not}
use Rattle.acc_base.proofs.Elements.{AllByRecursion-append}
use Rattle.acc_base.proofs.Queued.{all-at, head_first}
use Rattle.acc_base.proofs.Sound.{drained_sound}
use Rattle.acc_base.proofs.Walked.{records-drained}
use Rattle.acc_stale.specs.declared.accounts.Account.{Account}
use Rattle.acc_stale.specs.declared.accounts.Waiting.{Waiting}
use Rattle.acc_stale.specs.declared.known.Placed.{Placed}
use Rattle.acc_stale.specs.declared.trackers.Tracker.{Tracker}
use Rattle.acc_stale.specs.Known.{Known}
use Rattle.acc_stale.specs.Events.{known_made_by, known_drained}
use Rattle.acc_stale.specs.Told.{IsNextTold}
use Rattle.acc_stale.specs.Accounts.{ToldBlock, told_at, attached_at, HasSameBlocks, is_in, without_first, waiting_in}
use Rattle.acc_stale.specs.Follows.{IsBlockTold, AreBlocksTold, FollowsDevice}
use Rattle.acc_stale.specs.Tells.{placed_at, LeavesOthers, IsDrained}
use Rattle.acc_stale.proofs.Followed.{still_told, same_kept, released_kept}
use Rattle.acc_stale.proofs.Telling.{told_same}

-- ---- the first transfer of a queue

first_found : (d q : ℕ) (ws : List Waiting) → option_map (λ (w : Waiting). w.transfer) (find (is_in d q) ws) ≡ slice_get (waiting_in d q ws) 0
first_found d q [] = refl
first_found d q (w ∷ ws) = go (is_in d q w) (first_found d q ws)
  where
    go : (b : Bool) → option_map (λ (x : Waiting). x.transfer) (find (is_in d q) ws) ≡ slice_get (waiting_in d q ws) 0
        → option_map (λ (x : Waiting). x.transfer) (cond b (Some w) (find (is_in d q) ws)) ≡ slice_get (map (λ (x : Waiting). x.transfer) (cond b (w ∷ filter (is_in d q) ws) (filter (is_in d q) ws))) 0
    go true rest = refl
    go false rest = rest

first_out : (d q : ℕ) (ws : List Waiting) → waiting_in d q (without_first (is_in d q) ws) ≡ drop 1 (waiting_in d q ws)
first_out d q [] = refl
first_out d q (w ∷ ws) = go (is_in d q w) refl (first_out d q ws)
  where
    go : (b : Bool) → is_in d q w ≡ b → waiting_in d q (without_first (is_in d q) ws) ≡ drop 1 (waiting_in d q ws)
        → waiting_in d q (cond b ws (w ∷ without_first (is_in d q) ws)) ≡ drop 1 (map (λ (x : Waiting). x.transfer) (cond b (w ∷ filter (is_in d q) ws) (filter (is_in d q) ws)))
    go true e rest = refl
    go false e rest = rw e rest

other_out : (d q e p : ℕ) (ws : List Waiting) → (e == d && p == q) ≡ false → waiting_in e p (without_first (is_in d q) ws) ≡ waiting_in e p ws
other_out d q e p [] other = refl
other_out d q e p (w ∷ ws) other = go (is_in d q w) refl (other_out d q e p ws other)
  where
    go : (b : Bool) → is_in d q w ≡ b → waiting_in e p (without_first (is_in d q) ws) ≡ waiting_in e p ws → waiting_in e p (cond b ws (w ∷ without_first (is_in d q) ws)) ≡ waiting_in e p (w ∷ ws)
    go true f rest =
        let device : w.device ≡ d = equal _ _ (and_true _ _ f).0 in
        let queue : w.queue ≡ q = equal _ _ (and_true _ _ f).1 in
        let not_here : is_in e p w ≡ false = here (w.device == e) refl (w.queue == p) refl device queue in
        rw not_here refl
      where
        here : (s : Bool) → (w.device == e) ≡ s → (t : Bool) → (w.queue == p) ≡ t → w.device ≡ d → w.queue ≡ q → (s && t) ≡ false
        here true g true h device queue =
            let one : (e == d) ≡ true = grind (arith, nat_tests, g, device) in
            let two : (p == q) ≡ true = grind (arith, nat_tests, h, queue) in
            cc
        here true g false h device queue = refl
        here false g t h device queue = refl
    go false f rest = ap (λ xs. map (λ (x : Waiting). x.transfer) (cond (is_in e p w) (w ∷ filter (is_in e p) xs) (filter (is_in e p) xs))) refl ∙ kept (is_in e p w) rest
      where
        kept : (b : Bool) → waiting_in e p (without_first (is_in d q) ws) ≡ waiting_in e p ws
            → map (λ (x : Waiting). x.transfer) (cond b (w ∷ filter (is_in e p) (without_first (is_in d q) ws)) (filter (is_in e p) (without_first (is_in d q) ws))) ≡ map (λ (x : Waiting). x.transfer) (cond b (w ∷ filter (is_in e p) ws) (filter (is_in e p) ws))
        kept true h = ap (λ ts. w.transfer ∷ ts) h
        kept false h = h

-- the one that was taken is the next of the model's queue
head_told : (d q : ℕ) (a : Account) (w : Records) → q < QUEUE_COUNT → FollowsDevice d a w → option_map (λ (x : Waiting). x.transfer) (find (is_in d q) a.waiting.items) ≡ head_of q w.queues
head_told d q a w low follows = first_found d q a.waiting.items ∙ ap (λ (ts : List Transfer). slice_get ts 0) (follows.queues q low)

-- its block is there
block_of_next : (l : Limits) (q : ℕ) (t : Transfer) (w : Records) → AreRecordsSound l w → head_of q w.queues ≡ Some t → IsSome (block_at t.block w.blocks)
block_of_next l q t w sound e =
    let all : AllByRecursion (IsTransferSound l w.blocks) (queue_at q w.queues) = all-at (AllByRecursion (IsTransferSound l w.blocks)) w.queues q [] tt sound.queues.transfers in
    let first : AllByRecursion (IsTransferSound l w.blocks) (t ∷ drop 1 (queue_at q w.queues)) = subst (AllByRecursion (IsTransferSound l w.blocks)) (head_first (queue_at q w.queues) t e) all in
    rw first.0.there refl

-- so an account tells of it
pub record IsPinning (d k : ℕ) (a : Account) (w : Records) : Type 0 where
  pub t : ToldBlock
  pub is : told_at d k a ≡ Some t
  pub block : IsBlockTold d k w t

pub pinning_of : (l : Limits) (d q : ℕ) (t : Transfer) (a : Account) (w : Records) → FollowsDevice d a w → AreRecordsSound l w → head_of q w.queues ≡ Some t → IsPinning d t.block a w
pinning_of l d q t a w follows sound e = go (told_at d t.block a) refl (follows.told.blocks t.block (block_of_next l q t w sound e))
  where
    go : (o : Option ToldBlock) → told_at d t.block a ≡ o → IsSomeAnd o (IsBlockTold d t.block w) → IsPinning d t.block a w
    go None is h = absurd h
    go (Some x) is h = record { t = x; is = is; block = h }

pub next_told : (l : Limits) (d q : ℕ) (t : Transfer) (p : Placed) (attached : List Attachment) (a b : Account) (s : State) → Some t ≡ option_map (λ (x : Waiting). x.transfer) (find (is_in d q) a.waiting.items) → Some p ≡ placed_at d t.block b → attached ≡ attached_at d t.block b → HasSameBlocks a b
    → FollowsDevice d a s.records → AreRecordsSound l s.records → q < QUEUE_COUNT → (p.device ≡ d) × IsNextTold q p t attached s
next_told l d q t p attached a b s taken there own same follows sound low =
    let head : head_of q s.records.queues ≡ Some t = sym (taken ∙ head_told d q a s.records low follows) in
    let pin : IsPinning d t.block a s.records = pinning_of l d q t a s.records follows sound head in
    let at : told_at d t.block b ≡ Some pin.t = same d t.block ∙ pin.is in
    let lies : Some p ≡ Some pin.t.held.placed = there ∙ ap (option_map (λ (x : ToldBlock). x.held.placed)) at in
    let p_is : p ≡ pin.t.held.placed = cc in (
      ap (λ (x : Placed). x.device) p_is ∙ pin.block.device,
      record {
        head = head;
        block = ap (λ (x : Placed). x.block) p_is ∙ pin.block.number;
        place = ap (λ (x : Placed). x.place) p_is ∙ pin.block.place;
        pointers = own ∙ ap (λ (o : Option ToldBlock). unwrap_or (option_map (λ (x : ToldBlock). x.attached) o) []) at ∙ pin.block.attached;
      },
    )

-- none is left
pub none_next : (d q : ℕ) (a : Account) (s : State) → None ≡ option_map (λ (x : Waiting). x.transfer) (find (is_in d q) a.waiting.items) → FollowsDevice d a s.records → q < QUEUE_COUNT → head_of q s.records.queues ≡ None
none_next d q a s taken follows low = sym (taken ∙ head_told d q a s.records low follows)

-- its block cannot be unknown
pub next_lost : (l : Limits) (d q : ℕ) (t : Transfer) (a b : Account) (s : State) → Some t ≡ option_map (λ (x : Waiting). x.transfer) (find (is_in d q) a.waiting.items) → placed_at d t.block b ≡ None → HasSameBlocks a b → FollowsDevice d a s.records → AreRecordsSound l s.records → q < QUEUE_COUNT → ⊥
next_lost l d q t a b s taken none same follows sound low =
    let head : head_of q s.records.queues ≡ Some t = sym (taken ∙ head_told d q a s.records low follows) in
    let pin : IsPinning d t.block a s.records = pinning_of l d q t a s.records follows sound head in
    let lies : placed_at d t.block b ≡ Some pin.t.held.placed = ap (option_map (λ (x : ToldBlock). x.held.placed)) (same d t.block ∙ pin.is) in
    cc

-- ---- the account follows

records-stepped : (q : ℕ) (s : State) → (stepped q s).records ≡ records_made q (head_of q s.records.queues) s.records
unfolding stepped
records-stepped q s = go (head_of q s.records.queues)
  where
    go : (o : Option Transfer) → (state_made q o s).records ≡ records_made q o s.records
    go None = refl
    go (Some t) = refl

queues_released : (k : ℕ) (w : Records) → (released k w).queues ≡ w.queues
unfolding released
queues_released k w = refl

made_queue : (d q p : ℕ) (a b : Account) (w : Records) → q < length w.queues → p < QUEUE_COUNT → b.waiting.items ≡ without_first (is_in d q) a.waiting.items → FollowsDevice d a w → waiting_in d p b.waiting.items ≡ queue_at p (popped q w.queues)
made_queue d q p a b w there low left follows = ap (waiting_in d p) left ∙ go (p == q) refl
  where
    go : (s : Bool) → (p == q) ≡ s → waiting_in d p (without_first (is_in d q) a.waiting.items) ≡ queue_at p (popped q w.queues)
    go true e =
        let same : p ≡ q = equal p q e in
        subst (λ (x : ℕ). waiting_in d x (without_first (is_in d q) a.waiting.items) ≡ queue_at x (popped q w.queues)) (sym same)
        (first_out d q a.waiting.items ∙ ap (drop 1) (follows.queues q (subst (λ (x : ℕ). x < QUEUE_COUNT) same low)) ∙ sym (get_or-set_same w.queues q (drop 1 (queue_at q w.queues)) [] there))
    go false e =
        let other : p ≢ q = grind (arith, nat_tests, e) in
        other_out d q d p a.waiting.items (rw (equal_self d) e) ∙ follows.queues p low ∙ sym (get_or-set_other w.queues q p (drop 1 (queue_at q w.queues)) [] other)

made_follows : (l : Limits) (d q : ℕ) (t : Transfer) (a b : Account) (w : Records) → q < QUEUE_COUNT → HasSameBlocks a b → b.waiting.items ≡ without_first (is_in d q) a.waiting.items → FollowsDevice d a w → AreRecordsSound l w → FollowsDevice d b (records_made q (Some t) w)
made_follows l d q t a b w low same left follows sound =
    let after : Records = record w { queues = popped q w.queues } in
    let popped_told : AreBlocksTold d (λ j. told_at d j a) (record w { queues = popped q w.queues }) = still_told d (λ j. told_at d j a) w (record w { queues = popped q w.queues }) (same_kept w (record w { queues = popped q w.queues }) refl refl refl) follows.told in
    let there : q < length w.queues = omega (arith, low, sound.queues.all) in
    record {
      told = told_same d (λ j. told_at d j a) (λ j. told_at d j b) (released t.block (record w { queues = popped q w.queues })) (same d) (still_told d (λ j. told_at d j a) (record w { queues = popped q w.queues }) (released t.block (record w { queues = popped q w.queues })) (released_kept t.block (record w { queues = popped q w.queues })) popped_told);
      queues = λ p small. made_queue d q p a b w there small left follows ∙ sym (ap (queue_at p) (queues_released t.block (record w { queues = popped q w.queues })));
    }

-- nothing was taken
none_left : (test : Waiting → Bool) (ws : List Waiting) → option_map (λ (x : Waiting). x.transfer) (find test ws) ≡ None → without_first test ws ≡ ws
none_left test [] e = refl
none_left test (w ∷ ws) e = go (test w) e (none_left test ws)
  where
    go : (b : Bool) → option_map (λ (x : Waiting). x.transfer) (cond b (Some w) (find test ws)) ≡ None → (option_map (λ (x : Waiting). x.transfer) (find test ws) ≡ None → without_first test ws ≡ ws) → cond b ws (w ∷ without_first test ws) ≡ w ∷ ws
    go true h rest = cc
    go false h rest = ap (λ xs. w ∷ xs) (rest h)

pub next_follows : (l : Limits) (d q : ℕ) (r : Option Transfer) (a b : Account) (s : State) → r ≡ option_map (λ (x : Waiting). x.transfer) (find (is_in d q) a.waiting.items) → b.waiting.items ≡ without_first (is_in d q) a.waiting.items → HasSameBlocks a b
    → FollowsDevice d a s.records → AreRecordsSound l s.records → q < QUEUE_COUNT → FollowsDevice d b (stepped q s).records
next_follows l d q r a b s taken left same follows sound low =
    subst (FollowsDevice d b) (sym (records-stepped q s)) (go r (taken ∙ head_told d q a s.records low follows) taken)
  where
    go : (o : Option Transfer) → o ≡ head_of q s.records.queues → o ≡ option_map (λ (x : Waiting). x.transfer) (find (is_in d q) a.waiting.items) → FollowsDevice d b (records_made q (head_of q s.records.queues) s.records)
    go None e none = subst (λ o. FollowsDevice d b (records_made q o s.records)) e (record {
      told = told_same d (λ j. told_at d j a) (λ j. told_at d j b) s.records (same d) follows.told;
      queues = λ p small. ap (waiting_in d p) (left ∙ none_left (is_in d q) a.waiting.items (sym none)) ∙ follows.queues p small;
    })
    go (Some t) e some = subst (λ o. FollowsDevice d b (records_made q o s.records)) e (made_follows l d q t a b s.records low same left follows sound)

-- other devices
pub next_others : (d q : ℕ) (a b : Account) → b.waiting.items ≡ without_first (is_in d q) a.waiting.items → HasSameBlocks a b → LeavesOthers d a b
next_others d q a b left same e w other follows = record {
  told = told_same e (λ j. told_at e j a) (λ j. told_at e j b) w (same e) follows.told;
  queues = λ p low. ap (waiting_in e p) left ∙ other_out d q e p a.waiting.items (rw other refl) ∙ follows.queues p low;
}

-- ---- one after the other

drained-append : (ps qs : List ℕ) (s : State) → drained (ps ++ qs) s ≡ drained qs (drained ps s)
unfolding drained
drained-append [] qs s = refl
drained-append (p ∷ ps) qs s = drained-append ps qs (stepped p s)

known_drained-append : (d : ℕ) (ps qs : List ℕ) (s : State) (k : Known) → known_drained d (ps ++ qs) s k ≡ known_drained d qs (drained ps s) (known_drained d ps s k)
unfolding drained known_drained
known_drained-append d [] qs s k = refl
known_drained-append d (p ∷ ps) qs s k = known_drained-append d ps qs (stepped p s) (known_made_by d (head_of p s.records.queues) s k)

pub then_drained : (d : ℕ) (ps qs : List ℕ) (s : State) (x y z : Tracker) → IsDrained d ps s x y → IsDrained d qs (drained ps s) y z → IsDrained d (ps ++ qs) s x z
then_drained d ps qs s x y z first second = record {
  known = second.known ∙ ap (known_drained d qs (drained ps s)) first.known ∙ sym (known_drained-append d ps qs s x.known);
  follows = subst (λ (v : State). FollowsDevice d z.account v.records) (sym (drained-append ps qs s)) second.follows;
}

-- nothing was made
pub none_drained : (d : ℕ) (s : State) (x : Tracker) → FollowsDevice d x.account s.records → IsDrained d [] s x x
unfolding drained known_drained
none_drained d s x follows = record { known = refl; follows = follows }

-- the next one
pub one_drained : (d q : ℕ) (s : State) (x y : Tracker) → y.known ≡ known_drained d (q ∷ []) s x.known → FollowsDevice d y.account (stepped q s).records → IsDrained d (q ∷ []) s x y
unfolding drained
one_drained d q s x y known follows = record { known = known; follows = follows }

-- none, where the queue is empty
pub empty_drained : (d q : ℕ) (s : State) (x y : Tracker) → head_of q s.records.queues ≡ None → y.known ≡ x.known → FollowsDevice d y.account (stepped q s).records → IsDrained d (q ∷ []) s x y
unfolding known_drained
empty_drained d q s x y none known follows = one_drained d q s x y (known ∙ sym (ap (λ o. known_made_by d o s x.known) none)) follows

sound_drained : (l : Limits) (qs : List ℕ) (s : State) → AreRecordsSound l s.records → AreRecordsSound l (drained qs s).records
sound_drained l qs s sound = subst (AreRecordsSound l) (sym (records-drained qs s)) (drained_sound l qs s.records sound)

one_more_turn : (n q : ℕ) → replicate n q ++ q ∷ [] ≡ replicate (n + 1) q
one_more_turn n q = replicate-append-replicate n 1 q

-- a turn of the loop that empties one queue
pub turn_drained : (l : Limits) (d q n : ℕ) (s : State) (x y z : Tracker) → AreRecordsSound l s.records → IsDrained d (replicate n q) s x y
    → ((s : State) → FollowsDevice d y.account s.records → AreRecordsSound l s.records → IsDrained d (q ∷ []) s y z) → IsDrained d (replicate (n + 1) q) s x z
turn_drained l d q n s x y z sound before turn =
    subst (λ qs. IsDrained d qs s x z) (one_more_turn n q) (then_drained d (replicate n q) (q ∷ []) s x y z before (turn (drained (replicate n q) s) before.follows (sound_drained l (replicate n q) s sound)))

-- ---- all queues

-- other queues stay as they are
queue_stepped : (i p : ℕ) (w : Records) → (i == p) ≡ false → queue_at i (records_stepped p w).queues ≡ queue_at i w.queues
unfolding records_stepped
queue_stepped i p w other = go (head_of p w.queues)
  where
    go : (o : Option Transfer) → queue_at i (records_made p o w).queues ≡ queue_at i w.queues
    go None = refl
    go (Some t) =
        let apart : i ≢ p = grind (arith, nat_tests, other) in
        ap (queue_at i) (queues_released t.block (record w { queues = popped p w.queues })) ∙ get_or-set_other w.queues p i (drop 1 (queue_at p w.queues)) [] apart

queue_drained : (i : ℕ) (qs : List ℕ) (w : Records) → AllByRecursion (λ p. (i == p) ≡ false) qs → queue_at i (records_drained qs w).queues ≡ queue_at i w.queues
unfolding records_drained
queue_drained i [] w all = refl
queue_drained i (p ∷ ps) w all = queue_drained i ps (records_stepped p w) all.1 ∙ queue_stepped i p w all.0

all_turns : (i p n : ℕ) → (i == p) ≡ false → AllByRecursion (λ x. (i == x) ≡ false) (replicate n p)
all_turns i p zero other = tt
all_turns i p (suc n) other = (other, all_turns i p n other)

below_all : (i j : ℕ) (queues : List (List Transfer)) → j + length queues ≤ i → AllByRecursion (λ p. (i == p) ≡ false) (steps_from j queues)
below_all i j [] h = tt
below_all i j (ts ∷ queues) h =
    AllByRecursion-append (λ p. (i == p) ≡ false) (replicate (length ts) j) (steps_from (suc j) queues) (all_turns i j (length ts) (grind (arith, nat_tests, h))) (below_all i (suc j) queues (omega (arith, h)))

steps_from-push : (j : ℕ) (queues : List (List Transfer)) (ts : List Transfer) → steps_from j (queues ++ ts ∷ []) ≡ steps_from j queues ++ replicate (length ts) (j + length queues)
steps_from-push j [] ts = append-nil (replicate (length ts) j) ∙ ap (λ (n : ℕ). replicate (length ts) n) (sym (add-zero j))
steps_from-push j (us ∷ queues) ts =
    ap (λ xs. replicate (length us) j ++ xs) (steps_from-push (suc j) queues ts ∙ ap (λ (n : ℕ). steps_from (suc j) queues ++ replicate (length ts) n) (omega arith))
    ∙ sym (append_assoc (replicate (length us) j) (steps_from (suc j) queues) (replicate (length ts) (j + length (us ∷ queues))))

taken_length : (i : ℕ) (queues : List (List Transfer)) → i ≤ length queues → length (take i queues) ≡ i
taken_length i queues h = grind (arith, common_steps, h)

-- the steps of one queue more
steps_more : (i : ℕ) (queues : List (List Transfer)) → i < length queues → steps_from 0 (take i queues) ++ replicate (length (queue_at i queues)) i ≡ steps_from 0 (take (suc i) queues)
steps_more i queues h =
    let low : i ≤ length queues = omega (arith, h) in
    sym (ap (steps_from 0) (take-suc queues i [] h) ∙ steps_from-push 0 (take i queues) (queue_at i queues) ∙ ap (λ (n : ℕ). steps_from 0 (take i queues) ++ replicate (length (queue_at i queues)) n) (zero-add (length (take i queues)) ∙ taken_length i queues low))

-- a turn of the loop that empties all queues
pub queue_turn : (l : Limits) (d i : ℕ) (s : State) (x y z : Tracker) → AreRecordsSound l s.records → i < QUEUE_COUNT → IsDrained d (steps_from 0 (take i s.records.queues)) s x y
    → ((s : State) → FollowsDevice d y.account s.records → AreRecordsSound l s.records → IsDrained d (replicate (length (queue_at i s.records.queues)) i) s y z) → IsDrained d (steps_from 0 (take (suc i) s.records.queues)) s x z
queue_turn l d i s x y z sound low before turn =
    let qs : List ℕ = steps_from 0 (take i s.records.queues) in
    let there : i < length s.records.queues = omega (arith, low, sound.queues.all) in
    let size : length (take i s.records.queues) ≡ i = taken_length i s.records.queues (omega (arith, there)) in
    let same : queue_at i (drained qs s).records.queues ≡ queue_at i s.records.queues = ap (λ (w : Records). queue_at i w.queues) (records-drained qs s) ∙ queue_drained i qs s.records (below_all i 0 (take i s.records.queues) (omega (arith, size))) in
    let this : IsDrained d (replicate (length (queue_at i (drained qs s).records.queues)) i) (drained qs s) y z = turn (drained qs s) before.follows (sound_drained l qs s sound) in
    subst (λ ps. IsDrained d ps s x z) (steps_more i s.records.queues there)
    (then_drained d qs (replicate (length (queue_at i s.records.queues)) i) s x y z before (subst (λ (ts : List Transfer). IsDrained d (replicate (length ts) i) (drained qs s) y z) same this))

pub all_drained : (l : Limits) (d i : ℕ) (s : State) (x y : Tracker) → AreRecordsSound l s.records → i ≡ QUEUE_COUNT → IsDrained d (steps_from 0 (take i s.records.queues)) s x y → IsDrained d (steps_from 0 s.records.queues) s x y
all_drained l d i s x y sound end h =
    let all : take i s.records.queues ≡ s.records.queues = grind (arith, common_steps, end, sound.queues.all) in
    subst (λ queues. IsDrained d (steps_from 0 queues) s x y) all h

pub others_then : (d : ℕ) (a b c : Account) → LeavesOthers d a b → LeavesOthers d b c → LeavesOthers d a c
others_then d a b c first second e w other follows = second e w other (first e w other follows)

-- as many as wait are made
pub as_many : (d q : ℕ) (a : Account) (w : Records) (n : ℕ) → n ≡ length (filter (is_in d q) a.waiting.items) → q < QUEUE_COUNT → FollowsDevice d a w → n ≡ length (queue_at q w.queues)
as_many d q a w n is low follows = is ∙ sym (length-map (filter (is_in d q) a.waiting.items) (λ (x : Waiting). x.transfer)) ∙ ap (λ (ts : List Transfer). length ts) (follows.queues q low)

-- a queue that is named is there
pub known_queue : (q : ℕ) → queue_named (Some q) ≡ Ok tt → q < QUEUE_COUNT
known_queue q named = below_most QUEUE_COUNT q (refused_not (nat_le QUEUE_COUNT q) (NoQueue q) named)
