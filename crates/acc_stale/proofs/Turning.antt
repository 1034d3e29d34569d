-- Items of an event that are told one after the other.
use Rattle.std.proofs.Common.{◌≡◌, ℕ, suc, zero, ◌<◌, ◌≤◌, ◌+◌, List, [], ◌∷◌, ◌++◌, length, take, get_or, Option, Some, None, unwrap_or, Ok, refl, sym, ap, ap₂, subst, ◌∙◌, arith}
use Rattle.std.specs.List.{slice_get}
use Rattle.std.proofs.lemmas.Grind.{common_steps}
use Rattle.std.proofs.lemmas.List.{length-map}
use Rattle.std.proofs.lemmas.Option.{same_Some, get_or_from_slice_get, slice_get-get_or, slice_get_within, unwrap_or-slice_get}
use Rattle.std.specs.Prelude.{option_map, option_and_then}
use Rattle.std.proofs.Math.Seq.{take-suc}
use Rattle.acc_base.specs.declared.events.Did.{Did}
use Rattle.acc_base.specs.declared.events.Event.{Event}
use Rattle.acc_base.specs.declared.events.Event.TheVariants.{Entered}
use Rattle.acc_base.specs.declared.items.Item.{Item}
use Rattle.acc_base.specs.declared.items.RegionClause.{RegionClause}
use Rattle.acc_base.specs.declared.tasks.Task.{Task}
use Rattle.acc_base.specs.declared.tasks.Task.TheVariants.{ExitRegion}
use Rattle.acc_base.specs.Items.{tasks_undone}
use Rattle.acc_base.specs.Walk.{did_in, holdings_of}
use Rattle.acc_base.specs.Results.{◌>>=◌}
use Rattle.acc_base.specs.Limits.{Limits, IsWithinBounds}
use Rattle.acc_base.specs.Records.{State}
use Rattle.acc_base.specs.Acting.{judge_task, judge_all, act_state, act_all_state}
use Rattle.acc_base.specs.Accounts.{AreRecordsSound}
use Rattle.acc_base.proofs.Results.{bind_ok, ok_same}
use Rattle.acc_base.proofs.Aimed.{task_left}
use Rattle.acc_base.proofs.Judged.{step_judged, task_says}
use Rattle.acc_base.proofs.Legality.{IsJudgedItem, item_judged}
use Rattle.acc_base.proofs.Walked.{records-act_state}
use Rattle.acc_stale.specs.declared.trackers.Tracker.{Tracker}
use Rattle.acc_stale.specs.Accounts.{act_at}
use Rattle.acc_stale.specs.Known.{Known}
use Rattle.acc_stale.specs.Events.{known_acted, known_all}
use Rattle.acc_stale.specs.Follows.{FollowsDevice}
use Rattle.acc_stale.specs.Tells.{AreActed}

-- ---- what was judged

-- a judged item leaves sound records
sound_after : (l : Limits) (n : ℕ) (task : Task) (did : Did) (s : State) → IsWithinBounds l → AreRecordsSound l s.records → judge_task l n task s ≡ Ok did → AreRecordsSound l (act_state task did s).records
sound_after l n task did s bounds sound judged =
    let item : IsJudgedItem l n task did s.records = item_judged l n task did s judged in
    subst (AreRecordsSound l) (sym (records-act_state task did s)) (task_left l task did s.records bounds sound (task_says l n task s.records did.step item.step) (step_judged l n task s.records did.step item.step).free item.aim).sound

-- the first of some that were judged, and the others
pub record AreFirstJudged (l : Limits) (n : ℕ) (task : Task) (tasks : List Task) (did : Did) (dids : List Did) (s : State) : Type 0 where
  pub first : judge_task l n task s ≡ Ok did
  pub rest : judge_all l (suc n) tasks (act_state task did s) ≡ Ok dids

first_judged : (l : Limits) (n : ℕ) (task : Task) (tasks : List Task) (did : Did) (dids : List Did) (s : State) → judge_all l n (task ∷ tasks) s ≡ Ok (did ∷ dids) → AreFirstJudged l n task tasks did dids s
unfolding judge_all
first_judged l n task tasks did dids s e =
    let one : (x : Did) × (judge_task l n task s ≡ Ok x) × ((judge_all l (suc n) tasks (act_state task x s) >>= λ xs. Ok (x ∷ xs)) ≡ Ok (did ∷ dids)) = bind_ok (judge_task l n task s) (λ x. judge_all l (suc n) tasks (act_state task x s) >>= λ xs. Ok (x ∷ xs)) (did ∷ dids) e in
    let two : (xs : List Did) × (judge_all l (suc n) tasks (act_state task one.0 s) ≡ Ok xs) × (Ok (one.0 ∷ xs) ≡ Ok (did ∷ dids)) = bind_ok (judge_all l (suc n) tasks (act_state task one.0 s)) (λ xs. Ok (one.0 ∷ xs)) (did ∷ dids) one.2 in
    let same : one.0 ∷ two.0 ≡ did ∷ dids = ok_same _ _ two.2 in
    let head : one.0 ≡ did = cc in
    let tail : two.0 ≡ dids = cc in
    record {
      first = subst (λ (x : Did). judge_task l n task s ≡ Ok x) head one.1;
      rest = subst (λ (x : Did). judge_all l (suc n) tasks (act_state task x s) ≡ Ok dids) head (subst (λ (xs : List Did). judge_all l (suc n) tasks (act_state task one.0 s) ≡ Ok xs) tail two.1);
    }

none_judged : (l : Limits) (n : ℕ) (did : Did) (dids : List Did) (s : State) → judge_all l n [] s ≡ Ok (did ∷ dids) → ⊥
unfolding judge_all
none_judged l n did dids s e = let bad : [] ≡ did ∷ dids = ok_same _ _ e in cc

some_judged : (l : Limits) (n : ℕ) (task : Task) (tasks : List Task) (s : State) → judge_all l n (task ∷ tasks) s ≡ Ok [] → ⊥
unfolding judge_all
some_judged l n task tasks s e =
    let one : (x : Did) × (judge_task l n task s ≡ Ok x) × ((judge_all l (suc n) tasks (act_state task x s) >>= λ xs. Ok (x ∷ xs)) ≡ Ok []) = bind_ok (judge_task l n task s) (λ x. judge_all l (suc n) tasks (act_state task x s) >>= λ xs. Ok (x ∷ xs)) [] e in
    let two : (xs : List Did) × (judge_all l (suc n) tasks (act_state task one.0 s) ≡ Ok xs) × (Ok (one.0 ∷ xs) ≡ Ok []) = bind_ok (judge_all l (suc n) tasks (act_state task one.0 s)) (λ xs. Ok (one.0 ∷ xs)) [] one.2 in
    let bad : one.0 ∷ two.0 ≡ [] = ok_same _ _ two.2 in
    cc

-- as many as there were
pub as_long : (l : Limits) (n : ℕ) (tasks : List Task) (dids : List Did) (s : State) → judge_all l n tasks s ≡ Ok dids → length tasks ≡ length dids
as_long l n [] [] s e = refl
as_long l n [] (did ∷ dids) s e = absurd (none_judged l n did dids s e)
as_long l n (task ∷ tasks) [] s e = absurd (some_judged l n task tasks s e)
as_long l n (task ∷ tasks) (did ∷ dids) s e = ap suc (as_long l (suc n) tasks dids (act_state task did s) (first_judged l n task tasks did dids s e).rest)

-- the one at a place was judged in what those before it left
pub record IsTurn (l : Limits) (i : ℕ) (task : Task) (did : Did) (tasks : List Task) (dids : List Did) (s : State) : Type 0 where
  pub nth : ℕ
  pub judged : judge_task l nth task (act_all_state (take i tasks) (take i dids) s) ≡ Ok did
  pub sound : AreRecordsSound l (act_all_state (take i tasks) (take i dids) s).records

turn_of : (l : Limits) (n i : ℕ) (x : Task) (y : Did) (tasks : List Task) (dids : List Did) (s : State) → IsWithinBounds l → AreRecordsSound l s.records → judge_all l n tasks s ≡ Ok dids → i < length dids → IsTurn l i (get_or tasks i x) (get_or dids i y) tasks dids s
unfolding act_all_state
turn_of l n i x y [] [] s bounds sound e low = absurd (omega (arith, low))
turn_of l n i x y [] (did ∷ dids) s bounds sound e low = absurd (none_judged l n did dids s e)
turn_of l n i x y (task ∷ tasks) [] s bounds sound e low = absurd (omega (arith, low))
turn_of l n zero x y (task ∷ tasks) (did ∷ dids) s bounds sound e low = record { nth = n; judged = (first_judged l n task tasks did dids s e).first; sound = sound }
turn_of l n (suc i) x y (task ∷ tasks) (did ∷ dids) s bounds sound e low =
    let both : AreFirstJudged l n task tasks did dids s = first_judged l n task tasks did dids s e in
    let rest : IsTurn l i (get_or tasks i x) (get_or dids i y) tasks dids (act_state task did s) = turn_of l (suc n) i x y tasks dids (act_state task did s) bounds (sound_after l n task did s bounds sound both.first) both.rest (omega (arith, low)) in
    record { nth = rest.nth; judged = rest.judged; sound = rest.sound }

-- ---- one more

all_state-push : (ts : List Task) (ds : List Did) (t : Task) (d : Did) (s : State) → length ts ≡ length ds → act_all_state (ts ++ t ∷ []) (ds ++ d ∷ []) s ≡ act_state t d (act_all_state ts ds s)
unfolding act_all_state
all_state-push [] [] t d s e = refl
all_state-push [] (y ∷ ds) t d s e = absurd (omega (arith, e))
all_state-push (x ∷ ts) [] t d s e = absurd (omega (arith, e))
all_state-push (x ∷ ts) (y ∷ ds) t d s e = all_state-push ts ds t d (act_state x y s) (omega (arith, e))

known_all-push : (n : ℕ) (ts : List Task) (ds : List Did) (t : Task) (d : Did) (s : State) (k : Known) → length ts ≡ length ds → known_all n (ts ++ t ∷ []) (ds ++ d ∷ []) s k ≡ known_acted n t d (act_all_state ts ds s) (known_all n ts ds s k)
unfolding act_all_state known_all
known_all-push n [] [] t d s k e = refl
known_all-push n [] (y ∷ ds) t d s k e = absurd (omega (arith, e))
known_all-push n (x ∷ ts) [] t d s k e = absurd (omega (arith, e))
known_all-push n (x ∷ ts) (y ∷ ds) t d s k e = known_all-push n ts ds t d (act_state x y s) (known_acted n x y s k) (omega (arith, e))

-- nothing was done
pub none_acted : (d : ℕ) (s : State) (x : Tracker) → FollowsDevice d x.account s.records → AreActed d [] [] s x x
unfolding act_all_state known_all
none_acted d s x follows = record { known = refl; follows = follows }

-- an item that is told, by what it was judged to do
abbrev pub IsOneActed : ℕ → Task → Did → Tracker → Tracker → Type 0
IsOneActed d task did y z = (l : Limits) (n : ℕ) (s : State) → IsWithinBounds l → AreRecordsSound l s.records → judge_task l n task s ≡ Ok did → FollowsDevice d y.account s.records → (z.known ≡ known_acted d task did s y.known) × FollowsDevice d z.account (act_state task did s).records

pub turn_acted : (l : Limits) (d i : ℕ) (task : Task) (did : Did) (tasks : List Task) (dids : List Did) (s : State) (x y z : Tracker) → IsWithinBounds l → AreRecordsSound l s.records → judge_all l 0 tasks s ≡ Ok dids → i < length dids → task ≡ get_or tasks i task → did ≡ get_or dids i did
    → AreActed d (take i tasks) (take i dids) s x y → IsOneActed d task did y z → AreActed d (take (suc i) tasks) (take (suc i) dids) s x z
turn_acted l d i task did tasks dids s x y z bounds sound judged low is_task is_did before one =
    let long : length tasks ≡ length dids = as_long l 0 tasks dids s judged in
    let alike : length (take i tasks) ≡ length (take i dids) = grind (arith, common_steps, long) in
    let low_task : i < length tasks = omega (arith, low, long) in
    let turn : IsTurn l i task did tasks dids s = subst (λ (t : Task). IsTurn l i t did tasks dids s) (sym is_task) (subst (λ (e : Did). IsTurn l i (get_or tasks i task) e tasks dids s) (sym is_did) (turn_of l 0 i task did tasks dids s bounds sound judged low)) in
    let did_this = one l turn.nth (act_all_state (take i tasks) (take i dids) s) bounds turn.sound turn.judged before.follows in
    let tasks_are : take (suc i) tasks ≡ take i tasks ++ task ∷ [] = take-suc tasks i task low_task ∙ ap (λ (t : Task). take i tasks ++ t ∷ []) (sym is_task) in
    let dids_are : take (suc i) dids ≡ take i dids ++ did ∷ [] = take-suc dids i did low ∙ ap (λ (e : Did). take i dids ++ e ∷ []) (sym is_did) in
    record {
      known = did_this.0 ∙ ap (known_acted d task did (act_all_state (take i tasks) (take i dids) s)) before.known ∙ sym (ap₂ (λ ts ds. known_all d ts ds s x.known) tasks_are dids_are ∙ known_all-push d (take i tasks) (take i dids) task did s x.known alike);
      follows = subst (λ (v : State). FollowsDevice d z.account v.records) (sym (ap₂ (λ ts ds. act_all_state ts ds s) tasks_are dids_are ∙ all_state-push (take i tasks) (take i dids) task did s alike)) did_this.1;
    }

-- all were told
pub all_acted : (l : Limits) (d i : ℕ) (tasks : List Task) (dids : List Did) (s : State) (x y : Tracker) → judge_all l 0 tasks s ≡ Ok dids → i ≡ length dids → AreActed d (take i tasks) (take i dids) s x y → AreActed d tasks dids s x y
all_acted l d i tasks dids s x y judged end h =
    let long : length tasks ≡ length dids = as_long l 0 tasks dids s judged in
    let all_tasks : take i tasks ≡ tasks = grind (arith, common_steps, end, long) in
    let all_dids : take i dids ≡ dids = grind (arith, common_steps, end) in
    subst (λ ts. AreActed d ts dids s x y) all_tasks (subst (λ ds. AreActed d (take i tasks) ds s x y) all_dids h)

-- the one that acts at a place
abbrev both : Option Task → Option Did → Option (Task × Did)
both a b = option_and_then (λ task. option_map (λ did. (task, did)) b) a

act_there : (i : ℕ) (tasks : List Task) (dids : List Did) (task : Task) (did : Did) → act_at i tasks dids ≡ Some (task, did) → (slice_get tasks i ≡ Some task) × (slice_get dids i ≡ Some did)
act_there i tasks dids task did e = go (slice_get tasks i) (slice_get dids i) e
  where
    go : (a : Option Task) (b : Option Did) → both a b ≡ Some (task, did) → (a ≡ Some task) × (b ≡ Some did)
    go None b h = cc
    go (Some t) None h = cc
    go (Some t) (Some d) h = let same : (t, d) ≡ (task, did) = same_Some _ _ h in (ap (λ (x : Task × Did). Some x.0) same, ap (λ (x : Task × Did). Some x.1) same)

-- one is there at each place at which something was done
pub no_act : (l : Limits) (i : ℕ) (tasks : List Task) (dids : List Did) (s : State) → judge_all l 0 tasks s ≡ Ok dids → i < length dids → act_at i tasks dids ≡ None → ⊥
no_act l i tasks [] s judged low none = omega (arith, low)
no_act l i [] (did ∷ dids) s judged low none = let long : 0 ≡ length (did ∷ dids) = as_long l 0 [] (did ∷ dids) s judged in omega (arith, long)
no_act l i (task ∷ tasks) (did ∷ dids) s judged low none =
    let long : length (task ∷ tasks) ≡ length (did ∷ dids) = as_long l 0 (task ∷ tasks) (did ∷ dids) s judged in
    let one : slice_get (task ∷ tasks) i ≡ Some (get_or (task ∷ tasks) i task) = slice_get-get_or (task ∷ tasks) i task (omega (arith, low, long)) in
    let other : slice_get (did ∷ dids) i ≡ Some (get_or (did ∷ dids) i did) = slice_get-get_or (did ∷ dids) i did low in
    let bad : None ≡ both (Some (get_or (task ∷ tasks) i task)) (Some (get_or (did ∷ dids) i did)) = sym none ∙ ap₂ both one other in
    cc

next_place : (n : ℕ) → suc n ≡ n + 1
next_place n = omega arith

-- its turn, by the place behind it
pub act_turn : (l : Limits) (d i : ℕ) (task : Task) (did : Did) (tasks : List Task) (dids : List Did) (s : State) (x y z : Tracker) → IsWithinBounds l → AreRecordsSound l s.records → judge_all l 0 tasks s ≡ Ok dids → act_at i tasks dids ≡ Some (task, did)
    → AreActed d (take i tasks) (take i dids) s x y → IsOneActed d task did y z → AreActed d (take (i + 1) tasks) (take (i + 1) dids) s x z
act_turn l d i task did tasks dids s x y z bounds sound judged is before one =
    let there : (slice_get tasks i ≡ Some task) × (slice_get dids i ≡ Some did) = act_there i tasks dids task did is in
    subst (λ (n : ℕ). AreActed d (take n tasks) (take n dids) s x z) (next_place i)
    (turn_acted l d i task did tasks dids s x y z bounds sound judged (slice_get_within dids i did there.1) (sym (get_or_from_slice_get tasks i task task there.0)) (sym (get_or_from_slice_get dids i did did there.1)) before one)

-- ---- what an exit is to undo

past_end : {X : Type 0} (xs : List X) (i : ℕ) → slice_get xs i ≡ None → length xs ≤ i
past_end [] i e = omega arith
past_end (x ∷ xs) zero e = cc
past_end (x ∷ xs) (suc i) e = omega (arith, past_end xs i e)

pub take_some : {X : Type 0} (xs : List X) (i : ℕ) (x : X) → slice_get xs i ≡ Some x → take i xs ++ x ∷ [] ≡ take (i + 1) xs
take_some xs i x e =
    let low : i < length xs = slice_get_within xs i x e in
    let is : get_or xs i x ≡ x = sym (unwrap_or-slice_get xs i x) ∙ ap (λ o. unwrap_or o x) e in
    sym (ap (λ (n : ℕ). take n xs) (sym (next_place i)) ∙ take-suc xs i x low ∙ ap (λ y. take i xs ++ y ∷ []) is)

pub take_none : {X : Type 0} (xs : List X) (i : ℕ) → slice_get xs i ≡ None → take i xs ≡ take (i + 1) xs
take_none xs i e = grind (arith, common_steps, past_end xs i e)

holdings_few : (items : List (Item RegionClause)) (dids : List Did) → length (holdings_of items dids) ≤ length dids
holdings_few [] dids = omega arith
holdings_few (item ∷ items) [] = omega arith
holdings_few (item ∷ items) (did ∷ dids) = omega (arith, holdings_few items dids)

pub undone_few : (e : Event) → length (tasks_undone e) ≤ length (did_in e)
undone_few (Entered device number items did) = omega (arith, length-map (holdings_of items did) ExitRegion, holdings_few items did)
undone_few _ = omega arith

pub undone_whole : (e : Event) (i : ℕ) → i ≡ length (did_in e) → take i (tasks_undone e) ≡ tasks_undone e
undone_whole e i end = grind (arith, common_steps, end, undone_few e)
