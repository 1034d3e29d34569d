-- Before the tasks of a plan each that leaves a region finds what it held, and the register is ready for its directive.
-- After them the device is sound.
use Rattle.std.proofs.Common.{ℕ, ◌≡◌, ◌<◌, ◌≤◌, ◌^◌, refl, sym, ◌∙◌, ap, subst, false, cond, List, [], ◌∷◌, map, length, Some, Ok, arith}
use Rattle.std.specs.Prelude.{◌==◌, reverse, not}
use Rattle.std.specs.List.{AllByRecursion}
use Rattle.std.proofs.lemmas.Bool.Decides.{nat_tests}
use Rattle.std.proofs.lemmas.Grind.{reverse_onto}
use Rattle.acc_base.specs.Loans.{none_lent}
use Rattle.acc_clauses.specs.Words.{Item, RegionClause, Directive, Holding, Task, Did, Event}
use Rattle.acc_base.specs.declared.directives.Directive.TheVariants as directives
use Rattle.acc_base.specs.Limits.{Limits, IsWithinBounds}
use Rattle.acc_base.specs.Records.{Records, State}
use Rattle.acc_base.specs.Register.{Region, Register, holdings_at, opened, closed, count_held, is_counted_block}
use Rattle.acc_base.specs.Blocks.{used_bytes}
use Rattle.acc_base.specs.Steps.{act, act_all}
use Rattle.acc_base.specs.Waits.{records_drained}
use Rattle.acc_base.specs.Walk.{enter_task, enter_data_task, exit_task, move_task}
use Rattle.acc_base.specs.Acting.{act_all_state}
use Rattle.acc_base.specs.Judge.{tasks_with, holdings_left, transfers_in, Verdict, Makes, Idle, verdict_of}
use Rattle.acc_base.specs.History.{AreJudged}
use Rattle.acc_base.proofs.Births.{births-drained}
use Rattle.acc_base.proofs.Elements.{AllByRecursion-append, AllByRecursion-filter, AllByRecursion-weaker, find-none}
use Rattle.acc_base.proofs.Walked.{records-act_all_state, register-act_all_state, records-drained}
use Rattle.acc_base.proofs.Sound.{ranges-drained}
use Rattle.acc_base.proofs.AllTasks.{sum_by-reverse}
use Rattle.acc_base.proofs.LegalEvents.{open_left}
use Rattle.acc_base.proofs.Registers.{IsNumbered, AreFew, next_region, opened_regions, opened_few, closed_few, closed_held}
use Rattle.acc_base.proofs.Loaned.{loans-act_all}
use Rattle.acc_clauses.specs.Planned.{Planned, IsPlanOf, holdings_by, register_by, finished, steps_by}
use Rattle.acc_clauses.proofs.Emptying.{same_loans}
use Rattle.acc_clauses.specs.Contents.{Contents}
use Rattle.acc_clauses.specs.Acts.{IsKnown, AreKnown, HasRegionRoom, regions_entered, CanFinish}
use Rattle.acc_clauses.specs.Stored.{IsHoldingWithin, AreHoldingsWithin, AreContentsSound}
use Rattle.acc_clauses.proofs.Holding.{leaves_known, holdings_same}
use Rattle.acc_clauses.proofs.Entering.{regions_within, entered_within}
use Rattle.acc_clauses.proofs.Asking.{asked_with}
use Rattle.acc_clauses.proofs.Events.{IsEventOf, held_asked, still, event_of_plan, planned_judged, planned_legal, idle_plan}
use Rattle.acc_clauses.proofs.AfterPlan.{after_plan, event_sound}

-- ---- the tasks of a directive

-- tasks of which none leaves a region
known_map : {X : Type 0} (f : X → Task) (xs : List X) (dids : List Did) (w : Records) → ((x : X) (v : Records) → IsKnown v (f x)) → AreKnown (map f xs) dids w
known_map f [] [] w h = tt
known_map f [] (d ∷ ds) w h = tt
known_map f (x ∷ xs) [] w h = tt
known_map f (x ∷ xs) (d ∷ ds) w h = (h x w, known_map f xs ds (act (f x) d w) h)

-- ---- what a region holds

-- what an open region holds lies within, as all holdings do
region_within : (w : Records) (number : ℕ) (regions : List Region) (hs : List Holding) → holdings_at number regions ≡ Some hs → AreHoldingsWithin w regions → AllByRecursion (IsHoldingWithin w) hs
region_within w number [] hs e h = cc
region_within w number (r ∷ rs) hs e h = grind (arith, nat_tests, region_within w number rs hs)

all_reverse : {X : Type 0} (P : X → Type 0) (xs : List X) → AllByRecursion P xs → AllByRecursion P (reverse xs)
all_reverse P [] h = tt
all_reverse P (x ∷ xs) h = subst (AllByRecursion P) (sym (reverse_onto xs x [])) (AllByRecursion-append P (reverse xs) (x ∷ []) (all_reverse P xs h.1) (h.0, tt))

numbered_of : (c : Contents) → AreContentsSound c → IsNumbered c.state.register
numbered_of c h = record { first = h.sound.layout.register.first; rising = h.sound.layout.register.rising; known = h.sound.layout.register.known }

-- each task finds what it undoes that a directive asks
known_with : (d : Directive) (holdings : List Holding) (dids : List Did) (c : Contents) → IsWithinBounds c.limits → AreContentsSound c → holdings_left d c.state.register ≡ Ok holdings → AreJudged c.limits 0 (tasks_with d holdings) dids c.state.records
    → AreKnown (tasks_with d holdings) dids c.state.records
known_with (directives.Enter device items) holdings dids c bounds h left judged = known_map enter_task items dids c.state.records (λ x v. tt)
known_with (directives.Exit number) holdings dids c bounds h left judged =
    let g : Register = c.state.register in
    let is : holdings_at number g.regions ≡ Some holdings = open_left number _ holdings left in
    let within : AllByRecursion (IsHoldingWithin c.state.records) (reverse holdings) = all_reverse (IsHoldingWithin c.state.records) holdings (region_within c.state.records number g.regions holdings is h.holdings) in
    leaves_known c.limits 0 (reverse holdings) dids c.state.records bounds h.sound.layout.records judged within (λ b.
    let turned : count_held b (reverse holdings) ≡ count_held b holdings = sum_by-reverse (λ (x : Holding). cond (is_counted_block b x.block) 1 0) holdings in
    omega (arith, turned, closed_held b number holdings g (numbered_of c h) is, h.sound.layout.held b))
known_with (directives.EnterData device items queue) holdings dids c bounds h left judged = known_map (enter_data_task queue) items dids c.state.records (λ x v. tt)
known_with (directives.ExitData device items finalize queue) holdings dids c bounds h left judged = known_map (exit_task finalize queue) items dids c.state.records (λ x v. tt)
known_with (directives.Update device items if_present queue) holdings dids c bounds h left judged = known_map (move_task if_present queue) items dids c.state.records (λ x v. tt)
known_with _ holdings dids c bounds h left judged = known_map enter_task [] dids c.state.records (λ x v. tt)

-- so does each task of a plan
pub plan_known : (d : Directive) (c : Contents) (p : Planned) → IsWithinBounds c.limits → AreContentsSound c → IsPlanOf c.limits d c.state p → AreKnown p.tasks p.dids c.state.records
plan_known d c p bounds h planned = grind (arith, nat_tests, asked_with, planned_judged, known_with)

-- ---- the register

below_differs : (a n : ℕ) → a < n → (a == n) ≡ false
below_differs a n h = grind (arith, nat_tests)

-- the transfers that a plan without tasks makes are of no block that is lent
free_then : (d : Directive) (c f : Contents) (p : Planned) → IsPlanOf c.limits d c.state p → [] ≡ p.tasks → f.state ≡ act_all_state p.tasks p.dids c.state → none_lent (transfers_in d f.state.records.queues) f.state.records.loans ≡ Ok tt
free_then d c f p planned none acted = subst (λ (x : State). none_lent (transfers_in d x.records.queues) x.records.loans ≡ Ok tt) (sym (acted ∙ still c.limits d c.state p planned none)) planned.free

-- the register is ready for a directive, and so are the transfers that it makes
pub plan_can : (d : Directive) (c f : Contents) (p : Planned) → AreContentsSound c → IsPlanOf c.limits d c.state p → c.state.register.next < 2 ^ 48 → HasRegionRoom (regions_entered d) (length (holdings_by p.tasks p.dids)) c.room
    → f.state ≡ act_all_state p.tasks p.dids c.state → f.state.register ≡ c.state.register → c.room.regions ≤ f.room.regions → c.room.holdings ≤ f.room.holdings → CanFinish d (length (holdings_by p.tasks p.dids)) f
plan_can (directives.Enter device items) c f p h planned next room acted same regions holdings = record {
  next = rw same next;
  new = rw same (find-none (λ (r : Region). r.number == c.state.register.next) c.state.register.regions
      (AllByRecursion-weaker (λ (r : Region). r.number < c.state.register.next) (λ (r : Region). (r.number == c.state.register.next) ≡ false) c.state.register.regions (λ r low. below_differs r.number c.state.register.next low) h.sound.layout.register.known));
  room = record { regions_fit = omega (arith, room.regions_fit, regions); holdings_fit = omega (arith, room.holdings_fit, holdings) };
}
plan_can (directives.Exit number) c f p h planned next room acted same regions holdings = grind (arith, nat_tests)
plan_can (directives.Wait device queue) c f p h planned next room acted same regions holdings = free_then (directives.Wait device queue) c f p planned (asked_with (directives.Wait device queue) c.state.register p.tasks planned.asked).are acted
plan_can (directives.Step device queue) c f p h planned next room acted same regions holdings = free_then (directives.Step device queue) c f p planned (asked_with (directives.Step device queue) c.state.register p.tasks planned.asked).are acted
plan_can _ c f p h planned next room acted same regions holdings = refl

-- no more is held than there are tasks
pub holdings_few : (tasks : List Task) (dids : List Did) → length (holdings_by tasks dids) ≤ length tasks
holdings_few [] [] = omega arith
holdings_few [] (d ∷ ds) = omega arith
holdings_few (t ∷ ts) [] = omega arith
holdings_few (t ∷ ts) (d ∷ ds) = grind (arith, nat_tests, holdings_few ts ds)

-- what holds of a register holds after a directive, where it holds after a region's entry and after an exit
by_register : (P : Register → Type 0) (d : Directive) (holdings : List Holding) (g : Register) → P g → ((device : ℕ) (items : List (Item RegionClause)) → d ≡ directives.Enter device items → P (opened g.next holdings g)) → ((number : ℕ) → P (closed number g)) → P (register_by d holdings g)
by_register P d holdings g same enter exit = grind (arith, nat_tests)

-- no region holds too much after a plan
few_with_plan : (d : Directive) (c : Contents) (p : Planned) → AreContentsSound c → IsPlanOf c.limits d c.state p → AreFew (register_by d (holdings_by p.tasks p.dids) c.state.register)
few_with_plan d c p h planned =
    let few : AreFew c.state.register = h.sound.layout.register.few in
    let short : length (holdings_by p.tasks p.dids) ≤ 64 = omega (arith, holdings_few p.tasks p.dids, planned.few) in
    by_register AreFew d (holdings_by p.tasks p.dids) c.state.register few (λ device items is. opened_few (holdings_by p.tasks p.dids) c.state.register (numbered_of c h) few short) (λ number. closed_few number c.state.register few)

-- fewer blocks are lent than the number of the next loan
few_lent : (d : Directive) (c : Contents) (p : Planned) → AreContentsSound c → length (finished d p (act_all_state p.tasks p.dids c.state)).records.loans < (finished d p (act_all_state p.tasks p.dids c.state)).register.serial
few_lent d c p h =
    let s : State = act_all_state p.tasks p.dids c.state in
    let n : ℕ = length s.records.loans in
    let loans : s.records.loans ≡ c.state.records.loans = ap (λ (w : Records). w.loans) (records-act_all_state p.tasks p.dids c.state) ∙ loans-act_all p.tasks p.dids c.state.records in
    let below : n < s.register.serial = rw (loans, register-act_all_state p.tasks p.dids c.state) h.few in
    let after : n < (register_by d (holdings_by p.tasks p.dids) s.register).serial = by_register (λ g. n < g.serial) d (holdings_by p.tasks p.dids) s.register below (λ device items is. below) (λ number. below) in
    rw (same_loans (steps_by d s.records.queues) s) after

-- what open regions hold lies within after a plan
within_after : (d : Directive) (c : Contents) (p : Planned) → IsWithinBounds c.limits → AreContentsSound c → IsPlanOf c.limits d c.state p
    → AreHoldingsWithin (act_all p.tasks p.dids c.state.records) (register_by d (holdings_by p.tasks p.dids) c.state.register).regions
within_after d c p bounds h planned = by_register (λ x. AreHoldingsWithin v x.regions) d (holdings_by p.tasks p.dids) g kept
    (λ device items is. subst (λ rs. AreHoldingsWithin v rs) (sym (opened_regions (holdings_by p.tasks p.dids) g (numbered_of c h)))
    (AllByRecursion-append (λ (r : Region). AllByRecursion (IsHoldingWithin v) r.holdings) g.regions (next_region (holdings_by p.tasks p.dids) g ∷ []) kept (entered device items is, tt)))
    (λ number. AllByRecursion-filter (λ (r : Region). AllByRecursion (IsHoldingWithin v) r.holdings) (λ r. not (r.number == number)) g.regions kept)
  where
    w : Records
    w = c.state.records

    v : Records
    v = act_all p.tasks p.dids w

    g : Register
    g = c.state.register

    judged : AreJudged c.limits 0 p.tasks p.dids w
    judged = planned_judged c.limits d c.state p planned

    kept : AreHoldingsWithin v g.regions
    kept = regions_within c.limits 0 p.tasks p.dids w g.regions judged h.holdings

    asked : (device : ℕ) (items : List (Item RegionClause)) → d ≡ directives.Enter device items → map enter_task items ≡ p.tasks
    asked device items is = let asked = asked_with d g p.tasks planned.asked in ap (λ (x : Directive). tasks_with x asked.holdings) (sym is) ∙ asked.are

    entered : (device : ℕ) (items : List (Item RegionClause)) → d ≡ directives.Enter device items → AllByRecursion (IsHoldingWithin v) (holdings_by p.tasks p.dids)
    entered device items is = grind (arith, nat_tests, w, asked, judged, held_asked, entered_within)

-- ---- queued transfers leave what is held

within_drained : (qs : List ℕ) (w : Records) (regions : List Region) → AreHoldingsWithin w regions → AreHoldingsWithin (records_drained qs w) regions
within_drained qs w regions h = holdings_same w (records_drained qs w) regions (ranges-drained qs w) (births-drained qs w) h

-- what open regions hold lies within once a plan is finished
within_finished : (d : Directive) (c : Contents) (p : Planned) → IsWithinBounds c.limits → AreContentsSound c → IsPlanOf c.limits d c.state p
    → AreHoldingsWithin (finished d p (act_all_state p.tasks p.dids c.state)).records (finished d p (act_all_state p.tasks p.dids c.state)).register.regions
within_finished d c p bounds h planned = grind (arith, nat_tests, register-act_all_state, records-act_all_state, within_after, records-drained, within_drained)

-- ---- a device is sound after a plan

-- one that is as before is
pub same_sound : (c f : Contents) → f.limits ≡ c.limits → f.state ≡ c.state → AreContentsSound c → AreContentsSound f
same_sound c f limits state h = grind (arith, nat_tests)

-- and so is one after the event of the plan
made_sound : (d : Directive) (c f : Contents) (p : Planned) (e : Event) → IsWithinBounds c.limits → AreContentsSound c → IsPlanOf c.limits d c.state p → f.limits ≡ c.limits
    → f.state ≡ finished d p (act_all_state p.tasks p.dids c.state) → used_bytes f.state.records.blocks ≤ f.limits.device → verdict_of 0 d c.state p.dids ≡ Makes e → AreContentsSound f
made_sound d c f p e bounds h planned limits state used made =
    let l : Limits = c.limits in
    let is : IsEventOf d p c.state e = event_of_plan l 0 d c.state p e planned made in
    let P : State → Type 0 = λ s. AreHoldingsWithin s.records s.register.regions in
    event_sound l e [] c f bounds refl limits h (planned_legal l 0 d c.state p e planned made) (is.brought c.state.records) (state ∙ sym (after_plan l.full d p c.state e is))
    (subst AreFew (sym is.register) (few_with_plan d c p h planned))
    (subst (λ (t : State). length t.records.loans < t.register.serial) (sym state) (few_lent d c p h))
    (subst (λ (m : Limits). used_bytes f.state.records.blocks ≤ m.device) limits used)
    (subst P (sym state) (within_finished d c p bounds h planned))

pub plan_sound : (d : Directive) (c f : Contents) (p : Planned) → IsWithinBounds c.limits → AreContentsSound c → IsPlanOf c.limits d c.state p → f.limits ≡ c.limits
    → f.state ≡ finished d p (act_all_state p.tasks p.dids c.state) → used_bytes f.state.records.blocks ≤ f.limits.device → AreContentsSound f
plan_sound d c f p bounds h planned limits state used = go (verdict_of 0 d c.state p.dids) refl
  where
    go : (v : Verdict) → verdict_of 0 d c.state p.dids ≡ v → AreContentsSound f
    go (Makes e) made = made_sound d c f p e bounds h planned limits state used made
    go Idle idle = same_sound c f limits (state ∙ idle_plan c.limits 0 d c.state p planned idle) h
