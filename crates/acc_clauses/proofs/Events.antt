-- The event of a plan is legal, and has the tasks, the steps, the queues and the register of the plan. Where a plan
-- makes none, it changes nothing.
use Rattle.std.proofs.lemmas.Bool.Decides.{nat_tests}
use Rattle.std.proofs.Common.{ℕ, ◌≡◌, refl, sym, ap, subst, ◌∙◌, Bool, List, [], ◌∷◌, Option, Some, None, Ok, arith}
use Rattle.std.specs.Prelude.{map}
use Rattle.std.proofs.lemmas.List.{reverse-reverse}
use Rattle.acc_clauses.specs.Words.{Directive, Item, RegionClause, Task, Transfer, Did, Event}
use Rattle.acc_base.specs.declared.directives.Directive.TheVariants.{Step}
use Rattle.acc_base.specs.Limits.{Limits}
use Rattle.acc_base.specs.Records.{Records, Memory, State, layout_of}
use Rattle.acc_base.specs.Queues.{head_of}
use Rattle.acc_base.specs.Waits.{state_made, stepped, drained}
use Rattle.acc_base.specs.Walk.{enter_task, asked_in, done_in, stepped_in, holdings_of, register_after, loaned, block_counted, pointer_attached}
use Rattle.acc_base.specs.Acting.{judge_all, act_all_state, host_after, memories_after}
use Rattle.acc_base.specs.Judge.{Makes, Idle, step_verdict, verdict_of}
use Rattle.acc_base.specs.History.{AreJudged, IsLegal}
use Rattle.acc_base.proofs.Results.{ok_same}
use Rattle.acc_base.proofs.LegalEvents.{open_left, judged_all, same_event, event_legal}
use Rattle.acc_base.proofs.Memories.{AreBrought}
use Rattle.acc_clauses.specs.Planned.{Planned, IsPlanOf, holdings_by, register_by, steps_by, finished}
use Rattle.acc_clauses.proofs.Asking.{IsAskedWith, asked_with}

-- what the event of a plan asks, does and leaves of queues and register; it lends nothing and brings nothing back
pub record IsEventOf (d : Directive) (p : Planned) (s : State) (e : Event) : Type 0 where
  pub asked : asked_in e s.register ≡ p.tasks
  pub done : done_in e ≡ p.dids
  pub steps : stepped_in e s.records.queues ≡ steps_by d (act_all_state p.tasks p.dids s).records.queues
  pub register : register_after e s.register ≡ register_by d (holdings_by p.tasks p.dids) s.register
  pub host : (bytes : List ℕ) → host_after e [] bytes ≡ bytes
  pub records : (w : Records) → loaned e w ≡ w
  pub memories : (full : Bool) (ms : List Memory) → memories_after full e [] ms ≡ ms
  pub brought : (w : Records) → AreBrought e [] w

-- ---- the tasks

-- what an entry holds is read of its tasks
pub held_asked : (items : List (Item RegionClause)) (dids : List Did) → holdings_of items dids ≡ holdings_by (map enter_task items) dids
held_asked [] dids = refl
held_asked (item ∷ items) [] = refl
held_asked (item ∷ items) (did ∷ dids) = ap (λ hs. record { item = item; block = block_counted did.step; aim = pointer_attached did.aim } ∷ hs) (held_asked items dids)

-- where nothing is asked, nothing is done
none_done : (l : Limits) (tasks : List Task) (dids : List Did) (s : State) → [] ≡ tasks → judge_all l 0 tasks s ≡ Ok dids → [] ≡ dids
unfolding judge_all
none_done l [] dids s none judged = ok_same _ _ judged
none_done l (t ∷ ts) dids s none judged = cc

-- and the state stays
pub still : (l : Limits) (d : Directive) (s : State) (p : Planned) → IsPlanOf l d s p → [] ≡ p.tasks → act_all_state p.tasks p.dids s ≡ s
unfolding act_all_state
still l d s p h none = ap (λ ts. act_all_state ts p.dids s) (sym none) ∙ ap (λ ds. act_all_state [] ds s) (sym (none_done l p.tasks p.dids s none h.judged))

-- ---- the event

pub event_of_plan : (l : Limits) (n : ℕ) (d : Directive) (s : State) (p : Planned) (e : Event) → IsPlanOf l d s p → verdict_of n d s p.dids ≡ Makes e → IsEventOf d p s e
unfolding loaned
event_of_plan l n d s p e h made = grind (arith, nat_tests, held_asked, same_event, open_left, reverse-reverse, none_done, still)

pub planned_asked : (l : Limits) (n : ℕ) (d : Directive) (s : State) (p : Planned) (e : Event) → IsPlanOf l d s p → verdict_of n d s p.dids ≡ Makes e → asked_in e s.register ≡ p.tasks
planned_asked l n d s p e h made = (event_of_plan l n d s p e h made).asked

-- each task is judged in the records that those before it leave
pub planned_judged : (l : Limits) (d : Directive) (s : State) (p : Planned) → IsPlanOf l d s p → AreJudged l 0 p.tasks p.dids s.records
planned_judged l d s p h = judged_all l 0 p.tasks p.dids s h.judged

-- the event is legal
pub planned_legal : (l : Limits) (n : ℕ) (d : Directive) (s : State) (p : Planned) (e : Event) → IsPlanOf l d s p → verdict_of n d s p.dids ≡ Makes e → IsLegal l e (layout_of s)
planned_legal l n d s p e h made =
    let is : IsAskedWith d s.register p.tasks = asked_with d s.register p.tasks h.asked in
    event_legal l n d s is.holdings p.dids e is.left h.known (subst (λ ts. AreJudged l 0 ts p.dids s.records) (sym is.are) (planned_judged l d s p h)) h.free made

-- ---- no event

-- nothing is made of a queue that is empty
empty_step : (queue : ℕ) (s : State) → head_of queue s.records.queues ≡ None → drained (queue ∷ []) s ≡ s
unfolding drained stepped
empty_step queue s none = ap (λ o. state_made queue o s) none

step_idle : (l : Limits) (n device queue : ℕ) (s : State) (p : Planned) → IsPlanOf l (Step device queue) s p → (o : Option Transfer) → head_of queue s.records.queues ≡ o → step_verdict n queue o ≡ Idle → finished (Step device queue) p (act_all_state p.tasks p.dids s) ≡ s
step_idle l n device queue s p h None first idle =
    let none : [] ≡ p.tasks = (asked_with (Step device queue) s.register p.tasks h.asked).are in
    ap (finished (Step device queue) p) (still l (Step device queue) s p h none) ∙ ap (λ (t : State). record t { register = s.register }) (empty_step queue s first)
step_idle l n device queue s p h (Some t) first idle = cc

-- a plan without an event leaves the state
pub idle_plan : (l : Limits) (n : ℕ) (d : Directive) (s : State) (p : Planned) → IsPlanOf l d s p → verdict_of n d s p.dids ≡ Idle → finished d p (act_all_state p.tasks p.dids s) ≡ s
idle_plan l n (Step device queue) s p h idle = step_idle l n device queue s p h (head_of queue s.records.queues) refl idle
idle_plan l n d s p h idle = cc
