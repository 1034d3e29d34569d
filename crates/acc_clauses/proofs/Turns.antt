-- One turn of the loop over the tasks of a directive.
use Rattle.std.proofs.lemmas.Bool.Decides.{nat_tests}
use Rattle.std.proofs.Common.{ℕ, ◌≡◌, ◌+◌, ◌<◌, ◌≤◌, refl, sym, ap, ◌∙◌, List, [], ◌∷◌, ◌++◌, length, suc, Result, Ok, Err, arith, drop, get_or, add-one}
use Rattle.std.proofs.lemmas.List.{append-nil, append_assoc, drop_more, drop_all, length-append}
use Rattle.acc_clauses.specs.Words.{Task, Did, Fault}
use Rattle.acc_base.specs.Results.{◌>>=◌}
use Rattle.acc_base.specs.Limits.{Limits}
use Rattle.acc_base.specs.Records.{Records, State}
use Rattle.acc_base.specs.Steps.{act, act_all}
use Rattle.acc_base.specs.Acting.{judge_task, judge_all, act_state, act_all_state}
use Rattle.acc_base.specs.History.{AreJudged}
use Rattle.acc_base.proofs.Walked.{records-act_all_state}
use Rattle.acc_base.proofs.Legality.{IsJudgedItem, item_judged}
use Rattle.acc_clauses.specs.declared.acted.Acted.{Acted}
use Rattle.acc_clauses.specs.Overlays.{IsPlanned, AreUnmixed, tasks_in, dids_in, records_after, state_after}
use Rattle.acc_clauses.specs.Planned.{IsJudgedNext}
use Rattle.acc_clauses.proofs.Laws.{unmixed_front}

-- what was done before what is still judged
abbrev pub prefixed : List Did → Result (List Did) Fault → Result (List Did) Fault
prefixed done r = r >>= λ rest. Ok (done ++ rest)

pub tasks_in-push : (xs : List Acted) (x : Acted) → tasks_in (xs ++ x ∷ []) ≡ tasks_in xs ++ x.task ∷ []
tasks_in-push [] x = refl
tasks_in-push (y ∷ ys) x = ap (λ ts. y.task ∷ ts) (tasks_in-push ys x)

pub dids_in-push : (xs : List Acted) (x : Acted) → dids_in (xs ++ x ∷ []) ≡ dids_in xs ++ x.did ∷ []
dids_in-push [] x = refl
dids_in-push (y ∷ ys) x = ap (λ ds. y.did ∷ ds) (dids_in-push ys x)

pub state_after-push : (xs : List Acted) (x : Acted) (s : State) → state_after (xs ++ x ∷ []) s ≡ act_state x.task x.did (state_after xs s)
unfolding act_all_state
state_after-push [] x s = refl
state_after-push (y ∷ ys) x s = state_after-push ys x (act_state y.task y.did s)

-- the records of the state after tasks are the records after them
pub state_after-records : (xs : List Acted) (s : State) → (state_after xs s).records ≡ records_after xs s.records
state_after-records xs s = records-act_all_state (tasks_in xs) (dids_in xs) s

-- one more task was judged
judged-push : (l : Limits) (n m : ℕ) (xs : List Acted) (x : Acted) (w : Records) → m ≡ n + length xs → AreJudged l n (tasks_in xs) (dids_in xs) w → IsJudgedItem l m x.task x.did (records_after xs w)
    → AreJudged l n (tasks_in (xs ++ x ∷ [])) (dids_in (xs ++ x ∷ [])) w
unfolding act_all
judged-push l n m [] x w at judged ok = let same : m ≡ n = omega arith in (rw same at ok.step, ok.aim, tt)
judged-push l n m (y ∷ ys) x w at judged ok = (judged.0, judged.1, judged-push l (suc n) m ys x (act y.task y.did w) (omega arith) judged.2 ok)

pub IsPlanned-push : (l : Limits) (m : ℕ) (xs : List Acted) (x : Acted) (w : Records) → m ≡ length xs → IsPlanned l xs w → IsJudgedItem l m x.task x.did (records_after xs w) → IsPlanned l (xs ++ x ∷ []) w
IsPlanned-push l m xs x w at p ok = record { bounds = p.bounds; sound = p.sound; judged = judged-push l 0 m xs x w (omega arith) p.judged ok }

-- one more task was judged in the state
pub IsPlanned-next : (l : Limits) (m : ℕ) (xs ys : List Acted) (task : Task) (s : State) → m ≡ length xs → IsPlanned l xs s.records → IsJudgedNext l m task s xs ys → IsPlanned l ys s.records
IsPlanned-next l m xs ys task s at p next =
    let item = rw (state_after-records xs s) at (item_judged l m task next.did (state_after xs s) next.judged) in
    rw next.more (IsPlanned-push l m xs (record { task = task; did = next.did }) s.records at p item)

pub prefixed-nil : (r : Result (List Did) Fault) → prefixed [] r ≡ r
prefixed-nil r = grind (arith, nat_tests)

-- before the first turn
pub turns_begun : (l : Limits) (tasks : List Task) (s : State) → prefixed (dids_in []) (judge_all l 0 tasks (state_after [] s)) ≡ judge_all l 0 tasks s
unfolding act_all_state
turns_begun l tasks s = prefixed-nil (judge_all l 0 tasks s)

-- the first task of some is judged
judge_all-cons : (l : Limits) (n : ℕ) (task : Task) (tasks : List Task) (s : State) → judge_all l n (task ∷ tasks) s ≡ (judge_task l n task s >>= λ did. judge_all l (suc n) tasks (act_state task did s) >>= λ dids. Ok (did ∷ dids))
unfolding judge_all
judge_all-cons l n task tasks s = refl

-- what is judged goes from the tasks that are left to those that are done
pub task_judged : (l : Limits) (n i : ℕ) (xs ys : List Acted) (task : Task) (tasks : List Task) (d : Task) (s : State) (all : Result (List Did) Fault)
    → i < length tasks → task ≡ get_or tasks i d → IsJudgedNext l n task s xs ys
    → prefixed (dids_in xs) (judge_all l n (drop i tasks) (state_after xs s)) ≡ all
    → prefixed (dids_in ys) (judge_all l (n + 1) (drop (i + 1) tasks) (state_after ys s)) ≡ all
task_judged l n i xs ys task tasks d s all within item next so = grind (arith, nat_tests, drop_more, judge_all-cons, state_after-push, dids_in-push, add-one, append_assoc)

-- a refused task is the answer
pub turn_refused : (l : Limits) (n i : ℕ) (xs : List Acted) (task : Task) (tasks : List Task) (d : Task) (s : State) (fault : Fault) (all : Result (List Did) Fault)
    → i < length tasks → task ≡ get_or tasks i d → judge_task l n task (state_after xs s) ≡ Err fault
    → prefixed (dids_in xs) (judge_all l n (drop i tasks) (state_after xs s)) ≡ all → all ≡ Err fault
turn_refused l n i xs task tasks d s fault all within item refused so = grind (arith, nat_tests, drop_more, judge_all-cons)

pub judge_all-nil : (l : Limits) (n : ℕ) (s : State) → judge_all l n [] s ≡ Ok []
unfolding judge_all
judge_all-nil l n s = refl

-- after the last turn
pub turns_done : (l : Limits) (n i : ℕ) (xs : List Acted) (tasks : List Task) (s : State) (all : Result (List Did) Fault) → length tasks ≤ i
    → prefixed (dids_in xs) (judge_all l n (drop i tasks) (state_after xs s)) ≡ all → all ≡ Ok (dids_in xs)
turns_done l n i xs tasks s all past so = grind (arith, nat_tests, drop_all, judge_all-nil, append-nil)

-- the tasks that are done and the next one
pub unmixed_turn : (i : ℕ) (done : List Task) (task : Task) (tasks : List Task) (d : Task) → i < length tasks → task ≡ get_or tasks i d → done ++ drop i tasks ≡ tasks → AreUnmixed tasks → AreUnmixed (done ++ task ∷ [])
unmixed_turn i done task tasks d within item so unmixed =
    let cons : drop i tasks ≡ task ∷ drop (i + 1) tasks = drop_more tasks i d within ∙ ap (λ t. t ∷ drop (i + 1) tasks) (sym item) in
    let all : (done ++ task ∷ []) ++ drop (i + 1) tasks ≡ tasks = append_assoc done (task ∷ []) (drop (i + 1) tasks) ∙ (ap (λ ts. done ++ ts) (sym cons) ∙ so) in
    unmixed_front (done ++ task ∷ []) (drop (i + 1) tasks) (rw all unmixed)

-- and the ones that are left
pub asked_turn : (i : ℕ) (xs ys : List Acted) (x : Acted) (tasks : List Task) (d : Task) → i < length tasks → x.task ≡ get_or tasks i d → ys ≡ xs ++ x ∷ [] → tasks_in xs ++ drop i tasks ≡ tasks → tasks_in ys ++ drop (i + 1) tasks ≡ tasks
asked_turn i xs ys x tasks d within item more so = grind (arith, nat_tests, drop_more, tasks_in-push, append_assoc)

-- one task more is done
pub few_turn : (i : ℕ) (xs ys : List Acted) (x : Acted) → ys ≡ xs ++ x ∷ [] → length xs ≡ i → length ys ≡ i + 1
few_turn i xs ys x more few = rw more (omega (arith, length-append xs (x ∷ []), few))
