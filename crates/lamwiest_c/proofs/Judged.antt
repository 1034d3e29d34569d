-- What comes of a directive that an event names goes to C: it was judged, or carried out.
use Rattle.std.proofs.Common.{ℕ, ◌≡◌, refl, ap, inl, inr, subst, Option, Some, Result, Ok, Err}
use Rattle.acc_base.specs.declared.directives.Directive.{Directive}
use Rattle.acc_base.specs.declared.calls.Call.{Call}
use Rattle.acc_base.specs.declared.calls.Call.TheVariants.{Do}
use Rattle.acc_base.specs.declared.faults.Fault.{Fault}
use Rattle.acc_base.specs.Loans.{Leased}
use Rattle.acc_base.specs.Judge.{Verdict, Makes, Idle}
use Rattle.acc_base.specs.Calls.{World, judge}
use Rattle.lamwiest_c.specs.declared.statuses.Refusal.{Refusal}
use Rattle.lamwiest_c.specs.Environments.{DataEnvironment}
use Rattle.lamwiest_c.specs.Answers.{Told, CameOf, IsMadeIn, IsAsked, IsOf}
use Rattle.lamwiest_c.specs.Named.{IsNamed, verdict_told, IsDryRun}

refusal_same : {x y : Refusal} → ◌≡◌ {A = Result Directive Refusal} (Err x) (Err y) → x ≡ y
refusal_same h = cc

-- ---- directives that are judged

-- one that was read wrong is told so
pub read_wrong : (e : DataEnvironment) (named : Result Directive Refusal) (refusal : Refusal) → IsNamed named (Err refusal) → IsDryRun e named (λ r. Err refusal ≡ r)
read_wrong e (Err other) refusal h = ap Err (refusal_same h)
read_wrong e (Ok directive) refusal (inl h) = cc
read_wrong e (Ok directive) refusal (inr h) = inl (ap Err (refusal_same h.0), h.1)

-- one that was read right is told what it is judged to
pub read_right : (e : DataEnvironment) (named : Result Directive Refusal) (directive : Directive) (made : Result ℕ Refusal) → IsNamed named (Ok directive) → made ≡ verdict_told (judge e.world (Do directive)) → IsDryRun e named (λ r. made ≡ r)
read_right e (Err refusal) directive made h is = cc
read_right e (Ok other) directive made (inl h) is = let same : directive ≡ other = cc in inr (subst (λ (d : Directive). made ≡ verdict_told (judge e.world (Do d))) same is)
read_right e (Ok other) directive made (inr h) is = cc

-- what a function returned is told
told : (e : DataEnvironment) (asked : Result Directive Refusal) (made : Result ℕ Refusal) (T : Told) → IsDryRun e asked (λ r. made ≡ r) → T made → IsDryRun e asked T
told e (Err refusal) made T h t = subst T h t
told e (Ok directive) made T (inl h) t = inl (subst T h.0 t, h.1)
told e (Ok directive) made T (inr h) t = inr (subst T h t)

-- so is it of what a handle has, which stays
pub told_of : (old new : Option DataEnvironment) (e v : DataEnvironment) (asked : Result Directive Refusal) (made : Result ℕ Refusal) (T : Told) → old ≡ Some e → new ≡ Some v → IsDryRun e asked (λ r. made ≡ r) → v ≡ e → T made
    → IsOf old new T (λ e v. IsDryRun e asked T × (v ≡ e))
told_of old new e v asked made T had put judged same t = rw (had, put) (told e asked made T judged t, same)

-- ---- directives that are carried out

-- one that was read wrong changes nothing
pub asked_wrong : (e : DataEnvironment) (named : Result Directive Refusal) (refusal : Refusal) → IsNamed named (Err refusal) → IsAsked e named (λ r. Err refusal ≡ r) e
asked_wrong e (Err other) refusal h = (ap Err (refusal_same h), refl)
asked_wrong e (Ok directive) refusal (inl h) = cc
asked_wrong e (Ok directive) refusal (inr h) = inl (ap Err (refusal_same h.0), h.1, refl)

-- one that was read right is made
pub asked_right : (e v : DataEnvironment) (named : Result Directive Refusal) (directive : Directive) (T : Told) → IsNamed named (Ok directive) → IsMadeIn e (Do directive) T v → IsAsked e named T v
asked_right e v (Err refusal) directive T h made = cc
asked_right e v (Ok other) directive T (inl h) made = let same : directive ≡ other = cc in inr (subst (λ (d : Directive). IsMadeIn e (Do d) T v) same made)
asked_right e v (Ok other) directive T (inr h) made = cc

came_told : (w v : World) (call : Call Leased) (judged : Result Verdict Fault) (made : Result ℕ Refusal) (T : Told) → CameOf w call judged (λ r. made ≡ r) v → T made → CameOf w call judged T v
came_told w v call (Err fault) made T h t = (subst T h.0 t, h.1)
came_told w v call (Ok Idle) made T h t = (subst T h.0 t, h.1)
came_told w v call (Ok (Makes event)) made T (inl h) t = inl (subst T h.0 t, h.1)
came_told w v call (Ok (Makes event)) made T (inr h) t = inr (subst T h.0 t, h.1)

-- what a function returned is told
asked_told : (e v : DataEnvironment) (asked : Result Directive Refusal) (made : Result ℕ Refusal) (T : Told) → IsAsked e asked (λ r. made ≡ r) v → T made → IsAsked e asked T v
asked_told e v (Err refusal) made T h t = (subst T h.0 t, h.1)
asked_told e v (Ok directive) made T (inl h) t = inl (subst T h.0 t, h.1, h.2)
asked_told e v (Ok directive) made T (inr h) t = inr (came_told e.world v.world (Do directive) (judge e.world (Do directive)) made T h.0 t, h.1)

-- so is it of what a handle has
pub asked_of : (old new : Option DataEnvironment) (e v : DataEnvironment) (asked : Result Directive Refusal) (made : Result ℕ Refusal) (T : Told) → old ≡ Some e → new ≡ Some v → IsAsked e asked (λ r. made ≡ r) v → T made
    → IsOf old new T (λ e v. IsAsked e asked T v)
asked_of old new e v asked made T had put h t = rw (had, put) (asked_told e v asked made T h t)
