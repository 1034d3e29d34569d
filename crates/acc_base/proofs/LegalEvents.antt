-- A directive, a write of the host, a loan and a lease that are not refused make a legal event.
use Rattle.std.proofs.Common.{ℕ, suc, ◌≡◌, ◌+◌, ◌≤◌, refl, sym, ◌∙◌, ap, subst, Bool, true, false, cond, List, [], ◌∷◌, ◌++◌, length, Option, Some, None, Result, Ok, arith, length-take, length-drop, take-append-drop, drop-drop}
use Rattle.std.specs.Prelude.{◌==◌, not, ◌&&◌, ◌||◌, take, drop, unwrap_or, option_map, is_none, ok_or, IsSome}
use Rattle.std.proofs.lemmas.Bool.{true≢false, not-false}
use Rattle.std.proofs.lemmas.Slice.Eq.{bytes_eq-Decides}
use Rattle.std.proofs.lemmas.Bool.Decides.{nat_tests}
use Rattle.std.proofs.lemmas.List.{reverse-reverse, append_assoc}
use Rattle.acc_base.specs.Words.{Section, Range, Block, Found, Loan, Holding, Transfer, Task, Directive, Did, Event, Fault}
use Rattle.acc_base.specs.declared.mappings.Found.TheVariants.{Inside}
use Rattle.acc_base.specs.declared.directives.Directive.TheVariants.{Enter, Exit, EnterData, ExitData, Update, Wait}
use Rattle.acc_base.specs.declared.directives.Directive.TheVariants as directives
use Rattle.acc_base.specs.declared.events.Event.TheVariants.{Lent}
use Rattle.acc_base.specs.declared.faults.Fault.TheVariants.{NoLease, NoRegion}
use Rattle.acc_base.specs.Results.{◌>>=◌, ◌>>◌, refuse_if}
use Rattle.acc_base.specs.Limits.{Limits, recorded}
use Rattle.acc_base.specs.Overwriting.{overwritten}
use Rattle.acc_base.specs.Records.{Records, Layout, State, layout_of}
use Rattle.acc_base.specs.Register.{holdings_at}
use Rattle.acc_base.specs.Ranges.{where_is}
use Rattle.acc_base.specs.Blocks.{block_at}
use Rattle.acc_base.specs.Loans.{Leased, loan_of, is_lent, not_lent, none_lent, is_loan_of, len_of}
use Rattle.acc_base.specs.Bytes.{bytes_of}
use Rattle.acc_base.specs.Leases.{section_bytes, is_kept_outside, is_of_loan, is_returnable}
use Rattle.acc_base.specs.Clauses.{in_host}
use Rattle.acc_base.specs.Queues.{queue_at, head_of, queue_named}
use Rattle.acc_base.specs.Steps.{act}
use Rattle.acc_base.specs.Detaching.{block_in}
use Rattle.acc_base.specs.Acting.{judge_task, judge_all, act_state}
use Rattle.acc_base.specs.Judge.{tasks_with, holdings_left, tasks_of, queue_in, step_verdict, transfers_in, verdict_of, directive_verdict, written, host_write_event, region_open, lend_there, lend_event, gathered, gather_event}
use Rattle.acc_base.specs.Replay.{offset_lent, bytes_told}
use Rattle.acc_base.specs.Judge.{Verdict, Makes}
use Rattle.acc_base.specs.History.{AreJudged, HasRecorded, IsLegal}
use Rattle.acc_base.specs.Accounts.{IsMadeIn, IsClearOf, IsMapped, IsLoanSound, AreRecordsSound}
use Rattle.acc_base.proofs.Results.{and_true, equal, bind_ok, then_ok, ok_same, refused_not}
use Rattle.acc_base.proofs.Elements.{AllByRecursion-weaker, EachPair-weaker, found_has}
use Rattle.acc_base.proofs.Lookups.{at-own}
use Rattle.acc_base.proofs.Walked.{records-act_state}
use Rattle.acc_base.proofs.Legality.{IsJudgedItem, item_judged}
use Rattle.acc_base.proofs.Memories.{AreBrought}
use Rattle.acc_base.proofs.Queued.{head_first}

-- ---- a directive

no_dids : (dids : List Did) → ◌≡◌ {A = Result (List Did) Fault} (Ok []) (Ok dids) → [] ≡ dids
no_dids dids e = ok_same _ _ e

-- tasks that are judged, each in what those before it leave
pub judged_all : (l : Limits) (n : ℕ) (tasks : List Task) (dids : List Did) (s : State) → judge_all l n tasks s ≡ Ok dids → AreJudged l n tasks dids s.records
unfolding judge_all
judged_all l n [] dids s e = subst (λ ds. AreJudged l n [] ds s.records) (no_dids dids e) tt
judged_all l n (task ∷ tasks) dids s e =
    let first : (did : Did) × (judge_task l n task s ≡ Ok did) × ((judge_all l (suc n) tasks (act_state task did s) >>= λ rest. Ok (did ∷ rest)) ≡ Ok dids)
    = bind_ok (judge_task l n task s) (λ did. judge_all l (suc n) tasks (act_state task did s) >>= λ rest. Ok (did ∷ rest)) dids e in
    let others : (rest : List Did) × (judge_all l (suc n) tasks (act_state task first.0 s) ≡ Ok rest) × (Ok (first.0 ∷ rest) ≡ Ok dids)
    = bind_ok (judge_all l (suc n) tasks (act_state task first.0 s)) (λ rest. Ok (first.0 ∷ rest)) dids first.2 in
    let item : IsJudgedItem l n task first.0 s.records = item_judged l n task first.0 s first.1 in
    let rest : AreJudged l (suc n) tasks others.0 (act task first.0 s.records) = subst (AreJudged l (suc n) tasks others.0) (records-act_state task first.0 s) (judged_all l (suc n) tasks others.0 (act_state task first.0 s) others.1) in
    subst (λ ds. AreJudged l n (task ∷ tasks) ds s.records) (ok_same _ _ others.2) (item.step, item.aim, rest)

-- a region that is left is open
pub open_left : (number : ℕ) (o : Option (List Holding)) (holdings : List Holding) → ok_or o (NoRegion number) ≡ Ok holdings → o ≡ Some holdings
open_left number None holdings e = cc
open_left number (Some hs) holdings e = ap Some (ok_same _ _ e)

-- the event that is made
pub same_event : (x e : Event) → Makes x ≡ Makes e → x ≡ e
same_event x e h = cc

-- the first transfer of a queue is there to be made, and its block is not lent
step_legal : (l : Limits) (d queue : ℕ) (s : State) (e : Event) → none_lent (take 1 (queue_at queue s.records.queues)) s.records.loans ≡ Ok tt → step_verdict d queue (head_of queue s.records.queues) ≡ Makes e → IsLegal l e (layout_of s)
step_legal l d queue s e free h = go (head_of queue s.records.queues) refl h
  where
    first_free : (t : Transfer) → head_of queue s.records.queues ≡ Some t → is_lent t.block s.records.loans ≡ false
    first_free t is =
        let first : queue_at queue s.records.queues ≡ t ∷ drop 1 (queue_at queue s.records.queues) = head_first (queue_at queue s.records.queues) t is in
        let one : none_lent (t ∷ []) s.records.loans ≡ Ok tt = subst (λ ts. none_lent ts s.records.loans ≡ Ok tt) (ap (take 1) first) free in
        refused_not _ _ (then_ok (not_lent (Some t.block) s.records.loans) (none_lent [] s.records.loans) tt one).0

    go : (o : Option Transfer) → head_of queue s.records.queues ≡ o → step_verdict d queue o ≡ Makes e → IsLegal l e (layout_of s)
    go None is made = cc
    go (Some t) is made = subst (λ x. IsLegal l x (layout_of s)) (same_event _ _ made) (record { names = (ap (option_map (λ (x : Transfer). x.block)) is, first_free t is); judged = tt })

-- the event of a directive whose tasks were judged
pub event_legal : (l : Limits) (n : ℕ) (d : Directive) (s : State) (holdings : List Holding) (dids : List Did) (e : Event) → holdings_left d s.register ≡ Ok holdings → queue_named (queue_in d) ≡ Ok tt → AreJudged l 0 (tasks_with d holdings) dids s.records
    → none_lent (transfers_in d s.records.queues) s.records.loans ≡ Ok tt → verdict_of n d s dids ≡ Makes e → IsLegal l e (layout_of s)
event_legal l n (Enter device items) s holdings dids e left q judged free h = subst (λ x. IsLegal l x (layout_of s)) (same_event _ _ h) (record { names = refl; judged = judged })
event_legal l n (Exit number) s holdings dids e left q judged free h =
    let is : holdings_at number s.register.regions ≡ Some holdings = open_left number _ holdings left in
    subst (λ x. IsLegal l x (layout_of s)) (same_event _ _ h) (record { names = rw is refl; judged = rw (is, reverse-reverse dids) judged })
event_legal l n (directives.Step device queue) s holdings dids e left q judged free h = step_legal l n queue s e free h
event_legal l n d s holdings dids e left q judged free h = grind (arith, nat_tests, same_event)

-- where nothing is asked, nothing is done
pub none_made : (l : Limits) (s : State) → judge_all l 0 [] s ≡ Ok []
unfolding judge_all
none_made l s = refl

-- the event of a directive did what its tasks were judged to do
event_made : (l : Limits) (n : ℕ) (d : Directive) (s : State) (holdings : List Holding) (dids : List Did) (e : Event) → holdings_left d s.register ≡ Ok holdings → judge_all l 0 (tasks_with d holdings) s ≡ Ok dids → verdict_of n d s dids ≡ Makes e → IsMadeIn l e s
event_made l n (Exit number) s holdings dids e left judged h =
    let is : holdings_at number s.register.regions ≡ Some holdings = open_left number _ holdings left in
    subst (λ x. IsMadeIn l x s) (same_event _ _ h) (rw (is, reverse-reverse dids) judged)
event_made l n (Wait device queue) s holdings dids e left judged h = subst (λ x. IsMadeIn l x s) (same_event _ _ h) (none_made l s)
event_made l n (directives.Step device queue) s holdings dids e left judged h = go (head_of queue s.records.queues) h
  where
    go : (o : Option Transfer) → step_verdict n queue o ≡ Makes e → IsMadeIn l e s
    go None made = cc
    go (Some t) made = subst (λ x. IsMadeIn l x s) (same_event _ _ made) (none_made l s)
event_made l n (Enter device items) s holdings dids e left judged h = subst (λ x. IsMadeIn l x s) (same_event _ _ h) judged
event_made l n (EnterData device items queue) s holdings dids e left judged h = subst (λ x. IsMadeIn l x s) (same_event _ _ h) judged
event_made l n (ExitData device items finalize queue) s holdings dids e left judged h = subst (λ x. IsMadeIn l x s) (same_event _ _ h) judged
event_made l n (Update device items if_present queue) s holdings dids e left judged h = subst (λ x. IsMadeIn l x s) (same_event _ _ h) judged

-- the event of a directive, with what its tasks did
pub record IsMadeBy (l : Limits) (n : ℕ) (d : Directive) (s : State) (e : Event) : Type 0 where
  pub dids : List Did
  pub verdict_is : verdict_of n d s dids ≡ Makes e
  pub legal : IsLegal l e (layout_of s)
  pub made : IsMadeIn l e s

-- a directive that is not refused
pub made_by : (l : Limits) (n : ℕ) (d : Directive) (s : State) (e : Event) → directive_verdict l n d s ≡ Ok (Makes e) → IsMadeBy l n d s e
unfolding directive_verdict
made_by l n d s e h =
    let last : List Did → Result Verdict Fault = λ dids. none_lent (transfers_in d s.records.queues) s.records.loans >> Ok (verdict_of n d s dids) in
    let then : List Task → Result Verdict Fault = λ ts. judge_all l 0 ts s >>= last in
    let found : (ts : List Task) × (tasks_of d s.register ≡ Ok ts) × ((queue_named (queue_in d) >> then ts) ≡ Ok (Makes e))
    = bind_ok (tasks_of d s.register) (λ ts. queue_named (queue_in d) >> then ts) (Makes e) h in
    let left : (hs : List Holding) × (holdings_left d s.register ≡ Ok hs) × (Ok (tasks_with d hs) ≡ Ok found.0) = bind_ok (holdings_left d s.register) (λ hs. Ok (tasks_with d hs)) found.0 found.1 in
    let known : (queue_named (queue_in d) ≡ Ok tt) × (then found.0 ≡ Ok (Makes e)) = then_ok (queue_named (queue_in d)) (then found.0) (Makes e) found.2 in
    let acted : (dids : List Did) × (judge_all l 0 found.0 s ≡ Ok dids) × (last dids ≡ Ok (Makes e)) = bind_ok (judge_all l 0 found.0 s) last (Makes e) known.1 in
    let all_of : judge_all l 0 (tasks_with d left.0) s ≡ Ok acted.0 = rw (ok_same _ _ left.2) acted.1 in
    let judged : AreJudged l 0 (tasks_with d left.0) acted.0 s.records = judged_all l 0 (tasks_with d left.0) acted.0 s all_of in
    let free : (none_lent (transfers_in d s.records.queues) s.records.loans ≡ Ok tt) × (Ok (verdict_of n d s acted.0) ≡ Ok (Makes e)) = then_ok (none_lent (transfers_in d s.records.queues) s.records.loans) (Ok (verdict_of n d s acted.0)) (Makes e) acted.2 in
    let is : verdict_of n d s acted.0 ≡ Makes e = ok_same _ _ free.1 in
    record { dids = acted.0; verdict_is = is; legal = event_legal l n d s left.0 acted.0 e left.1 known.0 judged free.0 is; made = event_made l n d s left.0 acted.0 e left.1 all_of is }

-- ---- a write of the host

-- the bytes that a full trace stores are as many as were brought
length-recorded : (l : Limits) (bytes : List ℕ) → HasRecorded l (length bytes) (recorded l.full bytes)
length-recorded l bytes = go l.full
  where
    go : (full : Bool) → length (recorded full bytes) ≡ cond full (length bytes) 0
    go true = refl
    go false = refl

pub host_write_legal : (l : Limits) (addr : ℕ) (bytes : List ℕ) (lay : Layout) (e : Event) → host_write_event l addr bytes ≡ Ok e → written l.full addr bytes ≡ e × IsLegal l e lay
unfolding host_write_event
host_write_legal l addr bytes lay e h =
    let both : (in_host l 0 (record { start = addr; len = length bytes }) ≡ Ok tt) × (Ok (written l.full addr bytes) ≡ Ok e) = then_ok (in_host l 0 (record { start = addr; len = length bytes })) (Ok (written l.full addr bytes)) e h in
    let is : written l.full addr bytes ≡ e = ok_same _ _ both.1 in
    let legal : IsLegal l (written l.full addr bytes) lay = record { names = (both.0, length-recorded l bytes); judged = tt } in
    (is, subst (λ x. IsLegal l x lay) is legal)

-- ---- loans

-- a loan of a section of a block that is not lent, in an open region
pub lend_legal : (l : Limits) (d region : ℕ) (section : Section) (s : State) (e : Event) → lend_event l d region section s ≡ Ok e → (block : ℕ) × (Lent d region section block s.register.serial ≡ e) × IsLegal l (Lent d region section block s.register.serial) (layout_of s)
unfolding lend_event
lend_legal l d region section s e h =
    let there_is : (region_open region s.register ≡ Ok tt) × ((in_host l 0 section >> lend_there (where_is section s.records.ranges) d region section s) ≡ Ok e) = then_ok (region_open region s.register) _ e h in
    let within : (in_host l 0 section ≡ Ok tt) × (lend_there (where_is section s.records.ranges) d region section s ≡ Ok e) = then_ok (in_host l 0 section) _ e there_is.1 in
    go (where_is section s.records.ranges) refl (there (holdings_at region s.register.regions) (refused_not _ _ there_is.0)) within.1
  where
    there : (o : Option (List Holding)) → is_none o ≡ false → IsSome o
    there None e = cc
    there (Some holdings) e = refl

    go : (f : Found) → where_is section s.records.ranges ≡ f → IsSome (holdings_at region s.register.regions) → lend_there f d region section s ≡ Ok e → (block : ℕ) × (Lent d region section block s.register.serial ≡ e) × IsLegal l (Lent d region section block s.register.serial) (layout_of s)
    go (Inside block offset) at there_is k =
        let both : (not_lent (Some block) s.records.loans ≡ Ok tt) × (Ok (Lent d region section block s.register.serial) ≡ Ok e) = then_ok (not_lent (Some block) s.records.loans) (Ok (Lent d region section block s.register.serial)) e k in
        let is : Lent d region section block s.register.serial ≡ e = ok_same _ _ both.1 in
        let legal : IsLegal l (Lent d region section block s.register.serial) (layout_of s) = record { names = (there_is, ap block_in at, refused_not _ _ both.0, refl); judged = tt } in
        (block, is, legal)
    go _ at there_is k = cc

-- the loan that a lease brings back is there
record IsLoanBack (lease : Leased) (found : Option Loan) : Type 0 where
  loan : Loan
  there : found ≡ Some loan
  serial : loan.serial ≡ lease.serial
  offset : loan.offset ≡ lease.offset
  len : loan.len ≡ lease.len

loan_returned : (lease : Leased) (o : Option Loan) → is_loan_of lease o ≡ true → IsLoanBack lease o
loan_returned lease None e = cc
loan_returned lease (Some x) e =
    let places = and_true _ _ e in
    let both = and_true _ _ places.0 in
    record { loan = x; there = refl; serial = equal x.serial lease.serial both.0; offset = equal x.offset lease.offset both.1; len = equal x.len lease.len places.1 }

-- the section of the loan lies in its block
within_block : (l : Limits) (w : Records) (loan : Loan) → AreRecordsSound l w → loan_of loan.block w.loans ≡ Some loan → loan.offset + loan.len ≤ len_of loan.block w.blocks
within_block l w loan sound there =
    let is = (found_has (IsLoanSound w.ranges) (λ (x : Loan). x.block == loan.block) w.loans loan sound.loans.sound there).0 in
    let named = found_has (IsMapped w.blocks) (λ (r : Range). r.block == loan.block) w.ranges is.range sound.one_block_each.mapped is.mapped in
    let at : block_at loan.block w.blocks ≡ Some named.0.0 = subst (λ n. block_at n w.blocks ≡ Some named.0.0) (equal _ _ named.1) named.0.1 in
    rw at (omega (arith, is.within, named.0.2))

-- a lease brings a block back that is lent, with as many bytes as the block has, and a full trace gives all of them
pub record IsGathered (l : Limits) (lease : Leased) (s : State) (e : Event) : Type 0 where
  pub event_is : gathered l.full lease ≡ e
  pub legal : IsLegal l e (layout_of s)
  pub fits : AreBrought e lease.bytes s.records
  pub told : l.full ≡ true → bytes_told e s ≡ lease.bytes

-- as many as the section is long
length-section : (lease : Leased) → lease.offset + lease.len ≤ length lease.bytes → length (section_bytes lease) ≡ lease.len
length-section lease within = length-take lease.len (drop lease.offset lease.bytes) ∙ omega (arith, length-drop lease.offset lease.bytes, within)

section_recorded : (lease : Leased) (full : Bool) → lease.offset + lease.len ≤ length lease.bytes → length (recorded full (section_bytes lease)) ≡ cond full lease.len 0
section_recorded lease true within = length-section lease within
section_recorded lease false within = refl

-- with a copy that differs in the section alone, the section's bytes determine those of the lease
section_over : (lease : Leased) (copy : List ℕ) → lease.offset + lease.len ≤ length lease.bytes → is_kept_outside lease copy ≡ true → overwritten lease.offset (section_bytes lease) copy ≡ lease.bytes
section_over lease copy within kept =
    let both = and_true _ _ kept in
    let front : take lease.offset lease.bytes ≡ take lease.offset copy = (bytes_eq-Decides _ _).0 (and_true _ _ both.0).1 in
    let back : drop (lease.offset + lease.len) lease.bytes ≡ drop (lease.offset + lease.len) copy = (bytes_eq-Decides _ _).0 both.1 in
    append_assoc (take lease.offset copy) (section_bytes lease) (drop (lease.offset + length (section_bytes lease)) copy)
    ∙ (ap (λ n. take lease.offset copy ++ (section_bytes lease ++ drop (lease.offset + n) copy)) (length-section lease within)
    ∙ (ap (λ xs. xs ++ (section_bytes lease ++ drop (lease.offset + lease.len) copy)) (sym front)
    ∙ (ap (λ xs. take lease.offset lease.bytes ++ (section_bytes lease ++ xs)) (sym back ∙ sym (drop-drop lease.len lease.offset lease.bytes))
    ∙ (ap (λ xs. take lease.offset lease.bytes ++ xs) (take-append-drop lease.len (drop lease.offset lease.bytes)) ∙ take-append-drop lease.offset lease.bytes))))

section_told : (lease : Leased) (full : Bool) (offset : ℕ) (copy : List ℕ) → offset ≡ lease.offset → lease.offset + lease.len ≤ length lease.bytes → (not full || is_kept_outside lease copy) ≡ true → full ≡ true → overwritten offset (recorded full (section_bytes lease)) copy ≡ lease.bytes
section_told lease true offset copy is within kept set = ap (λ n. overwritten n (section_bytes lease) copy) is ∙ section_over lease copy within kept
section_told lease false offset copy is within kept set = absurd (true≢false (sym set))

-- a lease that is not refused
pub gather_legal : (l : Limits) (lease : Leased) (s : State) (e : Event) → AreRecordsSound l s.records → gather_event l lease s ≡ Ok e → IsGathered l lease s e
unfolding gather_event
gather_legal l lease s e sound h =
    let w : Records = s.records in
    let both = then_ok (refuse_if (not (is_returnable l.full l.number lease w.blocks w.loans s.memories)) (NoLease lease.serial)) (Ok (gathered l.full lease)) e h in
    let returnable : is_returnable l.full l.number lease w.blocks w.loans s.memories ≡ true = not-false _ (refused_not _ _ both.0) in
    let known : (is_of_loan l.number lease w.blocks w.loans ≡ true) × ((not l.full || is_kept_outside lease (bytes_of lease.block s.memories)) ≡ true) = and_true _ _ returnable in
    let here : ((is_loan_of lease (loan_of lease.block w.loans) && (len_of lease.block w.blocks == length lease.bytes)) ≡ true) × ((lease.device == l.number) ≡ true) = and_true _ _ known.0 in
    let fits : (is_loan_of lease (loan_of lease.block w.loans) ≡ true) × ((len_of lease.block w.blocks == length lease.bytes) ≡ true) = and_true _ _ here.0 in
    let back : IsLoanBack lease (loan_of lease.block w.loans) = loan_returned lease (loan_of lease.block w.loans) fits.0 in
    let own : back.loan.block ≡ lease.block = equal _ _ (found_has (IsLoanSound w.ranges) (λ (x : Loan). x.block == lease.block) w.loans back.loan sound.loans.sound back.there).1 in
    let inside : back.loan.offset + back.loan.len ≤ len_of back.loan.block w.blocks = within_block l w back.loan sound (subst (λ n. loan_of n w.loans ≡ Some back.loan) (sym own) back.there) in
    let within : lease.offset + lease.len ≤ length lease.bytes = omega (arith, subst (λ n. back.loan.offset + back.loan.len ≤ len_of n w.blocks) own inside, equal _ _ fits.1, back.offset, back.len) in
    let stored : HasRecorded l back.loan.len (recorded l.full (section_bytes lease)) = rw back.len (section_recorded lease l.full within) in
    let is : gathered l.full lease ≡ e = ok_same _ _ both.1 in
    let legal : IsLegal l (gathered l.full lease) (layout_of s) = record { names = (back.loan, back.there, back.serial, stored); judged = tt } in
    let long : AreBrought (gathered l.full lease) lease.bytes w = AllByRecursion-weaker (λ (b : Block). block_at b.number w.blocks ≡ Some b) (λ (b : Block). b.number ≡ lease.block → length lease.bytes ≡ b.len) w.blocks
    (λ b own same. sym (equal _ _ fits.1) ∙ (sym (ap (λ n. len_of n w.blocks) same) ∙ ap (λ (o : Option Block). unwrap_or (option_map (λ (x : Block). x.len) o) 0) own))
    (at-own (λ (b : Block). b.number) w.blocks (EachPair-weaker IsClearOf (λ (b c : Block). b.number ≡ c.number → ⊥) w.blocks (λ b c clear same. omega (arith, clear.numbers, same)) sound.blocks_apart.apart)) in
    let offset : offset_lent lease.block w.loans ≡ lease.offset = ap (λ (o : Option Loan). unwrap_or (option_map (λ (x : Loan). x.offset) o) 0) back.there ∙ back.offset in
    record {
      event_is = is;
      legal = subst (λ x. IsLegal l x (layout_of s)) is legal;
      fits = subst (λ x. AreBrought x lease.bytes w) is long;
      told = λ full. subst (λ x. bytes_told x s ≡ lease.bytes) is (section_told lease l.full _ (bytes_of lease.block s.memories) offset within known.1 full);
    }
