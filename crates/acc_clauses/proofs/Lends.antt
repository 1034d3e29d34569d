-- A block is lent, and comes back: what the device needs for it, and what it leaves of the parts and of the whole.
use Rattle.std.proofs.Common.{ℕ, ◌≡◌, ◌+◌, ◌-◌, ◌<◌, ◌≤◌, refl, sym, ◌∙◌, ap, subst, Bool, true, false, List, [], ◌∷◌, Option, Some, Ok, arith}
use Rattle.std.specs.Prelude.{◌==◌, not, is_none, is_some, length}
use Rattle.std.proofs.lemmas.Bool.Decides.{nat_tests}
use Rattle.std.specs.List.{AllByRecursion, AllZip}
use Rattle.std.proofs.lemmas.Bool.{not-false}
use Rattle.acc_clauses.specs.Words.{Section, Range, Block, Loan, Event}
use Rattle.acc_base.specs.declared.faults.Fault.TheVariants.{NoLease}
use Rattle.acc_base.specs.declared.events.Event.TheVariants.{Lent}
use Rattle.acc_base.specs.Results.{refuse_if}
use Rattle.acc_base.specs.Limits.{Limits, recorded, base_on, IsWithinBounds}
use Rattle.acc_base.specs.Records.{Records, State, layout_of}
use Rattle.acc_base.specs.Blocks.{block_at, used_bytes}
use Rattle.acc_base.specs.Loans.{Leased, loan_of, is_loan_of, is_lent, with_loan, without_loan, len_of}
use Rattle.acc_base.specs.Leases.{is_returnable}
use Rattle.acc_base.specs.Walk.{loan_at, loaned}
use Rattle.acc_base.specs.Waits.{drained}
use Rattle.acc_base.specs.Acting.{act_all_state, after}
use Rattle.acc_base.specs.Judge.{gathered, gather_event}
use Rattle.acc_base.specs.History.{IsLegal}
use Rattle.acc_base.specs.Accounts.{EachPair, IsLoanSound, AreRecordsSound, AreMemoriesSized}
use Rattle.acc_base.proofs.Results.{equal, and_true, then_ok, refused_not}
use Rattle.acc_base.proofs.Elements.{found_has}
use Rattle.acc_base.proofs.Lending.{loans-with, loans-without}
use Rattle.acc_base.proofs.Loaned.{with_loans, placed_loan}
use Rattle.acc_base.proofs.Memories.{lent_sized, gathered_sized}
use Rattle.acc_base.proofs.LegalEvents.{lend_legal, IsGathered, gather_legal}
use Rattle.acc_dev.specs.Marks.{is_ended_at, IsMarkOf}
use Rattle.acc_dev.specs.Device.{DeviceState, number_at, HasBlock, IsTakenOut, IsPutBack}
use Rattle.acc_clauses.specs.Contents.{Numbers, WithHost, Contents, state_of, bare_numbers, bare_state, AreSizedBy, ArePartsSound}
use Rattle.acc_clauses.specs.Stored.{AreContentsSound, AreHoldingsWithin}
use Rattle.acc_clauses.specs.Lending.{IsLoanPlanned, lent_state, gathered_state}
use Rattle.acc_clauses.proofs.Changes.{state_from_parts}
use Rattle.acc_clauses.proofs.Standing.{told_by_mark}
use Rattle.acc_clauses.proofs.AfterPlan.{event_sound}
use Rattle.acc_clauses.proofs.Holding.{holdings_same}

-- ---- what the device needs

-- the block of a loan is there, and as long as its range
record IsThere (blocks : List Block) (loan : Loan) (range : Range) : Type 0 where
  block : Block
  at : block_at loan.block blocks ≡ Some block
  len : block.len ≡ range.section.len

loan_there : (l : Limits) (w : Records) (loan : Loan) → AreRecordsSound l w → (sound : IsLoanSound w.ranges loan) → IsThere w.blocks loan sound.range
loan_there l w loan h sound = grind (arith, nat_tests, found_has)

pub loan_has_block : (l : Limits) (x : WithHost) (n : ℕ) (loan : Loan) → ArePartsSound l x n → IsLoanSound x.present.table.ranges loan → HasBlock x.device loan.block
loan_has_block l x n loan parts sound = grind (arith, nat_tests, loan_there l (bare_state x).records loan parts.sound.records sound)

pub lend_mapped : (l : Limits) (x : WithHost) (n : ℕ) (loan : Loan) → ArePartsSound l x n → AllZip IsMarkOf x.device.marks x.device.blocks → IsLoanSound x.present.table.ranges loan → is_ended_at loan.block x.device.marks ≡ false
lend_mapped l x n loan parts zip sound = (told_by_mark x loan.block parts.marked zip (loan_has_block l x n loan parts sound)).ended ∙ ap is_none sound.mapped

pub lend_within : (l : Limits) (x : WithHost) (n : ℕ) (loan : Loan) → ArePartsSound l x n → IsLoanSound x.present.table.ranges loan → loan.offset + loan.len ≤ len_of loan.block x.device.blocks
lend_within l x n loan parts sound = grind (arith, nat_tests, loan_there l (bare_state x).records loan parts.sound.records sound)

-- ---- the number of the device

-- where the memory of a device begins determines its number
number_of_base : (n : ℕ) → number_at (base_on n) ≡ n
number_of_base n = omega arith

pub number_told : (l : Limits) (x : WithHost) → AreSizedBy l x → number_at x.device.memory.start ≡ l.number
number_told l x sized = ap (λ (m : Section). number_at m.start) sized.device ∙ number_of_base l.number

-- ---- the parts

-- the numbers after a loan
abbrev pub numbered_on : Numbers → Numbers
numbered_on n = record { region = n.region; serial = n.serial + 1 }

-- one loan more
length-with : (new : Loan) (ls : List Loan) → length (with_loan new ls) ≡ length ls + 1
length-with new [] = refl
length-with new (l ∷ ls) = grind (arith, nat_tests, length-with new ls)

-- the loans of later blocks stay
without-later : (block : ℕ) (ls : List Loan) → AllByRecursion (λ (l : Loan). block < l.block) ls → without_loan block ls ≡ ls
without-later block [] later = refl
without-later block (l ∷ ls) later = grind (arith, nat_tests, without-later block ls later.1)

-- where a block is lent, there is a loan
some_lent : (block : ℕ) (ls : List Loan) → is_lent block ls ≡ true → 0 < length ls
some_lent block [] lent = cc
some_lent block (l ∷ ls) lent = omega arith

-- and one less
length-without : (block : ℕ) (ls : List Loan) → EachPair (λ (l m : Loan). l.block < m.block) ls → is_lent block ls ≡ true → length (without_loan block ls) ≡ length ls - 1
length-without block [] rising lent = refl
length-without block (l ∷ ls) rising lent = go (l.block == block) refl (length-without block ls rising.1)
  where
    go : (b : Bool) → (l.block == block) ≡ b → (is_lent block ls ≡ true → length (without_loan block ls) ≡ length ls - 1) → length (without_loan block (l ∷ ls)) ≡ length (l ∷ ls) - 1
    go true e rest =
        let own : AllByRecursion (λ (m : Loan). block < m.block) ls = subst (λ n. AllByRecursion (λ (m : Loan). n < m.block) ls) (equal l.block block e) rising.0 in
        let later : length (without_loan block ls) ≡ length ls = ap length (without-later block ls own) in
        rw e (omega (arith, later))
    go false e rest = grind (arith, nat_tests, some_lent)

pub length-without_most : (block : ℕ) (ls : List Loan) → length (without_loan block ls) ≤ length ls
length-without_most block [] = omega arith
length-without_most block (l ∷ ls) = grind (arith, nat_tests, length-without_most block ls)

-- what is a lease's is some loan
loan_some : (lease : Leased) (o : Option Loan) → is_loan_of lease o ≡ true → is_some o ≡ true
loan_some lease o e = grind (arith, nat_tests)

-- the block of a lease that is returnable is lent
returnable_lent : (full : Bool) (d : ℕ) (lease : Leased) (s : State) → is_returnable full d lease s.records.blocks s.records.loans s.memories ≡ true → is_lent lease.block s.records.loans ≡ true
returnable_lent full d lease s e = loan_some lease (loan_of lease.block s.records.loans) (and_true _ _ (and_true _ _ (and_true _ _ e).0).0).0

pub lent_is : (full : Bool) (x : WithHost) (n : Numbers) (d : DeviceState) (loan : Loan) → IsTakenOut x.device d loan full → state_of (record x { device = d }) (numbered_on n) ≡ lent_state full loan (state_of x n)
lent_is full x n d loan out = state_from_parts (record x { device = d }) (numbered_on n) (lent_state full loan (state_of x n)) refl out.blocks refl out.births refl out.loans refl refl refl refl out.memories

pub lent_parts : (l : Limits) (full : Bool) (x : WithHost) (n : ℕ) (d : DeviceState) (loan : Loan) → ArePartsSound l x n → is_lent loan.block x.device.loans ≡ false → IsLoanSound x.present.table.ranges loan → IsTakenOut x.device d loan full
    → ArePartsSound l (record x { device = d }) (n + 1)
lent_parts l full x n d loan parts free sound out =
    let s : State = bare_state x in
    let records : AreRecordsSound l (lent_state full loan s).records = with_loans l s.records (with_loan loan s.records.loans) parts.sound.records (loans-with s.records.ranges loan s.records.loans free sound parts.sound.records.loans) in
    let memories : AreMemoriesSized l (lent_state full loan s) = record { host = parts.sound.memories.host; blocks = lent_sized loan (recorded full) s.records.loans s.memories s.records.blocks parts.sound.memories.blocks } in
    let is : state_of (record x { device = d }) (numbered_on bare_numbers) ≡ lent_state full loan s = lent_is full x bare_numbers d loan out in
    let sized : AreMemoriesSized l (state_of (record x { device = d }) (numbered_on bare_numbers)) = subst (AreMemoriesSized l) (sym is) memories in
    record {
      bounds = parts.bounds;
      sized = record { counters = parts.sized.counters; device = out.memory ∙ parts.sized.device; pointers = parts.sized.pointers; queues = parts.sized.queues };
      sound = record { records = subst (λ (t : State). AreRecordsSound l t.records) (sym is) records; memories = record { host = sized.host; blocks = sized.blocks } };
      marked = rw out.marks parts.marked;
      lent = ap (λ k. k + 1) parts.lent ∙ (sym (length-with loan x.device.loans) ∙ ap length (sym out.loans));
    }

pub gathered_is : (x : WithHost) (n : Numbers) (d : DeviceState) (lease : Leased) → IsPutBack x.device d lease → state_of (record x { device = d }) n ≡ gathered_state lease (state_of x n)
gathered_is x n d lease back = state_from_parts (record x { device = d }) n (gathered_state lease (state_of x n)) refl back.blocks refl back.births refl back.loans refl refl refl refl back.memories

-- a lease that a block fits is gathered
pub gather_is : (l : Limits) (lease : Leased) (s : State) → is_returnable l.full l.number lease s.records.blocks s.records.loans s.memories ≡ true → gather_event l lease s ≡ Ok (gathered l.full lease)
unfolding gather_event
gather_is l lease s e = rw e refl

pub returnable : (l : Limits) (lease : Leased) (s : State) (e : Event) → gather_event l lease s ≡ Ok e → is_returnable l.full l.number lease s.records.blocks s.records.loans s.memories ≡ true
unfolding gather_event
returnable l lease s e h = not-false _ (refused_not _ _ (then_ok (refuse_if (not (is_returnable l.full l.number lease s.records.blocks s.records.loans s.memories)) (NoLease lease.serial)) (Ok (gathered l.full lease)) e h).0)

pub gathered_parts : (l : Limits) (x : WithHost) (n : ℕ) (d : DeviceState) (lease : Leased) → ArePartsSound l x n → is_returnable l.full l.number lease x.device.blocks x.device.loans x.device.memories ≡ true → IsPutBack x.device d lease → ArePartsSound l (record x { device = d }) (n - 1)
gathered_parts l x n d lease parts fits back =
    let s : State = bare_state x in
    let long : IsGathered l lease s (gathered l.full lease) = gather_legal l lease s (gathered l.full lease) parts.sound.records (gather_is l lease s fits) in
    let records : AreRecordsSound l (gathered_state lease s).records = with_loans l s.records (without_loan lease.block s.records.loans) parts.sound.records (loans-without s.records.ranges lease.block s.records.loans parts.sound.records.loans) in
    let memories : AreMemoriesSized l (gathered_state lease s) = record { host = parts.sound.memories.host; blocks = gathered_sized lease.block lease.bytes s.records.loans s.memories s.records.blocks long.fits parts.sound.memories.blocks } in
    let is : bare_state (record x { device = d }) ≡ gathered_state lease s = gathered_is x bare_numbers d lease back in
    record {
      bounds = parts.bounds;
      sized = record { counters = parts.sized.counters; device = back.memory ∙ parts.sized.device; pointers = parts.sized.pointers; queues = parts.sized.queues };
      sound = record { records = subst (λ (t : State). AreRecordsSound l t.records) (sym is) records; memories = subst (AreMemoriesSized l) (sym is) memories };
      marked = rw back.marks parts.marked;
      lent = ap (λ k. k - 1) parts.lent ∙ (sym (length-without lease.block x.device.loans parts.sound.records.loans.rising (returnable_lent l.full l.number lease s fits)) ∙ ap length (sym back.loans));
    }

-- ---- beside what all devices share

-- what a planned loan says: it is legal, its block is not lent, and its section lies in the range of the block
pub record IsLendable (l : Limits) (region : ℕ) (section : Section) (s : State) (loan : Loan) : Type 0 where
  pub legal : IsLegal l (Lent l.number region section loan.block loan.serial) (layout_of s)
  pub free : is_lent loan.block s.records.loans ≡ false
  pub sound : IsLoanSound s.records.ranges loan

pub planned_says : (l : Limits) (region : ℕ) (section : Section) (s : State) (loan : Loan) → AreRecordsSound l s.records → IsLoanPlanned l region section s loan → IsLendable l region section s loan
planned_says l region section s loan h p =
    let e : Event = Lent l.number region section loan.block loan.serial in
    let lent : (block : ℕ) × (Lent l.number region section block s.register.serial ≡ e) × IsLegal l (Lent l.number region section block s.register.serial) (layout_of s) = lend_legal l l.number region section s e p.event in
    let legal : IsLegal l e (layout_of s) = subst (λ x. IsLegal l x (layout_of s)) lent.1 lent.2 in
    record { legal = legal; free = legal.names.2; sound = subst (IsLoanSound s.records.ranges) (sym p.loan_is) (placed_loan l loan.serial loan.block section s.records h legal.names.1) }

pub lent_after : (full : Bool) (device region : ℕ) (section : Section) (loan : Loan) (s : State) → loan ≡ loan_at loan.serial loan.block section s.records.ranges → lent_state full loan s ≡ after full (Lent device region section loan.block loan.serial) [] s
unfolding after loaned drained act_all_state
lent_after full device region section loan s is = ap (λ (x : Loan). record (lent_state full loan s) { records = record s.records { loans = with_loan x s.records.loans } }) is

pub gathered_after : (full : Bool) (lease : Leased) (s : State) → gathered_state lease s ≡ after full (gathered full lease) lease.bytes s
unfolding after loaned drained act_all_state
gathered_after full lease s = refl

pub lent_sound : (region : ℕ) (section : Section) (c f : Contents) (loan : Loan) → IsWithinBounds c.limits → AreContentsSound c → IsLoanPlanned c.limits region section c.state loan → f.limits ≡ c.limits → f.state ≡ lent_state c.limits.full loan c.state → AreContentsSound f
lent_sound region section c f loan bounds h p limits is =
    let says : IsLendable c.limits region section c.state loan = planned_says c.limits region section c.state loan h.sound.layout.records p in
    event_sound c.limits (Lent c.limits.number region section loan.block loan.serial) [] c f bounds refl limits h says.legal tt (is ∙ lent_after c.limits.full c.limits.number region section loan c.state p.loan_is) h.sound.layout.register.few (subst (λ (t : State). length t.records.loans < t.register.serial) (sym is) (omega (arith, length-with loan c.state.records.loans, h.few)))
    (subst (λ (t : State). used_bytes t.records.blocks ≤ c.limits.device) (sym is) h.sound.bytes_accounted)
    (subst (λ (t : State). AreHoldingsWithin t.records t.register.regions) (sym is) (holdings_same c.state.records (lent_state c.limits.full loan c.state).records c.state.register.regions refl refl h.holdings))

pub gathered_sound : (c f : Contents) (lease : Leased) → IsWithinBounds c.limits → AreContentsSound c → gather_event c.limits lease c.state ≡ Ok (gathered c.limits.full lease) → f.limits ≡ c.limits → f.state ≡ gathered_state lease c.state → AreContentsSound f
gathered_sound c f lease bounds h fits limits is =
    let says : IsGathered c.limits lease c.state (gathered c.limits.full lease) = gather_legal c.limits lease c.state (gathered c.limits.full lease) h.sound.layout.records fits in
    event_sound c.limits (gathered c.limits.full lease) lease.bytes c f bounds refl limits h says.legal says.fits (is ∙ gathered_after c.limits.full lease c.state) h.sound.layout.register.few (subst (λ (t : State). length t.records.loans < t.register.serial) (sym is) (omega (arith, length-without_most lease.block c.state.records.loans, h.few)))
    (subst (λ (t : State). used_bytes t.records.blocks ≤ c.limits.device) (sym is) h.sound.bytes_accounted)
    (subst (λ (t : State). AreHoldingsWithin t.records t.register.regions) (sym is) (holdings_same c.state.records (gathered_state lease c.state).records c.state.register.regions refl refl h.holdings))
