-- What tasks and queued transfers leave of the loans, and what an event that lends or gathers leaves of sound records.
use Rattle.std.proofs.Common.{ℕ, ◌≡◌, refl, ◌∙◌, ap, subst, true, false, List, [], ◌∷◌, Option, Some, None, arith}
use Rattle.std.specs.Prelude.{◌+◌, ◌-◌, ◌<◌, ◌≤◌, unwrap_or, option_map}
use Rattle.std.proofs.lemmas.Bool.Decides.{nat_tests}
use Rattle.acc_base.specs.Words.{Section, Range, Found, Loan, Transfer, Task, Step, Did, Event}
use Rattle.acc_base.specs.declared.mappings.Found.TheVariants.{Inside}
use Rattle.acc_base.specs.declared.tasks.Task.TheVariants.{Enter}
use Rattle.acc_base.specs.declared.events.Step.TheVariants.{Dropped}
use Rattle.acc_base.specs.declared.events.Event.TheVariants.{Entered, Lent, Gathered}
use Rattle.acc_base.specs.Limits.{Limits}
use Rattle.acc_base.specs.Section.{is_empty, is_within}
use Rattle.acc_base.specs.Ranges.{where_is, range_of, start_of}
use Rattle.acc_base.specs.Records.{Records, Layout}
use Rattle.acc_base.specs.Detaching.{block_in}
use Rattle.acc_base.specs.Queues.{head_of}
use Rattle.acc_base.specs.Steps.{released, act_row, act_step, records_after_birth, records_after_end, with_range_changed, act, act_all}
use Rattle.acc_base.specs.Waits.{records_made, records_stepped, records_drained}
use Rattle.acc_base.specs.Walk.{asked_in, done_in, stepped_in, loan_at, loaned}
use Rattle.acc_base.specs.History.{NamesRight}
use Rattle.acc_base.specs.Accounts.{IsLoanSound, AreLoansSound, AreRecordsSound}
use Rattle.acc_base.proofs.Lookups.{at-own}
use Rattle.acc_base.proofs.Elements.{found_has}
use Rattle.acc_base.proofs.Where.{IsInsideOf, inside_says}
use Rattle.acc_base.proofs.Lending.{loans-with, loans-without}
use Rattle.acc_base.proofs.RangeChanges.{block_of}

-- ---- the loans stay, whatever tasks and transfers do

pub loans-step : (task : Task) (step : Step) (w : Records) → (act_step task step w).loans ≡ w.loans
unfolding act_step act_row records_after_birth records_after_end released with_range_changed
loans-step task (Dropped k true) w = refl
loans-step task _ w = refl

pub loans-act : (task : Task) (did : Did) (w : Records) → (act task did w).loans ≡ w.loans
unfolding act
loans-act (Enter counter item queue) did w = loans-step (Enter counter item queue) did.step w
loans-act task did w = loans-step task did.step _

pub loans-act_all : (tasks : List Task) (dids : List Did) (w : Records) → (act_all tasks dids w).loans ≡ w.loans
unfolding act_all
loans-act_all [] [] w = refl
loans-act_all (task ∷ tasks) (did ∷ dids) w = loans-act_all tasks dids (act task did w) ∙ loans-act task did w
loans-act_all _ _ w = refl

pub loans-stepped : (q : ℕ) (w : Records) → (records_stepped q w).loans ≡ w.loans
unfolding records_stepped released
loans-stepped q w = go (head_of q w.queues)
  where
    go : (o : Option Transfer) → (records_made q o w).loans ≡ w.loans
    go None = refl
    go (Some t) = refl

pub loans-drained : (qs : List ℕ) (w : Records) → (records_drained qs w).loans ≡ w.loans
unfolding records_drained
loans-drained [] w = refl
loans-drained (q ∷ qs) w = loans-drained qs (records_stepped q w) ∙ loans-stepped q w

-- ---- what lending and gathering leave

-- mapped ranges stay
pub ranges-loaned : (e : Event) (w : Records) → (loaned e w).ranges ≡ w.ranges
unfolding loaned
ranges-loaned (Entered device number items did) w = refl
ranges-loaned _ w = refl

-- records with other loans
pub with_loans : (l : Limits) (w : Records) (ls : List Loan) → AreRecordsSound l w → AreLoansSound w.ranges ls → AreRecordsSound l (record w { loans = ls })
with_loans l w ls h k = record {
  ranges_apart = h.ranges_apart;
  blocks_apart = record { on_device = h.blocks_apart.on_device; apart = h.blocks_apart.apart; born = h.blocks_apart.born };
  one_block_each = record { mapped = h.one_block_each.mapped; distinct = h.one_block_each.distinct; in_use = h.one_block_each.in_use };
  counted = h.counted;
  attached = h.attached;
  queues = h.queues;
  loans = k;
}

-- the loan of a section that is inside a range
pub placed_loan : (l : Limits) (serial block : ℕ) (section : Section) (w : Records) → AreRecordsSound l w → block_in (where_is section w.ranges) ≡ Some block → IsLoanSound w.ranges (loan_at serial block section w.ranges)
placed_loan l serial block section w h is = go (where_is section w.ranges) refl is
  where
    filled : (s : Section) → is_empty s ≡ false → 0 < s.len
    filled s e = grind (arith, nat_tests)

    fits : (start : ℕ) (range : Section) → start ≡ range.start → is_within section range ≡ true → section.start - start + section.len ≤ range.len
    fits start range e within = grind (arith, nat_tests)

    go : (f : Found) → where_is section w.ranges ≡ f → block_in f ≡ Some block → IsLoanSound w.ranges (loan_at serial block section w.ranges)
    go (Inside b offset) at k =
        let same : b ≡ block = cc in
        let found : (r : Range) × IsInsideOf section w.ranges b offset r = inside_says section w.ranges b offset at in
        let r : Range = found.0 in
        let own : (range_of r.block w.ranges ≡ Some r) × (is_within section r.section ≡ true) = found_has (λ x. range_of x.block w.ranges ≡ Some x) (λ x. is_within section x.section) w.ranges r (at-own block_of w.ranges h.one_block_each.distinct) found.1.around in
        let mapped : range_of block w.ranges ≡ Some r = subst (λ n. range_of n w.ranges ≡ Some r) (found.1.block_is ∙ same) own.0 in
        record {
          range = r;
          mapped = mapped;
          some = filled section found.1.some;
          within = fits (start_of block w.ranges) r.section (ap (λ (o : Option Range). unwrap_or (option_map (λ (x : Range). x.section.start) o) 0) mapped) own.1;
        }
    go _ at k = cc

-- records stay sound
pub loaned_sound : (l : Limits) (e : Event) (lay : Layout) → NamesRight l e lay → AreRecordsSound l (records_drained (stepped_in e lay.records.queues) (act_all (asked_in e lay.register) (done_in e) lay.records))
    → AreRecordsSound l (loaned e (records_drained (stepped_in e lay.records.queues) (act_all (asked_in e lay.register) (done_in e) lay.records)))
unfolding loaned records_drained act_all
loaned_sound l (Lent device region section block serial) lay names h =
    let w : Records = lay.records in
    with_loans l w _ h (loans-with w.ranges (loan_at serial block section w.ranges) w.loans names.2 (placed_loan l serial block section w h names.1) h.loans)
loaned_sound l (Gathered device serial block bytes) lay names h = with_loans l lay.records _ h (loans-without lay.records.ranges block lay.records.loans h.loans)
loaned_sound l _ lay names h = h
