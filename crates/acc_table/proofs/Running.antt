-- One turn after the other.
use Rattle.std.proofs.Common.{ℕ, ◌≡◌, ◌≤◌, ◌∙◌, arith, false, cond, refl, sym, ap, subst, List, [], ◌∷◌, ◌++◌, length, Result, Ok, Err}
use Rattle.std.specs.Prelude.{MatchResult, Bool, true, find, filter, ◌+◌, slice_get, slice_index_or, nat_lt, ◌==◌, ◌&&◌, Option, Some, None}
use Rattle.std.specs.List.{position, position_or_len, remove}
use Rattle.std.proofs.lemmas.List.Folds.{find_at}
use Rattle.std.proofs.lemmas.Option.{slice_get-get_or, get_or_from_slice_get, slice_get_past}
use Rattle.std.proofs.lemmas.Bool.Decides.{nat_tests}
use Rattle.std.proofs.lemmas.List.Quantifiers.{position-Some}
use Rattle.acc_base.proofs.Results.{and_true, equal}
use Rattle.acc_clauses.specs.Words.{Call, Directive, Event, Fault}
use Rattle.acc_base.specs.declared.calls.Call.TheVariants.{Do, HostWrite, Gather}
use Rattle.acc_base.specs.declared.events.Event.TheVariants.{Lent}
use Rattle.acc_base.specs.declared.faults.Fault.TheVariants.{Memory, NoLease}
use Rattle.acc_base.specs.Loans.{Leased}
use Rattle.acc_base.specs.Records.{State}
use Rattle.acc_base.specs.Calls.{Base, World, judge}
use Rattle.acc_base.specs.Judge.{Verdict, Makes, Idle, gathered, gather_event}
use Rattle.acc_table.specs.declared.calls.Turn.{Turn}
use Rattle.acc_table.specs.declared.calls.Turn.TheVariants.{Back}
use Rattle.acc_lend.specs.Loans.{IsLoan, section, with_section}
use Rattle.acc_lend.proofs.Writing.{section_written}
use Rattle.acc_table.specs.declared.calls.Answer.{Answer}
use Rattle.acc_table.specs.declared.calls.Reply.{Reply}
use Rattle.acc_table.specs.declared.calls.Reply.TheVariants as replies
use Rattle.acc_table.specs.Calls.{reply_of, IsCarriedOut, IsDone}
use Rattle.acc_base.specs.Limits.{Limits, limits_on}
use Rattle.acc_base.specs.Devices.{view, device_in}
use Rattle.acc_table.specs.declared.devices.Devices.{Devices}
use Rattle.acc_table.specs.Devices.{AreSet}
use Rattle.acc_table.specs.Tables.{IsTableSound}
use Rattle.acc_table.specs.Making.{is_loan, IsLeaseJudged, IsMadeInto}
use Rattle.acc_table.specs.Turns.{is_meant, brought_back, asked_by, kept_by, lent_by, refuse_back, MayAnswer, IsRun}
use Rattle.acc_table.specs.Turning.{is_lend, lends_in, IsTurnMade, IsRefusalOf}
use Rattle.acc_clauses.specs.Devices.{DeviceContents, SharedContents, contents_with}
use Rattle.acc_table.proofs.InUse.{with_device, world_in, AreDevicesOf, IsUsed, of_view, gathers_in}
use Rattle.acc_table.proofs.Verdicts.{directive_no_loan, write_no_loan, gather_rewritten, judged_rewritten, refused_rewritten, judged_refused, made_wanted, made_done}
use Rattle.acc_table.proofs.Keeping.{IsLeft, kept_alone, kept_called}

-- ---- which call lends

-- an event that is not that of a loan is replied no lease
no_lease : (e : Event) (s : State) → is_loan e ≡ false → lent_by (reply_of e s) ≡ []
no_lease (Lent device region section block serial) s h = cc
no_lease _ s h = refl

-- nor is a call that makes none
lends_none : (w next : World) (call : Call Leased) (reply : Reply) → ((e : Event) → judge w call ≡ Ok (Makes e) → is_loan e ≡ false) → IsDone w call reply next → lent_by reply ≡ []
lends_none w next call reply unlent done = go (judge w call) refl done
  where
    go : (r : Result Verdict Fault) → judge w call ≡ r → MatchResult r (λ verdict. IsCarriedOut w call verdict reply next) (λ fault. ⊥) → lent_by reply ≡ []
    go (Ok (Makes e)) is h = ap lent_by h.0 ∙ no_lease e (view (device_in e) w.state) (unlent e is)
    go (Ok Idle) is h = ap lent_by h.0
    go (Err fault) is h = absurd h

pub directive_lends_none : (w next : World) (d : Directive) (reply : Reply) → IsDone w (Do d) reply next → length (lent_by reply) ≤ 0
directive_lends_none w next d reply done = let none : lent_by reply ≡ [] = lends_none w next (Do d) reply (directive_no_loan w d) done in omega (arith, ap length none)

pub write_lends_none : (w next : World) (addr : ℕ) (bytes : List ℕ) (reply : Reply) → IsDone w (HostWrite addr bytes) reply next → length (lent_by reply) ≤ 0
write_lends_none w next addr bytes reply done = let none : lent_by reply ≡ [] = lends_none w next (HostWrite addr bytes) reply (write_no_loan w addr bytes) done in omega (arith, ap length none)

-- ---- a lease that is brought back

-- the lease at this place of the list is the one that comes back with these bytes
pub record IsBackAt (serial : ℕ) (bytes : List ℕ) (leases : List Leased) (at : ℕ) (lease : Leased) : Type 0 where
  pub asked : asked_by (Back serial bytes) leases ≡ Ok (Gather (with_section lease bytes))
  pub there : slice_get leases at ≡ Some lease
  pub len : length bytes ≡ lease.len
  pub kept : remove leases at ≡ kept_by (Back serial bytes) leases

-- so is that at the place that was found
pub back_at : {serial : ℕ} {bytes : List ℕ} {leases seen : List Leased} {at : ℕ} {lease : Leased} {found : Option ℕ} → seen ≡ leases → found ≡ position (is_meant serial (length bytes)) seen → found ≡ Some at → lease ≡ slice_index_or leases at lease → IsBackAt serial bytes leases at lease
back_at {serial = serial} {bytes = bytes} {leases = leases} {at = at} {lease = lease} same found_is some is =
    let test : Leased → Bool = is_meant serial (length bytes) in
    let place : position test leases ≡ Some at = subst (λ xs. position test xs ≡ Some at) same (sym found_is ∙ some) in
    let says = position-Some test leases at lease place in
    let first : at ≡ position_or_len test leases = chosen_place (nat_lt (position_or_len test leases) (length leases)) place in
    let passes : (lease.serial == serial && lease.len == length bytes) ≡ true = subst (λ (l : Leased). is_meant serial (length bytes) l ≡ true) (sym is) says.1 in
    let both = and_true (lease.serial == serial) (lease.len == length bytes) passes in
    let there : slice_get leases at ≡ Some lease = slice_get-get_or leases at lease says.0 ∙ ap Some (sym is) in
    record {
      asked = ap (brought_back serial bytes) (find_at test leases ∙ (ap (slice_get leases) (sym first) ∙ there));
      there = there;
      len = sym (equal lease.len (length bytes) both.1);
      kept = ap (remove leases) first;
    }
  where
    chosen_place : (b : Bool) → cond b (Some (position_or_len (is_meant serial (length bytes)) leases)) None ≡ Some at → at ≡ position_or_len (is_meant serial (length bytes)) leases
    chosen_place true e = cc
    chosen_place false e = cc

-- there is no element where there is no place of one
position-None : (p : Leased → Bool) (leases : List Leased) → position p leases ≡ None → find p leases ≡ None
position-None p leases place = find_at p leases ∙ past (nat_lt (position_or_len p leases) (length leases)) refl place
  where
    past : (b : Bool) → nat_lt (position_or_len p leases) (length leases) ≡ b → cond b (Some (position_or_len p leases)) None ≡ None → slice_get leases (position_or_len p leases) ≡ None
    past true e h = cc
    past false e h = let high : length leases ≤ position_or_len p leases = grind (arith, nat_tests) in slice_get_past leases (position_or_len p leases) high

-- where no place was found, no lease comes back
pub none_back : (w : World) (serial : ℕ) (bytes : List ℕ) (leases : List Leased) (fault : Fault) → position (is_meant serial (length bytes)) leases ≡ None → refuse_back w (NoLease serial) ≡ Err fault → IsRefusalOf w (asked_by (Back serial bytes) leases) fault
none_back w serial bytes leases fault place told = subst (λ r. IsRefusalOf w r fault) (sym (ap (brought_back serial bytes) (position-None (is_meant serial (length bytes)) leases place))) told

-- what holds of the lease as it is, holds of it with other bytes
pub serial_told : {serial : ℕ} {bytes : List ℕ} {leases : List Leased} {at : ℕ} {lease : Leased} {fault : Fault} (w : World) → IsBackAt serial bytes leases at lease → IsLoan lease → judge w (Gather lease) ≡ Err fault → IsRefusalOf w (asked_by (Back serial bytes) leases) fault
serial_told {bytes = bytes} {lease = lease} {fault = fault} w back loan h = subst (λ r. IsRefusalOf w r fault) (sym back.asked) (judged_refused w (Gather (with_section lease bytes)) fault (refused_rewritten w lease bytes fault loan back.len h))

pub wanted_of : {serial : ℕ} {bytes : List ℕ} {leases : List Leased} {at : ℕ} {lease : Leased} (w : World) → IsBackAt serial bytes leases at lease → IsLoan lease → judge w (Gather lease) ≡ Ok (Makes (gathered w.limits.full lease)) → IsRefusalOf w (asked_by (Back serial bytes) leases) Memory
wanted_of {bytes = bytes} {lease = lease} w back loan h = subst (λ r. IsRefusalOf w r Memory) (sym back.asked) (made_wanted w (Gather (with_section lease bytes)) (gathered w.limits.full (with_section lease bytes)) (judged_rewritten w lease bytes loan back.len h))

-- a lease that is read at this place is the one that comes back
pub same_back : {serial : ℕ} {bytes : List ℕ} {leases : List Leased} {at : ℕ} {lease removed : Leased} → IsBackAt serial bytes leases at lease → removed ≡ slice_index_or leases at removed → removed ≡ lease
same_back {leases = leases} {at = at} {lease = lease} {removed = removed} back is = is ∙ get_or_from_slice_get leases at lease removed back.there

-- the lease that left this place of the list comes back with these bytes, and may come back to this world
pub record IsReturned (w : World) (serial : ℕ) (bytes : List ℕ) (leases : List Leased) (at : ℕ) (lease : Leased) : Type 0 where
  pub asked : asked_by (Back serial bytes) leases ≡ Ok (Gather lease)
  pub kept : remove leases at ≡ kept_by (Back serial bytes) leases
  pub event : gather_event (limits_on lease.device w.limits) lease (view lease.device w.state) ≡ Ok (gathered w.limits.full lease)
  pub judged : judge w (Gather lease) ≡ Ok (Makes (gathered w.limits.full lease))
  pub stored : bytes ≡ section lease

-- so does that which was judged in its place before these bytes were written over those that it lends
pub returned : {serial : ℕ} {bytes written : List ℕ} {leases : List Leased} {at : ℕ} {lease removed taken : Leased} {w : World} → IsBackAt serial bytes leases at lease → removed ≡ slice_index_or leases at removed → taken ≡ with_section removed written → written ≡ bytes → IsLoan lease → IsLeaseJudged w lease (Ok tt) → IsReturned w serial bytes leases at taken
returned {serial = serial} {bytes = bytes} {leases = leases} {at = at} {lease = lease} {removed = removed} {taken = taken} {w = w} back is taken_is same_bytes loan judged =
    let taken_of : with_section lease bytes ≡ taken = ap (λ (l : Leased). with_section l bytes) (sym (same_back back is)) ∙ (ap (with_section removed) (sym same_bytes) ∙ sym taken_is) in
    subst (λ (l : Leased). IsReturned w serial bytes leases at l) taken_of (record {
      asked = back.asked;
      kept = back.kept;
      event = gather_rewritten (limits_on lease.device w.limits) lease bytes (view lease.device w.state) loan back.len judged.0;
      judged = judged_rewritten w lease bytes loan back.len judged.1;
      stored = sym (section_written lease bytes loan back.len);
    })

module _ {l : Limits} {base : Base} {x : Devices} {trace : List Event} {w : World} (t : AreDevicesOf l base x trace w) {n : ℕ} {y : DeviceContents} (u : IsUsed x n y) {serial : ℕ} {bytes : List ℕ} {leases : List Leased} {at : ℕ} {lease : Leased} (back : IsReturned w serial bytes leases at lease) (on : lease.device ≡ n) where
  -- it may come back to its device
  pub back_ready : gather_event y.limits lease (contents_with y x.shared).state ≡ Ok (gathered y.limits.full lease)
  back_ready = of_view t u lease.device (λ m s. gather_event m lease s ≡ Ok (gathered m.full lease)) (sym on) back.event

  -- what the devices and a trace keep that took it back, and the turn that brought it back
  pub back_made : {z : DeviceContents} {s : SharedContents} → IsLeft x.shared s z → (reply : Reply) (room longer : List Event) → room ≡ trace → IsMadeInto (gathered y.limits.full lease) lease.bytes reply (contents_with y x.shared) (contents_with z s) room longer
      → (IsTableSound (world_in l base (with_device x n z s) longer) × AreSet l (with_device x n z s)) × IsTurnMade w leases (Back serial bytes) reply (world_in l base (with_device x n z s) longer) (remove leases at)
  back_made {z = z} {s = s} left reply room longer same m =
      let e : Event = gathered y.limits.full lease in
      let judged : judge w (Gather lease) ≡ Ok (Makes e) = gathers_in t u lease back.judged in
      let made : IsMadeInto e lease.bytes reply (contents_with y x.shared) (contents_with z s) trace longer = subst (λ (events : List Event). IsMadeInto e lease.bytes reply (contents_with y x.shared) (contents_with z s) events longer) same m in
      let none : lent_by reply ≡ [] = ap lent_by m.reply in (
        kept_called t u left (Gather lease) e reply longer on (kept_alone w (Gather lease) e (subst (λ v. IsTableSound v) t.same t.kept) judged refl) made,
        record {
          call = Gather lease;
          asked = back.asked;
          done = made_done t u z s (Gather lease) e reply longer on judged made;
          kept_is = back.kept;
          idle = λ idle. (let both : ◌≡◌ {A = Reply} replies.Done replies.Idle = sym m.reply ∙ idle in cc);
          few = omega (arith, ap length none);
        },
      )

-- ---- one turn after the other

-- the loans of a turn and of those after it
pub lends_more : (turn : Turn) (more : List Turn) → lends_in (turn ∷ more) ≡ lends_in (turn ∷ []) + lends_in more
lends_more turn more = go (is_lend turn)
  where
    go : (b : Bool) → length (cond b (turn ∷ filter is_lend more) (filter is_lend more)) ≡ length (cond b (turn ∷ []) []) + length (filter is_lend more)
    go true = omega arith
    go false = omega arith

-- one turn more
pub run_more : (w : World) (leases : List Leased) (turns : List Turn) (answers : List Answer) (mid next : World) (held rest : List Leased) (turn : Turn) (answer : Answer)
    → IsRun w leases turns answers mid held → MayAnswer mid held turn (asked_by turn held) answer next rest → IsRun w leases (turns ++ turn ∷ []) (answers ++ answer ∷ []) next rest
run_more w leases [] [] mid next held rest turn answer run may = (next, rest, subst (λ h. MayAnswer w h turn (asked_by turn h) answer next rest) run.1 (subst (λ m. MayAnswer m held turn (asked_by turn held) answer next rest) run.0 may), (refl, refl))
run_more w leases (t ∷ turns) (a ∷ answers) mid next held rest turn answer run may = (run.0, run.1, run.2, run_more run.0 run.1 turns answers mid next held rest turn answer run.3 may)
run_more w leases _ _ mid next held rest turn answer run may = absurd run
