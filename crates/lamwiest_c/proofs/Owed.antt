-- The loan of a lease, which the calls of a table leave until the lease comes back.
use Rattle.std.proofs.Common.{ℕ, ◌≡◌, ◌<◌, refl, sym, ◌∙◌, ap, subst, arith, Bool, true, false, cond, List, [], ◌∷◌, length, Option, Some, None, Result, Ok, Err}
use Rattle.std.specs.Prelude.{◌==◌, ◌&&◌, ◌||◌, not, is_some, nat_le, option_map, unwrap_or, map, take, drop, ◌+◌, ◌≤◌, ⊤}
use Rattle.std.specs.List.{AllZip}
use Rattle.std.specs.Str.{bytes_eq}
use Rattle.std.proofs.lemmas.Slice.Eq.{bytes_eq-Decides}
use Rattle.acc_base.specs.declared.mappings.Range.{Range}
use Rattle.acc_base.specs.declared.mappings.Block.{Block}
use Rattle.acc_base.specs.declared.items.Section.{Section}
use Rattle.acc_base.specs.declared.loans.Loan.{Loan}
use Rattle.acc_base.specs.declared.calls.Call.{Call}
use Rattle.acc_base.specs.declared.calls.Call.TheVariants.{Do, HostWrite, Lend, Gather}
use Rattle.acc_base.specs.declared.directives.Directive.{Directive}
use Rattle.acc_base.specs.declared.directives.Directive.TheVariants as directives
use Rattle.acc_base.specs.declared.transfers.Transfer.{Transfer}
use Rattle.acc_base.specs.declared.events.Did.{Did}
use Rattle.acc_base.specs.declared.events.Event.{Event}
use Rattle.acc_base.specs.declared.events.Event.TheVariants.{Lent}
use Rattle.acc_base.specs.declared.faults.Fault.{Fault}
use Rattle.acc_base.specs.declared.faults.Fault.TheVariants.{NoTickets, TraceFull, NoLease}
use Rattle.acc_base.specs.Results.{◌>>=◌, ◌>>◌, refuse_if}
use Rattle.acc_base.specs.Limits.{Limits, IsWithinBounds, limits_on, recorded}
use Rattle.acc_base.specs.Section.{device_memory}
use Rattle.acc_base.specs.Records.{Records, Memory, Layout, State, layout_of}
use Rattle.acc_base.specs.Queues.{head_of}
use Rattle.acc_base.specs.Ranges.{where_is}
use Rattle.acc_base.specs.Blocks.{block_at}
use Rattle.acc_base.specs.Bytes.{bytes_of, memory_changed}
use Rattle.acc_base.specs.Loans.{Leased, loan_of, is_lent, is_loan_of, len_of}
use Rattle.acc_base.specs.Leases.{is_kept_outside, is_of_loan}
use Rattle.acc_base.specs.Detaching.{block_in}
use Rattle.acc_base.specs.Walk.{loan_at, loaned, walk}
use Rattle.acc_base.specs.Acting.{act_all_state, after}
use Rattle.acc_base.specs.Steps.{act_all}
use Rattle.acc_base.specs.Waits.{records_drained, drained}
use Rattle.acc_base.specs.Devices.{view, with_view, device_in, device_of_region}
use Rattle.acc_base.specs.Judge.{Verdict, Makes, few_items, verdict_of, step_verdict, host_write_event, leased, gathered, gather_event}
use Rattle.acc_base.specs.History.{IsLegal}
use Rattle.acc_base.specs.Accounts.{IsOnDevice, IsMapped, IsLoanSound, IsMemoryOf, AreRecordsSound, IsAccounted}
use Rattle.acc_base.specs.Calls.{World, judge, ticket, allowance, trace_room, device_for, device_there, verdict_on, loan_on, bytes_brought, world_after}
use Rattle.acc_lend.specs.Loans.{IsLoan}
use Rattle.acc_base.proofs.Results.{equal, equal_self, differ, bind_ok, then_ok, ok_same}
use Rattle.acc_base.proofs.Elements.{found_has}
use Rattle.acc_base.proofs.InPlace.{find-put_new}
use Rattle.acc_base.proofs.Lookups.{at-changed}
use Rattle.acc_base.proofs.Lending.{put_loan}
use Rattle.acc_base.proofs.Loaned.{placed_loan}
use Rattle.acc_base.proofs.LegalEvents.{same_event, IsMadeBy, made_by, host_write_legal, lend_legal}
use Rattle.acc_base.proofs.Walked.{layout-after}
use Rattle.acc_base.proofs.Views.{view-own, view-other}
use Rattle.acc_base.proofs.OnDevices.{bounds_on}
use Rattle.acc_base.proofs.Accepted.{IsAccepted, accepted}
use Rattle.acc_base.proofs.Accounted.{sound_on}
use Rattle.lamwiest_c.proofs.Staying.{IsNotBack, IsStaying, walk_stays}
use Rattle.lamwiest_c.proofs.Copies.{memory_at, copy_stays}

-- the lease is that of a loan: its block is lent under its serial number, from its place on and as long. The block has
-- as many bytes as the lease
pub record HasLoan (lease : Leased) (w : Records) : Type 0 where
  pub loan : Loan
  pub loan_is : loan_of lease.block w.loans ≡ Some loan
  pub serial : loan.serial ≡ lease.serial
  pub offset : loan.offset ≡ lease.offset
  pub len : loan.len ≡ lease.len
  pub bytes : len_of lease.block w.blocks ≡ length lease.bytes

-- the copy that was kept of the block has the lease's bytes outside of the section
pub record HasCopy (lease : Leased) (memories : List Memory) : Type 0 where
  pub memory : Memory
  pub memory_is : memory_at lease.block memories ≡ Some memory
  pub kept : is_kept_outside lease memory.bytes ≡ true

-- the lease is owed to its device: it is that of a loan, and with full traces of a copy
pub record IsOwed (w : World) (lease : Leased) : Type 0 where
  pub loan : HasLoan lease (view lease.device w.state).records
  pub copy : w.limits.full ≡ true → HasCopy lease (view lease.device w.state).memories

-- ---- it is brought back

and_one : (a b c : Bool) → a ≡ true → b ≡ true → c ≡ true → (a && b && c) ≡ true
and_one true true true p q r = refl
and_one _ _ _ p q r = cc

of_loan : (lease : Leased) (w : Records) → HasLoan lease w → is_of_loan lease.device lease w.blocks w.loans ≡ true
of_loan lease w h =
    let is : is_loan_of lease (Some h.loan) ≡ true = rw (h.serial, h.offset, h.len) (and_one _ _ _ (equal_self lease.serial) (equal_self lease.offset) (equal_self lease.len)) in
    let there : is_loan_of lease (loan_of lease.block w.loans) ≡ true = subst (λ (o : Option Loan). is_loan_of lease o ≡ true) (sym h.loan_is) is in
    let long : (len_of lease.block w.blocks == length lease.bytes) ≡ true = subst (λ (n : ℕ). (n == length lease.bytes) ≡ true) (sym h.bytes) (equal_self (length lease.bytes)) in
    and_one _ _ _ there long (equal_self lease.device)

-- so it is not refused for want of a lease
pub owed_returns : (w : World) (lease : Leased) (n : ℕ) → IsOwed w lease → judge w (Gather lease) ≡ Err (NoLease n) → ⊥
unfolding judge gather_event
owed_returns w lease n h is =
    let s : State = view lease.device w.state in
    go (nat_le w.limits.tickets _) (nat_le w.limits.trace_cap _) (is_of_loan lease.device lease s.records.blocks s.records.loans) w.limits.full (is_kept_outside lease (bytes_of lease.block s.memories)) (of_loan lease s.records h.loan) (λ full. kept (h.copy full)) is
  where
    kept : HasCopy lease (view lease.device w.state).memories → is_kept_outside lease (bytes_of lease.block (view lease.device w.state).memories) ≡ true
    kept c = subst (λ (o : Option Memory). is_kept_outside lease (unwrap_or (option_map (λ (m : Memory). m.bytes) o) []) ≡ true) (sym c.memory_is) c.kept

    go : (a b c full k : Bool) → c ≡ true → (full ≡ true → k ≡ true)
        → (refuse_if a (NoTickets 0) >> (refuse_if b (TraceFull (length w.history.trace)) >> ((refuse_if (not (c && (not full || k))) (NoLease lease.serial) >> Ok (gathered full lease)) >>= λ e. Ok (Makes e)))) ≡ Err (NoLease n) → ⊥
    go false false true true true t f e = cc
    go false false true true false t f e = let wrong : false ≡ true = f refl in cc
    go false false true false _ t f e = cc
    go _ _ false _ _ t f e = cc
    go true _ _ _ _ t f e = cc
    go false true _ _ _ t f e = cc

-- ---- it stays

-- the block of a loan
block_lent : (l : Limits) (w : Records) (b : ℕ) (loan : Loan) → AreRecordsSound l w → loan_of b w.loans ≡ Some loan → (x : Block) × (block_at b w.blocks ≡ Some x)
block_lent l w b loan sound is =
    let lent = found_has (IsLoanSound w.ranges) (λ (x : Loan). x.block == b) w.loans loan sound.loans.sound is in
    let named = found_has (IsMapped w.blocks) (λ (r : Range). r.block == loan.block) w.ranges lent.0.range sound.one_block_each.mapped lent.0.mapped in
    (named.0.0, subst (λ n. block_at n w.blocks ≡ Some named.0.0) (equal _ _ named.1 ∙ equal _ _ lent.1) named.0.1)

-- after an event of its device that does not bring it back
own_stays : (l : Limits) (e : Event) (lay : Layout) (lease : Leased) → IsWithinBounds l → AreRecordsSound l lay.records → IsLegal l e lay → IsNotBack lease.block e → HasLoan lease lay.records → HasLoan lease (walk e lay).records
own_stays l e lay lease bounds sound legal other h =
    let x = block_lent l lay.records lease.block h.loan sound h.loan_is in
    let stays : IsStaying lease.block h.loan x.0 (walk e lay).records = walk_stays l e lay lease.block h.loan x.0 bounds sound legal other (record { loan_is = h.loan_is; block_is = x.1 }) in
    record {
      loan = h.loan;
      loan_is = stays.loan_is;
      serial = h.serial;
      offset = h.offset;
      len = h.len;
      bytes = ap (λ (o : Option Block). unwrap_or (option_map (λ (b : Block). b.len) o) 0) (stays.block_is ∙ sym x.1) ∙ h.bytes;
    }

born : (l : Limits) (w : Records) (b : ℕ) (x : Block) → AreRecordsSound l w → block_at b w.blocks ≡ Some x → b ≤ w.births
born l w b x sound is =
    let has = found_has (λ (k : Block). k.number ≤ w.births) (λ (k : Block). k.number == b) w.blocks x sound.blocks_apart.born is in
    subst (λ n. n ≤ w.births) (equal x.number b has.1) has.0

-- after any event that does not bring it back
pub stays_after : (w : World) (call : Call Leased) (e : Event) (lease : Leased) → IsWithinBounds w.limits → IsAccounted w → judge w call ≡ Ok (Makes e) → (device_in e ≡ lease.device → IsNotBack lease.block e) → IsOwed w lease → IsOwed (world_after call e w) lease
unfolding world_after
stays_after w call e lease bounds accounted is other h = go (lease.device == device_in e) refl
  where
    ok : IsAccepted w (bytes_brought call) e
    ok = accepted w call e bounds accounted.as_many (sound_on w accounted) is

    d : ℕ
    d = device_in e

    s : State
    s = view d w.state

    made : State
    made = after w.limits.full e (bytes_brought call) s

    go : (t : Bool) → (lease.device == d) ≡ t → IsOwed (world_after call e w) lease
    go true same =
        let on : lease.device ≡ d = equal lease.device d same in
        let there : d < w.limits.devices = omega (arith, ok.there, accounted.as_many) in
        let sound : AreRecordsSound (limits_on d w.limits) s.records = sound_on w accounted d in
        let own : HasLoan lease s.records = subst (λ (k : ℕ). HasLoan lease (view k w.state).records) on h.loan in
        let next : HasLoan lease (walk e (layout_of s)).records = own_stays (limits_on d w.limits) e (layout_of s) lease (bounds_on d w.limits there bounds) sound ok.legal (other (sym on)) own in
        let walked : made.records ≡ (walk e (layout_of s)).records = ap (λ (lay : Layout). lay.records) (layout-after w.limits.full e (bytes_brought call) s) in
        let seen : view lease.device (with_view d made w.state) ≡ made = subst (λ (k : ℕ). view k (with_view d made w.state) ≡ made) (sym on) (view-own d made w.state ok.there) in
        let x = block_lent (limits_on d w.limits) s.records lease.block own.loan sound own.loan_is in
        let early : lease.block ≤ s.records.births = born (limits_on d w.limits) s.records lease.block x.0 sound x.1 in
        record {
          loan = subst (HasLoan lease) (sym (ap (λ (v : State). v.records) seen ∙ walked)) next;
          copy = λ full.
              let c : HasCopy lease s.memories = subst (λ (k : ℕ). HasCopy lease (view k w.state).memories) on (h.copy full) in
              let still : memory_at lease.block made.memories ≡ Some c.memory = copy_stays (limits_on d w.limits) w.limits.full e (bytes_brought call) s lease.block c.memory early (ap is_some own.loan_is) ok.legal (other (sym on)) c.memory_is in
              subst (HasCopy lease) (sym (ap (λ (v : State). v.memories) seen)) (record { memory = c.memory; memory_is = still; kept = c.kept });
        }
    go false differs =
        let seen = view-other d lease.device made w.state (differ lease.device d differs) in
        record { loan = subst (HasLoan lease) (sym (ap (λ (v : State). v.records) seen)) h.loan; copy = λ full. subst (HasCopy lease) (sym (ap (λ (v : State). v.memories) seen)) (h.copy full) }

-- ---- what holds of such a lease

-- its section lies in its block, which is no longer than a memory may be
pub owed_laws : (w : World) (lease : Leased) → IsWithinBounds w.limits → IsAccounted w → IsOwed w lease → IsLoan lease
owed_laws w lease bounds accounted h =
    let records : Records = (view lease.device w.state).records in
    let sound : AreRecordsSound (limits_on lease.device w.limits) records = sound_on w accounted lease.device in
    let lent = found_has (IsLoanSound records.ranges) (λ (x : Loan). x.block == lease.block) records.loans h.loan.loan sound.loans.sound h.loan.loan_is in
    let named = found_has (IsMapped records.blocks) (λ (r : Range). r.block == h.loan.loan.block) records.ranges lent.0.range sound.one_block_each.mapped lent.0.mapped in
    let there : block_at lease.block records.blocks ≡ Some named.0.0 = subst (λ n. block_at n records.blocks ≡ Some named.0.0) (equal _ _ named.1 ∙ equal _ _ lent.1) named.0.1 in
    let long : length lease.bytes ≡ named.0.0.len = sym h.loan.bytes ∙ ap (λ (o : Option Block). unwrap_or (option_map (λ (b : Block). b.len) o) 0) there in
    let on = found_has (IsOnDevice (device_memory (limits_on lease.device w.limits))) (λ (b : Block). b.number == lease.block) records.blocks named.0.0 sound.blocks_apart.on_device there in
    record {
      within = omega (arith, long, named.0.2, lent.0.within, h.loan.offset, h.loan.len);
      capped = omega (arith, long, on.0.first, on.0.last, bounds.device.1);
    }

-- ---- which events bring no block back

not_back_directed : (b d : ℕ) (directive : Directive) (s : State) (dids : List Did) (e : Event) → verdict_of d directive s dids ≡ Makes e → IsNotBack b e
not_back_directed b d (directives.Step device queue) s dids e h = go (head_of queue s.records.queues) h
  where
    go : (o : Option Transfer) → step_verdict d queue o ≡ Makes e → IsNotBack b e
    go None made = cc
    go (Some t) made = subst (IsNotBack b) (same_event _ _ made) tt
not_back_directed b d _ s dids e h = subst (IsNotBack b) (same_event _ _ h) tt

made_same : (x e : Event) → ◌≡◌ {A = Result Verdict Fault} (Ok (Makes x)) (Ok (Makes e)) → x ≡ e
made_same x e h = cc

-- the call is no gathering
abbrev pub IsNoGathering : Call Leased → Type 0
IsNoGathering (Gather lease) = ⊥
IsNoGathering _ = ⊤

pub not_back : (w : World) (call : Call Leased) (e : Event) (b : ℕ) → IsNoGathering call → judge w call ≡ Ok (Makes e) → IsNotBack b e
unfolding judge
not_back w (Do directive) e b plain h =
    let d : ℕ = device_for directive w.state in
    let first = then_ok (ticket w) _ (Makes e) h in
    let second = then_ok (allowance w directive) _ (Makes e) first.1 in
    let third = then_ok (few_items directive) _ (Makes e) second.1 in
    let fourth = then_ok (trace_room w) _ (Makes e) third.1 in
    let fifth = then_ok (device_there w d) (verdict_on w d directive) (Makes e) fourth.1 in
    let by : IsMadeBy (limits_on d w.limits) d directive (view d w.state) e = made_by (limits_on d w.limits) d directive (view d w.state) e fifth.1 in
    not_back_directed b d directive (view d w.state) by.dids e by.verdict_is
not_back w (HostWrite addr bytes) e b plain h =
    let first = then_ok (ticket w) _ (Makes e) h in
    let second = then_ok (trace_room w) (host_write_event w.limits addr bytes >>= λ x. Ok (Makes x)) (Makes e) first.1 in
    let third = bind_ok (host_write_event w.limits addr bytes) (λ x. Ok (Makes x)) (Makes e) second.1 in
    let wrote = host_write_legal w.limits addr bytes (layout_of (view 0 w.state)) third.0 third.1 in
    subst (IsNotBack b) (made_same _ _ third.2) (subst (IsNotBack b) wrote.0 tt)
not_back w (Lend region section) e b plain h =
    let d : ℕ = device_of_region region w.state in
    let first = then_ok (ticket w) _ (Makes e) h in
    let second = then_ok (trace_room w) (loan_on w d region section >>= λ x. Ok (Makes x)) (Makes e) first.1 in
    let third = bind_ok (loan_on w d region section) (λ x. Ok (Makes x)) (Makes e) second.1 in
    let lent = lend_legal (limits_on d w.limits) d region section (view d w.state) third.0 third.1 in
    subst (IsNotBack b) (made_same _ _ third.2) (subst (IsNotBack b) lent.1 tt)
not_back w (Gather lease) e b plain h = absurd plain

-- ---- a loan that is made

-- a block that is not lent has a memory of its length
memory_of : (ls : List Loan) (b : ℕ) (x : Block) (ms : List Memory) (bs : List Block) → AllZip (IsMemoryOf ls) ms bs → is_lent b ls ≡ false → block_at b bs ≡ Some x → length (bytes_of b ms) ≡ x.len
memory_of ls b x [] [] h free is = cc
memory_of ls b x (m ∷ ms) (k ∷ bs) h free is = go (m.block == b) refl (memory_of ls b x ms bs h.1 free) (subst (λ (n : ℕ). cond (n == b) (Some k) (block_at b bs) ≡ Some x) (sym h.0.block) is)
  where
    go : (t : Bool) → (m.block == b) ≡ t → (block_at b bs ≡ Some x → length (bytes_of b ms) ≡ x.len) → cond t (Some k) (block_at b bs) ≡ Some x → length (bytes_of b (m ∷ ms)) ≡ x.len
    go true e rest s =
        let same : k ≡ x = cc in
        let own : is_lent k.number ls ≡ false = subst (λ (n : ℕ). is_lent n ls ≡ false) (sym (equal m.block b e) ∙ h.0.block) free in
        rw e (h.0.len own ∙ ap (λ (y : Block). y.len) same)
    go false e rest s = rw e (rest s)
memory_of ls b x _ _ h free is = absurd h

none_of : (o : Option Loan) → is_some o ≡ false → o ≡ None
none_of None e = refl
none_of (Some l) e = cc

-- the block of a section that is inside a range
block_lent_to : (l : Limits) (block : ℕ) (section : Section) (w : Records) → AreRecordsSound l w → (serial : ℕ) → block_in (where_is section w.ranges) ≡ Some block → (x : Block) × (block_at block w.blocks ≡ Some x)
block_lent_to l block section w sound serial inside =
    let placed : IsLoanSound w.ranges (loan_at serial block section w.ranges) = placed_loan l serial block section w sound inside in
    let named = found_has (IsMapped w.blocks) (λ (r : Range). r.block == block) w.ranges placed.range sound.one_block_each.mapped placed.mapped in
    (named.0.0, subst (λ n. block_at n w.blocks ≡ Some named.0.0) (equal _ _ named.1) named.0.1)

new_loan : (l : Limits) (d region serial block : ℕ) (section : Section) (s : State) → AreRecordsSound l s.records → AllZip (IsMemoryOf s.records.loans) s.memories s.records.blocks → block_in (where_is section s.records.ranges) ≡ Some block → is_lent block s.records.loans ≡ false
    → HasLoan (leased d (loan_at serial block section s.records.ranges) s) (loaned (Lent d region section block serial) s.records)
unfolding loaned
new_loan l d region serial block section s sound memories inside free =
    let w : Records = s.records in
    let new : Loan = loan_at serial block section w.ranges in
    let named = block_lent_to l block section w sound serial inside in
    record {
      loan = new;
      loan_is = find-put_new (put_loan new) (λ (x : Loan). x.block == block) w.loans (equal_self block) (none_of (loan_of block w.loans) free);
      serial = refl;
      offset = refl;
      len = refl;
      bytes = ap (λ (o : Option Block). unwrap_or (option_map (λ (b : Block). b.len) o) 0) named.1 ∙ sym (memory_of w.loans block named.0 s.memories w.blocks memories free named.1);
    }

-- a block that is there has a memory
memory_there : (ls : List Loan) (b : ℕ) (x : Block) (ms : List Memory) (bs : List Block) → AllZip (IsMemoryOf ls) ms bs → block_at b bs ≡ Some x → (m : Memory) × (memory_at b ms ≡ Some m)
memory_there ls b x [] [] h is = cc
memory_there ls b x (m ∷ ms) (k ∷ bs) h is = go (m.block == b) refl (memory_there ls b x ms bs h.1) (subst (λ (n : ℕ). cond (n == b) (Some k) (block_at b bs) ≡ Some x) (sym h.0.block) is)
  where
    go : (t : Bool) → (m.block == b) ≡ t → (block_at b bs ≡ Some x → (m : Memory) × (memory_at b ms ≡ Some m)) → cond t (Some k) (block_at b bs) ≡ Some x → (y : Memory) × (memory_at b (m ∷ ms) ≡ Some y)
    go true e rest s = (m, rw e refl)
    go false e rest s = let found = rest s in (found.0, rw e found.1)
memory_there ls b x _ _ h is = absurd h

kept_itself : (lease : Leased) → is_kept_outside lease lease.bytes ≡ true
kept_itself lease = and_one _ _ _ (equal_self (length lease.bytes)) (same (take lease.offset lease.bytes)) (same (drop (lease.offset + lease.len) lease.bytes))
  where
    same : (xs : List ℕ) → bytes_eq xs xs ≡ true
    same xs = (bytes_eq-Decides xs xs).1 refl

-- with full traces a copy of what the lease holds stays
new_copy : (block : ℕ) (lease : Leased) (m : Memory) (ms : List Memory) → lease.block ≡ block → lease.bytes ≡ bytes_of block ms → memory_at block ms ≡ Some m → HasCopy lease (map (memory_changed block (recorded true)) ms)
new_copy block lease m ms of bytes is =
    let change : Memory → Memory = λ x. record x { bytes = recorded true x.bytes } in
    let found : memory_at block (map (memory_changed block (recorded true)) ms) ≡ option_map (memory_changed block (recorded true)) (memory_at block ms) = at-changed (λ (x : Memory). x.block) block block change ms (λ x. refl) in
    let held : lease.bytes ≡ m.bytes = bytes ∙ ap (λ (o : Option Memory). unwrap_or (option_map (λ (x : Memory). x.bytes) o) []) is in
    let same : (memory_changed block (recorded true) m).bytes ≡ lease.bytes = unchanged (m.block == block) ∙ sym held in
    record {
      memory = memory_changed block (recorded true) m;
      memory_is = subst (λ n. memory_at n (map (memory_changed block (recorded true)) ms) ≡ Some (memory_changed block (recorded true) m)) (sym of) (found ∙ ap (option_map (memory_changed block (recorded true))) is);
      kept = subst (λ (xs : List ℕ). is_kept_outside lease xs ≡ true) (sym same) (kept_itself lease);
    }
  where
    unchanged : (t : Bool) → (cond t (record m { bytes = recorded true m.bytes }) m).bytes ≡ m.bytes
    unchanged true = refl
    unchanged false = refl

-- the event of a loan, and the loan that its lease has
pub record IsLentTo (w : World) (region : ℕ) (section : Section) (e : Event) (lease : Leased) : Type 0 where
  pub block : ℕ
  pub event_is : Lent (device_of_region region w.state) region section block w.state.serial ≡ e
  pub lease_is : leased (device_of_region region w.state) (loan_at w.state.serial block section (view (device_of_region region w.state) w.state).records.ranges) (view (device_of_region region w.state) w.state) ≡ lease
  pub has : IsOwed (world_after (Lend region section) e w) lease

-- what a loan leaves of the memories
copied_by : (full : Bool) (d region block serial : ℕ) (section : Section) (s : State) → full ≡ true → (after full (Lent d region section block serial) [] s).memories ≡ map (memory_changed block (recorded true)) s.memories
unfolding after drained act_all_state
copied_by full d region block serial section s is = ap (λ b. map (memory_changed block (recorded b)) s.memories) is

pub lent_to : (w : World) (region : ℕ) (section : Section) (e : Event) → IsWithinBounds w.limits → IsAccounted w → judge w (Lend region section) ≡ Ok (Makes e) → (lease : Leased) × IsLentTo w region section e lease
unfolding judge world_after walk records_drained act_all
lent_to w region section e bounds accounted h =
    let d : ℕ = device_of_region region w.state in
    let s : State = view d w.state in
    let first = then_ok (ticket w) _ (Makes e) h in
    let second = then_ok (trace_room w) (loan_on w d region section >>= λ x. Ok (Makes x)) (Makes e) first.1 in
    let third = bind_ok (loan_on w d region section) (λ x. Ok (Makes x)) (Makes e) second.1 in
    let lent = lend_legal (limits_on d w.limits) d region section s third.0 third.1 in
    let is : Lent d region section lent.0 w.state.serial ≡ e = lent.1 ∙ made_same _ _ third.2 in
    let ok : IsAccepted w [] e = accepted w (Lend region section) e bounds accounted.as_many (sound_on w accounted) h in
    let on : d ≡ device_in e = ap device_in is in
    let there : d < w.limits.devices = omega (arith, on, ok.there, accounted.as_many) in
    let known : d < length w.state.devices = omega (arith, there, accounted.as_many) in
    let made : State = after w.limits.full (Lent d region section lent.0 w.state.serial) [] s in
    let lease : Leased = leased d (loan_at w.state.serial lent.0 section s.records.ranges) s in
    let loan : HasLoan lease (loaned (Lent d region section lent.0 w.state.serial) s.records) = new_loan (limits_on d w.limits) d region w.state.serial lent.0 section s (sound_on w accounted d) (accounted.devices d there).sound.memories_sized.blocks lent.2.names.1 lent.2.names.2 in
    let walked : made.records ≡ loaned (Lent d region section lent.0 w.state.serial) s.records = ap (λ (lay : Layout). lay.records) (layout-after w.limits.full (Lent d region section lent.0 w.state.serial) [] s) in
    let seen : view d (with_view d made w.state) ≡ made = view-own d made w.state known in
    let named = block_lent_to (limits_on d w.limits) lent.0 section s.records (sound_on w accounted d) w.state.serial lent.2.names.1 in
    let memory = memory_there s.records.loans lent.0 named.0 s.memories s.records.blocks (accounted.devices d there).sound.memories_sized.blocks named.1 in (
      lease,
      record {
        block = lent.0;
        event_is = is;
        lease_is = refl;
        has = subst (λ (x : Event). IsOwed (world_after (Lend region section) x w) lease) is (record {
          loan = subst (HasLoan lease) (sym (ap (λ (v : State). v.records) seen ∙ walked)) loan;
          copy = λ full. subst (HasCopy lease) (sym (ap (λ (v : State). v.memories) seen ∙ copied_by w.limits.full d region lent.0 w.state.serial section s full)) (new_copy lent.0 lease memory.0 s.memories refl refl memory.1);
        });
      },
    )

-- ---- a lease that is brought back leaves those of other numbers

pub other_stays : (w : World) (m lease : Leased) (e : Event) → judge w (Gather m) ≡ Ok (Makes e) → IsOwed w m → IsOwed w lease → (lease.serial ≡ m.serial → ⊥) → device_in e ≡ lease.device → IsNotBack lease.block e
unfolding judge gather_event
other_stays w m lease e h own other differs on =
    let s : State = view m.device w.state in
    let first = then_ok (ticket w) _ (Makes e) h in
    let second = then_ok (trace_room w) (gather_event (limits_on m.device w.limits) m s >>= λ x. Ok (Makes x)) (Makes e) first.1 in
    let third = bind_ok (gather_event (limits_on m.device w.limits) m s) (λ x. Ok (Makes x)) (Makes e) second.1 in
    let fourth = then_ok _ (Ok (gathered w.limits.full m)) third.0 third.1 in
    let is : gathered w.limits.full m ≡ e = ok_same _ _ fourth.1 ∙ made_same _ _ third.2 in
    let same_device : m.device ≡ lease.device = ap device_in is ∙ on in
    subst (IsNotBack lease.block) is (go same_device (lease.block == m.block) refl)
  where
    go : m.device ≡ lease.device → (t : Bool) → (lease.block == m.block) ≡ t → (lease.block == m.block) ≡ false
    go same_device true e =
        let there : loan_of lease.block (view lease.device w.state).records.loans ≡ Some own.loan.loan = subst (λ (n : ℕ). loan_of n (view lease.device w.state).records.loans ≡ Some own.loan.loan) (sym (equal lease.block m.block e)) (subst (λ (d : ℕ). loan_of m.block (view d w.state).records.loans ≡ Some own.loan.loan) same_device own.loan.loan_is) in
        let same : other.loan.loan ≡ own.loan.loan = some_same other.loan.loan own.loan.loan (sym other.loan.loan_is ∙ there) in
        absurd (differs (sym other.loan.serial ∙ ap (λ (x : Loan). x.serial) same ∙ own.loan.serial))
      where
        some_same : (x y : Loan) → ◌≡◌ {A = Option Loan} (Some x) (Some y) → x ≡ y
        some_same x y q = cc
    go same_device false e = e
