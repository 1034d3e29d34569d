-- What attaching a pointer does after entries, by what is read of them.
use Rattle.std.proofs.Common.{ℕ, ◌≡◌, ◌+◌, ◌<◌, ◌≤◌, refl, sym, ap, ◌∙◌, Bool, true, false, ◌&&◌, List, length, Some, None, Result, Ok, Err, arith}
use Rattle.std.specs.Prelude.{◌⊎◌, ◌==◌, not, nat_le, IsSome}
use Rattle.std.specs.List.{list_all}
use Rattle.std.proofs.lemmas.Bool.Decides.{nat_tests}
use Rattle.acc_clauses.specs.Words.{Attachment, Aim, Fault}
use Rattle.acc_base.specs.declared.attachments.Aim.TheVariants as aims
use Rattle.acc_base.specs.declared.faults.Fault.TheVariants.{CounterFull}
use Rattle.acc_base.specs.Results.{◌>>◌, refuse_if}
use Rattle.acc_base.specs.Limits.{Limits}
use Rattle.acc_base.specs.Records.{Records, State}
use Rattle.acc_base.specs.Ranges.{start_of}
use Rattle.acc_base.specs.Blocks.{block_at}
use Rattle.acc_base.specs.Attachments.{count_at, attach}
use Rattle.acc_base.specs.Bytes.{bytes_of}
use Rattle.acc_base.specs.Detaching.{block_with}
use Rattle.acc_base.specs.Loans.{is_lent, not_lent}
use Rattle.acc_base.specs.Pointers.{host_pointer, device_pointer, device_address_of, attach_there, judge_attach}
use Rattle.acc_base.specs.Accounts.{AreRecordsSound, AreMemoriesSized}
use Rattle.acc_base.proofs.Walked.{records-act_all_state}
use Rattle.acc_base.proofs.Loaned.{loans-act_all}
use Rattle.acc_clauses.specs.declared.acted.Acted.{Acted}
use Rattle.acc_clauses.specs.Overlays.{tasks_in, records_after, state_after, enters, IsPlanned}
use Rattle.acc_clauses.proofs.Moving.{bytes_of-len}
use Rattle.acc_clauses.proofs.AimsPlaced.{host-after}
use Rattle.acc_clauses.proofs.AimsFound.{IsPointerIn, pointer_in_block}

-- ---- a pointer that is read

-- a block that holds a pointer is there
pub pointer_there : (l : Limits) (w : Records) (block pointer : ℕ) → AreRecordsSound l w → block_with pointer w.ranges ≡ Some block → IsSome (block_at block w.blocks)
pointer_there l w block pointer h e = let at : IsPointerIn block pointer w = pointer_in_block l w block pointer h e in rw at.there refl

-- and has its eight bytes, where it is not lent
pub pointer_fits : (l : Limits) (s : State) (block pointer : ℕ) → AreRecordsSound l s.records → AreMemoriesSized l s → block_with pointer s.records.ranges ≡ Some block → is_lent block s.records.loans ≡ false
    → (start_of block s.records.ranges ≤ pointer) × (pointer + 8 ≤ start_of block s.records.ranges + length (bytes_of block s.memories))
pointer_fits l s block pointer h sized e free = grind (arith, nat_tests, pointer_in_block l s.records block pointer h e, bytes_of-len)

-- ---- attaching

-- what is read after entries
pub attach-read : (l : Limits) (n pointer : ℕ) (xs : List Acted) (s : State) → IsPlanned l xs s.records → list_all enters (tasks_in xs) ≡ true
    → judge_attach l n pointer (state_after xs s) ≡ attach_there l n pointer (block_with pointer (records_after xs s.records).ranges) (device_address_of (host_pointer pointer s) (records_after xs s.records)) (state_after xs s)
unfolding judge_attach
attach-read l n pointer xs s p entries = grind (arith, nat_tests, records-act_all_state, host-after)

module _ (l : Limits) (n pointer : ℕ) (xs : List Acted) (s : State) (p : IsPlanned l xs s.records) (entries : list_all enters (tasks_in xs) ≡ true) where
  -- the pointer lies in no block
  pub attach-absent : None ≡ block_with pointer (records_after xs s.records).ranges → ◌≡◌ {A = Result Aim Fault} (Ok aims.None) (judge_attach l n pointer (state_after xs s))
  attach-absent e = sym (attach-read l n pointer xs s p entries ∙ ap (λ b. attach_there l n pointer b (device_address_of (host_pointer pointer s) (records_after xs s.records)) (state_after xs s)) (sym e))

  -- what it points to is not mapped
  pub attach-untargeted : (address : ℕ) → address ≡ host_pointer pointer s → None ≡ device_address_of address (records_after xs s.records) → ◌≡◌ {A = Result Aim Fault} (Ok aims.None) (judge_attach l n pointer (state_after xs s))
  attach-untargeted address read e = grind (arith, nat_tests, attach-read)

  -- it is aimed at a target, where its block is not lent
  attach-there : (block target address : ℕ) → Some block ≡ block_with pointer (records_after xs s.records).ranges → address ≡ host_pointer pointer s → Some target ≡ device_address_of address (records_after xs s.records)
      → judge_attach l n pointer (state_after xs s) ≡ (not_lent (Some block) s.records.loans >> attach l.counter_max n block pointer target (device_pointer block pointer (state_after xs s)) (records_after xs s.records).attached)
  attach-there block target address e read f = grind (arith, nat_tests, attach-read, records-act_all_state, loans-act_all)

  pub attach-targeted : (block target address : ℕ) → Some block ≡ block_with pointer (records_after xs s.records).ranges → address ≡ host_pointer pointer s → Some target ≡ device_address_of address (records_after xs s.records)
      → Ok tt ≡ not_lent (Some block) s.records.loans
      → judge_attach l n pointer (state_after xs s) ≡ attach l.counter_max n block pointer target (device_pointer block pointer (state_after xs s)) (records_after xs s.records).attached
  attach-targeted block target address e read f free = grind (arith, nat_tests, attach-there block target address e read f)

  -- it lies in a block that is lent
  pub attach-lent : (block target address : ℕ) (fault : Fault) → Some block ≡ block_with pointer (records_after xs s.records).ranges → address ≡ host_pointer pointer s → Some target ≡ device_address_of address (records_after xs s.records)
      → Err fault ≡ not_lent (Some block) s.records.loans → ◌≡◌ {A = Result Aim Fault} (Err fault) (judge_attach l n pointer (state_after xs s))
  attach-lent block target address fault e read f lent = grind (arith, nat_tests, attach-there block target address e read f)

-- a pointer that is not attached, or holds another address
pub attach-new : (most n block pointer target now : ℕ) (attached : List Attachment) → (count_at block pointer attached ≡ 0) ⊎ (now ≡ target → ⊥) → ◌≡◌ {A = Result Aim Fault} (Ok (aims.New pointer block target)) (attach most n block pointer target now attached)
attach-new most n block pointer target now attached h = grind (arith, nat_tests)

-- one that is attached there already
held : (block pointer target now : ℕ) (attached : List Attachment) → (count_at block pointer attached ≡ 0 → ⊥) → now ≡ target → (not (count_at block pointer attached == 0) && (now == target)) ≡ true
held block pointer target now attached some same = grind (arith, nat_tests)

attach-held : (most n block pointer target now : ℕ) (attached : List Attachment) (full : Bool) → (count_at block pointer attached ≡ 0 → ⊥) → now ≡ target → nat_le most (count_at block pointer attached) ≡ full
    → attach most n block pointer target now attached ≡ (refuse_if full (CounterFull n) >> Ok (aims.Again pointer block))
attach-held most n block pointer target now attached full some same e = rw (held block pointer target now attached some same, e) refl

pub attach-full : (most n block pointer target now : ℕ) (attached : List Attachment) → (count_at block pointer attached ≡ 0 → ⊥) → now ≡ target → most ≤ count_at block pointer attached
    → ◌≡◌ {A = Result Aim Fault} (Err (CounterFull n)) (attach most n block pointer target now attached)
attach-full most n block pointer target now attached some same high = let yes : nat_le most (count_at block pointer attached) ≡ true = grind (arith, nat_tests) in sym (attach-held most n block pointer target now attached true some same yes)

pub attach-again : (most n block pointer target now : ℕ) (attached : List Attachment) → (count_at block pointer attached ≡ 0 → ⊥) → now ≡ target → count_at block pointer attached < most
    → ◌≡◌ {A = Result Aim Fault} (Ok (aims.Again pointer block)) (attach most n block pointer target now attached)
attach-again most n block pointer target now attached some same low = let no : nat_le most (count_at block pointer attached) ≡ false = grind (arith, nat_tests) in sym (attach-held most n block pointer target now attached false some same no)
