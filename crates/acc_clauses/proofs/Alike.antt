-- `==` of two devices and of two bases decides whether they are the same.
use Rattle.std.proofs.Common.{ℕ, ◌≡◌, ◌∙◌, refl, sym, ap, Bool, true, false, ◌&&◌, List, Option, MatchBool, arith}
use Rattle.std.proofs.lemmas.Bool.{true≢false}
use Rattle.std.specs.Option.{option_eq}
use lib.Dec.{eqb}
use Rattle.std.specs.Bool.{Decides}
use Rattle.std.specs.Cmp.Lexicographic.{pointwise}
use Rattle.std.proofs.lemmas.Bool.Decides.{nat_tests, Decides-eqb, Decides-and, Decides-like}
use Rattle.std.proofs.lemmas.Slice.Eq.{slice_eq-Decides}
use Rattle.acc_base.specs.contracts.attachments.AttachmentPartialEq.TheImpl as attachment
use Rattle.acc_base.specs.contracts.items.RegionClausePartialEq.TheImpl as clause
use Rattle.acc_base.specs.contracts.items.SectionPartialEq.TheImpl as section
use Rattle.acc_base.specs.contracts.loans.LoanPartialEq.TheImpl as loan
use Rattle.acc_base.specs.contracts.mappings.BlockPartialEq.TheImpl as block
use Rattle.acc_base.specs.contracts.mappings.RangePartialEq.TheImpl as range
use Rattle.acc_base.specs.contracts.regions.HoldingPartialEq.TheImpl as holding
use Rattle.acc_base.specs.contracts.transfers.TransferPartialEq.TheImpl as transfer
use Rattle.acc_clauses.specs.Words.{Attachment, Block, Holding, Loan, Range, RegionClause, Section, Transfer}
use Rattle.acc_base.specs.Register.{Region}
use Rattle.acc_base.specs.Records.{Records, Memory}
use Rattle.acc_base.specs.Devices.{OneDevice}
use Rattle.acc_base.specs.Calls.{Base}
use Rattle.acc_clauses.specs.Alike.{are_same_records, is_same_region, is_same_memory, is_same_device, is_same_base}

lists : {A : Type 0} {E : A → A → Bool} → ((a b : A) → Decides (E a b) (a ≡ b)) → (xs ys : List A) → Decides (pointwise E xs ys) (xs ≡ ys)
lists each xs ys = slice_eq-Decides each xs ys _ refl

ranges : (a b : Range) → Decides ((range.ghosts).eq a b) (a ≡ b)
ranges a b = grind (arith, nat_tests)

blocks : (a b : Block) → Decides ((block.ghosts).eq a b) (a ≡ b)
blocks a b = grind (arith, nat_tests)

attachments : (a b : Attachment) → Decides ((attachment.ghosts).eq a b) (a ≡ b)
attachments a b = grind (arith, nat_tests)

transfers : (a b : Transfer) → Decides ((transfer.ghosts).eq a b) (a ≡ b)
transfers a b = grind (arith, nat_tests)

loans : (a b : Loan) → Decides ((loan.ghosts).eq a b) (a ≡ b)
loans a b = grind (arith, nat_tests)

clauses : (a b : RegionClause) → Decides ((clause.ghosts).eq a b) (a ≡ b)
clauses a b = grind (arith, nat_tests)

sections : (a b : Section) → Decides ((section.ghosts).eq a b) (a ≡ b)
sections a b = grind (arith, nat_tests)

numbers : (a b : Option ℕ) → Decides (option_eq eqb a b) (a ≡ b)
numbers a b = grind (arith, nat_tests)

aims : (a b : Option (ℕ × ℕ)) → Decides (option_eq (λ x y. eqb x.0 y.0 && eqb x.1 y.1) a b) (a ≡ b)
aims a b = grind (arith, nat_tests)

holdings : (a b : Holding) → Decides ((holding.ghosts).eq a b) (a ≡ b)
holdings a b = Decides-like _ (λ h i. record { item = record { clause = h.0.0 i; section = h.0.1.0 i; pointer = h.0.1.1 i }; block = h.1.0 i; aim = h.1.1 i })
    (λ e. ((ap (λ (x : Holding). x.item.clause) e, (ap (λ (x : Holding). x.item.section) e, ap (λ (x : Holding). x.item.pointer) e)), (ap (λ (x : Holding). x.block) e, ap (λ (x : Holding). x.aim) e)))
    (Decides-and _ _ (Decides-and _ _ (clauses a.item.clause b.item.clause) (Decides-and _ _ (sections a.item.section b.item.section) (numbers a.item.pointer b.item.pointer))) (Decides-and _ _ (numbers a.block b.block) (aims a.aim b.aim)))

records : (w v : Records) → Decides (are_same_records w v) (w ≡ v)
records w v = Decides-like _ (λ h i. record { ranges = h.0.0.0.0.0 i; blocks = h.0.0.0.0.1 i; attached = h.0.0.0.1 i; births = h.0.0.1 i; queues = h.0.1 i; loans = h.1 i })
    (λ e. (((((ap (λ (r : Records). r.ranges) e, ap (λ (r : Records). r.blocks) e), ap (λ (r : Records). r.attached) e), ap (λ (r : Records). r.births) e), ap (λ (r : Records). r.queues) e), ap (λ (r : Records). r.loans) e))
    (Decides-and _ _ (Decides-and _ _ (Decides-and _ _ (Decides-and _ _ (Decides-and _ _ (lists ranges w.ranges v.ranges) (lists blocks w.blocks v.blocks)) (lists attachments w.attached v.attached)) (Decides-eqb w.births v.births)) (lists (lists transfers) w.queues v.queues)) (lists loans w.loans v.loans))

regions : (r t : Region) → Decides (is_same_region r t) (r ≡ t)
regions r t = Decides-like _ (λ h i. record { number = h.0 i; holdings = h.1 i }) (λ e. (ap (λ (x : Region). x.number) e, ap (λ (x : Region). x.holdings) e)) (Decides-and _ _ (Decides-eqb r.number t.number) (lists holdings r.holdings t.holdings))

memories : (m n : Memory) → Decides (is_same_memory m n) (m ≡ n)
memories m n = Decides-like _ (λ h i. record { block = h.0 i; bytes = h.1 i }) (λ e. (ap (λ (x : Memory). x.block) e, ap (λ (x : Memory). x.bytes) e)) (Decides-and _ _ (Decides-eqb m.block n.block) (lists Decides-eqb m.bytes n.bytes))

pub device_decides : (x y : OneDevice) → Decides (is_same_device x y) (x ≡ y)
device_decides x y = Decides-like _ (λ h i. record { records = h.0 i; regions = h.1.0 i; memories = h.1.1 i })
    (λ e. (ap (λ (d : OneDevice). d.records) e, (ap (λ (d : OneDevice). d.regions) e, ap (λ (d : OneDevice). d.memories) e)))
    (Decides-and _ _ (records x.records y.records) (Decides-and _ _ (lists regions x.regions y.regions) (lists memories x.memories y.memories)))

pub base_decides : (b c : Base) → Decides (is_same_base b c) (b ≡ c)
base_decides b c = Decides-like _ (λ h i. record { state = record { devices = h.0 i; next = h.1.0 i; serial = h.1.1.0 i; host = h.1.1.1.0 i }; events = h.1.1.1.1 i })
    (λ e. (ap (λ (x : Base). x.state.devices) e, (ap (λ (x : Base). x.state.next) e, (ap (λ (x : Base). x.state.serial) e, (ap (λ (x : Base). x.state.host) e, ap (λ (x : Base). x.events) e)))))
    (Decides-and _ _ (lists device_decides b.state.devices c.state.devices) (Decides-and _ _ (Decides-eqb b.state.next c.state.next) (Decides-and _ _ (Decides-eqb b.state.serial c.state.serial) (Decides-and _ _ (lists Decides-eqb b.state.host c.state.host) (Decides-eqb b.events c.events)))))

-- ---- what a test has told

pub device_told : (x y : OneDevice) (r : Bool) → r ≡ is_same_device x y → MatchBool r (x ≡ y) (x ≡ y → ⊥)
device_told x y true e = (device_decides x y).0 (sym e)
device_told x y false e = λ same. true≢false (sym ((device_decides x y).1 same) ∙ sym e)

pub base_told : (b c : Base) (r : Bool) → r ≡ is_same_base b c → MatchBool r (b ≡ c) (b ≡ c → ⊥)
base_told b c true e = (base_decides b c).0 (sym e)
base_told b c false e = λ same. true≢false (sym ((base_decides b c).1 same) ∙ sym e)
