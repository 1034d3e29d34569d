-- What `==` says of two devices and of two bases: whether they are the same, list by list.
use Rattle.std.specs.Prelude.{Bool, ◌&&◌, ◌==◌}
use Rattle.std.specs.Cmp.{IsEquivalence, on_equiv, and_equiv, nat_eq_equiv}
use Rattle.std.specs.Cmp.Lexicographic.{pointwise, lists_equiv}
use Rattle.acc_base.specs.contracts.attachments.AttachmentPartialEq.TheImpl as attachment
use Rattle.acc_base.specs.contracts.attachments.AttachmentEq.TheImpl.Laws as attachment_laws
use Rattle.acc_base.specs.contracts.loans.LoanPartialEq.TheImpl as loan
use Rattle.acc_base.specs.contracts.loans.LoanEq.TheImpl.Laws as loan_laws
use Rattle.acc_base.specs.contracts.mappings.BlockPartialEq.TheImpl as block
use Rattle.acc_base.specs.contracts.mappings.BlockEq.TheImpl.Laws as block_laws
use Rattle.acc_base.specs.contracts.mappings.RangePartialEq.TheImpl as range
use Rattle.acc_base.specs.contracts.mappings.RangeEq.TheImpl.Laws as range_laws
use Rattle.acc_base.specs.contracts.regions.HoldingPartialEq.TheImpl as holding
use Rattle.acc_base.specs.contracts.regions.HoldingEq.TheImpl.Laws as holding_laws
use Rattle.acc_base.specs.contracts.transfers.TransferPartialEq.TheImpl as transfer
use Rattle.acc_base.specs.contracts.transfers.TransferEq.TheImpl.Laws as transfer_laws
use Rattle.acc_base.specs.Register.{Region}
use Rattle.acc_base.specs.Records.{Records, Memory}
use Rattle.acc_base.specs.Devices.{OneDevice}
use Rattle.acc_base.specs.Calls.{Base}

-- ---- what is compared

abbrev pub are_same_records : Records → Records → Bool
are_same_records w v =
    ((((pointwise (range.ghosts).eq w.ranges v.ranges
    && pointwise (block.ghosts).eq w.blocks v.blocks)
    && pointwise (attachment.ghosts).eq w.attached v.attached)
    && (w.births == v.births))
    && pointwise (pointwise (transfer.ghosts).eq) w.queues v.queues)
    && pointwise (loan.ghosts).eq w.loans v.loans

abbrev pub is_same_region : Region → Region → Bool
is_same_region r t = (r.number == t.number) && pointwise (holding.ghosts).eq r.holdings t.holdings

abbrev pub is_same_memory : Memory → Memory → Bool
is_same_memory m n = (m.block == n.block) && pointwise ◌==◌ m.bytes n.bytes

abbrev pub is_same_device : OneDevice → OneDevice → Bool
is_same_device x y = are_same_records x.records y.records && (pointwise is_same_region x.regions y.regions && pointwise is_same_memory x.memories y.memories)

abbrev pub is_same_base : Base → Base → Bool
is_same_base b c =
    pointwise is_same_device b.state.devices c.state.devices
    && ((b.state.next == c.state.next)
    && ((b.state.serial == c.state.serial)
    && (pointwise ◌==◌ b.state.host c.state.host
    && (b.events == c.events))))

-- ---- the laws

records_equiv : IsEquivalence are_same_records
records_equiv =
    and_equiv
    (and_equiv
    (and_equiv (and_equiv (and_equiv (on_equiv (λ (w : Records). w.ranges) (lists_equiv range_laws.laws-law)) (on_equiv (λ (w : Records). w.blocks) (lists_equiv block_laws.laws-law))) (on_equiv (λ (w : Records). w.attached) (lists_equiv attachment_laws.laws-law)))
    (on_equiv (λ (w : Records). w.births) nat_eq_equiv))
    (on_equiv (λ (w : Records). w.queues) (lists_equiv (lists_equiv transfer_laws.laws-law))))
    (on_equiv (λ (w : Records). w.loans) (lists_equiv loan_laws.laws-law))

region_equiv : IsEquivalence is_same_region
region_equiv = and_equiv (on_equiv (λ (r : Region). r.number) nat_eq_equiv) (on_equiv (λ (r : Region). r.holdings) (lists_equiv holding_laws.laws-law))

memory_equiv : IsEquivalence is_same_memory
memory_equiv = and_equiv (on_equiv (λ (m : Memory). m.block) nat_eq_equiv) (on_equiv (λ (m : Memory). m.bytes) (lists_equiv nat_eq_equiv))

pub device_equiv : IsEquivalence is_same_device
device_equiv =
    and_equiv (on_equiv (λ (x : OneDevice). x.records) records_equiv)
    (and_equiv (on_equiv (λ (x : OneDevice). x.regions) (lists_equiv region_equiv))
    (on_equiv (λ (x : OneDevice). x.memories) (lists_equiv memory_equiv)))

pub base_equiv : IsEquivalence is_same_base
base_equiv =
    and_equiv (on_equiv (λ (b : Base). b.state.devices) (lists_equiv device_equiv))
    (and_equiv (on_equiv (λ (b : Base). b.state.next) nat_eq_equiv)
    (and_equiv (on_equiv (λ (b : Base). b.state.serial) nat_eq_equiv)
    (and_equiv (on_equiv (λ (b : Base). b.state.host) (lists_equiv nat_eq_equiv))
    (on_equiv (λ (b : Base). b.events) nat_eq_equiv))))
