-- What attaching and detaching a pointer leaves of the parts.
use Rattle.std.proofs.Common.{ℕ, ◌≡◌, ◌+◌, ◌<◌, ◌≤◌, refl, ◌∙◌, ap, Bool, true, false, cond, List, [], arith}
use Rattle.std.specs.Prelude.{◌==◌, ◌⊎◌, ◌-◌, map, slice_index}
use Rattle.std.specs.Int.{w64, to_le_bytes}
use Rattle.std.proofs.lemmas.Bool.Decides.{nat_tests}
use Rattle.acc_clauses.specs.Words.{Aim, Attachment}
use Rattle.acc_base.specs.declared.attachments.Aim.TheVariants as aims
use Rattle.acc_base.specs.Section.{covers}
use Rattle.acc_base.specs.Ranges.{start_of}
use Rattle.acc_base.specs.Attachments.{pointer_at, count_at, with_count, detach, attached_by}
use Rattle.acc_base.specs.Records.{Memory}
use Rattle.acc_base.specs.Bytes.{host_byte, written_bytes, memory_changed}
use Rattle.acc_base.specs.Pointers.{pointer_written, memories_aimed, aimed}
use Rattle.acc_dev.specs.Device.{DeviceState}
use Rattle.acc_present.specs.Attached.{AttachedState, left_of}
use Rattle.acc_present.specs.declared.left.Left.{Left}
use Rattle.acc_present.specs.declared.left.Left.TheVariants as left
use Rattle.acc_clauses.specs.declared.environments.Environment.{Environment}
use Rattle.acc_clauses.specs.Contents.{Numbers, WithHost, beside, AreMarked, state_of, bare_state}
use Rattle.acc_clauses.specs.Acts.{CanDetach, pointers_of, IsAimedBy}

-- the eight bytes of a target are written over a pointer
pub target_put : (pointer block target start : ℕ) (x : Environment) (new : DeviceState) (bytes : List ℕ)
    → new ≡ record x.device { memories = map (memory_changed block (written_bytes (covers (pointer_at pointer)) (λ a. slice_index bytes (a - pointer)) start)) x.device.memories }
    → bytes ≡ to_le_bytes w64 target → start ≡ start_of block x.present.table.ranges
    → record x { device = new } ≡ record x { device = record x.device { memories = pointer_written block pointer (λ a. slice_index (to_le_bytes w64 target) (a - pointer)) (bare_state (beside x [])) } }
target_put pointer block target start x new bytes put eight first = grind (arith, nat_tests)

-- the parts with these memories of the blocks and these attachment counters
abbrev pub with_pointers : WithHost → List Memory → AttachedState → WithHost
with_pointers x ms b = record x { device = record x.device { memories = ms }; attached = b }

-- they are what an attachment or a detachment leaves
aims_by : (aim : Aim) (x : WithHost) (ms : List Memory) (b : AttachedState) → ((next : Numbers) → ms ≡ memories_aimed aim (state_of x next)) → b.attached ≡ attached_by aim x.attached.attached → b.counter_max ≡ x.attached.counter_max
    → x.attached.spare ≤ b.spare + pointers_of aim → AreMarked x → IsAimedBy aim x (with_pointers x ms b)
unfolding aimed
aims_by aim x ms b memories attached limit spare marked = grind (arith, nat_tests)

pub none_aims : (x : WithHost) → AreMarked x → IsAimedBy aims.None x x
none_aims x marked = aims_by aims.None x x.device.memories x.attached (λ next. refl) refl refl (omega arith) marked

pub new_aims : (pointer block target : ℕ) (x y : WithHost) (ms : List Memory) (b : AttachedState) → y ≡ record x { device = record x.device { memories = ms } } → ((next : Numbers) → ms ≡ memories_aimed (aims.New pointer block target) (state_of x next))
    → b.attached ≡ with_count block pointer 1 y.attached.attached → b.counter_max ≡ y.attached.counter_max → y.attached.spare ≤ b.spare + 1 → AreMarked x → IsAimedBy (aims.New pointer block target) x (record y { attached = b })
new_aims pointer block target x y ms b e memories attached limit spare marked =
    let first : b.attached ≡ with_count block pointer 1 x.attached.attached = rw e at attached in
    let second : b.counter_max ≡ x.attached.counter_max = rw e at limit in
    let third : x.attached.spare ≤ b.spare + 1 = rw e at spare in
    rw e (aims_by (aims.New pointer block target) x ms b memories first second third marked)

pub again_aims : (pointer block : ℕ) (x : WithHost) (b : AttachedState) → b.attached ≡ with_count block pointer (count_at block pointer x.attached.attached + 1) x.attached.attached → b.counter_max ≡ x.attached.counter_max → x.attached.spare ≤ b.spare → AreMarked x
    → IsAimedBy (aims.Again pointer block) x (record x { attached = b })
again_aims pointer block x b attached limit spare marked = aims_by (aims.Again pointer block) x x.device.memories b (λ next. refl) attached limit (omega (arith, spare)) marked

-- ---- detaching

-- a counter above zero is detached
detached : (immediate : Bool) (block pointer : ℕ) (xs : List Attachment) → 0 < count_at block pointer xs → detach immediate block pointer xs ≡ cond immediate (aims.Cleared pointer block) (aims.Less pointer block)
detached immediate block pointer xs some = let more : (count_at block pointer xs == 0) ≡ false = grind (arith, nat_tests) in rw more refl

pub cleared_aims : (pointer block : ℕ) (x y : WithHost) (b : AttachedState) → CanDetach pointer block (bare_state x)
    → y ≡ record x { device = record x.device { memories = pointer_written block pointer (host_byte x.host) (bare_state x) } }
    → b.attached ≡ attached_by (detach true block pointer y.attached.attached) y.attached.attached → b.counter_max ≡ y.attached.counter_max → y.attached.spare ≤ b.spare → AreMarked x → IsAimedBy (aims.Cleared pointer block) x (record y { attached = b })
cleared_aims pointer block x y b can e attached limit spare marked =
    let first : b.attached ≡ attached_by (detach true block pointer x.attached.attached) x.attached.attached = rw e at attached in
    let second : b.counter_max ≡ x.attached.counter_max = rw e at limit in
    let third : x.attached.spare ≤ b.spare = rw e at spare in
    rw e (aims_by (aims.Cleared pointer block) x (pointer_written block pointer (host_byte x.host) (bare_state x)) b (λ next. refl)
    (first ∙ ap (λ a. attached_by a x.attached.attached) (detached true block pointer x.attached.attached can.some)) second (omega (arith, third)) marked)

-- what is left of a counter says whether it was one
was_one : (n : ℕ) → left.Zero ≡ left_of false n → (n == 1) ≡ true
was_one n e = grind (arith, nat_tests)

was_more : (n : ℕ) → 0 < n → (left.Zero ≡ left_of false n → ⊥) → (n == 1) ≡ false
was_more n some h = grind (arith, nat_tests)

-- it is not zero
pub not_left_zero : (l : Left) → (l ≡ left.Nothing) ⊎ (l ≡ left.Less) → left.Zero ≡ l → ⊥
not_left_zero l h1 z = grind (arith, nat_tests)

less_attached : (pointer block : ℕ) (x : WithHost) (b : AttachedState) → CanDetach pointer block (bare_state x) → b.attached ≡ attached_by (detach false block pointer x.attached.attached) x.attached.attached
    → b.attached ≡ attached_by (aims.Less pointer block) x.attached.attached
less_attached pointer block x b can e = e ∙ ap (λ a. attached_by a x.attached.attached) (detached false block pointer x.attached.attached can.some)

pub zero_aims : (pointer block : ℕ) (x y : WithHost) (b : AttachedState) → CanDetach pointer block (bare_state x) → left.Zero ≡ left_of false (count_at block pointer x.attached.attached)
    → b.attached ≡ attached_by (detach false block pointer x.attached.attached) x.attached.attached → b.counter_max ≡ x.attached.counter_max → x.attached.spare ≤ b.spare
    → y ≡ with_pointers x (pointer_written block pointer (host_byte x.host) (bare_state x)) b → AreMarked x → IsAimedBy (aims.Less pointer block) x y
zero_aims pointer block x y b can zero attached limit spare e marked =
    let one : (count_at block pointer x.attached.attached == 1) ≡ true = was_one _ zero in
    rw e (aims_by (aims.Less pointer block) x (pointer_written block pointer (host_byte x.host) (bare_state x)) b (λ next. rw one refl) (less_attached pointer block x b can attached) limit (omega (arith, spare)) marked)

pub less_aims : (pointer block : ℕ) (x : WithHost) (b : AttachedState) → CanDetach pointer block (bare_state x) → (left.Zero ≡ left_of false (count_at block pointer x.attached.attached) → ⊥)
    → b.attached ≡ attached_by (detach false block pointer x.attached.attached) x.attached.attached → b.counter_max ≡ x.attached.counter_max → x.attached.spare ≤ b.spare → AreMarked x → IsAimedBy (aims.Less pointer block) x (record x { attached = b })
less_aims pointer block x b can more attached limit spare marked =
    let other : (count_at block pointer x.attached.attached == 1) ≡ false = was_more _ can.some more in
    aims_by (aims.Less pointer block) x x.device.memories b (λ next. rw other refl) (less_attached pointer block x b can attached) limit (omega (arith, spare)) marked
