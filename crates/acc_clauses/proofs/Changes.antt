-- The parts were changed so: the state that they stand for, and the room that was taken. And two changes, one after the
-- other.
use Rattle.std.proofs.lemmas.Bool.Decides.{nat_tests}
use Rattle.std.proofs.Common.{ℕ, ◌≡◌, ◌+◌, ◌≤◌, refl, sym, ◌∙◌, ap, List, [], ◌++◌, length, arith, append_assoc, length-append, subst}
use Rattle.acc_base.specs.Records.{State}
use Rattle.acc_present.specs.Present as present
use Rattle.acc_present.specs.Queued.{spare_at}
use Rattle.acc_clauses.specs.declared.environments.Environment.{Environment}
use Rattle.acc_clauses.specs.Contents.{bare_numbers, bare_state, Numbers, WithHost, beside, state_of, room_of, ArePartsSound}
use Rattle.acc_clauses.specs.Acts.{IsRoomLeft, IsChangedBy}
use Rattle.acc_base.specs.Limits.{Limits}
use Rattle.acc_base.specs.Accounts.{AreRecordsSound, AreMemoriesSized}

-- what a device has and host memory, each known to be equal
pub beside_both : {x y : Environment} {g h : List ℕ} → x ≡ y → g ≡ h → beside x g ≡ beside y h
beside_both e f = rw (e, f) refl

-- the parts stand for a state that has the same fields
pub state_from_parts : (x : WithHost) (next : Numbers) (s : State) → x.present.table.ranges ≡ s.records.ranges → x.device.blocks ≡ s.records.blocks → x.attached.attached ≡ s.records.attached → x.device.births ≡ s.records.births → x.queues.queues ≡ s.records.queues → x.device.loans ≡ s.records.loans
    → x.present.table.regions ≡ s.register.regions → next.region ≡ s.register.next → next.serial ≡ s.register.serial → x.host ≡ s.host → x.device.memories ≡ s.memories → state_of x next ≡ s
state_from_parts x next s a b p c d i e f j g h = rw (a, b, p, c, d, i, e, f, j, g, h) refl

-- no room was taken but for transfers
pub room_same : (puts : ℕ → ℕ) (x y : WithHost) → present.IsRoomKept x.present.room y.present.room → y.device.room ≡ x.device.room → x.attached.spare ≤ y.attached.spare
    → ((q : ℕ) → spare_at q x.queues.spare ≤ spare_at q y.queues.spare + puts q) → IsRoomLeft [] 0 puts (room_of x) (room_of y)
room_same puts x y h same spare queues = record { births_are = sym same; ranges = omega (arith, h.ranges); regions = h.regions; holdings = h.holdings; attachments = omega (arith, spare); puts = queues }

-- the room of the present table is as it was
pub none_taken : (r : present.Room) → present.IsRoomKept r r
none_taken r = record { ranges = omega arith; regions = omega arith; holdings = omega arith }

-- a change that leads to the same, and takes no more room
pub changed_to : (f g : State → State) (bs : List ℕ) (m : ℕ) (u v : ℕ → ℕ) (x y : WithHost) → ((next : Numbers) → f (state_of x next) ≡ g (state_of x next)) → ((q : ℕ) → u q ≤ v q) → IsChangedBy f bs m u x y → IsChangedBy g bs m v x y
changed_to f g bs m u v x y same less a = grind (arith, nat_tests)

-- two states with the same parts
pub same_state : (s t : State) → s.records ≡ t.records → s.register ≡ t.register → s.host ≡ t.host → s.memories ≡ t.memories → s ≡ t
same_state s t a b c d = let e : record { records = s.records; register = s.register; host = s.host; memories = s.memories } ≡ t = rw (a, b, c, d) refl in e

-- two changes, of which both may take room
pub both : (f g h : State → State) (bs cs ds : List ℕ) (m n k : ℕ) (u v w : ℕ → ℕ) (x y z : WithHost) → ((next : Numbers) → g (f (state_of x next)) ≡ h (state_of x next)) → bs ++ cs ≡ ds → m + n ≡ k → ((q : ℕ) → u q + v q ≤ w q)
    → IsChangedBy f bs m u x y → IsChangedBy g cs n v y z → IsChangedBy h ds k w x z
both f g h bs cs ds m n k u v w x y z whole births pointers puts a b = grind (arith, nat_tests, append_assoc, length-append)

-- the parts are sound after a change that keeps the records and the memories sound, and the loans
pub changed_sound : (l : Limits) (change : State → State) (bs : List ℕ) (m : ℕ) (u : ℕ → ℕ) (x y : WithHost) (lent : ℕ) → ArePartsSound l x lent → IsChangedBy change bs m u x y
    → AreRecordsSound l (change (bare_state x)).records → AreMemoriesSized l (change (bare_state x)) → (change (bare_state x)).records.loans ≡ x.device.loans → ArePartsSound l y lent
changed_sound l change bs m u x y lent sound done records memories loans = record {
  bounds = sound.bounds;
  sized = record { counters = done.counter_max ∙ sound.sized.counters; device = done.memory ∙ sound.sized.device; pointers = done.pointer_max ∙ sound.sized.pointers; queues = done.queue_cap ∙ sound.sized.queues };
  sound = record { records = subst (λ (s : State). AreRecordsSound l s.records) (sym (done.state bare_numbers)) records; memories = subst (AreMemoriesSized l) (sym (done.state bare_numbers)) memories };
  marked = done.marked;
  lent = sound.lent ∙ ap length (sym (ap (λ (s : State). s.records.loans) (done.state bare_numbers) ∙ loans));
}
