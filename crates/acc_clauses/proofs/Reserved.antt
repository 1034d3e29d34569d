-- All room that a plan needs is made: its tasks name one queue at most, that of its directive.
use Rattle.std.proofs.Common.{ℕ, ◌≡◌, ◌≤◌, refl, false, List, [], ◌∷◌, length, Option, Some, None, Result, Ok, Err, OnOk, arith}
use Rattle.std.specs.Bool.{⊤}
use Rattle.std.specs.List.{AllByRecursion}
use Rattle.std.proofs.lemmas.Bool.Decides.{nat_tests}
use Rattle.acc_clauses.specs.Words.{Directive, Task, Did}
use Rattle.acc_base.specs.Tasks.{queue_of}
use Rattle.acc_base.specs.Judge.{queue_in}
use Rattle.acc_present.specs.Queued.{spare_at}
use Rattle.acc_clauses.specs.Planned.{Planned, holdings_by, IsPlanOf}
use Rattle.acc_clauses.specs.Overlays.{is_queue, puts_in}
use Rattle.acc_clauses.specs.Contents.{Contents, Room}
use Rattle.acc_clauses.specs.Stored.{AreContentsSound}
use Rattle.acc_clauses.proofs.Asking.{asked_fit}
use Rattle.acc_clauses.specs.Acts.{lens_born, pointers_in, HasRoomFor, HasPutRoom, HasRegionRoom, HasPlanRoom, regions_entered}

-- ---- the queue of a directive

-- all tasks name this queue
abbrev AreOfQueue : Option ℕ → List Task → Type 0
AreOfQueue queue tasks = AllByRecursion (λ t. queue_of t ≡ queue) tasks

-- ---- the other queues

-- nothing is put into a queue that the tasks do not name
none_in : (q : ℕ) (queue : Option ℕ) (tasks : List Task) (dids : List Did) → AreOfQueue queue tasks → is_queue q queue ≡ false → puts_in q tasks dids ≡ 0
none_in q queue [] [] h other = refl
none_in q queue [] (d ∷ ds) h other = refl
none_in q queue (t ∷ ts) [] h other = refl
none_in q queue (t ∷ ts) (d ∷ ds) h other = grind (arith, nat_tests, none_in q queue ts ds h.1 other)

planned_queue : (d : Directive) (c : Contents) (p : Planned) → AreContentsSound c → IsPlanOf c.limits d c.state p → AreOfQueue (queue_in d) p.tasks
planned_queue d c p h planned = (asked_fit d c.state.register p.tasks h.sound.layout.register.few planned.asked).queues

-- ---- room in the queues

-- a directive that names no queue puts nothing
pub none_room : (d : Directive) (c : Contents) (p : Planned) (room : Room) → AreContentsSound c → IsPlanOf c.limits d c.state p → queue_in d ≡ None → HasPutRoom (λ q. puts_in q p.tasks p.dids) room
none_room d c p room h planned none = grind (arith, nat_tests, none_in, planned_queue)

-- one that names a queue puts into that one alone
pub one_room : (d : Directive) (c : Contents) (p : Planned) (named : ℕ) (room : Room) → AreContentsSound c → IsPlanOf c.limits d c.state p → queue_in d ≡ Some named → puts_in named p.tasks p.dids ≤ spare_at named room.puts
    → HasPutRoom (λ q. puts_in q p.tasks p.dids) room
one_room d c p named room h planned is enough = grind (arith, nat_tests, none_in, planned_queue)

-- ---- all room

-- where room is made, it is for all that a plan of a directive takes in
pub room_made : {E : Type 0} (made : Result ⊤ E) (d : Directive) (p : Planned) (room : Room) → OnOk made (HasRoomFor (lens_born p.tasks p.dids) room)
    → OnOk made (HasRegionRoom (regions_entered d) (length (holdings_by p.tasks p.dids)) room) → OnOk made (pointers_in p.dids ≤ room.attachments) → HasPutRoom (λ q. puts_in q p.tasks p.dids) room → OnOk made (HasPlanRoom d p room)
room_made (Ok _) d p room births region pointers puts = record { births = births; region = region; pointers = pointers; puts = puts }
room_made (Err _) d p room births region pointers puts = tt
