-- The queues of a report, one after the other.
use Rattle.std.proofs.Common.{◌≡◌, ℕ, suc, ◌+◌, ◌≤◌, ◌<◌, List, [], ◌++◌, length, drop, refl, ap, ◌∙◌, arith}
use Rattle.std.proofs.lemmas.List.{drop_more}
use Rattle.std.proofs.Math.ListN.{drop_of_length-le}
use Rattle.acc_base.specs.declared.transfers.Transfer.{Transfer}
use Rattle.acc_base.specs.Queues.{queue_at}
use Rattle.acc_script.specs.Texts.{waiting_text, queues_text}

-- the queues from one on are that one, and those behind it
pub queues_turn : (n q : ℕ) (queues : List (List Transfer)) → length queues ≡ n → q < n
    → queues_text q (drop q queues)
    ≡ waiting_text q (length (queue_at q queues)) ++ queues_text (q + 1) (drop (q + 1) queues)
queues_turn n q queues all lt = let k : suc q ≡ q + 1 = omega arith in ap (queues_text q) (drop_more queues q [] (omega (arith, all))) ∙ rw k refl

-- no queue is left
pub no_queue_left : (n q : ℕ) (queues : List (List Transfer)) → length queues ≡ n → n ≤ q
    → queues_text q (drop q queues) ≡ []
no_queue_left n q queues all le = ap (queues_text q) (drop_of_length-le queues (omega (arith, all)))
