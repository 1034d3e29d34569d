use Rattle.acc_runtime_tests.proofs.tests.example.play_new.Given as goal

abbrev pub ghosts-play_on_new-Regions-Ledger : goal.ghosts-play_on_new-Regions-Ledger
ghosts-play_on_new-Regions-Ledger g a = record { name = a.blanks.regions.name; parts = a.blanks.regions.parts }

abbrev pub ghosts-play_on_new-Regions-Limited : goal.ghosts-play_on_new-Regions-Limited
ghosts-play_on_new-Regions-Limited g a = record { limits = a.config }

abbrev pub ghosts-play_on_new-Tickets-Ledger : goal.ghosts-play_on_new-Tickets-Ledger
ghosts-play_on_new-Tickets-Ledger g a = record { name = a.blanks.tickets.name; parts = a.blanks.tickets.parts }

abbrev pub ghosts-play_on_new-Events-Ledger : goal.ghosts-play_on_new-Events-Ledger
ghosts-play_on_new-Events-Ledger g a = record { name = a.blanks.events.name; parts = a.blanks.events.parts }
