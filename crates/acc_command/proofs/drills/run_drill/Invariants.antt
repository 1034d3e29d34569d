use Rattle.acc_command.proofs.drills.run_drill.Given as goal

abbrev pub ghosts-drilled-Regions-Ledger : goal.ghosts-drilled-Regions-Ledger
ghosts-drilled-Regions-Ledger g a = record { name = a.blanks.regions.name; parts = a.blanks.regions.parts }

abbrev pub ghosts-drilled-Regions-Limited : goal.ghosts-drilled-Regions-Limited
ghosts-drilled-Regions-Limited g a = record { limits = a.config }

abbrev pub ghosts-drilled-Tickets-Ledger : goal.ghosts-drilled-Tickets-Ledger
ghosts-drilled-Tickets-Ledger g a = record { name = a.blanks.tickets.name; parts = a.blanks.tickets.parts }

abbrev pub ghosts-drilled-Events-Ledger : goal.ghosts-drilled-Events-Ledger
ghosts-drilled-Events-Ledger g a = record { name = a.blanks.events.name; parts = a.blanks.events.parts }
