use Rattle.acc_jobs.proofs.threads.share.Given as goal

abbrev pub ghosts-share_new-Regions-Ledger : goal.ghosts-share_new-Regions-Ledger
ghosts-share_new-Regions-Ledger g a = record { name = a.blanks.regions.name; parts = a.blanks.regions.parts }

abbrev pub ghosts-share_new-Regions-Limited : goal.ghosts-share_new-Regions-Limited
ghosts-share_new-Regions-Limited g a = record { limits = a.config }

abbrev pub ghosts-share_new-Tickets-Ledger : goal.ghosts-share_new-Tickets-Ledger
ghosts-share_new-Tickets-Ledger g a = record { name = a.blanks.tickets.name; parts = a.blanks.tickets.parts }

abbrev pub ghosts-share_new-Events-Ledger : goal.ghosts-share_new-Events-Ledger
ghosts-share_new-Events-Ledger g a = record { name = a.blanks.events.name; parts = a.blanks.events.parts }
