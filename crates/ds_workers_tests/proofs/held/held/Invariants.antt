use Rattle.ds_workers_tests.proofs.held.held.Given as goal

-- the history that was just begun
abbrev pub ghosts-meet_by : goal.ghosts-meet_by
ghosts-meet_by g a = record { history = a.history.history }
