use Rattle.ds_input_tests.proofs.io.counts_steps.Given as goal

-- the ledger is the one that the blank becomes
abbrev pub ghosts-count_steps : goal.ghosts-count_steps
ghosts-count_steps a = record { name = a.blank.name; parts = a.blank.parts }
