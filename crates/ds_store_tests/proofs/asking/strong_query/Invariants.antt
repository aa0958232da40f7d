use Rattle.ds_store_tests.proofs.asking.strong_query.Given as goal

-- the ledger that the blank becomes
abbrev pub ghosts-counted_strongly : goal.ghosts-counted_strongly
ghosts-counted_strongly g a = record { name = a.blank.name; parts = a.blank.parts }
