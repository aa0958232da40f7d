use Rattle.ds_store_tests.proofs.calls.get_at.Given as goal

-- the ledger that the blank becomes
abbrev pub ghosts-counted : goal.ghosts-counted
ghosts-counted g a = record { name = a.blank.name; parts = a.blank.parts }
