-- The ledger is that of the blank.
use Rattle.ds_engine.proofs.wide.lane_of.Given as goal

abbrev pub ghosts-scanned : goal.ghosts-scanned
ghosts-scanned g a = record { name = a.blank.name; parts = a.blank.parts }
