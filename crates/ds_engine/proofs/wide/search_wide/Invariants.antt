-- No steps are counted on the ledger whose type is shared, which has as many parts.
use Rattle.ds_engine.proofs.wide.search_wide.Given as goal

abbrev pub ghosts-rows_at_once : goal.ghosts-rows_at_once
ghosts-rows_at_once g a = record { name = 0; parts = g.L.Ledger.parts }
