-- The ledger is that of the blank.
use Rattle.ds_store_reads.proofs.searching.query_uncounted.Given as goal

abbrev pub ghosts-query_on : goal.ghosts-query_on
ghosts-query_on g a = record { name = a.blank.name; parts = a.blank.parts }
