-- The ledger is that of the blank.
use Rattle.ds_client.proofs.client.Client.run.Given as goal

abbrev pub ghosts-answer_own : goal.ghosts-answer_own
ghosts-answer_own g a = record { name = a.blank.name; parts = a.blank.parts }
