-- The workers' history is the one that was made, and they know how many shards the store has.
use Rattle.ds_serve_cut.proofs.before.serve_before.Given as goal

abbrev pub ghosts-serve_with : goal.ghosts-serve_with
ghosts-serve_with g a = record { history = a.before.workers; shards = a.serving.now.shards }
