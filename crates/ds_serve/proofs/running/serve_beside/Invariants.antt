-- The workers' history is the one that was made, and they know how many shards the store has.
use Rattle.ds_serve.proofs.running.serve_beside.Given as goal

abbrev pub ghosts-serve_with : goal.ghosts-serve_with
ghosts-serve_with g a = record { history = a.workers; shards = a.serving.now.shards }
