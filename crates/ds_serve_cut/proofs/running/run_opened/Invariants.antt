use Rattle.ds_store_hubs.specs.Opening.{hubs_of}
use Rattle.ds_serve_cut.proofs.running.run_opened.Given as goal

-- the hubs and words that were just opened
abbrev pub ghosts-run_both : goal.ghosts-run_both
ghosts-run_both g a = record {
  journal = a.second.journal;
  shards = hubs_of a.second;
  commits = a.second.commits;
  ids = a.second.ids;
  definitions = a.second.definitions;
  window = a.second.window;
  ledger = a.second.ledger;
}
