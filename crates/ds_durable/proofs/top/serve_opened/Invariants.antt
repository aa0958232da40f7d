use Rattle.ds_store_hubs.specs.Opening.{hubs_of}
use Rattle.ds_durable.proofs.top.serve_opened.Given as goal

-- the hubs and words that were just opened
abbrev pub ghosts-run_opened : goal.ghosts-run_opened
ghosts-run_opened g a = record {
  journal = a.origin.opened.journal;
  shards = hubs_of a.origin.opened;
  commits = a.origin.opened.commits;
  ids = a.origin.opened.ids;
  definitions = a.origin.opened.definitions;
  window = a.origin.opened.window;
  ledger = a.origin.opened.ledger;
}
