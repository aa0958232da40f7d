use Rattle.ds_store_hubs.specs.Opening.{hubs_of}
use Rattle.ds_serve.proofs.top.serve_input.Given as goal

-- the hubs and words that were just opened
abbrev pub ghosts-run_opened : goal.ghosts-run_opened
ghosts-run_opened g a = record {
  journal = a.opened.journal;
  shards = hubs_of a.opened;
  commits = a.opened.commits;
  ids = a.opened.ids;
  definitions = a.opened.definitions;
  window = a.opened.window;
  ledger = a.opened.ledger;
}
