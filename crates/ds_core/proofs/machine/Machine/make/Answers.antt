use Rattle.ds_core.proofs.Words.{rules}
use Rattle.ds_core.proofs.Legals.{made-so-far}
use Rattle.ds_core.proofs.machine.Machine.make.Goals as goal

pub returns : goal.returns
returns c =
    let made = made-so-far (record {
      state = c.in_ok-state.state;
      sessions = c.in_ok-sessions.sessions.items;
      opens = c.in_ok-opens.opens.items;
      requests = c.new.result;
      replies = c.new-2.result;
    }) c.args.defs c.args.shards c.in_ok-state.ensures.store c.in_ok-state.ensures.counts c.in_ok-sessions.ensures c.in_ok-opens.ensures
    c.new.ensures c.new-2.ensures c.requires.least c.requires.most in
    record { legal = made.0; definitions = search rules; shards = search rules; past = made.1; waiting = made.2 }
