use Rattle.ds_core.proofs.Words.{arith, looked-shown, parts}
use Rattle.ds_core.proofs.Gathers.{looked-legal}
use Rattle.ds_core.proofs.machine.Machine.due.Goals as goal

pub due_open-requires : goal.due_open-requires
due_open-requires c =
    let own = c.requires.legal.opens c.args.client c.requires.client in
    record { clients = omega arith; places = omega arith; seen = own.0; lawful = own.1 }

pub returns : goal.returns
returns c =
    let looked = looked-legal (parts c.args.self.now) c.due_open.new.state c.requires.legal c.due_open.ensures.store
    c.due_open.ensures.counts in
    record {
      legal = looked.0;
      same = looked.1;
      still = looked.2;
      shown = looked-shown c.args.self.now.state c.due_open.new.state c.due_open.ensures.store c.due_open.ensures.counts;
      due = c.due_open.ensures.due;
      was = c.due_open.ensures.due;
    }
