use Rattle.std.proofs.Common.{arith, rules}
use Rattle.ds_workers.proofs.EachLaws.{each_and_last, each_length}
use Rattle.ds_workers.proofs.pool.WorkerPool.+run_below.Goals as goal

pub returns-then-not-is_busy-clause-each : goal.returns-then-not-is_busy-clause-each
returns-then-not-is_busy-clause-each g t c =
    each_and_last g.K.Handling.handled c.args.clients.now.items c.pop.new.self.items c.run_below.new.clients.items
    c.push_reserved.new.self.items c.in-Some.client c.in-Some.client (search rules) c.run_below.ensures.each
    (search rules) c.push_reserved.ensures.items

pub push_reserved-requires-in-Ok : goal.push_reserved-requires-in-Ok
push_reserved-requires-in-Ok g t c =
    let many = each_length g.K.Handling.handled c.pop.new.self.items c.run_below-in-Ok.new.clients.items c.run_below-in-Ok.ensures.each in
    omega (
      arith,
      many,
      c.run_below-in-Ok.new.clients.ok.0,
      c.pop.new.self.ok.0,
      c.in-Some.ensures.cases,
      c.args.clients.now.ok.1,
      c.pop.ensures.capacity,
      c.run_below-in-Ok.ensures.capacity,
    )

pub push_reserved-requires-in-Err : goal.push_reserved-requires-in-Err
push_reserved-requires-in-Err g t c =
    let many = each_length g.K.Handling.handled c.pop.new.self.items c.run_below-in-Err.new.clients.items c.run_below-in-Err.ensures.each in
    omega (
      arith,
      many,
      c.run_below-in-Err.new.clients.ok.0,
      c.pop.new.self.ok.0,
      c.in-Some.ensures.cases,
      c.args.clients.now.ok.1,
      c.pop.ensures.capacity,
      c.run_below-in-Err.ensures.capacity,
    )

pub returns-in-Ok-clause-each : goal.returns-in-Ok-clause-each
returns-in-Ok-clause-each g t c =
    each_and_last g.K.Handling.handled c.args.clients.now.items c.pop.new.self.items c.run_below-in-Ok.new.clients.items
    c.push_reserved-in-Ok.new.self.items c.in-Some.client c.take_back.result (search rules) c.run_below-in-Ok.ensures.each
    (search rules) c.push_reserved-in-Ok.ensures.items

pub returns-in-Err-clause-each : goal.returns-in-Err-clause-each
returns-in-Err-clause-each g t c =
    each_and_last g.K.Handling.handled c.args.clients.now.items c.pop.new.self.items c.run_below-in-Err.new.clients.items
    c.push_reserved-in-Err.new.self.items c.in-Some.client c.handle_here.result (search rules) c.run_below-in-Err.ensures.each
    (search rules) c.push_reserved-in-Err.ensures.items
