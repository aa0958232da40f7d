use Rattle.std.proofs.Common.{length, subst}
use Rattle.ds_store_reads.specs.Found.{IsFound}
use Rattle.ds_model.specs.Sessions.{list_of}
use Rattle.ds_store_running.proofs.Gets.{got_in, expired_in, inside_one}
use Rattle.ds_store_running.proofs.store.Store.get_in.Goals as goal

pub look_up-requires-clause-shard : goal.look_up-requires-clause-shard
look_up-requires-clause-shard g c = c.in_ok-stand.ensures.stands.there

pub returns-in-There-clause-got : goal.returns-in-There-clause-got
returns-in-There-clause-got g c =
    let seen = c.stand.new.pass in
    let stand = c.in_ok-stand.stand in
    let shard = c.args.shard in
    let found = subst (IsFound (list_of seen.lists shard) stand.entries g.J.Names.window c.args.key.now) c.in-There.is
    c.in_ok-found.ensures.found in
    got_in c.args.self.now.shards shard c.args.pass.now seen c.look_up.new.pass c.args.key.now c.args.at stand.place stand.entries
    c.in-There.entity
    c.requires.shard c.look_up.ensures.same c.in_ok-stand.ensures.stands found

pub returns-in-Gone-clause-expired : goal.returns-in-Gone-clause-expired
returns-in-Gone-clause-expired g c =
    let seen = c.stand.new.pass in
    let stand = c.in_ok-stand.stand in
    let shard = c.args.shard in
    let gone = c.in-Gone.expired in
    let found = subst (IsFound (list_of seen.lists shard) stand.entries g.J.Names.window c.args.key.now) c.in-Gone.is
    c.in_ok-found.ensures.found in
    expired_in c.args.self.now.shards shard g.J.Names.window c.args.pass.now seen c.look_up.new.pass c.stand-in-Gone.new.self
    c.args.key.now c.args.at
    stand.place stand.entries gone.snapshot gone.applied gone.commit
    c.requires.shard c.look_up.ensures.same c.in_ok-stand.ensures.stands found.0 found.1 found.2 found.3
    (inside_one c.args.at stand.entries g.J.Names.window (length (list_of seen.lists shard)) c.self.invariant.4.0 c.in_ok-stand.ensures.all
    found.3) c.stand-in-Gone.ensures
