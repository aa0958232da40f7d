use Rattle.std.proofs.Common.{refl, subst, sym}
use Rattle.ds_session_state.specs.Refusing.{IsRefusedWith}
use Rattle.ds_session_state.specs.Replying.{request_of}
use Rattle.ds_session.proofs.AnsweringLaws.{always_refused, no_steps, same_shard}
use Rattle.ds_session.proofs.answering.answer.Goals as goal

pub perform-requires-clause-shard : goal.perform-requires-clause-shard
perform-requires-clause-shard g c κs within =
    same_shard c.args.store.now.shards c.args.call c.in-Ok.operation c.in-Ok.ensures.ok c.requires.shard

pub returns-in-Err-clause-replied : goal.returns-in-Err-clause-replied
returns-in-Err-clause-replied g c =
    c.refuse.ensures (request_of c.args.state.now.client c.args.call) c.args.store.now.shards
    (subst (IsRefusedWith g.J.Names.definitions c.args.store.now.shards c.args.state.now.seen
    (request_of c.args.state.now.client c.args.call))
    (sym c.body.ensures)
    (always_refused g.J.Names.definitions c.args.store.now.shards c.args.state.now.client c.args.state.now.seen c.args.call c.in-Err.refused
    c.in-Err.ensures.refused))

pub returns-in-Err-clause-steps : goal.returns-in-Err-clause-steps
returns-in-Err-clause-steps g c =
    no_steps g.J.Names.definitions g.J.Names.window c.args.store.now.shards c.args.to.number c.args.state.now.client c.args.call
    c.args.state.now _ _ _ refl
