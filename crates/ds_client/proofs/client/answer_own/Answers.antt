use Rattle.std.proofs.Common.{◌≡◌, Some, length, arith, rules}
use Rattle.std.proofs.lemmas.List.{nil_from_length}
use Rattle.ds_client.proofs.OwnLaws.{all_answered, begun_with, one_answered, ready_first, ready_later}
use Rattle.ds_client.proofs.client.answer_own.Goals as goal

pub loop-asked-init : goal.loop-asked-init
loop-asked-init g c =
    let begun = begun_with g.J.Names.definitions c.args.store.now.shards (Some g.J.Names.window) c.args.session.now c.args.own.items
    c.into_iter-asked-iterator.result.rest.items (search rules) c.requires.ready in
    record { ready = begun.0; so_far = begun.1 }

pub answer_asked-requires-clause-answerable : goal.answer_asked-requires-clause-answerable
answer_asked-requires-clause-answerable g c κs within =
    (ready_first c.args.store.now.shards c.loop-asked.session c.in-Some.asked c.loop-asked.asked-iterator.rest.items
    c.next.new.self.rest.items
    c.in-Some.ensures.steps.0 c.loop-asked.invariant.ready).0

pub answer_asked-requires-clause-own : goal.answer_asked-requires-clause-own
answer_asked-requires-clause-own g c κs within =
    (ready_first c.args.store.now.shards c.loop-asked.session c.in-Some.asked c.loop-asked.asked-iterator.rest.items
    c.next.new.self.rest.items
    c.in-Some.ensures.steps.0 c.loop-asked.invariant.ready).1

pub answer_asked-requires-clause-room : goal.answer_asked-requires-clause-room
answer_asked-requires-clause-room g c κs within =
    (ready_first c.args.store.now.shards c.loop-asked.session c.in-Some.asked c.loop-asked.asked-iterator.rest.items
    c.next.new.self.rest.items
    c.in-Some.ensures.steps.0 c.loop-asked.invariant.ready).2

pub loop-asked-preserved : goal.loop-asked-preserved
loop-asked-preserved g c =
    let rest = c.loop-asked.asked-iterator.rest.items in
    let more = c.next.new.self.rest.items in
    record {
      ready = ready_later c.args.store.now.shards c.loop-asked.session c.answer_asked.new.self c.in-Some.asked rest more
          c.in-Some.ensures.steps.0 c.answer_asked.ensures.client c.answer_asked.ensures.room c.loop-asked.invariant.ready;
      so_far = one_answered g.J.Names.definitions c.args.store.now.shards (Some g.J.Names.window) c.args.session.now c.loop-asked.session
          c.answer_asked.new.self c.args.own.items c.in-Some.asked rest more c.in-Some.ensures.steps.0 c.answer_asked.ensures.client
          c.answer_asked.ensures.counts c.answer_asked.ensures.answered c.loop-asked.invariant.so_far;
    }

pub returns : goal.returns
returns g c =
    let few : length c.loop-asked.asked-iterator.rest.items ≡ 0 =
    omega (arith, c.loop-asked.asked-iterator.rest.ok.0, c.in-None.ensures.steps.0) in
    all_answered g.J.Names.definitions c.args.store.now.shards (Some g.J.Names.window) c.args.session.now c.loop-asked.session
    c.args.own.items c.loop-asked.asked-iterator.rest.items (nil_from_length c.loop-asked.asked-iterator.rest.items few)
    c.loop-asked.invariant.so_far
