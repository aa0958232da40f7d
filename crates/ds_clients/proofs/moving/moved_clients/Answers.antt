use Rattle.std.proofs.Common.{◌∙◌, List, ap, arith, length, map, refl, subst, sym}
use Rattle.std.proofs.lemmas.List.{nil_from_length}
use Rattle.ds_clients.proofs.MovingLaws.{MovedSoFar, all_moved, next_lower, none_moved, one_moved}
use Rattle.ds_clients.proofs.RunLaws.{no_passes}
use Rattle.ds_clients.proofs.moving.moved_clients.Goals as goal

pub loop-client-init : goal.loop-client-init
loop-client-init g c =
    let all = map (λ x. x.session) c.args.clients.items in
    let passes = c.args.passes.now.items in
    let old = c.args.old.now.items in
    let rest = c.into_iter-client-iterator.ensures.into_iter_gives.0 in
    let many = ap (λ (xs : List _). length xs) rest in
    record {
      moved = subst (λ (xs : List _). MovedSoFar all passes passes old old (map (λ x. x.session) xs)
          (map (λ x. x.session) c.args.room.items))
          (sym rest)
          (subst (λ (xs : List _). MovedSoFar all passes passes old old all (map (λ x. x.session) xs)) (sym c.requires.room.0)
          (none_moved all passes old c.requires.no_lower c.requires.idle));
      many = omega (arith, many, c.requires.many, c.args.clients.ok.0);
      room = omega (
        arith,
        many,
        c.requires.room.1,
        c.args.clients.ok.0,
        ap (λ (xs : List _). length xs) c.requires.room.0,
        c.args.room.ok.0,
      );
      space = omega (arith, many, c.requires.space, c.args.clients.ok.0);
      capacity = refl;
      same_space = refl;
    }

pub moved-client-requires : goal.moved-client-requires
moved-client-requires g c =
    next_lower (λ x. x.session) c.in-Some.client c.loop-client.client-iterator.rest.items c.next.new.self.rest.items
    c.loop-client.passes.items c.take_last.new.self.items c.take_last.result c.in-Some.ensures.steps.0 c.take_last.ensures.items
    c.loop-client.invariant.moved.no_lower

pub loop-client-preserved : goal.loop-client-preserved
loop-client-preserved g c =
    let fewer = ap (λ (xs : List _). length xs) c.in-Some.ensures.steps.0 in
    let given = c.push_reserved-in-loop-client in
    record {
      moved = one_moved (λ x. x.session) (λ x. x.session) (map (λ x. x.session) c.args.clients.items) c.args.passes.now.items
          c.args.old.now.items c.loop-client.client-iterator.rest.items c.next.new.self.rest.items c.in-Some.client
          c.loop-client.passes.items c.take_last.new.self.items c.take_last.result c.loop-client.moved.items
          c.push_reserved.new.self.items _
          c.loop-client.old.items given.new.self.items _ c.in-Some.ensures.steps.0 c.take_last.ensures.items
          c.push_reserved.ensures.items c.moved-client.ensures.session given.ensures.items c.moved-client.ensures.old
          c.loop-client.invariant.moved;
      many = omega (arith, fewer, c.take_last.ensures.len, c.loop-client.invariant.many);
      room = omega (arith, fewer, c.push_reserved.ensures.len, c.push_reserved.ensures.capacity, c.loop-client.invariant.room);
      space = omega (arith, fewer, given.ensures.len, given.ensures.capacity, c.loop-client.invariant.space);
      capacity = c.take_last.ensures.capacity ∙ c.loop-client.invariant.capacity;
      same_space = given.ensures.capacity ∙ c.loop-client.invariant.same_space;
    }

pub returns-clause-moved : goal.returns-clause-moved
returns-clause-moved g c =
    let rest = c.loop-client.client-iterator.rest in
    all_moved (subst (λ (xs : List _). MovedSoFar (map (λ x. x.session) c.args.clients.items) c.args.passes.now.items
    c.loop-client.passes.items c.args.old.now.items c.loop-client.old.items (map (λ x. x.session) xs)
    (map (λ x. x.session) c.loop-client.moved.items))
    (nil_from_length rest.items (omega (arith, rest.ok.0, c.in-None.ensures.steps.0))) c.loop-client.invariant.moved)

pub returns-clause-old : goal.returns-clause-old
returns-clause-old g c =
    let rest = c.loop-client.client-iterator.rest in
    no_passes (λ x. x.session) _ _ rest.items (nil_from_length rest.items (omega (arith, rest.ok.0, c.in-None.ensures.steps.0)))
    c.loop-client.invariant.moved.given
