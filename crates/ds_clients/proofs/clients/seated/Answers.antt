use Rattle.std.proofs.Common.{◌≡◌, ◌+◌, ◌∙◌, List, ap, arith, length, map, subst, sym}
use Rattle.std.proofs.lemmas.List.{length-replicate}
use Rattle.std.proofs.lemmas.List.Elements.{All-rest}
use Rattle.ds_protocol.specs.Watermarks.{nothing_seen as no_counts}
use Rattle.ds_model.specs.Sessions.{Session, first_session}
use Rattle.ds_client.specs.Sessions.{SessionParts}
use Rattle.ds_clients.proofs.SeatLaws.{SeatedSoFar, first_mark, front_none, last_none, last_pass, one_seated, passes_left, passes_new}
use Rattle.ds_clients.proofs.clients.seated.Goals as goal

pub first-session-requires-clause-seen : goal.first-session-requires-clause-seen
first-session-requires-clause-seen g c =
    first_mark c.args.shards c.in-Some.mark c.next.new.self.rest.items c.loop-mark.mark-iterator.rest.items c.in-Some.ensures.steps.0
    c.loop-mark.invariant.marks
    ∙ ap first_session (sym (last_pass c.args.shards c.loop-mark.passes.items c.take_last.new.self.items c.take_last.result
    c.take_last.ensures.items c.loop-mark.invariant.new).1)

pub new-requires : goal.new-requires
new-requires g c =
    let pass = last_pass c.args.shards c.loop-mark.passes.items c.take_last.new.self.items c.take_last.result c.take_last.ensures.items
    c.loop-mark.invariant.new in
    last_none c.args.shards c.loop-mark.missed.items c.take_last-none.new.self.items c.take_last-none.result
    c.take_last-none.ensures.items c.loop-mark.invariant.none
    ∙ ap no_counts (sym (ap (λ (s : Session). length s.counts) (c.first-session.ensures.seen ∙ ap first_session pass.1)
    ∙ length-replicate c.args.shards 0))

pub loop-mark-preserved : goal.loop-mark-preserved
loop-mark-preserved g c =
    let rest = c.loop-mark.mark-iterator.rest.items in
    let more = c.next.new.self.rest.items in
    let pass = last_pass c.args.shards c.loop-mark.passes.items c.take_last.new.self.items c.take_last.result c.take_last.ensures.items
    c.loop-mark.invariant.new in
    let fewer = ap (λ (ms : List Session). length ms) c.in-Some.ensures.steps.0 in
    record {
      seated = subst (λ xs. SeatedSoFar c.args.shards (c.loop-mark.client + 1) (map (λ x. x.session) xs))
          (sym c.push_reserved.ensures.items)
          (one_seated (λ x. x.session) c.args.shards c.loop-mark.client c.loop-mark.clients.items _ c.loop-mark.invariant.seated
          (ap (λ (s : SessionParts). s.seen) c.new.ensures.session ∙ c.first-session.ensures.seen ∙ ap first_session pass.1)
          (ap (λ (s : SessionParts). s.pass) c.new.ensures.session ∙ c.first-session.ensures.pass ∙ pass.0)
          (ap (λ (s : SessionParts). s.text) c.new.ensures.session ∙ c.first-session.ensures.text)
          (ap (λ (s : SessionParts). s.client) c.new.ensures.session ∙ c.first-session.ensures.client));
      many = c.push_reserved.ensures.len ∙ ap (λ n. n + 1) c.loop-mark.invariant.many;
      left = omega (arith, fewer, c.loop-mark.invariant.left);
      marks = All-rest (λ m. m ≡ first_session c.args.shards) c.in-Some.mark more rest c.in-Some.ensures.steps.0
          c.loop-mark.invariant.marks;
      room = omega (arith, c.push_reserved.ensures.capacity, c.loop-mark.invariant.room);
      taken = passes_left c.args.passes.now.items c.loop-mark.passes.items c.take_last.new.self.items c.take_last.result _
          c.loop-mark.client
          c.take_last.ensures.items (omega (arith, fewer, c.loop-mark.invariant.left, c.requires.many))
          (omega (arith, c.args.passes.now.ok.0))
          c.loop-mark.invariant.taken;
      new = passes_new c.args.shards c.loop-mark.passes.items c.take_last.new.self.items c.take_last.result c.take_last.ensures.items
          c.loop-mark.invariant.new;
      capacity = c.take_last.ensures.capacity ∙ c.loop-mark.invariant.capacity;
      none = front_none c.args.shards c.loop-mark.missed.items c.take_last-none.new.self.items c.take_last-none.result
          c.take_last-none.ensures.items c.loop-mark.invariant.none;
      enough = omega (arith, fewer, c.take_last-none.ensures.len, c.loop-mark.invariant.enough);
    }
