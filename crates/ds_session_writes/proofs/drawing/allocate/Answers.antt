use Rattle.std.proofs.Common.{◌++◌, ◌∙◌, refl, ap, arith, Some}
use Rattle.ds_model.specs.Groups.{with_transaction}
use Rattle.ds_reply.specs.declared.reply.Body.TheVariants as body
use Rattle.ds_reply.specs.Replies.{reply_text}
use Rattle.ds_session_state.proofs.GrowthLaws.{read_itself}
use Rattle.ds_session_writes.proofs.IdLaws.{allocate_exhausted, allocated, read_next}
use Rattle.ds_session_state.proofs.StateLaws.{later_from, told_from, within_parts, within_read}
use Rattle.ds_session_writes.proofs.drawing.allocate.Goals as goal

pub returns-then-not-make_room_for_numbers : goal.returns-then-not-make_room_for_numbers
returns-then-not-make_room_for_numbers g c =
    later_from _ _ _ _ _ _ c.state.view_is _ _ _ _ refl refl c.make_room_for_numbers.ensures.same (read_itself c.state.inside.pass)
    (c.say_no_memory.ensures.replied _ _)

pub say_next-requires-clause-within : goal.say_next-requires-clause-within
say_next-requires-clause-within g c =
    within_read _ _ c.issue.new.pass c.state.view_is c.requires.within
    (read_next c.state.inside.pass c.issue.new.pass c.in-Err.refused.next c.in-Err.ensures.exhausted.0)

pub tell_last-requires : goal.tell_last-requires
tell_last-requires g c =
    c.make_room_for_numbers.ensures.ids c.if-not-make_room_for_numbers.false c.in-Ok.first c.args.count (omega arith) c.ranges.count.fits

pub returns-in-Ok : goal.returns-in-Ok
returns-in-Ok g c =
    told_from _ _ _ _ _ _ c.state.view_is _ _ _ (body.AllocateIds c.in-Ok.first c.args.count) _
    (allocated g.J.Names.definitions c.args.store.now.shards (Some g.J.Names.window) c.args.state.now.client _ c.state.inside.pass
    c.issue.new.pass (within_parts _ _ c.state.view_is c.requires.within) c.in-Ok.first c.args.count c.in-Ok.ensures.drawn)
    (ap (λ s. with_transaction c.state.inside.transaction.transaction s) c.see_next.ensures) refl
    (c.tell_last.ensures.told ∙ ap (λ t. t ++ reply_text (record {
      client = c.state.inside.client;
      line = c.args.number;
      body = body.AllocateIds c.in-Ok.first c.args.count;
    })) c.make_room_for_numbers.ensures.same)
    c.tell_last.ensures.kept

pub returns-in-Err : goal.returns-in-Err
returns-in-Err g c =
    let within = within_parts _ _ c.state.view_is c.requires.within in
    later_from _ _ _ _ _ _ c.state.view_is _ _ _ _ refl refl c.make_room_for_numbers.ensures.same (read_itself c.state.inside.pass)
    (c.say_next.ensures c.state.inside.pass _ _ within
    (read_next c.state.inside.pass c.issue.new.pass c.in-Err.refused.next c.in-Err.ensures.exhausted.0)
    (allocate_exhausted g.J.Names.definitions c.args.store.now.shards (Some g.J.Names.window) c.args.state.now.client _ c.state.inside.pass
    c.issue.new.pass within c.args.count c.in-Err.refused.next c.in-Err.ensures.exhausted.0 c.in-Err.ensures.exhausted.1))
