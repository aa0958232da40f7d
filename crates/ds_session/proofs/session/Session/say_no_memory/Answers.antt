use Rattle.std.proofs.Common.{arith, ap, sym}
use Rattle.std.specs.Prelude.{Err}
use Rattle.ds_reply.specs.declared.reply.Body.TheVariants as body
use Rattle.ds_model.specs.Asked.{asked}
use Rattle.ds_session_state.specs.Sessions.{SessionParts}
use Rattle.ds_session.proofs.RoomLaws.{longest_no_memory}
use Rattle.ds_session.proofs.TellingLaws.{answered_from, within_after}
use Rattle.ds_session.proofs.session.Session.say_no_memory.Goals as goal

pub say_no_memory-requires-clause-room : goal.say_no_memory-requires-clause-room
say_no_memory-requires-clause-room g c =
    omega (
      arith,
      longest_no_memory c.self.inside.state.client c.args.number c.self.invariant.1 c.ranges.number.fits,
      c.self.invariant.2,
      c.requires.room,
      ap (λ (s : SessionParts). s.room) c.self.view_is,
    )

pub invariant_of-self : goal.invariant_of-self
invariant_of-self g c =
    within_after _ _ _ c.self.inside.state c.say_no_memory.new.self _ _ _ c.self.invariant.1
    (c.say_no_memory.ensures.replied (Err (0, body.NoMemory)) 0)

pub returns-clause-answered : goal.returns-clause-answered
returns-clause-answered g c = λ line shards numbered own.
    answered_from _ shards _ c.self.inside.state c.say_no_memory.new.self c.args.self.now _ _ c.self.view_is line c.args.number _
    (sym numbered) own (c.say_no_memory.ensures.replied (asked shards line.content) shards)
