use Rattle.std.proofs.Common.{◌≡◌, refl, Some}
use Rattle.ds_log.specs.Ids.{first_unissued}
use Rattle.ds_log.specs.Logs.{key_of}
use Rattle.ds_session_state.specs.Replying.{write_call}
use Rattle.ds_session_writes.proofs.AloneLaws.{write_unissued}
use Rattle.ds_session_state.proofs.GrowthLaws.{read_itself}
use Rattle.ds_session_writes.proofs.InsideLaws.{called_from}
use Rattle.ds_session_state.proofs.StateLaws.{later_from, unrefused_parts, within_parts, within_read}
use Rattle.ds_session_writes.proofs.writes_inside.write_inside.Goals as goal

pub say_unissued-requires-clause-within : goal.say_unissued-requires-clause-within
say_unissued-requires-clause-within g c = within_read _ _ _ c.state.view_is c.requires.within c.unissued.ensures.read

pub returns-in-Some : goal.returns-in-Some
returns-in-Some g c =
    let within = within_parts _ _ c.state.view_is c.requires.within in
    let first : first_unissued c.unissued.new.pass.next (key_of c.args.write).elems ≡ Some c.in-Some.id = cc in
    let unrefused = unrefused_parts g.J.Names.definitions _ _ (write_call c.args.write) c.state.view_is c.requires.unrefused in
    later_from _ _ _ _ _ _ c.state.view_is _ _ _ _ refl refl refl (read_itself _)
    (c.say_unissued.ensures c.state.inside.pass _ _ within c.unissued.ensures.read
    (write_unissued _ _ _ _ _ _ _ within c.args.write c.in-Some.id unrefused first c.unissued.ensures.read))

pub take-requires-clause-within : goal.take-requires-clause-within
take-requires-clause-within g c = within_read _ _ _ c.state.view_is c.requires.within c.unissued.ensures.read

pub returns : goal.returns
returns g c = called_from _ _ _ _ _ _ c.state.view_is _ _ _ _ refl refl refl c.unissued.ensures.read c.take.ensures
