use Rattle.std.proofs.Common.{◌≡◌, refl, Some}
use Rattle.std.specs.Prelude.{true}
use Rattle.ds_log.specs.Ids.{first_unissued}
use Rattle.ds_request.specs.declared.call.Call.TheVariants as call
use Rattle.ds_session_state.proofs.GrowthLaws.{read_itself}
use Rattle.ds_session_writes.proofs.IdLaws.{put_unissued}
use Rattle.ds_session_writes.proofs.InsideLaws.{called_from}
use Rattle.ds_session_state.proofs.StateLaws.{later_from, unrefused_parts, within_parts, within_read}
use Rattle.ds_session_writes.proofs.writes_inside.put_new_inside.Goals as goal

pub say_unissued-requires-clause-within : goal.say_unissued-requires-clause-within
say_unissued-requires-clause-within g c = within_read _ _ _ c.state.view_is c.requires.within c.unissued.ensures.read

pub returns-in-Some : goal.returns-in-Some
returns-in-Some g c =
    let entity = c.args.entity in
    let within = within_parts _ _ c.state.view_is c.requires.within in
    let first : first_unissued c.unissued.new.pass.next entity.key.elems ≡ Some c.in-Some.id = cc in
    let unrefused = unrefused_parts g.J.Names.definitions _ _ (call.Put entity.key true entity.properties) c.state.view_is
    c.requires.unrefused in
    later_from _ _ _ _ _ _ c.state.view_is _ _ _ _ refl refl refl (read_itself _)
    (c.say_unissued.ensures c.state.inside.pass _ _ within c.unissued.ensures.read
    (put_unissued _ _ _ _ _ _ _ within entity.key true entity.properties c.in-Some.id unrefused first c.unissued.ensures.read))

pub take_new-requires-clause-within : goal.take_new-requires-clause-within
take_new-requires-clause-within g c = within_read _ _ _ c.state.view_is c.requires.within c.unissued.ensures.read

pub returns : goal.returns
returns g c = called_from _ _ _ _ _ _ c.state.view_is _ _ _ _ refl refl refl c.unissued.ensures.read c.take_new.ensures
