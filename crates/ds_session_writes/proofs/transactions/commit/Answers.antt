use Rattle.std.proofs.Common.{refl}
use Rattle.ds_request.specs.declared.call.Call.TheVariants as call
use Rattle.ds_session_state.proofs.GrowthLaws.{read_itself}
use Rattle.ds_session_state.proofs.StateLaws.{call_from, later_from, unrefused_parts, within_parts}
use Rattle.ds_session_writes.proofs.transactions.commit.Goals as goal

pub commit_draft-requires-clause-within : goal.commit_draft-requires-clause-within
commit_draft-requires-clause-within g c = within_parts _ _ c.state.view_is c.requires.within

pub commit_draft-requires-clause-unrefused : goal.commit_draft-requires-clause-unrefused
commit_draft-requires-clause-unrefused g c =
    unrefused_parts g.J.Names.definitions _ _ call.Commit c.state.view_is c.requires.unrefused

pub say_no_memory-requires-clause-within : goal.say_no_memory-requires-clause-within
say_no_memory-requires-clause-within g c = within_parts _ _ c.state.view_is c.requires.within

pub returns-in-Some : goal.returns-in-Some
returns-in-Some g c =
    call_from _ _ _ _ _ _ _ c.state.view_is _ _ _ refl refl c.prepared.ensures.same (read_itself _) c.commit_draft.ensures

pub returns-in-None : goal.returns-in-None
returns-in-None g c =
    later_from _ _ _ _ _ _ c.state.view_is _ _ _ _ refl refl c.prepared.ensures.same (read_itself _)
    (c.say_no_memory.ensures.replied _ _)
