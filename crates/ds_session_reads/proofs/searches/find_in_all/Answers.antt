use Rattle.std.proofs.Common.{◌++◌, refl, ap, sym, ◌∙◌, subst}
use Rattle.std.specs.Prelude.{is_some}
use Rattle.ds_reply.specs.Replies.{reply_text}
use Rattle.ds_protocol.specs.Preparing.{IsReady}
use Rattle.ds_protocol.specs.Searches.{search_parts}
use Rattle.ds_output.specs.Looking.{tells_counts}
use Rattle.ds_session_state.specs.Sessions.{SessionParts}
use Rattle.ds_session_reads.specs.Steps.{shards_read}
use Rattle.ds_session_reads.proofs.FoundLaws.{ancestor_is, counted_said, counts_told, found_steps_from, plans_under}
use Rattle.ds_session_reads.proofs.FoundLaws.{goes_in, refused_in_all, unless_wide}
use Rattle.ds_session_state.proofs.StateLaws.{later_from, none_from, told_from, within_parts, within_read}
use Rattle.ds_session_reads.proofs.searches.find_in_all.Goals as goal

pub query-asked-requires-clause-wide : goal.query-asked-requires-clause-wide
query-asked-requires-clause-wide g c κs within = λ is.
    goes_in c.args.prepared.now.ready.window c.args.store.now.shards c.shards.result c.state.inside.pass c.shards.ensures.value
    (c.goes_wide-wide.ensures.0 is)

pub query-asked-requires-clause-everywhere : goal.query-asked-requires-clause-everywhere
query-asked-requires-clause-everywhere g c κs within =
    ancestor_is c.args.prepared.now.search c.args.prepared.now.ready.normal c.requires.ready.normal_is c.requires.lawful ∙
    c.requires.everywhere

pub query-asked-requires-clause-planned : goal.query-asked-requires-clause-planned
query-asked-requires-clause-planned g c κs within = record {
  lawful = c.requires.lawful;
  placeless = c.requires.placeless;
  plans = plans_under g.J.Names.definitions c.args.prepared.now.defs.now _ _ _ c.requires.definitions c.as_slice.ensures.value
      c.requires.planned;
}

pub say_no_memory-requires-clause-within : goal.say_no_memory-requires-clause-within
say_no_memory-requires-clause-within g c = within_read _ _ _ c.state.view_is c.requires.within c.in_default.ensures.read

pub returns-in_default-clause-replied : goal.returns-in_default-clause-replied
returns-in_default-clause-replied g c = λ call is.
    later_from _ _ _ _ _ _ c.state.view_is _ _ _ _ refl refl refl c.in_default.ensures.read (c.say_no_memory.ensures.replied _ _)

pub returns-in_default-clause-steps : goal.returns-in_default-clause-steps
returns-in_default-clause-steps g c = λ call is.
    unless_wide g.J.Names.definitions c.args.store.now.shards g.J.Names.window c.args.to.number
    (record { client = c.args.state.now.client; call = call }) c.args.prepared.now.search is c.args.state.now.seen
    c.args.prepared.now.ready.normal c.args.prepared.now.ready.window c.requires.ready c.requires.lawful _ _ _ _ c.state.inside.pass
    c.goes_wide-wide.result (ap (λ (s : SessionParts). s.pass) c.state.view_is) c.requires.everywhere
    (λ is_wide. goes_in c.args.prepared.now.ready.window c.args.store.now.shards c.shards.result c.state.inside.pass c.shards.ensures.value
    (c.goes_wide-wide.ensures.0 is_wide)) (λ bounded.
    refused_in_all g.J.Names.definitions c.args.store.now.shards g.J.Names.window c.args.to.number
    (record { client = c.args.state.now.client; call = call }) c.args.prepared.now.search is c.args.state.now.seen
    c.args.prepared.now.ready.normal
    c.args.prepared.now.ready.window c.requires.ready c.requires.lawful _ _ _ c.state.view_is _ _ c.query-asked.new.pass
    c.requires.everywhere c.say_no_memory.ensures.pass
    c.say_no_memory.ensures.text (c.query-asked.ensures.steps_in_all bounded))

pub counted_body-requires : goal.counted_body-requires
counted_body-requires g c = ap tells_counts c.in-Ok.ensures.counted.counted.counts

pub say_no_memory-requires-in_default-counted_body-clause-within : goal.say_no_memory-requires-in_default-counted_body-clause-within
say_no_memory-requires-in_default-counted_body-clause-within g c =
    within_read _ _ _ c.state.view_is c.requires.within c.in-Ok.ensures.counted.read

pub returns-in_default-counted_body-clause-replied : goal.returns-in_default-counted_body-clause-replied
returns-in_default-counted_body-clause-replied g c = λ call is.
    later_from _ _ _ _ _ _ c.state.view_is _ _ _ _ refl refl refl c.in-Ok.ensures.counted.read
    (c.say_no_memory-in_default-counted_body.ensures.replied _ _)

pub returns-in_default-counted_body-clause-steps : goal.returns-in_default-counted_body-clause-steps
returns-in_default-counted_body-clause-steps g c = λ call is.
    unless_wide g.J.Names.definitions c.args.store.now.shards g.J.Names.window c.args.to.number
    (record { client = c.args.state.now.client; call = call }) c.args.prepared.now.search is c.args.state.now.seen
    c.args.prepared.now.ready.normal c.args.prepared.now.ready.window c.requires.ready c.requires.lawful _ _ _ _ c.state.inside.pass
    c.goes_wide-wide.result (ap (λ (s : SessionParts). s.pass) c.state.view_is) c.requires.everywhere
    (λ is_wide. goes_in c.args.prepared.now.ready.window c.args.store.now.shards c.shards.result c.state.inside.pass c.shards.ensures.value
    (c.goes_wide-wide.ensures.0 is_wide)) (λ bounded.
    refused_in_all g.J.Names.definitions c.args.store.now.shards g.J.Names.window c.args.to.number
    (record { client = c.args.state.now.client; call = call }) c.args.prepared.now.search is c.args.state.now.seen
    c.args.prepared.now.ready.normal
    c.args.prepared.now.ready.window c.requires.ready c.requires.lawful _ _ _ c.state.view_is _ _ c.query-asked.new.pass
    c.requires.everywhere c.say_no_memory-in_default-counted_body.ensures.pass
    c.say_no_memory-in_default-counted_body.ensures.text (c.query-asked.ensures.steps_in_all bounded))

pub returns-then-not-tell-clause-steps : goal.returns-then-not-tell-clause-steps
returns-then-not-tell-clause-steps g c = λ call is.
    unless_wide g.J.Names.definitions c.args.store.now.shards g.J.Names.window c.args.to.number
    (record { client = c.args.state.now.client; call = call }) c.args.prepared.now.search is c.args.state.now.seen
    c.args.prepared.now.ready.normal c.args.prepared.now.ready.window c.requires.ready c.requires.lawful _ _ _ _ c.state.inside.pass
    c.goes_wide-wide.result (ap (λ (s : SessionParts). s.pass) c.state.view_is) c.requires.everywhere
    (λ is_wide. goes_in c.args.prepared.now.ready.window c.args.store.now.shards c.shards.result c.state.inside.pass c.shards.ensures.value
    (c.goes_wide-wide.ensures.0 is_wide)) (λ bounded.
    refused_in_all g.J.Names.definitions c.args.store.now.shards g.J.Names.window c.args.to.number
    (record { client = c.args.state.now.client; call = call }) c.args.prepared.now.search is c.args.state.now.seen
    c.args.prepared.now.ready.normal
    c.args.prepared.now.ready.window c.requires.ready c.requires.lawful _ _ _ c.state.view_is _ _ c.query-asked.new.pass
    c.requires.everywhere refl
    (c.tell.ensures.untold c.if-not-tell.true) (c.query-asked.ensures.steps_in_all bounded))

pub returns-then-not-tell-clause-replied : goal.returns-then-not-tell-clause-replied
returns-then-not-tell-clause-replied g c = λ call is.
    none_from _ _ _ _ _ _ c.state.view_is _ _ _ c.requires.within refl refl c.in-Ok.ensures.counted.read
    (c.tell.ensures.untold c.if-not-tell.true) c.tell.ensures.kept

pub returns-clause-replied : goal.returns-clause-replied
returns-clause-replied g c = λ call is.
    let answer = c.in-Ok.answer in
    let counts = c.in-Ok-counted_body.counted.counts in
    let ready = subst (λ (v : SessionParts). IsReady g.J.Names.definitions (is_some v.seen.transaction)
    (search_parts c.args.prepared.now.search)
    c.args.prepared.now.ready.normal c.args.prepared.now.ready.window) (sym c.state.view_is) c.requires.ready in
    told_from _ _ _ _ _ _ c.state.view_is _ _ _ _ _
    (counted_said g.J.Names.definitions c.args.store.now.shards g.J.Names.window c.args.to.number
    (record { client = c.args.state.now.client; call = call }) c.args.prepared.now.search is _ c.args.prepared.now.ready.normal
    c.args.prepared.now.ready.window ready
    c.requires.lawful c.state.inside.pass c.query-asked.new.pass answer.results answer.next answer.seen answer.beside counts
    (within_parts _ _ c.state.view_is c.requires.within) c.requires.everywhere c.in-Ok.ensures.counted c.in-Ok-counted_body.ensures.counts
    c.in-Ok.ensures.found)
    (counts_told c.state.inside.pass c.query-asked.new.pass answer.seen answer.beside c.in-Ok-counted_body.counted.commit counts
    c.as_slice-2.result.now c.state.inside.transaction.transaction c.state.inside.seen c.see_counts.new.self c.in-Ok.ensures.counted
    c.in-Ok-counted_body.ensures.counts c.in-Ok-counted_body.ensures.commit c.as_slice-2.ensures c.see_counts.ensures.saw)
    refl
    (c.tell.ensures.told c.if-not-tell.false ∙ ap (λ b. c.state.inside.text.bytes ++ reply_text (record {
      client = c.state.inside.client;
      line = c.args.to.number;
      body = b;
    })) c.in-Ok-counted_body.ensures.body) c.tell.ensures.kept

pub returns-clause-steps : goal.returns-clause-steps
returns-clause-steps g c = λ call is.
    let answer = c.in-Ok.answer in
    unless_wide g.J.Names.definitions c.args.store.now.shards g.J.Names.window c.args.to.number
    (record { client = c.args.state.now.client; call = call }) c.args.prepared.now.search is c.args.state.now.seen
    c.args.prepared.now.ready.normal c.args.prepared.now.ready.window c.requires.ready c.requires.lawful _ _ _ _ c.state.inside.pass
    c.goes_wide-wide.result (ap (λ (s : SessionParts). s.pass) c.state.view_is) c.requires.everywhere
    (λ is_wide. goes_in c.args.prepared.now.ready.window c.args.store.now.shards c.shards.result c.state.inside.pass c.shards.ensures.value
    (c.goes_wide-wide.ensures.0 is_wide)) (λ bounded.
    found_steps_from g.J.Names.definitions c.args.store.now.shards g.J.Names.window c.args.to.number
    (record { client = c.args.state.now.client; call = call }) c.args.prepared.now.search is c.args.state.now.seen
    c.args.prepared.now.ready.normal
    c.args.prepared.now.ready.window c.requires.ready c.requires.lawful _ _ _ c.state.view_is _ _ answer.results answer.seen _ _
    (ap (λ o. shards_read g.J.Names.definitions g.J.Names.window c.args.store.now.shards c.query-asked.new.pass o answer.seen)
    c.requires.everywhere)
    (c.tell.ensures.told c.if-not-tell.false ∙ ap (λ b. c.state.inside.text.bytes ++ reply_text (record {
      client = c.state.inside.client;
      line = c.args.to.number;
      body = b;
    })) c.in-Ok-counted_body.ensures.body) (c.in-Ok.ensures.steps_bounded bounded))
