use Rattle.std.proofs.Common.{◌≡◌, ℕ, ◌+◌, ◌≤◌, Option, [], ◌∷◌, ◌++◌, refl, ap, sym, ◌∙◌, subst, Some, None}
use Rattle.std.specs.Prelude.{is_some}
use Rattle.ds_base.specs.Keys.{root_of}
use Rattle.ds_log.specs.Shards.{shard_of}
use Rattle.ds_reply.specs.Replies.{reply_text}
use Rattle.ds_model.specs.Groups.{group_refusal, with_transaction}
use Rattle.ds_model.specs.Sessions.{Transaction, list_of, saw_entries}
use Rattle.ds_protocol.specs.Preparing.{IsReady}
use Rattle.ds_protocol.specs.Searches.{search_parts}
use Rattle.ds_engine.specs.Searches.{most_of, search_bound}
use Rattle.ds_engine.specs.Snapshots.{snapshot_of}
use Rattle.ds_store.specs.Answered.{IsExpired, WhereExpired}
use Rattle.ds_output.specs.Looking.{tells_place}
use Rattle.ds_session_state.specs.Sessions.{SessionParts}
use Rattle.ds_session_reads.proofs.FoundLaws.{ancestor_is, ancestor_under, found_steps_from, gone_steps_from, gone_told, group_said}
use Rattle.ds_session_reads.proofs.FoundLaws.{group_shards, plans_under, read_seen, refused_there}
use Rattle.ds_session_state.proofs.GrowthLaws.{read_itself, read_through}
use Rattle.ds_session_state.proofs.SayingLaws.{said_after}
use Rattle.ds_session_state.proofs.StandingLaws.{asked_at, expired_commit, within_same}
use Rattle.ds_session_state.proofs.StateLaws.{later_from, none_from, told_from, within_parts}
use Rattle.ds_session_reads.proofs.searches.find_there.Goals as goal

pub strong_query_planned-asked-requires-clause-shard : goal.strong_query_planned-asked-requires-clause-shard
strong_query_planned-asked-requires-clause-shard g c = λ ancestor is.
    let of = ancestor_under c.args.prepared.now.search.query.ancestor c.args.home.group c.requires.under in
    let under = ancestor_is c.args.prepared.now.search c.args.prepared.now.ready.normal c.requires.ready.normal_is c.requires.lawful ∙
    of.1 in
    let same : of.0 ≡ ancestor = cc (under, is) in
    c.requires.shard ∙ ap (λ k. shard_of k c.args.store.now.shards) (of.2 ∙ ap root_of same)

pub place_body-requires : goal.place_body-requires
place_body-requires g c =
    let of = ancestor_under c.args.prepared.now.search.query.ancestor c.args.home.group c.requires.under in
    let under = ancestor_is c.args.prepared.now.search c.args.prepared.now.ready.normal c.requires.ready.normal_is c.requires.lawful ∙
    of.1 in
    ap tells_place (c.in-Ok.ensures.found of.0 under).told

pub strong_query_planned-asked-requires-clause-planned : goal.strong_query_planned-asked-requires-clause-planned
strong_query_planned-asked-requires-clause-planned g c = record {
  lawful = c.requires.lawful;
  placeless = c.requires.placeless;
  plans = plans_under g.J.Names.definitions c.args.prepared.now.defs.now _ _ _ c.requires.definitions c.as_slice.ensures.value
      c.requires.planned;
}

pub say_no_memory-requires-in_default-clause-within : goal.say_no_memory-requires-in_default-clause-within
say_no_memory-requires-in_default-clause-within g c =
    let of = ancestor_under c.args.prepared.now.search.query.ancestor c.args.home.group c.requires.under in
    let under = ancestor_is c.args.prepared.now.search c.args.prepared.now.ready.normal c.requires.ready.normal_is c.requires.lawful ∙
    of.1 in
    let h = read_through c.state.inside.pass c.touch_place-at.new.pass c.strong_query_planned-asked.new.pass c.touch_place-at.ensures.read
    (c.in-Ok.ensures.found of.0 under).read.read in
    within_same c.state.inside.transaction.transaction c.make_room.new.self.transaction c.state.inside.seen c.state.inside.pass
    c.strong_query_planned-asked.new.pass c.make_room.ensures.same h (within_parts _ _ c.state.view_is c.requires.within)

pub returns-in_default-clause-replied : goal.returns-in_default-clause-replied
returns-in_default-clause-replied g c = λ call is.
    let of = ancestor_under c.args.prepared.now.search.query.ancestor c.args.home.group c.requires.under in
    let under = ancestor_is c.args.prepared.now.search c.args.prepared.now.ready.normal c.requires.ready.normal_is c.requires.lawful ∙
    of.1 in
    let h = read_through c.state.inside.pass c.touch_place-at.new.pass c.strong_query_planned-asked.new.pass c.touch_place-at.ensures.read
    (c.in-Ok.ensures.found of.0 under).read.read in
    later_from _ _ _ _ _ _ c.state.view_is _ _ _ _ refl
    (ap (λ o. with_transaction o c.state.inside.seen) c.make_room.ensures.same) refl h
    (c.say_no_memory-in_default.ensures.replied _ _)

pub returns-in_default-clause-steps : goal.returns-in_default-clause-steps
returns-in_default-clause-steps g c = λ call is.
    let of = ancestor_under c.args.prepared.now.search.query.ancestor c.args.home.group c.requires.under in
    let under = ancestor_is c.args.prepared.now.search c.args.prepared.now.ready.normal c.requires.ready.normal_is c.requires.lawful ∙
    of.1 in
    refused_there g.J.Names.definitions c.args.store.now.shards g.J.Names.window c.args.to.number
    (record { client = c.args.state.now.client; call = call }) c.args.prepared.now.search is c.args.state.now.seen
    c.args.prepared.now.ready.normal c.args.prepared.now.ready.window c.requires.ready c.requires.lawful _ _ _ c.state.view_is _ _
    c.strong_query_planned-asked.new.pass of.0 of.1 c.say_no_memory-in_default.ensures.pass
    c.say_no_memory-in_default.ensures.text (c.strong_query_planned-asked.ensures.steps_in_all of.0 under)

pub returns-then-not-tell-clause-steps : goal.returns-then-not-tell-clause-steps
returns-then-not-tell-clause-steps g c = λ call is.
    let of = ancestor_under c.args.prepared.now.search.query.ancestor c.args.home.group c.requires.under in
    let under = ancestor_is c.args.prepared.now.search c.args.prepared.now.ready.normal c.requires.ready.normal_is c.requires.lawful ∙
    of.1 in
    refused_there g.J.Names.definitions c.args.store.now.shards g.J.Names.window c.args.to.number
    (record { client = c.args.state.now.client; call = call }) c.args.prepared.now.search is c.args.state.now.seen
    c.args.prepared.now.ready.normal c.args.prepared.now.ready.window c.requires.ready c.requires.lawful _ _ _ c.state.view_is _ _
    c.strong_query_planned-asked.new.pass of.0 of.1 refl
    (c.tell.ensures.untold c.if-not-tell.true) (c.strong_query_planned-asked.ensures.steps_in_all of.0 under)

pub returns-in-NoMemory-clause-steps : goal.returns-in-NoMemory-clause-steps
returns-in-NoMemory-clause-steps g c = λ call is.
    let of = ancestor_under c.args.prepared.now.search.query.ancestor c.args.home.group c.requires.under in
    let under = ancestor_is c.args.prepared.now.search c.args.prepared.now.ready.normal c.requires.ready.normal_is c.requires.lawful ∙
    of.1 in
    refused_there g.J.Names.definitions c.args.store.now.shards g.J.Names.window c.args.to.number
    (record { client = c.args.state.now.client; call = call }) c.args.prepared.now.search is c.args.state.now.seen
    c.args.prepared.now.ready.normal c.args.prepared.now.ready.window c.requires.ready c.requires.lawful _ _ _ c.state.view_is _ _
    c.strong_query_planned-asked.new.pass of.0 of.1 c.say_no_memory-in-NoMemory.ensures.pass
    c.say_no_memory-in-NoMemory.ensures.text (c.strong_query_planned-asked.ensures.steps_in_all of.0 under)

pub returns-then-not-tell-clause-replied : goal.returns-then-not-tell-clause-replied
returns-then-not-tell-clause-replied g c = λ call is.
    let of = ancestor_under c.args.prepared.now.search.query.ancestor c.args.home.group c.requires.under in
    let under = ancestor_is c.args.prepared.now.search c.args.prepared.now.ready.normal c.requires.ready.normal_is c.requires.lawful ∙
    of.1 in
    let h = read_through c.state.inside.pass c.touch_place-at.new.pass c.strong_query_planned-asked.new.pass c.touch_place-at.ensures.read
    (c.in-Ok.ensures.found of.0 under).read.read in
    none_from _ _ _ _ _ _ c.state.view_is _ _ _ c.requires.within refl
    (ap (λ o. with_transaction o c.state.inside.seen) c.make_room.ensures.same) h
    (c.tell.ensures.untold c.if-not-tell.true) c.tell.ensures.kept

pub returns-else-not-tell-clause-replied : goal.returns-else-not-tell-clause-replied
returns-else-not-tell-clause-replied g c = λ call is.
    let n = c.args.prepared.now.ready.normal in
    let of = ancestor_under c.args.prepared.now.search.query.ancestor c.args.home.group c.requires.under in
    let ancestor = of.0 in
    let search = c.args.prepared.now.search in
    let under = ancestor_is search n c.requires.ready.normal_is c.requires.lawful ∙ of.1 in
    let found = c.in-Ok.ensures.found ancestor under in
    let had = c.state.inside.transaction.transaction in
    let p = c.touch_place-at.new.pass in
    let q = c.strong_query_planned-asked.new.pass in
    let within = within_parts _ _ c.state.view_is c.requires.within in
    let ready = subst (λ (v : SessionParts). IsReady g.J.Names.definitions (is_some v.seen.transaction) (search_parts search) n
    c.args.prepared.now.ready.window) (sym c.state.view_is) c.requires.ready in
    let allowed = subst (λ k. group_refusal had (Some k) ≡ None) of.2
    (subst (λ (v : SessionParts). group_refusal v.seen.transaction (Some c.args.home.group) ≡ None) (sym c.state.view_is)
    c.requires.allowed) in
    let asked = asked_at had c.make_room.new.self.transaction c.state.inside.seen c.state.inside.pass p c.touch_place-at.result
    c.args.home.group
    (root_of ancestor) c.make_room.ensures.same of.2 within c.touch_place-at.ensures.stands in
    let numbered = c.requires.shard ∙ ap (λ k. shard_of k c.args.store.now.shards) of.2 in
    let later = within_same had had c.state.inside.seen c.state.inside.pass p refl c.touch_place-at.ensures.read within in
    told_from _ _ _ _ _ _ c.state.view_is _ _ _ _ _
    (said_after g.J.Names.definitions c.args.store.now.shards _ c.state.inside.pass p q _ _ _ _ c.touch_place-at.ensures.read
    (group_said g.J.Names.definitions c.args.store.now.shards g.J.Names.window c.args.to.number
    (record { client = c.args.state.now.client; call = call }) search is (with_transaction had c.state.inside.seen) n
    c.args.prepared.now.ready.window
    ready c.requires.lawful p q ancestor c.touch_place-at.result later of.1 allowed asked c.in-Ok.answer.results
    c.in-Ok.answer.next c.in-Ok.answer.seen c.in-Ok.answer.beside c.in-Ok-place_body.read.place
    c.in-Ok-place_body.ensures.place found))
    (read_seen c.args.store.now.shards c.args.home.group (root_of ancestor) c.in-Ok-place_body.read.place c.args.home.shard
    c.in-Ok.answer.beside c.state.inside.seen c.see_place.new.self c.see_entries.new.self had c.make_room.new.self.transaction
    c.touch.new.self.transaction of.2 c.make_room.ensures.same numbered c.touch.ensures c.see_place.ensures
    (c.see_entries.ensures ∙ ap (λ k. saw_entries c.args.home.shard k c.see_place.new.self) c.in-Ok-place_body.ensures.entries))
    refl
    (c.tell.ensures.told c.if-not-tell.false ∙ ap (λ b. c.state.inside.text.bytes ++ reply_text (record {
      client = c.state.inside.client;
      line = c.args.to.number;
      body = b;
    })) c.in-Ok-place_body.ensures.body) c.tell.ensures.kept

pub returns-else-not-tell-clause-steps : goal.returns-else-not-tell-clause-steps
returns-else-not-tell-clause-steps g c = λ call is.
    let n = c.args.prepared.now.ready.normal in
    let of = ancestor_under c.args.prepared.now.search.query.ancestor c.args.home.group c.requires.under in
    let ancestor = of.0 in
    let search = c.args.prepared.now.search in
    let under = ancestor_is search n c.requires.ready.normal_is c.requires.lawful ∙ of.1 in
    let found = c.in-Ok.ensures.found ancestor under in
    let answer = c.in-Ok.answer in
    found_steps_from g.J.Names.definitions c.args.store.now.shards g.J.Names.window c.args.to.number
    (record { client = c.args.state.now.client; call = call }) search is c.args.state.now.seen n c.args.prepared.now.ready.window
    c.requires.ready
    c.requires.lawful _ _ _ c.state.view_is _ _ answer.results answer.seen _ _
    (group_shards g.J.Names.definitions g.J.Names.window c.args.store.now.shards c.touch_place-at.new.pass
    c.strong_query_planned-asked.new.pass search.query.ancestor ancestor c.touch_place-at.result n c.args.prepared.now.ready.window
    answer.results
    answer.next answer.seen answer.beside of.1 found)
    (c.tell.ensures.told c.if-not-tell.false ∙ ap (λ b. c.state.inside.text.bytes ++ reply_text (record {
      client = c.state.inside.client;
      line = c.args.to.number;
      body = b;
    })) c.in-Ok-place_body.ensures.body) (c.in-Ok.ensures.steps_bounded ancestor under)

pub expire-requires-clause-inside : goal.expire-requires-clause-inside
expire-requires-clause-inside g c =
    let of = ancestor_under c.args.prepared.now.search.query.ancestor c.args.home.group c.requires.under in
    let ancestor = of.0 in
    let under = ancestor_is c.args.prepared.now.search c.args.prepared.now.ready.normal c.requires.ready.normal_is c.requires.lawful ∙
    of.1 in
    let gone = subst (λ e. WhereExpired (λ x. IsExpired c.args.store.now.shards g.J.Names.window c.touch_place-at.new.pass
    c.strong_query_planned-asked.new.pass (root_of ancestor) c.touch_place-at.result x.snapshot x.applied x.commit) e)
    c.in-Expired.is (c.in-Err.ensures.expired ancestor under) in
    ap (λ (o : Option ℕ). is_some o) gone.inside

pub expire-requires-clause-within : goal.expire-requires-clause-within
expire-requires-clause-within g c =
    let h = read_through c.state.inside.pass c.touch_place-at.new.pass c.strong_query_planned-asked.new.pass c.touch_place-at.ensures.read
    c.in-Err.ensures.read in
    within_same c.state.inside.transaction.transaction c.make_room.new.self.transaction c.state.inside.seen c.state.inside.pass
    c.strong_query_planned-asked.new.pass c.make_room.ensures.same h (within_parts _ _ c.state.view_is c.requires.within)

pub say_no_memory-requires-in-NoMemory-clause-within : goal.say_no_memory-requires-in-NoMemory-clause-within
say_no_memory-requires-in-NoMemory-clause-within g c =
    let h = read_through c.state.inside.pass c.touch_place-at.new.pass c.strong_query_planned-asked.new.pass c.touch_place-at.ensures.read
    c.in-Err.ensures.read in
    within_same c.state.inside.transaction.transaction c.make_room.new.self.transaction c.state.inside.seen c.state.inside.pass
    c.strong_query_planned-asked.new.pass c.make_room.ensures.same h (within_parts _ _ c.state.view_is c.requires.within)

pub returns-in-NoMemory-clause-replied : goal.returns-in-NoMemory-clause-replied
returns-in-NoMemory-clause-replied g c = λ call is.
    let h = read_through c.state.inside.pass c.touch_place-at.new.pass c.strong_query_planned-asked.new.pass c.touch_place-at.ensures.read
    c.in-Err.ensures.read in
    later_from _ _ _ _ _ _ c.state.view_is _ _ _ _ refl
    (ap (λ o. with_transaction o c.state.inside.seen) c.make_room.ensures.same) refl h
    (c.say_no_memory-in-NoMemory.ensures.replied _ _)

pub returns-in-Expired-clause-replied : goal.returns-in-Expired-clause-replied
returns-in-Expired-clause-replied g c = λ call is.
    let n = c.args.prepared.now.ready.normal in
    let of = ancestor_under c.args.prepared.now.search.query.ancestor c.args.home.group c.requires.under in
    let ancestor = of.0 in
    let search = c.args.prepared.now.search in
    let shards = c.args.store.now.shards in
    let under = ancestor_is search n c.requires.ready.normal_is c.requires.lawful ∙ of.1 in
    let had = c.state.inside.transaction.transaction in
    let has = c.make_room.new.self.transaction in
    let p = c.touch_place-at.new.pass in
    let q = c.strong_query_planned-asked.new.pass in
    let at = c.touch_place-at.result in
    let expired = c.in-Expired.expired in
    let within = within_parts _ _ c.state.view_is c.requires.within in
    let ready = subst (λ (v : SessionParts). IsReady g.J.Names.definitions (is_some v.seen.transaction) (search_parts search) n
    c.args.prepared.now.ready.window) (sym c.state.view_is) c.requires.ready in
    let allowed = subst (λ k. group_refusal had (Some k) ≡ None) of.2
    (subst (λ (v : SessionParts). group_refusal v.seen.transaction (Some c.args.home.group) ≡ None) (sym c.state.view_is)
    c.requires.allowed) in
    let asked = asked_at had has c.state.inside.seen c.state.inside.pass p at c.args.home.group
    (root_of ancestor) c.make_room.ensures.same of.2 within c.touch_place-at.ensures.stands in
    let numbered = c.requires.shard ∙ ap (λ k. shard_of k c.args.store.now.shards) of.2 in
    let later = within_same had had c.state.inside.seen c.state.inside.pass p refl c.touch_place-at.ensures.read within in
    let gone = subst (λ e. WhereExpired (λ x. IsExpired shards g.J.Names.window p q (root_of ancestor) at x.snapshot x.applied x.commit) e)
    c.in-Expired.is (c.in-Err.ensures.expired ancestor under) in
    let same = ap (λ o. with_transaction o c.state.inside.seen) c.make_room.ensures.same in
    let inside = c.touch_place-at.ensures.inside ∙ ap (λ (o : Option Transaction). is_some o) c.make_room.ensures.same in
    let h = read_through c.state.inside.pass p q c.touch_place-at.ensures.read c.in-Err.ensures.read in
    later_from _ _ _ _ _ _ c.state.view_is _ _ _ _ refl same refl (read_itself _)
    (c.expire.ensures.replied c.state.inside.pass gone.place shards _
    (within_same had has c.state.inside.seen c.state.inside.pass c.state.inside.pass c.make_room.ensures.same (read_itself _) within) h
    gone.inside
    (expired_commit g.J.Names.definitions shards g.J.Names.window (with_transaction had c.state.inside.seen) c.state.inside.pass p q
    (root_of ancestor) at expired.snapshot expired.applied expired.commit c.args.home.shard numbered gone)
    (gone_told g.J.Names.definitions shards g.J.Names.window c.args.to.number (record { client = c.args.state.now.client; call = call })
    search
    is (with_transaction had c.state.inside.seen) n c.args.prepared.now.ready.window ready c.requires.lawful p q ancestor at later of.1
    allowed asked c.state.inside.pass has c.state.inside.seen c.args.home.shard expired.snapshot expired.applied expired.commit
    c.touch_place-at.ensures.read same numbered inside gone))

pub returns-in-Expired-clause-steps : goal.returns-in-Expired-clause-steps
returns-in-Expired-clause-steps g c = λ call is.
    let n = c.args.prepared.now.ready.normal in
    let of = ancestor_under c.args.prepared.now.search.query.ancestor c.args.home.group c.requires.under in
    let ancestor = of.0 in
    let search = c.args.prepared.now.search in
    let shards = c.args.store.now.shards in
    let under = ancestor_is search n c.requires.ready.normal_is c.requires.lawful ∙ of.1 in
    let p = c.touch_place-at.new.pass in
    let q = c.strong_query_planned-asked.new.pass in
    let at = c.touch_place-at.result in
    let expired = c.in-Expired.expired in
    let steps = c.strong_query_planned-asked.new.steps in
    let w = c.args.prepared.now.ready.window in
    let gone = subst (λ e. WhereExpired (λ x. IsExpired shards g.J.Names.window p q (root_of ancestor) at x.snapshot x.applied x.commit) e)
    c.in-Expired.is (c.in-Err.ensures.expired ancestor under) in
    let bound = subst (λ e. WhereExpired (λ x. steps ≤ c.args.steps.now + search_bound n w (most_of n w)
    (snapshot_of g.J.Names.definitions g.J.Names.window (list_of q.lists (shard_of (root_of ancestor) shards)) x.snapshot ∷ [])) e)
    c.in-Expired.is (c.in-Err.ensures.steps_gone ancestor under) in
    gone_steps_from g.J.Names.definitions shards g.J.Names.window c.args.to.number
    (record { client = c.args.state.now.client; call = call }) search is c.args.state.now.seen n w c.requires.ready c.requires.lawful _ _ _ c.state.view_is _ _ p q ancestor at expired.snapshot
    expired.applied expired.commit of.1 (c.expire.ensures.pass gone.place gone.inside) gone
    (c.expire.ensures.says gone.place gone.inside) bound (c.strong_query_planned-asked.ensures.steps_in_all ancestor under)
