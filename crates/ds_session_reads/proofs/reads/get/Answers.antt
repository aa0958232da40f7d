use Rattle.std.proofs.Common.{◌≡◌, ◌<◌, ℕ, Option, refl, ap, subst, ◌∙◌, Some}
use Rattle.std.specs.Prelude.{is_some}
use Rattle.ds_base.specs.Keys.{root_of}
use Rattle.ds_log.specs.Shards.{shard_of}
use Rattle.ds_model.specs.Groups.{with_transaction}
use Rattle.ds_model.specs.Refusals.{refusal_of}
use Rattle.ds_model.specs.Sessions.{saw_entries}
use Rattle.ds_request.specs.declared.call.Call.TheVariants as call
use Rattle.ds_session_state.specs.Sessions.{world_seen}
use Rattle.ds_session_state.specs.Standing.{AskedAt}
use Rattle.ds_session_state.proofs.GrowthLaws.{read_itself, read_through}
use Rattle.ds_session_state.proofs.StandingLaws.{asked_at, expired_commit, expired_said, got_replied, group_seen, within_same}
use Rattle.ds_session_state.proofs.StateLaws.{later_from, none_from, unrefused_parts, within_parts}
use Rattle.ds_session_reads.proofs.reads.get.Goals as goal

pub get_in-requires-clause-shard : goal.get_in-requires-clause-shard
get_in-requires-clause-shard g c = c.in-Ok.ensures.shard ∙ ap (shard_of (root_of c.args.key.now)) c.shards.ensures.value

pub get_in-requires-clause-below : goal.get_in-requires-clause-below
get_in-requires-clause-below g c = subst (λ n. c.in-Ok.home.shard < n) c.shards.ensures.value c.in-Ok.ensures.below

pub returns-then-not-tell-clause-replied : goal.returns-then-not-tell-clause-replied
returns-then-not-tell-clause-replied g c =
    let h = read_through c.state.inside.pass c.touch_place-at.new.pass c.get_in.new.pass c.touch_place-at.ensures.read
    c.in-Ok-get_in.ensures.got.read.read in
    none_from _ _ _ _ _ _ c.state.view_is _ _ _ c.requires.within refl
    (ap (λ o. with_transaction o c.state.inside.seen) c.make_room.ensures.same) h
    (c.tell.ensures.untold c.if-not-tell.true) c.tell.ensures.kept

pub expire-requires-clause-inside : goal.expire-requires-clause-inside
expire-requires-clause-inside g c =
    let gone = rw c.in-Err-Expired.field-0-is at c.in-Err-Expired.ensures.expired in
    ap (λ (o : Option ℕ). is_some o) gone.inside

pub expire-requires-clause-within : goal.expire-requires-clause-within
expire-requires-clause-within g c =
    let h = read_through c.state.inside.pass c.touch_place-at.new.pass c.get_in.new.pass c.touch_place-at.ensures.read
    c.in-Err-Expired.ensures.read in
    within_same c.state.inside.transaction.transaction c.make_room.new.self.transaction c.state.inside.seen c.state.inside.pass
    c.get_in.new.pass c.make_room.ensures.same h (within_parts _ _ c.state.view_is c.requires.within)

pub say_no_memory-requires-in-Err-NoMemory-clause-within : goal.say_no_memory-requires-in-Err-NoMemory-clause-within
say_no_memory-requires-in-Err-NoMemory-clause-within g c =
    let h = read_through c.state.inside.pass c.touch_place-at.new.pass c.get_in.new.pass c.touch_place-at.ensures.read
    c.in-Err-NoMemory.ensures.read in
    within_same c.state.inside.transaction.transaction c.make_room.new.self.transaction c.state.inside.seen c.state.inside.pass
    c.get_in.new.pass c.make_room.ensures.same h (within_parts _ _ c.state.view_is c.requires.within)

pub returns-else-not-tell-clause-replied : goal.returns-else-not-tell-clause-replied
returns-else-not-tell-clause-replied g c =
    let group = root_of c.args.key.now in
    let named : c.in-Ok.home.group ≡ group = c.in-Ok.ensures.group in
    let numbered : c.in-Ok.home.shard ≡ shard_of group c.args.store.now.shards =
    c.in-Ok.ensures.shard ∙ ap (shard_of group) c.shards.ensures.value in
    let within = within_parts _ _ c.state.view_is c.requires.within in
    let is = c.in-Ok-get_in.ensures.got in
    let w = world_seen g.J.Names.definitions c.args.store.now.shards (Some g.J.Names.window) c.get_in.new.pass in
    rw (← c.state.view_is)
    (got_replied g.J.Names.definitions c.args.store.now.shards g.J.Names.window _ _ c.touch_place-at.new.pass c.args.number c.args.keep
    c.args.key.now c.touch_place-at.result within
    (unrefused_parts g.J.Names.definitions _ _ (call.Get c.args.key.now) c.state.view_is c.requires.unrefused) c.touch_place-at.ensures.read
    (asked_at c.state.inside.transaction.transaction c.make_room.new.self.transaction c.state.inside.seen c.state.inside.pass
    c.touch_place-at.new.pass c.touch_place-at.result c.in-Ok.home.group group c.make_room.ensures.same named within
    c.touch_place-at.ensures.stands)
    c.in-Ok-get_in.got.entity c.in-Ok-get_in.got.place c.in-Ok-get_in.got.entries is refl
    (group_seen w c.state.inside.seen c.see_entries.new.self c.state.inside.transaction.transaction c.touch.new.self.transaction
    c.make_room.new.self.transaction c.in-Ok.home.group group c.in-Ok-get_in.got.place c.in-Ok.home.shard c.in-Ok-get_in.got.entries
    c.make_room.ensures.same named numbered is.read.entries_are c.touch.ensures
    (c.see_entries.ensures ∙ ap (saw_entries c.in-Ok.home.shard c.in-Ok-get_in.got.entries) c.see_place.ensures))
    (c.tell.ensures.told c.if-not-tell.false) c.tell.ensures.kept)

pub returns-in-Err-Expired-clause-replied : goal.returns-in-Err-Expired-clause-replied
returns-in-Err-Expired-clause-replied g c =
    let group = root_of c.args.key.now in
    let named : c.in-Ok.home.group ≡ group = c.in-Ok.ensures.group in
    let numbered : c.in-Ok.home.shard ≡ shard_of group c.args.store.now.shards =
    c.in-Ok.ensures.shard ∙ ap (shard_of group) c.shards.ensures.value in
    let has = c.make_room.new.self.transaction in
    let seen = c.state.inside.seen in
    let same = c.make_room.ensures.same in
    let x = c.in-Err-Expired.expired in
    let p = c.touch_place-at.new.pass in
    let is = rw c.in-Err-Expired.field-0-is at c.in-Err-Expired.ensures.expired in
    let within =
    within_same c.state.inside.transaction.transaction has seen c.state.inside.pass c.state.inside.pass same
    (read_itself c.state.inside.pass) (within_parts _ _ c.state.view_is c.requires.within) in
    let asked =
    subst (λ k. AskedAt c.touch_place-at.result (with_transaction has seen) p k) named (c.touch_place-at.ensures.stands seen within) in
    let unrefused = ap (λ o. refusal_of g.J.Names.definitions (with_transaction o seen) (call.Get c.args.key.now)) same
    ∙ unrefused_parts g.J.Names.definitions _ _ (call.Get c.args.key.now) c.state.view_is c.requires.unrefused in
    later_from _ _ _ _ _ _ c.state.view_is _ _ _ _ refl (ap (λ o. with_transaction o seen) same) refl (read_itself c.state.inside.pass)
    (c.expire.ensures.replied c.state.inside.pass is.place _ _ within
    (read_through c.state.inside.pass p c.get_in.new.pass c.touch_place-at.ensures.read c.in-Err-Expired.ensures.read) is.inside
    (expired_commit g.J.Names.definitions c.args.store.now.shards g.J.Names.window (with_transaction has seen) c.state.inside.pass p
    c.get_in.new.pass group c.touch_place-at.result x.snapshot x.applied x.commit c.in-Ok.home.shard numbered is)
    (expired_said g.J.Names.definitions c.args.store.now.shards g.J.Names.window (with_transaction has seen) c.state.inside.pass p
    c.get_in.new.pass group c.touch_place-at.result x.snapshot x.applied x.commit c.in-Ok.home.shard numbered is c.args.state.now.client
    c.args.key.now refl within c.touch_place-at.ensures.read unrefused c.touch_place-at.ensures.inside asked))

pub returns-in-Err-NoMemory-clause-replied : goal.returns-in-Err-NoMemory-clause-replied
returns-in-Err-NoMemory-clause-replied g c =
    later_from _ _ _ _ _ _ c.state.view_is _ _ _ _ refl (ap (λ o. with_transaction o c.state.inside.seen) c.make_room.ensures.same) refl
    (read_through c.state.inside.pass c.touch_place-at.new.pass c.get_in.new.pass c.touch_place-at.ensures.read
    c.in-Err-NoMemory.ensures.read)
    (c.say_no_memory-in-Err-NoMemory.ensures.replied _ _)
