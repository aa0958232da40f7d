use Rattle.std.proofs.Common.{◌≡◌, ◌<◌, refl, ap, sym, ◌∙◌, subst, Some, None}
use Rattle.std.specs.Prelude.{is_some}
use Rattle.std.specs.Option.{option_map}
use Rattle.ds_base.specs.Keys.{root_of}
use Rattle.ds_log.specs.Shards.{shard_of}
use Rattle.ds_model.specs.Groups.{group_refusal}
use Rattle.ds_protocol.specs.Refused.{IsRefusal}
use Rattle.ds_session_state.specs.Sessions.{SessionParts}
use Rattle.ds_session_reads.proofs.FoundLaws.{allowed_of}
use Rattle.ds_session_reads.proofs.RefusedSearches.{group_refused}
use Rattle.ds_session_reads.proofs.searches.find_in_group.Goals as goal

pub find_there-requires-clause-under : goal.find_there-requires-clause-under
find_there-requires-clause-under g c =
    ap (λ o. option_map root_of o) c.requires.under ∙ ap (λ k. Some k) (sym c.in-Ok.ensures.group)

pub find_there-requires-clause-shard : goal.find_there-requires-clause-shard
find_there-requires-clause-shard g c =
    c.in-Ok.ensures.shard ∙ ap (λ n. shard_of (root_of c.args.ancestor.now) n) c.shards.ensures.value
    ∙ ap (λ k. shard_of k c.args.store.now.shards) (sym c.in-Ok.ensures.group)

pub find_there-requires-clause-allowed : goal.find_there-requires-clause-allowed
find_there-requires-clause-allowed g c =
    subst (λ (v : SessionParts). group_refusal v.seen.transaction (Some c.in-Ok.home.group) ≡ None) c.state.view_is
    (allowed_of (group_refusal c.state.inside.transaction.transaction (Some c.in-Ok.home.group)) c.group_refusal.result
    c.in_default-group_refusal.is c.group_refusal.ensures.told)

pub returns-in-Some-clause-replied : goal.returns-in-Some-clause-replied
returns-in-Some-clause-replied g c = λ call is.
    let had = c.state.inside.transaction.transaction in
    let body = c.in-Some.body in
    let told = subst (λ k. IsRefusal (group_refusal had (Some k)) (Some body)) c.in-Ok.ensures.group
    (subst (λ o. IsRefusal (group_refusal had (Some c.in-Ok.home.group)) o) c.in-Some.is c.group_refusal.ensures.told) in
    c.refuse.ensures _ c.args.store.now.shards
    (group_refused g.J.Names.definitions c.args.store.now.shards (record { client = c.args.state.now.client; call = call })
    c.args.state.now.seen c.args.prepared.now.search body is (is_some c.args.state.now.seen.transaction) c.args.ancestor.now
    c.args.prepared.now.ready.normal
    c.args.prepared.now.ready.window refl c.requires.under c.requires.ready
    (subst (λ (v : SessionParts). IsRefusal (group_refusal v.seen.transaction (Some (root_of c.args.ancestor.now))) (Some body))
    c.state.view_is told))

pub find_there-requires-clause-below : goal.find_there-requires-clause-below
find_there-requires-clause-below g c = subst (λ n. c.in-Ok.home.shard < n) c.shards.ensures.value c.in-Ok.ensures.below
