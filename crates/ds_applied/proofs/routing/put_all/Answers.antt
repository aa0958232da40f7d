use Rattle.std.proofs.Common.{◌≡◌, ◌≤◌, ◌+◌, [], ◌∷◌, ◌++◌, ◌∙◌, ap, subst, sym, length, map, rules}
use Rattle.std.proofs.lemmas.List.{nil_from_length}
use Rattle.ds_applied.specs.AppliedLists.{AppliedShard, entries_of}
use Rattle.ds_log.specs.Routing.{entry_of}
use Rattle.ds_applied.specs.Routing.{added}
use Rattle.ds_applied.proofs.PullLaws.{added_none}
use Rattle.ds_applied.proofs.RoutingSteps.{put_more}
use Rattle.ds_applied.proofs.routing.put_all.Goals as goal

pub loop-one-preserved : goal.loop-one-preserved
loop-one-preserved c =
    let rest : c.loop-one.one-iterator.rest.items ≡ c.in-Some.one ∷ c.next.new.self.rest.items = search rules in
    put_more (length c.args.shards.now.items) c.loop-one.shards.items c.loop-one.one-iterator.rest.items c.next.new.self.rest.items
    c.in-Some.one
    c.index_mut.result.now c.push.new.self _ _ rest
    (c.push.ensures.entries ∙ ap (λ (s : AppliedShard). s.entries ++ c.in-Some.one.entry ∷ []) c.index_mut.ensures.value)
    (c.push.ensures.applied ∙ ap (λ (s : AppliedShard). s.applied) c.index_mut.ensures.value)
    (subst (λ (s : AppliedShard). s.spare ≤ c.push.new.self.spare + 1) c.index_mut.ensures.value c.push.ensures.spare)
    c.loop-one.invariant

pub returns-clause-entries : goal.returns-clause-entries
returns-clause-entries c =
    let none : length c.loop-one.one-iterator.rest.items ≡ 0 = search rules in
    let initial : c.into_iter-one-iterator.result.rest.items ≡ c.args.routed.items = search rules in
    sym (added_none (length c.args.shards.now.items) 0 (entries_of c.loop-one.shards.items))
    ∙ ap (λ rs. added (length c.args.shards.now.items) 0 (entries_of c.loop-one.shards.items) (map entry_of rs))
    (sym (nil_from_length c.loop-one.one-iterator.rest.items none))
    ∙ c.loop-one.invariant.3
    ∙ ap (λ rs. added (length c.args.shards.now.items) 0 (entries_of c.args.shards.now.items) (map entry_of rs)) initial
