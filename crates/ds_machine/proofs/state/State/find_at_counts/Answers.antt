use Rattle.ds_machine.proofs.Words.{◌≡◌, ap, map, shard_views, sorted_by_key, StateParts}
use Rattle.ds_machine.proofs.QueryPlans.{all_by_key, by_key}
use Rattle.ds_machine.proofs.state.State.find_at_counts.Goals as goal

pub find-requires-clause-by_key : goal.find-requires-clause-by_key
find-requires-clause-by_key c =
    let sorted = all_by_key c.self.inside.book.journal c.self.inside.applied c.args.counts c.in_ok-visible.visible _
    c.self.invariant.follows (cc (c.in_ok-visible.ensures, c.as_slice.ensures)) c.in_ok-entities.ensures in
    by_key _ (shard_views c.self.inside.applied.lists c.args.counts) (cc (c.as_slice-2.ensures.value, sorted))

pub returns-clause-found : goal.returns-clause-found
returns-clause-found c =
    let sorted = all_by_key c.self.inside.book.journal c.self.inside.applied c.args.counts c.in_ok-visible.visible _
    c.self.invariant.follows (cc (c.in_ok-visible.ensures, c.as_slice.ensures)) c.in_ok-entities.ensures in
    let told : map (λ e. e.now) c.as_slice-2.result.now ≡ sorted_by_key (shard_views c.args.self.now.applied.lists c.args.counts)
    = cc (c.as_slice-2.ensures.value, sorted, ap (λ (st : StateParts). st.applied.lists) c.self.view_is) in
    rw told at c.find.ensures.found
