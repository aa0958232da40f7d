use Rattle.std.proofs.Common.{◌∙◌, ◌<◌, ◌++◌, ap, arith, length, sym, take}
use Rattle.ds_entity.specs.EntityOrder.{sorted_by_key}
use Rattle.ds_log.specs.After.{after}
use Rattle.ds_log.specs.Logs.{writes_of}
use Rattle.ds_history.specs.Writers.{commits_at, if_there, nth_commit}
use Rattle.ds_history.proofs.Found.{view_more}
use Rattle.ds_history.proofs.Numbers.{next_commit, up_to_within}
use Rattle.ds_history.proofs.history.History.view_by.Goals as goal

pub commit_of-requires : goal.commit_of-requires
commit_of-requires c =
    let within = up_to_within c.args.place _ _ c.up_to-i-end.ensures.value in
    let below = c.loop-i-test.true in omega (arith, within, below)

pub loop-i-preserved : goal.loop-i-preserved
loop-i-preserved c =
    let journal = c.args.self.now.journal in
    let numbers = c.args.numbers.now.commits in
    let i = c.loop-i.i in
    let within = up_to_within c.args.place _ _ c.up_to-i-end.ensures.value in
    let below = c.loop-i-test.true in
    let inside : i < length numbers = omega (arith, within, below) in
    view_more _ _ (commits_at journal (take i numbers)) (if_there (nth_commit journal c.commit_of.result)) c.loop-i.invariant c.in_ok-apply.ensures
    ∙ ap (λ cs. sorted_by_key (after (writes_of cs)))
    (ap (λ n. commits_at journal (take i numbers) ++ if_there (nth_commit journal n)) c.commit_of.ensures ∙ sym (next_commit journal numbers i inside))
