use Rattle.std.proofs.Common.{◌∙◌, ap}
use Rattle.ds_log.specs.ShardCommits.{CommitsParts}
use Rattle.ds_log.specs.UpTo.{count_up_to}
use Rattle.ds_log.specs.UpToLaws.{count_up_to-shard_list}
use Rattle.ds_log.proofs.shard_commits.ShardCommits.up_to.Goals as goal

pub returns-clause-entries : goal.returns-clause-entries
returns-clause-entries c = λ journal shard shards is.
    c.count_up_to.ensures
    ∙ ap (count_up_to c.args.place)
    (c.as_slice.ensures.value ∙ ap (λ (p : CommitsParts). p.commits) c.self.view_is ∙ is)
    ∙ count_up_to-shard_list journal shard shards c.args.place
