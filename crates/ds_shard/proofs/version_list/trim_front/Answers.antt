use Rattle.std.proofs.Common.{map, sym, ◌∙◌}
use Rattle.ds_shard.specs.Histories.{version_of}
use Rattle.ds_shard.proofs.HistoryLaws.{nothing_trimmed}
use Rattle.ds_shard.proofs.version_list.trim_front.Goals as goal

pub returns : goal.returns
returns c =
    sym
    (nothing_trimmed c.args.floor (map version_of c.loop-items.items.items) (sym c.is_first_over.ensures ∙ c.loop-items-test.false)
    c.loop-items.invariant.history)
    ∙ c.loop-items.invariant.same
