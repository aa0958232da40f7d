use Rattle.std.proofs.Common.{◌∙◌, ap, sym}
use Rattle.ds_log.specs.declared.Entry.{Entry}
use Rattle.ds_applied.proofs.ShardSteps.{writes_index}
use Rattle.ds_applied.proofs.shard.writes_at.Goals as goal

pub returns : goal.returns
returns c =
    c.as_slice.ensures ∙ ap (λ (e : Entry). e.writes) (sym c.index-entries-place.is)
    ∙ writes_index c.args.entries.now c.args.place c.index-entries-place.result c.requires c.index-entries-place.is
