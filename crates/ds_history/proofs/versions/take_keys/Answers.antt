use Rattle.std.proofs.Common.{◌∙◌, ap}
use Rattle.std.specs.Prelude.{bytes_eq}
use Rattle.ds_rows.specs.IndexedValues.{kind_of}
use Rattle.ds_history.specs.Versions.{entries_in, versions_at}
use Rattle.ds_history.proofs.Kept.{versions_if}
use Rattle.ds_history.proofs.versions.take_keys.Goals as goal

pub returns-in-Some-clause-left : goal.returns-in-Some-clause-left
returns-in-Some-clause-left c = λ k.
    ap (λ o. versions_at (entries_in o) k) (c.swap_remove.ensures.updates.0 (kind_of k))
    ∙ versions_if k (bytes_eq c.args.kind.now (kind_of k)) _ _

pub returns-in-None-clause-left : goal.returns-in-None-clause-left
returns-in-None-clause-left c = λ k.
    ap (λ o. versions_at (entries_in o) k) (c.swap_remove.ensures.updates.0 (kind_of k))
    ∙ versions_if k (bytes_eq c.args.kind.now (kind_of k)) _ _
