use Rattle.std.proofs.Common.{◌∙◌, ap}
use Rattle.std.specs.Prelude.{bytes_eq}
use Rattle.ds_rows.specs.IndexedValues.{kind_of}
use Rattle.ds_history.specs.Versions.{entries_in, versions_at}
use Rattle.ds_history.proofs.Kept.{versions_if}
use Rattle.ds_history.proofs.versions.put_keys.Goals as goal

pub returns-in-Ok : goal.returns-in-Ok
returns-in-Ok c = λ k.
    ap (λ o. versions_at (entries_in o) k) (c.in-Ok.ensures.updates.0 (kind_of k))
    ∙ versions_if k (bytes_eq c.args.kind (kind_of k)) _ _
