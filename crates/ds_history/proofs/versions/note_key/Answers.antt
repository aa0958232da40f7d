use Rattle.std.proofs.Common.{◌≡◌, OnOk, cond, subst}
use Rattle.ds_base.specs.KeyOrder.{same_key}
use Rattle.ds_base.specs.Keys.{KeyParts}
use Rattle.ds_history.specs.Versions.{versions_at}
use Rattle.ds_history.proofs.VersionLaws.{noted_at}
use Rattle.ds_history.proofs.versions.note_key.Goals as goal

pub returns : goal.returns
returns c =
    noted_at c.args.key.now c.args.version c.put_versions.result c.args.keys.now.entries c.take_versions-versions.new.keys.entries
    c.put_versions.new.keys.entries c.take_versions-versions.result.items c.push.new.self.items
    c.take_versions-versions.ensures.taken c.take_versions-versions.ensures.left c.in_ok-push.ensures.items
    (subst (λ l. OnOk c.put_versions.result ((k : KeyParts) → versions_at c.put_versions.new.keys.entries k
    ≡ cond (same_key l k) c.push.new.self.items (versions_at c.take_versions-versions.new.keys.entries k))) c.in_ok-copy.ensures.copied
    c.put_versions.ensures)
