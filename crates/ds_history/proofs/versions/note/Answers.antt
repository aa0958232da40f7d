use Rattle.ds_history.proofs.VersionLaws.{noted_in}
use Rattle.ds_history.proofs.versions.note.Goals as goal

pub returns : goal.returns
returns c =
    noted_in c.args.key.now c.args.version c.put_keys.result c.in_ok-kind.kind c.args.kinds.now.entries c.take_keys-keys.new.kinds.entries
    c.put_keys.new.kinds.entries c.take_keys-keys.result.entries c.note_key.new.keys.entries c.in_ok-kind.ensures
    c.take_keys-keys.ensures.taken c.take_keys-keys.ensures.left c.in_ok-note_key.ensures c.put_keys.ensures
