use Rattle.std.proofs.Common.{◌≡◌, true, arith}
use Rattle.ds_base.specs.Keys.{is_writable}
use Rattle.ds_line_reading.proofs.KeyLaws.{entity_key_read}
use Rattle.ds_line_reading.proofs.keys.read_entity_path.Goals as goal

pub returns : goal.returns
returns c =
    let one = c.in_ok-path.ensures in
    let writable : is_writable c.in_ok-key.key ≡ true = grind arith in
    (one.0, one.1, entity_key_read one.0 c.in_ok-path.path c.in_ok-key.key one.2 c.in_ok-key.ensures writable, one.3)
