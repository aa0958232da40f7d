use Rattle.std.proofs.Common.{List, ℕ}
use Rattle.std.specs.Prelude.{All}
use Rattle.ds_bytes.specs.Encoding.{directed, path_bytes}
use Rattle.ds_bytes.specs.Lawful.{IsLawfulElem}
use Rattle.ds_bytes.specs.Reading.{Found}
use Rattle.ds_bytes.proofs.Readings.{map_option}
use Rattle.ds_bytes.proofs.Keys.{no_default_key, default_found}
use Rattle.ds_bytes.proofs.decoder.read_default_key.Goals as goal

pub returns-in-Some : goal.returns-in-Some
returns-in-Some c =
    let seen : List ℕ = directed c.args.descending c.args.bytes.now in
    let found : Found (All IsLawfulElem) path_bytes seen c.in-Some.path c.in-Some.taken = rw c.in-Some.is at c.in_ok-read_path.ensures in
    map_option c.key_of.result c.key_of.ensures (no_default_key seen c.new.result c.in-Some.path c.in-Some.taken found c.new.ensures)
    (λ x of. default_found seen c.new.result c.in-Some.path x.0 c.in-Some.taken x.1 found c.new.ensures of.0 of.1)
