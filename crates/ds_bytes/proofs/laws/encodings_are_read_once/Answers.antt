use Rattle.ds_bytes.specs.EncodingLaws.{encoding-reads_once, key_encoding-reads_once}
use Rattle.ds_bytes.specs.RowLaws.{row_bytes-reads_once}
use Rattle.ds_bytes.proofs.laws.encodings_are_read_once.Goals as goal

pub returns : goal.returns
returns c = record { values = encoding-reads_once; keys = key_encoding-reads_once; rows = row_bytes-reads_once }
