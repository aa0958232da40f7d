use Rattle.ds_bytes.specs.EncodingLaws.{encoding-ordered, key_encoding-ordered}
use Rattle.ds_bytes.specs.RowLaws.{row_bytes-ordered}
use Rattle.ds_bytes.proofs.laws.encodings_are_ordered.Goals as goal

pub returns : goal.returns
returns c = record { values = encoding-ordered; keys = key_encoding-ordered; rows = row_bytes-ordered }
