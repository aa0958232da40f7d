use Rattle.std.proofs.Common.{◌≡◌, true, arith}
use Rattle.serde_json.specs.Data.{object}
use Rattle.ds_request.specs.Entities.{entity_of}
use Rattle.ds_request.proofs.CommonLaws.{read_if}
use Rattle.ds_request.proofs.common.entities.LineEntityFormLineForm.read.Goals as goal

pub returns : goal.returns
returns c =
    let filled : c.fill_object.result ≡ true = grind arith in
    let all = c.fill_object.ensures filled in
    read_if c.args.depth entity_of c.args.reader.now c.fill_object.new.reader (object all.0) c.written.result all.1 all.2 (c.written.ensures all.0 all.3.0 all.3.1.0)
