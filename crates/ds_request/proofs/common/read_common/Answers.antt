use Rattle.ds_request.proofs.CommonLaws.{text_request}
use Rattle.ds_request.proofs.common.read_common.Goals as goal

pub returns-in-Ok : goal.returns-in-Ok
returns-in-Ok c = text_request c.args.line.now c.in-Ok.text.now c.read_common_text.result c.in-Ok.ensures.cases.0 c.in-Ok.ensures.cases.1 c.read_common_text.ensures
