use Rattle.std.proofs.Common.{◌<◌, ◌^◌, arith}
use Rattle.serde_json.specs.View.{view}
use Rattle.ds_journal_text.proofs.Appending.{if_ok}
use Rattle.ds_journal_text.proofs.CommitsBack.{if_line_is, refused_none}
use Rattle.ds_journal_text.proofs.reading.read_value.Goals as goal

pub returns-in-Ok : goal.returns-in-Ok
returns-in-Ok c =
    let fits : c.args.number < 2 ^ 64 = omega arith in
    if_ok c.if_line.result (λ found h. if_line_is c.args.number c.args.line.now (view c.args.value) c.in-Ok.commit found fits c.requires c.in-Ok.ensures h) c.if_line.ensures

pub returns-in_default : goal.returns-in_default
returns-in_default c =
    let fits : c.args.number < 2 ^ 64 = omega arith in
    λ other is. refused_none c.args.number other c.args.line.now (view c.args.value) c.in-Err.refused fits c.requires (c.in-Err.ensures c.in_default.not-NoMemory) is
