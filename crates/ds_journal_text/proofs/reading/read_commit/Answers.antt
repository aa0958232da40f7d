use Rattle.std.proofs.Common.{◌<◌, ◌^◌, ◌∙◌, ap, arith}
use Rattle.std.specs.Prelude.{option_map}
use Rattle.serde_json.specs.View.{view}
use Rattle.ds_journal_text.proofs.CommitsBack.{no_json}
use Rattle.ds_journal_text.proofs.reading.read_commit.Goals as goal

pub returns-in-None : goal.returns-in-None
returns-in-None c =
    let fits : c.args.number < 2 ^ 64 = omega arith in
    λ other is. no_json c.args.number other c.args.line.now fits (c.in_ok-value.ensures ∙ ap (option_map view) c.in-None.is) is
