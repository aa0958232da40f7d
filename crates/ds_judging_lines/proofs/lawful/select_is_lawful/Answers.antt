use Rattle.std.proofs.Common.{sym, subst}
use Rattle.std.specs.Prelude.{All, IsUtf8}
use Rattle.ds_reply_lines.specs.LawfulResults.{HasTexts}
use Rattle.ds_judging_lines.proofs.lawful.select_is_lawful.Goals as goal

pub returns-in-Projection : goal.returns-in-Projection
returns-in-Projection c =
    subst HasTexts (sym c.in-Projection.is) (subst (All IsUtf8) c.as_slice.ensures c.names_are_texts.ensures)
