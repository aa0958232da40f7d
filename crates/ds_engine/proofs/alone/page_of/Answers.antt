use Rattle.std.proofs.Common.{◌∙◌}
use Rattle.ds_engine.proofs.alone.page_of.Goals as goal

pub returns : goal.returns
returns c = λ columns rows is. record { rows = c.in_ok-rows.ensures ∙ is.rows; next = c.in_ok-next.ensures rows is.last }
