use Rattle.std.proofs.Common.{ap, arith, length}
use Rattle.ds_branch.proofs.Behinds.{none_left}
use Rattle.ds_branch.proofs.answering.answer.Goals as goal

pub returns-clause-rows : goal.returns-clause-rows
returns-clause-rows g c = none_left _ _ c.in_ok-found.found c.in_ok-found.ensures.rows

pub returns-clause-placed : goal.returns-clause-placed
returns-clause-placed g c = c.in_ok-found.ensures.rows.placed

pub returns-clause-a_step_for_each : goal.returns-clause-a_step_for_each
returns-clause-a_step_for_each g c =
    let same = none_left _ _ c.in_ok-found.found c.in_ok-found.ensures.rows in
    let count = c.in_ok-found.ensures.rows.count in
    let each = c.in_ok-found.ensures.a_step_for_each in
    let long = ap length same in
    omega (arith, count, each, long)
