use Rattle.std.proofs.Common.{arith}
use Rattle.ds_engine.proofs.searching.page_of.Goals as goal

pub returns-clause-found : goal.returns-clause-found
returns-clause-found g c = λ own. c.told.ensures.found (c.in_ok-page.ensures.page own) own

pub returns-clause-look_ups : goal.returns-clause-look_ups
returns-clause-look_ups g c =
    let few = c.in_ok-page.ensures.few in
    let looked = c.told.ensures.look_ups in
    omega (arith, few, looked)
