use Rattle.std.proofs.Common.{◌≡◌, Some}
use Rattle.ds_model.specs.Groups.{place_in, with_transaction}
use Rattle.ds_session_state.proofs.GrowthLaws.{read_itself}
use Rattle.ds_session_state.proofs.StandingLaws.{stands_touched}
use Rattle.ds_session_state.proofs.standing.touch_place.Goals as goal

pub returns-then-not-is_open-clause-read : goal.returns-then-not-is_open-clause-read
returns-then-not-is_open-clause-read g c = read_itself c.args.pass.now

pub returns-in-Some-clause-read : goal.returns-in-Some-clause-read
returns-in-Some-clause-read g c = read_itself c.args.pass.now

pub returns-in-Some-clause-stands : goal.returns-in-Some-clause-stands
returns-in-Some-clause-stands g c = λ seen within.
    let found : place_in c.args.transaction.now.transaction c.args.group.now ≡ Some c.in-Some.place = cc in
    stands_touched (with_transaction c.args.transaction.now.transaction seen) c.args.pass.now c.args.group.now c.in-Some.place within found
