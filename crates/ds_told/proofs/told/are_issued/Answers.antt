use Rattle.std.proofs.Common.{◌≤◌, arith}
use Rattle.std.proofs.lemmas.Bool.{le-leb, leb-true}
use Rattle.ds_told.proofs.Joining.{issued_down, issued_up}
use Rattle.ds_told.proofs.told.are_issued.Goals as goal

pub returns-then-accepted-end : goal.returns-then-accepted-end
returns-then-accepted-end c = (
  λ is. issued_up c.args.drawn.items c.args.accepted c.args.printed c.in-Some.end c.in-Some.ensures c.if-accepted-end.true
      (leb-true c.args.printed c.in-Some.end is),
  λ issued. le-leb c.args.printed c.in-Some.end
      (issued_down c.args.drawn.items c.args.accepted c.args.printed c.in-Some.end c.in-Some.ensures issued).1,
)

pub returns-else-accepted-end : goal.returns-else-accepted-end
returns-else-accepted-end c = (
  λ is.
      let low : c.args.accepted ≤ c.in-Some.end = leb-true c.args.accepted c.in-Some.end is in absurd (omega (arith, low, c.if-accepted-end.false)),
  λ issued. le-leb c.args.accepted c.in-Some.end
      (issued_down c.args.drawn.items c.args.accepted c.args.printed c.in-Some.end c.in-Some.ensures issued).0,
)
