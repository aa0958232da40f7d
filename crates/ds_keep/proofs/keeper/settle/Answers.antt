use Rattle.std.proofs.Common.{refl, sym, subst}
use Rattle.std.specs.Prelude.{IsTrue}
use Rattle.ds_kept_file.specs.Readings.{found}
use Rattle.ds_keep.proofs.keeper.settle.Goals as goal

pub returns-in_err-close-clause-any_moment : goal.returns-in_err-close-clause-any_moment
returns-in_err-close-clause-any_moment g c = c.close.ensures.any_moment (found c.args.read)

pub returns-clause-settled : goal.returns-clause-settled
returns-clause-settled g c = λ honest closed. record {
  honest = subst IsTrue (sym c.close.ensures.honest) honest;
  file = c.in_ok-close.ensures.closed (found c.args.read) honest closed;
  durable = c.in_ok-close.ensures.durable honest;
  commits = c.len-commits.ensures;
  next = refl;
}

pub returns-clause-any_moment : goal.returns-clause-any_moment
returns-clause-any_moment g c = c.close.ensures.any_moment (found c.args.read)
