use Rattle.std.proofs.Common.{arith}
use Rattle.ds_table.proofs.adding.cut_of.Goals as goal

pub returns-then-goes_on_at : goal.returns-then-goes_on_at
returns-then-goes_on_at c =
    let least = c.least_cut.ensures in
    let most = c.most_cut.ensures in
    record {
      some = omega (arith, c.min.ensures, c.max.ensures, least.some, most.within);
      not_all = omega (arith, c.min.ensures, most.not_all);
      before = λ j e. omega (arith, c.min.ensures, c.max.ensures, least.enough j e, least.within, most.within);
      after = λ l. omega (arith, c.min.ensures, most.enough l);
    }
