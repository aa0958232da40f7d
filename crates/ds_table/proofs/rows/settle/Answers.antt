use Rattle.std.proofs.Common.{ap, ◌∙◌}
use Rattle.ds_table.proofs.Heads.{heads_long}
use Rattle.std.proofs.Common.{length}
use Rattle.ds_table.proofs.rows.settle.Goals as goal

pub set_heads-requires : goal.set_heads-requires
set_heads-requires c = record {
  long = c.requires.long;
  as_many = ap length c.requires.headed ∙ heads_long c.args.was c.args.rows.now;
}
