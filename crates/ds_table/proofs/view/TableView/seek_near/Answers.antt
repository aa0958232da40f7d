use Rattle.ds_table.proofs.Sorted.{seen_ascend, unseen_rises}
use Rattle.ds_table.specs.Blocks.{joined}
use Rattle.ds_table.proofs.view.TableView.seek_near.Goals as goal

pub returns-clause-rows_ascend : goal.returns-clause-rows_ascend
returns-clause-rows_ascend g c = rw (← c.self.view_is) (seen_ascend c.self.inside.at (joined c.self.inside.table.now.blocks) c.as_blocks.ensures.ordered)

pub returns-clause-passed_do_not_fall : goal.returns-clause-passed_do_not_fall
returns-clause-passed_do_not_fall g c = rw (← c.self.view_is) (unseen_rises c.self.inside.at (joined c.self.inside.table.now.blocks) c.as_blocks.ensures.ordered)

pub returns-clause-in_order : goal.returns-clause-in_order
returns-clause-in_order g c = rw (← c.self.view_is) c.as_blocks.ensures.ordered

pub returns-clause-of_bytes : goal.returns-clause-of_bytes
returns-clause-of_bytes g c = rw (← c.self.view_is) c.as_blocks.ensures.of_bytes
