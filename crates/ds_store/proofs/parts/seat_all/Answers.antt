use Rattle.ds_base.specs.Limits.{first_drawn_id}
use Rattle.ds_draw.specs.Draws.{new_seat}
use Rattle.ds_store.proofs.parts.seat_all.Goals as goal

pub returns-clause-commits : goal.returns-clause-commits
returns-clause-commits g c = c.in_ok-commit_keeper.ensures.seat (new_seat g.J.Names.commits 1) c.all_passes.ensures.commits

pub returns-clause-ids : goal.returns-clause-ids
returns-clause-ids g c = c.in_ok-id_keeper.ensures.seat (new_seat g.J.Names.ids first_drawn_id) c.all_passes.ensures.ids
