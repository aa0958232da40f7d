use Rattle.ds_session_state.proofs.GrowthLaws.{read_itself}
use Rattle.ds_session_writes.proofs.IdLaws.{read_next}
use Rattle.ds_session_writes.proofs.drawing.unissued.Goals as goal

pub returns-then-is_none-clause-read : goal.returns-then-is_none-clause-read
returns-then-is_none-clause-read g c = read_itself c.args.pass.now

pub returns-clause-read : goal.returns-clause-read
returns-clause-read g c = read_next c.args.pass.now c.next_id-next.new.pass c.next_id-next.result c.next_id-next.ensures
