use Rattle.std.proofs.Common.{◌∙◌, ap, slice_set}
use Rattle.ds_asked.proofs.Asking.{set-with}
use Rattle.ds_asked.proofs.lines.put.Goals as goal
use Rattle.ds_asked.proofs.lines.put.Goals.{in-Ok, in-Err}

pub returns : goal.returns
returns c =
    let lists = c.args.lists.now.items in
    let place = c.args.asked.client in
    elim c.match-push.branch [
      | in-Ok w ↦ rw w.result-is (ap (slice_set lists place) w.in-Ok.ensures.ok ∙ set-with lists place c.args.asked c.index_mut.result.now c.index_mut.ensures.value)
      | in-Err w ↦ rw w.result-is tt
    ]
