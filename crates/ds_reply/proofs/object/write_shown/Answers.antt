use Rattle.ds_reply.proofs.object.write_shown.Goals as goal

pub returns-in-Counts : goal.returns-in-Counts
returns-in-Counts g c =
    let j = g.met.O.Output.joined in
    let counts = rw c.as_slice.ensures at c.write_counts.ensures in
    rw c.in-Counts.is (j _ _ _ _ _ c.put-in-Counts.ensures counts)

pub returns-in-Results : goal.returns-in-Results
returns-in-Results g c =
    let j = g.met.O.Output.joined in
    let results = rw c.as_slice-in-Results.ensures at c.write_results.ensures in
    rw c.in-Results.is (j _ _ _ _ _ c.put-in-Results.ensures results)
