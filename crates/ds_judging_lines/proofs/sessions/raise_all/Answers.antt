use Rattle.std.proofs.lemmas.List.Edits.{map_over_more}
use Rattle.ds_protocol.specs.Watermarks.{raised_by}
use Rattle.ds_judging_lines.proofs.sessions.raise_all.Goals as goal

pub loop-session-preserved : goal.loop-session-preserved
loop-session-preserved c =
    rw (c.raise.ensures, ← c.session-item.is)
    (map_over_more (raised_by c.args.greatest.now) _ _ _ c.session-item.result c.loop-session-test.true c.loop-session.invariant
    c.session-item.is)
