use Rattle.std.proofs.Common.{◌∙◌, ap, map}
use Rattle.ds_model.specs.Sessions.{Session}
use Rattle.ds_protocol.specs.Watermarks.{raised_by}
use Rattle.ds_protocol.proofs.Meetings.{all_met}
use Rattle.ds_judging_lines.proofs.sessions.meet.Goals as goal

pub returns : goal.returns
returns c =
    let ss = c.args.sessions.now in
    c.raise_all.ensures ∙ ap (λ (g : Session). map (raised_by g) ss) c.in_ok-greatest.ensures ∙ all_met c.args.shards ss c.requires
