use Rattle.std.proofs.Common.{length, ap, ◌∙◌, arith}
use Rattle.ds_model.specs.Sessions.{Session}
use Rattle.ds_judging_lines.proofs.SeenLaws.{greater_length, kept}
use Rattle.ds_judging_lines.proofs.counts.see_counts.Goals as goal

pub returns-clause-kept : goal.returns-clause-kept
returns-clause-kept c =
    kept c.args.turn.now c.args.session.now _
    (ap (λ (s : Session). length s.counts) c.see_counts.ensures.raised
    ∙ greater_length c.session.inside.seen.counts c.args.counts.now ∙ ap (λ (s : Session). length s.counts) c.session.view_is)
    (omega (arith, ap (λ (s : Session). s.next_id) c.see_counts.ensures.raised, ap (λ (s : Session). s.next_id) c.session.view_is))
