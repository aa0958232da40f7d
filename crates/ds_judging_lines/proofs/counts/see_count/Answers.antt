use Rattle.std.proofs.Common.{length, ap, ◌∙◌, arith}
use Rattle.ds_model.specs.Sessions.{Session, saw_entries, saw_place}
use Rattle.ds_judging_lines.proofs.SeenLaws.{kept, raised_length}
use Rattle.ds_judging_lines.proofs.counts.see_count.Goals as goal

pub returns-clause-seen : goal.returns-clause-seen
returns-clause-seen c =
    c.see_one.ensures
    ∙ ap (λ commit. saw_place commit (saw_entries c.args.shard c.args.count (saw_place c.args.place c.args.session.now)))
    c.last_commit-commit.ensures

pub returns-clause-kept : goal.returns-clause-kept
returns-clause-kept c =
    kept c.args.turn.now c.args.session.now _
    (ap (λ (s : Session). length s.counts) c.see_one.ensures ∙ raised_length c.args.shard c.args.count c.args.session.now.counts)
    (omega (arith, ap (λ (s : Session). s.next_id) c.see_one.ensures))
