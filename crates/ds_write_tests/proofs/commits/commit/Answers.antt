use Rattle.std.proofs.Common.{◌≤◌, ◌∙◌, ap, subst, length, arith}
use Rattle.std.specs.List.{All}
use Rattle.ds_log.specs.declared.Commit.{Commit}
use Rattle.ds_log.specs.JournalLaws.{AreIssued-rises}
use Rattle.ds_write_tests.proofs.commits.commit.Goals as goal

pub commit-requires-2-clause-touched_before : goal.commit-requires-2-clause-touched_before
commit-requires-2-clause-touched_before c =
    let read = c.as_slice.ensures ∙ ap (λ (d : Commit). d.touched) c.commit.ensures.value in
    let within = c.are_places.ensures c.if-not-are_places.false in
    subst (λ js. All (λ t. t.place ≤ length js) c.args.draft.touched) c.journal.ensures.value
    (subst (All (λ t. t.place ≤ length c.journal.result.now)) read within)

pub commit-requires-2-clause-issued : goal.commit-requires-2-clause-issued
commit-requires-2-clause-issued c = AreIssued-rises 0 c.args.book.now.next c.args.draft.writes (omega arith) c.requires
