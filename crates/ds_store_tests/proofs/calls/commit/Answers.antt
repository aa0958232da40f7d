use Rattle.std.proofs.Common.{◌≤◌, ◌∙◌, ap, subst, arith}
use Rattle.std.specs.List.{All}
use Rattle.ds_log.specs.declared.Commit.{Commit}
use Rattle.ds_log.specs.JournalLaws.{AreIssued-rises}
use Rattle.ds_store_tests.proofs.calls.commit.Goals as goal

pub commit-requires-2-clause-touched : goal.commit-requires-2-clause-touched
commit-requires-2-clause-touched g c =
    let read = c.as_slice.ensures ∙ ap (λ (d : Commit). d.touched) c.commit.ensures.value in
    let within = c.are_places.ensures c.if-not-are_places.false in
    subst (λ m. All (λ t. t.place ≤ m) c.args.draft.touched) c.place.ensures
    (subst (All (λ t. t.place ≤ c.place.result)) read within)

pub commit-requires-2-clause-issued : goal.commit-requires-2-clause-issued
commit-requires-2-clause-issued g c = AreIssued-rises 0 c.args.pass.now.next c.args.draft.writes (omega arith) c.requires
