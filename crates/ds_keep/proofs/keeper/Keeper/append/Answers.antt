use Rattle.std.proofs.Common.{◌≡◌, ◌+◌, List, [], ◌∷◌, ◌++◌, sym, ap, ap₂, ◌∙◌, subst}
use Rattle.std.specs.Prelude.{All}
use Rattle.ds_log.specs.declared.Commit.{Commit}
use Rattle.ds_journal_text.specs.Lawful.{IsLawfulCommit}
use Rattle.ds_kept_file.specs.Files.{Kept, Batch, body_of, sized, with_batch}
use Rattle.ds_keep.specs.Keepers.{KeeperParts, IsSettled, IsBatchPut, MayAppend, batch_of}
use Rattle.ds_keep.proofs.Openings.{batch_put}
use Rattle.ds_keep.proofs.Runs.{if_ok}
use Rattle.ds_keep.proofs.keeper.Keeper.append.Goals as goal

pub returns-in-Ok-clause-settled : goal.returns-in-Ok-clause-settled
returns-in-Ok-clause-settled g c =
    let keeper : KeeperParts = c.args.self in
    let commits = c.args.commits.now in
    let next = c.args.next in
    let written = c.bytes.result.now in
    let number : c.self.inside.commits + 1 ≡ keeper.commits + 1 = ap (λ (k : KeeperParts). k.commits + 1) c.self.view_is in
    let is : written ≡ sized (body_of (keeper.commits + 1) (batch_of commits next)) ++ 0 ∷ [] =
    c.bytes.ensures ∙ c.in-Ok.ensures.bytes
    ∙ ap₂ (λ n (cs : List Commit). sized (body_of n (batch_of cs next)) ++ 0 ∷ []) number c.as_slice.ensures in
    let lawful : All IsLawfulCommit commits = subst (All IsLawfulCommit) c.as_slice.ensures c.in-Ok.ensures.lawful in
    let Settled : KeeperParts → Kept → g.row.D.Denot → Type 0 = IsSettled g.D.Disk.is_honest g.D.Disk.contents g.D.Disk.images in
    if_ok c.put_written.result
    (λ k. (kept : Kept) (batch : Batch) → Settled keeper kept c.args.disk.now → IsBatchPut kept batch c.len-in-Ok.result next written
    → Settled k (with_batch kept batch) c.put_written.new.disk)
    (λ k. (kept : Kept) → Settled keeper kept c.args.disk.now → MayAppend kept commits next → Settled k (with_batch kept (batch_of commits next)) c.put_written.new.disk)
    (λ k put kept settled may.
    put kept (batch_of commits next) settled
    (subst (λ n. IsBatchPut kept (batch_of commits next) n next written) (sym c.len-in-Ok.ensures)
    (batch_put keeper kept commits next written settled.commits settled.next lawful may c.requires.rises c.requires.bounded is)))
    c.put_written.ensures.settled

pub returns-in-Ok-clause-any_moment : goal.returns-in-Ok-clause-any_moment
returns-in-Ok-clause-any_moment g c = λ kept settled may.
    let keeper : KeeperParts = c.args.self in
    let commits = c.args.commits.now in
    let next = c.args.next in
    let written = c.bytes.result.now in
    let number : c.self.inside.commits + 1 ≡ keeper.commits + 1 = ap (λ (k : KeeperParts). k.commits + 1) c.self.view_is in
    let is : written ≡ sized (body_of (keeper.commits + 1) (batch_of commits next)) ++ 0 ∷ [] =
    c.bytes.ensures ∙ c.in-Ok.ensures.bytes
    ∙ ap₂ (λ n (cs : List Commit). sized (body_of n (batch_of cs next)) ++ 0 ∷ []) number c.as_slice.ensures in
    let lawful : All IsLawfulCommit commits = subst (All IsLawfulCommit) c.as_slice.ensures c.in-Ok.ensures.lawful in
    c.put_written.ensures.any_moment kept (batch_of commits next) settled
    (subst (λ n. IsBatchPut kept (batch_of commits next) n next written) (sym c.len-in-Ok.ensures)
    (batch_put keeper kept commits next written settled.commits settled.next lawful may c.requires.rises c.requires.bounded is))
