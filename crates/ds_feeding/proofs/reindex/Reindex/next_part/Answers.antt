use Rattle.std.proofs.Common.{◌∙◌, ap, length}
use Rattle.ds_feeding.proofs.FeedLaws.{next_part}
use Rattle.ds_store.specs.Loads.{LoadingParts}
use Rattle.ds_feeding.proofs.reindex.Reindex.next_part.Goals as goal

pub returns-clause-part : goal.returns-clause-part
returns-clause-part g c =
    let given = c.in_ok-commits.ensures in
    let since = c.in_ok-commits.field-0 in
    next_part c.args.self.now c.draw_up_to.new.self c.args.pass.now c.some_after.new.pass c.len.result c.args.most since.place since.next
    since.commits (c.len.ensures ∙ ap (λ (p : LoadingParts). length p.journal) c.self.view_is) c.requires.begins given.since given.serial
    given.issued given.few c.draw_up_to.ensures
