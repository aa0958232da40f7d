use Rattle.std.proofs.Common.{sym, subst}
use Rattle.std.specs.BTreeSet.{insert_key}
use Rattle.ds_pages.specs.FirstRows.{AreMarks}
use Rattle.ds_pages.specs.Marks.{mark_cmp}
use Rattle.ds_pages.proofs.FirstLaws.{marks_more}
use Rattle.ds_pages.proofs.first_rows.put_new.Goals as goal

pub returns-clause-kept : goal.returns-clause-kept
returns-clause-kept c = λ slots is are.
    let keys = c.args.marks.now.keys in
    let rows = c.args.rows.now.items in
    subst (λ ks. AreMarks slots ks c.push.new.self.items) (sym c.in_default.ensures.keys)
    (subst (AreMarks slots (insert_key mark_cmp keys c.args.mark)) (sym c.in_ok-push.ensures.items)
    (marks_more slots keys rows c.args.row c.args.mark is are))
