use Rattle.std.proofs.Common.{◌<◌, ◌++◌, ◌∷◌, [], ◌∙◌, ap, sym, subst, length, arith}
use Rattle.std.specs.Vec.{vec_len, vec_capacity}
use Rattle.ds_log.specs.declared.Commit.{Commit}
use Rattle.ds_log.specs.GroupLaws.{length-groups_of}
use Rattle.ds_journal.specs.Books.{BookParts}
use Rattle.ds_journal.proofs.Rooms.{room}
use Rattle.ds_journal.proofs.Kept.{book_appended}
use Rattle.ds_journal.proofs.book.Book.append.Goals as goal

pub note_all-requires : goal.note_all-requires
note_all-requires c =
    let spare = subst (λ n. length c.args.draft.writes < n) (sym (ap (λ (b : BookParts). b.spare) c.self.view_is)) c.requires.room in
    let held = room (vec_len c.self.inside.journal) (vec_capacity c.self.inside.journal) c.self.inside.heads.spare
    (length c.args.draft.writes) spare in
    let fits = held.heads in
    omega (arith, ap length c.into_parts-commit.ensures.groups, length-groups_of c.args.draft.writes)

pub invariant_of-self : goal.invariant_of-self
invariant_of-self c =
    let viewed = c.self.view_is in
    let spare = subst (λ n. length c.args.draft.writes < n) (sym (ap (λ (b : BookParts). b.spare) viewed)) c.requires.room in
    let held = room (vec_len c.self.inside.journal) (vec_capacity c.self.inside.journal) c.self.inside.heads.spare
    (length c.args.draft.writes) spare in
    let pushed = rw c.unwrap.ensures at c.push.ensures.items in
    book_appended c.self.inside.journal.items c.args.self.now.journal c.push.new.self.items c.self.inside.next c.args.self.now.next
    c.args.draft
    c.self.inside.heads c.note_all.new.heads c.end_commit.new.self c.into_parts-commit.result.1.items c.length-number.result
    c.self.invariant (ap (λ (b : BookParts). b.journal) viewed) (ap (λ (b : BookParts). b.next) viewed)
    c.requires.touched_before c.requires.issued c.requires.serial c.into_parts-commit.ensures.few (let number = held.number in omega arith)
    (pushed ∙ ap (λ (d : Commit). c.self.inside.journal.items ++ d ∷ []) c.into_parts-commit.ensures.commit)
    c.into_parts-commit.ensures.groups c.length-number.ensures.value
    c.note_all.ensures.lasts c.note_all.ensures.commits c.end_commit.ensures
