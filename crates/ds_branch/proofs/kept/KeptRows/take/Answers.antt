use Rattle.std.proofs.Common.{ap, not, sym, ◌∙◌}
use Rattle.std.specs.List.{list_any}
use Rattle.ds_pages.specs.Marks.{is_same}
use Rattle.ds_pages.specs.Places.{placed}
use Rattle.ds_branch.specs.Kept.{is_known, with_row_if}
use Rattle.ds_branch.proofs.KeySets.{known_without, placed_if}
use Rattle.ds_branch.proofs.Readings.{is_placed}
use Rattle.ds_branch.proofs.OkLaws.{ok_then}
use Rattle.ds_branch.proofs.kept.KeptRows.take.Goals as goal

pub returns-then-self-clause-told : goal.returns-then-self-clause-told
returns-then-self-clause-told c = λ rows r told.
    let columns = c.args.columns.now in
    let row = placed columns r.row in
    let slots = c.args.self.now.firsts.slots in
    ok_then c.put_behind.result (c.put_behind.ensures rows r (told.all c.if-self.true)) (λ is_new p. (
      record {
        bare = told.bare;
        all = λ e. p.0;
        keys = λ e by. absurd (cc (sym e ∙ c.if-self.true));
        marks = λ e by. absurd (cc (sym e ∙ c.if-self.true));
        placed = placed_if columns is_new rows row told.placed (is_placed columns c.args.place.now r);
      },
      p.1 ∙ ap (λ b. not (is_known b slots rows row)) (sym c.if-self.true),
    ))

pub returns-then-self-2-clause-told : goal.returns-then-self-2-clause-told
returns-then-self-2-clause-told c = λ rows r told.
    let row = placed c.args.columns.now r.row in
    ok_then c.put_by_key.result (c.put_by_key.ensures rows r (told.keys c.if-self.false c.if-self-2.true)) (λ is_new p. (
      record {
        bare = told.bare;
        all = λ e. absurd (cc (sym e ∙ c.if-self.false));
        keys = λ e by. p.are;
        marks = λ e by. absurd (cc (sym by ∙ c.if-self-2.true));
        placed = p.are.placed;
      },
      p.new ∙ ap not (sym (known_without row rows))
          ∙ (λ i. not (is_known (sym c.if-self.false i) (sym (told.bare c.if-self-2.true) i) rows row)),
    ))

pub returns-else-self-2-clause-told : goal.returns-else-self-2-clause-told
returns-else-self-2-clause-told c = λ rows r told.
    let columns = c.args.columns.now in
    let row = placed columns r.row in
    let slots = c.args.self.now.firsts.slots in
    let all = told.marks c.if-self.false c.if-self-2.false in
    ok_then c.put_by_mark.result (c.put_by_mark.ensures.rows r) (λ is_new p. (
      record {
        bare = λ by. absurd (cc (sym by ∙ c.if-self-2.false));
        all = λ e. absurd (cc (sym e ∙ c.if-self.false));
        keys = λ e by. absurd (cc (sym by ∙ c.if-self-2.false));
        marks = λ e by. p.0 ∙ ap (λ rs. with_row_if is_new rs row) all;
        placed = placed_if columns is_new rows row told.placed (is_placed columns c.args.place.now r);
      },
      p.1 ∙ ap (λ rs. not (list_any (is_same slots row) rs)) all
          ∙ ap (λ b. not (is_known b slots rows row)) (sym c.if-self.false),
    ))
