use Rattle.std.proofs.Common.{◌++◌, ◌∷◌, [], ap, cond, sym, ◌∙◌, subst}
use Rattle.ds_pages.specs.Places.{placed}
use Rattle.ds_branch.specs.Kept.{AreTold, with_one, with_row_if}
use Rattle.ds_branch.proofs.KeptLaws.{last_put, last_stays, one_is}
use Rattle.ds_branch.proofs.KeptPlaces.{place_put, places_stay}
use Rattle.ds_branch.proofs.kept.KeptRows.put.Goals as goal

pub returns-then-not-is_new-clause-rows : goal.returns-then-not-is_new-clause-rows
returns-then-not-is_new-clause-rows c = λ rows r kept.
    let columns = c.args.columns.now in
    let row = placed columns r.row in
    let k = c.args.self.now in
    let told = c.in_ok-is_new.ensures.told rows r kept.told in
    let same = ap (λ b. with_row_if b rows row) told.1 ∙ one_is k.keeps_all k.firsts.slots rows row in
    record {
      told = subst (AreTold columns c.take.new.self) same told.0;
      last = last_stays rows (with_one k.keeps_all k.firsts.slots rows row) k.last.items c.take.new.self.last.items
          (sym same ∙ ap (λ b. with_row_if b rows row) c.if-not-is_new.true) c.take.ensures.last kept.last;
      places = λ keeps. places_stay columns rows (with_one k.keeps_all k.firsts.slots rows row) k.places.items c.take.new.self.places.items
          (sym same ∙ ap (λ b. with_row_if b rows row) c.if-not-is_new.true) c.take.ensures.places
          (kept.places (sym c.take.ensures.same.places ∙ keeps));
    }

pub returns-clause-rows : goal.returns-clause-rows
returns-clause-rows c = λ rows r kept.
    let columns = c.args.columns.now in
    let row = placed columns r.row in
    let k = c.args.self.now in
    let told = c.in_ok-is_new.ensures.told rows r kept.told in
    let same = ap (λ b. with_row_if b rows row) told.1 ∙ one_is k.keeps_all k.firsts.slots rows row in
    let t = subst (AreTold columns c.take.new.self) same told.0 in
    record {
      told = record { bare = t.bare; all = t.all; keys = t.keys; marks = t.marks; placed = t.placed };
      last = last_put rows (with_one k.keeps_all k.firsts.slots rows row) row c.extend_from_slice.new.self.items
          (sym same ∙ ap (λ b. with_row_if b rows row) c.if-not-is_new.false)
          (c.in_ok-extend_from_slice.ensures.items ∙ ap (λ bs. bs ++ c.args.place.now) c.clear.ensures.items ∙ r.written);
      places = λ keeps. place_put columns c.args.place.now r rows (with_one k.keeps_all k.firsts.slots rows row) k.places.items
          c.put_place.new.places.items (sym same ∙ ap (λ b. with_row_if b rows row) c.if-not-is_new.false)
          (c.in_ok-put_place.ensures
          ∙ (λ i. cond (keeps i) (c.take.ensures.places i ++ c.args.place.now ∷ []) (c.take.ensures.places i)))
          (kept.places (sym c.take.ensures.same.places ∙ keeps));
    }
