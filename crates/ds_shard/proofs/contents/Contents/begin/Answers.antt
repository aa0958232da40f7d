use Rattle.std.proofs.Common.{◌≡◌, ◌∙◌, sym, ap, subst, refl}
use Rattle.std.specs.Prelude.{IsFalse}
use Rattle.ds_table.specs.Versions as table
use Rattle.ds_table.specs.Blocks.{versions}
use Rattle.ds_rows.specs.Rows.{rows_of}
use Rattle.ds_shard.specs.Histories.{IsOverAt}
use Rattle.std.specs.List.{AllByRecursion as Each}
use Rattle.ds_shard.specs.Rows.{all_added}
use Rattle.ds_shard.specs.Contents.{ContentsParts, AreKept, LeadsBack}
use Rattle.std.proofs.lemmas.Result.{on_ok_weaker}
use Rattle.ds_shard.proofs.Writing.{Stays, either, rows_not_alive, begin_kept, begin_leads, part_leads}
use Rattle.ds_shard.proofs.contents.Contents.begin.Goals as goal

pub add_rows-requires-clause-not_alive : goal.add_rows-requires-clause-not_alive
add_rows-requires-clause-not_alive c =
    let in_it = c.self.inside in
    let old : ContentsParts = record { definitions = in_it.defs; table = in_it.table; entities = in_it.entities; ends = in_it.expiring } in
    let e = c.args.entity.now in
    let kept : AreKept c.args.stamp old = subst (AreKept c.args.stamp) (sym c.self.view_is) c.requires.kept in
    let over : Each (IsOverAt c.args.stamp e.key) old.entities =
    subst (λ (d : ContentsParts). Each (IsOverAt c.args.stamp e.key) d.entities) (sym c.self.view_is) c.requires.over in
    subst (Each (λ row. IsFalse (table.has_alive row (versions in_it.table)))) (sym c.in_ok-rows.ensures.rows)
    (rows_not_alive c.args.stamp old kept e c.in_ok-rows.ensures.lawful over)

pub returns-in_err-add_rows-clause-leads_back : goal.returns-in_err-add_rows-clause-leads_back
returns-in_err-add_rows-clause-leads_back c =
    let in_it = c.self.inside in
    let stamp = c.args.stamp in
    let old : ContentsParts = record { definitions = in_it.defs; table = in_it.table; entities = in_it.entities; ends = in_it.expiring } in
    let new : ContentsParts = record {
      definitions = in_it.defs;
      table = c.add_rows.new.table;
      entities = in_it.entities;
      ends =
          in_it.expiring;
    } in
    let kept : AreKept stamp old = subst (AreKept stamp) (sym c.self.view_is) c.requires.kept in
    let added = c.add_rows.ensures in
    let stays : Stays stamp old new = record {
      definitions = refl;
      floor = added.same_floor;
      least = added.same_least;
      least_undone = added.same_least_undone;
      last = added.last;
      ends = refl;
      by = kept.ends;
    } in
    subst (λ (b : ContentsParts). LeadsBack stamp c.args.entity.now.key b new) c.self.view_is
    (part_leads stamp old new kept stays c.args.entity.now.key added.leads_back refl)

pub returns-clause-kept : goal.returns-clause-kept
returns-clause-kept c =
    let in_it = c.self.inside in
    let stamp = c.args.stamp in
    let e = c.args.entity.now in
    let old : ContentsParts = record { definitions = in_it.defs; table = in_it.table; entities = in_it.entities; ends = in_it.expiring } in
    let new : ContentsParts = record {
      definitions = in_it.defs;
      table = c.add_rows.new.table;
      entities = c.begin.new.self;
      ends =
          in_it.expiring;
    } in
    let kept : AreKept stamp old = subst (AreKept stamp) (sym c.self.view_is) c.requires.kept in
    let over : Each (IsOverAt stamp e.key) old.entities =
    subst (λ (d : ContentsParts). Each (IsOverAt stamp e.key) d.entities) (sym c.self.view_is) c.requires.over in
    let added = c.add_rows.ensures in
    let stays : Stays stamp old new = record {
      definitions = refl;
      floor = added.same_floor;
      least = added.same_least;
      least_undone = added.same_least_undone;
      last = added.last;
      ends = refl;
      by = kept.ends;
    } in
    let rows : versions new.table ≡ all_added stamp (versions old.table) (rows_of in_it.defs e) =
    c.in_ok-add_rows.ensures.added ∙ ap (all_added stamp (versions old.table)) c.in_ok-rows.ensures.rows in
    on_ok_weaker c.begin.result (λ is. begin_kept stamp old new kept stays e c.in_ok-rows.ensures.lawful over rows is refl)
    c.begin.ensures.begun

pub returns-clause-leads_back : goal.returns-clause-leads_back
returns-clause-leads_back c =
    let in_it = c.self.inside in
    let stamp = c.args.stamp in
    let e = c.args.entity.now in
    let old : ContentsParts = record { definitions = in_it.defs; table = in_it.table; entities = in_it.entities; ends = in_it.expiring } in
    let new : ContentsParts = record {
      definitions = in_it.defs;
      table = c.add_rows.new.table;
      entities = c.begin.new.self;
      ends =
          in_it.expiring;
    } in
    let kept : AreKept stamp old = subst (AreKept stamp) (sym c.self.view_is) c.requires.kept in
    let over : Each (IsOverAt stamp e.key) old.entities =
    subst (λ (d : ContentsParts). Each (IsOverAt stamp e.key) d.entities) (sym c.self.view_is) c.requires.over in
    let added = c.add_rows.ensures in
    let stays : Stays stamp old new = record {
      definitions = refl;
      floor = added.same_floor;
      least = added.same_least;
      least_undone = added.same_least_undone;
      last = added.last;
      ends = refl;
      by = kept.ends;
    } in
    subst (λ (b : ContentsParts). LeadsBack stamp e.key b new) c.self.view_is
    (either c.begin.result (λ is. begin_leads stamp old new kept stays e c.in_ok-rows.ensures.lawful over added.leads_back is) (λ is. part_leads stamp old new kept stays e.key added.leads_back is)
    c.begin.ensures.begun c.begin.ensures.unchanged)
