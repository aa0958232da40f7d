use Rattle.std.proofs.Common.{◌≡◌, ◌∙◌, [], ◌∷◌, ◌++◌, sym, ap, subst, refl}
use Rattle.std.specs.Prelude.{IsTrue}
use Rattle.ds_table.specs.Versions as table
use Rattle.ds_table.specs.Blocks.{versions}
use Rattle.ds_rows.specs.Rows.{rows_of}
use Rattle.ds_shard.specs.Histories.{ended}
use Rattle.std.specs.List.{AllByRecursion as Each}
use Rattle.ds_shard.specs.Rows.{all_closed}
use Rattle.ds_shard.specs.Contents.{ContentsParts, IsGiven, AreKept, LeadsBack}
use Rattle.ds_shard.proofs.Ends.{others-noted, noted_by}
use Rattle.ds_shard.proofs.Own.{none_current}
use Rattle.ds_shard.proofs.Undoing.{begun-given}
use Rattle.ds_shard.proofs.Writing.{Stays, rows_alive, end_kept, end_leads, part_leads}
use Rattle.ds_shard.proofs.contents.Contents.end.Goals as goal

pub returns-in-None-clause-entities : goal.returns-in-None-clause-entities
returns-in-None-clause-entities c =
    let in_it = c.self.inside in
    sym (subst (λ (d : ContentsParts). ended c.args.stamp c.args.key.now d.entities ≡ d.entities) c.self.view_is
    (none_current c.args.stamp c.args.key.now in_it.entities (sym c.in-None.ensures)))

pub returns-in-None-clause-leads_back : goal.returns-in-None-clause-leads_back
returns-in-None-clause-leads_back c =
    let now = c.args.self.now in
    part_leads c.args.stamp now now c.requires
    (record {
      definitions = refl;
      floor = refl;
      least = refl;
      least_undone = refl;
      last = c.requires.last;
      ends = refl;
      by =
          c.requires.ends;
    }) c.args.key.now refl refl

pub close_rows-requires-clause-alive : goal.close_rows-requires-clause-alive
close_rows-requires-clause-alive c =
    let in_it = c.self.inside in
    let old : ContentsParts = record { definitions = in_it.defs; table = in_it.table; entities = in_it.entities; ends = in_it.expiring } in
    let e = c.in-Some.entity.now in
    let kept : AreKept c.args.stamp old = subst (AreKept c.args.stamp) (sym c.self.view_is) c.requires in
    subst (Each (λ row. IsTrue (table.has_alive row (versions in_it.table)))) (sym c.in_ok-rows-in-Some.ensures.rows)
    (rows_alive c.args.stamp old kept e c.args.key.now (sym c.in-Some.ensures))

pub end-requires : goal.end-requires
end-requires c =
    begun-given c.args.stamp c.self.inside.entities
    (subst (λ (d : ContentsParts). Each (IsGiven c.args.stamp) d.entities) (sym c.self.view_is) c.requires.given)

pub returns-clause-kept : goal.returns-clause-kept
returns-clause-kept c =
    let in_it = c.self.inside in
    let stamp = c.args.stamp in
    let e = c.in-Some.entity.now in
    let old : ContentsParts = record { definitions = in_it.defs; table = in_it.table; entities = in_it.entities; ends = in_it.expiring } in
    let new : ContentsParts = record {
      definitions = in_it.defs;
      table = c.close_rows.new.table;
      entities = c.end.new.self;
      ends =
          c.push.new.self;
    } in
    let kept : AreKept stamp old = subst (AreKept stamp) (sym c.self.view_is) c.requires in
    let closed = c.close_rows.ensures in
    let noted : new.ends ≡ old.ends ++ record { stamp = stamp; key = c.args.key.now } ∷ [] =
    c.in_ok-push.ensures.noted ∙ ap (λ k. old.ends ++ record { stamp = stamp; key = k } ∷ []) c.in_ok-copy.ensures.copied in
    let stays : Stays stamp old new = record {
      definitions = refl;
      floor = closed.same_floor;
      least = closed.same_least;
      least_undone = closed.same_least_undone;
      last = closed.last;
      ends = others-noted stamp old.ends new.ends c.args.key.now noted;
      by = noted_by stamp old.ends new.ends c.args.key.now noted kept.ends;
    } in
    let rows : versions new.table ≡ all_closed stamp (versions old.table) (rows_of in_it.defs e) =
    closed.closed ∙ ap (all_closed stamp (versions old.table)) c.in_ok-rows-in-Some.ensures.rows in
    end_kept stamp old new kept stays c.args.key.now e (sym c.in-Some.ensures) c.in_ok-rows-in-Some.ensures.lawful rows c.end.ensures noted

pub returns-clause-leads_back : goal.returns-clause-leads_back
returns-clause-leads_back c =
    let in_it = c.self.inside in
    let stamp = c.args.stamp in
    let e = c.in-Some.entity.now in
    let old : ContentsParts = record { definitions = in_it.defs; table = in_it.table; entities = in_it.entities; ends = in_it.expiring } in
    let new : ContentsParts = record {
      definitions = in_it.defs;
      table = c.close_rows.new.table;
      entities = c.end.new.self;
      ends =
          c.push.new.self;
    } in
    let kept : AreKept stamp old = subst (AreKept stamp) (sym c.self.view_is) c.requires in
    let closed = c.close_rows.ensures in
    let noted : new.ends ≡ old.ends ++ record { stamp = stamp; key = c.args.key.now } ∷ [] =
    c.in_ok-push.ensures.noted ∙ ap (λ k. old.ends ++ record { stamp = stamp; key = k } ∷ []) c.in_ok-copy.ensures.copied in
    let stays : Stays stamp old new = record {
      definitions = refl;
      floor = closed.same_floor;
      least = closed.same_least;
      least_undone = closed.same_least_undone;
      last = closed.last;
      ends = others-noted stamp old.ends new.ends c.args.key.now noted;
      by = noted_by stamp old.ends new.ends c.args.key.now noted kept.ends;
    } in
    let rows : versions new.table ≡ all_closed stamp (versions old.table) (rows_of in_it.defs e) =
    closed.closed ∙ ap (all_closed stamp (versions old.table)) c.in_ok-rows-in-Some.ensures.rows in
    subst (λ (b : ContentsParts). LeadsBack stamp c.args.key.now b new) c.self.view_is
    (end_leads stamp old new kept stays c.args.key.now e (sym c.in-Some.ensures) c.in_ok-rows-in-Some.ensures.lawful rows c.end.ensures)
