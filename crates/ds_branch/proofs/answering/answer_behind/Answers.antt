use Rattle.std.proofs.Common.{ℕ, List, map, refl, sym, subst, ◌∙◌, option_copied}
use Rattle.ds_indexdef.specs.declared.IndexDef.{IndexDef}
use Rattle.ds_zigzag.specs.CommonStrings.{IsCommon}
use Rattle.ds_rows.specs.Versions.{AreTables, entities_at}
use Rattle.ds_branch.specs.Common.{AreCommonRows}
use Rattle.ds_branch.specs.Places.{bytes_of, is_wanted, walk_steps}
use Rattle.ds_zigzag.specs.Walks.{steps_to_end}
use Rattle.ds_model.specs.Bounds.{given}
use Rattle.ds_pages.specs.Places.{placed}
use Rattle.ds_branch.proofs.Bounded.{told_within, refused_within, moved_steps}
use Rattle.ds_branch.specs.ScanLaws.{IsPlanned, rows_between}
use Rattle.ds_branch.proofs.CommonRows.{of_branch, plans_tell}
use Rattle.ds_branch.proofs.Ranged.{plan_strings_are, plan_passed_are, as_many_scans, on_err}
use Rattle.ds_branch.proofs.OkLaws.{ok_both, ok_then}
use Rattle.ds_branch.proofs.answering.answer_behind.Goals as goal

pub first_common-requires-clause-differ : goal.first_common-requires-clause-differ
first_common-requires-clause-differ g c = c.requires.lawful.names_differ

pub first_common-requires-clause-rows : goal.first_common-requires-clause-rows
first_common-requires-clause-rows g c = λ x common.
    let q = c.args.branch.now in
    let defs = c.args.defs.now in
    let scans = c.args.plan.now.scans in
    let end = option_copied c.args.end in
    let versions = g.T.Tables.versions c.args.tables.now in
    let planned : IsPlanned q defs scans c.args.at versions = record {
      branch = c.requires.lawful;
      suits = c.requires.suits;
      tables = subst (λ (ds : List IndexDef). AreTables ds c.args.at versions) (sym c.requires.definitions) c.stand.ensures;
      lawful = c.in_ok-scans.ensures.lawful;
      ends = c.in_ok-scans.ensures.ends;
    } in
    let listed = plan_strings_are g.T.Tables.definitions g.T.Tables.versions q defs scans c.args.at end c.args.tables.now
    c.as_mut_slice.result.now
    (c.as_mut_slice.ensures.value ∙ c.in_ok-scans.ensures.scans) c.requires.definitions in
    (of_branch q defs scans c.args.at versions end planned x (subst (λ (ls : List (List (List ℕ))). IsCommon ls x) listed common)).decodes

pub returns-clause-rows : goal.returns-clause-rows
returns-clause-rows g c =
    let q = c.args.branch.now in
    let defs = c.args.defs.now in
    let scans = c.args.plan.now.scans in
    let start = option_copied c.args.start in
    let end = option_copied c.args.end in
    let versions = g.T.Tables.versions c.args.tables.now in
    let planned : IsPlanned q defs scans c.args.at versions = record {
      branch = c.requires.lawful;
      suits = c.requires.suits;
      tables = subst (λ (ds : List IndexDef). AreTables ds c.args.at versions) (sym c.requires.definitions) c.stand.ensures;
      lawful = c.in_ok-scans.ensures.lawful;
      ends = c.in_ok-scans.ensures.ends;
    } in
    let listed = plan_strings_are g.T.Tables.definitions g.T.Tables.versions q defs scans c.args.at end c.args.tables.now
    c.as_mut_slice.result.now
    (c.as_mut_slice.ensures.value ∙ c.in_ok-scans.ensures.scans) c.requires.definitions in
    let sorted = rows_between q start end (entities_at c.args.at versions) in
    ok_then c.first_common.result c.first_common.ensures.rows (λ found rows. rows sorted
    (subst (λ (ls : List (List (List ℕ))). AreCommonRows q.columns (bytes_of start) ls sorted) (sym listed)
    (plans_tell q defs scans c.args.at versions start end planned)))

pub returns-clause-steps_bounded : goal.returns-clause-steps_bounded
returns-clause-steps_bounded g c = λ lean.
    let q = c.args.branch.now in
    let defs = c.args.defs.now in
    let scans = c.args.plan.now.scans in
    let start = option_copied c.args.start in
    let end = option_copied c.args.end in
    let tables = c.args.tables.now in
    let versions = g.T.Tables.versions tables in
    let planned : IsPlanned q defs scans c.args.at versions = record {
      branch = c.requires.lawful;
      suits = c.requires.suits;
      tables = subst (λ (ds : List IndexDef). AreTables ds c.args.at versions) (sym c.requires.definitions) c.stand.ensures;
      lawful = c.in_ok-scans.ensures.lawful;
      ends = c.in_ok-scans.ensures.ends;
    } in
    let made = c.as_mut_slice.ensures.value ∙ c.in_ok-scans.ensures.scans in
    let items = c.as_mut_slice.result.now in
    let strings = plan_strings_are g.T.Tables.definitions g.T.Tables.versions q defs scans c.args.at end tables items made
    c.requires.definitions in
    let passed = plan_passed_are g.T.Tables.definitions g.T.Tables.versions q defs scans c.args.at end tables items made
    c.requires.definitions in
    let many = as_many_scans q defs scans end (record { tables = tables; stamp = c.args.at }) items made in
    let sorted = rows_between q start end (entities_at c.args.at versions) in
    let common = subst (λ (ls : List (List (List ℕ))). AreCommonRows q.columns (bytes_of start) ls sorted) (sym strings)
    (plans_tell q defs scans c.args.at versions start end planned) in
    ok_both c.first_common.result c.first_common.ensures.rows c.first_common.ensures.steps_when_done (λ found rows steps.
    let is = rows sorted common in
    told_within q defs scans c.args.at versions start end planned lean c.args.most c.args.steps.now c.first_common.new.steps found.count
    found.last (map (placed q.columns) (given q start end c.args.most (entities_at c.args.at versions))) is.count is.last refl
    (moved_steps c.args.steps.now c.first_common.new.steps (λ n ss ps. walk_steps (is_wanted c.args.most found.count) n (bytes_of
    start) (bytes_of found.last) ss ps)
    _ _ _ _ _ _ many strings passed steps))

pub returns-clause-steps_when_refused : goal.returns-clause-steps_when_refused
returns-clause-steps_when_refused g c = λ lean.
    let q = c.args.branch.now in
    let defs = c.args.defs.now in
    let scans = c.args.plan.now.scans in
    let start = option_copied c.args.start in
    let end = option_copied c.args.end in
    let tables = c.args.tables.now in
    let versions = g.T.Tables.versions tables in
    let planned : IsPlanned q defs scans c.args.at versions = record {
      branch = c.requires.lawful;
      suits = c.requires.suits;
      tables = subst (λ (ds : List IndexDef). AreTables ds c.args.at versions) (sym c.requires.definitions) c.stand.ensures;
      lawful = c.in_ok-scans.ensures.lawful;
      ends = c.in_ok-scans.ensures.ends;
    } in
    let made = c.as_mut_slice.ensures.value ∙ c.in_ok-scans.ensures.scans in
    let items = c.as_mut_slice.result.now in
    let strings = plan_strings_are g.T.Tables.definitions g.T.Tables.versions q defs scans c.args.at end tables items made
    c.requires.definitions in
    let passed = plan_passed_are g.T.Tables.definitions g.T.Tables.versions q defs scans c.args.at end tables items made
    c.requires.definitions in
    let many = as_many_scans q defs scans end (record { tables = tables; stamp = c.args.at }) items made in
    on_err c.first_common.result c.first_common.ensures.steps_when_refused (λ steps.
    refused_within q defs scans c.args.at versions start end planned lean c.args.steps.now c.first_common.new.steps
    (moved_steps c.args.steps.now c.first_common.new.steps (λ n ss ps. steps_to_end n (bytes_of start) ss ps) _ _ _ _ _ _ many strings
    passed steps))
