-- A lawful branch without a kind misses nothing: the index of all entities by key serves it, whatever the definitions are.
use Rattle.std.proofs.Common.{◌≡◌, List, [], ◌∷◌, Bool, true, false, ◌||◌, cond, refl, sym, ap, subst, ◌∙◌, Option, Some, None, option_map}
use Rattle.std.proofs.Common.{option_and_then}
use Rattle.std.specs.Prelude.{is_none}
use Rattle.ds_base.specs.declared.column.Column.{Column}
use Rattle.ds_indexdef.specs.declared.IndexDef.{IndexDef}
use Rattle.ds_query.specs.declared.branch.Branch.{Branch}
use Rattle.ds_query.specs.declared.branch.Pair.{Pair}
use Rattle.ds_query.specs.ColumnLists.{ascending}
use Rattle.ds_base.specs.KeyColumn.{key_name, is_by_key}
use Rattle.ds_query.specs.Lawful.{IsLawfulBranch}
use Rattle.ds_planner.specs.declared.planned.PlannedIndex.TheVariants as index
use Rattle.ds_planner.specs.Indexes.{by_key, in_front_of, are_paired, is_candidate, binds_ancestor, has_flag, leads}
use Rattle.ds_planner.specs.Missing.{candidates, constraint_of, missing_of, suggestion_of}
use Rattle.ds_planner.proofs.ColumnEnds.{front_by_key}
use Rattle.ds_planner.proofs.Members.{Member}
use Rattle.ds_planner.proofs.Served.{are_some-member, candidate_listed, candidate_passes, nothing_missing}

module _ (b : Branch) (defs : List IndexDef) (lawful : IsLawfulBranch b) (none : b.kind ≡ None) where
  by_key_serves : is_candidate b defs index.AllByKey ≡ true
  by_key_serves =
      (λ i. are_paired b.equal (option_and_then (in_front_of ((lawful.kindless none).key_order i)) (cond (is_none (none i)) (Some by_key) None)))
      ∙ ap (are_paired b.equal) (front_by_key (ascending key_name) [])

  no_pair : (p : Pair) → Member p b.equal → leads b defs index.AllByKey p.property ≡ true
  no_pair p m = absurd (subst (Member p) (lawful.kindless none).no_pair m)

  binds : binds_ancestor b defs index.AllByKey ≡ true
  binds = ap (λ columns. is_by_key columns || has_flag defs index.AllByKey) (lawful.kindless none).key_order

  pub kindless_misses_nothing : missing_of b defs ≡ None
  kindless_misses_nothing =
      ap (option_map (λ c. record { constraint = c; suggestion = suggestion_of b }))
      (nothing_missing b defs (record {
        some = are_some-member (candidates b defs) index.AllByKey (candidate_listed b defs lawful.key_last index.AllByKey by_key_serves);
        ancestor = λ e. candidate_passes b defs lawful.key_last (binds_ancestor b defs) index.AllByKey by_key_serves binds;
        each = λ p m. candidate_passes b defs lawful.key_last (λ i. leads b defs i p.property) index.AllByKey by_key_serves (no_pair p m);
      }))
