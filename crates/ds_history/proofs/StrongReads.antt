-- A query with an ancestor sees of the commits that wrote its group what it sees of the whole journal.
use Rattle.std.proofs.Common.{◌≡◌, ℕ, ◌≤◌, Bool, true, false, cond, List, [], ◌∷◌, ◌++◌, length, take, refl, ap, sym, ◌∙◌}
use Rattle.std.proofs.lemmas.List.Elements.{filter-append}
use Rattle.ds_base.specs.declared.column.Column.{Column}
use Rattle.ds_entity.specs.Entities.{EntityParts}
use Rattle.ds_entity.specs.EntityOrder.{sorted_by_key}
use Rattle.ds_base.specs.Keys.{KeyParts, root_of}
use Rattle.ds_base.specs.KeyOrder.{same_key}
use Rattle.ds_query.specs.declared.branch.Normal.{Normal}
use Rattle.ds_query.specs.declared.branch.Window.{Window}
use Rattle.ds_query.specs.declared.query.Select.{Select}
use Rattle.ds_log.specs.declared.Commit.{Commit}
use Rattle.ds_log.specs.After.{after}
use Rattle.ds_log.specs.Conflicts.{writes_group}
use Rattle.ds_log.specs.Logs.{group_of, group_writes, writes_of}
use Rattle.ds_model.specs.Results.{items_of, result}
use Rattle.ds_model.specs.Views.{strong_view}
use Rattle.ds_model.proofs.AncestorResults.{HaveAncestor, items_same, result_cut, result_in}
use Rattle.ds_model.proofs.DistinctKeys.{KeysDiffer-after}
use Rattle.ds_model.proofs.GroupViews.{cut, cut_view, unwritten}
use Rattle.ds_model.proofs.ResultOrder.{items_sorted, result_sorted}
use Rattle.ds_history.specs.Writers.{writing}

-- the commits that wrote a group have all writes to it
own_writes : (g : KeyParts) (cs : List Commit) → group_writes g (writes_of (writing g cs)) ≡ group_writes g (writes_of cs)
own_writes g [] = refl
own_writes g (c ∷ cs) = by (own_writes g cs) (writes_group g c.writes) refl ∙ sym (filter-append (λ w. same_key (group_of w) g) c.writes (writes_of cs)) where
  by : group_writes g (writes_of (writing g cs)) ≡ group_writes g (writes_of cs) → (b : Bool) → writes_group g c.writes ≡ b
      → group_writes g (writes_of (cond b (c ∷ writing g cs) (writing g cs))) ≡ group_writes g c.writes ++ group_writes g (writes_of cs)
  by rest true is =
      filter-append (λ w. same_key (group_of w) g) c.writes (writes_of (writing g cs))
      ∙ ap (λ ws. group_writes g c.writes ++ ws) rest
  by rest false is = rest ∙ ap (λ ws. ws ++ group_writes g (writes_of cs)) (sym (unwritten g c.writes is))

module _ (journal : List Commit) (m : ℕ) (ancestor : KeyParts) (some : 1 ≤ length ancestor.elems) where
  -- what the commits that wrote the ancestor's group leave
  abbrev pub own_entities : List EntityParts
  own_entities = after (writes_of (writing (root_of ancestor) (take m journal)))

  cut_same : cut (root_of ancestor) own_entities ≡ cut (root_of ancestor) (strong_view journal m)
  cut_same =
      cut_view (root_of ancestor) (writes_of (writing (root_of ancestor) (take m journal)))
      ∙ ap after (own_writes (root_of ancestor) (take m journal))
      ∙ sym (cut_view (root_of ancestor) (writes_of (take m journal)))

  -- The query has the results that it has over the strong view.
  pub group_result : (n : Normal) (w : Window) → HaveAncestor ancestor n.branches
      → result n w (sorted_by_key own_entities) ≡ result n w (strong_view journal m)
  group_result n w has =
      result_sorted n w own_entities
      ∙ sym (result_cut ancestor some n w own_entities has)
      ∙ ap (result n w) cut_same
      ∙ result_cut ancestor some n w (strong_view journal m) has

  -- And the same is told of its rows.
  pub group_items : (n : Normal) (w : Window) (columns : List Column) (selected : Select) → HaveAncestor ancestor n.branches
      → items_of columns selected (sorted_by_key own_entities) (result n w (strong_view journal m)).rows
      ≡ items_of columns selected (strong_view journal m) (result n w (strong_view journal m)).rows
  group_items n w columns selected has =
      let rs = (result n w (strong_view journal m)).rows in
      items_sorted columns selected own_entities rs (KeysDiffer-after (writes_of (writing (root_of ancestor) (take m journal))))
      ∙ items_same (root_of ancestor) own_entities (strong_view journal m) cut_same columns selected rs
      (result_in ancestor some n w (strong_view journal m) has)
