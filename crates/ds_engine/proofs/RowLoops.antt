-- Rows that are put behind others, item after item.
use Rattle.std.proofs.Common.{◌≡◌, ℕ, ◌+◌, ◌<◌, ◌≤◌, List, [], ◌∷◌, ◌++◌, length, map, take, get_or, refl, ap, sym, ◌∙◌, subst}
use Rattle.std.proofs.Common.{true, cond}
use Rattle.std.specs.Prelude.{All, flat_map}
use Rattle.std.proofs.Common.{append_assoc}
use Rattle.std.proofs.lemmas.List.{flat_map_more, map-append, take_all, take_more}
use Rattle.std.proofs.lemmas.List.Elements.{All-append}
use Rattle.ds_base.specs.declared.column.Column.{Column}
use Rattle.ds_bytes.specs.Rows.{RowParts}
use Rattle.ds_query.specs.declared.branch.Branch.{Branch}
use Rattle.ds_query.specs.declared.branch.Normal.{Normal}
use Rattle.ds_query.specs.declared.row.Row.{Row}
use Rattle.ds_pages.specs.Extended.{extended}
use Rattle.ds_pages.specs.Places.{IsPlaced, placed}
use Rattle.ds_branch.specs.Merging.{in_merged}
use Rattle.ds_engine.specs.Searches.{in_columns}

module _ {A : Type 0} (merged : List Column) (F : A → List RowParts) (xs : List A) (i : ℕ) (x : A) (below : i < length xs)
    (is : x ≡ get_or xs i x) where
  -- the rows of one item more
  pub rows-more : (first before list after : List Row) → before ≡ first ++ map (placed merged) (flat_map F (take i xs))
      → list ≡ map (placed merged) (F x) → after ≡ before ++ list
      → after ≡ first ++ map (placed merged) (flat_map F (take (i + 1) xs))
  rows-more first before list after so_far this put =
      put ∙ (λ j. so_far j ++ this j)
      ∙ append_assoc first (map (placed merged) (flat_map F (take i xs))) (map (placed merged) (F x))
      ∙ ap (λ zs. first ++ zs) (sym (map-append (placed merged) (flat_map F (take i xs)) (F x))
      ∙ ap (map (placed merged)) (ap (λ y. flat_map F (take i xs) ++ F y) is ∙ flat_map_more F [] (take i xs) (get_or xs i x)
      ∙ ap (flat_map F) (sym (take_more xs i x below))))

-- those of all items
pub rows-all : {A : Type 0} (merged : List Column) (F : A → List RowParts) (xs : List A) (i : ℕ) (first after : List Row) → length xs ≤ i
    → after ≡ first ++ map (placed merged) (flat_map F (take i xs)) → after ≡ first ++ map (placed merged) (flat_map F xs)
rows-all merged F xs i first after past all = all ∙ ap (λ ys. first ++ map (placed merged) (flat_map F ys)) (take_all i xs past)

-- rows that are put behind placed ones
pub placed-more : (columns : List Column) (before list after : List Row) → All (IsPlaced columns) before → All (IsPlaced columns) list
    → after ≡ before ++ list → All (IsPlaced columns) after
placed-more columns before list after all this put =
    subst (All (IsPlaced columns)) (sym put) (All-append (IsPlaced columns) before list all this)

-- rows of a branch that are put into the columns of a query
pub extended-rows : (n : Normal) (q : Branch) (parts : List RowParts) (rows : List Row) → n.several ≡ true
    → rows ≡ map (placed q.columns) parts → map (in_merged n.merged q) rows ≡ map (placed n.merged) (in_columns n q parts)
extended-rows n q parts rows several are =
    ap (map (in_merged n.merged q)) are
    ∙ each parts
    ∙ ap (λ b. map (placed n.merged) (cond b (map (extended n.merged q) parts) parts)) (sym several)
  where
    each : (rs : List RowParts)
        → map (in_merged n.merged q) (map (placed q.columns) rs) ≡ map (placed n.merged) (map (extended n.merged q) rs)
    each [] = refl
    each (r ∷ rs) = ap (λ zs. placed n.merged (extended n.merged q r) ∷ zs) (each rs)
