-- The rows of a branch, entity by entity and way by way.
use Rattle.std.proofs.Common.{◌≡◌, Bool, true, false, List, [], ◌∷◌, ◌++◌, map, cond, length}
use Rattle.std.proofs.Common.{refl, sym, ap, ◌∙◌, append-nil, append_assoc, arith}
use Rattle.std.specs.Prelude.{filter}
use Rattle.std.proofs.lemmas.List.{map-append}
use Rattle.std.proofs.lemmas.List.Elements.{filter-append}
use Rattle.ds_entity.specs.Entities.{EntityParts}
use Rattle.ds_base.specs.Keys.{KeyParts}
use Rattle.ds_base.specs.declared.index_value.IndexValue.{IndexValue}
use Rattle.ds_bytes.specs.Rows.{RowParts}
use Rattle.ds_query.specs.declared.branch.Branch.{Branch}
use Rattle.ds_rows.specs.IndexedValues.{indexed_values, each_way}
use Rattle.ds_model.specs.Rows.{entity_rows, is_within, first_value}
use Rattle.ds_query.specs.RowValues.{value_columns}
use Rattle.ds_plain.specs.declared.found.Found.{Found}
use Rattle.ds_plain.specs.FoundRows.{found_parts, found_of, is_in}

-- the rows of one entity that are in the range
abbrev pub in_range : Branch → List RowParts → List RowParts
in_range q = filter (λ row. is_within q.range (first_value row))

-- rows without their places, through a test
pub parts-filter : (p : RowParts → Bool) (fs : List Found)
    → map found_parts (filter (λ f. p (found_parts f)) fs) ≡ filter p (map found_parts fs)
parts-filter p [] = refl
parts-filter p (f ∷ fs) = by (p (found_parts f)) (parts-filter p fs) where
  by : (b : Bool) → map found_parts (filter (λ f. p (found_parts f)) fs) ≡ filter p (map found_parts fs)
      → map found_parts (cond b (f ∷ filter (λ f. p (found_parts f)) fs) (filter (λ f. p (found_parts f)) fs))
      ≡ cond b (found_parts f ∷ filter p (map found_parts fs)) (filter p (map found_parts fs))
  by true later = ap (λ rs. found_parts f ∷ rs) later
  by false later = later

pub parts-ways : (key : KeyParts) (ways : List (List IndexValue))
    → map found_parts (map (found_of key) ways) ≡ map (λ vs. record { values = vs; key = key }) ways
parts-ways key [] = refl
parts-ways key (w ∷ ways) = ap (λ rs. found_parts (found_of key w) ∷ rs) (parts-ways key ways)

-- ---- the ways of one entity

-- one way more
pub way_put : {A B : Type 0} (p : B → Bool) (f : A → B) (done new : List B) (left rest : List A) (x : A) (whole : List B)
    → left ≡ x ∷ rest → new ≡ done ++ filter p (f x ∷ []) → done ++ filter p (map f left) ≡ whole
    → new ++ filter p (map f rest) ≡ whole
way_put p f done new left rest x whole next put all =
    ap (λ ys. ys ++ filter p (map f rest)) put
    ∙ append_assoc done (filter p (f x ∷ [])) (filter p (map f rest))
    ∙ ap (λ ys. done ++ ys) (sym (filter-append p (f x ∷ []) (map f rest)))
    ∙ ap (λ xs. done ++ filter p (map f xs)) (sym next)
    ∙ all

-- all ways
pub ways_put : (q : Branch) (e : EntityParts) (done old : List Found) (left lists : List (List IndexValue))
    → left ≡ [] → lists ≡ map (λ c. indexed_values e c.name) (value_columns q.columns)
    → done ++ filter (is_in q.range) (map (found_of e.key) left)
    ≡ old ++ filter (is_in q.range) (map (found_of e.key) (each_way lists))
    → map found_parts done ≡ map found_parts old ++ in_range q (entity_rows q.columns e)
ways_put q e done old left lists none_left are all =
    let last : done ≡ old ++ filter (is_in q.range) (map (found_of e.key) (each_way lists)) =
    sym (append-nil done)
    ∙ ap (λ ls. done ++ filter (is_in q.range) (map (found_of e.key) ls)) (sym none_left) ∙ all in
    ap (map found_parts) last
    ∙ map-append found_parts old (filter (is_in q.range) (map (found_of e.key) (each_way lists)))
    ∙ ap (λ rs. map found_parts old ++ rs)
    (parts-filter (λ row. is_within q.range (first_value row)) (map (found_of e.key) (each_way lists))
    ∙ ap (in_range q) (parts-ways e.key (each_way lists))
    ∙ ap (λ ls. in_range q (map (λ vs. record { values = vs; key = e.key }) (each_way ls))) are)

pub none : {A : Type 0} (xs : List A) → length xs ≡ 0 → xs ≡ []
none [] e = refl
none (x ∷ xs) e = absurd (omega arith)
