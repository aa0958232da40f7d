-- The rows of a branch as members: of which entity each is, and by which values.
use Rattle.std.proofs.Common.{◌≡◌, List, [], ◌∷◌, true, refl, sym, ap, subst, map, Some}
use Rattle.std.proofs.Common.{None, Option}
use Rattle.std.specs.Prelude.{ℕ, filter, flat_map, find, bytes_eq, All}
use Rattle.std.specs.Option.{option_map_or}
use Rattle.std.proofs.lemmas.List.Elements.{All-nil, All-cons}
use Rattle.ds_base.specs.declared.column.Column.{Column}
use Rattle.ds_base.specs.declared.index_value.IndexValue.{IndexValue}
use Rattle.ds_entity.specs.declared.entity.Property.{Property}
use Rattle.ds_entity.specs.Entities.{EntityParts}
use Rattle.ds_bytes.specs.Lawful.{IsLawfulValue}
use Rattle.ds_bytes.specs.Rows.{RowParts}
use Rattle.ds_query.specs.declared.branch.Branch.{Branch}
use Rattle.ds_planner.proofs.Members.{Member, find_member, filter_member, member_filter, member_map, map_member, member_flat_map}
use Rattle.ds_rows.specs.IndexedValues.{property_values, each_way}
use Rattle.ds_rows.specs.Indexable.{IsIndexable}
use Rattle.ds_model.specs.Rows.{rows, entity_rows, is_found, is_within, first_value}
use Rattle.ds_query.specs.RowValues.{value_columns}
use Rattle.ds_branch.proofs.ScanColumns.{values_in}
use Rattle.ds_branch.proofs.Ways.{AreTaken, way_taken, taken_way}
use Rattle.ds_scan.proofs.MemberLists.{all_member, flat_map_member}

-- ---- the rows of an entity

pub entity_row : (columns : List Column) (e : EntityParts) (r : RowParts) → Member r (entity_rows columns e)
    → (r.key ≡ e.key) × AreTaken (map (values_in e) (value_columns columns)) r.values
entity_row columns e r m =
    let f : List IndexValue → RowParts = λ (vs : List IndexValue). record { values = vs; key = e.key } in
    let w = map_member f (each_way (map (values_in e) (value_columns columns))) r m in (
      ap (λ (s : RowParts). s.key) w.1.1,
      subst (λ (s : RowParts). AreTaken (map (values_in e) (value_columns columns)) s.values) (sym w.1.1)
          (way_taken (map (values_in e) (value_columns columns)) w.0 w.1.0),
    )

pub row_entity : (columns : List Column) (e : EntityParts) (values : List IndexValue)
    → AreTaken (map (values_in e) (value_columns columns)) values
    → Member (record { values = values; key = e.key }) (entity_rows columns e)
row_entity columns e values t =
    let f : List IndexValue → RowParts = λ (vs : List IndexValue). record { values = vs; key = e.key } in
    member_map f (each_way (map (values_in e) (value_columns columns))) values
    (taken_way (map (values_in e) (value_columns columns)) values t)

-- ---- the rows of a branch

-- a row of an entity that counts, with its first value within the range
pub record IsRowOfEntity (q : Branch) (entities : List EntityParts) (r : RowParts) : Type 0 where
  pub entity : EntityParts
  pub there : Member entity entities
  pub counts : is_found q entity ≡ true
  pub row : Member r (entity_rows q.columns entity)
  pub within : is_within q.range (first_value r) ≡ true

pub row_member : (q : Branch) (entities : List EntityParts) (r : RowParts) → Member r (rows q entities) → IsRowOfEntity q entities r
row_member q entities r m =
    let all = flat_map (entity_rows q.columns) (filter (is_found q) entities) in
    let inside = filter_member (λ (s : RowParts). is_within q.range (first_value s)) all r m in
    let from = flat_map_member (entity_rows q.columns) (filter (is_found q) entities) r inside.0 in
    let counts = filter_member (is_found q) entities from.0 from.1.0 in
    record { entity = from.0; there = counts.0; counts = counts.1; row = from.1.1; within = inside.1 }

pub member_row : (q : Branch) (entities : List EntityParts) (r : RowParts) → IsRowOfEntity q entities r → Member r (rows q entities)
member_row q entities r is =
    member_filter (λ (s : RowParts). is_within q.range (first_value s)) (flat_map (entity_rows q.columns) (filter (is_found q) entities)) r
    (member_flat_map (entity_rows q.columns) (filter (is_found q) entities) is.entity r
    (member_filter (is_found q) entities is.entity is.there is.counts) is.row) is.within

-- ---- the values of an entity

value_lawful : (ps : List Property) (name : List ℕ) (v : IndexValue) → All (λ p. All IsLawfulValue (property_values p)) ps
    → Member v (option_map_or property_values (find (λ p. bytes_eq p.name name) ps) []) → IsLawfulValue v
value_lawful ps name v all m = by (find (λ (p : Property). bytes_eq p.name name) ps) refl m where
  by : (o : Option Property) → find (λ (p : Property). bytes_eq p.name name) ps ≡ o → Member v (option_map_or property_values o [])
      → IsLawfulValue v
  by None e m = absurd m
  by (Some p) e m =
      let f = find_member (λ (x : Property). bytes_eq x.name name) ps p e in
      all_member IsLawfulValue (property_values p) v
      (all_member (λ (x : Property). All IsLawfulValue (property_values x)) ps p all f.0) m

pub taken_lawful : (e : EntityParts) → IsIndexable e → (cs : List Column) (vs : List IndexValue) → AreTaken (map (values_in e) cs) vs
    → All IsLawfulValue vs
taken_lawful e p [] [] t = All-nil IsLawfulValue
taken_lawful e p [] (v ∷ vs) t = absurd t
taken_lawful e p (c ∷ cs) [] t = absurd t
taken_lawful e p (c ∷ cs) (v ∷ vs) t =
    All-cons IsLawfulValue v vs (value_lawful e.properties c.name v p.values t.0) (taken_lawful e p cs vs t.1)
