-- Results, counts, columns and index definitions as JSON.
use Rattle.std.specs.Prelude.{ℕ, List, [], ◌∷◌, Bool, true, false, codes}
use Rattle.serde_json.specs.Data.{Data, boolean, string, array, Items, no_items, item}
use Rattle.ds_base.specs.declared.index_value.IndexValue.{IndexValue}
use Rattle.ds_base.specs.declared.column.Column.{Column}
use Rattle.ds_entity.specs.declared.results.Item.{Item}
use Rattle.ds_indexdef.specs.declared.IndexDef.{IndexDef}
use Rattle.ds_json_printing.specs.Objects.{Named, named, object_of}
use Rattle.ds_json_printing.specs.Printing.{natural, key_data, index_value_data}
use Rattle.ds_reply.specs.EntityPrinting.{optional_entity_data}
use Rattle.ds_query.specs.declared.query.Select.{Select}
use Rattle.ds_query.specs.declared.query.Select.TheVariants as select
use Rattle.ds_query.specs.declared.refusal.Constraint.{Constraint}
use Rattle.ds_query.specs.declared.refusal.Constraint.TheVariants as constraint

-- a projection's values under their names
abbrev pub projected : List (List ℕ) → List IndexValue → List Named
projected [] vs = []
projected (n ∷ ns) [] = []
projected (n ∷ ns) (v ∷ vs) = named n (index_value_data v) ∷ projected ns vs

-- a result of a query: the entity, its key, or its key with the values of a projection
abbrev pub result_data : Select → Item → Data
result_data select.Entities it = optional_entity_data it.entity
result_data select.Keys it = key_data it.key
result_data (select.Projection names) it =
    object_of (named (codes "key") (key_data it.key) ∷ named (codes "properties") (object_of (projected names it.projected)) ∷ [])

abbrev pub result_items : Select → List Item → Items
result_items s [] = no_items
result_items s (it ∷ its) = item (result_data s it) (result_items s its)

abbrev pub count_items : List ℕ → Items
count_items [] = no_items
count_items (n ∷ ns) = item (natural n) (count_items ns)

abbrev pub direction_name : Bool → List ℕ
direction_name true = codes "desc"
direction_name false = codes "asc"

abbrev pub column_data : Column → Data
column_data c = array (item (string c.name) (item (string (direction_name c.descending)) no_items))

abbrev pub column_items : List Column → Items
column_items [] = no_items
column_items (c ∷ cs) = item (column_data c) (column_items cs)

-- what no index serves
abbrev pub constraint_data : Constraint → Data
constraint_data constraint.Columns = string (codes "columns")
constraint_data constraint.Ancestor = string (codes "ancestor")
constraint_data (constraint.Equal pair) =
    object_of (named (codes "property") (string pair.property) ∷ named (codes "value") (index_value_data pair.value) ∷ [])

abbrev pub index_def_data : IndexDef → Data
index_def_data d = object_of (
    named (codes "ancestor") (boolean d.ancestor)
    ∷ named (codes "kind") (string d.kind)
    ∷ named (codes "properties") (array (column_items d.columns)) ∷ [])
