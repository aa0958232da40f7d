-- The definitions of results, computed over small lists of entities.
use Rattle.std.specs.Prelude.{◌≡◌, ℕ, pos, List, [], ◌∷◌, true, false, Some, None, Err, codes, map, refl}
use Rattle.std.specs.List.{range_with_len}
use Rattle.ds_base.specs.declared.column.Column.{Column}
use Rattle.ds_entity.specs.declared.entity.Property.{Property}
use Rattle.ds_base.specs.declared.key.Ident.TheVariants.{Name}
use Rattle.ds_entity.specs.declared.results.Item.{Item}
use Rattle.ds_base.specs.declared.index_value.IndexValue.{IndexValue}
use Rattle.ds_base.specs.declared.index_value.IndexValue.TheVariants as index
use Rattle.ds_base.specs.declared.value.Value.{Value}
use Rattle.ds_base.specs.declared.value.Value.TheVariants as value
use Rattle.ds_base.specs.Keys.{KeyParts}
use Rattle.ds_entity.specs.Entities.{EntityParts}
use Rattle.ds_query.specs.declared.branch.Window.{Window}
use Rattle.ds_query.specs.declared.query.Filter.{Filter}
use Rattle.ds_query.specs.declared.query.Op.{Op}
use Rattle.ds_query.specs.declared.query.Op.TheVariants as op
use Rattle.ds_query.specs.declared.query.Query.{Query}
use Rattle.ds_query.specs.declared.query.Select.{Select}
use Rattle.ds_query.specs.declared.query.Select.TheVariants as select
use Rattle.ds_query.specs.declared.refusal.QueryRefused.TheVariants as refused
use Rattle.ds_query.specs.Normals.{normal_form, normal_of}
use Rattle.ds_model.specs.Results.{result, items_of}

-- ---- small things

abbrev key : List ℕ → KeyParts
key name = record { namespace = []; elems = (record { kind = codes "T"; ident = Name name }) ∷ [] }

abbrev entity : List ℕ → List Property → EntityParts
entity name properties = record { key = key name; properties = properties }

abbrev property : List ℕ → List Value → Property
property name values = record { name = name; indexed = true; values = values }

abbrev int : ℕ → Value
int n = value.Int (pos n)

abbrev filtered : List ℕ → Op → List Value → Filter
filtered name o values = record { property = name; op = o; values = values }

abbrev ascending : List ℕ → Column
ascending name = record { name = name; descending = false }

abbrev descending : List ℕ → Column
descending name = record { name = name; descending = true }

-- the query of kind T with these filters and orders
abbrev query : List Filter → List Column → Select → Query
query filters orders selected = record {
  namespace = [];
  kind = Some (codes "T");
  ancestor = None;
  filters = filters;
  orders = orders;
  select = selected;
  cursors = false;
}

-- all results
abbrev whole : Window
whole = record { start = None; end = None; offset = 0; limit = None }

abbrev items : Query → Window → List EntityParts → List Item
items q w entities = items_of (normal_form q).merged q.select entities (result (normal_form q) w entities).rows

-- the names of the keys of a query's results
abbrev keys : Query → Window → List EntityParts → List KeyParts
keys q w entities = map (λ (i : Item). i.key) (items q w entities)

-- ---- first occurrence: an entity with 1 and 9 comes before one with 4 to 7 in both directions

abbrev many_valued : List EntityParts
many_valued =
    entity (codes "a") (property (codes "v") (int 1 ∷ int 9 ∷ []) ∷ [])
    ∷ entity (codes "b") (property (codes "v") (int 4 ∷ int 5 ∷ int 6 ∷ int 7 ∷ []) ∷ [])
    ∷ []

abbrev by_v : Query
by_v = query [] (ascending (codes "v") ∷ []) select.Keys

ascending_order : keys by_v whole many_valued ≡ key (codes "a") ∷ key (codes "b") ∷ []
ascending_order = refl

descending_order : keys (query [] (descending (codes "v") ∷ []) select.Keys) whole many_valued ≡ key (codes "a") ∷ key (codes "b") ∷ []
descending_order = refl

-- ---- pages: behind the first row of `a` there is another one of it

abbrev first_page : Window
first_page = record { start = None; end = None; offset = 0; limit = Some 1 }

first_page_results : keys by_v first_page many_valued ≡ key (codes "a") ∷ []
first_page_results = refl

abbrev second_page : Window
second_page = record { start = (result (normal_form by_v) first_page many_valued).next; end = None; offset = 0; limit = None }

second_page_results : keys by_v second_page many_valued ≡ key (codes "b") ∷ key (codes "a") ∷ []
second_page_results = refl

-- ---- all inequalities are met by one value

between_values : keys (query (filtered (codes "v") op.Greater (int 3 ∷ []) ∷ filtered (codes "v") op.Less (int 6 ∷ []) ∷ []) [] select.Keys) whole many_valued ≡ key (codes "b") ∷ []
between_values = refl

-- ---- the order of the classes of values

abbrev of_each_class : List EntityParts
of_each_class =
    entity (codes "n") (property (codes "p") (value.Null ∷ []) ∷ [])
    ∷ entity (codes "i") (property (codes "p") (int 5 ∷ []) ∷ [])
    ∷ entity (codes "d") (property (codes "p") (value.Date (pos 5) ∷ []) ∷ [])
    ∷ entity (codes "t") (property (codes "p") (value.Bool true ∷ []) ∷ [])
    ∷ entity (codes "s") (property (codes "p") (value.Str (codes "a") ∷ []) ∷ [])
    ∷ entity (codes "y") (property (codes "p") (value.Bytes (codes "a") ∷ []) ∷ [])
    ∷ entity (codes "k") (property (codes "p") (value.Key (key (codes "n")) ∷ []) ∷ [])
    ∷ []

class_order : keys (query [] (ascending (codes "p") ∷ []) select.Keys) whole of_each_class ≡ map key (codes "n" ∷ codes "d" ∷ codes "i" ∷ codes "t" ∷ codes "s" ∷ codes "y" ∷ codes "k" ∷ [])
class_order = refl

-- ---- each equality may be met by a different value

abbrev tagged : List EntityParts
tagged =
    entity (codes "a") (property (codes "tags") (value.Str (codes "x") ∷ value.Str (codes "y") ∷ []) ∷ [])
    ∷ entity (codes "b") (property (codes "tags") (value.Str (codes "x") ∷ []) ∷ [])
    ∷ entity (codes "c") (property (codes "tags") (value.Str (codes "y") ∷ value.Str (codes "x") ∷ []) ∷ [])
    ∷ []

both_tags : keys (query (filtered (codes "tags") op.Equal (value.Str (codes "x") ∷ []) ∷ filtered (codes "tags") op.Equal (value.Str (codes "y") ∷ []) ∷ []) [] select.Keys) whole tagged ≡ key (codes "a") ∷ key (codes "c") ∷ []
both_tags = refl

-- ---- several branches

abbrev numbered : List EntityParts
numbered =
    entity (codes "a") (property (codes "v") (int 1 ∷ int 5 ∷ []) ∷ [])
    ∷ entity (codes "b") (property (codes "v") (int 4 ∷ []) ∷ [])
    ∷ entity (codes "c") (property (codes "v") (int 3 ∷ []) ∷ [])
    ∷ []

-- one of the numbers from 1 on
abbrev one_of : ℕ → Query
one_of most = query (filtered (codes "v") op.OneOf (map int (range_with_len 1 most)) ∷ []) [] select.Keys

thirty_values : keys (one_of 30) whole numbered ≡ key (codes "a") ∷ key (codes "b") ∷ key (codes "c") ∷ []
thirty_values = refl

too_many_values : normal_of (one_of 31) ≡ Err (refused.TooManySubqueries 31)
too_many_values = refl

not_three : keys (query (filtered (codes "v") op.NotEqual (int 3 ∷ []) ∷ []) (descending (codes "v") ∷ []) select.Keys) whole numbered ≡ key (codes "a") ∷ key (codes "b") ∷ []
not_three = refl

-- ---- a projection has a result for each way to take one value of each of its properties

abbrev dated : List EntityParts
dated =
    entity (codes "a") (property (codes "d") (value.Date (pos 7) ∷ []) ∷ property (codes "t") (value.Str (codes "x") ∷ value.Str (codes "y") ∷ []) ∷ [])
    ∷ entity (codes "b") (property (codes "d") (value.Date (pos 6) ∷ []) ∷ property (codes "t") (value.Str (codes "x") ∷ []) ∷ [])
    ∷ []

abbrev projected_item : List ℕ → List IndexValue → Item
projected_item name values = record { key = key name; entity = None; projected = values }

projected_results : items (query [] (ascending (codes "d") ∷ []) (select.Projection (codes "d" ∷ codes "t" ∷ []))) whole dated
    ≡ projected_item (codes "b") (index.Num (pos 6) ∷ index.Bytes (codes "x") ∷ [])
    ∷ projected_item (codes "a") (index.Num (pos 7) ∷ index.Bytes (codes "x") ∷ [])
    ∷ projected_item (codes "a") (index.Num (pos 7) ∷ index.Bytes (codes "y") ∷ [])
    ∷ []
projected_results = refl
