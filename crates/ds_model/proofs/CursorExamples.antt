-- Cursors, computed for the query of a kind over one entity.
use Rattle.std.specs.Prelude.{◌≡◌, ℕ, List, [], ◌∷◌, ◌++◌, Option, Some, None, Err, true, codes, refl}
use Rattle.ds_base.specs.declared.key.Ident.TheVariants.{Name}
use Rattle.ds_entity.specs.Entities.{EntityParts}
use Rattle.ds_cursor.specs.declared.cursor.CursorRefused.TheVariants as refused
use Rattle.ds_cursor.specs.Cursors.{PartsAre, cursor_bytes, parts_of_bytes}
use Rattle.ds_query.specs.declared.query.Query.{Query}
use Rattle.ds_query.specs.declared.query.Select.TheVariants as select
use Rattle.ds_query.specs.declared.row.Place.{Place}
use Rattle.ds_query.specs.Branching.{branch_of, unasked}
use Rattle.ds_query.specs.Normals.{normal_form}
use Rattle.ds_model.specs.Results.{result}

abbrev of_kind : List ℕ → Query
of_kind kind = record {
  namespace = [];
  kind = Some kind;
  ancestor = None;
  filters = [];
  orders = [];
  select = select.Entities;
  cursors = true;
}

abbrev tasks : Query
tasks = of_kind (codes "Task")

abbrev one_task : List EntityParts
one_task = (record { key = record { namespace = []; elems = (record { kind = codes "Task"; ident = Name (codes "a") }) ∷ [] }; properties = [] }) ∷ []

abbrev next_place : Option Place → ℕ → Option ℕ → Option Place
next_place start offset limit = (result (normal_form tasks) (record { start = start; end = None; offset = offset; limit = limit }) one_task).next

abbrev cursor : Option Place → List ℕ
cursor next = cursor_bytes (branch_of tasks unasked) next

-- the version, the length of the query bytes, the kind, and the only column
abbrev front : List ℕ
front =
    0x01 ∷ 0x00 ∷ 0x00 ∷ 0x00 ∷ 0x17 ∷ 0x01 ∷ 0x54 ∷ 0x61 ∷ 0x73 ∷ 0x6b ∷ 0x00 ∷ 0x01 ∷ 0x00 ∷ 0x00 ∷ 0x00
    ∷ 0x01 ∷ 0x5f ∷ 0x5f ∷ 0x6b ∷ 0x65 ∷ 0x79 ∷ 0x5f ∷ 0x5f ∷ 0x00 ∷ 0x01 ∷ 0x00 ∷ 0x00 ∷ 0x00 ∷ []

-- before the first row, and at the task
abbrev at_start : List ℕ
at_start = front ++ 0x00 ∷ []

abbrev at_task : List ℕ
at_task = front ++ 0x01 ∷ 0x02 ∷ 0x54 ∷ 0x61 ∷ 0x73 ∷ 0x6b ∷ 0x00 ∷ 0x01 ∷ 0x20 ∷ 0x61 ∷ 0x00 ∷ 0x01 ∷ 0x01 ∷ []

after_all : cursor (next_place None 0 None) ≡ at_task
after_all = refl

-- all results are skipped
after_offset : cursor (next_place None 5 None) ≡ at_task
after_offset = refl

-- no result is taken, from the first row on and from the task on
after_none : cursor (next_place None 0 (Some 0)) ≡ at_start
after_none = refl

after_none_later : cursor (next_place (next_place None 0 None) 0 (Some 0)) ≡ at_task
after_none_later = refl

-- ---- what the bytes of a text are to a query

-- another query's cursor is none of this one, and what is too short is none of any
of_another_kind : PartsAre (branch_of (of_kind (codes "U")) unasked) (parts_of_bytes at_task) (Err refused.CursorMismatch)
of_another_kind = refl

one_byte : PartsAre (branch_of tasks unasked) (parts_of_bytes (0x01 ∷ [])) (Err refused.BadCursor)
one_byte = refl
