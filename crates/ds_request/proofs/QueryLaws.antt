-- Queries of common lines.
use Rattle.std.proofs.Common.{◌≡◌, ℕ, List, [], Bool, false, Option, Ok, codes, refl}
use Rattle.serde_json.specs.Data.{Members}
use Rattle.ds_base.specs.declared.column.Column.{Column}
use Rattle.ds_base.specs.Keys.{KeyParts}
use Rattle.ds_query.specs.declared.query.Filter.{Filter}
use Rattle.ds_query.specs.declared.query.Select.{Select}
use Rattle.ds_query.specs.declared.query.Select.TheVariants as select
use Rattle.ds_json_reading.specs.Reading.{member_of, optional, defaulted, list_of}
use Rattle.ds_json_reading.specs.Keys.{key_of}
use Rattle.ds_member_reading.specs.Forms.{text_of, name_of, namespace_of, flag_of, results_of, filter_of, order_of, select_of}
use Rattle.ds_request.specs.declared.call.Call.TheVariants as call
use Rattle.ds_request.specs.Requests.{query_call_of}

module _ (client : ℕ) (ms : Members) where
  pub query_made : (namespace : List ℕ) (kind : Option (List ℕ)) (ancestor : Option KeyParts) (filters : List Filter) (orders : List Column) (selected : Select) (offset : ℕ) (limit : Option ℕ)
      (start end : Option (List ℕ)) (cursor : Bool) → defaulted [] namespace_of (member_of (codes "namespace") ms) ≡ Ok namespace → optional name_of (member_of (codes "kind") ms) ≡ Ok kind
      → optional key_of (member_of (codes "ancestor") ms) ≡ Ok ancestor → defaulted [] (list_of filter_of) (member_of (codes "filters") ms) ≡ Ok filters
      → defaulted [] (list_of order_of) (member_of (codes "orders") ms) ≡ Ok orders → defaulted select.Entities select_of (member_of (codes "select") ms) ≡ Ok selected
      → defaulted 0 results_of (member_of (codes "offset") ms) ≡ Ok offset → optional results_of (member_of (codes "limit") ms) ≡ Ok limit → optional text_of (member_of (codes "start") ms) ≡ Ok start
      → optional text_of (member_of (codes "end") ms) ≡ Ok end → defaulted false flag_of (member_of (codes "cursor") ms) ≡ Ok cursor
      → query_call_of client ms ≡ Ok (call.Query namespace kind ancestor filters orders selected offset limit start end cursor)
  query_made namespace kind ancestor filters orders selected offset limit start end cursor a b c d e f g h i j k = rw (a, b, c, d, e, f, g, h, i, j, k) refl
