-- What the lines of the load ask.
use Rattle.std.proofs.Common.{◌≡◌, ℕ, ◌+◌, ◌<◌, pos, List, [], ◌∷◌, refl, arith, false}
use Rattle.std.proofs.Common.{Some, None, lt-ltb, le-leb, mod-lt}
use Rattle.std.specs.Prelude.{codes, Ok, ◌%◌, ◌^◌}
use Rattle.serde_json.specs.Data.{Data}
use Rattle.ds_base.specs.declared.value.Value.TheVariants.{Int}
use Rattle.ds_query.specs.declared.query.Op.TheVariants as op
use Rattle.ds_query.specs.declared.query.Select.TheVariants as select
use Rattle.ds_request.specs.declared.call.Call.{Call}
use Rattle.ds_request.specs.declared.call.Call.TheVariants as call
use Rattle.ds_request.specs.declared.call.Request.{Request}
use Rattle.ds_request.specs.Requests.{data_request_of}
use Rattle.serde_json.specs.Data.{string, array, no_items, item}
use Rattle.ds_json_printing.specs.Objects.{named, object_of}
use Rattle.ds_json_printing.specs.Printing.{natural}
use Rattle.ds_reply.specs.EntityPrinting.{entity_data}
use Rattle.ds_load.specs.Items.{item_of, key_of_item, client_of_item}

-- ---- the lines as JSON

abbrev pub put_data : ℕ → Data
put_data i = object_of (
    named (codes "client") (natural (client_of_item i))
    ∷ named (codes "entity") (entity_data (item_of i))
    ∷ named (codes "op") (string (codes "put")) ∷ [])

abbrev pub settle_data : Data
settle_data = object_of (named (codes "op") (string (codes "settle")) ∷ [])

abbrev pair : Data → Data → Data
pair x y = array (item x (item y no_items))

abbrev equals : List ℕ → ℕ → Data
equals name n = array (item (string name) (item (string (codes "=")) (item (natural n) no_items)))

abbrev pub query_data : Data
query_data = object_of (
    named (codes "filters") (pair (equals (codes "a") 3) (equals (codes "b") 2))
    ∷ named (codes "kind") (string (codes "Item"))
    ∷ named (codes "op") (string (codes "query"))
    ∷ named (codes "orders") (array (item (pair (string (codes "c")) (string (codes "asc"))) no_items))
    ∷ named (codes "select") (array (item (string (codes "c")) no_items)) ∷ [])

-- ---- what they ask

abbrev pub settle_request : Request
settle_request = record { client = 0; call = call.Settle }

pub settle_asked : data_request_of (Some settle_data) ≡ Ok settle_request
settle_asked = refl

abbrev pub query_call : Call
query_call = call.Query [] (Some (codes "Item")) None
    ((record { property = codes "a"; op = op.Equal; values = Int (pos 3) ∷ [] }) ∷ (record {
      property = codes "b";
      op = op.Equal;
      values =
          Int (pos 2) ∷ [];
    }) ∷ [])
    ((record { name = codes "c"; descending = false }) ∷ []) (select.Projection (codes "c" ∷ [])) 0 None None None false

abbrev pub query_request : Request
query_request = record { client = 0; call = query_call }

pub query_asked : data_request_of (Some query_data) ≡ Ok query_request
query_asked = refl

abbrev pub put_request : ℕ → Request
put_request i = record { client = client_of_item i; call = call.Put (key_of_item i) false (item_of i).properties }

small_rest : (i n : ℕ) → 0 < n → i % n < n
small_rest i n some = mod-lt i some

pub put_asked : (i : ℕ) → i < 2 ^ 62 → data_request_of (Some (put_data i)) ≡ Ok (put_request i)
put_asked i fits =
    let by_four : i % 4 < 4 = small_rest i 4 (omega arith) in
    let by_ten : i % 10 < 10 = small_rest i 10 (omega arith) in
    let by_seven : i % 7 < 7 = small_rest i 7 (omega arith) in
    rw (
      lt-ltb (i % 4) 9223372036854775808 (omega arith),
      le-leb (i % 4) 15 (omega arith),
      lt-ltb (i + 1) 9223372036854775808 (omega arith),
      le-leb 1 (i + 1) (omega arith),
      le-leb (i + 1) 9223372036854775807 (omega arith),
      lt-ltb (i % 10) 9223372036854775808 (omega arith),
      lt-ltb (i % 7) 9223372036854775808 (omega arith),
      lt-ltb i 9223372036854775808 (omega arith),
    ) refl
