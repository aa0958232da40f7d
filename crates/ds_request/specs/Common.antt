-- What the members of a common line are read as, before it is known which of them its operation asks for.
use Rattle.std.proofs.Common.{◌≡◌, ℕ, List, [], ◌∷◌, false, Some, Ok, codes, IsTrue}
use Rattle.std.specs.Prelude.{⊤}
use Rattle.std.specs.Ordering.{is_lt}
use Rattle.serde_json.specs.Data.{Data, Members, no_members, member, put}
use Rattle.ds_base.specs.KeyOrder.{bytes_cmp}
use Rattle.ds_entity.specs.declared.entity.Property.{Property}
use Rattle.ds_json_reading.specs.Reading.{member_of, optional}
use Rattle.ds_json_reading.specs.Keys.{key_of}
use Rattle.ds_line_reading.specs.Tables.{is_among}
use Rattle.ds_line_reading.specs.TableLaws.{rest_other}
use Rattle.ds_member_reading.specs.Forms.{flag_of, client_of, count_of, shard_of}
use Rattle.ds_member_reading.specs.Queries.{query_names, HoldsQuery, kept_first, query_kept}
use Rattle.ds_request.specs.declared.common.members.LineTable.{LineTable}
use Rattle.ds_request.specs.Entities.{entity_of, property_of}
use Rattle.ds_request.specs.Requests.{operation_of}

-- the names of a line's members, each with those that follow it
abbrev from_shard : List (List ℕ)
from_shard = codes "shard" ∷ query_names

abbrev from_count : List (List ℕ)
from_count = codes "count" ∷ from_shard

abbrev from_xg : List (List ℕ)
from_xg = codes "xg" ∷ from_count

abbrev from_key : List (List ℕ)
from_key = codes "key" ∷ from_xg

abbrev from_client : List (List ℕ)
from_client = codes "client" ∷ from_key

abbrev from_entity : List (List ℕ)
from_entity = codes "entity" ∷ from_client

abbrev pub line_names : List (List ℕ)
line_names = codes "op" ∷ from_entity

-- each member by its form, or none where it is absent
abbrev pub HoldsLine : LineTable → Members → Type 0
HoldsLine table ms =
    (optional operation_of (member_of (codes "op") ms) ≡ Ok table.slots.0.found)
    × ((optional entity_of (member_of (codes "entity") ms) ≡ Ok table.slots.1.0.found)
    × ((optional client_of (member_of (codes "client") ms) ≡ Ok table.slots.1.1.0.found)
    × ((optional key_of (member_of (codes "key") ms) ≡ Ok table.slots.1.1.1.0.found)
    × ((optional flag_of (member_of (codes "xg") ms) ≡ Ok table.slots.1.1.1.1.0.found)
    × ((optional count_of (member_of (codes "count") ms) ≡ Ok table.slots.1.1.1.1.1.0.found)
    × ((optional shard_of (member_of (codes "shard") ms) ≡ Ok table.slots.1.1.1.1.1.1.0.found)
    × HoldsQuery table.slots.1.1.1.1.1.1.1 ms))))))

-- a member of another name leaves them
pub line_kept : (table : LineTable) (name : List ℕ) (d : Data) (ms : Members) → is_among line_names name ≡ false → HoldsLine table ms
    → HoldsLine table (put name d ms)
line_kept table name d ms other h =
    let o1 = rest_other (codes "op") from_entity name other in
    let o2 = rest_other (codes "entity") from_client name o1 in
    let o3 = rest_other (codes "client") from_key name o2 in
    let o4 = rest_other (codes "key") from_xg name o3 in
    let o5 = rest_other (codes "xg") from_count name o4 in
    let o6 = rest_other (codes "count") from_shard name o5 in
    let o7 = rest_other (codes "shard") query_names name o6 in (
      kept_first operation_of (codes "op") from_entity table.slots.0.found name d ms other h.0,
      (
        kept_first entity_of (codes "entity") from_client table.slots.1.0.found name d ms o1 h.1.0,
        (
          kept_first client_of (codes "client") from_key table.slots.1.1.0.found name d ms o2 h.1.1.0,
          (
            kept_first key_of (codes "key") from_xg table.slots.1.1.1.0.found name d ms o3 h.1.1.1.0,
            (
              kept_first flag_of (codes "xg") from_count table.slots.1.1.1.1.0.found name d ms o4 h.1.1.1.1.0,
              (
                kept_first count_of (codes "count") from_shard table.slots.1.1.1.1.1.0.found name d ms o5 h.1.1.1.1.1.0,
                (
                  kept_first shard_of (codes "shard") query_names table.slots.1.1.1.1.1.1.0.found name d ms o6 h.1.1.1.1.1.1.0,
                  query_kept table.slots.1.1.1.1.1.1.1 name d ms o7 h.1.1.1.1.1.1.1,
                ),
              ),
            ),
          ),
        ),
      ),
    )

-- each member is read as the property at its place
abbrev pub AreProperties : Members → List Property → Type 0
AreProperties no_members [] = ⊤
AreProperties (member name d ms) (p ∷ ps) = (name ≡ p.name) × (property_of name d ≡ Ok (Some p)) × AreProperties ms ps
AreProperties _ _ = ⊥

-- the name of each property is below this one
abbrev pub AreBelow : List ℕ → List Property → Type 0
AreBelow name [] = ⊤
AreBelow name (p ∷ ps) = IsTrue (is_lt (bytes_cmp p.name name)) × AreBelow name ps
