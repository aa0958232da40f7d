-- How a commit is read from JSON; its number is passed over, since the line is compared with the commit's text behind.
use Rattle.std.specs.Prelude.{ℕ, ◌^◌, nat_lt, List, bytes_eq, cond, codes, Option, Some, None, option_and_then, Result}
use Rattle.std.specs.Prelude.{Ok, Err}
use Rattle.std.specs.Option.{ok_or}
use Rattle.serde_json.specs.Data.{Data, array, object, no_items, item, no_members, member}
use Rattle.serde_json.specs.Find.{as_number, as_u64}
use Rattle.ds_entity.specs.Entities.{entity_refusal}
use Rattle.ds_entity.specs.declared.entity.EntityRefused.{EntityRefused}
use Rattle.ds_log.specs.declared.Commit.{Commit}
use Rattle.ds_log.specs.declared.Touch.{Touch}
use Rattle.ds_log.specs.declared.Write.{Write}
use Rattle.ds_log.specs.declared.Write.TheVariants.{Put, Delete}
use Rattle.ds_json_reading.specs.declared.refusal.Refusal.{Refusal}
use Rattle.ds_json_reading.specs.declared.refusal.Refusal.TheVariants as refusal
use Rattle.ds_json_reading.specs.Reading.{and_then, read_as, member_of, required}
use Rattle.ds_json_reading.specs.Keys.{key_of}
use Rattle.ds_request.specs.Entities.{PutParts, entity_of}
use Rattle.ds_json_reading.specs.Reading.{list_of}

-- an unsigned number of 64 bits
abbrev pub number_of : Data → Result ℕ Refusal
number_of d = ok_or (option_and_then as_u64 (as_number d)) refusal.Request

-- one of 32 bits
abbrev pub client_of : Data → Result ℕ Refusal
client_of d = and_then (number_of d) (λ n. cond (nat_lt n (2 ^ 32)) (Ok n) (Err refusal.Request))

abbrev pub touch_of : Data → Result Touch Refusal
touch_of (array (item group (item place no_items))) =
    and_then (key_of group) (λ g. read_as (λ m. record { group = g; place = m }) (number_of place))
touch_of _ = Err refusal.Request

-- the entity of complete key that can be written
abbrev pub unless_refused : Option EntityRefused → Write → Result Write Refusal
unless_refused None w = Ok w
unless_refused (Some why) w = Err refusal.Value

abbrev pub put_of : PutParts → Result Write Refusal
put_of p =
    cond p.incomplete (Err refusal.Key)
    (unless_refused (entity_refusal p.key p.properties) (Put (record { key = p.key; properties = p.properties })))

abbrev pub tagged_write_of : List ℕ → Data → Result Write Refusal
tagged_write_of name d =
    cond (bytes_eq name (codes "put")) (and_then (entity_of d) put_of)
    (cond (bytes_eq name (codes "delete")) (read_as Delete (key_of d))
    (Err refusal.Request))

abbrev pub write_of : Data → Result Write Refusal
write_of (object (member name d no_members)) = tagged_write_of name d
write_of _ = Err refusal.Request

-- the client, the touched groups and the writes have to be there
abbrev pub commit_parts_of : Option Data → Option Data → Option Data → Result Commit Refusal
commit_parts_of client touched writes =
    and_then (required client_of client) (λ c.
    and_then (required (list_of touch_of) touched) (λ ts.
    read_as (λ ws. record { client = c; touched = ts; writes = ws }) (required (list_of write_of) writes)))

abbrev pub commit_of : Data → Result Commit Refusal
commit_of (object ms) =
    commit_parts_of (member_of (codes "client") ms) (member_of (codes "touched") ms) (member_of (codes "writes") ms)
commit_of _ = Err refusal.Request
