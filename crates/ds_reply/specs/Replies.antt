-- What is written for a reply: one JSON object in compact text, its members by name in byte order, and a newline.
use Rattle.std.specs.Prelude.{ℕ, List, [], ◌∷◌, ◌++◌, Option, Some, None, codes}
use Rattle.serde_json.specs.Data.{Data, boolean, string, array}
use Rattle.serde_json.specs.Written.{compact_text}
use Rattle.ds_entity.specs.declared.results.Item.{Item}
use Rattle.ds_entity.specs.declared.results.Seen.{Seen}
use Rattle.ds_entity.specs.declared.results.Seen.TheVariants as seen
use Rattle.ds_query.specs.declared.query.Select.{Select}
use Rattle.ds_reply.specs.declared.reply.WriteAt.{WriteAt}
use Rattle.ds_reply.specs.declared.reply.WriteAt.TheVariants as at
use Rattle.ds_reply.specs.declared.reply.Body.{Body}
use Rattle.ds_reply.specs.declared.reply.Body.TheVariants as body
use Rattle.ds_reply.specs.declared.reply.Reply.{Reply}
use Rattle.ds_json_printing.specs.Objects.{Named, named, object_of}
use Rattle.ds_json_printing.specs.Printing.{natural, key_data}
use Rattle.ds_reply.specs.EntityPrinting.{optional_entity_data}
use Rattle.ds_reply.specs.Results.{result_items, count_items}
use Rattle.ds_reply.specs.Refusals.{counted, refusal_members}

-- what went well tells more, and the operation
abbrev pub done : List ℕ → List Named → List Named
done op more = more ++ named (codes "ok") (string op) ∷ []

-- where a write stands: the number of its commit, or in a transaction the place at which the group was touched
abbrev pub written_at : WriteAt → Named
written_at (at.Commit n) = counted (codes "commit") n
written_at (at.Place p) = counted (codes "place") p

-- how many log entries of each shard are applied
abbrev pub applied_counts : List ℕ → Named
applied_counts counts = named (codes "applied") (array (count_items counts))

-- what a query saw: one count for each shard, or the place of the ancestor's view
abbrev pub seen_at : Seen → Named
seen_at (seen.Counts counts) = applied_counts counts
seen_at (seen.Place place) = counted (codes "place") place

-- the cursor stands exactly where it was asked for
abbrev pub next_page : Option (List ℕ) → List Named
next_page None = []
next_page (Some text) = named (codes "cursor") (string text) ∷ []

-- what a query found
abbrev pub found : Select → List Item → Seen → Option (List ℕ) → List Named
found s results sees cursor = seen_at sees ∷ named (codes "results") (array (result_items s results)) ∷ next_page cursor

-- what is told beside the client and the line
abbrev pub body_members : Body → List Named
body_members (body.Put k at) = done (codes "put") (written_at at ∷ named (codes "key") (key_data k) ∷ [])
body_members (body.Delete k at) = done (codes "delete") (written_at at ∷ named (codes "key") (key_data k) ∷ [])
body_members (body.Get e place) = done (codes "get") (named (codes "entity") (optional_entity_data e) ∷ counted (codes "place") place ∷ [])
body_members (body.Query s results sees cursor) = done (codes "query") (found s results sees cursor)
body_members (body.Gql s results sees cursor) = done (codes "gql") (found s results sees cursor)
body_members body.Begin = done (codes "begin") []
body_members (body.Commit commit) = done (codes "commit") (counted (codes "commit") commit ∷ [])
body_members body.Rollback = done (codes "rollback") []
body_members (body.AllocateIds first count) = done (codes "allocate_ids")
    (counted (codes "count") count ∷ counted (codes "first") first ∷ [])
body_members (body.Settle place applied) = done (codes "settle") (applied_counts applied ∷ counted (codes "place") place ∷ [])
body_members (body.Apply applied count place shard) =
    done (codes "apply") (named (codes "applied") (boolean applied)
    ∷ counted (codes "count") count ∷ counted (codes "place") place ∷ counted (codes "shard") shard ∷ [])
body_members refusal = refusal_members refusal

-- every reply tells the client and the line
abbrev pub reply_members : Reply → List Named
reply_members r = counted (codes "client") r.client ∷ (body_members r.body ++ counted (codes "line") r.line ∷ [])

abbrev pub reply_data : Reply → Data
reply_data r = object_of (reply_members r)

-- the reply's line
abbrev pub reply_text : Reply → List ℕ
reply_text r = compact_text (reply_data r) ++ 10 ∷ []

-- the lines of replies, one after another
abbrev pub replies_text : List Reply → List ℕ
replies_text [] = []
replies_text (r ∷ rs) = reply_text r ++ replies_text rs
