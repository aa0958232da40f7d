-- The replies that tell numbers are plain JSON where their keys and entities are lawful: so what is read from their lines is what they tell.
use Rattle.std.proofs.Common.{ℕ, ◌^◌, ◌<◌, List, [], ◌∷◌, Bool, Some, None, refl, lit<}
use Rattle.std.specs.Prelude.{All, IsUtf8, codes}
use Rattle.std.proofs.lemmas.List.Elements.{All-head, All-tail}
use Rattle.json.proofs.Printed.Utf8.{IsUtf8-are_ascii}
use Rattle.serde_json.specs.Read.{max_depth}
use Rattle.ds_entity.specs.Entities.{EntityParts}
use Rattle.ds_base.specs.Keys.{KeyParts}
use Rattle.ds_entity.specs.declared.results.Item.{Item}
use Rattle.ds_entity.specs.declared.results.Seen.TheVariants as seen
use Rattle.ds_bytes.specs.Lawful.{IsLawfulKey}
use Rattle.ds_query.specs.declared.query.Select.{Select}
use Rattle.ds_reply.specs.declared.reply.Body.TheVariants as body
use Rattle.ds_reply.specs.declared.reply.WriteAt.TheVariants as at
use Rattle.ds_reply.specs.Results.{count_items}
use Rattle.ds_reply.specs.Replies.{reply_data}
use Rattle.ds_journal_text.specs.Lawful.{IsLawfulEntity}
use Rattle.ds_journal_text.proofs.CommitsPlain.{entity_plain, key_plain}
use Rattle.ds_journal_text.proofs.PlainData.{ArePlain, IsPlain}
use Rattle.ds_reply_lines.specs.LawfulResults.{HasTexts, IsLawfulItem}
use Rattle.ds_reply_lines.proofs.PlainResults.{results_plain}

counts_plain : (counts : List ℕ) (j : ℕ) → All (λ n. n < 2 ^ 64) counts → ArePlain (count_items counts) j
counts_plain [] j all = tt
counts_plain (n ∷ ns) j all = (All-head (λ m. m < 2 ^ 64) n ns all, counts_plain ns j (All-tail (λ m. m < 2 ^ 64) n ns all))

pub put_alone : (client number : ℕ) (fits : client < 2 ^ 64) (numbered : number < 2 ^ 64) (key : KeyParts) (n : ℕ) → IsLawfulKey key → n < 2 ^ 64 → IsPlain (reply_data (record { client = client; line = number; body = body.Put key (at.Commit n) })) max_depth
put_alone client number fits numbered key n lawful small = ((IsUtf8-are_ascii (codes "client") refl, fits, (IsUtf8-are_ascii (codes "commit") refl, small, (IsUtf8-are_ascii (codes "key") refl, key_plain key 124 lawful, (IsUtf8-are_ascii (codes "line") refl, numbered, (IsUtf8-are_ascii (codes "ok") refl, IsUtf8-are_ascii (codes "put") refl, tt))))), ((refl, (refl, (refl, (refl, tt)))), ((refl, (refl, (refl, tt))), ((refl, (refl, tt)), ((refl, tt), (tt, tt))))))

pub put_inside : (client number : ℕ) (fits : client < 2 ^ 64) (numbered : number < 2 ^ 64) (key : KeyParts) (m : ℕ) → IsLawfulKey key → m < 2 ^ 64 → IsPlain (reply_data (record { client = client; line = number; body = body.Put key (at.Place m) })) max_depth
put_inside client number fits numbered key m lawful small = ((IsUtf8-are_ascii (codes "client") refl, fits, (IsUtf8-are_ascii (codes "key") refl, key_plain key 124 lawful, (IsUtf8-are_ascii (codes "line") refl, numbered, (IsUtf8-are_ascii (codes "ok") refl, IsUtf8-are_ascii (codes "put") refl, (IsUtf8-are_ascii (codes "place") refl, small, tt))))), ((refl, (refl, (refl, (refl, tt)))), ((refl, (refl, (refl, tt))), ((refl, (refl, tt)), ((refl, tt), (tt, tt))))))

pub delete_alone : (client number : ℕ) (fits : client < 2 ^ 64) (numbered : number < 2 ^ 64) (key : KeyParts) (n : ℕ) → IsLawfulKey key → n < 2 ^ 64 → IsPlain (reply_data (record { client = client; line = number; body = body.Delete key (at.Commit n) })) max_depth
delete_alone client number fits numbered key n lawful small = ((IsUtf8-are_ascii (codes "client") refl, fits, (IsUtf8-are_ascii (codes "commit") refl, small, (IsUtf8-are_ascii (codes "key") refl, key_plain key 124 lawful, (IsUtf8-are_ascii (codes "line") refl, numbered, (IsUtf8-are_ascii (codes "ok") refl, IsUtf8-are_ascii (codes "delete") refl, tt))))), ((refl, (refl, (refl, (refl, tt)))), ((refl, (refl, (refl, tt))), ((refl, (refl, tt)), ((refl, tt), (tt, tt))))))

pub delete_inside : (client number : ℕ) (fits : client < 2 ^ 64) (numbered : number < 2 ^ 64) (key : KeyParts) (m : ℕ) → IsLawfulKey key → m < 2 ^ 64 → IsPlain (reply_data (record { client = client; line = number; body = body.Delete key (at.Place m) })) max_depth
delete_inside client number fits numbered key m lawful small = ((IsUtf8-are_ascii (codes "client") refl, fits, (IsUtf8-are_ascii (codes "key") refl, key_plain key 124 lawful, (IsUtf8-are_ascii (codes "line") refl, numbered, (IsUtf8-are_ascii (codes "ok") refl, IsUtf8-are_ascii (codes "delete") refl, (IsUtf8-are_ascii (codes "place") refl, small, tt))))), ((refl, (refl, (refl, (refl, tt)))), ((refl, (refl, (refl, tt))), ((refl, (refl, tt)), ((refl, tt), (tt, tt))))))

pub get_some : (client number : ℕ) (fits : client < 2 ^ 64) (numbered : number < 2 ^ 64) (e : EntityParts) (m : ℕ) → IsLawfulEntity e → m < 2 ^ 64 → IsPlain (reply_data (record { client = client; line = number; body = body.Get (Some e) m })) max_depth
get_some client number fits numbered e m lawful small = ((IsUtf8-are_ascii (codes "client") refl, fits, (IsUtf8-are_ascii (codes "entity") refl, entity_plain e 119 lawful, (IsUtf8-are_ascii (codes "line") refl, numbered, (IsUtf8-are_ascii (codes "ok") refl, IsUtf8-are_ascii (codes "get") refl, (IsUtf8-are_ascii (codes "place") refl, small, tt))))), ((refl, (refl, (refl, (refl, tt)))), ((refl, (refl, (refl, tt))), ((refl, (refl, tt)), ((refl, tt), (tt, tt))))))

pub get_none : (client number : ℕ) (fits : client < 2 ^ 64) (numbered : number < 2 ^ 64) (m : ℕ) → m < 2 ^ 64 → IsPlain (reply_data (record { client = client; line = number; body = body.Get None m })) max_depth
get_none client number fits numbered m small = ((IsUtf8-are_ascii (codes "client") refl, fits, (IsUtf8-are_ascii (codes "entity") refl, tt, (IsUtf8-are_ascii (codes "line") refl, numbered, (IsUtf8-are_ascii (codes "ok") refl, IsUtf8-are_ascii (codes "get") refl, (IsUtf8-are_ascii (codes "place") refl, small, tt))))), ((refl, (refl, (refl, (refl, tt)))), ((refl, (refl, (refl, tt))), ((refl, (refl, tt)), ((refl, tt), (tt, tt))))))

pub commit_told : (client number : ℕ) (fits : client < 2 ^ 64) (numbered : number < 2 ^ 64) (n : ℕ) → n < 2 ^ 64 → IsPlain (reply_data (record { client = client; line = number; body = body.Commit n })) max_depth
commit_told client number fits numbered n small = ((IsUtf8-are_ascii (codes "client") refl, fits, (IsUtf8-are_ascii (codes "commit") refl, small, (IsUtf8-are_ascii (codes "line") refl, numbered, (IsUtf8-are_ascii (codes "ok") refl, IsUtf8-are_ascii (codes "commit") refl, tt)))), ((refl, (refl, (refl, tt))), ((refl, (refl, tt)), ((refl, tt), (tt, tt)))))

pub allocated : (client number : ℕ) (fits : client < 2 ^ 64) (numbered : number < 2 ^ 64) (first count : ℕ) → first < 2 ^ 64 → count < 2 ^ 64 → IsPlain (reply_data (record { client = client; line = number; body = body.AllocateIds first count })) max_depth
allocated client number fits numbered first count small few = ((IsUtf8-are_ascii (codes "client") refl, fits, (IsUtf8-are_ascii (codes "count") refl, few, (IsUtf8-are_ascii (codes "first") refl, small, (IsUtf8-are_ascii (codes "line") refl, numbered, (IsUtf8-are_ascii (codes "ok") refl, IsUtf8-are_ascii (codes "allocate_ids") refl, tt))))), ((refl, (refl, (refl, (refl, tt)))), ((refl, (refl, (refl, tt))), ((refl, (refl, tt)), ((refl, tt), (tt, tt))))))

pub settled : (client number : ℕ) (fits : client < 2 ^ 64) (numbered : number < 2 ^ 64) (m : ℕ) (counts : List ℕ) → m < 2 ^ 64 → All (λ n. n < 2 ^ 64) counts → IsPlain (reply_data (record { client = client; line = number; body = body.Settle m counts })) max_depth
settled client number fits numbered m counts small all = ((IsUtf8-are_ascii (codes "applied") refl, counts_plain counts 125 all, (IsUtf8-are_ascii (codes "client") refl, fits, (IsUtf8-are_ascii (codes "line") refl, numbered, (IsUtf8-are_ascii (codes "ok") refl, IsUtf8-are_ascii (codes "settle") refl, (IsUtf8-are_ascii (codes "place") refl, small, tt))))), ((refl, (refl, (refl, (refl, tt)))), ((refl, (refl, (refl, tt))), ((refl, (refl, tt)), ((refl, tt), (tt, tt))))))

pub applied_one : (client number : ℕ) (fits : client < 2 ^ 64) (numbered : number < 2 ^ 64) (applied : Bool) (count m shard : ℕ) → count < 2 ^ 64 → m < 2 ^ 64 → shard < 2 ^ 64 → IsPlain (reply_data (record { client = client; line = number; body = body.Apply applied count m shard })) max_depth
applied_one client number fits numbered applied count m shard few small within = ((IsUtf8-are_ascii (codes "applied") refl, tt, (IsUtf8-are_ascii (codes "client") refl, fits, (IsUtf8-are_ascii (codes "count") refl, few, (IsUtf8-are_ascii (codes "line") refl, numbered, (IsUtf8-are_ascii (codes "ok") refl, IsUtf8-are_ascii (codes "apply") refl, (IsUtf8-are_ascii (codes "place") refl, small, (IsUtf8-are_ascii (codes "shard") refl, within, tt))))))), ((refl, (refl, (refl, (refl, (refl, (refl, tt)))))), ((refl, (refl, (refl, (refl, (refl, tt))))), ((refl, (refl, (refl, (refl, tt)))), ((refl, (refl, (refl, tt))), ((refl, (refl, tt)), ((refl, tt), (tt, tt))))))))

pub conflicted : (client number : ℕ) (fits : client < 2 ^ 64) (numbered : number < 2 ^ 64) (n : ℕ) (group : KeyParts) (m : ℕ) → n < 2 ^ 64 → IsLawfulKey group → m < 2 ^ 64 → IsPlain (reply_data (record { client = client; line = number; body = body.Conflict n group m })) max_depth
conflicted client number fits numbered n group m few lawful small = ((IsUtf8-are_ascii (codes "client") refl, fits, (IsUtf8-are_ascii (codes "commit") refl, few, (IsUtf8-are_ascii (codes "error") refl, lit< tt, (IsUtf8-are_ascii (codes "group") refl, key_plain group 124 lawful, (IsUtf8-are_ascii (codes "line") refl, numbered, (IsUtf8-are_ascii (codes "name") refl, IsUtf8-are_ascii (codes "Conflict") refl, (IsUtf8-are_ascii (codes "place") refl, small, tt))))))), ((refl, (refl, (refl, (refl, (refl, (refl, tt)))))), ((refl, (refl, (refl, (refl, (refl, tt))))), ((refl, (refl, (refl, (refl, tt)))), ((refl, (refl, (refl, tt))), ((refl, (refl, tt)), ((refl, tt), (tt, tt))))))))

pub not_issued : (client number : ℕ) (fits : client < 2 ^ 64) (numbered : number < 2 ^ 64) (id next : ℕ) → id < 2 ^ 64 → next < 2 ^ 64 → IsPlain (reply_data (record { client = client; line = number; body = body.IdNotIssued id next })) max_depth
not_issued client number fits numbered id next few small = ((IsUtf8-are_ascii (codes "client") refl, fits, (IsUtf8-are_ascii (codes "error") refl, lit< tt, (IsUtf8-are_ascii (codes "id") refl, few, (IsUtf8-are_ascii (codes "line") refl, numbered, (IsUtf8-are_ascii (codes "name") refl, IsUtf8-are_ascii (codes "IdNotIssued") refl, (IsUtf8-are_ascii (codes "next") refl, small, tt)))))), ((refl, (refl, (refl, (refl, (refl, tt))))), ((refl, (refl, (refl, (refl, tt)))), ((refl, (refl, (refl, tt))), ((refl, (refl, tt)), ((refl, tt), (tt, tt)))))))

pub exhausted : (client number : ℕ) (fits : client < 2 ^ 64) (numbered : number < 2 ^ 64) (next : ℕ) → next < 2 ^ 64 → IsPlain (reply_data (record { client = client; line = number; body = body.IdsExhausted next })) max_depth
exhausted client number fits numbered next small = ((IsUtf8-are_ascii (codes "client") refl, fits, (IsUtf8-are_ascii (codes "error") refl, lit< tt, (IsUtf8-are_ascii (codes "line") refl, numbered, (IsUtf8-are_ascii (codes "name") refl, IsUtf8-are_ascii (codes "IdsExhausted") refl, (IsUtf8-are_ascii (codes "next") refl, small, tt))))), ((refl, (refl, (refl, (refl, tt)))), ((refl, (refl, (refl, tt))), ((refl, (refl, tt)), ((refl, tt), (tt, tt))))))

pub expired : (client number : ℕ) (fits : client < 2 ^ 64) (numbered : number < 2 ^ 64) (applied m snapshot : ℕ) → applied < 2 ^ 64 → m < 2 ^ 64 → snapshot < 2 ^ 64 → IsPlain (reply_data (record { client = client; line = number; body = body.Expired applied m snapshot })) max_depth
expired client number fits numbered applied m snapshot few small short = ((IsUtf8-are_ascii (codes "applied") refl, few, (IsUtf8-are_ascii (codes "client") refl, fits, (IsUtf8-are_ascii (codes "error") refl, lit< tt, (IsUtf8-are_ascii (codes "line") refl, numbered, (IsUtf8-are_ascii (codes "name") refl, IsUtf8-are_ascii (codes "Expired") refl, (IsUtf8-are_ascii (codes "place") refl, small, (IsUtf8-are_ascii (codes "snapshot") refl, short, tt))))))), ((refl, (refl, (refl, (refl, (refl, (refl, tt)))))), ((refl, (refl, (refl, (refl, (refl, tt))))), ((refl, (refl, (refl, (refl, tt)))), ((refl, (refl, (refl, tt))), ((refl, (refl, tt)), ((refl, tt), (tt, tt))))))))

-- ---- queries and statements

pub query_counts : (client number : ℕ) (fits : client < 2 ^ 64) (numbered : number < 2 ^ 64) (s : Select) (results : List Item) (counts : List ℕ) → HasTexts s → All IsLawfulItem results → All (λ n. n < 2 ^ 64) counts
    → IsPlain (reply_data (record { client = client; line = number; body = body.Query s results (seen.Counts counts) None })) max_depth
query_counts client number fits numbered s results counts texts lawful all = (
  (IsUtf8-are_ascii (codes "applied") refl, counts_plain counts 125 all, (IsUtf8-are_ascii (codes "client") refl, fits, (IsUtf8-are_ascii (codes "line") refl, numbered, (IsUtf8-are_ascii (codes "ok") refl, IsUtf8-are_ascii (codes "query") refl, (IsUtf8-are_ascii (codes "results") refl, results_plain s results 118 texts lawful, tt))))),
  ((refl, (refl, (refl, (refl, tt)))), ((refl, (refl, (refl, tt))), ((refl, (refl, tt)), ((refl, tt), (tt, tt))))),
)

pub query_place : (client number : ℕ) (fits : client < 2 ^ 64) (numbered : number < 2 ^ 64) (s : Select) (results : List Item) (m : ℕ) → HasTexts s → All IsLawfulItem results → m < 2 ^ 64
    → IsPlain (reply_data (record { client = client; line = number; body = body.Query s results (seen.Place m) None })) max_depth
query_place client number fits numbered s results m texts lawful small = (
  (IsUtf8-are_ascii (codes "client") refl, fits, (IsUtf8-are_ascii (codes "line") refl, numbered, (IsUtf8-are_ascii (codes "ok") refl, IsUtf8-are_ascii (codes "query") refl, (IsUtf8-are_ascii (codes "place") refl, small, (IsUtf8-are_ascii (codes "results") refl, results_plain s results 118 texts lawful, tt))))),
  ((refl, (refl, (refl, (refl, tt)))), ((refl, (refl, (refl, tt))), ((refl, (refl, tt)), ((refl, tt), (tt, tt))))),
)

pub query_counts_page : (client number : ℕ) (fits : client < 2 ^ 64) (numbered : number < 2 ^ 64) (s : Select) (results : List Item) (counts : List ℕ) (cursor : List ℕ) → HasTexts s → All IsLawfulItem results → All (λ n. n < 2 ^ 64) counts → IsUtf8 cursor
    → IsPlain (reply_data (record { client = client; line = number; body = body.Query s results (seen.Counts counts) (Some cursor) })) max_depth
query_counts_page client number fits numbered s results counts cursor texts lawful all utf8 = (
  (IsUtf8-are_ascii (codes "applied") refl, counts_plain counts 125 all, (IsUtf8-are_ascii (codes "client") refl, fits, (IsUtf8-are_ascii (codes "cursor") refl, utf8, (IsUtf8-are_ascii (codes "line") refl, numbered, (IsUtf8-are_ascii (codes "ok") refl, IsUtf8-are_ascii (codes "query") refl, (IsUtf8-are_ascii (codes "results") refl, results_plain s results 118 texts lawful, tt)))))),
  ((refl, (refl, (refl, (refl, (refl, tt))))), ((refl, (refl, (refl, (refl, tt)))), ((refl, (refl, (refl, tt))), ((refl, (refl, tt)), ((refl, tt), (tt, tt)))))),
)

pub query_place_page : (client number : ℕ) (fits : client < 2 ^ 64) (numbered : number < 2 ^ 64) (s : Select) (results : List Item) (m : ℕ) (cursor : List ℕ) → HasTexts s → All IsLawfulItem results → m < 2 ^ 64 → IsUtf8 cursor
    → IsPlain (reply_data (record { client = client; line = number; body = body.Query s results (seen.Place m) (Some cursor) })) max_depth
query_place_page client number fits numbered s results m cursor texts lawful small utf8 = (
  (IsUtf8-are_ascii (codes "client") refl, fits, (IsUtf8-are_ascii (codes "cursor") refl, utf8, (IsUtf8-are_ascii (codes "line") refl, numbered, (IsUtf8-are_ascii (codes "ok") refl, IsUtf8-are_ascii (codes "query") refl, (IsUtf8-are_ascii (codes "place") refl, small, (IsUtf8-are_ascii (codes "results") refl, results_plain s results 118 texts lawful, tt)))))),
  ((refl, (refl, (refl, (refl, (refl, tt))))), ((refl, (refl, (refl, (refl, tt)))), ((refl, (refl, (refl, tt))), ((refl, (refl, tt)), ((refl, tt), (tt, tt)))))),
)

pub gql_counts : (client number : ℕ) (fits : client < 2 ^ 64) (numbered : number < 2 ^ 64) (s : Select) (results : List Item) (counts : List ℕ) → HasTexts s → All IsLawfulItem results → All (λ n. n < 2 ^ 64) counts
    → IsPlain (reply_data (record { client = client; line = number; body = body.Gql s results (seen.Counts counts) None })) max_depth
gql_counts client number fits numbered s results counts texts lawful all = (
  (IsUtf8-are_ascii (codes "applied") refl, counts_plain counts 125 all, (IsUtf8-are_ascii (codes "client") refl, fits, (IsUtf8-are_ascii (codes "line") refl, numbered, (IsUtf8-are_ascii (codes "ok") refl, IsUtf8-are_ascii (codes "gql") refl, (IsUtf8-are_ascii (codes "results") refl, results_plain s results 118 texts lawful, tt))))),
  ((refl, (refl, (refl, (refl, tt)))), ((refl, (refl, (refl, tt))), ((refl, (refl, tt)), ((refl, tt), (tt, tt))))),
)

pub gql_place : (client number : ℕ) (fits : client < 2 ^ 64) (numbered : number < 2 ^ 64) (s : Select) (results : List Item) (m : ℕ) → HasTexts s → All IsLawfulItem results → m < 2 ^ 64
    → IsPlain (reply_data (record { client = client; line = number; body = body.Gql s results (seen.Place m) None })) max_depth
gql_place client number fits numbered s results m texts lawful small = (
  (IsUtf8-are_ascii (codes "client") refl, fits, (IsUtf8-are_ascii (codes "line") refl, numbered, (IsUtf8-are_ascii (codes "ok") refl, IsUtf8-are_ascii (codes "gql") refl, (IsUtf8-are_ascii (codes "place") refl, small, (IsUtf8-are_ascii (codes "results") refl, results_plain s results 118 texts lawful, tt))))),
  ((refl, (refl, (refl, (refl, tt)))), ((refl, (refl, (refl, tt))), ((refl, (refl, tt)), ((refl, tt), (tt, tt))))),
)

pub gql_counts_page : (client number : ℕ) (fits : client < 2 ^ 64) (numbered : number < 2 ^ 64) (s : Select) (results : List Item) (counts : List ℕ) (cursor : List ℕ) → HasTexts s → All IsLawfulItem results → All (λ n. n < 2 ^ 64) counts → IsUtf8 cursor
    → IsPlain (reply_data (record { client = client; line = number; body = body.Gql s results (seen.Counts counts) (Some cursor) })) max_depth
gql_counts_page client number fits numbered s results counts cursor texts lawful all utf8 = (
  (IsUtf8-are_ascii (codes "applied") refl, counts_plain counts 125 all, (IsUtf8-are_ascii (codes "client") refl, fits, (IsUtf8-are_ascii (codes "cursor") refl, utf8, (IsUtf8-are_ascii (codes "line") refl, numbered, (IsUtf8-are_ascii (codes "ok") refl, IsUtf8-are_ascii (codes "gql") refl, (IsUtf8-are_ascii (codes "results") refl, results_plain s results 118 texts lawful, tt)))))),
  ((refl, (refl, (refl, (refl, (refl, tt))))), ((refl, (refl, (refl, (refl, tt)))), ((refl, (refl, (refl, tt))), ((refl, (refl, tt)), ((refl, tt), (tt, tt)))))),
)

pub gql_place_page : (client number : ℕ) (fits : client < 2 ^ 64) (numbered : number < 2 ^ 64) (s : Select) (results : List Item) (m : ℕ) (cursor : List ℕ) → HasTexts s → All IsLawfulItem results → m < 2 ^ 64 → IsUtf8 cursor
    → IsPlain (reply_data (record { client = client; line = number; body = body.Gql s results (seen.Place m) (Some cursor) })) max_depth
gql_place_page client number fits numbered s results m cursor texts lawful small utf8 = (
  (IsUtf8-are_ascii (codes "client") refl, fits, (IsUtf8-are_ascii (codes "cursor") refl, utf8, (IsUtf8-are_ascii (codes "line") refl, numbered, (IsUtf8-are_ascii (codes "ok") refl, IsUtf8-are_ascii (codes "gql") refl, (IsUtf8-are_ascii (codes "place") refl, small, (IsUtf8-are_ascii (codes "results") refl, results_plain s results 118 texts lawful, tt)))))),
  ((refl, (refl, (refl, (refl, (refl, tt))))), ((refl, (refl, (refl, (refl, tt)))), ((refl, (refl, (refl, tt))), ((refl, (refl, tt)), ((refl, tt), (tt, tt)))))),
)
