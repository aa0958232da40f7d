-- What a line asks: its request, or its refusal before anything else is looked at; and what query a request stands for.
use Rattle.std.specs.Prelude.{ℕ, Bool, true, ◌||◌, nat_lt, List, Option, Some, None, is_some, Result, Ok, Err, cond}
use Rattle.ds_query.specs.declared.field.Field.TheVariants as field
use Rattle.ds_query.specs.declared.query.Query.{Query}
use Rattle.ds_request.specs.declared.call.Call.{Call}
use Rattle.ds_request.specs.declared.call.Call.TheVariants as call
use Rattle.ds_request.specs.declared.call.Request.{Request}
use Rattle.ds_request.specs.declared.call.RequestRefused.{RequestRefused}
use Rattle.ds_request.specs.declared.call.RequestRefused.TheVariants as refused
use Rattle.ds_request.specs.Requests.{request_of}
use Rattle.ds_reply.specs.declared.reply.Body.{Body}
use Rattle.ds_reply.specs.declared.reply.Body.TheVariants as body
use Rattle.ds_gql.specs.declared.statement.Statement.{Statement}
use Rattle.ds_gql.specs.Statements.{statement_of}
use Rattle.ds_rounds.specs.Lines.{Content, Kept, TooLong}

-- ---- the line

-- A refused line: its client, and what the reply says. The tables of requests refuse no line when out of memory, so the last case
-- is never met: such a reply carries the client that stands in the text, as every reply to the line does.
abbrev pub refused_line : RequestRefused → ℕ × Body
refused_line refused.BadJson = (0, body.BadJson)
refused_line (refused.BadRequest client f) = (client, body.BadRequest f)
refused_line (refused.BadKey client f) = (client, body.BadKey f)
refused_line (refused.BadValue client f) = (client, body.BadValue f)
refused_line refused.NoMemory = (0, body.NoMemory)

-- a shard that isn't below the number of shards is refused where the member is read
abbrev pub has_shard : ℕ → Call → Bool
has_shard shards (call.Apply shard) = nat_lt shard shards
has_shard shards _ = true

abbrev pub request_within : ℕ → Result Request RequestRefused → Result Request (ℕ × Body)
request_within shards (Ok r) = cond (has_shard shards r.call) (Ok r) (Err (r.client, body.BadRequest field.Shard))
request_within shards (Err e) = Err (refused_line e)

-- what is read from lines: a request, or the client and what its reply says where a line is refused before anything else is looked at
abbrev pub Reading : Type 0
Reading = Content → Result Request (ℕ × Body)

-- what a line asks of so many shards: that one's request by the tables of requests
abbrev pub asked : ℕ → Reading
asked shards (Kept bytes) = request_within shards (request_of bytes)
asked shards TooLong = Err (0, body.LineTooLong)

abbrev pub client_asked : Result Request (ℕ × Body) → ℕ
client_asked (Ok r) = r.client
client_asked (Err e) = e.0

-- whose line it is; one whose client can't be read is client 0's
abbrev pub client_of : Reading → Content → ℕ
client_of reading line = client_asked (reading line)

-- ---- the query of a request

-- a query with its window as it was asked: numbers of results, and the texts of cursors
pub record Search : Type 0 where
  pub query : Query
  pub offset : ℕ
  pub limit : Option ℕ
  pub start : Option (List ℕ)
  pub end : Option (List ℕ)
  pub cursor : Bool

-- does a request give or want a cursor?
abbrev pub has_cursors : Option (List ℕ) → Option (List ℕ) → Bool → Bool
has_cursors start end cursor = is_some start || is_some end || cursor

-- a statement stands for its query in the namespace of the request, and its cursors work as a query's
abbrev pub statement_search : List ℕ → Option (List ℕ) → Option (List ℕ) → Bool → Statement → Search
statement_search namespace start end cursor s = record {
  query = record (s.query) { namespace = namespace; cursors = has_cursors start end cursor };
  offset = s.offset;
  limit = s.limit;
  start = start;
  end = end;
  cursor = cursor;
}

abbrev pub gql_search : (Statement → Search) → Result Statement ℕ → Result Search Body
gql_search search (Ok s) = Ok (search s)
gql_search search (Err place) = Err (body.BadGql place)

-- what a query or a statement searches for; nothing for other requests
abbrev pub search_of : Call → Option (Result Search Body)
search_of (call.Query namespace kind ancestor filters orders select offset limit start end cursor) = Some (Ok (record {
  query = record {
    namespace = namespace;
    kind = kind;
    ancestor = ancestor;
    filters = filters;
    orders = orders;
    select = select;
    cursors = has_cursors start end cursor;
  };
  offset = offset;
  limit = limit;
  start = start;
  end = end;
  cursor = cursor;
}))
search_of (call.Gql namespace text args names start end cursor) =
    Some (gql_search (statement_search namespace start end cursor) (statement_of text (record { args = args; names = names })))
search_of _ = None
