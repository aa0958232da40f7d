-- An Ok reply is given by the answers to its request alone: no refusal is one.
use Rattle.std.proofs.Common.{◌≡◌, ℕ, ◌⊎◌, inl, inr, List, [], ◌∷◌, length, refl, ap, sym, ◌∙◌, Bool, true, false, cond, Option, Some, None}
use Rattle.std.specs.Prelude.{Result, Ok, Err, ⊤, nat_le, nat_lt, min}
use Rattle.ds_entity.specs.declared.entity.EntityRefused.{EntityRefused}
use Rattle.ds_entity.specs.declared.entity.EntityRefused.TheVariants as entity
use Rattle.ds_base.specs.Keys.{KeyParts, root_of}
use Rattle.ds_entity.specs.Entities.{EntityParts, entity_refusal}
use Rattle.ds_base.specs.Limits.{most_groups, most_writes, most_index_rows, greatest_told}
use Rattle.ds_indexdef.specs.declared.IndexDef.{IndexDef}
use Rattle.ds_query.specs.declared.field.Field.{Field}
use Rattle.ds_query.specs.declared.field.Field.TheVariants as field
use Rattle.ds_query.specs.declared.branch.Branch.{Branch}
use Rattle.ds_query.specs.declared.branch.Normal.{Normal}
use Rattle.ds_query.specs.declared.query.Query.{Query}
use Rattle.ds_query.specs.declared.refusal.QueryRefused.{QueryRefused}
use Rattle.ds_query.specs.declared.refusal.QueryRefused.TheVariants as query
use Rattle.ds_query.specs.Normals.{normal_of, normal_form}
use Rattle.ds_cursor.specs.declared.cursor.CursorRefused.TheVariants as cursor
use Rattle.ds_planner.specs.Missing.{Missing, missing_of}
use Rattle.ds_rows.specs.Counts.{row_count}
use Rattle.ds_gql.specs.declared.statement.Statement.{Statement}
use Rattle.ds_gql.specs.Statements.{statement_of}
use Rattle.ds_log.specs.Touches.{touch_place}
use Rattle.ds_request.specs.declared.call.Call.{Call}
use Rattle.ds_request.specs.declared.call.Call.TheVariants as call
use Rattle.ds_request.specs.declared.call.Request.{Request}
use Rattle.ds_request.specs.declared.call.RequestRefused.{RequestRefused}
use Rattle.ds_request.specs.declared.call.RequestRefused.TheVariants as refused
use Rattle.ds_request.specs.Requests.{request_of}
use Rattle.ds_reply.specs.declared.reply.Body.{Body}
use Rattle.ds_reply.specs.declared.reply.Body.TheVariants as body
use Rattle.ds_reply.specs.declared.reply.Reply.{Reply}
use Rattle.ds_rounds.specs.Lines.{Content, Kept, TooLong}
use Rattle.ds_rounds.specs.Rounds.{NumberedLine}
use Rattle.ds_model.specs.Answers.{Answers, BodyAnswers, AskedAnswers, RequestAnswers, UnlessRefused, CallAnswers, SearchAnswers}
use Rattle.ds_model.specs.Asked.{Reading, Search, asked, request_within, has_shard, search_of, gql_search, statement_search}
use Rattle.ds_model.specs.Groups.{group_refusal, new_group_refusal, unless_touched, write_refusal, has_none}
use Rattle.ds_model.specs.Refusals.{Told, Refused, Places, first_refusal, refusal_of, search_refusal, form_refusal}
use Rattle.ds_model.specs.Refusals.{entity_body, row_refusal, group_asked, cursor_refusal, missing_body, missing_refusal, normal_refusal}
use Rattle.ds_model.specs.Refusals.{ancestor_refusal, ancestor_group_refusal, in_transaction, no_transaction}
use Rattle.ds_model.specs.Sessions.{Session, Transaction}
use Rattle.ds_model.specs.Worlds.{World}

abbrev pub is_ok : Body → Bool
is_ok (body.Put key place) = true
is_ok (body.Delete key place) = true
is_ok (body.Get found m) = true
is_ok (body.Query selected results saw told) = true
is_ok (body.Gql selected results saw told) = true
is_ok body.Begin = true
is_ok (body.Commit n) = true
is_ok body.Rollback = true
is_ok (body.AllocateIds first count) = true
is_ok (body.Settle m counts) = true
is_ok (body.Apply applied count m shard) = true
is_ok _ = false

-- ---- refusals that the line and the session before decide

-- where there is a refusal, it is no Ok reply
abbrev pub Refuses : Option Body → Type 0
Refuses None = ⊤
Refuses (Some b) = is_ok b ≡ false

abbrev AllRefuse : List (Option Body) → Type 0
AllRefuse [] = ⊤
AllRefuse (o ∷ os) = Refuses o × AllRefuse os

first-refuses : (os : List (Option Body)) → AllRefuse os → Refuses (first_refusal os)
first-refuses [] all = tt
first-refuses (None ∷ os) all = first-refuses os all.1
first-refuses (Some b ∷ os) all = all.0

chosen : (b : Bool) (x y : Option Body) → Refuses x → Refuses y → Refuses (cond b x y)
chosen true x y p q = p
chosen false x y p q = q

new_group-refuses : (t : Transaction) (g : Option KeyParts) → Refuses (new_group_refusal t g)
new_group-refuses t g =
    chosen t.several_groups (cond (nat_le most_groups (length t.touched)) (Some body.TooManyGroups) None) (cond (has_none t.touched) None (Some (body.SecondGroup g)))
    (chosen (nat_le most_groups (length t.touched)) (Some body.TooManyGroups) None refl tt)
    (chosen (has_none t.touched) None (Some (body.SecondGroup g)) tt refl)

group-refuses : (t : Option Transaction) (g : Option KeyParts) → Refuses (group_refusal t g)
group-refuses None g = tt
group-refuses (Some t) None = new_group-refuses t None
group-refuses (Some t) (Some g) = by (touch_place g t.touched) where
  by : (o : Option ℕ) → Refuses (unless_touched o (new_group_refusal t (Some g)))
  by None = new_group-refuses t (Some g)
  by (Some place) = tt

write-refuses : (t : Option Transaction) → Refuses (write_refusal t)
write-refuses None = tt
write-refuses (Some t) = chosen (nat_le most_writes (length t.writes)) (Some body.TooManyWrites) None refl tt

entity-refuses : (o : Option EntityRefused) → Refuses (entity_body o)
entity-refuses None = tt
entity-refuses (Some entity.BadKey) = refl
entity-refuses (Some (entity.BadValue i)) = refl
entity-refuses (Some (entity.TooLarge size)) = refl
entity-refuses (Some entity.NoMemory) = refl

row-refuses : (definitions : List IndexDef) (e : EntityParts) → Refuses (row_refusal definitions e)
row-refuses definitions e = chosen (nat_lt most_index_rows (row_count definitions e)) (Some (body.TooManyRows (min (row_count definitions e) greatest_told))) None refl tt

in_transaction-refuses : (t : Option Transaction) → Refuses (in_transaction t)
in_transaction-refuses None = tt
in_transaction-refuses (Some t) = refl

no_transaction-refuses : (t : Option Transaction) → Refuses (no_transaction t)
no_transaction-refuses None = refl
no_transaction-refuses (Some t) = tt

call-refuses : (definitions : List IndexDef) (s : Session) (c : Call) → Refuses (refusal_of definitions s c)
call-refuses definitions s (call.Put key incomplete properties) =
    first-refuses (
    entity_body (entity_refusal key properties)
    ∷ row_refusal definitions (record { key = key; properties = properties })
    ∷ group_refusal s.transaction (group_asked incomplete key)
    ∷ write_refusal s.transaction
    ∷ []) (
      entity-refuses (entity_refusal key properties),
      (
        row-refuses definitions (record { key = key; properties = properties }),
        (group-refuses s.transaction (group_asked incomplete key), (write-refuses s.transaction, tt)),
      ),
    )
call-refuses definitions s (call.Delete key) =
    first-refuses (group_refusal s.transaction (Some (root_of key)) ∷ write_refusal s.transaction ∷ [])
    (group-refuses s.transaction (Some (root_of key)), (write-refuses s.transaction, tt))
call-refuses definitions s (call.Get key) = group-refuses s.transaction (Some (root_of key))
call-refuses definitions s (call.Begin several_groups) = in_transaction-refuses s.transaction
call-refuses definitions s call.Settle = in_transaction-refuses s.transaction
call-refuses definitions s (call.Apply shard) = in_transaction-refuses s.transaction
call-refuses definitions s call.Commit = no_transaction-refuses s.transaction
call-refuses definitions s call.Rollback = no_transaction-refuses s.transaction
call-refuses definitions s _ = tt

-- ---- those of a query

normal-refuses : (r : Result Normal QueryRefused) → Refuses (normal_refusal r)
normal-refuses (Err (query.Bad reason)) = refl
normal-refuses (Err (query.TooManySubqueries count)) = refl
normal-refuses _ = tt

ancestor-refuses : (t : Option Transaction) (ancestor : Option KeyParts) → Refuses (ancestor_refusal t ancestor)
ancestor-refuses (Some t) None = refl
ancestor-refuses _ _ = tt

ancestor_group-refuses : (t : Option Transaction) (ancestor : Option KeyParts) → Refuses (ancestor_group_refusal t ancestor)
ancestor_group-refuses t None = tt
ancestor_group-refuses t (Some ancestor) = group-refuses t (Some (root_of ancestor))

cursor-refuses : (f : Field) (told : Told) → Refuses (cursor_refusal f told)
cursor-refuses f (Refused cursor.BadCursor) = refl
cursor-refuses f (Refused cursor.CursorMismatch) = refl
cursor-refuses f _ = tt

missing-refuses : (definitions : List IndexDef) (qs : List Branch) → Refuses (missing_refusal definitions qs)
missing-refuses definitions [] = tt
missing-refuses definitions (q ∷ qs) =
    first-refuses (missing_body (missing_of q definitions) ∷ missing_refusal definitions qs ∷ []) (by (missing_of q definitions), (missing-refuses definitions qs, tt)) where
      by : (o : Option Missing) → Refuses (missing_body o)
      by None = tt
      by (Some m) = refl

form-refuses : (s : Session) (q : Query) → Refuses (form_refusal s q)
form-refuses s q =
    first-refuses (normal_refusal (normal_of q) ∷ ancestor_refusal s.transaction q.ancestor ∷ [])
    (normal-refuses (normal_of q), (ancestor-refuses s.transaction q.ancestor, tt))

search-refuses : (definitions : List IndexDef) (s : Session) (search : Search) (places : Places) → Refuses (search_refusal definitions s search places)
search-refuses definitions s search places =
    first-refuses (
    form_refusal s search.query
    ∷ cursor_refusal field.Start places.start
    ∷ cursor_refusal field.End places.end
    ∷ missing_refusal definitions (normal_form search.query).branches
    ∷ ancestor_group_refusal s.transaction search.query.ancestor
    ∷ []) (
      form-refuses s search.query,
      (
        cursor-refuses field.Start places.start,
        (
          cursor-refuses field.End places.end,
          (missing-refuses definitions (normal_form search.query).branches, (ancestor_group-refuses s.transaction search.query.ancestor, tt)),
        ),
      ),
    )

-- ---- those of a line

-- what is refused where the line is read is no Ok reply
abbrev pub LineRefuses : Result Request (ℕ × Body) → Type 0
LineRefuses (Ok r) = ⊤
LineRefuses (Err e) = is_ok e.1 ≡ false

abbrev pub ReadingRefuses : Reading → Type 0
ReadingRefuses reading = (line : Content) → LineRefuses (reading line)

within-refuses : (shards : ℕ) (r : Result Request RequestRefused) → LineRefuses (request_within shards r)
within-refuses shards (Ok r) = by (has_shard shards r.call) where
  by : (b : Bool) → LineRefuses (cond {A = Result Request (ℕ × Body)} b (Ok r) (Err (r.client, body.BadRequest field.Shard)))
  by true = tt
  by false = refl
within-refuses shards (Err refused.BadJson) = refl
within-refuses shards (Err (refused.BadRequest client f)) = refl
within-refuses shards (Err (refused.BadKey client f)) = refl
within-refuses shards (Err (refused.BadValue client f)) = refl
within-refuses shards (Err refused.NoMemory) = refl

pub asked-refuses : (shards : ℕ) → ReadingRefuses (asked shards)
asked-refuses shards (Kept bytes) = within-refuses shards (request_of bytes)
asked-refuses shards TooLong = refl

abbrev SearchRefuses : Option (Result Search Body) → Type 0
SearchRefuses (Some (Err b)) = is_ok b ≡ false
SearchRefuses _ = ⊤

statement-refuses : (f : Statement → Search) (r : Result Statement ℕ) → SearchRefuses (Some (gql_search f r))
statement-refuses f (Ok s) = tt
statement-refuses f (Err place) = refl

search_of-refuses : (c : Call) → SearchRefuses (search_of c)
search_of-refuses (call.Query namespace kind ancestor filters orders selected offset limit start end told) = tt
search_of-refuses (call.Gql namespace text args names start end told) =
    statement-refuses (statement_search namespace start end told) (statement_of text (record { args = args; names = names }))
search_of-refuses _ = tt

-- ---- an Ok reply

-- the answers to a request, with no refusal among them
abbrev pub OkAnswers : World → Session → Result Request (ℕ × Body) → Body → Session → Type 0
OkAnswers w s (Err e) said later = ⊥
OkAnswers w s (Ok r) said later =
    CallAnswers w r.client s r.call said later ⊎ ((search : Search) × (places : Places) × SearchAnswers w s r.call search places said later)

not_both : {A : Type 0} (b c : Body) → b ≡ c → is_ok b ≡ true → is_ok c ≡ false → A
not_both b c same ok refuses = absurd (no (sym ok ∙ ap is_ok same ∙ refuses)) where
  no : true ≡ false → ⊥
  no e = cc

module _ (w : World) (s later : Session) where
  unrefused : {A : Type 0} (o : Option Body) (said : Body) → Refuses o → is_ok said ≡ true → UnlessRefused o s said later A → A
  unrefused None said refuses ok a = a
  unrefused (Some b) said refuses ok a = not_both said b a.0 ok refuses

  request-ok : (r : Request) (o : Option (Result Search Body)) (said : Body) → SearchRefuses o → is_ok said ≡ true → RequestAnswers w r.client s r.call o said later → OkAnswers w s (Ok r) said later
  request-ok r None said refuses ok a = inl (unrefused (refusal_of w.definitions s r.call) said (call-refuses w.definitions s r.call) ok a)
  request-ok r (Some (Err b)) said refuses ok a = not_both said b a.0 ok refuses
  request-ok r (Some (Ok search)) said refuses ok a =
      inr (search, a.places, unrefused (search_refusal w.definitions s search a.places) said (search-refuses w.definitions s search a.places) ok a.answered)

  asked-ok : (line : Result Request (ℕ × Body)) (said : Body) → LineRefuses line → is_ok said ≡ true → AskedAnswers w s line said later → OkAnswers w s line said later
  asked-ok (Err e) said refuses ok a = not_both said e.1 a.0 ok refuses
  asked-ok (Ok r) said refuses ok a = request-ok r (search_of r.call) said (search_of-refuses r.call) ok a

  body-ok : (line : Result Request (ℕ × Body)) (said : Body) → LineRefuses line → is_ok said ≡ true → BodyAnswers w s line said later → OkAnswers w s line said later
  body-ok line body.NoMemory refuses ok a = cc
  body-ok line said refuses ok a = asked-ok line said refuses ok a

  -- an Ok reply is one of the answers to its line's request
  pub ok_answers : (reading : Reading) → ReadingRefuses reading → (line : NumberedLine) (reply : Reply) → is_ok reply.body ≡ true → Answers reading w s line reply later → OkAnswers w s (reading line.content) reply.body later
  ok_answers reading refuses line reply ok a = body-ok (reading line.content) reply.body (refuses line.content) ok a.said
