-- What answers a request answers the operation that was made of it, and the other way round.
use Rattle.std.proofs.Common.{◌≡◌, ◌⊎◌, inl, inr, ℕ, ◌<◌, refl, ap, sym, subst, Option, Some, None}
use Rattle.std.specs.Prelude.{IsTrue, Ok}
use Rattle.std.proofs.lemmas.Bool.{ltb-true}
use Rattle.ds_request.specs.declared.call.Call.{Call}
use Rattle.ds_request.specs.declared.call.Call.TheVariants as call
use Rattle.ds_reply.specs.declared.reply.Body.{Body}
use Rattle.ds_reply.specs.declared.reply.Body.TheVariants as body
use Rattle.ds_model.specs.Answers.{CallAnswers, Refuses, RequestAnswers, SearchAnswers, SearchRefusedOrAnswered, UnlessRefused}
use Rattle.ds_model.specs.Asked
use Rattle.ds_model.specs.Asked.{has_shard, search_of}
use Rattle.ds_model.specs.Refusals.{Places, refusal_of, search_refusal}
use Rattle.ds_model.specs.Sessions.{Session}
use Rattle.ds_model.specs.Worlds.{World}
use Rattle.ds_protocol.specs.declared.operations.Operation.{Operation}
use Rattle.ds_protocol.specs.declared.operations.Operation.TheVariants as operation
use Rattle.ds_protocol.specs.declared.operations.OperationRefused.{OperationRefused}
use Rattle.ds_protocol.specs.declared.operations.OperationRefused.TheVariants as refused
use Rattle.ds_protocol.specs.declared.searching.Search.{Search}
use Rattle.ds_protocol.specs.Operations.{IsAlwaysRefused, IsOperationOf, call_of}
use Rattle.ds_protocol.specs.Refused.{IsRefusal, operation_body}
use Rattle.ds_protocol.specs.Searches.{IsSearchOf, is_statement, search_parts}
use Rattle.ds_judging_lines.specs.Deciding.{DecidesTurn, HasCounter, SaysThen, world_in}
use Rattle.ds_judging.specs.Judging.{IsOperated}
use Rattle.ds_judging_reads.specs.Reading.{FoundAs, IsSearched}
use Rattle.ds_judging_lines.specs.declared.turn.Turn.{Turn}
use Rattle.ds_judging_lines.proofs.Decisions.{decides_as, decides_one}

-- what is told of a call that asks nothing tells of none
pub operation_counter : (why : OperationRefused) → HasCounter (operation_body why)
operation_counter refused.BadKey = tt
operation_counter refused.BadValue = tt
operation_counter (refused.TooLarge size) = tt
operation_counter (refused.BadGql place) = tt
operation_counter refused.NoMemory = tt

-- ---- searches

unless_so : (o : Option Body) (s : Session) (b : Body) (t : Session) (A B : Type 0) → (A → B) → UnlessRefused o s b t A
    → UnlessRefused o s b t B
unless_so None s b t A B so a = so a
unless_so (Some refusal) s b t A B so a = a

no_search : {A : Type 0} {x : A} → None ≡ Some x → ⊥
no_search is = cc

found_there : (w : World) (s : Session) (search : Asked.Search) (places : Places) (c : Call) (b : Body) (t : Session)
    → SearchAnswers w s c search places b t → FoundAs w s (is_statement c) search places b t
found_there w s search places (call.Gql namespace text args names start end cursor) (body.Gql selected results sn told) t a = a
found_there w s search places (call.Gql namespace text args names start end cursor) (body.Expired applied m snapshot) t a = a
found_there w s search places (call.Gql namespace text args names start end cursor) _ t a = absurd a
found_there w s search places (call.Query namespace kind ancestor filters orders select offset limit start end cursor)
    (body.Query selected results sn told) t a = a
found_there w s search places c (body.Expired applied m snapshot) t a = a
found_there w s search places c _ t a = absurd a

found_back : (w : World) (s : Session) (search : Asked.Search) (places : Places) (c : Call) (b : Body) (t : Session)
    → search_of c ≡ Some (Ok search) → FoundAs w s (is_statement c) search places b t → SearchAnswers w s c search places b t
found_back w s search places (call.Query namespace kind ancestor filters orders select offset limit start end cursor)
    (body.Query selected results sn told) t e a = a
found_back w s search places (call.Query namespace kind ancestor filters orders select offset limit start end cursor)
    (body.Expired applied m snapshot) t e a = a
found_back w s search places (call.Query namespace kind ancestor filters orders select offset limit start end cursor) _ t e a = absurd a
found_back w s search places (call.Gql namespace text args names start end cursor) (body.Gql selected results sn told) t e a = a
found_back w s search places (call.Gql namespace text args names start end cursor) (body.Expired applied m snapshot) t e a = a
found_back w s search places (call.Gql namespace text args names start end cursor) _ t e a = absurd a
found_back w s search places _ b t e a = absurd (no_search e)

module _ (w : World) (client : ℕ) (s : Session) where
  abbrev RequestSo : Call → Body → Session → Type 0
  RequestSo c b t = RequestAnswers w client s c (search_of c) b t

  searched : (c : Call) (r : Search) (b : Body) (t : Session) → IsSearchOf c r → RequestSo c b t → IsSearched w s r b t
  searched c r b t is answers =
      let a : SearchRefusedOrAnswered w s c (search_parts r) b t =
      subst (λ o. RequestAnswers w client s c o b t) is.exact answers in record {
        places = a.places;
        read = a.read;
        answered =
            unless_so (search_refusal w.definitions s (search_parts r) a.places) s b t (SearchAnswers w s c (search_parts r) a.places b t)
            (FoundAs w s r.statement (search_parts r) a.places b t)
            (λ found. subst (λ f. FoundAs w s f (search_parts r) a.places b t) (sym is.written)
            (found_there w s (search_parts r) a.places c b t found)) a.answered;
      }

  requested : (c : Call) (r : Search) (b : Body) (t : Session) → IsSearchOf c r → IsSearched w s r b t → RequestSo c b t
  requested c r b t is a =
      let answers : SearchRefusedOrAnswered w s c (search_parts r) b t = record {
        places = a.places;
        read = a.read;
        answered =
            unless_so (search_refusal w.definitions s (search_parts r) a.places) s b t (FoundAs w s r.statement
            (search_parts r) a.places b t)
            (SearchAnswers w s c (search_parts r) a.places b t)
            (λ found. found_back w s (search_parts r) a.places c b t is.exact
            (subst (λ f. FoundAs w s f (search_parts r) a.places b t) is.written found)) a.answered;
      } in subst (λ o. RequestAnswers w client s c o b t) (sym is.exact) answers

  -- ---- operations

  operated : (c : Call) (o : Operation) (b : Body) (t : Session) → IsOperationOf c o → RequestSo c b t → IsOperated w client s o b t
  operated c (operation.Find r) b t is answers = searched c r b t is answers
  operated c o b t is answers = subst (λ d. RequestSo d b t) is answers

  asked_so : (c : Call) (o : Operation) (b : Body) (t : Session) → IsOperationOf c o → IsOperated w client s o b t → RequestSo c b t
  asked_so c (operation.Find r) b t is answers = requested c r b t is answers
  asked_so c o b t is answers = subst (λ d. RequestSo d b t) (sym is) answers

  -- ---- refusals

  always : (c : Call) (b other : Body) (later : Session) → IsAlwaysRefused c b → RequestSo c other later → Refuses b s other later
  always c b other later (inl e) answers = subst (λ o. RequestAnswers w client s c o other later) e answers
  always c b other later (inr e) answers =
      subst (λ o. UnlessRefused o s other later (CallAnswers w client s c other later)) (e.1 w.definitions s)
      (subst (λ o. RequestAnswers w client s c o other later) e.0 answers)

  always_so : (c : Call) (b : Body) → IsAlwaysRefused c b → RequestSo c b s
  always_so c b (inl e) = subst (λ o. RequestAnswers w client s c o b s) (sym e) (refl, refl)
  always_so c b (inr e) =
      subst (λ o. RequestAnswers w client s c o b s) (sym e.0)
      (subst (λ o. UnlessRefused o s b s (CallAnswers w client s c b s)) (sym (e.1 w.definitions s)) (refl, refl))

  refuses : (o : Operation) (b other : Body) (later : Session) → refusal_of w.definitions s (call_of o) ≡ Some b
      → IsOperated w client s o other later → Refuses b s other later
  refuses (operation.Find r) b other later told answers = absurd (no_search told)
  refuses o b other later told answers =
      subst (λ p. UnlessRefused p s other later (CallAnswers w client s (call_of o) other later)) told answers

  refuses_so : (o : Operation) (b : Body) → refusal_of w.definitions s (call_of o) ≡ Some b → IsOperated w client s o b s
  refuses_so (operation.Find r) b told = absurd (no_search told)
  refuses_so o b told = subst (λ p. UnlessRefused p s b s (CallAnswers w client s (call_of o) b s)) (sym told) (refl, refl)

-- an operation has its call's shard
pub has_shard_too : (shards : ℕ) (c : Call) (o : Operation) → IsOperationOf c o → IsTrue (has_shard shards c)
    → IsTrue (has_shard shards (call_of o))
has_shard_too shards c (operation.Find r) is has = refl
has_shard_too shards c o is has = subst (λ d. IsTrue (has_shard shards d)) is has

-- ---- decisions

module _ (turn : Turn) (s : Session) where
  -- one refusal alone is an answer
  pub alone_decided : (answers : Body → Session → Type 0) (b : Body) (found : Option Body) (after : Session)
      → ((other : Body) (later : Session) → answers other later → Refuses b s other later) → answers b s → HasCounter b
      → SaysThen turn b s found after → DecidesTurn turn answers found after
  alone_decided answers b found after only is counter says =
      decides_one answers turn b s after found counter is (λ other later counted said answered. only other later answered) says

  abbrev w : World
  w = world_in turn

  -- a request is answered as its operation is
  pub request_decided : (c : Call) (o : Operation) (found : Option Body) (after : Session) → IsOperationOf c o
      → DecidesTurn turn (λ said t. IsOperated w turn.client s o said t) found after
      → DecidesTurn turn (λ said t. RequestAnswers w turn.client s c (search_of c) said t) found after
  request_decided c o found after is =
      decides_as (λ said t. IsOperated w turn.client s o said t) turn (λ said t. RequestAnswers w turn.client s c (search_of c) said t)
      after found (λ b t counter said answers. asked_so w turn.client s c o b t is answers)
      (λ b t counter said answers. operated w turn.client s c o b t is answers)

  -- one that asks nothing is refused
  pub unread_decided : (c : Call) (b : Body) (found : Option Body) (after : Session) → IsAlwaysRefused c b → HasCounter b
      → SaysThen turn b s found after → DecidesTurn turn (λ said t. RequestAnswers w turn.client s c (search_of c) said t) found after
  unread_decided c b found after is counter says =
      alone_decided (λ said t. RequestAnswers w turn.client s c (search_of c) said t) b found after
      (λ other later answers. always w turn.client s c b other later is answers) (always_so w turn.client s c b is) counter says

  -- and so is an operation
  pub refusal_decided : (o : Operation) (b : Body) (found : Option Body) (after : Session) → refusal_of w.definitions s (call_of o) ≡ Some b
      → HasCounter b → SaysThen turn b s found after → DecidesTurn turn (λ said t. IsOperated w turn.client s o said t) found after
  refusal_decided o b found after told counter says =
      alone_decided (λ said t. IsOperated w turn.client s o said t) b found after
      (λ other later answers. refuses w turn.client s o b other later told answers) (refuses_so w turn.client s o b told) counter says

  -- one that isn't refused is answered as its call is
  pub called_decided : (c : Call) (found : Option Body) (after : Session) → refusal_of w.definitions s c ≡ None
      → DecidesTurn turn (λ said t. CallAnswers w turn.client s c said t) found after
      → DecidesTurn turn (λ said t. UnlessRefused (refusal_of w.definitions s c) s said t
      (CallAnswers w turn.client s c said t)) found after
  called_decided c found after none decided =
      subst (λ o. DecidesTurn turn (λ said t. UnlessRefused o s said t (CallAnswers w turn.client s c said t)) found after)
      (sym none) decided

-- any but a search
abbrev pub IsNoSearch : Operation → Type 0
IsNoSearch (operation.Find r) = ⊥
IsNoSearch o = Unit {0}

-- one that isn't refused is answered as the call is that it stands for
pub as_called : (turn : Turn) (s : Session) (o : Operation) (found : Option Body) (after : Session) → IsNoSearch o
    → refusal_of (world_in turn).definitions s (call_of o) ≡ None
    → DecidesTurn turn (λ said t. CallAnswers (world_in turn) turn.client s (call_of o) said t) found after
    → DecidesTurn turn (λ said t. IsOperated (world_in turn) turn.client s o said t) found after
as_called turn s (operation.Find r) found after plain none decided = absurd plain
as_called turn s o found after plain none decided = called_decided turn s (call_of o) found after none decided

-- a shard that there is is below the number of shards
pub shard_below : (shard shards : ℕ) → IsTrue (has_shard shards (call.Apply shard)) → shard < shards
shard_below shard shards has = ltb-true shard shards has

pub untold_refusal : (refusal : Option Body) → IsRefusal refusal None → refusal ≡ None
untold_refusal refusal (inl is) = sym is
untold_refusal refusal (inr is) = cc

pub not_unread : (why : OperationRefused) (P : Type 0) → (operation_body why ≡ body.NoMemory → ⊥) → ((why ≡ refused.NoMemory) ⊎ P) → P
not_unread why P other (inl is) = absurd (other (ap operation_body is))
not_unread why P other (inr p) = p
