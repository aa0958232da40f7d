-- What the lines of replies to gets tell, and of those that say that the versions are gone; and which replies those are.
use Rattle.std.proofs.Common.{◌≡◌, ℕ, ◌<◌, ◌≤◌, ◌^◌, List, length, refl, ap, sym, ◌∙◌, subst, arith, ◌⊎◌, inl, inr}
use Rattle.std.proofs.Common.{Option, Some, None}
use Rattle.std.specs.Prelude.{IfSome, codes}
use Rattle.serde_json.specs.Read.{max_depth}
use Rattle.ds_entity.specs.Entities.{EntityParts}
use Rattle.ds_base.specs.Keys.{KeyParts, root_of}
use Rattle.ds_log.specs.declared.Commit.{Commit}
use Rattle.ds_log.specs.declared.Entry.{Entry}
use Rattle.ds_log.specs.Shards.{shard_of}
use Rattle.ds_request.specs.declared.call.Call.TheVariants as call
use Rattle.ds_reply.specs.declared.reply.Body.{Body}
use Rattle.ds_reply.specs.declared.reply.Body.TheVariants as body
use Rattle.ds_reply.specs.Replies.{reply_data}
use Rattle.ds_journal_text.specs.Lawful.{IsLawfulEntity}
use Rattle.ds_journal_text.proofs.PlainData.{IsPlain}
use Rattle.ds_model.specs.Answers.{CallAnswers, ExpiredAnswers, saw_group}
use Rattle.ds_model.specs.Groups.{ReadsAt, StandsAt, place_in, with_transaction}
use Rattle.ds_model.specs.Results.{entity_of}
use Rattle.ds_model.specs.Sessions.{Session, saw_place, saw_shard_count}
use Rattle.ds_model.specs.Views.{strong_view}
use Rattle.ds_model.specs.Worlds.{World, entries_up_to, shard_lists}
use Rattle.ds_reply_lines.specs.ReplyLines.{IsSaid, number_at}
use Rattle.ds_reply_lines.proofs.PlainReplies.{expired, get_none, get_some}
use Rattle.ds_judging_lines.specs.Deciding.{DecidesTurn, IsOnlyTold, IsTurn, NoAnswer, SaysThen, told_in, world_in}
use Rattle.ds_judging_reads.specs.Reading.{IsExpired}
use Rattle.ds_judging_lines.specs.declared.turn.Turn.{Turn}
use Rattle.ds_judging_lines.proofs.Decisions.{decides_as, decides_one, told_is}
use Rattle.ds_judging_lines.proofs.LawfulItems.{found_lawful}
use Rattle.ds_judging_lines.proofs.LawfulViews.{strong_lawful}

-- a place where a group stands lies in the journal
pub stands_within : (journal : List Commit) (s : Session) (o : Option ℕ) (m : ℕ) → StandsAt journal s o m → m ≤ length journal
stands_within journal s None m stands = stands.within
stands_within journal s (Some place) m stands = stands.1

pub some_one : {A : Type 0} {o : Option A} {a b : A} → o ≡ Some a → o ≡ Some b → b ≡ a
some_one is also = cc

pub none_some : {A : Type 0} {o : Option A} {a : A} → o ≡ None → o ≡ Some a → ⊥
none_some is also = cc

module _ (turn : Turn) (is : IsTurn turn) (s : Session) (group : KeyParts) where
  abbrev journal : List Commit
  journal = turn.run.now.history.journal

  abbrev lists : List (List Entry)
  lists = shard_lists turn.run.now.history.shards journal

  abbrev w : World
  w = world_in turn

  abbrev shard : ℕ
  shard = shard_of group turn.run.now.history.shards

  -- where the group stands is told
  abbrev pub IsPlaceTold : Option ℕ → Type 0
  IsPlaceTold o = IsOnlyTold (StandsAt journal s (place_in s.transaction group)) (number_at (codes "place") (told_in turn)) o

  -- ---- the versions are gone

  abbrev expires : Body → Session → Type 0
  expires said after = IsExpired w s group said after

  -- what the line of such a reply tells
  pub record ToldExpired (other : Body) (later : Session) : Type 0 where
    pub applied : ℕ
    pub place : ℕ
    pub body_is : other ≡ body.Expired applied place (entries_up_to w place shard)
    pub place_told : number_at (codes "place") (told_in turn) ≡ Some place
    pub applied_told : number_at (codes "applied") (told_in turn) ≡ Some applied
    pub error_told : number_at (codes "error") (told_in turn) ≡ Some 23
    pub answers : ExpiredAnswers w s group applied place (entries_up_to w place shard) later

  pub expired_told : (other : Body) (later : Session) → IsSaid turn.client turn.number turn.line.now other → expires other later
      → ToldExpired other later
  expired_told (body.Expired applied m snapshot) later said answers =
      let few : applied < 2 ^ 64 = omega (arith, answers.applied_within, is.held.entries shard) in
      let told = told_is turn (body.Expired applied m snapshot) is
      (expired turn.client turn.number is.client is.number applied m snapshot few
      (omega (arith, stands_within journal s (place_in s.transaction group) m answers.place, is.held.commits))
      (omega (arith, answers.gone, few))) said in record {
        applied = applied;
        place = m;
        body_is = ap (body.Expired applied m) answers.entries;
        place_told = ap (number_at (codes "place")) told;
        applied_told = ap (number_at (codes "applied")) told;
        error_told = ap (number_at (codes "error")) told;
        answers = subst (λ n. ExpiredAnswers w s group applied m n later) answers.entries answers;
      }
  expired_told _ later said answers = absurd answers

  module _ (m : ℕ) (place : IsPlaceTold (Some m)) where
    abbrev snapshot : ℕ
    snapshot = entries_up_to w m shard

    pub expired_countless : number_at (codes "applied") (told_in turn) ≡ None → NoAnswer expires turn.client turn.number turn.line.now
    expired_countless none = λ other later counter said answers.
        let t = expired_told other later said answers in none_some none t.applied_told

    -- whatever reply has the line, it is this one
    as_expired : (applied : ℕ) (other : Body) (later : Session) → number_at (codes "applied") (told_in turn) ≡ Some applied
        → ToldExpired other later → (other ≡ body.Expired applied m snapshot) × ExpiredAnswers w s group applied m snapshot later
    as_expired applied other later applied_told t =
        let stood : t.place ≡ m = place.1 t.place t.place_told t.answers.place in
        let n : t.applied ≡ applied = some_one applied_told t.applied_told in (
          t.body_is ∙ (λ i. body.Expired (n i) (stood i) (entries_up_to w (stood i) shard)),
          subst (λ k. ExpiredAnswers w s group applied k (entries_up_to w k shard) later) stood
              (subst (λ k. ExpiredAnswers w s group k t.place (entries_up_to w t.place shard) later) n t.answers),
        )

    pub expired_unfit : (applied : ℕ) → number_at (codes "applied") (told_in turn) ≡ Some applied
        → ((later : Session) → ExpiredAnswers w s group applied m snapshot later → ⊥)
        → NoAnswer expires turn.client turn.number turn.line.now
    expired_unfit applied applied_told never = λ other later counter said answers.
        never later (as_expired applied other later applied_told (expired_told other later said answers)).1

    abbrev saw_expired : ℕ → Session
    saw_expired applied = saw_shard_count lists shard applied (saw_place m (with_transaction None s))

    pub expired_decided : (applied : ℕ) (found : Option Body) (after : Session) → number_at (codes "applied") (told_in turn) ≡ Some applied
        → ExpiredAnswers w s group applied m snapshot (saw_expired applied)
        → SaysThen turn (body.Expired applied m snapshot) (saw_expired applied) found after → DecidesTurn turn expires found after
    expired_decided applied found after applied_told answers says =
        decides_one expires turn (body.Expired applied m snapshot) (saw_expired applied) after found tt answers
        (λ other later counter said answered.
        let t = as_expired applied other later applied_told (expired_told other later said answered) in (t.0, t.1.seen)) says

-- ---- a get

module _ (turn : Turn) (is : IsTurn turn) (s : Session) (key : KeyParts) where
  abbrev gets : Body → Session → Type 0
  gets said after = CallAnswers (world_in turn) turn.client s (call.Get key) said after

  abbrev there : ℕ → Option EntityParts
  there m = entity_of (strong_view turn.run.now.history.journal m) key

  -- what the line of a reply with an entity tells
  record ToldGet (other : Body) (later : Session) : Type 0 where
    pub place : ℕ
    pub body_is : other ≡ body.Get (there place) place
    pub place_told : number_at (codes "place") (told_in turn) ≡ Some place
    pub error_told : number_at (codes "error") (told_in turn) ≡ None
    pub stands : ReadsAt turn.run.now.history.journal s (root_of key) place
    pub seen : later ≡ saw_group (world_in turn) (root_of key) place s

  get_plain : (m : ℕ) (found : Option EntityParts) → IfSome found IsLawfulEntity → m < 2 ^ 64
      → IsPlain (reply_data (record { client = turn.client; line = turn.number; body = body.Get found m })) max_depth
  get_plain m None lawful small = get_none turn.client turn.number is.client is.number m small
  get_plain m (Some e) lawful small = get_some turn.client turn.number is.client is.number e m lawful small

  get_told : (other : Body) (later : Session) → IsSaid turn.client turn.number turn.line.now other → gets other later
      → ToldGet other later ⊎ (IsExpired (world_in turn) s (root_of key) other later × (number_at (codes "error") (told_in turn) ≡ Some 23))
  get_told (body.Get found m) later said answers =
      let journal : List Commit = turn.run.now.history.journal in
      let lawful : IfSome found IsLawfulEntity =
      subst (λ o. IfSome o IsLawfulEntity) (sym answers.exact) (found_lawful (strong_view journal m) key
      (strong_lawful journal is.held.lawful m)) in
      let told = told_is turn (body.Get found m) is (get_plain m found lawful
      (omega (arith, stands_within journal s (place_in s.transaction (root_of key)) m answers.place, is.held.commits))) said in
      inl (record {
        place = m;
        body_is = ap (λ o. body.Get o m) answers.exact;
        place_told = ap (number_at (codes "place")) told;
        error_told = ap (number_at (codes "error")) told;
        stands = answers.place;
        seen = answers.seen;
      })
  get_told (body.Expired applied m snapshot) later said answers =
      inr (answers, (expired_told turn is s (root_of key) (body.Expired applied m snapshot) later said answers).error_told)
  get_told _ later said answers = absurd answers

  abbrev PlaceTold : Option ℕ → Type 0
  PlaceTold o = IsPlaceTold turn is s (root_of key) o

  pub get_placeless : PlaceTold None → NoAnswer gets turn.client turn.number turn.line.now
  get_placeless none = λ other later counter said answers. by other later said (get_told other later said answers) where
    by : (other : Body) (later : Session) → IsSaid turn.client turn.number turn.line.now other
        → ToldGet other later ⊎ (IsExpired (world_in turn) s (root_of key) other later
        × (number_at (codes "error") (told_in turn) ≡ Some 23)) → ⊥
    by other later said (inl t) = none t.place t.place_told t.stands
    by other later said (inr e) =
        let t = expired_told turn is s (root_of key) other later said e.0 in none t.place t.place_told t.answers.place

  -- where the line tells that the versions are gone, no other reply has it
  pub get_expired : (found : Option Body) (after : Session) → number_at (codes "error") (told_in turn) ≡ Some 23
      → DecidesTurn turn (λ said t. IsExpired (world_in turn) s (root_of key) said t) found after → DecidesTurn turn gets found after
  get_expired found after error = decides_as (λ said t. IsExpired (world_in turn) s (root_of key) said t) turn gets after found
      (λ b t counter said expired. there_too b t expired)
      (λ b t counter said answers. back b t (get_told b t said answers))
    where
      there_too : (b : Body) (t : Session) → IsExpired (world_in turn) s (root_of key) b t → gets b t
      there_too (body.Expired applied m entries) t expired = expired
      there_too _ t expired = absurd expired

      back : (b : Body) (t : Session)
          → ToldGet b t ⊎ (IsExpired (world_in turn) s (root_of key) b t × (number_at (codes "error") (told_in turn) ≡ Some 23))
          → IsExpired (world_in turn) s (root_of key) b t
      back b t (inl told) = absurd (none_some told.error_told error)
      back b t (inr e) = e.0

  pub get_decided : (m : ℕ) (found : Option Body) (after : Session) → PlaceTold (Some m)
      → (number_at (codes "error") (told_in turn) ≡ Some 23 → ⊥)
      → SaysThen turn (body.Get (there m) m) (saw_group (world_in turn) (root_of key) m s) found after → DecidesTurn turn gets found after
  get_decided m found after place not_gone says =
      decides_one gets turn (body.Get (there m) m) (saw_group (world_in turn) (root_of key) m s) after found tt
      (record { place = place.0; exact = refl; seen = refl })
      (λ other later counter said answers. only other later (get_told other later said answers)) says
    where
      only : (other : Body) (later : Session)
          → ToldGet other later ⊎ (IsExpired (world_in turn) s (root_of key) other later
          × (number_at (codes "error") (told_in turn) ≡ Some 23))
          → (other ≡ body.Get (there m) m) × (later ≡ saw_group (world_in turn) (root_of key) m s)
      only other later (inl t) =
          let stood : t.place ≡ m = place.1 t.place t.place_told t.stands in (
            t.body_is ∙ ap (λ k. body.Get (there k) k) stood,
            t.seen ∙ ap (λ k. saw_group (world_in turn) (root_of key) k s) stood,
          )
      only other later (inr e) = absurd (not_gone e.1)
