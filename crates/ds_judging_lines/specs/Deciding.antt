-- When a reply is an answer, and no other reply has its line; and what is known while a line is judged.
use Rattle.std.specs.Prelude.{◌≡◌, ℕ, ◌<◌, ◌≤◌, ◌^◌, List, Option, Some, None, All, length, ⊤}
use Rattle.serde_json.specs.Data.{Data}
use Rattle.ds_base.specs.Limits.{most_shards}
use Rattle.ds_bytes.specs.Lawful.{IsLawfulValue}
use Rattle.ds_query.specs.declared.branch.Branch.{Branch}
use Rattle.ds_query.specs.declared.branch.Pair.{Pair}
use Rattle.ds_log.specs.declared.Commit.{Commit}
use Rattle.ds_log.specs.declared.Entry.{Entry}
use Rattle.ds_request.specs.Requests.{line_data}
use Rattle.ds_reply.specs.declared.reply.Body.{Body}
use Rattle.ds_reply.specs.declared.reply.Body.TheVariants as body
use Rattle.ds_journal_text.specs.Lawful.{IsLawfulWrite}
use Rattle.ds_reply_lines.specs.ReplyLines.{IsSaid, told_by}
use Rattle.ds_model.specs.Sessions.{Session, list_of}
use Rattle.ds_model.specs.Worlds.{World, shard_lists, world_of}
use Rattle.ds_judging_lines.specs.declared.turn.Run.{Run}
use Rattle.ds_judging_lines.specs.declared.turn.Turn.{Turn}

-- All numbers of a reply have 64 bits. The answers bound each of them but the counter of a refusal that no ids are left; of it this is
-- said.
abbrev pub HasCounter : Body → Type 0
HasCounter (body.IdsExhausted next) = next < 2 ^ 64
HasCounter said = ⊤

-- The body is an answer that leaves this session; and whatever else has the line and is an answer is this very one.
pub record IsTheAnswer (answers : Body → Session → Type 0) (client number : ℕ) (line : List ℕ) (said : Body)
    (after : Session) : Type 0 where
  pub counter : HasCounter said
  pub is_said : IsSaid client number line said
  pub is_answer : answers said after
  pub only : (other : Body) (later : Session) → HasCounter other → IsSaid client number line other → answers other later
      → (other ≡ said) × (later ≡ after)

-- no answer has the line
abbrev pub NoAnswer : (Body → Session → Type 0) → ℕ → ℕ → List ℕ → Type 0
NoAnswer answers client number line =
    (other : Body) (later : Session) → HasCounter other → IsSaid client number line other → answers other later → ⊥

-- what is found of a line: the body of its reply, where that is an answer, and none where no answer has it
abbrev pub Decides : (Body → Session → Type 0) → ℕ → ℕ → List ℕ → Option Body → Session → Type 0
Decides answers client number line None after = NoAnswer answers client number line
Decides answers client number line (Some said) after = IsTheAnswer answers client number line said after

-- ---- the journal that replies are held against

-- there are 1 to 16 shards; commits and entries are counted by 64 bits; and keys, texts and numbers of writes are what the code's types
-- keep
pub record IsHeld (shards : ℕ) (journal : List Commit) : Type 0 where
  pub least : 1 ≤ shards
  pub most : shards ≤ most_shards
  pub commits : length journal < 2 ^ 64
  pub entries : (shard : ℕ) → length (list_of (shard_lists shards journal) shard) < 2 ^ 64
  pub lawful : All (λ (c : Commit). All IsLawfulWrite c.writes) journal

-- ---- the code's types

-- the values that a branch asks are what the code's types keep
abbrev pub AsksLawful : Branch → Type 0
AsksLawful q = All (λ (p : Pair). IsLawfulValue p.value) q.equal

-- what a run is about
abbrev pub world_run : Run → World
world_run run = world_of run.defs.now run.history.shards (Some run.window) run.history.journal

abbrev pub world_in : Turn → World
world_in turn = world_run turn.run.now

-- what the reply's line tells as JSON
abbrev pub told_in : Turn → Data
told_in turn = told_by turn.told

-- what is known of a line and its reply: what the reply tells is its line's JSON, and the line's numbers fit
pub record IsTurn (turn : Turn) : Type 0 where
  pub told : (d : Data) → line_data turn.line.now ≡ Some d → told_in turn ≡ d
  pub client : turn.client < 2 ^ 64
  pub number : turn.number < 2 ^ 64
  pub held : IsHeld turn.run.now.history.shards turn.run.now.history.journal

-- a client has a count for each shard, and the shown id counter isn't 0
pub record IsSessionIn (shards : ℕ) (s : Session) : Type 0 where
  pub counted : length s.counts ≡ shards
  pub shown : 1 ≤ s.next_id

-- a client whose line it is
pub record IsSession (t : Turn) (s : Session) : Type 0 where
  pub turn : IsTurn t
  pub own : IsSessionIn t.run.now.history.shards s

abbrev pub DecidesTurn : Turn → (Body → Session → Type 0) → Option Body → Session → Type 0
DecidesTurn turn answers found after = Decides answers turn.client turn.number turn.line.now found after

-- the reply says this; or it doesn't
abbrev pub SaidIs : Turn → Body → Option Body → Type 0
SaidIs turn body (Some b) = (b ≡ body) × IsSaid turn.client turn.number turn.line.now b
SaidIs turn body None = IsSaid turn.client turn.number turn.line.now body → ⊥

-- the line says this body, and leaves this session; or it doesn't say it
abbrev pub SaysThen : Turn → Body → Session → Option Body → Session → Type 0
SaysThen turn said then_seen None after = IsSaid turn.client turn.number turn.line.now said → ⊥
SaysThen turn said then_seen (Some b) after = (b ≡ said) × IsSaid turn.client turn.number turn.line.now b × (after ≡ then_seen)

-- one of these, and whichever of them is told is this one; or none of them is told
abbrev pub IsOnlyTold : {A : Type 0} → (A → Type 0) → Option A → Option A → Type 0
IsOnlyTold P told (Some m) = P m × ((k : _) → told ≡ Some k → P k → k ≡ m)
IsOnlyTold P told None = (k : _) → told ≡ Some k → P k → ⊥

-- the count of one shard: no lower than the one seen and than the least one, no higher than the shard's list is long
abbrev pub IsCountWithin : (ℕ → ℕ) → List (List Entry) → ℕ → ℕ → ℕ → Type 0
IsCountWithin least lists shard seen count = (seen ≤ count) × (least shard ≤ count) × (count ≤ length (list_of lists shard))
