-- When things happen in a run over single events: what each step changes, and on which steps the numbers of a reply stand.
use Rattle.std.specs.Prelude.{◌≡◌, ◌⊎◌, ℕ, ◌+◌, ◌<◌, Bool, true, false, cond, nat_lt, List, [], ◌∷◌, ◌++◌, Option, Some, None, length, ⊤}
use Rattle.ds_entity.specs.declared.results.Seen.{Seen}
use Rattle.ds_entity.specs.declared.results.Seen.TheVariants as seen
use Rattle.ds_log.specs.declared.Commit.{Commit}
use Rattle.ds_log.specs.Logs.{shard_list}
use Rattle.ds_reply.specs.declared.reply.Body.{Body}
use Rattle.ds_reply.specs.declared.reply.Body.TheVariants as body
use Rattle.ds_reply.specs.declared.reply.WriteAt.{WriteAt}
use Rattle.ds_reply.specs.declared.reply.WriteAt.TheVariants as at
use Rattle.ds_model.specs.Legal.{drawn_by_call}
use Rattle.ds_model.specs.Sessions.{count_of, raised_at}
use Rattle.ds_protocol.specs.Operations.{ids_asked}
use Rattle.ds_effects.specs.declared.gathered.Step.{Step}
use Rattle.ds_effects.specs.declared.gathered.Step.TheVariants as steps
use Rattle.ds_core.specs.Happenings.{Happening, Moment, Said}

-- ---- what a step changes

-- a Commit adds a commit, or none
pub record MayCommit (m n : Moment) : Type 0 where
  pub journal : (n.journal ≡ m.journal) ⊎ ((c : Commit) × (n.journal ≡ m.journal ++ c ∷ []))
  pub counts : n.counts ≡ m.counts
  pub next : n.next ≡ m.next

-- an Apply applies the shard's next entry exactly where fewer are applied than the commits so far give it
pub record Applies (shards shard : ℕ) (m n : Moment) : Type 0 where
  pub journal : n.journal ≡ m.journal
  pub counts : n.counts ≡ cond (nat_lt (count_of m.counts shard) (length (shard_list m.journal shard shards)))
      (raised_at shard (count_of m.counts shard + 1) m.counts) m.counts
  pub next : n.next ≡ m.next

-- an Issue draws so many ids, or none
pub record MayDraw (count : ℕ) (m n : Moment) : Type 0 where
  pub journal : n.journal ≡ m.journal
  pub counts : n.counts ≡ m.counts
  pub next : (n.next ≡ m.next) ⊎ (n.next ≡ m.next + count)

-- a View and a Touch change nothing
pub record Looks (m n : Moment) : Type 0 where
  pub journal : n.journal ≡ m.journal
  pub counts : n.counts ≡ m.counts
  pub next : n.next ≡ m.next

abbrev pub Moves : ℕ → Step → Moment → Moment → Type 0
Moves shards steps.Commit m n = MayCommit m n
Moves shards (steps.Apply shard) m n = Applies shards shard m n
Moves shards (steps.View shard) m n = Looks m n
Moves shards steps.Touch m n = Looks m n
Moves shards (steps.Issue count) m n = MayDraw count m n

-- each step changes what such a step may
abbrev pub AreMoves : ℕ → List Happening → Type 0
AreMoves shards [] = ⊤
AreMoves shards (h ∷ hs) = Moves shards h.step h.before h.after × AreMoves shards hs

-- ---- when

-- one of these happenings is such a one
abbrev pub Occurs : (Happening → Type 0) → List Happening → Type 0
Occurs P [] = ⊥
Occurs P (h ∷ hs) = P h ⊎ Occurs P hs

-- at a Touch of the client the journal had this length
abbrev pub IsTouch : ℕ → ℕ → Happening → Type 0
IsTouch client place h = (h.client ≡ client) × (h.step ≡ steps.Touch) × (length h.before.journal ≡ place)

-- a Commit of the client added the commit of this number
abbrev pub IsCommit : ℕ → ℕ → Happening → Type 0
IsCommit client n h =
    (h.client ≡ client) × (h.step ≡ steps.Commit) × (length h.before.journal + 1 ≡ n) × (length h.after.journal ≡ n)

-- at a Commit of the client, which added none, the journal had this length
abbrev pub IsCheck : ℕ → ℕ → Happening → Type 0
IsCheck client place h =
    (h.client ≡ client) × (h.step ≡ steps.Commit) × (length h.before.journal ≡ place) × (length h.after.journal ≡ place)

-- at a View by the client, which changes nothing, the shard had applied so many entries
abbrev pub IsView : ℕ → ℕ → ℕ → Happening → Type 0
IsView client shard count h = (h.client ≡ client) × (h.step ≡ steps.View shard) × (count_of h.after.counts shard ≡ count)

-- an Apply by the client raised the shard's count to this one
abbrev pub IsApply : ℕ → ℕ → ℕ → Happening → Type 0
IsApply client shard count h =
    (h.client ≡ client) × (h.step ≡ steps.Apply shard) × (count_of h.before.counts shard < count)
    × (count_of h.after.counts shard ≡ count)

-- an Issue of the client drew so many ids from this one on
abbrev pub IsIssue : ℕ → ℕ → ℕ → Happening → Type 0
IsIssue client count first h =
    (h.client ≡ client) × (h.step ≡ steps.Issue count) × (h.before.next ≡ first) × (h.after.next ≡ first + count)

-- each shard's count is that at a View by the client
abbrev pub AreViews : List Happening → ℕ → List ℕ → Type 0
AreViews hs client counts = (shard : ℕ) → shard < length counts → Occurs (IsView client shard (count_of counts shard)) hs

abbrev pub IsSeenThen : List Happening → ℕ → Seen → Type 0
IsSeenThen hs client (seen.Place place) = Occurs (IsTouch client place) hs
IsSeenThen hs client (seen.Counts counts) = AreViews hs client counts

abbrev pub IsWrittenThen : List Happening → ℕ → WriteAt → Type 0
IsWrittenThen hs client (at.Commit n) = Occurs (IsCommit client n) hs
IsWrittenThen hs client (at.Place place) = Occurs (IsTouch client place) hs

abbrev pub IsAppliedThen : List Happening → ℕ → Bool → ℕ → ℕ → Type 0
IsAppliedThen hs client true shard count = Occurs (IsApply client shard count) hs
IsAppliedThen hs client false shard count = Occurs (IsView client shard count) hs

-- the numbers that a reply prints are those of steps of its client
abbrev pub IsPrintedThen : List Happening → ℕ → Body → Type 0
IsPrintedThen hs client (body.Put key written) = IsWrittenThen hs client written
IsPrintedThen hs client (body.Delete key written) = IsWrittenThen hs client written
IsPrintedThen hs client (body.Get entity place) = Occurs (IsTouch client place) hs
IsPrintedThen hs client (body.Query select results looked cursor) = IsSeenThen hs client looked
IsPrintedThen hs client (body.Gql select results looked cursor) = IsSeenThen hs client looked
IsPrintedThen hs client (body.Commit n) = Occurs (IsCommit client n) hs
IsPrintedThen hs client (body.Conflict commit group place) = Occurs (IsCheck client place) hs
IsPrintedThen hs client (body.Settle place counts) = Occurs (IsTouch client place) hs × AreViews hs client counts
IsPrintedThen hs client (body.Apply applied count place shard) =
    Occurs (IsTouch client place) hs × IsAppliedThen hs client applied shard count
IsPrintedThen hs client _ = ⊤

-- the ids that a reply tells as drawn are those of one Issue of its client: as many as were asked for, from the first one on
abbrev pub IsDrawnThen : List Happening → ℕ → ℕ → List ℕ → Type 0
IsDrawnThen hs client asked [] = ⊤
IsDrawnThen hs client asked (first ∷ ids) = Occurs (IsIssue client asked first) hs

-- what is said stands on what happened up to then
abbrev pub IsTimely : List Happening → Option Said → Type 0
IsTimely hs None = ⊤
IsTimely hs (Some said) =
    IsPrintedThen hs said.request.client said.reply.body
    × IsDrawnThen hs said.request.client (ids_asked said.request.call) (drawn_by_call said.request.call said.reply.body)

-- each reply stands on what happened up to it and at it
abbrev pub AreTimely : List Happening → List Happening → Type 0
AreTimely past [] = ⊤
AreTimely past (h ∷ hs) = IsTimely (past ++ h ∷ []) h.said × AreTimely (past ++ h ∷ []) hs
