-- Replies to begin, commit and rollback.
use Rattle.std.proofs.Common.{◌≡◌, ℕ, ◌+◌, ◌-◌, ◌^◌, ◌<◌, ◌≤◌, List, [], ◌∷◌, length, take, refl, ap, sym, ◌∙◌, subst, arith}
use Rattle.std.proofs.Common.{Option, Some, None, Bool, true, false, cond, ◌⊎◌, inl, inr}
use Rattle.std.specs.Prelude.{codes, nat_lt, slice_get}
use Rattle.std.specs.Option.{option_map, option_or}
use Rattle.std.proofs.lemmas.List.{length-take-le}
use Rattle.std.proofs.lemmas.Option.{get_or_from_slice_get, slice_get_within}
use Rattle.ds_base.specs.Keys.{KeyParts}
use Rattle.ds_history.specs.Writers.{nth_commit}
use Rattle.ds_log.specs.declared.Commit.{Commit}
use Rattle.ds_log.specs.declared.Conflict.{Conflict}
use Rattle.ds_log.specs.declared.Touch.{Touch}
use Rattle.ds_log.specs.ConflictLaws.{last_writer_from-wrote}
use Rattle.ds_log.specs.Conflicts.{IsCommitted, after_place, conflict_from, conflict_of, last_writer, writes_group}
use Rattle.ds_request.specs.declared.call.Call.TheVariants as call
use Rattle.ds_reply.specs.declared.reply.Body.{Body}
use Rattle.ds_reply.specs.declared.reply.Body.TheVariants as body
use Rattle.ds_journal_text.specs.Lawful.{IsLawfulCommit, IsLawfulTouch}
use Rattle.ds_reply_lines.specs.ReplyLines.{number_at, told_by}
use Rattle.ds_model.specs.Answers.{CallAnswers, TransactionAnswers, begun}
use Rattle.ds_model.specs.Groups.{IsSeenPlace, with_transaction}
use Rattle.ds_model.specs.Sessions.{Session, Transaction, saw_place}
use Rattle.ds_model.specs.Worlds.{World}
use Rattle.ds_judging_writes.specs.Committing.{IsCommit, IsConflict, IsDraftOf}
use Rattle.ds_judging_lines.specs.Deciding.{DecidesTurn, HasCounter, IsOnlyTold, IsTurn, NoAnswer, SaysThen, world_in}
use Rattle.ds_judging_lines.specs.declared.turn.Turn.{Turn}
use Rattle.ds_judging_lines.proofs.Decisions.{decides_as, decides_one, only_none}
use Rattle.ds_judging_writes.proofs.PutLaws.{number_small, numbered}
use Rattle.ds_judging_writes.proofs.WritesTold.{Error, Says, commit_tells, conflict_tells}

-- ---- conflicts

-- the commit that wrote last is one of the journal
last_within : (journal : List Commit) (g : KeyParts) (k : ℕ) → last_writer journal g ≡ Some k → k ≤ length journal
last_within journal g k is = by (last_writer_from-wrote 1 None g journal k is) where
  by : (None ≡ Some k) ⊎ ((i : ℕ) × (c : Commit) × (k ≡ 1 + i) × (slice_get journal i ≡ Some c)
      × (writes_group g c.writes ≡ true)) → k ≤ length journal
  by (inl none) = cc
  by (inr (i, c, e, there, wrote)) = let within = slice_get_within journal i c there in omega arith

-- a conflict is told of the place that it is looked for at
conflict_parts : (last : KeyParts → Option ℕ) (bound : ℕ) → ((g : KeyParts) (k : ℕ) → last g ≡ Some k → k ≤ bound) → (p i : ℕ)
    (ts : List Touch) (c : Conflict) → conflict_from last p i ts ≡ Some c → (c.place ≡ p) × (c.commit ≤ bound)
conflict_parts last bound small p i [] c is = cc
conflict_parts last bound small p i (t ∷ ts) c is =
    by (last t.group) refl is (conflict_parts last bound small p (i + 1) ts c)
  where
    by : (o : Option ℕ) → last t.group ≡ o
        → option_or (option_map (λ n. record { group = i; commit = n; place = p }) (after_place t.place o))
        (conflict_from last p (i + 1) ts)
        ≡ Some c → (conflict_from last p (i + 1) ts ≡ Some c → (c.place ≡ p) × (c.commit ≤ bound)) → (c.place ≡ p) × (c.commit ≤ bound)
    by None e told later = later told
    by (Some n) e told later = late (nat_lt t.place n) told where
      late : (b : Bool) → option_or (option_map (λ k. record { group = i; commit = k; place = p }) (cond b (Some n) None))
          (conflict_from last p (i + 1) ts) ≡ Some c → (c.place ≡ p) × (c.commit ≤ bound)
      late true told =
          let own : Conflict = record { group = i; commit = n; place = p } in
          let same : own ≡ c = cc in
          (sym (ap (λ (d : Conflict). d.place) same), subst (λ (d : Conflict). d.commit ≤ bound) same (small t.group n e))
      late false told = later told

conflict_told_at : (journal : List Commit) (m : ℕ) (ts : List Touch) (c : Conflict) → m ≤ length journal
    → conflict_of (take m journal) ts ≡ Some c → (c.place ≡ m) × (c.commit ≤ m)
conflict_told_at journal m ts c within is =
    let size = length-take-le m journal within in
    let parts = conflict_parts (last_writer (take m journal)) (length (take m journal)) (last_within (take m journal))
    (length (take m journal)) 0 ts c is in
    (parts.0 ∙ size, omega arith)

module _ (turn : Turn) (s : Session) (read : IsTurn turn) where
  abbrev journal : List Commit
  journal = turn.run.now.history.journal

  abbrev world : World
  world = world_in turn

  abbrev pub CommitTold : Option ℕ
  CommitTold = number_at (codes "commit") (told_by turn.told)

  abbrev pub PlaceTold : Option ℕ
  PlaceTold = number_at (codes "place") (told_by turn.told)

  -- ---- begin and rollback

  pub begin_decided : (several_groups : Bool) (found : Option Body) (after : Session)
      → SaysThen turn body.Begin (with_transaction (Some (begun several_groups)) s) found after
      → DecidesTurn turn (CallAnswers world turn.client s (call.Begin several_groups)) found after
  begin_decided several_groups found after says =
      decides_one (CallAnswers world turn.client s (call.Begin several_groups)) turn body.Begin
      (with_transaction (Some (begun several_groups)) s) after found tt refl only says
    where
      only : (other : Body) (later : Session) → HasCounter other → Says turn other
          → CallAnswers world turn.client s (call.Begin several_groups) other later
          → (other ≡ body.Begin) × (later ≡ with_transaction (Some (begun several_groups)) s)
      only body.Begin later counter said answered = (refl, answered)
      only _ later counter said answered = absurd answered

  pub rollback_decided : (found : Option Body) (after : Session) → SaysThen turn body.Rollback (with_transaction None s) found after
      → DecidesTurn turn (CallAnswers world turn.client s call.Rollback) found after
  rollback_decided found after says =
      decides_one (CallAnswers world turn.client s call.Rollback) turn body.Rollback (with_transaction None s) after found tt refl only says
    where
      only : (other : Body) (later : Session) → HasCounter other → Says turn other
          → CallAnswers world turn.client s call.Rollback other later → (other ≡ body.Rollback) × (later ≡ with_transaction None s)
      only body.Rollback later counter said answered = (refl, answered)
      only _ later counter said answered = absurd answered

  -- ---- commit

  abbrev pub ended : ℕ → Session
  ended m = saw_place m (with_transaction None s)

  abbrev ToldCommit : Commit → Body → Session → Type 0
  ToldCommit draft other later =
      (n : ℕ) × (other ≡ body.Commit n) × (Error turn ≡ None) × (CommitTold ≡ Some n) × (s.place < n) × (nth_commit journal n ≡ Some draft)
      × IsCommitted (take (n - 1) journal) draft × (later ≡ ended n)

  committed_told : (o : Option Transaction) (draft : Commit) (other : Body) (later : Session) → IsDraftOf turn.client o draft
      → Says turn other → IsCommit world turn.client s o other later → ToldCommit draft other later
  committed_told None draft other later of said answered = absurd of
  committed_told (Some t) draft (body.Commit n) later of said answered =
      let small = number_small journal s.place n (record { client = turn.client; touched = t.touched; writes = t.writes }) read.held.commits
      answered.later answered.committed in
      let told = commit_tells turn read n small said in (
        n,
        refl,
        told.0,
        told.1,
        answered.later,
        numbered journal s.place n answered.later ∙ answered.committed ∙ ap (λ c. Some c) (sym of),
        subst (IsCommitted (take (n - 1) journal)) (sym of) answered.serial,
        answered.ended,
      )
  committed_told (Some t) draft _ later of said answered = absurd answered

  module _ (o : Option Transaction) (draft : Commit) (of : IsDraftOf turn.client o draft) where
    pub committed_none : ((n : ℕ) → CommitTold ≡ Some n → s.place < n → nth_commit journal n ≡ Some draft
        → IsCommitted (take (n - 1) journal) draft → ⊥) → NoAnswer (IsCommit world turn.client s o) turn.client turn.number turn.line.now
    committed_none never = λ other later counter said answered.
        let h = committed_told o draft other later of said answered in
        never h.0 h.3 h.4 h.5 h.6

    commit_answers : (p : Option Transaction) (n : ℕ) → IsDraftOf turn.client p draft → s.place < n → nth_commit journal n ≡ Some draft
        → IsCommitted (take (n - 1) journal) draft → IsCommit world turn.client s p (body.Commit n) (ended n)
    commit_answers None n own later there serial = absurd own
    commit_answers (Some t) n own later there serial = record {
      later = later;
      committed = sym (numbered journal s.place n later) ∙ there ∙ ap (λ c. Some c) own;
      serial = subst (IsCommitted (take (n - 1) journal)) own serial;
      ended = refl;
    }

    pub committed_decided : (n : ℕ) (found : Option Body) (after : Session) → CommitTold ≡ Some n → s.place < n
        → nth_commit journal n ≡ Some draft → IsCommitted (take (n - 1) journal) draft → SaysThen turn (body.Commit n) (ended n) found after
        → DecidesTurn turn (IsCommit world turn.client s o) found after
    committed_decided n found after told later there serial says =
        decides_one (IsCommit world turn.client s o) turn (body.Commit n) (ended n) after found tt
        (commit_answers o n of later there serial)
        only says
      where
        only : (other : Body) (next : Session) → HasCounter other → Says turn other → IsCommit world turn.client s o other next
            → (other ≡ body.Commit n) × (next ≡ ended n)
        only other next counter said answered =
            let h = committed_told o draft other next of said answered in
            let same : h.0 ≡ n = cc (h.3, told) in
            (h.1 ∙ ap (λ m. body.Commit m) same, h.7 ∙ ap ended same)

  -- ---- conflict

  -- the conflict of a commit with the journal's first m commits, and the group that it is told of
  pub record AtPlace (draft : Commit) (m turn_of commit : ℕ) (group : KeyParts) : Type 0 where
    pub place : IsSeenPlace journal s m
    pub conflict : conflict_of (take m journal) draft.touched ≡ Some (record { group = turn_of; commit = commit; place = m })
    pub touched : ℕ
    pub named : slice_get draft.touched turn_of ≡ Some (record { group = group; place = touched })

  abbrev ToldConflict : Commit → Body → Session → Type 0
  ToldConflict draft other later =
      (m : ℕ) × (turn_of : ℕ) × (commit : ℕ) × (group : KeyParts) × (other ≡ body.Conflict commit group m) × (Error turn ≡ Some 13)
      × (PlaceTold ≡ Some m) × AtPlace draft m turn_of commit group × (later ≡ ended m)

  conflict_told : (o : Option Transaction) (draft : Commit) (other : Body) (later : Session) → IsLawfulCommit draft
      → IsDraftOf turn.client o draft → Says turn other → IsConflict world s o other later → ToldConflict draft other later
  conflict_told None draft other later lawful of said answered = absurd of
  conflict_told (Some t) draft (body.Conflict commit group m) later lawful of said answered =
      let is : AtPlace draft m answered.turn commit group = record {
        place = answered.place;
        conflict = ap (λ (c : Commit). conflict_of (take m journal) c.touched) of ∙ answered.conflict;
        touched = answered.touched;
        named = ap (λ (c : Commit). slice_get c.touched answered.turn) of ∙ answered.named;
      } in
      let own : Conflict = record { group = answered.turn; commit = commit; place = m } in
      let parts = conflict_told_at journal m draft.touched own answered.place.within is.conflict in
      let fits = read.held.commits in
      let within : m ≤ length journal = answered.place.within in
      let few : commit ≤ m = parts.1 in
      let small : commit < 2 ^ 64 = omega arith in
      let low : m < 2 ^ 64 = omega arith in
      let mine : Touch = record { group = group; place = answered.touched } in
      let touch : IsLawfulTouch mine = subst IsLawfulTouch (get_or_from_slice_get draft.touched answered.turn mine mine is.named)
      (lawful.touched answered.turn mine (slice_get_within draft.touched answered.turn mine is.named)) in
      let told = conflict_tells turn read commit group m small touch.group low said in
      (m, answered.turn, commit, group, refl, told.0, told.1, is, answered.ended)
  conflict_told (Some t) draft _ later lawful of said answered = absurd answered

  module _ (o : Option Transaction) (draft : Commit) (lawful : IsLawfulCommit draft) (of : IsDraftOf turn.client o draft) where
    pub conflict_none : ((m turn_of commit : ℕ) (group : KeyParts) → PlaceTold ≡ Some m → AtPlace draft m turn_of commit group → ⊥)
        → NoAnswer (IsConflict world s o) turn.client turn.number turn.line.now
    conflict_none never = λ other later counter said answered.
        let h = conflict_told o draft other later lawful of said answered in
        never h.0 h.1 h.2 h.3 h.6 h.7

    conflict_answers : (p : Option Transaction) (m turn_of commit : ℕ) (group : KeyParts) → IsDraftOf turn.client p draft
        → AtPlace draft m turn_of commit group → IsConflict world s p (body.Conflict commit group m) (ended m)
    conflict_answers None m turn_of commit group own is = absurd own
    conflict_answers (Some t) m turn_of commit group own is = record {
      place = is.place;
      turn = turn_of;
      conflict = ap (λ (c : Commit). conflict_of (take m journal) c.touched) (sym own) ∙ is.conflict;
      touched = is.touched;
      named = ap (λ (c : Commit). slice_get c.touched turn_of) (sym own) ∙ is.named;
      ended = refl;
    }

    pub conflict_decided : (m turn_of commit : ℕ) (group : KeyParts) (found : Option Body) (after : Session)
        → ((k : ℕ) → PlaceTold ≡ Some k → IsSeenPlace journal s k → k ≡ m) → AtPlace draft m turn_of commit group
        → SaysThen turn (body.Conflict commit group m) (ended m) found after → DecidesTurn turn (IsConflict world s o) found after
    conflict_decided m turn_of commit group found after one is says =
        decides_one (IsConflict world s o) turn (body.Conflict commit group m) (ended m) after found tt
        (conflict_answers o m turn_of commit group of is) only says
      where
        only : (other : Body) (next : Session) → HasCounter other → Says turn other → IsConflict world s o other next
            → (other ≡ body.Conflict commit group m) × (next ≡ ended m)
        only other next counter said answered =
            let h = conflict_told o draft other next lawful of said answered in
            let there : AtPlace draft h.0 h.1 h.2 h.3 = h.7 in
            let same : h.0 ≡ m = one h.0 h.6 there.place in
            let first : Conflict = record { group = h.1; commit = h.2; place = h.0 } in
            let second : Conflict = record { group = turn_of; commit = commit; place = m } in
            let conflicts : Some first ≡ Some second =
            sym there.conflict ∙ ap (λ k. conflict_of (take k journal) draft.touched) same ∙ is.conflict in
            let both : first ≡ second = cc conflicts in
            let commits : h.2 ≡ commit = ap (λ (d : Conflict). d.commit) both in
            let turns : h.1 ≡ turn_of = ap (λ (d : Conflict). d.group) both in
            let left : Touch = record { group = h.3; place = there.touched } in
            let right : Touch = record { group = group; place = is.touched } in
            let touches : Some left ≡ Some right = sym there.named ∙ ap (slice_get draft.touched) turns ∙ is.named in
            let touch : left ≡ right = cc touches in
            let groups : h.3 ≡ group = ap (λ (u : Touch). u.group) touch in (
              h.4 ∙ ap (λ n. body.Conflict n h.3 h.0) commits ∙ ap (λ g. body.Conflict commit g h.0) groups
                  ∙ ap (λ k. body.Conflict commit group k) same,
              h.8 ∙ ap ended same,
            )

    -- ---- what is looked up

    abbrev pub body_for : Conflict → Touch → Body
    body_for c touch = body.Conflict c.commit touch.group c.place

    -- the place of every answer is the one that is found
    abbrev IsOne : ℕ → Type 0
    IsOne m = IsSeenPlace journal s m × ((k : ℕ) → PlaceTold ≡ Some k → IsSeenPlace journal s k → k ≡ m)

    moved : (m k turn_of commit : ℕ) (group : KeyParts) → k ≡ m → AtPlace draft k turn_of commit group
        → conflict_of (take m journal) draft.touched ≡ Some (record { group = turn_of; commit = commit; place = k })
    moved m k turn_of commit group same is =
        sym (ap (λ n. conflict_of (take n journal) draft.touched) same) ∙ is.conflict

    pub conflict_unplaced : (r : Option ℕ) → IsOnlyTold (IsSeenPlace journal s) PlaceTold r → ((m : ℕ) → r ≡ Some m → ⊥)
        → NoAnswer (IsConflict world s o) turn.client turn.number turn.line.now
    conflict_unplaced r only never = conflict_none (λ m turn_of commit group told is.
        only_none (IsSeenPlace journal s) PlaceTold r only never m told is.place)

    pub conflict_unlooked : (m : ℕ) (r : Option Conflict) → IsOne m → r ≡ conflict_of (take m journal) draft.touched
        → ((c : Conflict) → r ≡ Some c → ⊥) → NoAnswer (IsConflict world s o) turn.client turn.number turn.line.now
    conflict_unlooked m r one is never = conflict_none (λ k turn_of commit group told there.
        never (record { group = turn_of; commit = commit; place = k })
        (is ∙ moved m k turn_of commit group (one.1 k told there.place) there))

    pub conflict_unnamed : (m : ℕ) (c : Conflict) (r : Option Body) → IsOne m → conflict_of (take m journal) draft.touched ≡ Some c
        → r ≡ option_map (body_for c) (slice_get draft.touched c.group) → ((b : Body) → r ≡ Some b → ⊥)
        → NoAnswer (IsConflict world s o) turn.client turn.number turn.line.now
    conflict_unnamed m c r one is named never = conflict_none (λ k turn_of commit group told there.
        let mine : Conflict = record { group = turn_of; commit = commit; place = k } in
        let both : Some mine ≡ Some c = sym (moved m k turn_of commit group (one.1 k told there.place) there) ∙ is in
        let same : mine ≡ c = cc both in
        let touch : Touch = record { group = group; place = there.touched } in
        never (body_for c touch) (named ∙ ap (option_map (body_for c))
        (ap (slice_get draft.touched) (sym (ap (λ (d : Conflict). d.group) same)) ∙ there.named)))

    mapped : (f : Touch → Body) (t : Option Touch) (b : Body) → option_map f t ≡ Some b → (u : Touch) × (t ≡ Some u) × (f u ≡ b)
    mapped f None b is = cc
    mapped f (Some u) b is = (u, refl, (let same : f u ≡ b = cc is in same))

    pub conflict_found : (m : ℕ) (c : Conflict) (b : Body) (found : Option Body) (after : Session) → IsOne m
        → conflict_of (take m journal) draft.touched ≡ Some c → option_map (body_for c) (slice_get draft.touched c.group) ≡ Some b
        → SaysThen turn b (ended m) found after → DecidesTurn turn (IsConflict world s o) found after
    conflict_found m c b found after one is named says =
        let touch = mapped (body_for c) (slice_get draft.touched c.group) b named in
        let parts = conflict_told_at journal m draft.touched c one.0.within is in
        let exact : c ≡ record { group = c.group; commit = c.commit; place = m } =
        ap (λ p. record { group = c.group; commit = c.commit; place = p }) parts.0 in
        let there : AtPlace draft m c.group c.commit touch.0.group = record {
          place = one.0;
          conflict = is ∙ ap (λ d. Some d) exact;
          touched = touch.0.place;
          named = touch.1;
        } in
        let body_is : b ≡ body.Conflict c.commit touch.0.group m = sym touch.2 ∙ ap (λ p. body.Conflict c.commit touch.0.group p) parts.0 in
        conflict_decided m c.group c.commit touch.0.group found after one.1 there
        (subst (λ d. SaysThen turn d (ended m) found after) body_is says)

    -- ---- both

    module _ (found : Option Body) (after : Session) where
      abbrev Commits : Body → Session → Type 0
      Commits = TransactionAnswers world turn.client s o

      pub commit_conflict : Error turn ≡ Some 13 → DecidesTurn turn (IsConflict world s o) found after
          → DecidesTurn turn Commits found after
      commit_conflict error = decides_as (IsConflict world s o) turn Commits after found (there o) (back o of) where
        there : (p : Option Transaction) (b : Body) (t : Session) → HasCounter b → Says turn b → IsConflict world s p b t
            → TransactionAnswers world turn.client s p b t
        there (Some u) (body.Conflict commit group m) t counter said answered = answered
        there (Some u) _ t counter said answered = absurd answered
        there None b t counter said answered = absurd answered

        back : (p : Option Transaction) → IsDraftOf turn.client p draft → (b : Body) (t : Session) → HasCounter b → Says turn b
            → TransactionAnswers world turn.client s p b t → IsConflict world s p b t
        back (Some u) own (body.Conflict commit group m) t counter said answered = answered
        back (Some u) own (body.Commit n) t counter said answered =
            let h = committed_told (Some u) draft (body.Commit n) t own said answered in
            cc (h.2, error)
        back (Some u) own _ t counter said answered = absurd answered
        back None own b t counter said answered = absurd own

      pub commit_committed : (Error turn ≡ Some 13 → ⊥) → DecidesTurn turn (IsCommit world turn.client s o) found after
          → DecidesTurn turn Commits found after
      commit_committed fine = decides_as (IsCommit world turn.client s o) turn Commits after found (there o) (back o of) where
        there : (p : Option Transaction) (b : Body) (t : Session) → HasCounter b → Says turn b → IsCommit world turn.client s p b t
            → TransactionAnswers world turn.client s p b t
        there (Some u) (body.Commit n) t counter said answered = answered
        there (Some u) _ t counter said answered = absurd answered
        there None b t counter said answered = absurd answered

        back : (p : Option Transaction) → IsDraftOf turn.client p draft → (b : Body) (t : Session) → HasCounter b → Says turn b
            → TransactionAnswers world turn.client s p b t → IsCommit world turn.client s p b t
        back (Some u) own (body.Commit n) t counter said answered = answered
        back (Some u) own (body.Conflict commit group m) t counter said answered =
            let h = conflict_told (Some u) draft (body.Conflict commit group m) t lawful own said answered in
            absurd (fine h.5)
        back (Some u) own _ t counter said answered = absurd answered
        back None own b t counter said answered = absurd own
