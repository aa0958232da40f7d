-- How a run ends: each end is a legal run of the rounds that were run, once the store has closed.
use Rattle.std.proofs.Common.{◌≡◌, ◌⊎◌, inl, inr, ℕ, ◌+◌, ◌-◌, ◌<◌, ◌≤◌, List, [], ◌∷◌, ◌++◌, length, refl, ap, sym, ◌∙◌}
use Rattle.std.proofs.Common.{subst, arith}
use Rattle.std.proofs.Common.{true, false, Option, Some, None}
use Rattle.std.specs.Prelude.{All, IfSome, IsPermutation, IsSome, flat_map}
use Rattle.std.specs.List.{range_with_len}
use Rattle.std.proofs.lemmas.List.{length-replicate}
use Rattle.std.proofs.lemmas.Grind.{flat_map-append}
use Rattle.std.proofs.lemmas.List.Elements.{All-nil, All-cons, All-head, All-tail, All-append, All-replicate}
use Rattle.std.proofs.lemmas.List.Sorted.{IsPermutation-append_comm, IsPermutation-refl, IsPermutation-trans}
use Rattle.ds_base.specs.Limits.{first_drawn_id, greatest_client, most_input_bytes}
use Rattle.ds_draw.specs.Draws.{numbers}
use Rattle.std.proofs.KnownBytes.{Appends-nil, Consumes-nil}
use Rattle.ds_rounds.specs.Reading.{first_reader}
use Rattle.ds_rounds.specs.Rounds.{rounds_in}
use Rattle.ds_log.specs.declared.Commit.{Commit}
use Rattle.ds_serve.specs.declared.outcome.Run.{Run}
use Rattle.ds_serve.specs.declared.stopped.Stopped.{Stopped}
use Rattle.ds_serve.specs.Runs.{IsLegalRun}
use Rattle.ds_serve.specs.RunSteps.{HasEnded, IsRunOf, Ran, RanBehind, StoppedPast}
use Rattle.ds_serving.specs.Rounds.{RanFrom, HasStopped}
use Rattle.ds_serving.specs.Runs.{HasBegun, HasTaken, WasSetUp, WereRun, Wrote, read_faults, write_faults}
use Rattle.ds_serving.specs.Settings.{IsSetting}
use Rattle.ds_serving.specs.declared.settings.Setting.{Setting}
use Rattle.ds_serving.proofs.Alike.{all_sessions, length-passes}
use Rattle.ds_serving.proofs.EndLaws.{taken}
use Rattle.ds_serving.proofs.RoundLaws.{all_wrote, served_nothing, was_set_up}
use Rattle.ds_clients.specs.Clients.{AreNew}
use Rattle.ds_clients.specs.Runs.{IsIdle, passes_of, seen_of}
use Rattle.ds_clients.specs.Sessions.{SessionParts}
use Rattle.ds_protocol.specs.Watermarks.{HaveCounts}
use Rattle.ds_clients.proofs.ClosingLaws.{idle_first, legal_run}
use Rattle.ds_clients.proofs.RoundLaws.{run_nothing}
use Rattle.ds_store.specs.Ending.{Begins, HaveEnded}
use Rattle.ds_store.specs.Passes.{nothing_seen}
use Rattle.ds_store.specs.Passes.{PassParts}
use Rattle.ds_model.specs.Legal.{Legal}
use Rattle.ds_model.specs.Sessions.{first_session, first_sessions}
use Rattle.ds_serve.proofs.Behind.{behind_nothing, stopped_alone}
use Rattle.ds_words.specs.declared.status.Status.{Status}
use Rattle.ds_words.specs.declared.status.Status.TheVariants as status

false_true : {A : Type 0} → false ≡ true → A
false_true is = cc

-- ---- rounds

-- new sessions, before the first round
pub first_run : (setting : Setting) (first : List SessionParts) → AreNew setting.shards first → Ran setting [] first []
first_run setting first new =
    subst (λ seen. RanFrom setting seen [] first []) new.seen
    (run_nothing setting.defs setting.shards (Some setting.window) first many idle) where
      many : length first ≡ greatest_client + 1
      many = sym (length-passes first) ∙ ap (λ (ps : List PassParts). length ps) new.passes
          ∙ length-replicate (greatest_client + 1) (nothing_seen setting.shards)

      idle : All (λ s. IsIdle s.pass) first
      idle = all_sessions IsIdle first (subst (All IsIdle) (sym new.passes)
          (All-replicate IsIdle (greatest_client + 1) (nothing_seen setting.shards) (idle_first setting.shards)))

-- new sessions have a count of each shard
pub counts_new : (shards : ℕ) (first : List SessionParts) → AreNew shards first → HaveCounts shards (seen_of first)
counts_new shards first new =
    subst (HaveCounts shards) (sym new.seen)
    (All-replicate (λ s. length s.counts ≡ shards) (greatest_client + 1) (first_session shards) (length-replicate shards 0))

-- ---- nothing was read

-- a setting, where none was set up
abbrev none_set : Setting
none_set = record { shards = 1; window = 1; defs = [] }

-- a run that ran no round is legal, over the empty journal
nothing_legal : Legal none_set.defs none_set.shards (Some none_set.window) [] [] []
nothing_legal = record {
  after = first_sessions none_set.shards;
  steps = (refl, refl);
  commits = IsPermutation-refl [];
  ids = record {
    bound = first_drawn_id;
    from_first = omega arith;
    each_once = subst (IsPermutation []) none_drawn (IsPermutation-refl []);
    accepted_below = All-nil (λ id. id < first_drawn_id);
    printed_within = All-nil (λ next. next ≤ first_drawn_id);
  };
} where
  none_drawn : [] ≡ range_with_len first_drawn_id (first_drawn_id - first_drawn_id)
  none_drawn = let none : 0 ≡ first_drawn_id - first_drawn_id = omega arith in ap (range_with_len first_drawn_id) none

pub ends_at_once : (how : Status) (words : List (List ℕ)) (content : List ℕ → Option (List ℕ)) (s : Status) (left held : Option (List ℕ))
    (journal : Option (List Commit)) (unsent : List ℕ) → WereRun how false [] [] → WasSetUp how [] (IsSetting words content none_set)
    → s ≡ how → journal ≡ Some [] → unsent ≡ [] →
    IfSome journal (λ journal. IsLegalRun words content s left left journal held held unsent)
ends_at_once how words content s left held journal unsent run set_up same_status same_journal none =
    subst (λ (o : Option (List Commit)). IfSome o (λ journal. IsLegalRun words content s left left journal held held unsent))
    (sym same_journal)
    (subst (λ (t : Status). IsLegalRun words content t left left [] held held unsent) (sym same_status)
    (subst (λ (rest : List ℕ). IsLegalRun words content how left left [] held held rest) (sym none)
    (record {
      read = [];
      told = Consumes-nil left;
      ended = false;
      at_the_end = λ is. false_true is;
      rounds = [];
      replies = [];
      setting = none_set;
      run = run;
      set_up = set_up;
      legal = nothing_legal;
      written = all_wrote held held [] (Appends-nil held);
    })))

-- a run that ran no round, when out of memory
pub nothing_ran : (setting : Setting) (left held : Option (List ℕ)) (reads writes : ℕ) (run : Run) → run.status ≡ status.NoMemory
    → run.journal ≡ Some [] → run.unsent ≡ [] → IsRunOf setting left left held held reads reads writes writes run
nothing_ran setting left held reads writes run no_memory empty all_sent = record {
  legal = λ words content is_set.
      ends_at_once status.NoMemory words content run.status left held run.journal run.unsent
      (rounds_in false 1 [], refl, inr (refl, omega arith)) (inl refl) no_memory empty all_sent;
  journal = subst IsSome (sym empty) refl;
  unsent = inr all_sent;
  began = subst HasBegun (sym no_memory) tt;
  read_fault = sym (ap (λ s. read_faults s reads) no_memory);
  write_fault = sym (ap (λ s. write_faults s writes) no_memory);
}

-- ---- the store has closed

module _ (P : PassParts → Type 0) where
  all-front : (ps qs : List PassParts) → All P (ps ++ qs) → All P ps
  all-front [] qs all = All-nil P
  all-front (p ∷ ps) qs all = All-cons P p ps (All-head P p (ps ++ qs) all) (all-front ps qs (All-tail P p (ps ++ qs) all))

  all-back : (ps qs : List PassParts) → All P (ps ++ qs) → All P qs
  all-back [] qs all = all
  all-back (p ∷ ps) qs all = all-back ps qs (All-tail P p (ps ++ qs) all)

  all-turned : (xs ys : List PassParts) → All P (xs ++ ys) → All P (ys ++ xs)
  all-turned xs ys all = All-append P ys xs (all-back xs ys all) (all-front xs ys all)

-- the order of the passes with which a store has ended doesn't matter
pub ended_turned : (shards : ℕ) (ps qs : List PassParts) (journal : List Commit) (next : ℕ) → HaveEnded shards (ps ++ qs) journal next
    → HaveEnded shards (qs ++ ps) journal next
ended_turned shards ps qs journal next ended = record {
  begin = all-turned (Begins shards journal) ps qs ended.begin;
  commits = turned (λ p. p.commits) (numbers 1 (length journal + 1)) ended.commits;
  draws = turned (λ p. p.draws) (numbers first_drawn_id next) ended.draws;
  counters = all-turned (λ p. p.next ≤ next) ps qs ended.counters;
} where
  turned : (f : PassParts → List ℕ) (all : List ℕ) → IsPermutation all (flat_map f (ps ++ qs)) → IsPermutation all (flat_map f (qs ++ ps))
  turned f all is =
      IsPermutation-trans all (flat_map f (ps ++ qs)) (flat_map f (qs ++ ps)) is
      (subst (λ xs. IsPermutation xs (flat_map f (qs ++ ps))) (sym (flat_map-append f ps qs))
      (subst (λ ys. IsPermutation (flat_map f ps ++ flat_map f qs) ys) (sym (flat_map-append f qs ps))
      (IsPermutation-append_comm (flat_map f ps) (flat_map f qs))))

-- a run that has stopped is a legal one over the closed journal: the store's passes are those of the sessions, and others that did nothing
closes : {words : List (List ℕ)} {content : List ℕ → Option (List ℕ)} {how : Status} {left rest old new : Option (List ℕ)}
    {unsent : List ℕ} {setting : Setting} {now : List SessionParts} (passes idle : List PassParts) (journal : List Commit) (next : ℕ)
    → IsSetting words content setting → HasStopped (Ran setting) how left rest old new unsent now
    → passes ≡ idle ++ passes_of now → All IsIdle idle → HaveEnded setting.shards passes journal next
    → IsLegalRun words content how left rest journal old new unsent
closes {words} {content} {how} {left} {rest} {old} {new} {unsent} {setting} {now} passes idle journal next is_set stopped are idle_all
    ended = record {
      read = stopped.read;
      told = stopped.told;
      ended = stopped.ended;
      at_the_end = stopped.at_the_end;
      rounds = stopped.rounds;
      replies = stopped.has_run.replies;
      setting = setting;
      run = stopped.run;
      set_up = was_set_up how stopped.rounds (IsSetting words content setting) is_set;
      legal = legal_run setting.defs setting.shards (Some setting.window) stopped.rounds now stopped.text (passes_of now ++ idle) idle
          journal
          next stopped.has_run refl idle_all
          (ended_turned setting.shards idle (passes_of now) journal next
          (subst (λ (ps : List PassParts). HaveEnded setting.shards ps journal next) are ended));
      written = subst (λ (bs : List ℕ). Wrote old new unsent bs) stopped.has_run.printed stopped.written;
    }

-- what is given at the end of a run
pub closed : {setting : Setting} {left rest old new : Option (List ℕ)} {read_old read_new write_old write_new : ℕ}
    {first now : List SessionParts} (s : Stopped) (passes idle : List PassParts) (run : Run) → AreNew setting.shards first
    → HasEnded setting first_reader left rest old new read_old read_new write_old write_new first now s → passes ≡ idle ++ passes_of now
    → All IsIdle idle → run.status ≡ s.status → run.unsent ≡ s.unsent → IsSome run.journal
    → IfSome run.journal (λ journal. (next : ℕ) × HaveEnded setting.shards passes journal next)
    → IsRunOf setting left rest old new read_old read_new write_old write_new run
closed {setting} {left} {rest} {old} {new} {read_old} {read_new} {write_old} {write_new} {first} {now} s passes idle run are_new ended are
    idle_all same_status same_unsent some closing = record {
      legal = λ words content is_set.
          told words content is_set (stopped_alone setting (first_sessions setting.shards) (StoppedPast s.status 0)
          (ended.stopped (first_sessions setting.shards) [] [] left old
          (served_nothing (RanBehind setting (first_sessions setting.shards) [] []) left old first
          (behind_nothing setting (first_sessions setting.shards) [] first [] (first_run setting first are_new)))))
          run.journal closing;
      journal = some;
      unsent = subst (λ (t : Status). (t ≡ status.WriteFault) ⊎ (run.unsent ≡ [])) (sym same_status)
          (subst (λ (u : List ℕ). (s.status ≡ status.WriteFault) ⊎ (u ≡ [])) (sym same_unsent) ended.unsent);
      began = subst HasBegun (sym same_status) ended.began;
      read_fault = ended.read_fault ∙ sym (ap (λ t. read_faults t read_old) same_status);
      write_fault = ended.write_fault ∙ sym (ap (λ t. write_faults t write_old) same_status);
    } where
      told : (words : List (List ℕ)) (content : List ℕ → Option (List ℕ)) → IsSetting words content setting
          → HasStopped (Ran setting) s.status left rest old new s.unsent now
          → (journal : Option (List Commit)) → IfSome journal (λ journal. (next : ℕ) × HaveEnded setting.shards passes journal next)
          → IfSome journal (λ journal. IsLegalRun words content run.status left rest journal old new run.unsent)
      told words content is_set stopped None none = tt
      told words content is_set stopped (Some journal) closes_so =
          subst (λ (t : Status). IsLegalRun words content t left rest journal old new run.unsent) (sym same_status)
          (subst (λ (u : List ℕ). IsLegalRun words content s.status left rest journal old new u) (sym same_unsent)
          (closes passes idle journal closes_so.0 is_set stopped are idle_all closes_so.1))

-- ---- what else a legal run tells of its end

at_limit : (words : List (List ℕ)) (content : List ℕ → Option (List ℕ)) (how : Status) (left rest old new : Option (List ℕ))
    (journal : List Commit) (unsent : List ℕ) → IsLegalRun words content how left rest journal old new unsent → how ≡ status.InputLimit
    → HasTaken most_input_bytes left rest
at_limit words content how left rest old new journal unsent legal is =
    let run : WereRun status.InputLimit legal.ended legal.read legal.rounds = subst (λ h. WereRun h legal.ended legal.read legal.rounds) is
    legal.run in
    taken legal.read left rest run.0 legal.told

pub limit_of : (words : List (List ℕ)) (content : List ℕ → Option (List ℕ)) (how : Status) (left rest old new : Option (List ℕ))
    (journal : Option (List Commit)) (unsent : List ℕ) → IsSome journal
    → IfSome journal (λ journal. IsLegalRun words content how left rest journal old new unsent) → how ≡ status.InputLimit
    → HasTaken most_input_bytes left rest
limit_of words content how left rest old new None unsent some legal is = false_true some
limit_of words content how left rest old new (Some journal) unsent some legal is = at_limit words content how left rest old new journal
    unsent legal is
