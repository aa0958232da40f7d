-- The end of a run behind what was kept, once the store has closed.
use Rattle.std.proofs.Common.{◌≡◌, ◌⊎◌, inl, ℕ, ◌+◌, ◌<◌, ◌≤◌, List, [], ◌∷◌, ◌++◌, length, refl, ap, sym, ◌∙◌, subst, arith}
use Rattle.std.proofs.Common.{Bool, Option, Some, None}
use Rattle.std.specs.Prelude.{All, IfSome, IsSome}
use Rattle.std.proofs.lemmas.List.{length-map, length-replicate}
use Rattle.std.proofs.lemmas.List.Elements.{All-nil, All-replicate, All-weaker}
use mathlib.Core.List.{IsPrefix}
use Rattle.ds_base.specs.Limits.{first_drawn_id, greatest_client}
use Rattle.ds_clients.specs.Runs.{IsIdle, passes_of, seen_of}
use Rattle.ds_clients.proofs.RoundLaws.{run_nothing}
use Rattle.ds_keep.specs.Keepers.{KeeperParts}
use Rattle.ds_kept_file.specs.Files.{Kept}
use Rattle.ds_log.specs.declared.Commit.{Commit}
use Rattle.ds_model.specs.Asked.{asked}
use Rattle.ds_model.specs.Sessions.{Session}
use Rattle.ds_serving.specs.Continued.{HasLoaded}
use Rattle.ds_serving.specs.Rounds.{RanFrom}
use Rattle.ds_serving.specs.declared.settings.Setting.{Setting}
use Rattle.ds_serving.proofs.ContinuedLaws.{legal_behind, of_loader}
use Rattle.ds_serving.proofs.RoundLaws.{served_nothing}
use Rattle.ds_protocol.specs.Watermarks.{HaveCounts}
use Rattle.ds_rounds.specs.Reading.{ReaderParts}
use Rattle.ds_clients.specs.Sessions.{SessionParts}
use Rattle.ds_store.specs.Ending.{Begins, HaveEnded}
use Rattle.ds_store.specs.Loads.{loaded}
use Rattle.ds_store.specs.Passes.{HasRead, PassParts, StoreParts}
use Rattle.ds_durable.specs.declared.outcome.KeptRun.{KeptRun}
use Rattle.ds_kept_rounds.specs.declared.status.KeptStatus.{KeptStatus}
use Rattle.ds_kept_rounds.specs.declared.status.KeptStatus.TheVariants as kept
use Rattle.ds_kept_rounds.specs.declared.stopped.Stopped.{Stopped}
use Rattle.ds_durable.specs.Behind.{IsRunBehind}
use Rattle.ds_kept_rounds.specs.Ending.{HasBegunKept, HasEndedKept, HasStoppedKept}
use Rattle.ds_restoring.specs.Fitting.{too_many_rows}
use Rattle.ds_keeping.specs.Holding.{AreCovered, seen_by}
use Rattle.ds_kept_rounds.specs.Going.{HasRunKept, IsGoing}
use Rattle.ds_durable.specs.KeptRuns.{IsUnfit, RanBehind}
use Rattle.ds_kept_rounds.specs.KeptEnds.{MayLeaveReplies, kept_read_faults, kept_write_faults}
use Rattle.ds_restoring.specs.LegalFrom.{session_from, sessions_from}
use Rattle.ds_keeping.specs.Moments.{IsBetween, IsLeft}
use Rattle.ds_restoring.specs.Restored.{IsReady}
use Rattle.ds_keeping.proofs.Between.{between_later}
use Rattle.ds_kept_rounds.proofs.Kept.{all_kept}
use Rattle.ds_durable.proofs.Sent.{are_kept}

-- ---- before the first round

-- what has committed and drawn nothing is covered
pub idle_covered : (commits next : ℕ) (sessions : List SessionParts) → All (λ s. IsIdle s.pass) sessions → AreCovered commits next sessions
idle_covered commits next sessions idle = record {
  committed = All-weaker (λ s. IsIdle s.pass) (λ s. All (λ n. n ≤ commits) s.pass.commits)
      (λ s is. subst (All (λ n. n ≤ commits)) (sym is.commits) (All-nil (λ n. n ≤ commits))) sessions idle;
  drawn = All-weaker (λ s. IsIdle s.pass) (λ s. All (λ id. id < next) s.pass.draws)
      (λ s is. subst (All (λ id. id < next)) (sym is.draws) (All-nil (λ id. id < next))) sessions idle;
}

-- a run may go on, before its first round
pub going_first : (shards n : ℕ) (keeper : KeeperParts) (store : StoreParts) (reader : ReaderParts) (sessions : List SessionParts)
    (pass : PassParts) (counts : List ℕ) (appliers : List PassParts) (capacity : ℕ)
    → IsReady n (seen_by pass) store reader sessions pass counts appliers capacity → shards ≡ n → keeper.commits ≡ length pass.journal
    → keeper.next ≡ pass.next → IsGoing shards keeper sessions pass counts
going_first shards n keeper store reader sessions pass counts appliers capacity ready same many counter = record {
  seen = subst (λ (ss : List Session). HaveCounts shards ss) (sym ready.seen)
      (All-replicate (λ s. length s.counts ≡ shards) (greatest_client + 1) (session_from n (seen_by pass))
      (length-replicate n 0 ∙ sym same));
  written = ready.written;
  covered = idle_covered keeper.commits keeper.next sessions ready.idle;
  stands = record {
    commits = many;
    place = let place = ap (λ (p : PassParts). p.place) ready.follows in omega (arith, many, place);
    next = omega (arith, counter);
  };
  many = ap (λ (cs : List ℕ). length cs) ready.none_counted ∙ length-replicate n 0 ∙ sym same;
}

-- a session for each client, who has seen what is kept
many-seen : (shards : ℕ) (before : Kept) (sessions : List SessionParts) → seen_of sessions ≡ sessions_from shards before
    → length sessions ≡ greatest_client + 1
many-seen shards before sessions seen =
    sym (length-map sessions (λ (s : SessionParts). s.seen)) ∙ ap (λ (ss : List Session). length ss) seen
    ∙ length-replicate (greatest_client + 1) (session_from shards before)

first-kept : (setting : Setting) (before : Kept) (commits next : ℕ) (sessions : List SessionParts)
    → seen_of sessions ≡ sessions_from setting.shards before → All (λ s. IsIdle s.pass) sessions
    → HasRunKept setting (sessions_from setting.shards before) commits next [] [] sessions []
first-kept setting before commits next sessions seen idle =
    all_kept setting (sessions_from setting.shards before) commits next [] sessions []
    (subst (λ (first : List Session). RanFrom setting first [] sessions []) seen
    (run_nothing setting.defs setting.shards (Some setting.window) sessions (many-seen setting.shards before sessions seen) idle))
    (idle_covered commits next sessions idle)

-- ---- the pass that loaded

-- it has loaded what was kept, whatever it has seen since
pub loaded_later : (shards : ℕ) (before : Kept) (p q : PassParts) → first_drawn_id ≤ before.next
    → p ≡ loaded shards before.journal before.next → HasRead p q → HasLoaded before.journal before.next q
loaded_later shards before p q least is read = record {
  least = least;
  seen = subst (λ (r : PassParts). IsPrefix r.journal q.journal) is read.journal;
  shown = subst (λ (r : PassParts). r.next ≤ q.next) is read.next;
  commits = read.commits ∙ ap (λ (r : PassParts). r.commits) is;
  draws = read.draws ∙ ap (λ (r : PassParts). r.draws) is;
}

-- ---- the store has closed

-- the rounds that were run are a legal run behind it, and their replies are on the disk
ran-behind : {setting : Setting} {left rest old new : Option (List ℕ)} {honest : Bool} {images : List ℕ → Type 0} (before : Kept)
    {now : List SessionParts} (idle : List PassParts) (loader : PassParts) → All IsIdle idle
    → HasLoaded before.journal before.next loader → (s : Stopped) (journal : List Commit) (next : ℕ)
    → HasStoppedKept setting (sessions_from setting.shards before) s left rest old new now honest images
    → HaveEnded setting.shards ((idle ++ passes_of now) ++ loader ∷ []) journal next
    → RanBehind setting before s.status left rest journal old new s.unsent honest images
ran-behind {setting = setting} {images = images} before {now = now} idle loader idle_all loads s journal next stopped closed =
    let at_end = stopped.stopped in
    let kept = at_end.has_run in record {
      read = at_end.read;
      told = at_end.told;
      ended = at_end.ended;
      at_the_end = at_end.at_the_end;
      rounds = at_end.rounds;
      replies = kept.run.replies;
      run = at_end.run;
      legal = legal_behind setting.defs setting.shards (Some setting.window) (sessions_from setting.shards before) at_end.rounds now
          at_end.text ((idle ++ passes_of now) ++ loader ∷ []) idle loader before.journal before.next journal next kept.run refl idle_all
          loads closed;
      written = (at_end.written.0, at_end.written.1, sym kept.run.printed ∙ at_end.written.2);
      on_disk = λ is.
          are_kept (asked setting.shards) at_end.rounds kept.run.replies kept.sent kept.held_back at_end.written.0 s.unsent stopped.held
          stopped.commits stopped.next images kept.split kept.held_is (sym kept.run.printed ∙ at_end.written.2) stopped.held_is
          kept.committed kept.drawn (stopped.on_disk is);
    }

-- what may be left at each moment, told of the closed journal
pub left_between : (shards : ℕ) (before : Kept) (others : List PassParts) (loader : PassParts) (journal : Option (List Commit))
    → IfSome journal (λ js. (next : ℕ) × HaveEnded shards (others ++ loader ∷ []) js next)
    → (image : List ℕ) → IsBetween before loader.journal image → IsLeft before journal image
left_between shards before others loader None closed image is = is.first
left_between shards before others loader (Some js) closed image is =
    let whole = of_loader (Begins shards js) (others ++ loader ∷ []) others loader refl closed.1.begin in
    between_later before loader.journal js image whole.0 is

begun-not-unfit : (how : KeptStatus) → HasBegunKept how → IsUnfit how → ⊥
begun-not-unfit (kept.Served how) begun unfit = unfit
begun-not-unfit kept.DiskFault begun unfit = unfit
begun-not-unfit (kept.Damaged place) begun unfit = unfit
begun-not-unfit (kept.TooManyRows commit count) begun unfit = begun

pub closed_behind : {setting : Setting} {left rest old new : Option (List ℕ)} {read_old read_new write_old write_new : ℕ} {honest : Bool}
    {images : List ℕ → Type 0} {disk_old disk_new : ℕ} {first now : List SessionParts} (before : Kept) (keeper : KeeperParts) (s : Stopped)
    (idle : List PassParts) (loader : PassParts) (run : KeptRun) → All IsIdle idle → HasLoaded before.journal before.next loader
    → seen_of first ≡ sessions_from setting.shards before
    → All (λ v. IsIdle v.pass) first
    → HasEndedKept setting keeper left rest old new read_old read_new write_old write_new first now honest images disk_old disk_new s
    → too_many_rows setting.defs 1 before.journal ≡ None → run.status ≡ s.status → run.unsent ≡ s.unsent
    → run.start ≡ length before.journal → IsSome run.journal
    → IfSome run.journal (λ journal. (next : ℕ) × HaveEnded setting.shards ((idle ++ passes_of now) ++ loader ∷ []) journal next)
    → IsRunBehind setting before left rest old new read_old read_new write_old write_new honest images disk_old disk_new run
closed_behind {setting} {left} {rest} {old} {new} {read_old} {read_new} {write_old} {write_new} {honest} {images} {disk_old} {disk_new}
    {first} {now} before keeper s idle loader run idle_all loads seen idle_first ended fits same_status same_unsent start some
    closing = record {
      ran = told run.journal closing;
      unfit = λ commit count is. absurd (begun-not-unfit run.status begun (subst IsUnfit (sym is) tt));
      start = start;
      unbegun = inl some;
      none = λ unfit. absurd (begun-not-unfit run.status begun unfit);
      unsent = subst (λ (t : KeptStatus). MayLeaveReplies t ⊎ (run.unsent ≡ [])) (sym same_status)
          (subst (λ (u : List ℕ). MayLeaveReplies s.status ⊎ (u ≡ [])) (sym same_unsent) ended.unsent);
      began = inl begun;
      read_fault = ended.read_fault ∙ sym (ap (λ t. kept_read_faults t read_old) same_status);
      write_fault = ended.write_fault ∙ sym (ap (λ t. kept_write_faults t write_old) same_status);
      disk_fault = λ is. ended.disk_fault (sym same_status ∙ is);
      disk_faults = ended.disk_faults;
    } where
      begun : HasBegunKept run.status
      begun = subst HasBegunKept (sym same_status) ended.began

      stopped : HasStoppedKept setting (sessions_from setting.shards before) s left rest old new now honest images
      stopped =
          ended.stopped (sessions_from setting.shards before)
          (served_nothing (HasRunKept setting (sessions_from setting.shards before) keeper.commits keeper.next []) left old first
          (first-kept setting before keeper.commits keeper.next first seen idle_first))

      told : (journal : Option (List Commit)) → IfSome journal (λ js. (next : ℕ)
          × HaveEnded setting.shards ((idle ++ passes_of now) ++ loader ∷ []) js next)
          → IfSome journal (λ js. (too_many_rows setting.defs 1 before.journal ≡ None)
          × RanBehind setting before run.status left rest js old new run.unsent honest images)
      told None none = tt
      told (Some js) closed = (
        fits,
        subst (λ (t : KeptStatus). RanBehind setting before t left rest js old new run.unsent honest images) (sym same_status)
            (subst (λ (u : List ℕ). RanBehind setting before s.status left rest js old new u honest images) (sym same_unsent)
            (ran-behind before idle loader idle_all loads s js closed.0 stopped closed.1)),
      )
