-- How a run begins, and what is told of its end from the rounds before the cut.
use Rattle.std.proofs.Common.{◌≡◌, ◌⊎◌, inl, inr, ℕ, ◌+◌, List, [], ◌∷◌, ◌++◌, refl, ap, sym, ◌∙◌, subst, Option}
use Rattle.std.specs.Prelude.{All, IsSome}
use Rattle.std.proofs.lemmas.List.Elements.{All-append, All-cons, All-nil}
use Rattle.ds_indexdef.specs.declared.IndexDef.{IndexDef}
use Rattle.ds_model.specs.Sessions.{first_sessions}
use Rattle.ds_rounds.specs.Reading.{ReaderParts, first_reader}
use Rattle.ds_clients.specs.Clients.{AreNew}
use Rattle.ds_clients.specs.Runs.{IsIdle, passes_of}
use Rattle.ds_clients.specs.Sessions.{SessionParts}
use Rattle.ds_serving.specs.Rounds.{HasServed}
use Rattle.ds_serving.specs.Runs.{HasBegun, read_faults, write_faults}
use Rattle.ds_serving.specs.declared.settings.Setting.{Setting}
use Rattle.ds_serving.proofs.RoundLaws.{served_nothing}
use Rattle.ds_serve.specs.RunSteps.{Counted, Exactly, Leaves}
use Rattle.ds_serve.specs.declared.stopped.RoundOutcome.{RoundOutcome}
use Rattle.ds_serve.specs.declared.stopped.RoundOutcome.TheVariants as outcome
use Rattle.ds_serve.specs.declared.stopped.Stopped.{Stopped}
use Rattle.ds_serve.proofs.Behind.{behind_nothing}
use Rattle.ds_serve.proofs.Ends.{first_run}
use Rattle.ds_store.specs.Passes.{PassParts}
use Rattle.ds_words.specs.declared.status.Status.{Status}
use Rattle.ds_words.specs.declared.status.Status.TheVariants as status
use Rattle.ds_cutting.specs.CutSteps.{EndsBegun, EndsUncut, HasBegunCut, HasServedSome}
use Rattle.ds_cutting.specs.CutSteps.{IsCutRunOf, IsLegalOf, RanFirst}
use Rattle.ds_cutting.specs.CutSteps.{cut_read_faults, cut_write_faults}
use Rattle.ds_cutting.proofs.CutEnds.{ends_before}
use Rattle.ds_cutting.specs.declared.outcome.CutRun.{CutRun}
use Rattle.ds_cutting.specs.declared.outcome.CutStatus.TheVariants as cut

-- before the first round
pub begun_start : (setting : Setting) (sessions : List SessionParts) (left held : Option (List ℕ)) → AreNew setting.shards sessions
    → HasServed (Counted (Exactly 0) (RanFirst setting)) left left held held first_reader sessions
begun_start setting sessions left held new =
    served_nothing (Counted (Exactly 0) (RanFirst setting)) left held sessions (
      behind_nothing setting (first_sessions setting.shards) [] sessions [] (first_run setting sessions new),
      refl,
    )

-- a run that has stopped before the cut
pub stopped_ends : {shards read_old read_new write_old write_new : ℕ} {passes : List PassParts} (s : Stopped) (run : CutRun)
    → EndsUncut shards passes (cut.Served s.status) s.unsent run → (s.status ≡ status.WriteFault) ⊎ (s.unsent ≡ []) → HasBegun s.status
    → read_new ≡ read_faults s.status read_old → write_new ≡ write_faults s.status write_old
    → EndsBegun read_old read_new write_old write_new run
stopped_ends {read_old = read_old} {write_old = write_old} s run ends all_sent begun reads writes = record {
  journal = subst IsSome (sym ends.journal_is) refl;
  unsent = told all_sent;
  began = subst HasBegunCut (sym ends.status_is) begun;
  read_fault = reads ∙ sym (ap (λ h. cut_read_faults h read_old) ends.status_is);
  write_fault = writes ∙ sym (ap (λ h. cut_write_faults h write_old) ends.status_is);
} where
  told : (s.status ≡ status.WriteFault) ⊎ (s.unsent ≡ []) → (run.status ≡ cut.Served status.WriteFault) ⊎ (run.unsent ≡ [])
  told (inl is) = inl (ends.status_is ∙ ap (λ (h : Status). cut.Served h) is)
  told (inr none) = inr (ends.unsent_is ∙ none)

-- ---- the rounds before the cut, of the first sessions

module _ {left mid old held : Option (List ℕ)} {read_old read_mid write_old write_mid : ℕ} (setting served_by : Setting)
    (second : List IndexDef) (n : ℕ) (reader_first reader reader_now : ReaderParts) (first now sessions : List SessionParts)
    (o : RoundOutcome) (same : served_by ≡ setting) (begins : reader_first ≡ first_reader) (new : AreNew setting.shards first)
    (reads_on : reader_now ≡ reader) (go_on : sessions ≡ now)
    (served : HasServedSome served_by n reader_first reader left mid old held read_old read_mid write_old write_mid first now o) where
  -- what they leave
  left_by : Leaves setting (first_sessions setting.shards) [] [] n o left mid old held reader_now sessions
  left_by =
      subst (λ (r : ReaderParts). Leaves setting (first_sessions setting.shards) [] [] n o left mid old held r sessions) (sym reads_on)
      (subst (λ (ss : List SessionParts). Leaves setting (first_sessions setting.shards) [] [] n o left mid old held reader ss) (sym go_on)
      (by (subst (λ (s : Setting).
      HasServedSome s n reader_first reader left mid old held read_old read_mid write_old write_mid first now o) same served)
      (subst (λ (r : ReaderParts). HasServed (Counted (Exactly 0) (RanFirst setting)) left left old old r first) (sym begins)
      (begun_start setting first left old new)))) where
        by : HasServedSome setting n reader_first reader left mid old held read_old read_mid write_old write_mid first now o
            → HasServed (Counted (Exactly 0) (RanFirst setting)) left left old old reader_first first
            → Leaves setting (first_sessions setting.shards) [] [] n o left mid old held reader now
        by some start = some.leaves left old start

-- the run has stopped at one of them
pub stopped_run : {left rest old held : Option (List ℕ)} {read_old read_new write_old write_new : ℕ} (setting served_by : Setting)
    (second : List IndexDef) (n : ℕ) (reader_first reader reader_now : ReaderParts) (first now sessions : List SessionParts) (s : Stopped)
    (others : List PassParts) (feeder : PassParts) (run : CutRun) → served_by ≡ setting → reader_first ≡ first_reader
    → AreNew setting.shards first → reader_now ≡ reader → sessions ≡ now
    → HasServedSome served_by n reader_first reader left rest old held read_old read_new write_old write_new first now (outcome.Stopped s)
    → All IsIdle others → IsIdle feeder
    → EndsUncut setting.shards ((others ++ feeder ∷ []) ++ passes_of sessions) (cut.Served s.status) s.unsent run
    → IsCutRunOf setting second n left rest old held read_old read_new write_old write_new run
stopped_run setting served_by second n reader_first reader reader_now first now sessions s others feeder run same begins new reads_on go_on
    served others_idle idle ends = record {
      legal = ends_before setting second n s.status (others ++ feeder ∷ []) s.unsent run
          (left_by setting served_by second n reader_first reader reader_now first now sessions (outcome.Stopped s) same begins new reads_on
          go_on served)
          (All-append IsIdle others (feeder ∷ []) others_idle (All-cons IsIdle feeder [] idle (All-nil IsIdle))) ends;
      ends = stopped_ends s run ends served.unsent served.began served.read_fault served.write_fault;
    }

-- all of them were served, and the run has gone on
pub served_run : {left mid rest old held out : Option (List ℕ)} {read_old read_mid read_new write_old write_mid write_new : ℕ}
    (setting served_by : Setting) (second : List IndexDef) (n : ℕ) (reader_first reader reader_now : ReaderParts)
    (first now sessions : List SessionParts) (run : CutRun) → served_by ≡ setting → reader_first ≡ first_reader
    → AreNew setting.shards first → reader_now ≡ reader → sessions ≡ now
    → HasServedSome served_by n reader_first reader left mid old held read_old read_mid write_old write_mid first now outcome.Served
    → (HasServed (Counted (Exactly n) (RanFirst setting)) left mid old held reader_now sessions
    → IsLegalOf setting second n left rest old out run)
    → EndsBegun read_mid read_new write_mid write_new run
    → IsCutRunOf setting second n left rest old out read_old read_new write_old write_new run
served_run {read_mid = read_mid} {read_new = read_new} {write_old = write_old} {write_new = write_new} setting served_by second n
    reader_first reader reader_now
    first now sessions run same begins new reads_on go_on served legal ends = record {
      legal = legal (left_by setting served_by second n reader_first reader reader_now first now sessions outcome.Served same begins new
          reads_on go_on served);
      ends = subst (λ (k : ℕ). EndsBegun k read_new write_old write_new run) served.read_fault
          (subst (λ (k : ℕ). EndsBegun read_mid read_new k write_new run) served.write_fault ends);
    }
