-- What is told of the end of a run at the cut, and behind it.
use Rattle.std.proofs.Common.{◌≡◌, inr, ℕ, ◌+◌, List, [], ◌∷◌, ◌++◌, length, refl, ap, sym, ◌∙◌, subst, Option, None, Some}
use Rattle.std.specs.Prelude.{All, IsSome}
use Rattle.std.proofs.lemmas.List.Elements.{All-nil}
use Rattle.ds_row_limit.specs.ManyRows.{first_too_many}
use Rattle.ds_feeding.specs.declared.refused.ReindexRefused.{ReindexRefused}
use Rattle.ds_feeding.specs.declared.refused.ReindexRefused.TheVariants as refused
use Rattle.ds_indexdef.specs.declared.IndexDef.{IndexDef}
use Rattle.ds_log.specs.declared.Commit.{Commit}
use Rattle.ds_model.specs.Sessions.{Session}
use Rattle.ds_rounds.specs.Rounds.{NumberedLine}
use Rattle.ds_clients.specs.Runs.{IsIdle, passes_of}
use Rattle.ds_clients.specs.Sessions.{SessionParts}
use Rattle.ds_serving.specs.Rounds.{HasStopped}
use Rattle.ds_serving.specs.declared.settings.Setting.{Setting}
use Rattle.ds_serve.specs.RunSteps.{Counted, RanBehind, StoppedPast}
use Rattle.ds_store.specs.Ending.{HaveEnded}
use Rattle.ds_store.specs.Passes.{PassParts}
use Rattle.ds_words.specs.declared.status.Status.{Status}
use Rattle.ds_cutting.specs.CutSteps.{EndsBegun, EndsLater, EndsUncut, HasBegunCut}
use Rattle.ds_cutting.specs.CutSteps.{IsRefused}
use Rattle.ds_cutting.specs.CutSteps.{cut_read_faults, cut_write_faults, of_refused}
use Rattle.ds_cutting.specs.declared.outcome.CutRun.{CutRun}
use Rattle.ds_cutting.specs.declared.outcome.CutStatus.TheVariants as cut

-- a run that ends at the cut
pub refused_ends : {shards reads writes : ℕ} {passes : List PassParts} (r : ReindexRefused) (run : CutRun)
    → EndsUncut shards passes (of_refused r) [] run → EndsBegun reads reads writes writes run
refused_ends {reads = reads} {writes = writes} r run ends = record {
  journal = subst IsSome (sym ends.journal_is) refl;
  unsent = inr ends.unsent_is;
  began = subst HasBegunCut (sym ends.status_is) (begun r);
  read_fault = no_read r ∙ sym (ap (λ h. cut_read_faults h reads) ends.status_is);
  write_fault = no_write r ∙ sym (ap (λ h. cut_write_faults h writes) ends.status_is);
} where
  begun : (q : ReindexRefused) → HasBegunCut (of_refused q)
  begun (refused.TooManyRows commit count) = tt
  begun refused.NoMemory = tt

  no_read : (q : ReindexRefused) → reads ≡ cut_read_faults (of_refused q) reads
  no_read (refused.TooManyRows commit count) = refl
  no_read refused.NoMemory = refl

  no_write : (q : ReindexRefused) → writes ≡ cut_write_faults (of_refused q) writes
  no_write (refused.TooManyRows commit count) = refl
  no_write refused.NoMemory = refl

-- where memory is wanted there is nothing to tell
pub refused_memory : (definitions : List IndexDef) (feeder : PassParts) → IsRefused definitions feeder refused.NoMemory
refused_memory definitions feeder = record {
  fed = [];
  few = All-nil (λ (c : Commit). first_too_many definitions c.writes ≡ None);
  many = tt;
}

-- the rounds behind the cut were served, and the second store has closed
pub went_on : {left rest old new : Option (List ℕ)} (setting : Setting) (place : ℕ) (loader : PassParts) (first : List Session)
    (earlier : List (List NumberedLine)) (said : List ℕ) (run : CutRun) (how : Status) (now : List SessionParts)
    (passes idle : List PassParts) (journal : List Commit) (next : ℕ) → run.status ≡ cut.Served how → run.cut ≡ Some place
    → run.journal ≡ Some journal
    → HasStopped (Counted (StoppedPast how (length earlier)) (RanBehind setting first earlier said)) how left rest old new run.unsent now
    → passes ≡ (idle ++ passes_of now) ++ loader ∷ [] → All IsIdle idle → HaveEnded setting.shards passes journal next
    → EndsLater setting place loader first earlier said left rest old new run
went_on setting place loader first earlier said run how now passes idle journal next status_is cut_is journal_is stopped are idle_all ended
    =
    record {
      how = how;
      status_is = status_is;
      cut_is = cut_is;
      now = now;
      stopped = stopped;
      idle = idle;
      idle_all = idle_all;
      journal = journal;
      journal_is = journal_is;
      next = next;
      ended = subst (λ (ps : List PassParts). HaveEnded setting.shards ps journal next) are ended;
    }
