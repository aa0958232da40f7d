-- What else a run tells of its end.
use Rattle.std.proofs.Common.{◌≡◌, ◌⊎◌, inl, inr, ℕ, List, ap, sym, ◌∙◌, subst, Option, None, Some, Bool}
use Rattle.std.specs.Prelude.{IfSome, IsSome, Ok, Err}
use Rattle.std.specs.Option.{option_and_then}
use Rattle.std.specs.Io.KnownBytes.{Consumes}
use Rattle.ds_base.specs.Limits.{most_input_bytes}
use Rattle.ds_indexdef.specs.Reading.{yaml_of}
use Rattle.ds_log.specs.declared.Commit.{Commit}
use Rattle.ds_rounds.specs.Rounds.{NumberedLine}
use Rattle.ds_words.specs.Form.{options_of}
use Rattle.ds_words.specs.declared.options.Options.{Options}
use Rattle.ds_words.specs.declared.status.Status.{Status}
use Rattle.ds_words.specs.declared.status.Status.TheVariants as status
use Rattle.ds_serving.specs.Runs.{HasTaken, IsBelow, IsSteady}
use Rattle.ds_serving.specs.Settings.{IsFine, LeavesForm, indexes_named}
use Rattle.ds_serving.proofs.EndLaws.{complete, taken}
use Rattle.ds_cutting.specs.CutRuns.{IsFinished, IsLegalCutRun, WereRunCut}
use Rattle.ds_serve_cut.specs.CutSettings.{AreFine, IsUnsetBy, IsUnsetCut, options_of_cut}
use Rattle.ds_cutting.specs.CutSteps.{HasBegunCut, cut_read_faults, cut_write_faults}
use Rattle.ds_serve_cut.specs.CutWords.{CutWordsParts, cut_form}
use Rattle.ds_cutting.specs.declared.outcome.CutRun.{CutRun}
use Rattle.ds_cutting.specs.declared.outcome.CutStatus.{CutStatus}
use Rattle.ds_cutting.specs.declared.outcome.CutStatus.TheVariants as cut

-- ---- the limit of an input

-- at the limit just so many bytes were taken
at_limit : (how : CutStatus) (cut_at : Option ℕ) (n : ℕ) (ended : Bool) (read : List ℕ) (rounds : List (List NumberedLine))
    (left rest : Option (List ℕ)) → WereRunCut how cut_at n ended read rounds → Consumes left rest read
    → how ≡ cut.Served status.InputLimit → HasTaken most_input_bytes left rest
at_limit how cut_at n ended read rounds left rest run told is =
    by (subst (λ (s : CutStatus). WereRunCut s cut_at n ended read rounds) is run) where
      by : WereRunCut (cut.Served status.InputLimit) cut_at n ended read rounds → HasTaken most_input_bytes left rest
      by (inl ran) = taken read left rest ran.0 told
      by (inr none) = let no : status.InputLimit ≡ status.NoMemory = none.0 in cc

pub limit_cut : (words : List (List ℕ)) (file : List ℕ) (n : ℕ) (content : List ℕ → Option (List ℕ)) (left rest old new : Option (List ℕ))
    (run : CutRun) → IsSome run.journal
    → IfSome run.journal (λ journal. IsLegalCutRun words file n content run.status run.cut left rest journal old new run.unsent)
    → run.status ≡ cut.Served status.InputLimit → HasTaken most_input_bytes left rest
limit_cut words file n content left rest old new run = by run.journal where
  by : (journal : Option (List Commit)) → IsSome journal
      → IfSome journal (λ journal. IsLegalCutRun words file n content run.status run.cut left rest journal old new run.unsent)
      → run.status ≡ cut.Served status.InputLimit → HasTaken most_input_bytes left rest
  by None some legal is = cc
  by (Some journal) some legal is =
      at_limit run.status run.cut n legal.ended legal.read legal.rounds left rest legal.run legal.told is

-- ---- no fault and no limit

-- a run that began ends well, when out of memory, or for too many rows
pub finished : (how : CutStatus) (left rest : Option (List ℕ)) (in_old in_new out_old out_new : ℕ) → HasBegunCut how
    → (how ≡ cut.Served status.InputLimit → HasTaken most_input_bytes left rest) → in_new ≡ cut_read_faults how in_old
    → out_new ≡ cut_write_faults how out_old → IsBelow most_input_bytes left → IsSteady in_old in_new → IsSteady out_old out_new
    → IsFinished how
finished (cut.Served s) left rest in_old in_new out_old out_new begun limit reads writes below in_steady out_steady =
    by (complete s left rest in_old in_new out_old out_new begun (λ is. limit (ap cut.Served is)) reads writes below in_steady out_steady)
  where
    by : (s ≡ status.Done) ⊎ (s ≡ status.NoMemory) → IsFinished (cut.Served s)
    by (inl is) = subst (λ (t : Status). IsFinished (cut.Served t)) (sym is) tt
    by (inr is) = subst (λ (t : Status). IsFinished (cut.Served t)) (sym is) tt
finished (cut.NextFile line) left rest in_old in_new out_old out_new begun limit reads writes below in_steady out_steady = absurd begun
finished (cut.TooManyRows commit count) left rest in_old in_new out_old out_new begun limit reads writes below in_steady out_steady = tt

module _ (content : List ℕ → Option (List ℕ)) (before after : List ℕ → ℕ) where
  -- a fine file's text has its form
  fine_form : {A : Type 0} (name : List ℕ) (line : ℕ) → IsFine (Some name) content before after → LeavesForm (content name) line → A
  fine_form name line fine leaves =
      let own : leaves.text ≡ fine.0 = subst (λ (o : Option (List ℕ)). IfSome o (λ told. leaves.text ≡ told)) fine.2 leaves.own in
      let both : Err line ≡ Ok fine.1 = sym leaves.wrong ∙ ap yaml_of own ∙ fine.3 in cc

  fine_named : (w : CutWordsParts) (name : List ℕ) → IsFine (indexes_named w.words) content before after
      → indexes_named w.words ≡ Some name → IsFine (Some name) content before after
  fine_named w name fine named = subst (λ (o : Option (List ℕ)). IsFine o content before after) named fine

  -- where all is fine, a run fails to be set up only when out of memory
  unset_fine : (w : CutWordsParts) (how : CutStatus) → IsUnsetBy w content before after how → IsSome (options_of w.words)
      → AreFine w content before after → IsFinished how
  unset_fine w (cut.Served status.Usage) why some fine = none_some (options_of w.words) some why where
    none_some : {A : Type 0} (o : Option Options) → IsSome o → o ≡ None → A
    none_some (Some options) is none = cc
    none_some None is none = cc
  unset_fine w (cut.Served status.NoMemory) why some fine = tt
  unset_fine w (cut.Served (status.IndexFile line)) why some fine = fine_form why.0 line (fine_named w why.0 fine.0 why.1) why.2
  unset_fine w (cut.Served status.FileFault) (inl why) some fine =
      let of_file = fine_named w why.0 fine.0 why.1 in absurd (of_file.4 why.2)
  unset_fine w (cut.Served status.FileFault) (inr why) some fine = absurd (fine.1.4 why.1)
  unset_fine w (cut.NextFile line) why some fine = fine_form w.file line fine.1 why.1
  unset_fine w (cut.Served status.Done) why some fine = absurd why
  unset_fine w (cut.Served status.ReadFault) why some fine = absurd why
  unset_fine w (cut.Served status.WriteFault) why some fine = absurd why
  unset_fine w (cut.Served status.InputLimit) why some fine = absurd why
  unset_fine w (cut.TooManyRows commit count) why some fine = absurd why

  pub unset_finished : (words : List (List ℕ)) (how : CutStatus) → IsUnsetCut (cut_form words) content before after how
      → IsSome (options_of_cut words) → IfSome (cut_form words) (λ w. AreFine w content before after) → IsFinished how
  unset_finished words how = by (cut_form words) where
    by : (o : Option CutWordsParts) → IsUnsetCut o content before after how
        → IsSome (option_and_then (λ (w : CutWordsParts). options_of w.words) o)
        → IfSome o (λ w. AreFine w content before after) → IsFinished how
    by None why some fine = cc
    by (Some w) why some fine = unset_fine w how why some fine
