-- Runs that ran no round.
use Rattle.std.proofs.Common.{◌≡◌, inl, inr, ℕ, ◌-◌, ◌<◌, ◌≤◌, List, [], true, false, refl, ap, sym, subst, arith, Option, None, Some}
use Rattle.std.specs.Prelude.{◌∷◌, Bool, ◌&&◌, bytes_eq, codes, cond, IfSome, IsPermutation, IsSome}
use Rattle.std.specs.Option.{option_map}
use Rattle.std.proofs.lemmas.Bool.Decides.{nat_tests}
use Rattle.std.specs.List.{range_with_len}
use Rattle.std.proofs.KnownBytes.{Appends-nil, Consumes-nil}
use Rattle.std.proofs.lemmas.List.Elements.{All-nil}
use Rattle.std.proofs.lemmas.List.Sorted.{IsPermutation-refl}
use Rattle.ds_base.specs.Limits.{first_drawn_id}
use Rattle.ds_indexdef.specs.declared.IndexDef.{IndexDef}
use Rattle.ds_log.specs.declared.Commit.{Commit}
use Rattle.ds_model.specs.Legal.{Legal}
use Rattle.ds_model.specs.Sessions.{first_sessions}
use Rattle.ds_rounds.specs.Rounds.{rounds_in}
use Rattle.ds_serving.specs.declared.settings.Setting.{Setting}
use Rattle.ds_serving.proofs.RoundLaws.{all_wrote}
use Rattle.ds_words.specs.declared.status.Status.TheVariants as status
use Rattle.ds_cutting.specs.CutRuns.{AreSettings, AreTooMany, IsLegalCutRun, IsUncut, WasSetUpCut, WereRunCut}
use Rattle.ds_serve_cut.specs.CutSettings.{IsUnsetBy, IsUnsetCut}
use Rattle.ds_cutting.specs.CutSteps.{HasBegunCut, IsCutRunOf, cut_read_faults, cut_write_faults}
use Rattle.ds_serve_cut.specs.CutWords.{CutWordsParts, cut_form}
use Rattle.ds_words.specs.Form.{is_value, number_of}
use Rattle.ds_cutting.specs.declared.outcome.CutRun.{CutRun}
use Rattle.ds_cutting.specs.declared.outcome.CutStatus.{CutStatus}
use Rattle.ds_cutting.specs.declared.outcome.CutStatus.TheVariants as cut
use Rattle.ds_cutting.proofs.CutLaws.{legal_uncut}

-- a setting, where none was set up
abbrev none_set : Setting
none_set = record { shards = 1; window = 1; defs = [] }

nothing_legal : Legal none_set.defs none_set.shards (Some none_set.window) [] [] []
nothing_legal = record {
  after = first_sessions none_set.shards;
  steps = (refl, refl);
  commits = IsPermutation-refl [];
  ids = record {
    bound = first_drawn_id;
    from_first = omega arith;
    each_once = subst (IsPermutation []) none_drawn (IsPermutation-refl []);
    accepted_below = All-nil (λ id. id < first_drawn_id);
    printed_within = All-nil (λ next. next ≤ first_drawn_id);
  };
} where
  none_drawn : [] ≡ range_with_len first_drawn_id (first_drawn_id - first_drawn_id)
  none_drawn = let none : 0 ≡ first_drawn_id - first_drawn_id = omega arith in ap (range_with_len first_drawn_id) none

false_true : {A : Type 0} → false ≡ true → A
false_true is = cc

module _ (words : List (List ℕ)) (file : List ℕ) (n : ℕ) (content : List ℕ → Option (List ℕ)) (left held : Option (List ℕ)) where
  -- a run that ended so before the first round
  ends_at_once : (how : CutStatus) (run : CutRun) → WereRunCut how None n false [] []
      → WasSetUpCut how [] (AreSettings words file content none_set []) → IsUncut how n 0 → AreTooMany how [] []
      → run.status ≡ how → run.cut ≡ None → run.journal ≡ Some [] → run.unsent ≡ []
      → IfSome run.journal (λ journal. IsLegalCutRun words file n content run.status run.cut left left journal held held run.unsent)
  ends_at_once how run ran set_up uncut many same_status same_cut same_journal none =
      subst (λ (o : Option (List Commit)).
      IfSome o (λ journal. IsLegalCutRun words file n content run.status run.cut left left journal held held run.unsent)) (sym same_journal)
      (subst (λ (s : CutStatus). IsLegalCutRun words file n content s run.cut left left [] held held run.unsent) (sym same_status)
      (subst (λ (c : Option ℕ). IsLegalCutRun words file n content how c left left [] held held run.unsent) (sym same_cut)
      (subst (λ (rest : List ℕ). IsLegalCutRun words file n content how None left left [] held held rest) (sym none)
      (record {
        read = [];
        told = Consumes-nil left;
        ended = false;
        at_the_end = λ is. false_true is;
        rounds = [];
        replies = [];
        setting = none_set;
        second = [];
        run = ran;
        set_up = set_up;
        legal = legal_uncut none_set.defs [] none_set.shards (Some none_set.window) n [] [] [] (omega arith) nothing_legal;
        written = all_wrote held held [] (Appends-nil held);
        at_cut = tt;
        uncut = λ is. uncut;
        too_many = many;
      }))))

  -- when out of memory
  pub none_for_memory : (run : CutRun) → run.status ≡ cut.Served status.NoMemory → run.cut ≡ None → run.journal ≡ Some [] → run.unsent ≡ []
      → IfSome run.journal (λ journal. IsLegalCutRun words file n content run.status run.cut left left journal held held run.unsent)
  none_for_memory run no_memory none empty all_sent =
      ends_at_once (cut.Served status.NoMemory) run (inl (rounds_in false 1 [], refl, inr (refl, omega arith))) (inl refl) (omega arith) tt
      no_memory none empty all_sent

-- a run that ran no round, when out of memory
pub nothing_ran : (setting : Setting) (second : List IndexDef) (n : ℕ) (left held : Option (List ℕ)) (reads writes : ℕ) (run : CutRun)
    → run.status ≡ cut.Served status.NoMemory → run.cut ≡ None → run.journal ≡ Some [] → run.unsent ≡ []
    → IsCutRunOf setting second n left left held held reads reads writes writes run
nothing_ran setting second n left held reads writes run no_memory none empty all_sent = record {
  legal = λ words file content set. none_for_memory words file n content left held run no_memory none empty all_sent;
  ends = record {
    journal = subst IsSome (sym empty) refl;
    unsent = inr all_sent;
    began = subst HasBegunCut (sym no_memory) tt;
    read_fault = sym (ap (λ s. cut_read_faults s reads) no_memory);
    write_fault = sym (ap (λ s. cut_write_faults s writes) no_memory);
  };
}

-- the words name one round at least
pub some_after : (words : List (List ℕ)) (w : CutWordsParts) → cut_form words ≡ Some w → 1 ≤ w.after
some_after (next ∷ file ∷ after ∷ number ∷ words) w said =
    least (bytes_eq next (codes "--next") && is_value file && bytes_eq after (codes "--after")) (number_of 4 1 9999 number) refl said where
      in_bounds : (text : List ℕ) (n : ℕ) → number_of 4 1 9999 text ≡ Some n → 1 ≤ n
      in_bounds text n is = grind (arith, nat_tests)

      least : (b : Bool) (o : Option ℕ) → o ≡ number_of 4 1 9999 number
          → cond b (option_map (λ n. record { file = file; after = n; words = words }) o) None ≡ Some w → 1 ≤ w.after
      least true (Some n) is h =
          let parts : CutWordsParts = record { file = file; after = n; words = words } in
          let same : parts ≡ w = cc in
          subst (λ (p : CutWordsParts). 1 ≤ p.after) same (in_bounds number n (sym is))
      least true None is h = cc
      least false o is h = cc
some_after words w said = cc

-- a run that wasn't set up
pub unset_ends : (w : CutWordsParts) (content : List ℕ → Option (List ℕ)) (before after : List ℕ → ℕ) (how : CutStatus)
    (left held : Option (List ℕ)) (run : CutRun) → 1 ≤ w.after → IsUnsetBy w content before after how → run.status ≡ how → run.cut ≡ None
    → run.journal ≡ Some [] → run.unsent ≡ []
    → IfSome run.journal (λ journal. IsLegalCutRun w.words w.file w.after content run.status run.cut left left journal held held run.unsent)
unset_ends w content before after (cut.Served status.Usage) left held run some why same none empty all_sent =
    ends_at_once w.words w.file w.after content left held (cut.Served status.Usage) run (inl (refl, refl)) tt (omega (arith, some)) tt same
    none empty all_sent
unset_ends w content before after (cut.Served (status.IndexFile line)) left held run some why same none empty all_sent =
    ends_at_once w.words w.file w.after content left held (cut.Served (status.IndexFile line)) run (inl (refl, refl)) tt (omega (
      arith,
      some,
    ))
    tt same none empty all_sent
unset_ends w content before after (cut.Served status.FileFault) left held run some why same none empty all_sent =
    ends_at_once w.words w.file w.after content left held (cut.Served status.FileFault) run (inl (refl, refl)) tt (omega (arith, some)) tt
    same none empty all_sent
unset_ends w content before after (cut.Served status.NoMemory) left held run some why same none empty all_sent =
    none_for_memory w.words w.file w.after content left held run same none empty all_sent
unset_ends w content before after (cut.NextFile line) left held run some why same none empty all_sent =
    ends_at_once w.words w.file w.after content left held (cut.NextFile line) run (refl, refl) tt refl tt same none empty all_sent
unset_ends w content before after (cut.Served status.Done) left held run some why same none empty all_sent = absurd why
unset_ends w content before after (cut.Served status.ReadFault) left held run some why same none empty all_sent = absurd why
unset_ends w content before after (cut.Served status.WriteFault) left held run some why same none empty all_sent = absurd why
unset_ends w content before after (cut.Served status.InputLimit) left held run some why same none empty all_sent = absurd why
unset_ends w content before after (cut.TooManyRows commit count) left held run some why same none empty all_sent = absurd why

pub unset_all : (words : List (List ℕ)) (content : List ℕ → Option (List ℕ)) (before after : List ℕ → ℕ) (how : CutStatus)
    (left held : Option (List ℕ)) (run : CutRun) → IsUnsetCut (cut_form words) content before after how → run.status ≡ how → run.cut ≡ None
    → run.journal ≡ Some [] → run.unsent ≡ []
    → IfSome (cut_form words) (λ w. IfSome run.journal (λ journal.
    IsLegalCutRun w.words w.file w.after content run.status run.cut left left journal held held run.unsent))
unset_all words content before after how left held run why same none empty all_sent = by (cut_form words) refl why where
  by : (o : Option CutWordsParts) → cut_form words ≡ o → IsUnsetCut o content before after how
      → IfSome o (λ w. IfSome run.journal (λ journal.
      IsLegalCutRun w.words w.file w.after content run.status run.cut left left journal held held run.unsent))
  by None said unset = tt
  by (Some w) said unset = unset_ends w content before after how left held run (some_after words w said) unset same none empty all_sent
