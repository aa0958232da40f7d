-- How a run ends whose index definitions change: each end is a legal run of the rounds that were run.
use Rattle.std.proofs.Common.{◌≡◌, inl, inr, ℕ, Bool, ◌+◌, ◌<◌, ◌≤◌, List, [], ◌∷◌}
use Rattle.std.proofs.Common.{◌++◌, length, Option, Some, None, refl, ap, sym, ◌∙◌, subst, arith}
use Rattle.std.specs.Prelude.{All, IfSome}
use Rattle.ds_base.specs.Limits.{first_drawn_id}
use Rattle.ds_indexdef.specs.declared.IndexDef.{IndexDef}
use Rattle.ds_log.specs.declared.Commit.{Commit}
use Rattle.ds_model.specs.Legal.{Legal}
use Rattle.ds_model.specs.Sessions.{first_sessions}
use Rattle.ds_reply.specs.Replies.{replies_text}
use Rattle.ds_rounds.specs.Reading.{ReaderParts}
use Rattle.ds_rounds.specs.Rounds.{NumberedLine}
use Rattle.ds_clients.specs.Runs.{HasRun, IsIdle, passes_of, seen_of}
use Rattle.ds_clients.proofs.ClosingLaws.{legal_run}
use Rattle.ds_clients.specs.Sessions.{SessionParts}
use Rattle.ds_clients.proofs.LineLaws.{texts-append}
use Rattle.ds_serving.specs.Rounds.{HasServed, HasStopped}
use Rattle.ds_serving.specs.Runs.{Wrote}
use Rattle.ds_serving.specs.declared.settings.Setting.{Setting}
use Rattle.ds_serving.proofs.RoundLaws.{all_wrote, given, was_set_up}
use Rattle.ds_serve.specs.RunSteps.{Counted, Exactly, StoppedPast, StoppedWithin}
use Rattle.ds_serve.proofs.Behind.{of_behind_nothing}
use Rattle.ds_serve.proofs.Ends.{ended_turned}
use Rattle.std.proofs.lemmas.List.Elements.{All-head}
use Rattle.ds_store.specs.Ending.{Begins, HaveEnded}
use Rattle.ds_store.specs.Loads.{loaded}
use Rattle.ds_store.specs.Passes.{HasRead, PassParts}
use Rattle.ds_words.specs.declared.status.Status.{Status}
use Rattle.ds_words.specs.declared.status.Status.TheVariants as status
use Rattle.ds_cutting.specs.CutRuns.{AreSettings, IsLegalCutRun, IsUncut, WasSetUpCut, WereFirst, WereRunCut}
use Rattle.ds_cutting.specs.CutSteps.{EndsLater, EndsUncut, IsLegalOf, IsRefused, RanFirst, asked_of, of_refused}
use Rattle.ds_cutting.specs.declared.outcome.CutRun.{CutRun}
use Rattle.ds_cutting.specs.declared.outcome.CutStatus.{CutStatus}
use Rattle.ds_cutting.specs.declared.outcome.CutStatus.TheVariants as cut
use Rattle.ds_cutting.proofs.CutLaws.{back_of, cut_legal, front_of, legal_uncut}
use Rattle.ds_cutting.proofs.RowLaws.{refused_many}
use Rattle.ds_row_limit.specs.ManyRows.{HaveFewRows}
use Rattle.ds_feeding.specs.declared.refused.ReindexRefused.{ReindexRefused}
use Rattle.ds_feeding.specs.declared.refused.ReindexRefused.TheVariants as refused

-- ---- how many rounds there were

within_few : (how : Status) (n many : ℕ) → StoppedWithin how n many → many ≤ n
within_few status.Done n many h = omega (arith, h)
within_few status.Usage n many h = omega (arith, h)
within_few (status.IndexFile line) n many h = omega (arith, h)
within_few status.ReadFault n many h = omega (arith, h)
within_few status.WriteFault n many h = h
within_few status.FileFault n many h = omega (arith, h)
within_few status.NoMemory n many h = omega (arith, h)
within_few status.InputLimit n many h = omega (arith, h)

within_uncut : (how : Status) (n many : ℕ) → StoppedWithin how n many → IsUncut (cut.Served how) n many
within_uncut status.Done n many h = h
within_uncut status.Usage n many h = h
within_uncut (status.IndexFile line) n many h = h
within_uncut status.ReadFault n many h = h
within_uncut status.WriteFault n many h = h
within_uncut status.FileFault n many h = h
within_uncut status.NoMemory n many h = omega (arith, h)
within_uncut status.InputLimit n many h = h

-- ---- a run of one legal journal, told of what is given at its end

told : (P : List Commit → Type 0) (journal : List Commit) (given : Option (List Commit)) → given ≡ Some journal → P journal
    → IfSome given P
told P journal given is h = subst (λ (o : Option (List Commit)). IfSome o P) (sym is) h

module _ (setting : Setting) (second : List IndexDef) (n : ℕ) where
  -- the rounds that were run are legal over the closed journal of the first store
  first_legal : (rounds : List (List NumberedLine)) (now : List SessionParts) (text : List ℕ) (idle : List PassParts)
      (journal : List Commit) (next : ℕ)
      → (run : HasRun setting.defs setting.shards (Some setting.window) (first_sessions setting.shards) rounds now text)
      → All IsIdle idle → HaveEnded setting.shards (idle ++ passes_of now) journal next
      → Legal setting.defs setting.shards (Some setting.window) rounds journal run.replies
  first_legal rounds now text idle journal next run all ended =
      legal_run setting.defs setting.shards (Some setting.window) rounds now text (passes_of now ++ idle) idle journal next run refl all
      (ended_turned setting.shards idle (passes_of now) journal next ended)

  -- the run has stopped before the cut
  pub ends_before : {left rest old new : Option (List ℕ)} {now : List SessionParts} (how : Status) (idle : List PassParts) (unsent : List ℕ)
      (run : CutRun) → HasStopped (Counted (StoppedWithin how n) (RanFirst setting)) how left rest old new unsent now
      → All IsIdle idle → EndsUncut setting.shards (idle ++ passes_of now) (cut.Served how) unsent run
      → IsLegalOf setting second n left rest old new run
  ends_before {left} {rest} {old} {new} {now} how idle unsent run stopped all ends = λ words file content set.
      let ran = of_behind_nothing setting (first_sessions setting.shards) stopped.rounds now stopped.text stopped.has_run.0 in
      let legal = legal_uncut setting.defs second setting.shards (Some setting.window) n stopped.rounds ends.journal ran.replies
      (within_few how n (length stopped.rounds) stopped.has_run.1)
      (first_legal stopped.rounds now stopped.text idle ends.journal ends.next ran all ends.ended) in
      told (λ journal. IsLegalCutRun words file n content run.status run.cut left rest journal old new run.unsent) ends.journal run.journal
      ends.journal_is
      (subst (λ (s : CutStatus). IsLegalCutRun words file n content s run.cut left rest ends.journal old new run.unsent)
      (sym ends.status_is)
      (subst (λ (o : Option ℕ). IsLegalCutRun words file n content (cut.Served how) o left rest ends.journal old new run.unsent)
      (sym ends.cut_is)
      (subst (λ (u : List ℕ). IsLegalCutRun words file n content (cut.Served how) None left rest ends.journal old new u)
      (sym ends.unsent_is)
      (record {
        read = stopped.read;
        told = stopped.told;
        ended = stopped.ended;
        at_the_end = stopped.at_the_end;
        rounds = stopped.rounds;
        replies = ran.replies;
        setting = setting;
        second = second;
        run = inl stopped.run;
        set_up = was_set_up how stopped.rounds (AreSettings words file content setting second) set;
        legal = legal;
        written = subst (λ (bs : List ℕ). Wrote old new unsent bs) ran.printed stopped.written;
        at_cut = tt;
        uncut = λ is. within_uncut how n (length stopped.rounds) stopped.has_run.1;
        too_many = tt;
      }))))

  -- a refusal at the cut
  refused_run : (r : ReindexRefused) (cut_at : Option ℕ) (ended : Bool) (read : List ℕ) (rounds : List (List NumberedLine)) → cut_at ≡ None
      → WereFirst n ended read rounds → WereRunCut (of_refused r) cut_at n ended read rounds
  refused_run (refused.TooManyRows commit count) cut_at ended read rounds none first = first
  refused_run refused.NoMemory cut_at ended read rounds none first = inr (refl, none, first)

  refused_set_up : (r : ReindexRefused) (rounds : List (List NumberedLine)) (S : Type 0) → S → WasSetUpCut (of_refused r) rounds S
  refused_set_up (refused.TooManyRows commit count) rounds S is = is
  refused_set_up refused.NoMemory rounds S is = inr is

  refused_uncut : (r : ReindexRefused) (many : ℕ) → many ≡ n → IsUncut (of_refused r) n many
  refused_uncut (refused.TooManyRows commit count) many is = is
  refused_uncut refused.NoMemory many is = omega (arith, is)

  pub ends_at_cut : {left rest old new : Option (List ℕ)} {reader : ReaderParts} {now : List SessionParts} (r : ReindexRefused)
      (feeder : PassParts) (others : List PassParts) (run : CutRun) → IsRefused second feeder r
      → HasServed (Counted (Exactly n) (RanFirst setting)) left rest old new reader now → All IsIdle (others ++ feeder ∷ [])
      → EndsUncut setting.shards ((others ++ feeder ∷ []) ++ passes_of now) (of_refused r) [] run
      → IsLegalOf setting second n left rest old new run
  ends_at_cut {left} {rest} {old} {new} {reader} {now} r feeder others run told_so served all ends = λ words file content set.
      let idle = others ++ feeder ∷ [] in
      let ran = of_behind_nothing setting (first_sessions setting.shards) served.rounds now served.text served.has_run.0 in
      let so_far = given served.has_read in
      let legal = legal_uncut setting.defs second setting.shards (Some setting.window) n served.rounds ends.journal ran.replies
      (omega (arith, served.has_run.1)) (first_legal served.rounds now served.text idle ends.journal ends.next ran all ends.ended) in
      told (λ journal. IsLegalCutRun words file n content run.status run.cut left rest journal old new run.unsent) ends.journal run.journal
      ends.journal_is
      (subst (λ (s : CutStatus). IsLegalCutRun words file n content s run.cut left rest ends.journal old new run.unsent)
      (sym ends.status_is)
      (subst (λ (o : Option ℕ). IsLegalCutRun words file n content (of_refused r) o left rest ends.journal old new run.unsent)
      (sym ends.cut_is)
      (subst (λ (u : List ℕ). IsLegalCutRun words file n content (of_refused r) None left rest ends.journal old new u) (sym ends.unsent_is)
      (record {
        read = served.bytes;
        told = served.has_read.told;
        ended = so_far.ended;
        at_the_end = so_far.at_the_end;
        rounds = served.rounds;
        replies = ran.replies;
        setting = setting;
        second = second;
        run = refused_run r None so_far.ended served.bytes served.rounds refl (served.has_run.1, (so_far.behind, so_far.first_ones));
        set_up = refused_set_up r served.rounds (AreSettings words file content setting second) set;
        legal = legal;
        written = subst (λ (bs : List ℕ). Wrote old new [] bs) ran.printed (all_wrote old new served.text served.wrote);
        at_cut = tt;
        uncut = λ is. refused_uncut r (length served.rounds) served.has_run.1;
        too_many = refused_many second feeder ends.journal r told_so
            (All-head (Begins setting.shards ends.journal) feeder []
            (back_of (Begins setting.shards ends.journal) others (feeder ∷ [])
            (front_of (Begins setting.shards ends.journal) idle (passes_of now) ends.ended.begin))).0;
      }))))

  -- the rounds behind the cut were served
  pub ends_later : {left mid rest old held new : Option (List ℕ)} {reader : ReaderParts} {now : List SessionParts} (run : CutRun)
      (idle : List PassParts) (feeder loader : PassParts) (before : List Commit) (next place : ℕ)
      → (served : HasServed (Counted (Exactly n) (RanFirst setting)) left mid old held reader now)
      → All IsIdle (idle ++ feeder ∷ []) → HaveEnded setting.shards ((idle ++ feeder ∷ []) ++ passes_of now) before next
      → HasRead (loaded setting.shards feeder.journal feeder.next) loader → feeder.place ≡ length feeder.journal
      → first_drawn_id ≤ feeder.next → All (λ s. All (λ c. c ≤ feeder.place) s.pass.commits) now
      → All (λ s. All (λ id. id < feeder.next) s.pass.draws) now → HaveFewRows second feeder.journal → place ≡ feeder.place
      → EndsLater (asked_of setting.shards setting.window second) place loader (seen_of now) served.rounds served.text left rest old new run
      → IsLegalOf setting second n left rest old new run
  ends_later {left} {mid} {rest} {old} {held} {new} {reader} {now} run idle feeder loader before next place served all closed fed stands
      least own_below drawn_below few place_is later = λ words file content set.
      let ran = of_behind_nothing setting (first_sessions setting.shards) served.rounds now served.text served.has_run.0 in
      let behind = later.stopped.has_run.0 in
      let law = cut_legal setting.defs second setting.shards (Some setting.window) served.rounds behind.later now later.now served.text
      behind.more feeder loader idle later.idle before later.journal next later.next ran behind.run all closed later.idle_all later.ended
      fed stands least own_below drawn_below n later.stopped.rounds served.has_run.1 behind.rounds_are few in
      told (λ journal. IsLegalCutRun words file n content run.status run.cut left rest journal old new run.unsent) later.journal run.journal
      later.journal_is
      (subst (λ (s : CutStatus). IsLegalCutRun words file n content s run.cut left rest later.journal old new run.unsent)
      (sym later.status_is)
      (subst (λ (o : Option ℕ). IsLegalCutRun words file n content (cut.Served later.how) o left rest later.journal old new run.unsent)
      (sym (later.cut_is ∙ ap (λ (k : ℕ). Some k) place_is))
      (record {
        read = later.stopped.read;
        told = later.stopped.told;
        ended = later.stopped.ended;
        at_the_end = later.stopped.at_the_end;
        rounds = later.stopped.rounds;
        replies = ran.replies ++ behind.run.replies;
        setting = setting;
        second = second;
        run = inl later.stopped.run;
        set_up = was_set_up later.how later.stopped.rounds (AreSettings words file content setting second) set;
        legal = law.legal;
        written = subst (λ (bs : List ℕ). Wrote old new run.unsent bs)
            (behind.text_is ∙ ap (λ bs. bs ++ behind.more) ran.printed ∙ ap (λ bs. replies_text ran.replies ++ bs) behind.run.printed
            ∙ sym (texts-append ran.replies behind.run.replies)) later.stopped.written;
        at_cut = (
          subst (λ (k : ℕ). StoppedPast later.how k (length later.stopped.rounds)) served.has_run.1 later.stopped.has_run.1,
          law.place_is,
          law.few,
        );
        uncut = λ is. absurd (some_none is);
        too_many = tt;
      }))) where
        some_none : Some feeder.place ≡ None → ⊥
        some_none is = cc
