-- From one round to the next, and to the end: what is said of the rounds that were run is carried on, whatever it is.
use Rattle.std.proofs.Common.{◌≡◌, ◌≢◌, ◌⊎◌, inl, inr, ℕ, ◌+◌, ◌<◌, List, [], ◌∷◌, ◌++◌, length, refl, ap, sym, ◌∙◌, subst, arith}
use Rattle.std.proofs.Common.{Bool, true, false, Option, Some, None, length-append, append_assoc}
use Rattle.std.specs.Prelude.{IfSome, Ok, Err}
use Rattle.std.specs.Io.KnownBytes.{Appends, Consumes}
use Rattle.std.proofs.lemmas.List.{append-nil}
use Rattle.std.proofs.KnownBytes.{Appends-nil, Appends-trans, Consumes-trans, Consumes-whole}
use Rattle.ds_base.specs.Limits.{most_input_bytes}
use Rattle.ds_rounds.specs.Reading.{HasRead, MayFollow, ReaderParts, ReadsRound, first_reader}
use Rattle.ds_rounds.specs.ReadingLaws.{read_all, read_nothing, read_round, read_until_fault, read_until_limit}
use Rattle.ds_rounds.specs.Rounds.{NumberedLine, lines_of_round, rounds_in}
use Rattle.ds_rounds.specs.declared.round.Round.{Round}
use Rattle.ds_rounds.specs.declared.stage.RoundRefused.{RoundRefused}
use Rattle.ds_rounds.specs.declared.stage.RoundRefused.TheVariants as refused
use Rattle.ds_rounds.specs.declared.stage.Stage.{Stage}
use Rattle.ds_rounds.specs.declared.stage.Stage.TheVariants as stage
use Rattle.ds_clients.specs.Clients.{WrotePart}
use Rattle.ds_clients.specs.Runs.{texts_of}
use Rattle.ds_clients.specs.Sessions.{SessionParts}
use Rattle.ds_words.specs.declared.status.Status.{Status}
use Rattle.ds_words.specs.declared.status.Status.TheVariants as status
use Rattle.ds_serving.specs.Rounds.{HasNone, HasServed, HasStopped, IsEnd, status_of}
use Rattle.ds_serving.specs.Runs.{AreFirst, WasSetUp, WereRun, Wrote, write_faults}

false_true : {A : Type 0} → false ≡ true → A
false_true is = cc

-- ---- what a reader has given, of the bytes so far

pub record Given (first : Option (List ℕ)) (bytes : List ℕ) (rounds : List (List NumberedLine)) : Type 0 where
  pub ended : Bool
  pub at_the_end : ended ≡ true → IfSome first (λ all. all ≡ bytes)
  pub behind : List (List NumberedLine)
  pub first_ones : AreFirst rounds behind (rounds_in ended 1 bytes)

pub given : {first now : Option (List ℕ)} {bytes : List ℕ} {rounds : List (List NumberedLine)} {reader : ReaderParts}
    → HasRead first now bytes rounds reader → Given first bytes rounds
given {first} {now} {bytes} {rounds} {reader} so_far = by_stage reader.stage refl where
  of_end : (ended : Bool) → MayFollow reader.stage ended []
      → rounds_in ended 1 bytes ≡ rounds ++ rounds_in ended reader.number (reader.buffered ++ [])
  of_end ended may = ap (λ bs. rounds_in ended 1 bs) (sym (append-nil bytes)) ∙ so_far.so_far ended [] may

  by_stage : (s : Stage) → reader.stage ≡ s → Given first bytes rounds
  by_stage stage.Reading is = record {
    ended = false;
    at_the_end = λ e. false_true e;
    behind = rounds_in false reader.number (reader.buffered ++ []);
    first_ones = of_end false (subst (λ s. MayFollow s false []) (sym is) tt);
  }
  by_stage stage.Ended is = record {
    ended = true;
    at_the_end = λ e. Consumes-whole first now bytes (λ all. all ≡ bytes) so_far.told (so_far.at_the_end is) refl;
    behind = rounds_in true reader.number (reader.buffered ++ []);
    first_ones = of_end true (subst (λ s. MayFollow s true []) (sym is) (refl, refl));
  }
  by_stage stage.Failed is = absurd (so_far.going is)

-- all of a text was written
pub all_wrote : (h0 h1 : Option (List ℕ)) (text : List ℕ) → Appends h0 h1 text → Wrote h0 h1 [] text
all_wrote h0 h1 text wrote = (text, wrote, sym (append-nil text))

counted_more : (old new : ReaderParts) (bytes read : List ℕ) → old.taken ≡ length bytes → new.taken ≡ old.taken + length read
    → new.taken ≡ length (bytes ++ read)
counted_more old new bytes read before more = more ∙ ap (λ n. n + length read) before ∙ sym (length-append bytes read)

-- a text, and then a part of another
wrote_more : (h0 h1 h2 : Option (List ℕ)) (text more unsent : List ℕ) → Appends h0 h1 text → WrotePart h1 h2 more unsent
    → Wrote h0 h2 unsent (text ++ more)
wrote_more h0 h1 h2 text more unsent before later = (
  text ++ later.taken,
  Appends-trans h0 h1 h2 text later.taken before later.wrote,
  ap (λ bs. text ++ bs) later.whole ∙ sym (append_assoc text later.taken unsent),
)

end_met : (s : Stage) (now : Type 0) → s ≢ stage.Failed → (s ≡ stage.Reading → now) → (s ≡ stage.Ended → now) → now
end_met stage.Reading now going reading ended = reading refl
end_met stage.Ended now going reading ended = ended refl
end_met stage.Failed now going reading ended = absurd (going refl)

-- what was set up was so, however a run ends
pub was_set_up : (how : Status) (rounds : List (List NumberedLine)) (setting : Type 0) → setting → WasSetUp how rounds setting
was_set_up status.Done rounds setting is = is
was_set_up status.Usage rounds setting is = tt
was_set_up (status.IndexFile line) rounds setting is = tt
was_set_up status.FileFault rounds setting is = tt
was_set_up status.ReadFault rounds setting is = is
was_set_up status.WriteFault rounds setting is = is
was_set_up status.NoMemory rounds setting is = inr is
was_set_up status.InputLimit rounds setting is = is

-- no write failed, where a run ended at a round that wasn't run
pub none_failed : (how : Status) (faults : ℕ) → IsEnd how → write_faults how faults ≡ faults
none_failed status.Done faults end = refl
none_failed status.Usage faults end = absurd end
none_failed (status.IndexFile line) faults end = absurd end
none_failed status.FileFault faults end = absurd end
none_failed status.ReadFault faults end = refl
none_failed status.WriteFault faults end = absurd end
none_failed status.NoMemory faults end = refl
none_failed status.InputLimit faults end = refl

module _ (Ran : List (List NumberedLine) → List SessionParts → List ℕ → Type 0) where
  -- before the first round
  pub served_nothing : (left held : Option (List ℕ)) (first : List SessionParts) → Ran [] first []
      → HasServed Ran left left held held first_reader first
  served_nothing left held first nothing = record {
    bytes = [];
    rounds = [];
    text = [];
    has_read = read_nothing left;
    counted = refl;
    has_run = nothing;
    wrote = Appends-nil held;
  }

  -- a round was run, and its replies were written
  pub served_round : {Next : List (List NumberedLine) → List SessionParts → List ℕ → Type 0}
      {left_first left next held_first held held_next : Option (List ℕ)} {old new : ReaderParts} {s u : List SessionParts}
      {round : Round} (t : List SessionParts) (before : HasServed Ran left_first left held_first held old s)
      → ReadsRound old new left next (Ok (Some round)) → Next (before.rounds ++ lines_of_round round ∷ []) u (before.text ++ texts_of t)
      → Appends held held_next (texts_of t) → HasServed Next left_first next held_first held_next new u
  served_round {left_first} {left} {next} {held_first} {held} {held_next} {old} {new} {s} {u} {round} t before call ran wrote = record {
    bytes = before.bytes ++ call.read;
    rounds = before.rounds ++ lines_of_round round ∷ [];
    text = before.text ++ texts_of t;
    has_read = read_round before.has_read call;
    counted = counted_more old new before.bytes call.read before.counted call.counted;
    has_run = ran;
    wrote = Appends-trans held_first held held_next before.text (texts_of t) before.wrote wrote;
  }

  -- a run that has stopped, from what was run and written and the rounds that these are
  ends : {Next : List (List NumberedLine) → List SessionParts → List ℕ → Type 0}
      (how : Status) (rounds : List (List NumberedLine)) {left_first left held_first held : Option (List ℕ)} {now : List SessionParts}
      {text unsent : List ℕ} (bytes : List ℕ) (ended : Bool) → Next rounds now text → Consumes left_first left bytes
      → (ended ≡ true → IfSome left_first (λ all. all ≡ bytes)) → WereRun how ended bytes rounds → Wrote held_first held unsent text
      → HasStopped Next how left_first left held_first held unsent now
  ends how rounds {text} bytes ended has_run told at_the_end run wrote = record {
    read = bytes;
    told = told;
    ended = ended;
    at_the_end = at_the_end;
    rounds = rounds;
    text = text;
    run = run;
    has_run = has_run;
    written = wrote;
  }

  -- a write failed
  pub ends_unsent : {Next : List (List NumberedLine) → List SessionParts → List ℕ → Type 0}
      {left_first left next held_first held held_next : Option (List ℕ)} {old new : ReaderParts} {s u : List SessionParts}
      {round : Round} (t : List SessionParts) (unsent : List ℕ) (before : HasServed Ran left_first left held_first held old s)
      → ReadsRound old new left next (Ok (Some round)) → Next (before.rounds ++ lines_of_round round ∷ []) u (before.text ++ texts_of t)
      → WrotePart held held_next (texts_of t) unsent
      → HasStopped Next status.WriteFault left_first next held_first held_next unsent u
  ends_unsent {Next} {left_first} {left} {next} {held_first} {held} {held_next} {old} {new} {s} {u} {round} t unsent before call ran wrote =
      let has_read = read_round before.has_read call in
      let so_far = given has_read in
      ends status.WriteFault (before.rounds ++ lines_of_round round ∷ []) (before.bytes ++ call.read) so_far.ended ran has_read.told so_far.at_the_end
      (so_far.behind, so_far.first_ones) (wrote_more held_first held held_next before.text (texts_of t) unsent before.wrote wrote)

  -- there was no memory to run it: the sessions have seen and done nothing more
  pub ends_unrun : {Next : List (List NumberedLine) → List SessionParts → List ℕ → Type 0}
      {left_first left next held_first held : Option (List ℕ)} {old new : ReaderParts} {s t : List SessionParts}
      {round : Round} (before : HasServed Ran left_first left held_first held old s) → ReadsRound old new left next (Ok (Some round))
      → Next before.rounds t before.text → HasStopped Next status.NoMemory left_first next held_first held [] t
  ends_unrun {Next} {left_first} {left} {next} {held_first} {held} {old} {new} {s} {t} {round} before call ran =
      let now = read_round before.has_read call in
      let so_far = given now in
      ends status.NoMemory before.rounds (before.bytes ++ call.read) so_far.ended ran now.told so_far.at_the_end (
        lines_of_round round ∷ so_far.behind,
        so_far.first_ones
            ∙ append_assoc before.rounds (lines_of_round round ∷ []) so_far.behind,
        inl (omega arith),
      )
      (all_wrote held_first held before.text before.wrote)

  -- the input has ended
  ends_done : {Next : List (List NumberedLine) → List SessionParts → List ℕ → Type 0}
      {left_first left next held_first held : Option (List ℕ)} {old new : ReaderParts} {s t : List SessionParts}
      (before : HasServed Ran left_first left held_first held old s) → Next before.rounds t before.text
      → ReadsRound old new left next (Ok None) → HasStopped Next status.Done left_first next held_first held [] t
  ends_done {Next} {left_first} {left} {next} {held_first} {held} {old} {new} {s} {t} before ran call =
      ends status.Done before.rounds (before.bytes ++ call.read) true ran
      (Consumes-trans left_first left next before.bytes call.read before.has_read.told call.told) (λ is. at_the_end) (
        refl,
        subst (λ n. n < most_input_bytes) (counted_more old new before.bytes call.read before.counted call.counted) call.outcome.2,
        sym (read_all before.has_read call),
      )
      (all_wrote held_first held before.text before.wrote) where
        met_before : old.stage ≡ stage.Ended → IfSome left_first (λ all. all ≡ before.bytes ++ call.read)
        met_before ended =
            let same : before.bytes ≡ before.bytes ++ call.read = sym (append-nil before.bytes)
            ∙ ap (λ bs. before.bytes ++ bs) (sym (call.past_the_end ended).0) in
            subst (λ (bs : List ℕ). IfSome left_first (λ all. all ≡ bs)) same (Consumes-whole left_first left before.bytes
            (λ all. all ≡ before.bytes) before.has_read.told (before.has_read.at_the_end ended) refl)

        at_the_end : IfSome left_first (λ all. all ≡ before.bytes ++ call.read)
        at_the_end =
            end_met old.stage (IfSome left_first (λ all. all ≡ before.bytes ++ call.read)) before.has_read.going
            (λ reading.
            Consumes-whole left_first next (before.bytes ++ call.read) (λ all. all ≡ before.bytes ++ call.read)
            (Consumes-trans left_first left next before.bytes call.read before.has_read.told call.told)
            (call.to_the_end reading call.outcome.1) refl)
            met_before

  -- no further round was read
  ends_refused : {Next : List (List NumberedLine) → List SessionParts → List ℕ → Type 0}
      {left_first left next held_first held : Option (List ℕ)} {old new : ReaderParts} {s t : List SessionParts}
      (why : RoundRefused) (before : HasServed Ran left_first left held_first held old s) → Next before.rounds t before.text
      → ReadsRound old new left next (Err why) → HasStopped Next (status_of why) left_first next held_first held [] t
  ends_refused {Next} {left_first} {left} {next} {held_first} {held} {old} {new} {s} {t} why before ran = by_cause why where
    counted : (read : List ℕ) → new.taken ≡ old.taken + length read → new.taken ≡ length (before.bytes ++ read)
    counted read more = counted_more old new before.bytes read before.counted more

    ended : (read : List ℕ) (how : Status) → Consumes left next read
        → WereRun how false (before.bytes ++ read) before.rounds → HasStopped Next how left_first next held_first held [] t
    ended read how told run =
        ends how before.rounds (before.bytes ++ read) false ran (Consumes-trans left_first left next before.bytes read
        before.has_read.told told) (λ is. false_true is) run (all_wrote held_first held before.text before.wrote)

    by_cause : (cause : RoundRefused) → ReadsRound old new left next (Err cause)
        → HasStopped Next (status_of cause) left_first next held_first held [] t
    by_cause refused.ReadFault call =
        ended call.read status.ReadFault call.told (
          subst (λ n. n < most_input_bytes) (counted call.read call.counted)
              call.outcome.2,
          sym (read_until_fault before.has_read call),
        )
    by_cause refused.InputLimit call =
        ended call.read status.InputLimit call.told (
          sym (counted call.read call.counted)
              ∙ call.outcome.2,
          sym (read_until_limit before.has_read call),
        )
    by_cause refused.NoMemory call =
        ended call.read status.NoMemory call.told (
          rounds_in false old.number (old.buffered ++ call.read),
          before.has_read.so_far false call.read going,
          inr (refl, subst (λ n. n < most_input_bytes) (counted call.read call.counted) call.outcome.1),
        ) where
          going : MayFollow old.stage false call.read
          going = end_met old.stage (MayFollow old.stage false call.read) before.has_read.going
              (λ reading. subst (λ s. MayFollow s false call.read) (sym reading) tt) (λ end. let none = (call.past_the_end end).1 in cc)

  -- no further round is run
  pub ends_here : {Next : List (List NumberedLine) → List SessionParts → List ℕ → Type 0}
      {left_first left next held_first held : Option (List ℕ)} {old new : ReaderParts} {s t : List SessionParts} (how : Status)
      (before : HasServed Ran left_first left held_first held old s) → Next before.rounds t before.text
      → HasNone how old new left next s t → HasStopped Next how left_first next held_first held [] t
  ends_here {Next} {left_first} {left} {next} {held_first} {held} {old} {new} {s} {t} how before ran none = by_cause none.1 where
    as_told : (other : Status) → how ≡ other → HasStopped Next other left_first next held_first held [] t
        → HasStopped Next how left_first next held_first held [] t
    as_told other is stopped = subst (λ (h : Status). HasStopped Next h left_first next held_first held [] t) (sym is) stopped

    by_cause : (((how ≡ status.Done) × ReadsRound old new left next (Ok None))
        ⊎ (((why : RoundRefused) × (how ≡ status_of why) × ReadsRound old new left next (Err why))
        ⊎ ((round : Round) × (how ≡ status.NoMemory) × ReadsRound old new left next (Ok (Some round)))))
        → HasStopped Next how left_first next held_first held [] t
    by_cause (inl done) = as_told status.Done done.0 (ends_done before ran done.1)
    by_cause (inr (inl refused)) = as_told (status_of refused.0) refused.1 (ends_refused refused.0 before ran refused.2)
    by_cause (inr (inr unrun)) = as_told status.NoMemory unrun.1 (ends_unrun before unrun.2 ran)
