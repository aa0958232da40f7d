-- From one round to the next and to the end, of rounds that were run behind others.
use Rattle.std.proofs.Common.{◌≡◌, ℕ, ◌+◌, ◌<◌, ◌≤◌, List, [], ◌∷◌, ◌++◌, length, Option, Some}
use Rattle.std.proofs.Common.{ap, append_assoc, arith, length-append, refl, subst, sym, ◌∙◌}
use Rattle.std.specs.Prelude.{Ok}
use Rattle.std.specs.Io.KnownBytes.{Appends}
use Rattle.std.proofs.lemmas.List.{append-nil}
use Rattle.ds_model.specs.Sessions.{Session}
use Rattle.ds_rounds.specs.Reading.{ReaderParts, ReadsRound}
use Rattle.ds_rounds.specs.Rounds.{NumberedLine, lines_of_round}
use Rattle.ds_rounds.specs.declared.round.Round.{Round}
use Rattle.ds_clients.specs.Clients.{AreAlike, WrotePart}
use Rattle.ds_clients.specs.Runs.{HaveRun, texts_of}
use Rattle.ds_clients.specs.Sessions.{SessionParts}
use Rattle.ds_words.specs.declared.status.Status.{Status}
use Rattle.ds_words.specs.declared.status.Status.TheVariants as status
use Rattle.ds_serving.specs.Rounds.{HasNone, HasServed, HasStopped, IsEnd, RanFrom}
use Rattle.ds_serving.specs.declared.settings.Setting.{Setting}
use Rattle.ds_serving.proofs.Alike.{run_alike}
use Rattle.ds_serving.proofs.NextLaws.{ran_more}
use Rattle.ds_serving.proofs.RoundLaws.{ends_here, ends_unsent, served_round}
use Rattle.ds_serve.specs.RunSteps.{Counted, Exactly, RanBehind, StoppedBehind, StoppedPast, StoppedWithin}

-- a run that ends where no further round is run stopped behind all that were
stopped_here : (how : Status) (many n : ℕ) → IsEnd how → n ≡ many → StoppedBehind how many n
stopped_here status.Done many n end is = is
stopped_here status.Usage many n end is = is
stopped_here (status.IndexFile line) many n end is = is
stopped_here status.ReadFault many n end is = is
stopped_here status.WriteFault many n end is = absurd end
stopped_here status.FileFault many n end is = is
stopped_here status.NoMemory many n end is = is
stopped_here status.InputLimit many n end is = is

-- behind fewer than so many
stopped_early : (how : Status) (few many n : ℕ) → few < many → StoppedBehind how few n → StoppedWithin how many n
stopped_early status.Done few many n lt is = omega (arith, lt, is)
stopped_early status.Usage few many n lt is = omega (arith, lt, is)
stopped_early (status.IndexFile line) few many n lt is = omega (arith, lt, is)
stopped_early status.ReadFault few many n lt is = omega (arith, lt, is)
stopped_early status.WriteFault few many n lt is = omega (arith, lt, is)
stopped_early status.FileFault few many n lt is = omega (arith, lt, is)
stopped_early status.NoMemory few many n lt is = omega (arith, lt, is)
stopped_early status.InputLimit few many n lt is = omega (arith, lt, is)

-- behind no fewer than so many
stopped_late : (how : Status) (few many n : ℕ) → few ≤ many → StoppedBehind how many n → StoppedPast how few n
stopped_late status.Done few many n le is = omega (arith, le, is)
stopped_late status.Usage few many n le is = omega (arith, le, is)
stopped_late (status.IndexFile line) few many n le is = omega (arith, le, is)
stopped_late status.ReadFault few many n le is = omega (arith, le, is)
stopped_late status.WriteFault few many n le is = omega (arith, le, is)
stopped_late status.FileFault few many n le is = omega (arith, le, is)
stopped_late status.NoMemory few many n le is = omega (arith, le, is)
stopped_late status.InputLimit few many n le is = omega (arith, le, is)

module _ (setting : Setting) (first : List Session) where
  -- with none before them
  pub behind_nothing : (rounds : List (List NumberedLine)) (now : List SessionParts) (text : List ℕ) → RanFrom setting first rounds now text
      → RanBehind setting first [] [] rounds now text
  behind_nothing rounds now text run = record { later = rounds; more = text; rounds_are = refl; text_is = refl; run = run }

  pub of_behind_nothing : (rounds : List (List NumberedLine)) (now : List SessionParts) (text : List ℕ)
      → RanBehind setting first [] [] rounds now text → RanFrom setting first rounds now text
  of_behind_nothing rounds now text behind =
      subst (λ (rs : List (List NumberedLine)). RanFrom setting first rs now text) (sym behind.rounds_are)
      (subst (λ (bs : List ℕ). RanFrom setting first behind.later now bs) (sym behind.text_is) behind.run)

  -- a run that has stopped, however many rounds there were
  pub stopped_alone : {how : Status} {left rest old new : Option (List ℕ)} {unsent : List ℕ} {now : List SessionParts} (Many : ℕ → Type 0)
      → HasStopped (Counted Many (RanBehind setting first [] [])) how left rest old new unsent now
      → HasStopped (RanFrom setting first) how left rest old new unsent now
  stopped_alone {now} Many stopped = record {
    read = stopped.read;
    told = stopped.told;
    ended = stopped.ended;
    at_the_end = stopped.at_the_end;
    rounds = stopped.rounds;
    text = stopped.text;
    run = stopped.run;
    has_run = of_behind_nothing stopped.rounds now stopped.text stopped.has_run.0;
    written = stopped.written;
  }

module _ (setting : Setting) (first : List Session) (earlier : List (List NumberedLine)) (said : List ℕ) where
  -- before the first of them
  pub none_behind : (now : List SessionParts) → RanFrom setting first [] now [] → RanBehind setting first earlier said earlier now said
  none_behind now run = record {
    later = [];
    more = [];
    rounds_are = sym (append-nil earlier);
    text_is = sym (append-nil said);
    run = run;
  }

  behind-more : {rounds : List (List NumberedLine)} {text : List ℕ} {s t u : List SessionParts} (round : Round)
      → RanBehind setting first earlier said rounds s text
      → HaveRun setting.defs setting.shards (Some setting.window) (lines_of_round round) s t
      → AreAlike t u → RanBehind setting first earlier said (rounds ++ lines_of_round round ∷ []) u (text ++ texts_of t)
  behind-more {rounds} {text} {s} {t} {u} round before ran alike = record {
    later = before.later ++ lines_of_round round ∷ [];
    more = before.more ++ texts_of t;
    rounds_are = ap (λ rs. rs ++ lines_of_round round ∷ []) before.rounds_are
        ∙ append_assoc earlier before.later (lines_of_round round ∷ []);
    text_is = ap (λ bs. bs ++ texts_of t) before.text_is ∙ append_assoc said before.more (texts_of t);
    run = ran_more setting first round before.run ran alike;
  }

  behind-alike : {rounds : List (List NumberedLine)} {text : List ℕ} {s t : List SessionParts} → AreAlike s t
      → RanBehind setting first earlier said rounds s text → RanBehind setting first earlier said rounds t text
  behind-alike {rounds} {text} {s} {t} alike before = record {
    later = before.later;
    more = before.more;
    rounds_are = before.rounds_are;
    text_is = before.text_is;
    run = run_alike setting.defs setting.shards (Some setting.window) first before.later s t before.more alike before.run;
  }

  -- the earlier rounds are among them
  pub behind_length : {rounds : List (List NumberedLine)} {now : List SessionParts} {text : List ℕ}
      → RanBehind setting first earlier said rounds now text → length earlier ≤ length rounds
  behind_length behind =
      omega (arith, ap (λ (rs : List (List NumberedLine)). length rs) behind.rounds_are, length-append earlier behind.later)

  -- a round was run, its replies were written, and the sessions' texts cleared
  pub round_served : {left_first left next held_first held held_next : Option (List ℕ)} {old new : ReaderParts}
      {s t u : List SessionParts} (many : ℕ)
      → HasServed (Counted (Exactly many) (RanBehind setting first earlier said)) left_first left held_first held old s
      → (round : Round) × ReadsRound old new left next (Ok (Some round))
      × HaveRun setting.defs setting.shards (Some setting.window) (lines_of_round round) s t
      → AreAlike t u → Appends held held_next (texts_of t)
      → HasServed (Counted (Exactly (many + 1)) (RanBehind setting first earlier said)) left_first next held_first held_next new u
  round_served {t} many before given alike wrote =
      served_round (Counted (Exactly many) (RanBehind setting first earlier said)) t before given.1 (
        behind-more given.0 before.has_run.0 given.2 alike,
        length-append before.rounds (lines_of_round given.0 ∷ []) ∙ ap (λ n. n + 1) before.has_run.1,
      ) wrote

  -- a write failed
  pub round_unsent : {left_first left next held_first held held_next : Option (List ℕ)} {old new : ReaderParts}
      {s t u : List SessionParts} (many : ℕ) (unsent : List ℕ)
      → HasServed (Counted (Exactly many) (RanBehind setting first earlier said)) left_first left held_first held old s
      → (round : Round) × ReadsRound old new left next (Ok (Some round))
      × HaveRun setting.defs setting.shards (Some setting.window) (lines_of_round round) s t
      → AreAlike t u → WrotePart held held_next (texts_of t) unsent
      → HasStopped (Counted (StoppedBehind status.WriteFault many) (RanBehind setting first earlier said)) status.WriteFault left_first next
      held_first held_next unsent u
  round_unsent {t} many unsent before given alike wrote =
      ends_unsent (Counted (Exactly many) (RanBehind setting first earlier said)) t unsent before given.1 (
        behind-more given.0 before.has_run.0 given.2 alike,
        length-append before.rounds (lines_of_round given.0 ∷ []) ∙ ap (λ n. n + 1) before.has_run.1,
      ) wrote

  -- no further round was run
  pub none_run : {left_first left next held_first held : Option (List ℕ)} {old new : ReaderParts} {s t : List SessionParts}
      (many : ℕ) (how : Status) → IsEnd how
      → HasServed (Counted (Exactly many) (RanBehind setting first earlier said)) left_first left held_first held old s
      → HasNone how old new left next s t
      → HasStopped (Counted (StoppedBehind how many) (RanBehind setting first earlier said)) how left_first next held_first held [] t
  none_run many how end before none =
      ends_here (Counted (Exactly many) (RanBehind setting first earlier said)) how before
      (behind-alike none.0 before.has_run.0, stopped_here how many (length before.rounds) end before.has_run.1) none

  -- ---- whatever their number

  pub counted : {left_first left held_first held : Option (List ℕ)} {reader : ReaderParts} {s : List SessionParts}
      (before : HasServed (RanBehind setting first earlier said) left_first left held_first held reader s)
      → HasServed (Counted (Exactly (length before.rounds)) (RanBehind setting first earlier said)) left_first left held_first held reader s
  counted before = record {
    bytes = before.bytes;
    rounds = before.rounds;
    text = before.text;
    has_read = before.has_read;
    counted = before.counted;
    has_run = (before.has_run, refl);
    wrote = before.wrote;
  }

  pub uncounted : {left_first left held_first held : Option (List ℕ)} {reader : ReaderParts} {s : List SessionParts} (Many : ℕ → Type 0)
      → HasServed (Counted Many (RanBehind setting first earlier said)) left_first left held_first held reader s
      → HasServed (RanBehind setting first earlier said) left_first left held_first held reader s
  uncounted Many before = record {
    bytes = before.bytes;
    rounds = before.rounds;
    text = before.text;
    has_read = before.has_read;
    counted = before.counted;
    has_run = before.has_run.0;
    wrote = before.wrote;
  }

  -- other words of how many rounds there were
  recounted : {how : Status} {left rest old new : Option (List ℕ)} {unsent : List ℕ} {now : List SessionParts} (Few Many : ℕ → Type 0)
      → ((n : ℕ) → Few n → Many n)
      → HasStopped (Counted Few (RanBehind setting first earlier said)) how left rest old new unsent now
      → HasStopped (Counted Many (RanBehind setting first earlier said)) how left rest old new unsent now
  recounted Few Many more stopped = record {
    read = stopped.read;
    told = stopped.told;
    ended = stopped.ended;
    at_the_end = stopped.at_the_end;
    rounds = stopped.rounds;
    text = stopped.text;
    run = stopped.run;
    has_run = (stopped.has_run.0, more (length stopped.rounds) stopped.has_run.1);
    written = stopped.written;
  }

  -- a run stopped behind the earlier rounds
  pub stopped_past : {left rest old new : Option (List ℕ)} {unsent : List ℕ} {now : List SessionParts} (how : Status) (many : ℕ)
      → length earlier ≤ many
      → HasStopped (Counted (StoppedBehind how many) (RanBehind setting first earlier said)) how left rest old new unsent now
      → HasStopped (Counted (StoppedPast how (length earlier)) (RanBehind setting first earlier said)) how left rest old new unsent now
  stopped_past how many le =
      recounted (StoppedBehind how many) (StoppedPast how (length earlier)) (λ n. stopped_late how (length earlier) many n le)

  -- a run stopped before so many rounds
  pub stopped_within : {left rest old new : Option (List ℕ)} {unsent : List ℕ} {now : List SessionParts} (how : Status) (few many : ℕ)
      → few < many → HasStopped (Counted (StoppedBehind how few) (RanBehind setting first earlier said)) how left rest old new unsent now
      → HasStopped (Counted (StoppedWithin how many) (RanBehind setting first earlier said)) how left rest old new unsent now
  stopped_within how few many lt =
      recounted (StoppedBehind how few) (StoppedWithin how many) (λ n. stopped_early how few many n lt)
