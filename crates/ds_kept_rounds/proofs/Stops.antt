-- From one round to the next and to the end of the rounds, with what is kept of them.
use Rattle.std.proofs.Common.{◌≡◌, ◌⊎◌, inl, inr, ℕ, List, [], ◌∷◌, refl, ap, sym, subst, arith}
use Rattle.std.proofs.Common.{Option, Some, Bool}
use Rattle.std.specs.Prelude.{IsTrue, Ok}
use Rattle.std.specs.Io.KnownBytes.{Appends}
use Rattle.std.proofs.KnownBytes.{Appends-nil}
use Rattle.ds_clients.specs.Clients.{AreAlike, WrotePart}
use Rattle.ds_clients.specs.Runs.{HaveRun, texts_of}
use Rattle.ds_keep.specs.Keepers.{IsSettled, KeeperParts}
use Rattle.ds_kept_file.specs.Files.{StandsFor}
use Rattle.ds_model.specs.Sessions.{Session}
use Rattle.ds_rounds.specs.Reading.{ReaderParts, ReadsRound}
use Rattle.ds_rounds.specs.Rounds.{NumberedLine, lines_of_round}
use Rattle.ds_rounds.specs.declared.round.Round.{Round}
use Rattle.ds_serving.specs.Rounds.{HasNone, HasServed, HasStopped, RanFrom}
use Rattle.ds_serving.specs.Runs.{WereRun}
use Rattle.ds_serving.specs.declared.settings.Setting.{Setting}
use Rattle.ds_serving.proofs.NextLaws.{round_served, round_unsent}
use Rattle.ds_serving.proofs.RoundLaws.{ends_here, ends_unsent}
use Rattle.ds_clients.specs.Sessions.{SessionParts}
use Rattle.ds_store.specs.Passes.{PassParts}
use Rattle.ds_words.specs.declared.status.Status.{Status}
use Rattle.ds_words.specs.declared.status.Status.TheVariants as status
use Rattle.ds_kept_rounds.specs.declared.status.KeptStatus.{KeptStatus}
use Rattle.ds_kept_rounds.specs.declared.status.KeptStatus.TheVariants as kept
use Rattle.ds_keeping.specs.declared.keeping.Unkept.{Unkept}
use Rattle.ds_keeping.specs.declared.keeping.Unkept.TheVariants as unkept
use Rattle.ds_kept_rounds.specs.declared.stopped.Stopped.{Stopped}
use Rattle.ds_kept_rounds.specs.Ending.{HasStoppedKept, status_of}
use Rattle.ds_keeping.specs.Holding.{AreCovered, HoldsUpTo, StandsWith, kept_at}
use Rattle.ds_kept_rounds.specs.Going.{HasRunKept}
use Rattle.ds_kept_rounds.specs.KeptEnds.{run_as}
use Rattle.ds_keeping.specs.Moments.{IsBetween}
use Rattle.ds_keeping.proofs.Between.{between_up_to}
use Rattle.ds_kept_rounds.proofs.Kept.{all_kept, kept_alike, more_held}

-- what is said of rounds that were run
abbrev Says : Type 1
Says = List (List NumberedLine) → List SessionParts → List ℕ → Type 0

-- ---- saying less of the rounds that were run

abbrev pub served_weaker : {left_first left held_first held : Option (List ℕ)} {reader : ReaderParts} {now : List SessionParts} (P Q : Says)
    → ((rounds : List (List NumberedLine)) (text : List ℕ) → P rounds now text → Q rounds now text)
    → HasServed P left_first left held_first held reader now → HasServed Q left_first left held_first held reader now
served_weaker P Q weaker so_far = record {
  bytes = so_far.bytes;
  rounds = so_far.rounds;
  text = so_far.text;
  has_read = so_far.has_read;
  counted = so_far.counted;
  has_run = weaker so_far.rounds so_far.text so_far.has_run;
  wrote = so_far.wrote;
}

module _ {left rest old new : Option (List ℕ)} {unsent : List ℕ} {now : List SessionParts} where
  stopped-so : (P Q : Says) (how later : Status) (so_far : HasStopped P how left rest old new unsent now)
      → WereRun later so_far.ended so_far.read so_far.rounds → Q so_far.rounds now so_far.text
      → HasStopped Q later left rest old new unsent now
  stopped-so P Q how later so_far run has_run = record {
    read = so_far.read;
    told = so_far.told;
    ended = so_far.ended;
    at_the_end = so_far.at_the_end;
    rounds = so_far.rounds;
    text = so_far.text;
    run = run;
    has_run = has_run;
    written = so_far.written;
  }

  pub stopped_weaker : (P Q : Says) (how : Status)
      → ((rounds : List (List NumberedLine)) (text : List ℕ) → P rounds now text → Q rounds now text)
      → HasStopped P how left rest old new unsent now → HasStopped Q how left rest old new unsent now
  stopped_weaker P Q how weaker so_far = stopped-so P Q how how so_far so_far.run (weaker so_far.rounds so_far.text so_far.has_run)

  -- one of two things is said of all of them
  stopped-either : (P Q : Says) (how : Status)
      → HasStopped (λ rounds s text. P rounds s text ⊎ Q rounds s text) how left rest old new unsent now
      → HasStopped P how left rest old new unsent now ⊎ HasStopped Q how left rest old new unsent now
  stopped-either P Q how so_far = by so_far.has_run where
    by : P so_far.rounds now so_far.text ⊎ Q so_far.rounds now so_far.text
        → HasStopped P how left rest old new unsent now ⊎ HasStopped Q how left rest old new unsent now
    by (inl p) = inl (stopped-so (λ rounds s text. P rounds s text ⊎ Q rounds s text) P how how so_far so_far.run p)
    by (inr q) = inr (stopped-so (λ rounds s text. P rounds s text ⊎ Q rounds s text) Q how how so_far so_far.run q)

  -- how a run would have ended without a kept journal
  pub stopped_as : (P : Says) (how : Status) → HasStopped P how left rest old new unsent now
      → HasStopped P (run_as (kept.Served how)) left rest old new unsent now
  stopped_as P status.Done so_far = so_far
  stopped_as P status.Usage so_far = so_far
  stopped_as P (status.IndexFile line) so_far = so_far
  stopped_as P status.ReadFault so_far = so_far
  stopped_as P status.WriteFault so_far = so_far
  stopped_as P status.FileFault so_far = so_far
  stopped_as P status.NoMemory so_far =
      stopped-so P P status.NoMemory status.WriteFault so_far (so_far.run.0, so_far.run.1) so_far.has_run
  stopped_as P status.InputLimit so_far = so_far

-- ---- images

-- a settled disk has what the keeper keeps
pub settled_holds : {D : Type 0} (is_honest : D → Bool) (contents : D → List ℕ) (images : D → List ℕ → Type 0) (keeper : KeeperParts)
    (pass : PassParts) (disk : D) → IsSettled is_honest contents images keeper (kept_at pass keeper.next) disk
    → (image : List ℕ) → images disk image → HoldsUpTo keeper.commits keeper.next image
settled_holds is_honest contents images keeper pass disk settled image here = record {
  found = kept_at pass keeper.next;
  stands = subst (StandsFor (kept_at pass keeper.next)) (sym (settled.durable image here)) (0 ∷ [], settled.file.whole, refl);
  many = omega (arith, settled.commits);
  counter = omega arith;
}

-- and so has one that leaves only what is behind it
pub between_holds : (keeper : KeeperParts) (pass : PassParts) (top : _) (image : List ℕ) → StandsWith keeper pass
    → IsBetween (kept_at pass keeper.next) top image → HoldsUpTo keeper.commits keeper.next image
between_holds keeper pass top image stands is =
    subst (λ n. HoldsUpTo n keeper.next image) (sym stands.commits) (between_up_to (kept_at pass keeper.next) top image is)

-- ---- a round

abbrev run-before : {left_first left held_first held : Option (List ℕ)} {old : ReaderParts} {s : List SessionParts} (setting : Setting)
    (first : List Session) (commits counter : ℕ)
    → HasServed (HasRunKept setting first commits counter []) left_first left held_first held old s
    → HasServed (RanFrom setting first) left_first left held_first held old s
run-before setting first commits counter before =
    served_weaker (HasRunKept setting first commits counter []) (RanFrom setting first) (λ rounds text h. h.run) before

-- it was kept, and its replies were written
pub kept_served : {left_first left next held_first held held_next : Option (List ℕ)} {old new : ReaderParts} {s t u : List SessionParts}
    (setting : Setting) (first : List Session) (commits counter commits_now counter_now : ℕ)
    → HasServed (HasRunKept setting first commits counter []) left_first left held_first held old s
    → (round : Round) × ReadsRound old new left next (Ok (Some round))
    × HaveRun setting.defs setting.shards (Some setting.window) (lines_of_round round) s t
    → AreAlike t u → Appends held held_next (texts_of t) → AreCovered commits_now counter_now u
    → HasServed (HasRunKept setting first commits_now counter_now []) left_first next held_first held_next new u
kept_served {u = u} setting first commits counter commits_now counter_now before ran alike wrote all =
    served_weaker (RanFrom setting first) (HasRunKept setting first commits_now counter_now [])
    (λ rounds text h. all_kept setting first commits_now counter_now rounds u text h all)
    (round_served setting first (run-before setting first commits counter before) ran alike wrote)

-- it was kept, and a write failed
pub kept_unsent : {left_first left next held_first held held_next : Option (List ℕ)} {old new : ReaderParts} {s t u : List SessionParts}
    (setting : Setting) (first : List Session) (commits counter commits_now counter_now : ℕ) (unsent : List ℕ)
    → HasServed (HasRunKept setting first commits counter []) left_first left held_first held old s
    → (round : Round) × ReadsRound old new left next (Ok (Some round))
    × HaveRun setting.defs setting.shards (Some setting.window) (lines_of_round round) s t
    → AreAlike t u → WrotePart held held_next (texts_of t) unsent → AreCovered commits_now counter_now u
    → HasStopped (HasRunKept setting first commits_now counter_now []) status.WriteFault left_first next held_first held_next unsent u
kept_unsent {u = u} setting first commits counter commits_now counter_now unsent before ran alike wrote all =
    stopped_weaker (RanFrom setting first) (HasRunKept setting first commits_now counter_now []) status.WriteFault
    (λ rounds text h. all_kept setting first commits_now counter_now rounds u text h all)
    (round_unsent setting first unsent (run-before setting first commits counter before) ran alike wrote)

-- no further round was run
pub none_kept : {left_first left next held_first held : Option (List ℕ)} {old new : ReaderParts} {s t : List SessionParts}
    (setting : Setting) (first : List Session) (commits counter : ℕ) (how : Status)
    → HasServed (HasRunKept setting first commits counter []) left_first left held_first held old s → HasNone how old new left next s t
    → HasStopped (HasRunKept setting first commits counter []) (run_as (kept.Served how)) left_first next held_first held [] t
none_kept {s = s} {t = t} setting first commits counter how before none =
    stopped_as (HasRunKept setting first commits counter []) how
    (ends_here (HasRunKept setting first commits counter []) how before
    (kept_alike setting first commits counter [] before.rounds s t before.text none.0 before.has_run) none)

as-told : (why : Unkept) (how : KeptStatus) → how ≡ status_of why → run_as how ≡ status.WriteFault
as-told unkept.DiskFault how is = ap run_as is
as-told unkept.NoMemory how is = ap run_as is

-- it wasn't kept, and its replies are held back
pub not_kept : {left_first left next held_first held : Option (List ℕ)} {old new : ReaderParts} {s t u : List SessionParts}
    (setting : Setting) (first : List Session) (commits counter : ℕ) (s_now : Stopped) (honest : Bool) (images : List ℕ → Type 0)
    (why : Unkept) → HasServed (HasRunKept setting first commits counter []) left_first left held_first held old s
    → (round : Round) × ReadsRound old new left next (Ok (Some round))
    × HaveRun setting.defs setting.shards (Some setting.window) (lines_of_round round) s t
    → AreAlike t u → s_now.status ≡ status_of why → s_now.unsent ≡ texts_of t
    → (IsTrue honest → (image : List ℕ) → images image → HoldsUpTo commits counter image)
    → HasStoppedKept setting first s_now left_first next held_first held u honest images
not_kept {left_first = left_first} {next = next} {held_first = held_first} {held = held} {s = s} {t = t} {u = u} setting first
    commits counter s_now honest images why before ran alike same_status all_held on_disk =
    by (stopped-either (HasRunKept setting first commits counter []) (HasRunKept setting first commits counter (texts_of t))
    status.WriteFault stopped) where
      stopped : HasStopped (λ rounds v text.
          HasRunKept setting first commits counter [] rounds v text ⊎ HasRunKept setting first commits counter (texts_of t) rounds v text)
          status.WriteFault left_first next held_first held s_now.unsent u
      stopped = ends_unsent (λ rounds v text.
          HasRunKept setting first commits counter [] rounds v text ⊎ HasRunKept setting first commits counter (texts_of t) rounds v text)
          t s_now.unsent
          (served_weaker (HasRunKept setting first commits counter []) (λ rounds v text.
          HasRunKept setting first commits counter [] rounds v text ⊎ HasRunKept setting first commits counter (texts_of t) rounds v text)
          (λ rounds text h. inl h) before) ran.1
          (inr (more_held setting first commits counter before.rounds ran.0 s t u before.text before.has_run ran.2 alike))
          (record { taken = []; wrote = Appends-nil held; whole = sym all_held })

      told : (P : Says) → HasStopped P status.WriteFault left_first next held_first held s_now.unsent u
          → HasStopped P (run_as s_now.status) left_first next held_first held s_now.unsent u
      told P = subst (λ (h : Status). HasStopped P h left_first next held_first held s_now.unsent u)
          (sym (as-told why s_now.status same_status))

      by : HasStopped (HasRunKept setting first commits counter []) status.WriteFault left_first next held_first held s_now.unsent u
          ⊎ HasStopped (HasRunKept setting first commits counter (texts_of t)) status.WriteFault left_first next held_first held
          s_now.unsent u
          → HasStoppedKept setting first s_now left_first next held_first held u honest images
      by (inl none) = record {
        commits = commits;
        next = counter;
        held = [];
        stopped = told (HasRunKept setting first commits counter []) none;
        held_is = inl refl;
        on_disk = on_disk;
      }
      by (inr some) = record {
        commits = commits;
        next = counter;
        held = texts_of t;
        stopped = told (HasRunKept setting first commits counter (texts_of t)) some;
        held_is = inr (sym all_held);
        on_disk = on_disk;
      }
