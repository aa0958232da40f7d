-- From one round to the next and to the end, of rounds that were run from what the clients had seen first on.
use Rattle.std.proofs.Common.{◌≡◌, ℕ, List, [], ◌∷◌, ◌++◌, Option, Some, refl, subst, sym, ◌∙◌}
use Rattle.std.specs.Prelude.{All, Ok}
use Rattle.std.specs.Io.KnownBytes.{Appends}
use Rattle.std.proofs.lemmas.List.Elements.{All-weaker}
use Rattle.ds_model.specs.Sessions.{Session}
use Rattle.ds_reply.specs.declared.reply.Reply.{Reply}
use Rattle.ds_rounds.specs.Reading.{ReaderParts, ReadsRound}
use Rattle.ds_rounds.specs.Rounds.{NumberedLine, lines_of_round}
use Rattle.ds_rounds.specs.declared.round.Round.{Round}
use Rattle.ds_clients.specs.Clients.{AreAlike, WrotePart}
use Rattle.ds_clients.specs.Runs.{HaveRun, IsIdle, texts_of}
use Rattle.ds_clients.specs.Sessions.{SessionParts}
use Rattle.ds_clients.proofs.ClosingLaws.{idle_first}
use Rattle.ds_clients.proofs.RoundLaws.{run_more, run_more_begins}
use Rattle.ds_store.specs.Passes.{PassParts, nothing_seen}
use Rattle.ds_words.specs.declared.status.Status.TheVariants as status
use Rattle.ds_serving.specs.Rounds.{HasServed, HasStopped, RanFrom}
use Rattle.ds_serving.specs.declared.settings.Setting.{Setting}
use Rattle.ds_serving.proofs.Alike.{run_alike, run_alike_replies}
use Rattle.ds_serving.proofs.RoundLaws.{ends_unsent, served_round}

-- sessions to which nothing was done
pub alike_same : (s : List SessionParts) → AreAlike s s
alike_same s = record { clients = refl; seen = refl; passes = refl }

-- new passes have done nothing
pub new_idle : (shards : ℕ) (passes : List PassParts) → All (λ p. p ≡ nothing_seen shards) passes → All IsIdle passes
new_idle shards passes new =
    All-weaker (λ p. p ≡ nothing_seen shards) IsIdle (λ p is. subst IsIdle (sym is) (idle_first shards)) passes new

module _ (setting : Setting) (first : List Session) where
  pub ran_more : {rounds : List (List NumberedLine)} {text : List ℕ} {s t u : List SessionParts} (round : Round)
      → RanFrom setting first rounds s text → HaveRun setting.defs setting.shards (Some setting.window) (lines_of_round round) s t
      → AreAlike t u → RanFrom setting first (rounds ++ lines_of_round round ∷ []) u (text ++ texts_of t)
  ran_more {rounds} {text} {s} {t} {u} round before ran alike =
      run_alike setting.defs setting.shards (Some setting.window) first (rounds ++ lines_of_round round ∷ []) t u (text ++ texts_of t) alike
      (run_more setting.defs setting.shards (Some setting.window) first rounds (lines_of_round round) s t text before ran)

  -- its replies stand behind those before
  pub ran_behind : {rounds : List (List NumberedLine)} {text : List ℕ} {s t u : List SessionParts} (round : Round)
      (before : RanFrom setting first rounds s text)
      (ran : HaveRun setting.defs setting.shards (Some setting.window) (lines_of_round round) s t) (alike : AreAlike t u)
      → (own : List Reply) × ((ran_more round before ran alike).replies ≡ before.replies ++ own)
  unfolding ran_more
  ran_behind {rounds} {text} {s} {t} {u} round before ran alike =
      let more = run_more setting.defs setting.shards (Some setting.window) first rounds (lines_of_round round) s t text before ran in
      let own = run_more_begins setting.defs setting.shards (Some setting.window) first rounds (lines_of_round round) s t text before ran in (
        own.0,
        run_alike_replies setting.defs setting.shards (Some setting.window) first (rounds ++ lines_of_round round ∷ []) t u
            (text ++ texts_of t) alike more ∙ own.1,
      )

  -- a round was run, its replies were written, and the sessions' texts cleared
  pub round_served : {left_first left next held_first held held_next : Option (List ℕ)} {old new : ReaderParts}
      {s t u : List SessionParts} → HasServed (RanFrom setting first) left_first left held_first held old s
      → (round : Round) × ReadsRound old new left next (Ok (Some round))
      × HaveRun setting.defs setting.shards (Some setting.window) (lines_of_round round) s t
      → AreAlike t u → Appends held held_next (texts_of t) → HasServed (RanFrom setting first) left_first next held_first held_next new u
  round_served {t} before given alike wrote =
      served_round (RanFrom setting first) t before given.1 (ran_more given.0 before.has_run given.2 alike) wrote

  -- a write failed
  pub round_unsent : {left_first left next held_first held held_next : Option (List ℕ)} {old new : ReaderParts}
      {s t u : List SessionParts} (unsent : List ℕ) → HasServed (RanFrom setting first) left_first left held_first held old s
      → (round : Round) × ReadsRound old new left next (Ok (Some round))
      × HaveRun setting.defs setting.shards (Some setting.window) (lines_of_round round) s t
      → AreAlike t u → WrotePart held held_next (texts_of t) unsent
      → HasStopped (RanFrom setting first) status.WriteFault left_first next held_first held_next unsent u
  round_unsent {t} unsent before given alike wrote =
      ends_unsent (RanFrom setting first) t unsent before given.1 (ran_more given.0 before.has_run given.2 alike) wrote
