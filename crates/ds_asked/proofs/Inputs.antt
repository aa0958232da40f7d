-- Rounds that are read one after another, to the end of an input.
use Rattle.std.proofs.Common.{◌≡◌, ℕ, List, [], ◌∷◌, ◌++◌, refl, ap, sym, ◌∙◌, subst, Some, None, append-nil}
use Rattle.std.specs.Prelude.{Ok}
use Rattle.ds_rounds.specs.Reading.{HasRead, ReaderParts, ReadsRound, first_reader}
use Rattle.ds_rounds.specs.ReadingLaws.{read_all, read_nothing, read_round}
use Rattle.ds_rounds.specs.Rounds.{NumberedLine, lines_of_round, rounds_of_input}
use Rattle.ds_rounds.specs.declared.round.Round.{Round}
use Rattle.ds_rounds.specs.declared.stage.Stage.{Stage}
use Rattle.ds_rounds.specs.declared.stage.Stage.TheVariants as stage
use Rattle.ds_asked.specs.declared.lines.Asked.{Asked}
use Rattle.ds_asked.specs.AskedLines.{AreAskedBy, AreAskedRounds}

-- the rounds so far are asked
pub record IsReadSoFar (shards : ℕ) (input left : List ℕ) (reader : ReaderParts) (asked : List (List (List Asked))) : Type 0 where
  pub bytes : List ℕ
  pub rounds : List (List NumberedLine)
  pub has_read : HasRead (Some input) (Some left) bytes rounds reader
  pub are : AreAskedRounds shards rounds asked

pub read_begun : (shards : ℕ) (input : List ℕ) → IsReadSoFar shards input input first_reader []
read_begun shards input = record { bytes = []; rounds = []; has_read = read_nothing (Some input); are = tt }

asked-push : (shards : ℕ) (rounds : List (List NumberedLine)) (asked : List (List (List Asked))) (lines : List NumberedLine) (lists : List (List Asked))
    → AreAskedRounds shards rounds asked → AreAskedBy shards lines lists → AreAskedRounds shards (rounds ++ lines ∷ []) (asked ++ lists ∷ [])
asked-push shards [] [] lines lists so_far are = (are, tt)
asked-push shards [] (x ∷ asked) lines lists so_far are = absurd so_far
asked-push shards (r ∷ rounds) [] lines lists so_far are = absurd so_far
asked-push shards (r ∷ rounds) (x ∷ asked) lines lists so_far are = (so_far.0, asked-push shards rounds asked lines lists so_far.1 are)

pub read_more : (shards : ℕ) (input left next : List ℕ) (old new : ReaderParts) (asked : List (List (List Asked))) (round : Round)
    (lists : List (List Asked)) → IsReadSoFar shards input left old asked → ReadsRound old new (Some left) (Some next) (Ok (Some round))
    → AreAskedBy shards (lines_of_round round) lists → IsReadSoFar shards input next new (asked ++ lists ∷ [])
read_more shards input left next old new asked round lists so_far call are = record {
  bytes = so_far.bytes ++ call.read;
  rounds = so_far.rounds ++ lines_of_round round ∷ [];
  has_read = read_round so_far.has_read call;
  are = asked-push shards so_far.rounds asked (lines_of_round round) lists so_far.are are;
}

pub read_whole : (shards : ℕ) (input left next : List ℕ) (old new : ReaderParts) (asked : List (List (List Asked)))
    → IsReadSoFar shards input left old asked → ReadsRound old new (Some left) (Some next) (Ok None)
    → AreAskedRounds shards (rounds_of_input input) asked
read_whole shards input left next old new asked so_far call =
    subst (λ rs. AreAskedRounds shards rs asked) (sym (read_all so_far.has_read call) ∙ ap rounds_of_input (sym whole)) so_far.are
  where
    all_read : (s : Stage) → old.stage ≡ s → next ≡ []
    all_read stage.Reading is = call.to_the_end is call.outcome.1
    all_read stage.Ended is =
        let none : call.read ≡ [] = (call.past_the_end is).0 in
        sym (call.told ∙ ap (λ bs. bs ++ next) none) ∙ so_far.has_read.at_the_end is
    all_read stage.Failed is = absurd (so_far.has_read.going is)

    whole : input ≡ so_far.bytes ++ call.read
    whole =
        so_far.has_read.told
        ∙ ap (λ bs. so_far.bytes ++ bs) (call.told ∙ ap (λ bs. call.read ++ bs) (all_read old.stage refl) ∙ append-nil call.read)
