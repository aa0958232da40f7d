-- How the answers of successive calls join to the rounds of the whole input.
use Rattle.std.specs.Prelude.{◌≡◌, ◌≢◌, ℕ, List, [], ◌∷◌, ◌++◌, Bool, true, false, Option, Some, None, Ok, Err, refl}
use Rattle.std.specs.Io.KnownBytes.{IsAtEnd}
use Rattle.std.proofs.Common.{sym, ◌∙◌, ap, append_assoc, append-nil}
use Rattle.std.proofs.KnownBytes.{Consumes-nil, Consumes-trans}
use Rattle.ds_rounds.specs.Reading.{GivesNone, HasRead, MayFollow, ReaderParts, ReadsRound, first_reader}
use Rattle.ds_rounds.specs.Rounds.{NumberedLine, ended_rounds, lines_of_round, rounds_in, rounds_of_input}
use Rattle.ds_rounds.specs.declared.round.Round.{Round}
use Rattle.ds_rounds.specs.declared.stage.RoundRefused.TheVariants as refused
use Rattle.ds_rounds.specs.declared.stage.Stage.{Stage}
use Rattle.ds_rounds.specs.declared.stage.Stage.TheVariants as stage

-- before the first call
pub read_nothing : (left : Option (List ℕ)) → HasRead left left [] [] first_reader
read_nothing left = record {
  told = Consumes-nil left;
  at_the_end = λ is. cc;
  going = λ is. cc;
  so_far = λ ended more follows. refl;
}

-- what may stand behind what a reader has taken, by its stage
follows : (reader : Stage) (ended : Bool) (more : List ℕ) → reader ≢ stage.Failed → (reader ≡ stage.Ended → (ended ≡ true) × (more ≡ []))
    → MayFollow reader ended more
follows stage.Reading ended more going at_the_end = tt
follows stage.Ended ended more going at_the_end = at_the_end refl
follows stage.Failed ended more going at_the_end = absurd (going refl)

-- where a reader met the end, the source has nothing left
end_stays : (reader : Stage) (now : Type 0) → reader ≢ stage.Failed → (reader ≡ stage.Ended → ⊥) → (reader ≡ stage.Reading → now) → now
end_stays stage.Reading now going before at_the_end = at_the_end refl
end_stays stage.Ended now going before at_the_end = absurd (before refl)
end_stays stage.Failed now going before at_the_end = absurd (going refl)

-- a call that gave a round
pub read_round : {first now next : Option (List ℕ)} {bytes : List ℕ} {rounds : List (List NumberedLine)}
    {old new : ReaderParts} {round : Round} → HasRead first now bytes rounds old
    → (call : ReadsRound old new now next (Ok (Some round)))
    → HasRead first next (bytes ++ call.read) (rounds ++ lines_of_round round ∷ []) new
read_round {first} {now} {next} {bytes} {rounds} {old} {new} {round} before call = record {
  told = Consumes-trans first now next bytes call.read before.told call.told;
  at_the_end = λ is. end_stays old.stage (IsAtEnd next) before.going not_ended (λ reading. call.to_the_end reading is);
  going = call.outcome.going;
  so_far = λ ended more may.
      ap (λ bs. rounds_in ended 1 bs) (append_assoc bytes call.read more)
      ∙ before.so_far ended (call.read ++ more) (follows old.stage ended (call.read ++ more) before.going (λ is. absurd (not_ended is)))
      ∙ ap (λ rs. rounds ++ rs) (call.outcome.first ended more may)
      ∙ sym (append_assoc rounds (lines_of_round round ∷ []) (rounds_in ended new.number (new.buffered ++ more)));
} where
  not_ended : old.stage ≡ stage.Ended → ⊥
  not_ended is = let none = (call.past_the_end is).1 in cc

-- a call that met the end: all rounds of the input are given
pub read_all : {first now next : Option (List ℕ)} {bytes : List ℕ} {rounds : List (List NumberedLine)} {old new : ReaderParts}
    → HasRead first now bytes rounds old → (call : ReadsRound old new now next (Ok None)) → rounds_of_input (bytes ++ call.read) ≡ rounds
read_all {first} {now} {next} {bytes} {rounds} {old} {new} before call =
    before.so_far true call.read (follows old.stage true call.read before.going (λ is. (refl, (call.past_the_end is).0)))
    ∙ ap (λ rs. rounds ++ rs) call.outcome.0
    ∙ append-nil rounds

-- bytes that were read while no round of them has ended
until : {first now : Option (List ℕ)} {bytes : List ℕ} {rounds : List (List NumberedLine)} {old : ReaderParts} (read : List ℕ)
    → HasRead first now bytes rounds old → (old.stage ≡ stage.Ended → ⊥) → GivesNone old read false → ended_rounds (bytes ++ read) ≡ rounds
until {first} {now} {bytes} {rounds} {old} read before not_ended none =
    before.so_far false read (follows old.stage false read before.going (λ is. absurd (not_ended is))) ∙ ap (λ rs. rounds ++ rs) none
    ∙ append-nil rounds

-- a call for which a read failed: all rounds that have ended within the bytes are given
pub read_until_fault : {first now next : Option (List ℕ)} {bytes : List ℕ} {rounds : List (List NumberedLine)} {old new : ReaderParts}
    → HasRead first now bytes rounds old → (call : ReadsRound old new now next (Err refused.ReadFault))
    → ended_rounds (bytes ++ call.read) ≡ rounds
read_until_fault before call = until call.read before (λ is. let none = (call.past_the_end is).1 in cc) call.outcome.0

-- a call that met the limit: all rounds that have ended within the bytes are given
pub read_until_limit : {first now next : Option (List ℕ)} {bytes : List ℕ} {rounds : List (List NumberedLine)} {old new : ReaderParts}
    → HasRead first now bytes rounds old → (call : ReadsRound old new now next (Err refused.InputLimit))
    → ended_rounds (bytes ++ call.read) ≡ rounds
read_until_limit before call = until call.read before (λ is. let none = (call.past_the_end is).1 in cc) call.outcome.0

-- at each moment the rounds given so far are the first ones of the whole input, of which this is left
pub given_first : {first : Option (List ℕ)} {left bytes : List ℕ} {rounds : List (List NumberedLine)} {reader : ReaderParts}
    → HasRead first (Some left) bytes rounds reader
    → rounds_of_input (bytes ++ left) ≡ rounds ++ rounds_in true reader.number (reader.buffered ++ left)
given_first {first} {left} {bytes} {rounds} {reader} so_far = so_far.so_far true left
    (follows reader.stage true left so_far.going (λ is. (refl, so_far.at_the_end is)))
