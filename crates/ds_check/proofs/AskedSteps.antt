-- What the lines of rounds ask, as steps.
use Rattle.std.proofs.Common.{ℕ, ◌+◌, List, [], ◌∷◌, ◌++◌, length, map, flat_map, sym, subst, All}
use Rattle.std.specs.List.{range_with_len}
use Rattle.std.proofs.lemmas.List.{map-append}
use Rattle.std.proofs.lemmas.List.Elements.{All-nil, All-cons, All-append}
use Rattle.ds_rounds.specs.Rounds.{NumberedLine}
use Rattle.ds_model.specs.Asked.{asked, client_of}
use Rattle.ds_model.specs.Legal.{by_client}
use Rattle.ds_asked.specs.declared.lines.Asked.{Asked}
use Rattle.ds_asked.specs.AskedLines.{AreAsked, AreAskedBy, AreAskedFrom, AreAskedRounds, lines_of_client}
use Rattle.ds_check.specs.Verdicts.{Turn, Meet, Answer, turns_of}
use Rattle.ds_check.specs.Walks.{MayBeTaken, client_steps, round_steps, steps_of}
use Rattle.ds_check.proofs.Turns.{AreSteps, are-append}

module _ (shards : ℕ) where
  abbrev answer : NumberedLine → Turn
  answer line = Answer (client_of (asked shards) line.content) line

  own-steps : (client : ℕ) (lines : List NumberedLine) (own : List Asked) → AreAsked shards client lines own
      → AreSteps (asked shards) (map answer lines) (client_steps own)
  own-steps client [] [] are = tt
  own-steps client [] (a ∷ own) are = absurd are
  own-steps client (line ∷ lines) [] are = absurd are
  own-steps client (line ∷ lines) (a ∷ own) (asks_it, of_client, are) =
      ((asks_it.own, sym asks_it.numbered, asks_it.read, asks_it.own), own-steps client lines own are)

  abbrev lines_from : List NumberedLine → ℕ → ℕ → List NumberedLine
  lines_from round client count = flat_map (λ c. lines_of_client shards c round) (range_with_len client count)

  from-steps : (client : ℕ) (round : List NumberedLine) (lists : List (List Asked)) → AreAskedFrom shards client round lists
      → AreSteps (asked shards) (map answer (lines_from round client (length lists))) (flat_map client_steps lists)
  from-steps client round [] are = tt
  from-steps client round (own ∷ lists) (first, are) =
      subst (λ turns. AreSteps (asked shards) turns (client_steps own ++ flat_map client_steps lists))
      (sym (map-append answer (lines_of_client shards client round) (lines_from round (client + 1) (length lists))))
      (are-append (asked shards) (map answer (lines_of_client shards client round))
      (map answer (lines_from round (client + 1) (length lists)))
      (client_steps own) (flat_map client_steps lists) (own-steps client (lines_of_client shards client round) own first)
      (from-steps (client + 1) round lists are))

  by-steps : (round : List NumberedLine) (lists : List (List Asked)) → AreAskedBy shards round lists
      → AreSteps (asked shards) (map answer (by_client (asked shards) round)) (flat_map client_steps lists)
  by-steps round lists are =
      subst (λ n. AreSteps (asked shards) (map answer (lines_from round 0 n)) (flat_map client_steps lists)) are.clients
      (from-steps 0 round lists are.each)

  pub are_steps : (rounds : List (List NumberedLine)) (lists : List (List (List Asked))) → AreAskedRounds shards rounds lists
      → AreSteps (asked shards) (turns_of (asked shards) rounds) (steps_of lists)
  are_steps [] [] are = tt
  are_steps [] (l ∷ lists) are = absurd are
  are_steps (round ∷ rounds) [] are = absurd are
  are_steps (round ∷ rounds) (l ∷ lists) (first, are) =
      are-append (asked shards) (Meet ∷ map answer (by_client (asked shards) round)) (turns_of (asked shards) rounds) (round_steps l)
      (steps_of lists)
      (by-steps round l first) (are_steps rounds lists are)

  -- ---- each may be taken

  own-taken : (client : ℕ) (lines : List NumberedLine) (own : List Asked) → AreAsked shards client lines own
      → All (MayBeTaken shards) (client_steps own)
  own-taken client [] [] are = All-nil (MayBeTaken shards)
  own-taken client [] (a ∷ own) are = absurd are
  own-taken client (line ∷ lines) [] are = absurd are
  own-taken client (line ∷ lines) (a ∷ own) (asks_it, of_client, are) =
      All-cons (MayBeTaken shards) _ (client_steps own) asks_it.answerable (own-taken client lines own are)

  from-taken : (client : ℕ) (round : List NumberedLine) (lists : List (List Asked)) → AreAskedFrom shards client round lists
      → All (MayBeTaken shards) (flat_map client_steps lists)
  from-taken client round [] are = All-nil (MayBeTaken shards)
  from-taken client round (own ∷ lists) (first, are) =
      All-append (MayBeTaken shards) (client_steps own) (flat_map client_steps lists)
      (own-taken client (lines_of_client shards client round) own first) (from-taken (client + 1) round lists are)

  pub may_be_taken : (rounds : List (List NumberedLine)) (lists : List (List (List Asked))) → AreAskedRounds shards rounds lists
      → All (MayBeTaken shards) (steps_of lists)
  may_be_taken [] [] are = All-nil (MayBeTaken shards)
  may_be_taken [] (l ∷ lists) are = absurd are
  may_be_taken (round ∷ rounds) [] are = absurd are
  may_be_taken (round ∷ rounds) (l ∷ lists) (first, are) =
      All-append (MayBeTaken shards) (round_steps l) (steps_of lists)
      (All-cons (MayBeTaken shards) _ (flat_map client_steps l) tt (from-taken 0 round l first.each)) (may_be_taken rounds lists are)
