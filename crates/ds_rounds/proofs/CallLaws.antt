-- One call of a reader: what it has read so far, and what each of its ends says.
use Rattle.std.proofs.Common.{◌≡◌, ◌≢◌, ℕ, ◌+◌, ◌<◌, ◌≤◌, List, [], ◌∷◌, ◌++◌, length, refl, ap, sym, ◌∙◌, arith, Bool, true, false, Option}
use Rattle.std.proofs.Common.{Some, None, Result, Ok, Err, append-nil, length-append, subst, ◌⊎◌, inl, inr}
use Rattle.std.specs.Prelude.{nat_lt}
use Rattle.std.proofs.lemmas.Bool.{cases_lt, ltb-false}
use Rattle.std.specs.Io.KnownBytes.{Consumes, IsAtEnd, Keeps}
use Rattle.ds_base.specs.Limits.{most_input_bytes}
use Rattle.std.proofs.KnownBytes.{Consumes-kept, Consumes-nil, Consumes-trans}
use Rattle.ds_rounds.specs.Drafts.{Absorbed, DraftParts, IsLine, IsOpen, IsSame, LeavesRound, Stands, WantsMemory, number_in, so_far}
use Rattle.ds_rounds.specs.Lines.{lines_in}
use Rattle.ds_rounds.specs.Reading.{GivesNone, IsReader, Outcome, ReaderParts, ReadsRound}
use Rattle.ds_rounds.specs.Rounds.{NumberedLine, found_rounds, lines_of_round, numbered, rounds_from, rounds_in}
use Rattle.ds_rounds.specs.declared.round.Round.{Round}
use Rattle.ds_rounds.specs.declared.stage.RoundRefused.{RoundRefused}
use Rattle.ds_rounds.specs.declared.stage.RoundRefused.TheVariants as refused
use Rattle.ds_rounds.specs.declared.stage.Stage.{Stage}
use Rattle.ds_rounds.specs.declared.stage.Stage.TheVariants as stage
use Rattle.ds_rounds.proofs.ReadLaws.{ahead, at_the_end, begin, gives_last, none_ended, read_on, rounds_in-nothing}

pub nothing_wants : (draft : DraftParts) (bytes : List ℕ) → bytes ≡ [] → WantsMemory draft bytes → ⊥
nothing_wants draft bytes none (inl several) = omega (arith, ap length none)
nothing_wants draft bytes none (inr one) = omega (arith, ap length none, one.0)

-- a call that has read so far: what it read, and what stands of it in the draft
pub record IsReading (first now : Option (List ℕ)) (old : ReaderParts) (draft : DraftParts) (number taken : ℕ) (piece : List ℕ) : Type 0 where
  pub read : List ℕ
  pub told : Consumes first now read
  pub counted : taken ≡ old.taken + length read
  pub at_once : (read ≡ []) ⊎ GivesNone old [] false
  pub stands : Stands (ahead old read) draft number piece
  pub open_still : IsOpen draft
  pub risen : old.number ≤ draft.first
  pub within : taken ≤ most_input_bytes
  pub passed : number + length piece ≤ taken + 1
  pub idle : old.taken ≡ most_input_bytes → piece ≡ []
  pub room : taken ≡ most_input_bytes → WantsMemory draft piece → ⊥

pub reading_first : (left : Option (List ℕ)) (old : ReaderParts) (draft : DraftParts) → IsReader old → old.stage ≡ stage.Reading → draft.first ≡ old.number → draft.lines ≡ [] → draft.kept ≡ [] → draft.blank ≡ true → IsReading left left old draft old.number old.taken old.buffered
reading_first left old draft ok reading first lines kept blank = record {
  read = [];
  told = Consumes-nil left;
  counted = omega arith;
  at_once = inl refl;
  stands = begin old draft first lines kept blank;
  open_still = omega (arith, ap length lines);
  risen = omega (arith, first);
  within = ok.within;
  passed = ok.counted (λ is. let never : stage.Reading ≡ stage.Ended = sym reading ∙ is in cc);
  idle = ok.at_the_limit;
  room = λ at wants. nothing_wants draft old.buffered (ok.at_the_limit at) wants;
}

-- a reader that isn't at its end
pub IsReader-going : (number taken : ℕ) (piece : List ℕ) (now : Stage) → now ≢ stage.Ended → taken ≤ most_input_bytes → number + length piece ≤ taken + 1 → (taken ≡ most_input_bytes → piece ≡ []) → IsReader (record { number = number; buffered = piece; taken = taken; stage = now })
IsReader-going number taken piece now going within passed at_limit = record {
  within = within;
  numbered = omega arith;
  counted = λ _. passed;
  at_the_limit = at_limit;
  before_the_limit = λ is. absurd (going is);
  at_the_end = λ is. absurd (going is);
}

-- the bytes are in the draft, and no round has ended
pub absorbed_all : {first now : Option (List ℕ)} {old : ReaderParts} {before after : DraftParts} {number next taken : ℕ} {piece rest : List ℕ} (answer : Bool) → answer ≡ false → IsReading first now old before number taken piece → LeavesRound answer after next rest → next + length rest ≤ number + length piece → before.first ≤ after.first → ((rounds : Bool → List ℕ → List (List NumberedLine)) → Stands rounds before number piece → Absorbed answer rounds after next rest) → IsReading first now old after next taken rest
absorbed_all {first} {now} {old} {before} {after} {number} {next} {taken} {piece} {rest} answer is reading leaves passed risen absorbed =
    let open_on : LeavesRound false after next rest = subst (λ b. LeavesRound b after next rest) is leaves in
    record {
      read = reading.read;
      told = reading.told;
      counted = reading.counted;
      at_once = reading.at_once;
      stands = subst (λ b. Absorbed b (ahead old reading.read) after next rest) is (absorbed (ahead old reading.read) reading.stands);
      open_still = open_on.0;
      risen = omega (arith, reading.risen);
      within = reading.within;
      passed = omega (arith, reading.passed);
      idle = λ _. open_on.2;
      room = λ _ wants. nothing_wants after rest open_on.2 wants;
    }

-- while no round has ended, none stands in what was read
pub waits : {first now : Option (List ℕ)} {old : ReaderParts} {draft : DraftParts} {number taken : ℕ} {piece : List ℕ} → (reading : IsReading first now old draft number taken piece) → piece ≡ [] → GivesNone old reading.read false
waits {first} {now} {old} {draft} {number} {taken} {piece} reading none = none_ended old reading.read draft number (subst (Stands (ahead old reading.read) draft number) none reading.stands)

-- one read more
pub read_more : {first now next : Option (List ℕ)} {old : ReaderParts} {before after : DraftParts} {number taken count : ℕ} {empty : List ℕ} (piece : List ℕ) → IsReading first now old before number taken empty → empty ≡ [] → taken < most_input_bytes → IsSame before after → 0 < after.byte_room → 0 < after.line_room → Consumes now next piece → count ≡ taken + length piece → count ≤ most_input_bytes → (count ≡ most_input_bytes → length piece ≤ 1) → IsReading first next old after number count piece
read_more {first} {now} {next} {old} {before} {after} {number} {taken} {count} {empty} piece reading none below same bytes lines told counted within one = record {
  read = reading.read ++ piece;
  told = Consumes-trans first now next reading.read piece reading.told told;
  counted = omega (arith, counted, reading.counted, length-append reading.read piece);
  at_once = inr (still_none reading.at_once);
  stands = read_on old reading.read piece before after number (subst (Stands (ahead old reading.read) before number) none reading.stands) same;
  open_still = omega (arith, ap length same.lines, reading.open_still);
  risen = omega (arith, same.first, reading.risen);
  within = within;
  passed = omega (arith, counted, reading.passed, ap length none);
  idle = λ at. absurd (omega (arith, at, below, reading.counted));
  room = λ at wants. roomy (one at) wants;
} where
  still_none : (reading.read ≡ []) ⊎ GivesNone old [] false → GivesNone old [] false
  still_none (inl nothing) = subst (λ bs. GivesNone old bs false) nothing (waits reading none)
  still_none (inr none_yet) = none_yet

  cramped_no : (after.byte_room < 1) ⊎ (after.line_room < 1) → ⊥
  cramped_no (inl none_left) = omega (arith, none_left)
  cramped_no (inr none_left) = omega (arith, none_left)

  roomy : length piece ≤ 1 → WantsMemory after piece → ⊥
  roomy single (inl several) = omega (arith, several)
  roomy single (inr cramped) = cramped_no cramped.1

-- how a call that went on reading ends
pub ends : {first now : Option (List ℕ)} {old : ReaderParts} {draft : DraftParts} {number taken : ℕ} {piece : List ℕ} (new : ReaderParts) (result given : Result (Option Round) RoundRefused) → result ≡ given → (reading : IsReading first now old draft number taken piece) → old.stage ≡ stage.Reading → new.taken ≡ taken → (new.stage ≡ stage.Ended → IsAtEnd now) → Outcome old reading.read given new → ReadsRound old new first now result
ends {first} {now} {old} {draft} {number} {taken} {piece} new result given is reading going same at_end outcome = subst (λ r. ReadsRound old new first now r) (sym is) (record {
  read = reading.read;
  told = reading.told;
  counted = same ∙ reading.counted;
  at_once = reading.at_once;
  past_the_end = λ ended. let never : stage.Reading ≡ stage.Ended = sym going ∙ ended in cc;
  past_a_refusal = λ failed. let never : stage.Reading ≡ stage.Failed = sym going ∙ failed in cc;
  to_the_end = λ _ ended. at_end ended;
  outcome = outcome;
})

pub nothing_read : (bytes : List ℕ) → nat_lt 0 (length bytes) ≡ false → bytes ≡ []
nothing_read [] none = refl
nothing_read (b ∷ bytes) none = absurd (omega (arith, ltb-false 0 (length (b ∷ bytes)) none))

-- a failed read behind what was read
pub kept_on : {first now next : Option (List ℕ)} {old : ReaderParts} {draft : DraftParts} {number taken : ℕ} {piece : List ℕ} → IsReading first now old draft number taken piece → Keeps now next → IsReading first next old draft number taken piece
kept_on {first} {now} {next} {old} {draft} {number} {taken} {piece} reading kept = record {
  read = reading.read;
  told = Consumes-kept first now next reading.read reading.told kept;
  counted = reading.counted;
  at_once = reading.at_once;
  stands = reading.stands;
  open_still = reading.open_still;
  risen = reading.risen;
  within = reading.within;
  passed = reading.passed;
  idle = reading.idle;
  room = reading.room;
}

-- a round that has ended among the bytes
pub gives : {first now : Option (List ℕ)} {old : ReaderParts} {before : DraftParts} {number taken : ℕ} {piece : List ℕ} (after : DraftParts) (new : ReaderParts) (round : Round) (answer : Bool) → answer ≡ true → (reading : IsReading first now old before number taken piece) → new.stage ≡ stage.Reading → LeavesRound answer after new.number new.buffered → new.number + length new.buffered ≤ number + length piece → before.first ≤ after.first → ((rounds : Bool → List ℕ → List (List NumberedLine)) → Stands rounds before number piece → Absorbed answer rounds after new.number new.buffered) → round.first ≡ after.first → round.lines ≡ after.lines → Outcome old reading.read (Ok (Some round)) new
gives {first} {now} {old} {before} {number} {taken} {piece} after new round answer is reading going leaves passed risen absorbed same_first same_lines =
    let whole : LeavesRound true after new.number new.buffered = subst (λ b. LeavesRound b after new.number new.buffered) is leaves in
    let first_is = subst (λ b. Absorbed b (ahead old reading.read) after new.number new.buffered) is (absorbed (ahead old reading.read) reading.stands) in
    record {
      first = λ ended more _.
          first_is ended more
          ∙ ap (λ n. numbered n after.lines ∷ rounds_in ended new.number (new.buffered ++ more)) (sym same_first)
          ∙ ap (λ ls. numbered round.first ls ∷ rounds_in ended new.number (new.buffered ++ more)) (sym same_lines);
      going = λ failed. let never : stage.Reading ≡ stage.Failed = sym going ∙ failed in cc;
      rises = omega (arith, reading.risen, whole.0.some, whole.1, risen);
      numbered = omega (arith, passed, reading.passed, reading.within);
    }

-- what the end of the input leaves
pub ends_input : {first now : Option (List ℕ)} {old : ReaderParts} {draft : DraftParts} {number taken : ℕ} {piece : List ℕ} (new : ReaderParts) (found : Option Round) → (reading : IsReading first now old draft number taken piece) → piece ≡ [] → new.stage ≡ stage.Ended → new.buffered ≡ [] → new.number ≡ number + 1 → new.taken ≡ taken → taken < most_input_bytes → ((line : List ℕ) → IsLine draft line → rounds_from true (so_far draft) (number_in draft) (lines_in true line) ≡ found_rounds found) → Outcome old reading.read (Ok found) new
ends_input {first} {now} {old} {draft} {number} {taken} {piece} new None reading none is_ended nothing next same below ends =
    (at_the_end old reading.read draft number [] (subst (Stands (ahead old reading.read) draft number) none reading.stands) ends, is_ended, omega (arith, same))
ends_input {first} {now} {old} {draft} {number} {taken} {piece} new (Some round) reading none is_ended nothing next same below ends = record {
  first = gives_last old reading.read (lines_of_round round) new is_ended nothing
      (at_the_end old reading.read draft number (lines_of_round round ∷ []) (subst (Stands (ahead old reading.read) draft number) none reading.stands) ends);
  going = λ failed. let never : stage.Ended ≡ stage.Failed = sym is_ended ∙ failed in cc;
  rises = omega (arith, next, reading.risen, reading.stands.counted);
  numbered = omega (arith, next, reading.passed, below);
}

-- ---- a call that reads nothing

nothing_buffered : (old : ReaderParts) (ended : Bool) → old.buffered ≡ [] → GivesNone old [] ended
nothing_buffered old ended none = ap (rounds_in ended old.number) (append-nil old.buffered ∙ none) ∙ rounds_in-nothing ended old.number

-- behind the end
pub reads_ended : (left : Option (List ℕ)) (old : ReaderParts) → IsReader old → old.stage ≡ stage.Ended → ReadsRound old old left left (Ok None)
reads_ended left old ok is_ended = record {
  read = [];
  told = Consumes-nil left;
  counted = omega arith;
  at_once = inl refl;
  past_the_end = λ _. (refl, refl);
  past_a_refusal = λ _. refl;
  to_the_end = λ reading. absurd (let never : stage.Reading ≡ stage.Ended = sym reading ∙ is_ended in cc);
  outcome = (nothing_buffered old true (ok.at_the_end is_ended), is_ended, ok.before_the_limit is_ended);
}

-- behind a refusal
pub reads_failed : (left : Option (List ℕ)) (old : ReaderParts) (refusal : RoundRefused) → IsReader old → old.stage ≡ stage.Failed → (old.taken ≡ most_input_bytes → refusal ≡ refused.InputLimit) → (old.taken < most_input_bytes → refusal ≡ refused.NoMemory) → ReadsRound old old left left (Err refusal)
reads_failed left old refusal ok failed limit memory = record {
  read = [];
  told = Consumes-nil left;
  counted = omega arith;
  at_once = inl refl;
  past_the_end = λ is_ended. absurd (let never : stage.Failed ≡ stage.Ended = sym failed ∙ is_ended in cc);
  past_a_refusal = λ _. refl;
  to_the_end = λ reading. absurd (let never : stage.Failed ≡ stage.Reading = sym failed ∙ reading in cc);
  outcome = by (cases_lt old.taken most_input_bytes);
} where
  by : (old.taken < most_input_bytes) ⊎ (most_input_bytes ≤ old.taken) → Outcome old [] (Err refusal) old
  by (inl below) = subst (λ e. Outcome old [] (Err e) old) (sym (memory below)) (failed, below)
  by (inr reached) =
      let at : old.taken ≡ most_input_bytes = omega (arith, ok.within) in
      subst (λ e. Outcome old [] (Err e) old) (sym (limit at)) (nothing_buffered old false (ok.at_the_limit at), failed, at)
