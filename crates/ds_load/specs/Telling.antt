-- What a reply's line tells of a load.
use Rattle.std.specs.Prelude.{◌≡◌, ℕ, ◌+◌, ◌-◌, List, [], ◌∷◌, ◌++◌, Option, Some, true, nat_eq, codes, length}
use Rattle.std.specs.Prelude.{option_and_then, option_map, slice_get}
use Rattle.std.specs.List.{starts_with}
use Rattle.serde_json.specs.Data.{Data, array, Items, no_items, item}
use Rattle.serde_json.specs.Find.{as_array, as_number, as_u64, get}
use Rattle.serde_json.specs.Written.{compact_text}
use Rattle.ds_indexdef.specs.declared.IndexDef.{IndexDef}
use Rattle.ds_log.specs.declared.Commit.{Commit}
use Rattle.ds_reply.specs.declared.reply.Reply.{Reply}
use Rattle.ds_reply.specs.Results.{count_items}
use Rattle.ds_reply.specs.Replies.{replies_text}
use Rattle.ds_reply_lines.specs.ReplyLines.{last_item, whole_lines}
use Rattle.ds_request.specs.Requests.{line_data}
use Rattle.ds_rounds.specs.Rounds.{rounds_of_input}
use Rattle.ds_model.specs.Legal.{Legal}
use Rattle.ds_load.specs.declared.reading.Counts.{Counts}
use Rattle.ds_load.specs.declared.reading.Summary.{Summary}
use Rattle.ds_load.specs.Input.{load_text}
use Rattle.ds_load.specs.Matches.{last_of, matching}

abbrev pub how_many : Items → ℕ
how_many no_items = 0
how_many (item d ds) = how_many ds + 1

-- the number of an item in a result
abbrev pub number_in : Data → Option ℕ
number_in d = option_and_then as_u64 (option_and_then as_number (option_and_then (get (codes "c")) (get (codes "properties") d)))

abbrev pub last_number : Items → Option ℕ
last_number items = option_and_then number_in (last_item items)

-- how many results there are, and the number in the last one
abbrev pub summary_of : Items → Summary
summary_of items = record { matches = how_many items; last = last_number items }

abbrev pub summary_in : Data → Option Summary
summary_in d = option_map summary_of (option_and_then as_array (get (codes "results") d))

-- an answer that counts so many entries, shard by shard, begins so
abbrev pub counts_text : List ℕ → List ℕ
counts_text counts = codes "{\"applied\":" ++ compact_text (array (count_items counts))

abbrev pub counts_of : Counts → List ℕ
counts_of counts = counts.first ∷ counts.second ∷ counts.third ∷ counts.fourth ∷ []

abbrev pub sum_of : List ℕ → ℕ
sum_of [] = 0
sum_of (count ∷ counts) = count + sum_of counts

-- the line is an answer that counts so many entries, all shards together
pub record CountsAll (n : ℕ) (line : List ℕ) : Type 0 where
  pub counts : List ℕ
  pub all : sum_of counts ≡ n
  pub begins : starts_with nat_eq line (counts_text counts) ≡ true

-- the last of the lines counts all of so many items, and tells this
pub record IsToldLast (n : ℕ) (lines : List (List ℕ)) (s : Summary) : Type 0 where
  pub line : List ℕ
  pub last : slice_get lines (length lines - 1) ≡ Some line
  pub counted : CountsAll n line
  pub told : (d : Data) → line_data line ≡ Some d → summary_in d ≡ Some s

-- the settle, whose reply is the last but one, was answered: that begins with what was applied, and a refusal with the client
pub record IsSettled (lines : List (List ℕ)) : Type 0 where
  pub line : List ℕ
  pub last_but_one : slice_get lines (length lines - 2) ≡ Some line
  pub begins : starts_with nat_eq line (codes "{\"applied\":") ≡ true

-- so it is in the text of the replies
pub record IsSettledText (text : List ℕ) : Type 0 where
  pub lines : List (List ℕ)
  pub whole : whole_lines text ≡ Some lines
  pub settled : IsSettled lines

-- what is told of so many items is how many match, and which is the last that does
pub record IsSummary (n : ℕ) (s : Summary) : Type 0 where
  pub matches : s.matches ≡ length (matching n)
  pub last : s.last ≡ last_of (matching n)

-- so it is in whatever legal run over the load with four shards whose replies have this text
abbrev pub IsOfRuns : ℕ → List ℕ → Summary → Type 0
IsOfRuns n text s =
    (definitions : List IndexDef) (window : Option ℕ) (journal : List Commit) (replies : List Reply)
    → Legal definitions 4 window (rounds_of_input (load_text n)) journal replies → text ≡ replies_text replies → IsSummary n s
