-- The lines of replies, and what a line tells as JSON.
use Rattle.std.specs.Prelude.{◌≡◌, ℕ, List, [], ◌∷◌, ◌++◌, ◌==◌, Bool, Option, Some, None, cond, option_map, option_and_then, flat_map, All}
use Rattle.ds_rounds.specs.Drafts.{IsUnbroken}
use Rattle.serde_json.specs.Data.{Data, Items, no_items, item}
use Rattle.serde_json.specs.Find.{as_array, as_bool, as_number, as_u64, at, get}
use Rattle.ds_reply.specs.declared.reply.Body.{Body}
use Rattle.ds_reply.specs.declared.reply.Reply.{Reply}
use Rattle.serde_json.specs.View.{view}
use Rattle.serde_json.specs.Written.{compact_text}
use Rattle.ds_reply.specs.Replies.{reply_data, reply_text}
use Rattle.ds_reply_lines.specs.declared.members.Members.{Members}

-- ---- lines

-- a byte in front of the first of several lines; where there is none, the byte stands behind the last newline
abbrev pub in_front : ℕ → List (List ℕ) → Option (List (List ℕ))
in_front b [] = None
in_front b (line ∷ lines) = Some ((b ∷ line) ∷ lines)

-- the lines of a text without their newlines; none where something stands behind the last newline
abbrev pub whole_lines : List ℕ → Option (List (List ℕ))
whole_lines [] = Some []
whole_lines (b ∷ bytes) =
    cond (b == 10) (option_map (λ lines. [] ∷ lines) (whole_lines bytes)) (option_and_then (in_front b) (whole_lines bytes))

-- these lines, each with its newline
abbrev pub ended_lines : List (List ℕ) → List ℕ
ended_lines = flat_map (λ line. line ++ 10 ∷ [])

-- a text is of these whole lines
pub record IsWhole (text : List ℕ) (lines : List (List ℕ)) : Type 0 where
  pub unbroken : All IsUnbroken lines
  pub text_is : text ≡ ended_lines lines

-- a reply's line without its newline
abbrev pub reply_line : Reply → List ℕ
reply_line r = compact_text (reply_data r)

-- the line, with its newline, is the text of the reply to this client's line that has this body
abbrev pub IsSaid : ℕ → ℕ → List ℕ → Body → Type 0
IsSaid client number line said = reply_text (record { client = client; line = number; body = said }) ≡ line ++ 10 ∷ []

-- ---- members

-- the JSON that was read of a line
abbrev pub told_by : Members → Data
told_by m = view m.value

-- the natural number in a member
abbrev pub number_at : List ℕ → Data → Option ℕ
number_at name d = option_and_then as_u64 (option_and_then as_number (get name d))

-- the truth value in a member
abbrev pub flag_at : List ℕ → Data → Option Bool
flag_at name d = option_and_then as_bool (get name d)

-- natural numbers; none where one of the items is none
abbrev pub naturals : Items → Option (List ℕ)
naturals no_items = Some []
naturals (item d ds) =
    option_and_then (λ n. option_map (λ ns. n ∷ ns) (naturals ds)) (option_and_then as_u64 (as_number d))

-- the natural numbers in a member
abbrev pub numbers_at : List ℕ → Data → Option (List ℕ)
numbers_at name d = option_and_then naturals (option_and_then as_array (get name d))

-- the last of items
abbrev pub last_item : Items → Option Data
last_item no_items = None
last_item (item d no_items) = Some d
last_item (item d (item e ds)) = last_item (item e ds)

-- the id in which the key in a member ends
abbrev pub last_id_at : List ℕ → Data → Option ℕ
last_id_at name d =
    option_and_then as_u64 (option_and_then as_number (option_and_then (at 1)
    (option_and_then last_item (option_and_then as_array (get name d)))))
