-- A journal as text: one line a commit, which is one JSON object in compact text with its members by name in byte order.
use Rattle.std.specs.Prelude.{◌≡◌, ℕ, ◌+◌, List, [], ◌∷◌, ◌++◌, ◌⊎◌, true, codes, ⊤}
use Rattle.serde_json.specs.Data.{Data, array, Items, no_items, item}
use Rattle.serde_json.specs.Written.{compact_text}
use Rattle.ds_log.specs.declared.Commit.{Commit}
use Rattle.ds_log.specs.declared.Touch.{Touch}
use Rattle.ds_log.specs.declared.Write.{Write}
use Rattle.ds_log.specs.declared.Write.TheVariants.{Put, Delete}
use Rattle.ds_json_printing.specs.Objects.{named, object_of}
use Rattle.ds_json_printing.specs.Printing.{natural, tagged, key_data}
use Rattle.ds_reply.specs.EntityPrinting.{entity_data}
use Rattle.ds_rounds.specs.Lines.{lines_in}
use Rattle.ds_journal_text.specs.Lawful.{IsLawfulCommit}

-- ---- one commit

-- a touched group, and its place
abbrev pub touch_data : Touch → Data
touch_data t = array (item (key_data t.group) (item (natural t.place) no_items))

abbrev pub touch_items : List Touch → Items
touch_items [] = no_items
touch_items (t ∷ ts) = item (touch_data t) (touch_items ts)

-- an entity that is put, or a key whose entity is taken out
abbrev pub write_data : Write → Data
write_data (Put e) = tagged (codes "put") (entity_data e)
write_data (Delete k) = tagged (codes "delete") (key_data k)

abbrev pub write_items : List Write → Items
write_items [] = no_items
write_items (w ∷ ws) = item (write_data w) (write_items ws)

-- a commit with its number
abbrev pub commit_data : ℕ → Commit → Data
commit_data n c = object_of (
    named (codes "client") (natural c.client)
    ∷ named (codes "commit") (natural n)
    ∷ named (codes "touched") (array (touch_items c.touched))
    ∷ named (codes "writes") (array (write_items c.writes)) ∷ [])

abbrev pub commit_line : ℕ → Commit → List ℕ
commit_line n c = compact_text (commit_data n c)

-- the line with its newline
abbrev pub commit_text : ℕ → Commit → List ℕ
commit_text n c = commit_line n c ++ 10 ∷ []

-- ---- a journal

-- the lines of commits that are numbered from n on
abbrev pub commits_text : ℕ → List Commit → List ℕ
commits_text n [] = []
commits_text n (c ∷ cs) = commit_text n c ++ commits_text (n + 1) cs

-- commits are numbered from 1
abbrev pub journal_text : List Commit → List ℕ
journal_text = commits_text 1

-- ---- what is read

-- the line is the text of this commit with this number
abbrev pub IsLineOf : ℕ → Commit → List ℕ → Type 0
IsLineOf n c line = IsLawfulCommit c × (line ≡ commit_line n c)

-- line by line the texts of these commits, numbered from n on
abbrev pub AreLinesOf : ℕ → List (List ℕ) → List Commit → Type 0
AreLinesOf n [] [] = ⊤
AreLinesOf n (line ∷ lines) (c ∷ cs) = IsLineOf n c line × AreLinesOf (n + 1) lines cs
AreLinesOf n _ _ = ⊥

-- a text stands for this journal; its last line may lack the newline
abbrev pub IsJournalOf : List ℕ → List Commit → Type 0
IsJournalOf text journal = AreLinesOf 1 (lines_in true text) journal

-- the lines up to this one, the first of which has number n, are texts of commits with these numbers, and this one is of none
abbrev pub IsFirstWrongLine : ℕ → List (List ℕ) → ℕ → Type 0
IsFirstWrongLine n [] wrong = ⊥
IsFirstWrongLine n (line ∷ lines) wrong =
    ((wrong ≡ n) × ((c : Commit) → IsLineOf n c line → ⊥))
    ⊎ ((c : Commit) × IsLineOf n c line × IsFirstWrongLine (n + 1) lines wrong)
