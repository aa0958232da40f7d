-- What the program is asked, and how it ends.
use Rattle.std.specs.Prelude.{◌≡◌, ℕ, List, [], ◌∷◌, Option, None, codes}
use Rattle.ds_indexdef.specs.declared.IndexDef.{IndexDef}
use Rattle.ds_io.specs.Faults.{next_count}
use Rattle.ds_load.specs.Input.{load_text}
use Rattle.ds_log.specs.declared.Commit.{Commit}
use Rattle.ds_model.specs.Legal.{Legal}
use Rattle.ds_reply.specs.declared.reply.Reply.{Reply}
use Rattle.ds_reply.specs.Replies.{replies_text}
use Rattle.ds_rounds.specs.Rounds.{rounds_of_input}
use Rattle.ds_words.specs.Form.{number_of}
use Rattle.ds_fill.specs.declared.fill.FillStatus.{FillStatus}
use Rattle.ds_fill.specs.declared.fill.FillStatus.TheVariants as status

-- how many items: one word of one to six decimal digits, within 1 to 100,000
abbrev pub items_asked : List (List ℕ) → Option ℕ
items_asked (word ∷ []) = number_of 6 1 100000 word
items_asked _ = None

-- a sink's count of faults after a run: one more exactly where a write failed
abbrev pub write_faults : FillStatus → ℕ → ℕ
write_faults status.WriteFault faults = next_count faults
write_faults _ faults = faults

abbrev pub exit_of : FillStatus → ℕ
exit_of status.Done = 0
exit_of status.Usage = 1
exit_of status.WriteFault = 4
exit_of status.NoMemory = 6

-- the words for the server
abbrev pub server_words : List (List ℕ)
server_words =
    codes "--indexes" ∷ codes "index.yaml" ∷ codes "--shards" ∷ codes "4" ∷ codes "--appliers" ∷ codes "2" ∷ []

-- the text is that of the replies of some legal run over the load with four shards
pub record AreReplies (items : ℕ) (text : List ℕ) : Type 0 where
  pub definitions : List IndexDef
  pub window : Option ℕ
  pub journal : List Commit
  pub replies : List Reply
  pub legal : Legal definitions 4 window (rounds_of_input (load_text items)) journal replies
  pub text_is : text ≡ replies_text replies
