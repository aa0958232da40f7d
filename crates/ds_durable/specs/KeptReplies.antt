-- Which replies the end of a run leaves on its disk.
use Rattle.std.specs.Prelude.{◌≡◌, ℕ, ◌<◌, ◌≤◌, List, ◌++◌, length, take, flat_map, All}
use Rattle.ds_reply.specs.declared.reply.Reply.{Reply}
use Rattle.ds_reply.specs.Replies.{replies_text}
use Rattle.ds_rounds.specs.Rounds.{NumberedLine}
use Rattle.ds_model.specs.Asked.{Reading}
use Rattle.ds_model.specs.Legal.{acknowledged, drawn_in, answered_lines}
use Rattle.ds_kept_file.specs.Files.{Kept, StandsFor}

-- these replies' bytes are among the first ones that were taken
abbrev pub AreSent : List Reply → List ℕ → Type 0
AreSent sent taken = (rest : List ℕ) × (taken ≡ replies_text sent ++ rest)

-- The image holds each commit that one of these replies acknowledges, and a counter above each id that one tells as drawn.
pub record HoldsReplies (reading : Reading) (rounds : List (List NumberedLine)) (sent : List Reply) (image : List ℕ) : Type 0 where
  pub found : Kept
  pub stands : StandsFor found image
  pub commits : All (λ commit. commit ≤ length found.journal) (flat_map acknowledged sent)
  pub ids : All (λ id. id < found.next) (drawn_in reading (answered_lines reading rounds) sent)

-- all replies whose bytes were taken are on the disk, whatever a crash leaves
abbrev pub AllAreKept : Reading → List (List NumberedLine) → List Reply → List ℕ → (List ℕ → Type 0) → Type 0
AllAreKept reading rounds replies taken images =
    (n : ℕ) → AreSent (take n replies) taken → (image : List ℕ) → images image → HoldsReplies reading rounds (take n replies) image
