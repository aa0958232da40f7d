-- What one line of a journal's text is, and what is told of it.
use Rattle.std.specs.Prelude.{◌≡◌, ℕ, List, [], ◌∷◌, ◌++◌, ◌⊎◌, Option, Some, None}
use Rattle.ds_log.specs.declared.Commit.{Commit}
use Rattle.ds_rounds.specs.Drafts.{IsUnbroken}
use Rattle.ds_journal_text.specs.Texts.{IsLineOf}

-- a line, and what stands behind it; the last line may lack its newline
pub record IsFirstLine (text line behind : List ℕ) : Type 0 where
  pub whole : IsUnbroken line
  pub split : (text ≡ line ++ 10 ∷ behind) ⊎ ((text ≡ line) × (behind ≡ []))

-- the line is the text of this commit, or of none
abbrev pub LineIs : ℕ → List ℕ → Option Commit → Type 0
LineIs number line (Some c) = IsLineOf number c line
LineIs number line None = (c : Commit) → IsLineOf number c line → ⊥

-- a commit that was read of the line, where it is the line's, or none where it isn't
abbrev pub IsIfLine : ℕ → List ℕ → Commit → Option Commit → Type 0
IsIfLine number line read (Some c) = IsLineOf number c line
IsIfLine number line read None = IsLineOf number read line → ⊥
