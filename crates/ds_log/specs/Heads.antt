-- The heads of the groups' logs: the last commit that wrote each group, and how many commits the journal has.
use Rattle.std.specs.Prelude.{◌≡◌, ℕ, List, Option, length}
use Rattle.std.specs.Map.{lookup}
use Rattle.ds_base.specs.Keys.{KeyParts}
use Rattle.ds_base.specs.KeyOrder.{same_key}
use Rattle.ds_log.specs.declared.Commit.{Commit}
use Rattle.ds_log.specs.Conflicts.{last_writer}

pub record HeadsParts : Type 0 where
  -- each group that was noted, with its last commit
  pub lasts : List (KeyParts × ℕ)
  -- the journal's length
  pub commits : ℕ
  -- how many groups are noted without memory
  pub spare : ℕ

-- the last commit that was noted for the group
abbrev pub last_noted : HeadsParts → KeyParts → Option ℕ
last_noted h g = lookup (same_key g) h.lasts

-- heads that stand for a journal: they tell the last writer of each group, and the length
pub record AreHeadsOf (journal : List Commit) (h : HeadsParts) : Type 0 where
  pub lasts : (g : KeyParts) → last_noted h g ≡ last_writer journal g
  pub commits : h.commits ≡ length journal
