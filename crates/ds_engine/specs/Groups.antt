-- What a query with an ancestor finds in the shard of its ancestor's group.
use Rattle.std.specs.Prelude.{◌≡◌, ℕ, ◌+◌, ◌≤◌, List, length, take, Option, Some}
use Rattle.ds_entity.specs.declared.results.Item.{Item}
use Rattle.ds_base.specs.Keys.{KeyParts, root_of}
use Rattle.ds_query.specs.declared.branch.Normal.{Normal}
use Rattle.ds_query.specs.declared.branch.Window.{Window}
use Rattle.ds_query.specs.declared.query.Select.{Select}
use Rattle.ds_query.specs.declared.row.Place.{Place}
use Rattle.ds_log.specs.declared.Commit.{Commit}
use Rattle.ds_log.specs.declared.Entry.{Entry}
use Rattle.ds_log.specs.Logs.{shard_list}
use Rattle.ds_log.specs.Shards.{shard_of}
use Rattle.ds_model.specs.Sessions.{last_commit}
use Rattle.ds_model.specs.Views.{strong_view}
use Rattle.ds_engine.specs.declared.group.GroupFound.{GroupFound}
use Rattle.ds_engine.specs.declared.group.GroupFound.TheVariants as group
use Rattle.ds_engine.specs.Searches.{IsResultOf, ancestor_of, look_ups}

-- What was found are the results over the strong view at a place of a journal, where the entries up to the stamp are those that the
-- commits up to the place give the shard of the ancestor's group.
abbrev pub FindsInGroup : List Entry → ℕ → Normal → Window → List Item → Option Place → Type 0
FindsInGroup entries stamp n w results next =
    (journal : List Commit) (m shards : ℕ) (ancestor : KeyParts) → 1 ≤ length ancestor.elems → ancestor_of n.branches ≡ Some ancestor
    → take stamp entries ≡ shard_list (take m journal) (shard_of (root_of ancestor) shards) shards
    → IsResultOf n w (strong_view journal m) results next

-- the window doesn't reach back to the stamp from all entries
pub record IsGone (entries : List Entry) (kept stamp applied commit : ℕ) : Type 0 where
  pub gone : stamp + kept ≤ length entries
  pub applied_is : applied ≡ length entries
  pub commit_is : commit ≡ last_commit entries

abbrev pub IsGroupFound : List Entry → ℕ → ℕ → Normal → Window → GroupFound → Type 0
IsGroupFound entries kept stamp n w (group.There found) = FindsInGroup entries stamp n w found.results found.next
IsGroupFound entries kept stamp n w (group.Gone applied commit) = IsGone entries kept stamp applied commit

-- one look-up for each entity that is given
abbrev pub look_ups_of : Select → GroupFound → ℕ
look_ups_of selected (group.There found) = look_ups selected (length found.results)
look_ups_of selected (group.Gone applied commit) = 0
