-- Which step was taken, and what of a request was gathered by it.
use Rattle.std.specs.Prelude.{ℕ, Bool, true, false, ◌==◌, ◌||◌, is_some}
use Rattle.ds_base.specs.Keys.{KeyParts}
use Rattle.ds_model.specs.Groups.{place_in}
use Rattle.ds_model.specs.Sessions.{Session}
use Rattle.ds_effects.specs.declared.gathered.Step.{Step}
use Rattle.ds_effects.specs.declared.gathered.Step.TheVariants as steps
use Rattle.ds_effects.specs.Gathered.{GatheredParts}

-- the journal takes a commit
abbrev pub is_commit : Step → Bool
is_commit steps.Commit = true
is_commit _ = false

-- so many ids are drawn
abbrev pub is_issue : ℕ → Step → Bool
is_issue ids (steps.Issue count) = count == ids
is_issue ids _ = false

-- this shard is looked at
abbrev pub is_view : ℕ → Step → Bool
is_view shard (steps.View viewed) = viewed == shard
is_view shard _ = false

-- it is known where a group stands: the request's Touch was gathered, or the transaction has touched the group before
abbrev pub is_placed : Session → GatheredParts → KeyParts → Bool
is_placed s g group = is_some g.place || is_some (place_in s.transaction group)
