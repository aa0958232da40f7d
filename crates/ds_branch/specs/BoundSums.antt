-- The bounds of several answers, added up: of one branch over the shards that it is asked at, and of several branches over them. Each
-- answer is within its own bound (`answer`), so all of them together are within the sum.
use Rattle.std.specs.Prelude.{◌≡◌, ℕ, ◌+◌, List, [], ◌∷◌, ◌++◌, Option, sum_by}
use Rattle.ds_query.specs.declared.branch.Branch.{Branch}
use Rattle.ds_query.specs.declared.row.Place.{Place}
use Rattle.ds_rows.specs.Versions.{Version}
use Rattle.ds_model.specs.Bounds.{bound}

-- tables that are asked: the stamp at which they are read, and the versions that they keep
pub record Asked : Type 0 where
  pub stamp : ℕ
  pub versions : List Version

-- the most steps of an answer there
abbrev pub bound_at : Branch → Option Place → Option Place → Option ℕ → Asked → ℕ
bound_at q start end most shard = bound q start end most shard.stamp shard.versions

-- the most steps of the answers of one branch over all these shards
abbrev pub bound_over : Option Place → Option Place → Option ℕ → List Asked → Branch → ℕ
bound_over start end most shards q = sum_by (bound_at q start end most) shards

-- the most steps of the answers of all these branches over all these shards
abbrev pub bound_of_all : Option Place → Option Place → Option ℕ → List Asked → List Branch → ℕ
bound_of_all start end most shards = sum_by (bound_over start end most shards)

-- the same, shard by shard
abbrev pub bound_by_shards : Option Place → Option Place → Option ℕ → List Branch → List Asked → ℕ
bound_by_shards start end most branches = sum_by (λ shard. sum_by (λ q. bound_at q start end most shard) branches)

-- A shard or a branch more adds its own bounds, and the sum is the same in either order.
pub record BoundsAddUp (start end : Option Place) (most : Option ℕ) : Type 0 where
  pub one_shard_more : (shards : List Asked) (shard : Asked) (q : Branch)
      → bound_over start end most (shards ++ shard ∷ []) q ≡ bound_over start end most shards q + bound_at q start end most shard
  pub one_branch_more : (shards : List Asked) (branches : List Branch) (q : Branch)
      → bound_of_all start end most shards (branches ++ q ∷ [])
      ≡ bound_of_all start end most shards branches + bound_over start end most shards q
  pub either_order : (shards : List Asked) (branches : List Branch)
      → bound_of_all start end most shards branches ≡ bound_by_shards start end most branches shards
