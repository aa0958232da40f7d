-- The order of a shard's entries.
use Rattle.std.specs.Prelude.{ℕ, ◌≤◌, List, [], ◌∷◌}
use Rattle.ds_log.specs.declared.Entry.{Entry}

-- no entry is of an earlier commit than the one before it, nor the first than this one
abbrev pub Rises : ℕ → List Entry → Type 0
Rises n [] = Unit {0}
Rises n (e ∷ es) = (n ≤ e.commit) × Rises e.commit es
