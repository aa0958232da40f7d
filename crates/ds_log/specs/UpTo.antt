-- Which entries of a shard are of the first commits: their numbers, in journal order, never fall.
use Rattle.std.specs.Prelude.{ℕ, List, map, filter, fold, length, nat_le}
use Rattle.ds_log.specs.declared.Entry.{Entry}

-- the commits of entries, in their order; a commit that writes several groups stands as many times
abbrev pub commits_of : List Entry → List ℕ
commits_of = map (λ e. e.commit)

-- how many of the numbers are no greater than a place
abbrev pub count_up_to : ℕ → List ℕ → ℕ
count_up_to place commits = length (filter (λ c. nat_le c place) commits)

-- the last number; 0 where there is none
abbrev pub last_number : List ℕ → ℕ
last_number = fold (λ m c. c) 0
