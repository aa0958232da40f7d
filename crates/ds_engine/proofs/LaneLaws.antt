-- What the shards gave, one by one.
use Rattle.std.proofs.Common.{◌≡◌, ℕ, zero, suc, ◌+◌, ◌<◌, ◌≤◌, List, [], ◌∷◌, length, drop, get_or, refl, subst, arith}
use Rattle.std.proofs.Common.{Option}
use Rattle.ds_query.specs.declared.branch.Normal.{Normal}
use Rattle.ds_query.specs.declared.branch.Window.{Window}
use Rattle.ds_query.specs.declared.row.Row.{Row}
use Rattle.ds_engine.specs.Lanes.{AreLanes, IsLaneOf}
use Rattle.ds_engine.specs.Snapshots.{SnapshotParts}

module _ (n : Normal) (w : Window) where
  -- what holds at each place holds of all
  pub as_lanes : (snapshots : List SnapshotParts) (lanes : List (Option (List Row))) → length lanes ≡ length snapshots
      → ((k : ℕ) (s : SnapshotParts) (l : Option (List Row)) → k < length snapshots
      → IsLaneOf n w (get_or snapshots k s) (get_or lanes k l))
      → AreLanes n w snapshots lanes
  as_lanes [] [] many each = tt
  as_lanes [] (l ∷ lanes) many each = absurd (omega (arith, many))
  as_lanes (s ∷ snapshots) [] many each = absurd (omega (arith, many))
  as_lanes (s ∷ snapshots) (l ∷ lanes) many each = (
    each 0 s l (omega arith),
    as_lanes snapshots lanes (omega (arith, many)) (λ k x y below. each (suc k) x y (omega (arith, below))),
  )

  -- a lane that is left, and its shard
  pub record IsNext (snapshots : List SnapshotParts) (i : ℕ) (lane : Option (List Row)) (lanes : List (Option (List Row))) : Type 0 where
    pub shard : SnapshotParts
    pub below : i < length snapshots
    pub is : shard ≡ get_or snapshots i shard
    pub own : IsLaneOf n w shard lane
    pub rest : AreLanes n w (drop (i + 1) snapshots) lanes

  next : (snapshots : List SnapshotParts) (i : ℕ) (lane : Option (List Row)) (lanes : List (Option (List Row)))
      → AreLanes n w (drop i snapshots) (lane ∷ lanes)
      → (s : SnapshotParts) × (i < length snapshots) × (s ≡ get_or snapshots i s) × IsLaneOf n w s lane
      × AreLanes n w (drop (suc i) snapshots) lanes
  next [] zero lane lanes are = absurd are
  next [] (suc i) lane lanes are = absurd are
  next (s ∷ snapshots) zero lane lanes are = (s, omega arith, refl, are.0, are.1)
  next (s ∷ snapshots) (suc i) lane lanes are =
      let later = next snapshots i lane lanes are in
      (later.0, (let below = later.1 in omega (arith, below)), later.2, later.3, later.4)

  pub next_lane : (snapshots : List SnapshotParts) (i : ℕ) (lane : Option (List Row)) (lanes : List (Option (List Row)))
      → AreLanes n w (drop i snapshots) (lane ∷ lanes) → IsNext snapshots i lane lanes
  next_lane snapshots i lane lanes are =
      let found = next snapshots i lane lanes are in
      let more : suc i ≡ i + 1 = omega arith in
      record {
        shard = found.0;
        below = found.1;
        is = found.2;
        own = found.3;
        rest = subst (λ k. AreLanes n w (drop k snapshots) lanes) more found.4;
      }

  -- where no lane is left, no shard is
  pub none_left : (snapshots : List SnapshotParts) (i : ℕ) → AreLanes n w (drop i snapshots) [] → length snapshots ≤ i
  none_left [] i are = omega arith
  none_left (s ∷ snapshots) zero are = absurd are
  none_left (s ∷ snapshots) (suc i) are = let rest = none_left snapshots i are in omega (arith, rest)
