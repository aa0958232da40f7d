-- A bound for few results is at most that for all.
use Rattle.std.proofs.Common.{◌≡◌, ℕ, zero, suc, ◌+◌, ◌*◌, ◌≤◌, ◌<◌, List, [], ◌∷◌, length, map, take, get_or, refl, ap, sym, ◌∙◌}
use Rattle.std.proofs.Common.{arith}
use Rattle.std.proofs.Common.{Bool, true, false, cond, Option, Some, None}
use Rattle.std.specs.Prelude.{filter, sum_by}
use Rattle.std.proofs.lemmas.List.Sums.{sum_by-append, sum_by-cons, sum_by_more_le}
use Rattle.std.proofs.lemmas.List.{take_more}
use Rattle.std.proofs.Math.Nat.{mul-le-mul_left}
use Rattle.ds_base.specs.Least.{least_of}
use Rattle.ds_entity.specs.Entities.{EntityParts}
use Rattle.ds_bytes.specs.Rows.{RowParts}
use Rattle.ds_query.specs.declared.branch.Branch.{Branch}
use Rattle.ds_query.specs.declared.branch.Normal.{Normal}
use Rattle.ds_query.specs.declared.branch.Window.{Window}
use Rattle.ds_query.specs.declared.row.Place.{Place}
use Rattle.ds_planner.specs.Parts.{branch_of_part, parts}
use Rattle.ds_rows.specs.Versions.{entities_at}
use Rattle.ds_branch.specs.BoundSums.{Asked, BoundsAddUp, bound_at, bound_of_all, bound_over}
use Rattle.ds_pages.specs.Pages.{is_between, is_up_to}
use Rattle.ds_model.specs.Bounds.{given, least, part_rows, stop_at}
use Rattle.ds_model.specs.Rows.{place_of, rows}
use Rattle.ds_engine.specs.Searches.{search_bound}
use Rattle.ds_engine.specs.Snapshots.{SnapshotParts, asked_in}

least-le : {X : Type 0} (f h : X → ℕ) (xs : List X) → ((x : X) → f x ≤ h x) → least_of (map f xs) ≤ least_of (map h xs)
least-le f h [] less = omega arith
least-le f h (x ∷ []) less = less x
least-le f h (x ∷ y ∷ xs) less =
    let first = less x in
    let rest = least-le f h (y ∷ xs) less in
    omega (arith, first, rest)

-- of rows up to a place there are no more than of all
up_to-le : (q : Branch) (stop : Option Place) (rs : List RowParts)
    → length (filter (λ row. is_up_to stop (place_of q.columns row)) rs) ≤ length (filter (λ row. is_up_to None (place_of q.columns row))
    rs)
up_to-le q stop [] = omega arith
up_to-le q stop (r ∷ rs) = by (is_up_to stop (place_of q.columns r)) (up_to-le q stop rs) where
  by : (b : Bool)
      → length (filter (λ row. is_up_to stop (place_of q.columns row)) rs) ≤ length (filter (λ row. is_up_to None (place_of q.columns row))
      rs)
      → length (cond b (r ∷ filter (λ row. is_up_to stop (place_of q.columns row)) rs)
      (filter (λ row. is_up_to stop (place_of q.columns row)) rs))
      ≤ suc (length (filter (λ row. is_up_to None (place_of q.columns row)) rs))
  by true rest = omega (arith, rest)
  by false rest = omega (arith, rest)

module _ (q : Branch) (start end : Option Place) where
  fewest : (most : Option ℕ) (es : List EntityParts) → least q start end most es ≤ least q start end None es
  fewest None es = omega arith
  fewest (Some zero) es = omega arith
  fewest (Some (suc n)) es =
      least-le (λ part. length (part_rows q start end (stop_at q.columns (Some (suc n)) (given q start end (Some (suc n)) es)) es part))
      (λ part. length (part_rows q start end None es part)) (parts q)
      (λ part. up_to-le q (stop_at q.columns (Some (suc n)) (given q start end (Some (suc n)) es))
      (filter (is_between q.columns start end) (rows (branch_of_part q part) es)))

  pub bound-le : (most : Option ℕ) (shard : Asked) → bound_at q start end most shard ≤ bound_at q start end None shard
  bound-le most shard =
      let fewer = fewest most (entities_at shard.stamp shard.versions) in
      let all : 2 * least q start end most (entities_at shard.stamp shard.versions) + 2
      ≤ 2 * least q start end None (entities_at shard.stamp shard.versions) + 2 = omega (arith, fewer) in
      let times = mul-le-mul_left (length (parts q)) all in
      omega (arith, times)

-- sums of numbers, none above the other's
pub sum-le : {X : Type 0} (f h : X → ℕ) (xs : List X) → ((x : X) → f x ≤ h x) → sum_by f xs ≤ sum_by h xs
sum-le f h [] less = omega arith
sum-le f h (x ∷ xs) less =
    let one = sum_by-cons f x xs in
    let two = sum_by-cons h x xs in
    let first = less x in
    let rest = sum-le f h xs less in
    omega (arith, one, two, first, rest)

-- and of all branches over all shards
pub search-le : (n : Normal) (w : Window) (most : Option ℕ) (snapshots : List SnapshotParts)
    → search_bound n w most snapshots ≤ search_bound n w None snapshots
search-le n w most snapshots =
    sum-le (bound_over w.start w.end most (map asked_in snapshots)) (bound_over w.start w.end None (map asked_in snapshots)) n.branches
    (λ q. sum-le (bound_at q w.start w.end most) (bound_at q w.start w.end None) (map asked_in snapshots) (bound-le q w.start w.end most))

-- Steps that were within the bound of the scans, each given row having taken one, and then a look-up for some of these rows.
pub doubled : (n : Normal) (w : Window) (most : Option ℕ) (snapshots : List SnapshotParts) (start scanned rows new : ℕ)
    → scanned ≤ start + search_bound n w most snapshots → start + rows ≤ scanned → new ≤ scanned + rows
    → new ≤ start + 2 * search_bound n w None snapshots
doubled n w most snapshots start scanned rows new within each looked =
    let fewer = search-le n w most snapshots in
    omega (arith, within, each, looked, fewer)

-- and where nothing was looked up
pub once : (start new bound : ℕ) → new ≤ start + bound → new ≤ start + 2 * bound
once start new bound within = omega (arith, within)

-- ---- loops whose items take steps

module _ {X : Type 0} (f : X → ℕ) (xs : List X) (i : ℕ) (x : X) (below : i < length xs) (is : x ≡ get_or xs i x) where
  sum-more : sum_by f (take (i + 1) xs) ≡ sum_by f (take i xs) + f x
  sum-more =
      ap (sum_by f) (take_more xs i x below) ∙ sum_by-append f (take i xs) (get_or xs i x ∷ [])
      ∙ (let one = sum_by-cons f (get_or xs i x) [] in let here = ap f is in omega (arith, one, here))

  -- one item more
  pub steps-more : (start now new : ℕ) → now ≤ start + sum_by f (take i xs) → new ≤ now + f x → new ≤ start + sum_by f (take (i + 1) xs)
  steps-more start now new so_far this = let more = sum-more in omega (arith, so_far, this, more)

  -- and a last one that takes more
  pub steps-last : (h : X → ℕ) → ((y : X) → h y ≤ f y) → (start now new : ℕ) → now ≤ start + sum_by h (take i xs) → new ≤ now + f x
      → new ≤ start + sum_by f xs
  steps-last h less start now new so_far this =
      let fewer = sum-le h f (take i xs) less in
      let within = sum_by_more_le f xs i x below in
      let here = ap f is in
      omega (arith, so_far, this, fewer, within, here)

-- ---- all branches over all shards

pub sums-map : {A B : Type 0} (f : B → ℕ) (h : A → B) (xs : List A) → sum_by f (map h xs) ≡ sum_by (λ x. f (h x)) xs
sums-map f h [] = refl
sums-map f h (x ∷ xs) =
    let one = sum_by-cons f (h x) (map h xs) in
    let two = sum_by-cons (λ y. f (h y)) x xs in
    let rest = sums-map f h xs in
    omega (arith, one, two, rest)

-- shard by shard the bounds add up to those of all branches over all shards
pub sums-of-all : {A : Type 0} (h : A → Asked) (start end : Option Place) (most : Option ℕ) (branches : List Branch) (xs : List A)
    → BoundsAddUp start end most
    → sum_by (λ x. sum_by (λ q. bound_at q start end most (h x)) branches) xs ≡ bound_of_all start end most (map h xs) branches
sums-of-all h start end most branches xs law =
    sym (sums-map (λ shard. sum_by (λ q. bound_at q start end most shard) branches) h xs)
    ∙ sym (law.either_order (map h xs) branches)
