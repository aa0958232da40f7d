-- What a table at a stamp shows of rows of versions: their rows in order, and as few passed as aren't seen.
use Rattle.std.proofs.Common.{◌≡◌, ℕ, ◌+◌, ◌<◌, ◌≤◌, Bool, true, false, cond, List, [], ◌∷◌, ◌++◌, map, Option, Some, None, refl, sym, ap}
use Rattle.std.proofs.Common.{◌∙◌, subst, arith}
use Rattle.std.specs.Prelude.{◌&&◌, not, nat_le, All, filter, find, flat_map}
use Rattle.std.specs.List.{AllByRecursion, IsDistinct}
use Rattle.std.specs.List.Sorted.{IsStrictlySortedBy}
use Rattle.std.specs.Cmp.Lexicographic.{nat_list_cmp_total}
use Rattle.std.proofs.lemmas.Bool.Decides.{nat_tests}
use Rattle.std.proofs.lemmas.List.{map-append}
use Rattle.std.proofs.lemmas.List.Folds.{flat_map-map}
use Rattle.std.proofs.lemmas.List.Elements.{All-nil, All-cons}
use Rattle.ds_base.specs.KeyOrder.{bytes_cmp, same_key}
use Rattle.ds_base.specs.KeyOrderLaws.{bytes_cmp-same}
use Rattle.ds_entity.specs.Entities.{EntityParts}
use Rattle.ds_base.specs.Sorting.{sorted_by}
use Rattle.ds_indexdef.specs.declared.IndexDef.{IndexDef}
use Rattle.ds_rows.specs.Rows.{rows_of}
use Rattle.ds_rows.specs.Versions.{Version, is_before, is_seen, entities_at, seen_rows, unseen_rows, is_from, is_below, is_up_to, first_row}
use Rattle.ds_rows.specs.Versions.{rows_passed}
use Rattle.ds_table.specs.Versions as table
use Rattle.ds_table.specs.Blocks as blocks
use Rattle.ds_table.specs.Seen.{Seen}
use Rattle.ds_shard.specs.Histories.{EndsBy, Precedes}
use Rattle.std.specs.List.{AllByRecursion as Each}
use Rattle.ds_shard.specs.Rows.{row_of, rows_of_version, rows_of_versions}
use Rattle.ds_shard.specs.Contents.{counted, HaveSame, PrecedesOwn, AreHistories}
use Rattle.ds_shard.specs.Shards.{ShardParts}
use Rattle.ds_shard.proofs.Counting.{counted_by, same-map, same-filter}
use Rattle.ds_shard.proofs.Ordered.{in_order}
use Rattle.ds_shard.proofs.Trimming.{ends_alike, filter_versions}

-- ---- rows

rows_itself : (v : Version) (rows : List (List ℕ)) → map (λ (w : table.RowVersion). w.row) (map (row_of v) rows) ≡ rows
rows_itself v [] = refl
rows_itself v (x ∷ rows) = ap (λ xs. x ∷ xs) (rows_itself v rows)

rows_only : (defs : List IndexDef) (vs : List Version)
    → map (λ (w : table.RowVersion). w.row) (rows_of_versions defs vs) ≡ flat_map (λ (v : Version). rows_of defs v.entity) vs
rows_only defs [] = refl
rows_only defs (v ∷ vs) =
    map-append (λ (w : table.RowVersion). w.row) (rows_of_version defs v) (rows_of_versions defs vs)
    ∙ (λ t. rows_itself v (rows_of defs v.entity) t ++ rows_only defs vs t)

seen_alike : (stamp : ℕ) → stamp < table.never → (v : Version) (x : List ℕ) → table.is_seen stamp (row_of v x) ≡ is_seen stamp v
seen_alike stamp h v x = ap (λ b. nat_le v.from stamp && b) (ends_alike stamp h v.until)

module _ (defs : List IndexDef) (stamp : ℕ) (h : stamp < table.never) (ts : List table.RowVersion) (vs : List Version)
    (same : HaveSame ts (rows_of_versions defs vs)) where
  seen_have_same : HaveSame (table.seen_rows stamp ts) (seen_rows defs stamp vs)
  seen_have_same =
      subst (HaveSame (table.seen_rows stamp ts))
      (ap (map (λ (w : table.RowVersion). w.row)) (filter_versions defs (table.is_seen stamp) (is_seen stamp) (seen_alike stamp h) vs)
      ∙ rows_only defs (filter (is_seen stamp) vs)
      ∙ sym (flat_map-map (rows_of defs) (λ (v : Version). v.entity) (filter (is_seen stamp) vs)))
      (same-map (filter (table.is_seen stamp) ts) (filter (table.is_seen stamp) (rows_of_versions defs vs))
      (same-filter ts (rows_of_versions defs vs) same (table.is_seen stamp)) (λ (w : table.RowVersion). w.row))

  unseen_have_same : HaveSame (table.unseen_rows stamp ts) (unseen_rows defs stamp vs)
  unseen_have_same =
      subst (HaveSame (table.unseen_rows stamp ts))
      (ap (map (λ (w : table.RowVersion). w.row))
      (filter_versions defs (λ w. not (table.is_seen stamp w)) (λ v. not (is_seen stamp v)) (λ v x. ap not (seen_alike stamp h v x)) vs)
      ∙ rows_only defs (filter (λ v. not (is_seen stamp v)) vs))
      (same-map (filter (λ w. not (table.is_seen stamp w)) ts) (filter (λ w. not (table.is_seen stamp w)) (rows_of_versions defs vs))
      (same-filter ts (rows_of_versions defs vs) same (λ w. not (table.is_seen stamp w))) (λ (w : table.RowVersion). w.row))

  -- the rows that the table shows are those of the entities, in order
  shown_rows : IsStrictlySortedBy bytes_cmp (table.seen_rows stamp ts) → table.seen_rows stamp ts ≡ sorted_by bytes_cmp (seen_rows defs stamp vs)
  shown_rows up = in_order nat_list_cmp_total bytes_cmp-same (seen_rows defs stamp vs) (table.seen_rows stamp ts) up seen_have_same

  within_range : (a : List ℕ) (b : Option (List ℕ)) (x : List ℕ) → table.in_range a b x ≡ (is_from a x && is_below b x)
  within_range a None x = refl
  within_range a (Some end) x = refl

  pub finds : (a : List ℕ) (b : Option (List ℕ)) → IsStrictlySortedBy bytes_cmp (table.seen_rows stamp ts)
      → find (table.in_range a b) (table.seen_rows stamp ts) ≡ first_row a b (seen_rows defs stamp vs)
  finds a b up =
      ap (find (table.in_range a b)) (shown_rows up) ∙ (λ t. find (λ x. within_range a b x t) (sorted_by bytes_cmp (seen_rows defs stamp vs)))

  -- ---- steps

  -- the row is of the range, and isn't above the one found
  abbrev up_to : List ℕ → Option (List ℕ) → Option (List ℕ) → List ℕ → Bool
  up_to a b found x = (is_from a x && is_below b x) && is_up_to found x

  not_above : (q : List ℕ → Bool) (v : table.RowVersion) (ws : List table.RowVersion) → Each (blocks.Precedes v) ws
      → is_up_to (find q (table.seen_rows stamp ws)) v.row ≡ true
  not_above q v [] o = refl
  not_above q v (w ∷ ws) o = by (table.is_seen stamp w) (not_above q v ws o.1) where
    here : (b : Bool) → is_up_to (find q (table.seen_rows stamp ws)) v.row ≡ true
        → is_up_to (cond b (Some w.row) (find q (table.seen_rows stamp ws))) v.row ≡ true
    here true i = ap not o.0.not_above
    here false i = i

    by : (b : Bool) → is_up_to (find q (table.seen_rows stamp ws)) v.row ≡ true
        → is_up_to (find q (map (λ (u : table.RowVersion). u.row) (cond b (w ∷ filter (table.is_seen stamp) ws) (filter (table.is_seen stamp) ws)))) v.row ≡ true
    by true i = here (q w.row) i
    by false i = i

  passed : (a : List ℕ) (b : Option (List ℕ)) (ws : List table.RowVersion) → blocks.IsOrdered ws
      → table.unseen_before stamp (table.versions_within a b ws)
      ≤ counted (up_to a b (find (table.in_range a b) (table.seen_rows stamp ws))) (table.unseen_rows stamp ws)
  passed a b [] o = omega arith
  passed a b (w ∷ ws) o = by (table.is_seen stamp w) refl (table.in_range a b w.row) refl (passed a b ws o.1) where
    by : (s : Bool) → table.is_seen stamp w ≡ s → (r : Bool) → table.in_range a b w.row ≡ r
        → table.unseen_before stamp (table.versions_within a b ws)
        ≤ counted (up_to a b (find (table.in_range a b) (table.seen_rows stamp ws))) (table.unseen_rows stamp ws)
        → table.unseen_before stamp (table.versions_within a b (w ∷ ws))
        ≤ counted (up_to a b (find (table.in_range a b) (table.seen_rows stamp (w ∷ ws)))) (table.unseen_rows stamp (w ∷ ws))
    by true e true f i = rw (f, e) (omega arith)
    by true e false f i = rw (f, e, f) i
    by false e true f i =
        let low = not_above (table.in_range a b) w ws o.0 in
        let in_it : (is_from a w.row && is_below b w.row) ≡ true = sym (within_range a b w.row) ∙ f in
        rw (f, e, in_it, low) (omega (arith, i))
    by false e false f i = rw (f, e) (omega (arith, i))

  -- a seek passes as many versions at most as rows aren't seen
  pub steps_within : (a : List ℕ) (b : Option (List ℕ)) → blocks.IsOrdered ts
      → table.unseen_before stamp (table.versions_within a b ts)
      ≤ rows_passed a b (find (table.in_range a b) (table.seen_rows stamp ts)) (unseen_rows defs stamp vs)
  steps_within a b o =
      let test = up_to a b (find (table.in_range a b) (table.seen_rows stamp ts)) in
      let first = passed a b ts o in
      let second = unseen_have_same test in
      let third = counted_by test (unseen_rows defs stamp vs) in
      subst (λ n. table.unseen_before stamp (table.versions_within a b ts) ≤ n) (second ∙ third) first

-- ---- what tables stand for

pub all_each : {X : Type 0} (P : X → Type 0) (xs : List X) → Each P xs → All P xs
all_each P [] h = All-nil P
all_each P (x ∷ xs) h = All-cons P x xs h.0 (all_each P xs h.1)

true_not_false : true ≡ false → ⊥
true_not_false e = cc

pub both : (a b : Bool) → (a && b) ≡ true → (a ≡ true) × (b ≡ true)
both true b h = (refl, h)
both false b h = cc

pub le_of : (m n : ℕ) → nat_le m n ≡ true → m ≤ n
le_of m n e = grind (arith, nat_tests)

not_ended : (u : Option ℕ) (from stamp : ℕ) → EndsBy from u → from ≤ stamp → is_before u stamp ≡ true → ⊥
not_ended None from stamp ends h e = ends
not_ended (Some u) from stamp ends h e = let l : stamp < u = grind (arith, nat_tests) in omega (arith, ends, h, l)

-- at a stamp there is one version of each key
none_too : (stamp : ℕ) (v : Version) → is_seen stamp v ≡ true → (ws : List Version) → Each (PrecedesOwn v) ws
    → AllByRecursion (λ k. same_key v.entity.key k ≡ false) (map (λ (e : EntityParts). e.key) (entities_at stamp ws))
none_too stamp v s [] h = tt
none_too stamp v s (w ∷ ws) h = by (is_seen stamp w) refl (none_too stamp v s ws h.1) where
  other : is_seen stamp w ≡ true → (b : Bool) → same_key v.entity.key w.entity.key ≡ b → same_key v.entity.key w.entity.key ≡ false
  other e false k = k
  other e true k =
      let p : Precedes v w = h.0 k in
      absurd (not_ended v.until w.from stamp p.ends (le_of w.from stamp (both (nat_le w.from stamp) (is_before w.until stamp) e).0)
      (both (nat_le v.from stamp) (is_before v.until stamp) s).1)

  by : (b : Bool) → is_seen stamp w ≡ b → AllByRecursion (λ k. same_key v.entity.key k ≡ false) (map (λ (e : EntityParts). e.key) (entities_at stamp ws))
      → AllByRecursion (λ k. same_key v.entity.key k ≡ false) (map (λ (e : EntityParts). e.key) (entities_at stamp (w ∷ ws)))
  by true e i = rw e (other e (same_key v.entity.key w.entity.key) refl, i)
  by false e i = rw e i

pub one_each : (stamp : ℕ) (vs : List Version) → AreHistories vs → IsDistinct same_key (map (λ (e : EntityParts). e.key) (entities_at stamp vs))
unfolding IsDistinct
one_each stamp [] h = tt
one_each stamp (v ∷ vs) h = by (is_seen stamp v) refl (one_each stamp vs h.1) where
  by : (b : Bool) → is_seen stamp v ≡ b → IsDistinct same_key (map (λ (e : EntityParts). e.key) (entities_at stamp vs))
      → IsDistinct same_key (map (λ (e : EntityParts). e.key) (entities_at stamp (v ∷ vs)))
  by true e i = rw e (none_too stamp v e vs h.0, i)
  by false e i = rw e i

-- ---- a seek of a shard

module _ (s : ShardParts) (stamp : ℕ) (w : Seen) (now : w.stamp ≡ stamp) (h : stamp < table.never)
    (same : HaveSame w.versions (rows_of_versions s.definitions s.versions)) (a : List ℕ) (b : Option (List ℕ)) (found : Option (List ℕ))
    (is : found ≡ find (table.in_range a b) (table.seen_rows w.stamp w.versions)) where
  found_now : found ≡ find (table.in_range a b) (table.seen_rows stamp w.versions)
  found_now = is ∙ ap (λ n. find (table.in_range a b) (table.seen_rows n w.versions)) now

  pub sought_first : IsStrictlySortedBy bytes_cmp (table.seen_rows w.stamp w.versions) → found ≡ first_row a b (seen_rows s.definitions stamp s.versions)
  sought_first up =
      found_now
      ∙ finds s.definitions stamp h w.versions s.versions same a b
      (subst (λ n. IsStrictlySortedBy bytes_cmp (table.seen_rows n w.versions)) now up)

  pub sought_steps : blocks.IsOrdered w.versions → (old new : ℕ)
      → new ≡ old + 1 + table.unseen_before w.stamp (table.versions_within a b w.versions)
      → new ≤ old + 1 + rows_passed a b found (unseen_rows s.definitions stamp s.versions)
  sought_steps o old new steps =
      let one = steps_within s.definitions stamp h w.versions s.versions same a b o in
      let two = ap (λ n. table.unseen_before n (table.versions_within a b w.versions)) now in
      let three = ap (λ f. rows_passed a b f (unseen_rows s.definitions stamp s.versions)) found_now in
      omega (arith, steps, one, two, three)
