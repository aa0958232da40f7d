-- An entity that begins has its rows added.
use Rattle.std.proofs.Common.{◌≡◌, ℕ, ◌+◌, ◌<◌, Bool, true, false, cond, List, [], ◌∷◌, ◌++◌, map, Option, Some, None, refl, sym, ap, ◌∙◌}
use Rattle.std.proofs.Common.{subst, arith}
use Rattle.std.specs.Prelude.{◌||◌, ◌==◌, find, option_map, bytes_eq}
use Rattle.std.specs.List.{list_any}
use Rattle.std.specs.Ordering.{is_lt}
use Rattle.ds_base.specs.Keys.{KeyParts}
use Rattle.ds_base.specs.KeyOrder.{key_cmp, same_key}
use Rattle.ds_entity.specs.Entities.{EntityParts}
use Rattle.ds_indexdef.specs.declared.IndexDef.{IndexDef}
use Rattle.ds_rows.specs.Rows.{rows_of}
use Rattle.ds_rows.specs.Versions.{Version}
use Rattle.ds_table.specs.Versions as table
use Rattle.ds_shard.specs.Histories.{EndsBy, is_open, is_current, with_version, outlives, trimmed}
use Rattle.std.specs.List.{AllByRecursion as Each}
use Rattle.ds_shard.specs.Rows.{end_in_table, row_of, rows_of_version, rows_of_versions, all_added}
use Rattle.ds_shard.specs.Contents.{counted}
use Rattle.ds_shard.proofs.Currents.{and_false}
use Rattle.ds_shard.proofs.Kept.{open-before, current-open}
use Rattle.ds_shard.proofs.Counting.{counted-append}
use Rattle.ds_shard.proofs.RowsApart.{NotAmong, each_more, other_row, same_row, or_true}
use Rattle.ds_shard.proofs.Closing.{not_never}

-- ---- counts

counted-one : (p : table.RowVersion → Bool) (v : table.RowVersion) (vs : List table.RowVersion)
    → counted p (table.with_version v vs) ≡ cond (p v) 1 0 + counted p vs
counted-one p v [] = refl
counted-one p v (w ∷ ws) = by (table.is_below v.row w.row) (counted-one p v ws) where
  by : (b : Bool) → counted p (table.with_version v ws) ≡ cond (p v) 1 0 + counted p ws
      → counted p (cond b (v ∷ w ∷ ws) (w ∷ table.with_version v ws)) ≡ cond (p v) 1 0 + counted p (w ∷ ws)
  by true i = refl
  by false i = omega (arith, i)

-- a new version of each row
abbrev pub new_rows : ℕ → List (List ℕ) → List table.RowVersion
new_rows stamp = map (λ x. record { row = x; from = stamp; to = table.never })

pub counted-added : (p : table.RowVersion → Bool) (stamp : ℕ) (rows : List (List ℕ)) (vs : List table.RowVersion)
    → counted p (all_added stamp vs rows) ≡ counted p (new_rows stamp rows) + counted p vs
counted-added p stamp [] vs = omega arith
counted-added p stamp (x ∷ rows) vs =
    let i = counted-added p stamp rows (table.added x stamp vs) in
    let one = counted-one p (record { row = x; from = stamp; to = table.never }) vs in
    omega (arith, i, one)

module _ (defs : List IndexDef) (floor : ℕ) (p : table.RowVersion → Bool) where
  abbrev count : List Version → ℕ
  count vs = counted p (rows_of_versions defs (trimmed floor vs))

  counted-first : (v : Version) (vs : List Version) → outlives floor v ≡ true → count (v ∷ vs) ≡ counted p (rows_of_version defs v) + count vs
  counted-first v vs e = rw e (counted-append p (rows_of_version defs v) (rows_of_versions defs (trimmed floor vs)))

  counted-rest : (w : Version) (vs vs' : List Version) (n : ℕ) → count vs' ≡ n + count vs → count (w ∷ vs') ≡ n + count (w ∷ vs)
  counted-rest w vs vs' n i = by (outlives floor w) refl where
    by : (b : Bool) → outlives floor w ≡ b → count (w ∷ vs') ≡ n + count (w ∷ vs)
    by true e =
        let first = counted-first w vs e in
        let second = counted-first w vs' e in
        omega (arith, first, second, i)
    by false e = rw e i

  pub counted-with : (v : Version) (vs : List Version) → outlives floor v ≡ true → count (with_version v vs) ≡ counted p (rows_of_version defs v) + count vs
  counted-with v [] e = counted-first v [] e
  counted-with v (w ∷ ws) e = by (is_lt (key_cmp v.entity.key w.entity.key)) (counted-with v ws e) where
    by : (b : Bool) → count (with_version v ws) ≡ counted p (rows_of_version defs v) + count ws
        → count (cond b (v ∷ w ∷ ws) (w ∷ with_version v ws)) ≡ counted p (rows_of_version defs v) + count (w ∷ ws)
    by true i = counted-first v (w ∷ ws) e
    by false i = counted-rest w ws (with_version v ws) (counted p (rows_of_version defs v)) i

-- ---- which rows are alive

or_left : (a b : Bool) → a ≡ true → (a || b) ≡ true
or_left true b h = refl
or_left false b h = cc

pub any-append : {X : Type 0} (p : X → Bool) (xs ys : List X) → list_any p (xs ++ ys) ≡ (list_any p xs || list_any p ys)
any-append p [] ys = refl
any-append p (x ∷ xs) ys = by (p x) (any-append p xs ys) where
  by : (b : Bool) → list_any p (xs ++ ys) ≡ (list_any p xs || list_any p ys) → (b || list_any p (xs ++ ys)) ≡ ((b || list_any p xs) || list_any p ys)
  by true i = refl
  by false i = i

module _ (defs : List IndexDef) where
  -- the row is alive among those of the versions
  abbrev alive : ℕ → List Version → List ℕ → Bool
  alive floor vs x = list_any (table.is_alive x) (rows_of_versions defs (trimmed floor vs))

  alive-rest : (floor : ℕ) (v : Version) (vs : List Version) (x : List ℕ) → alive floor vs x ≡ true → alive floor (v ∷ vs) x ≡ true
  alive-rest floor v vs x h = by (outlives floor v) refl where
    by : (b : Bool) → outlives floor v ≡ b → alive floor (v ∷ vs) x ≡ true
    by true e =
        rw e
        (any-append (table.is_alive x) (rows_of_version defs v) (rows_of_versions defs (trimmed floor vs))
        ∙ or_true (list_any (table.is_alive x) (rows_of_version defs v)) (alive floor vs x) h)
    by false e = rw e h

  alive-here : (v : Version) → is_open v.until ≡ true → (rows : List (List ℕ))
      → Each (λ x. list_any (table.is_alive x) (map (row_of v) rows) ≡ true) rows
  alive-here v o [] = tt
  alive-here v o (y ∷ rows) = (
    let never : (end_in_table v.until == table.never) ≡ true = at_end v.until o in rw (same_row y y refl, never) refl,
    each_more (λ x. list_any (table.is_alive x) (map (row_of v) rows) ≡ true) (λ x. list_any (table.is_alive x) (map (row_of v) (y ∷ rows)) ≡ true) rows
        (λ x h. or_true (table.is_alive x (row_of v y)) (list_any (table.is_alive x) (map (row_of v) rows)) h) (alive-here v o rows),
  ) where
    at_end : (u : Option ℕ) → is_open u ≡ true → (end_in_table u == table.never) ≡ true
    at_end None o = refl
    at_end (Some u) o = cc

  -- the rows of an entity that isn't replaced are alive
  pub alive_own : (floor : ℕ) (k : KeyParts) (e : EntityParts) (vs : List Version)
      → option_map (λ (v : Version). v.entity) (find (is_current k) vs) ≡ Some e → Each (λ x. alive floor vs x ≡ true) (rows_of defs e)
  alive_own floor k e [] is = absurd (nothing is) where
    nothing : None ≡ Some e → ⊥
    nothing is = cc
  alive_own floor k e (v ∷ vs) is = by (is_current k v) refl is (alive_own floor k e vs) where
    here : is_current k v ≡ true → v.entity ≡ e → Each (λ x. alive floor (v ∷ vs) x ≡ true) (rows_of defs e)
    here c same =
        let o : is_open v.until ≡ true = current-open (same_key v.entity.key k) (is_open v.until) c in
        let out : outlives floor v ≡ true = open-before v.until floor o in
        subst (λ (a : EntityParts). Each (λ x. alive floor (v ∷ vs) x ≡ true) (rows_of defs a)) same
        (each_more (λ x. list_any (table.is_alive x) (rows_of_version defs v) ≡ true) (λ x. alive floor (v ∷ vs) x ≡ true) (rows_of defs v.entity)
        (λ x h. rw out
        (any-append (table.is_alive x) (rows_of_version defs v) (rows_of_versions defs (trimmed floor vs))
        ∙ or_left (list_any (table.is_alive x) (rows_of_version defs v)) (alive floor vs x) h))
        (alive-here v o (rows_of defs v.entity)))

    same_entity : Some v.entity ≡ Some e → v.entity ≡ e
    same_entity p = cc

    by : (b : Bool) → is_current k v ≡ b → option_map (λ (w : Version). w.entity) (cond b (Some v) (find (is_current k) vs)) ≡ Some e
        → (option_map (λ (w : Version). w.entity) (find (is_current k) vs) ≡ Some e → Each (λ x. alive floor vs x ≡ true) (rows_of defs e))
        → Each (λ x. alive floor (v ∷ vs) x ≡ true) (rows_of defs e)
    by true c is i = here c (same_entity is)
    by false c is i =
        each_more (λ x. alive floor vs x ≡ true) (λ x. alive floor (v ∷ vs) x ≡ true) (rows_of defs e) (λ x h. alive-rest floor v vs x h) (i is)

  -- ---- and which aren't

  -- what is known of a version beside an entity that begins
  pub record Leaves (stamp : ℕ) (e : EntityParts) (v : Version) : Type 0 where
    pub over : same_key v.entity.key e.key ≡ true → EndsBy stamp v.until
    pub apart : same_key v.entity.key e.key ≡ false → Each (NotAmong (rows_of defs v.entity)) (rows_of defs e)

  none_alive : (v : Version) (x : List ℕ) (rows : List (List ℕ)) → NotAmong rows x → list_any (table.is_alive x) (map (row_of v) rows) ≡ false
  none_alive v x [] h = refl
  none_alive v x (y ∷ rows) h = rw (other_row y x (λ e. h.0 (sym e))) (none_alive v x rows h.1)

  none_open : (v : Version) (x : List ℕ) (rows : List (List ℕ)) → (end_in_table v.until == table.never) ≡ false
      → list_any (table.is_alive x) (map (row_of v) rows) ≡ false
  none_open v x [] h = refl
  none_open v x (y ∷ rows) h = rw (and_false (bytes_eq y x) (end_in_table v.until == table.never) h) (none_open v x rows h)

  closed_end : (stamp : ℕ) → stamp < table.never → (u : Option ℕ) → EndsBy stamp u → (end_in_table u == table.never) ≡ false
  closed_end stamp h None o = absurd o
  closed_end stamp h (Some u) o = not_never u (omega (arith, h, o))

  module _ (stamp : ℕ) (below : stamp < table.never) (e : EntityParts) where
    one_left : (v : Version) → Leaves stamp e v → Each (λ x. list_any (table.is_alive x) (rows_of_version defs v) ≡ false) (rows_of defs e)
    one_left v h = by (same_key v.entity.key e.key) refl where
      by : (b : Bool) → same_key v.entity.key e.key ≡ b → Each (λ x. list_any (table.is_alive x) (rows_of_version defs v) ≡ false) (rows_of defs e)
      by true s = none_of (rows_of defs e) where
        none_of : (rows : List (List ℕ)) → Each (λ x. list_any (table.is_alive x) (rows_of_version defs v) ≡ false) rows
        none_of [] = tt
        none_of (x ∷ rows) = (none_open v x (rows_of defs v.entity) (closed_end stamp below v.until (h.over s)), none_of rows)
      by false s =
          each_more (NotAmong (rows_of defs v.entity)) (λ x. list_any (table.is_alive x) (rows_of_version defs v) ≡ false) (rows_of defs e)
          (λ x n. none_alive v x (rows_of defs v.entity) n) (h.apart s)

    both_false : (v : Version) (vs : List Version) (floor : ℕ) (rows : List (List ℕ))
        → Each (λ x. list_any (table.is_alive x) (rows_of_version defs v) ≡ false) rows → Each (λ x. alive floor vs x ≡ false) rows
        → Each (λ x. alive floor (v ∷ vs) x ≡ false) rows
    both_false v vs floor [] h i = tt
    both_false v vs floor (x ∷ rows) h i = (by (outlives floor v) refl, both_false v vs floor rows h.1 i.1) where
      by : (b : Bool) → outlives floor v ≡ b → alive floor (v ∷ vs) x ≡ false
      by true out =
          rw out
          (any-append (table.is_alive x) (rows_of_version defs v) (rows_of_versions defs (trimmed floor vs))
          ∙ ap (λ b. b || alive floor vs x) h.0 ∙ i.0)
      by false out = rw out i.0

    none_at_first : (rows : List (List ℕ)) (floor : ℕ) → Each (λ x. alive floor [] x ≡ false) rows
    none_at_first [] floor = tt
    none_at_first (x ∷ rows) floor = (refl, none_at_first rows floor)

    -- the rows of an entity that begins aren't alive
    pub none_left : (floor : ℕ) (vs : List Version) → Each (Leaves stamp e) vs → Each (λ x. alive floor vs x ≡ false) (rows_of defs e)
    none_left floor [] h = none_at_first (rows_of defs e) floor
    none_left floor (v ∷ vs) h = both_false v vs floor (rows_of defs e) (one_left v h.0) (none_left floor vs h.1)
