-- An entity that ends has its rows closed.
use Rattle.std.proofs.Common.{◌≡◌, ℕ, ◌<◌, ◌≤◌, Bool, true, false, cond, List, [], ◌∷◌, ◌++◌, map, Option, Some, None, refl, sym, ap, ◌∙◌}
use Rattle.std.proofs.Common.{subst, arith}
use Rattle.std.specs.Prelude.{◌&&◌, ◌==◌, if◌then◌else◌, bytes_eq}
use Rattle.std.specs.List.{list_any}
use Rattle.std.proofs.lemmas.Bool.Decides.{nat_tests}
use Rattle.std.proofs.lemmas.List.{map-append}
use Rattle.ds_base.specs.Keys.{KeyParts}
use Rattle.ds_base.specs.KeyOrder.{same_key}
use Rattle.ds_entity.specs.Entities.{EntityParts}
use Rattle.ds_indexdef.specs.declared.IndexDef.{IndexDef}
use Rattle.ds_rows.specs.Rows.{rows_of}
use Rattle.ds_rows.specs.Versions.{Version}
use Rattle.ds_table.specs.Versions as table
use Rattle.ds_shard.specs.Histories.{EndsWithin, is_open, is_current, until_stamp, ended, outlives, trimmed}
use Rattle.std.specs.List.{AllByRecursion as Each}
use Rattle.ds_shard.specs.Rows.{end_in_table, row_of, rows_of_version, rows_of_versions, all_closed}
use Rattle.ds_shard.proofs.Currents.{and_false}
use Rattle.ds_shard.proofs.Trimming.{outlives-after}
use Rattle.ds_shard.proofs.RowsApart.{NotAmong, each_more, none_among, among_itself}

-- ---- many rows at once

-- the version is a life, which isn't closed, of one of these rows
abbrev pub alive_in : List (List ℕ) → table.RowVersion → Bool
alive_in rows v = list_any (bytes_eq v.row) rows && v.to == table.never

-- the version with its life closed, if it is so
abbrev pub closed_in : ℕ → List (List ℕ) → table.RowVersion → table.RowVersion
closed_in stamp rows v = if alive_in rows v then table.ended_at stamp v else v

pub not_never : (n : ℕ) → n < table.never → (n == table.never) ≡ false
not_never n h = by (n == table.never) refl where
  by : (b : Bool) → b ≡ (n == table.never) → (n == table.never) ≡ false
  by true e = let q : n ≡ table.never = grind (arith, nat_tests) in absurd (omega (arith, h, q))
  by false e = sym e

map_itself : {X : Type 0} (xs : List X) → xs ≡ map (λ x. x) xs
map_itself [] = refl
map_itself (x ∷ xs) = ap (λ ys. x ∷ ys) (map_itself xs)

one_more : (stamp : ℕ) → stamp < table.never → (r : List ℕ) (rs : List (List ℕ)) (v : table.RowVersion)
    → closed_in stamp rs (if table.is_alive r v then table.ended_at stamp v else v) ≡ closed_in stamp (r ∷ rs) v
one_more stamp h r rs v = by (bytes_eq v.row r) (v.to == table.never) refl refl where
  by : (b c : Bool) → bytes_eq v.row r ≡ b → (v.to == table.never) ≡ c
      → closed_in stamp rs (if table.is_alive r v then table.ended_at stamp v else v) ≡ closed_in stamp (r ∷ rs) v
  by true true e f =
      let g = and_false (list_any (bytes_eq v.row) rs) (stamp == table.never) (not_never stamp h) in
      rw (e, f, g) refl
  by true false e f =
      ap (λ a. closed_in stamp rs (cond a (table.ended_at stamp v) v)) (and_false (bytes_eq v.row r) (v.to == table.never) f)
      ∙ ap (λ a. cond a (table.ended_at stamp v) v) (and_false (list_any (bytes_eq v.row) rs) (v.to == table.never) f)
      ∙ sym (ap (λ a. cond a (table.ended_at stamp v) v) (and_false (list_any (bytes_eq v.row) (r ∷ rs)) (v.to == table.never) f))
  by false c e f = rw e refl

many_closed : (stamp : ℕ) → stamp < table.never → (r : List ℕ) (rs : List (List ℕ)) (vs : List table.RowVersion)
    → map (closed_in stamp rs) (table.closed r stamp vs) ≡ map (closed_in stamp (r ∷ rs)) vs
many_closed stamp h r rs [] = refl
many_closed stamp h r rs (v ∷ vs) =
    let first = one_more stamp h r rs v in
    let rest = many_closed stamp h r rs vs in
    λ t. first t ∷ rest t

pub all_closed_map : (stamp : ℕ) → stamp < table.never → (rows : List (List ℕ)) (vs : List table.RowVersion)
    → all_closed stamp vs rows ≡ map (closed_in stamp rows) vs
all_closed_map stamp h [] vs = map_itself vs
all_closed_map stamp h (r ∷ rs) vs = all_closed_map stamp h rs (table.closed r stamp vs) ∙ many_closed stamp h r rs vs

-- ---- one version

mapped : (stamp : ℕ) (all : List (List ℕ)) (v w : Version) (rows : List (List ℕ))
    → Each (λ x. row_of w x ≡ closed_in stamp all (row_of v x)) rows
    → map (row_of w) rows ≡ map (closed_in stamp all) (map (row_of v) rows)
mapped stamp all v w [] h = refl
mapped stamp all v w (x ∷ rows) h =
    let first = h.0 in
    let rest = mapped stamp all v w rows h.1 in
    λ t. first t ∷ rest t

every : {X : Type 0} (P : X → Type 0) → ((x : X) → P x) → (xs : List X) → Each P xs
every P f [] = tt
every P f (x ∷ xs) = (f x, every P f xs)

-- what is known of a version beside those of an entity that ends
pub record Suits (stamp : ℕ) (defs : List IndexDef) (k : KeyParts) (e : EntityParts) (v : Version) : Type 0 where
  pub given : EndsWithin stamp v.until
  pub own : is_current k v ≡ true → v.entity ≡ e
  pub apart : same_key v.entity.key k ≡ false → Each (NotAmong (rows_of defs e)) (rows_of defs v.entity)

module _ (stamp : ℕ) (below : stamp < table.never) (defs : List IndexDef) (k : KeyParts) (e : EntityParts) where
  abbrev after : Version → Version
  after v = if is_current k v then until_stamp (Some stamp) v else v

  abbrev rows : List (List ℕ)
  rows = rows_of defs e

  over : (v : Version) (u : ℕ) → v.until ≡ Some u → u ≤ stamp → rows_of_version defs (after v) ≡ map (closed_in stamp rows) (rows_of_version defs v)
  over v u is h =
      let to : end_in_table v.until ≡ u = ap end_in_table is in
      let closed : (end_in_table v.until == table.never) ≡ false = ap (λ n. n == table.never) to ∙ not_never u (omega (arith, h, below)) in
      let not : is_current k v ≡ false = and_false (same_key v.entity.key k) (is_open v.until) (ap is_open is) in
      let same : after v ≡ v = ap (λ b. cond b (until_stamp (Some stamp) v) v) not in
      ap (rows_of_version defs) same
      ∙ mapped stamp rows v v (rows_of defs v.entity)
      (every (λ x. row_of v x ≡ closed_in stamp rows (row_of v x))
      (λ x. sym (ap (λ b. cond b (table.ended_at stamp (row_of v x)) (row_of v x))
      (and_false (list_any (bytes_eq x) rows) (end_in_table v.until == table.never) closed)))
      (rows_of defs v.entity))

  open_own : (v : Version) → v.until ≡ None → same_key v.entity.key k ≡ true → v.entity ≡ e
      → rows_of_version defs (after v) ≡ map (closed_in stamp rows) (rows_of_version defs v)
  open_own v is same own =
      let current : is_current k v ≡ true = rw (same, is) refl in
      let became : after v ≡ until_stamp (Some stamp) v = ap (λ b. cond b (until_stamp (Some stamp) v) v) current in
      let to : (end_in_table v.until == table.never) ≡ true = ap (λ u. end_in_table u == table.never) is in
      ap (rows_of_version defs) became
      ∙ mapped stamp rows v (until_stamp (Some stamp) v) (rows_of defs v.entity)
      (each_more (λ x. list_any (bytes_eq x) rows ≡ true) (λ x. row_of (until_stamp (Some stamp) v) x ≡ closed_in stamp rows (row_of v x))
      (rows_of defs v.entity)
      (λ x h. sym (ap (λ b. cond b (table.ended_at stamp (row_of v x)) (row_of v x))
      (ap (λ b. b && end_in_table v.until == table.never) h ∙ to)))
      (subst (λ (a : EntityParts). Each (λ x. list_any (bytes_eq x) rows ≡ true) (rows_of defs a)) (sym own) (among_itself rows)))

  open_other : (v : Version) → same_key v.entity.key k ≡ false → Each (NotAmong rows) (rows_of defs v.entity)
      → rows_of_version defs (after v) ≡ map (closed_in stamp rows) (rows_of_version defs v)
  open_other v other apart =
      let same : after v ≡ v = ap (λ b. cond (b && is_open v.until) (until_stamp (Some stamp) v) v) other in
      ap (rows_of_version defs) same
      ∙ mapped stamp rows v v (rows_of defs v.entity)
      (each_more (NotAmong rows) (λ x. row_of v x ≡ closed_in stamp rows (row_of v x)) (rows_of defs v.entity)
      (λ x h. sym (ap (λ b. cond (b && end_in_table v.until == table.never) (table.ended_at stamp (row_of v x)) (row_of v x))
      (none_among rows x h)))
      apart)

  one_ended : (v : Version) → Suits stamp defs k e v → rows_of_version defs (after v) ≡ map (closed_in stamp rows) (rows_of_version defs v)
  one_ended v h = by v.until refl (same_key v.entity.key k) refl where
    by : (u : Option ℕ) → v.until ≡ u → (b : Bool) → same_key v.entity.key k ≡ b
        → rows_of_version defs (after v) ≡ map (closed_in stamp rows) (rows_of_version defs v)
    by (Some u) is b same = over v u is (subst (EndsWithin stamp) is h.given)
    by None is true same = open_own v is same (h.own (rw (same, is) refl))
    by None is false same = open_other v same (h.apart same)

  -- ---- all versions

  module _ (floor : ℕ) (low : floor < stamp) where
    one_kept : (v w : Version) → outlives floor w ≡ outlives floor v → rows_of_version defs w ≡ map (closed_in stamp rows) (rows_of_version defs v)
        → (vs ws : List Version)
        → rows_of_versions defs (trimmed floor ws) ≡ map (closed_in stamp rows) (rows_of_versions defs (trimmed floor vs))
        → rows_of_versions defs (trimmed floor (w ∷ ws)) ≡ map (closed_in stamp rows) (rows_of_versions defs (trimmed floor (v ∷ vs)))
    one_kept v w alike same vs ws i = by (outlives floor v) refl where
      by : (b : Bool) → outlives floor v ≡ b
          → rows_of_versions defs (trimmed floor (w ∷ ws)) ≡ map (closed_in stamp rows) (rows_of_versions defs (trimmed floor (v ∷ vs)))
      by true is =
          rw (alike ∙ is, is)
          ((λ t. same t ++ i t) ∙ sym (map-append (closed_in stamp rows) (rows_of_version defs v) (rows_of_versions defs (trimmed floor vs))))
      by false is = rw (alike ∙ is, is) i

    pub ended_rows : (vs : List Version) → Each (Suits stamp defs k e) vs
        → rows_of_versions defs (trimmed floor (ended stamp k vs)) ≡ map (closed_in stamp rows) (rows_of_versions defs (trimmed floor vs))
    ended_rows [] h = refl
    ended_rows (v ∷ vs) h = one_kept v (after v) (outlives-after stamp floor low k v) (one_ended v h.0) vs (ended stamp k vs) (ended_rows vs h.1)
