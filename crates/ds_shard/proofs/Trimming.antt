-- A floor that rises: what it takes out of the table and of the versions, and that writes and floors may change places.
use Rattle.std.proofs.Common.{◌≡◌, ℕ, ◌<◌, ◌≤◌, Bool, true, false, cond, List, [], ◌∷◌, ◌++◌, map, Option, Some, None, refl, sym, ap, ◌∙◌}
use Rattle.std.specs.Prelude.{nat_lt, if◌then◌else◌, filter}
use Rattle.ds_base.specs.Keys.{KeyParts}
use Rattle.ds_base.specs.KeyOrder.{same_key}
use Rattle.ds_indexdef.specs.declared.IndexDef.{IndexDef}
use Rattle.ds_rows.specs.Rows.{rows_of}
use Rattle.ds_rows.specs.Versions.{Version, is_before}
use Rattle.ds_table.specs.Versions as table
use Rattle.ds_shard.specs.Histories.{is_open, is_current, until_stamp, outlives, trimmed, trimmed_at}
use Rattle.ds_shard.specs.Rows.{end_in_table, row_of, rows_of_version, rows_of_versions}
use Rattle.ds_shard.proofs.Currents.{lt_true}
use Rattle.ds_shard.proofs.Kept.{open-before, current-open, gone}

-- ---- in the table

pub filter-append : {X : Type 0} (p : X → Bool) (xs ys : List X) → filter p (xs ++ ys) ≡ filter p xs ++ filter p ys
filter-append p [] ys = refl
filter-append p (x ∷ xs) ys = by (p x) (filter-append p xs ys) where
  by : (b : Bool) → filter p (xs ++ ys) ≡ filter p xs ++ filter p ys
      → cond b (x ∷ filter p (xs ++ ys)) (filter p (xs ++ ys)) ≡ cond b (x ∷ filter p xs) (filter p xs) ++ filter p ys
  by true i = ap (λ zs. x ∷ zs) i
  by false i = i

-- a test that tells the rows of a version alike takes all of them or none
pub filter_rows : (p : table.RowVersion → Bool) (v : Version) (b : Bool) → ((x : List ℕ) → p (row_of v x) ≡ b) → (rows : List (List ℕ))
    → filter p (map (row_of v) rows) ≡ cond b (map (row_of v) rows) []
filter_rows p v true h [] = refl
filter_rows p v true h (x ∷ rows) = rw (h x) (ap (λ vs. row_of v x ∷ vs) (filter_rows p v true h rows))
filter_rows p v false h [] = refl
filter_rows p v false h (x ∷ rows) = rw (h x) (filter_rows p v false h rows)

-- and so do the rows of all versions
pub filter_versions : (defs : List IndexDef) (p : table.RowVersion → Bool) (q : Version → Bool) → ((v : Version) (x : List ℕ) → p (row_of v x) ≡ q v)
    → (vs : List Version) → filter p (rows_of_versions defs vs) ≡ rows_of_versions defs (filter q vs)
filter_versions defs p q h [] = refl
filter_versions defs p q h (v ∷ vs) =
    filter-append p (rows_of_version defs v) (rows_of_versions defs vs)
    ∙ ap (λ ws. filter p (rows_of_version defs v) ++ ws) (filter_versions defs p q h vs)
    ∙ ap (λ ws. ws ++ rows_of_versions defs (filter q vs)) (filter_rows p v (q v) (h v) (rows_of defs v.entity))
    ∙ by (q v) where
      by : (b : Bool) → cond b (rows_of_version defs v) [] ++ rows_of_versions defs (filter q vs) ≡ rows_of_versions defs (cond b (v ∷ filter q vs) (filter q vs))
      by true = refl
      by false = refl

-- a row ends in the table where its version ends
pub ends_alike : (stamp : ℕ) → stamp < table.never → (u : Option ℕ) → nat_lt stamp (end_in_table u) ≡ is_before u stamp
ends_alike stamp h None = lt_true stamp table.never h
ends_alike stamp h (Some u) = refl

pub trimmed-again : (low floor : ℕ) → low ≤ floor → (vs : List Version) → trimmed floor (trimmed low vs) ≡ trimmed floor vs
trimmed-again low floor h [] = refl
trimmed-again low floor h (v ∷ vs) = by (outlives low v) refl (trimmed-again low floor h vs) where
  by : (b : Bool) → outlives low v ≡ b → trimmed floor (trimmed low vs) ≡ trimmed floor vs
      → trimmed floor (cond b (v ∷ trimmed low vs) (trimmed low vs)) ≡ trimmed floor (v ∷ vs)
  by true e i = ap (λ ws. cond (outlives floor v) (v ∷ ws) ws) i
  by false e i = i ∙ sym (ap (λ b. cond b (v ∷ trimmed floor vs) (trimmed floor vs)) (gone v.until low floor h e))

pub trimmed_rows : (defs : List IndexDef) (low floor : ℕ) → low ≤ floor → floor < table.never → (vs : List Version)
    → table.trimmed floor (rows_of_versions defs (trimmed low vs)) ≡ rows_of_versions defs (trimmed floor vs)
trimmed_rows defs low floor h below vs =
    filter_versions defs (λ w. nat_lt floor w.to) (outlives floor) (λ v x. ends_alike floor below v.until) (trimmed low vs)
    ∙ ap (rows_of_versions defs) (trimmed-again low floor h vs)

-- ---- key by key

trimmed_one : (floor : ℕ) (k : KeyParts) (vs : List Version) → trimmed floor (trimmed_at floor k vs) ≡ trimmed floor vs
trimmed_one floor k [] = refl
trimmed_one floor k (v ∷ vs) = by (same_key v.entity.key k) (outlives floor v) refl (trimmed_one floor k vs) where
  by : (b c : Bool) → outlives floor v ≡ c → trimmed floor (trimmed_at floor k vs) ≡ trimmed floor vs
      → trimmed floor (cond (if b then outlives floor v else true) (v ∷ trimmed_at floor k vs) (trimmed_at floor k vs)) ≡ trimmed floor (v ∷ vs)
  by false c e i = ap (λ ws. cond (outlives floor v) (v ∷ ws) ws) i
  by true true e i = rw (e, e) (ap (λ ws. v ∷ ws) i)
  by true false e i = rw (e) i

pub trimmed_next : (floor : ℕ) (k : KeyParts) (vs ws all : List Version) → ws ≡ trimmed_at floor k vs → trimmed floor vs ≡ all → trimmed floor ws ≡ all
trimmed_next floor k vs ws all is h = ap (trimmed floor) is ∙ trimmed_one floor k vs ∙ h

-- ---- in the versions

module _ (stamp floor : ℕ) (low : floor < stamp) where
  pub outlives-after : (k : KeyParts) (v : Version) → outlives floor (if is_current k v then until_stamp (Some stamp) v else v) ≡ outlives floor v
  outlives-after k v = by (is_current k v) refl where
    by : (b : Bool) → is_current k v ≡ b → outlives floor (cond b (until_stamp (Some stamp) v) v) ≡ outlives floor v
    by true is =
        lt_true floor stamp low ∙ sym (open-before v.until floor (current-open (same_key v.entity.key k) (is_open v.until) is))
    by false is = refl
