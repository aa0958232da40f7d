-- What is done at a stamp is taken back, of the keys that were written and in the table.
use Rattle.std.proofs.Common.{◌≡◌, ℕ, ◌+◌, ◌<◌, ◌≤◌, Bool, true, false, cond, List, [], ◌∷◌, ◌++◌, length, get_or, drop, map, Option, Some}
use Rattle.std.proofs.Common.{None, refl, sym, ap, ◌∙◌, subst, arith}
use Rattle.std.specs.Prelude.{◌&&◌, ◌||◌, ◌==◌, if◌then◌else◌, IsTrue}
use Rattle.std.specs.List.{cons_option, list_any}
use Rattle.std.specs.Ordering.{is_lt}
use Rattle.std.proofs.lemmas.List.{drop_more, drop_all}
use Rattle.std.proofs.lemmas.Bool.Decides.{nat_tests}
use Rattle.ds_base.specs.Keys.{KeyParts}
use Rattle.ds_base.specs.KeyOrder.{key_cmp, same_key}
use Rattle.ds_base.specs.KeyOrderLaws.{same_key-decides}
use Rattle.ds_indexdef.specs.declared.IndexDef.{IndexDef}
use Rattle.ds_log.specs.declared.Write.{Write}
use Rattle.ds_log.specs.Logs.{key_of}
use Rattle.ds_rows.specs.Rows.{rows_of}
use Rattle.ds_rows.specs.Versions.{Version}
use Rattle.ds_table.specs.Versions as table
use Rattle.ds_table.specs.UndoLaws.{IsFree, undo_nothing}
use Rattle.ds_shard.specs.Histories.{BeginsBy, EndsWithin, is_open, is_current, until_stamp, ended, with_version, ends_at, before_stamp}
use Rattle.ds_shard.specs.Histories.{undone, outlives, trimmed}
use Rattle.std.specs.List.{AllByRecursion as Each}
use Rattle.ds_shard.specs.Rows.{end_in_table, row_of, rows_of_version, rows_of_versions}
use Rattle.ds_shard.specs.Contents.{IsGiven, IsGivenBefore, all_undone}
use Rattle.ds_shard.proofs.Kept.{current-open}

-- ---- in the table

each-append : (P : table.RowVersion → Type 0) (xs ys : List table.RowVersion) → Each P xs → Each P ys → Each P (xs ++ ys)
each-append P [] ys h g = g
each-append P (x ∷ xs) ys h g = (h.0, each-append P xs ys h.1 g)

free_end : (stamp : ℕ) → stamp < table.never → (n : ℕ) → stamp ≡ n + 1 → (u : Option ℕ) → EndsWithin n u → end_in_table u ≡ stamp → ⊥
free_end stamp below n is None h e = omega (arith, below, e)
free_end stamp below n is (Some u) h e = omega (arith, is, h, e)

free_rows : (stamp : ℕ) → stamp < table.never → (v : Version) → IsGivenBefore stamp v → (rows : List (List ℕ))
    → Each (IsFree stamp) (map (row_of v) rows)
free_rows stamp below v h [] = tt
free_rows stamp below v h (x ∷ rows) = (
  record {
    from_free = λ e. let b = h.2.begins in let n = h.1 in omega (arith, b, n, e);
    to_free = free_end stamp below h.0 h.1 v.until h.2.ends;
  },
  free_rows stamp below v h rows,
)

free_versions : (stamp : ℕ) → stamp < table.never → (defs : List IndexDef) (floor : ℕ) (vs : List Version) → Each (IsGivenBefore stamp) vs
    → Each (IsFree stamp) (rows_of_versions defs (trimmed floor vs))
free_versions stamp below defs floor [] h = tt
free_versions stamp below defs floor (v ∷ vs) h = by (outlives floor v) (free_versions stamp below defs floor vs h.1) where
  by : (b : Bool) → Each (IsFree stamp) (rows_of_versions defs (trimmed floor vs))
      → Each (IsFree stamp) (rows_of_versions defs (cond b (v ∷ trimmed floor vs) (trimmed floor vs)))
  by true i =
      each-append (IsFree stamp) (rows_of_version defs v) (rows_of_versions defs (trimmed floor vs))
      (free_rows stamp below v h.0 (rows_of defs v.entity)) i
  by false i = i

-- rows of versions that were given before aren't changed
pub undone_rows : (stamp : ℕ) → stamp < table.never → (defs : List IndexDef) (floor : ℕ) (vs : List Version) → Each (IsGivenBefore stamp) vs
    → table.undone stamp (rows_of_versions defs (trimmed floor vs)) ≡ rows_of_versions defs (trimmed floor vs)
undone_rows stamp below defs floor vs h =
    undo_nothing stamp (rows_of_versions defs (trimmed floor vs)) (free_versions stamp below defs floor vs h)

-- ---- one version

pub same_number : (m n : ℕ) → m ≡ n → (m == n) ≡ true
same_number m n e = grind (arith, nat_tests)

pub other_number : (m n : ℕ) → (m ≡ n → ⊥) → (m == n) ≡ false
other_number m n h = by (m == n) refl where
  by : (b : Bool) → b ≡ (m == n) → (m == n) ≡ false
  by true e = absurd (h (grind (arith, nat_tests)))
  by false e = sym e

begins_at : (stamp : ℕ) (v : Version) → v.from ≡ stamp → before_stamp stamp v ≡ None
begins_at stamp v e = rw (same_number v.from stamp e) refl

-- an end at the stamp is taken back
reopened : (stamp : ℕ) (v : Version) → is_open v.until ≡ true → before_stamp stamp (until_stamp (Some stamp) v) ≡ before_stamp stamp v
reopened stamp v o = by (v.from == stamp) v.until refl o where
  by : (b : Bool) (u : Option ℕ) → v.until ≡ u → is_open u ≡ true
      → (if b then None else (if stamp == stamp then Some (until_stamp None v) else Some (until_stamp (Some stamp) v)))
      ≡ (if b then None else (if ends_at stamp v.until then Some (until_stamp None v) else Some v))
  by true u is o = refl
  by false (Some u) is o = cc
  by false None is o =
      rw (same_number stamp stamp refl)
      ((λ t. Some (until_stamp (sym is t) v)) ∙ sym (ap (λ u. cond (ends_at stamp u) (Some (until_stamp None v)) (Some v)) is))

given_end : (n stamp : ℕ) → stamp ≡ n + 1 → (u : Option ℕ) → EndsWithin n u → ends_at stamp u ≡ false
given_end n stamp is None h = refl
given_end n stamp is (Some u) h = other_number u stamp (λ e. omega (arith, is, h, e))

unchanged : (stamp : ℕ) (v : Version) → IsGivenBefore stamp v → before_stamp stamp v ≡ Some v
unchanged stamp v h =
    let begun : (v.from == stamp) ≡ false = other_number v.from stamp (λ e. let b = h.2.begins in let n = h.1 in omega (arith, b, n, e)) in
    rw (begun, given_end h.0 stamp h.1 v.until h.2.ends) refl

once : (stamp : ℕ) (v w : Version) → before_stamp stamp v ≡ Some w → before_stamp stamp w ≡ Some w
once stamp v w = by (v.from == stamp) refl (ends_at stamp v.until) refl where
  some : (x y : Version) → Some x ≡ Some y → x ≡ y
  some x y e = cc

  by : (b : Bool) → (v.from == stamp) ≡ b → (c : Bool) → ends_at stamp v.until ≡ c
      → (if b then None else (if c then Some (until_stamp None v) else Some v)) ≡ Some w → before_stamp stamp w ≡ Some w
  by true e c f is = cc
  by false e true f is =
      let same : until_stamp None v ≡ w = some (until_stamp None v) w is in
      subst (λ (x : Version). before_stamp stamp x ≡ Some x) same (rw e refl)
  by false e false f is = subst (λ (x : Version). before_stamp stamp x ≡ Some x) (some v w is) (rw (e, f) refl)

-- ---- all versions

both : (a b : Bool) → (a && b) ≡ true → a ≡ true
both true b h = refl
both false b h = h

abbrev pub taken_back : ℕ → List KeyParts → Version → Option Version
taken_back stamp keys v = if list_any (same_key v.entity.key) keys then before_stamp stamp v else Some v

pub undone-none : (stamp : ℕ) (vs : List Version) → all_undone stamp [] vs ≡ vs
undone-none stamp [] = refl
undone-none stamp (v ∷ vs) = ap (λ ws. v ∷ ws) (undone-none stamp vs)

pub undone-given : (stamp : ℕ) (keys : List KeyParts) (vs : List Version) → Each (IsGivenBefore stamp) vs → all_undone stamp keys vs ≡ vs
undone-given stamp keys [] h = refl
undone-given stamp keys (v ∷ vs) h = by (list_any (same_key v.entity.key) keys) (undone-given stamp keys vs h.1) where
  by : (b : Bool) → all_undone stamp keys vs ≡ vs → cons_option (cond b (before_stamp stamp v) (Some v)) (all_undone stamp keys vs) ≡ v ∷ vs
  by true i = rw (unchanged stamp v h.0) (ap (λ ws. v ∷ ws) i)
  by false i = ap (λ ws. v ∷ ws) i

module _ (stamp : ℕ) (k : KeyParts) (keys : List KeyParts) (h : IsTrue (list_any (same_key k) keys)) where
  one_ended : (v : Version) → taken_back stamp keys (if is_current k v then until_stamp (Some stamp) v else v) ≡ taken_back stamp keys v
  one_ended v = by (is_current k v) refl where
    by : (b : Bool) → is_current k v ≡ b → taken_back stamp keys (cond b (until_stamp (Some stamp) v) v) ≡ taken_back stamp keys v
    by false e = refl
    by true e =
        let key : v.entity.key ≡ k = (same_key-decides v.entity.key k).0 (both (same_key v.entity.key k) (is_open v.until) e) in
        let among : list_any (same_key v.entity.key) keys ≡ true = ap (λ x. list_any (same_key x) keys) key ∙ h in
        ap (λ b. cond b (before_stamp stamp (until_stamp (Some stamp) v)) (Some (until_stamp (Some stamp) v))) among
        ∙ reopened stamp v (current-open (same_key v.entity.key k) (is_open v.until) e)
        ∙ sym (ap (λ b. cond b (before_stamp stamp v) (Some v)) among)

  pub undone-ended : (vs : List Version) → all_undone stamp keys (ended stamp k vs) ≡ all_undone stamp keys vs
  undone-ended [] = refl
  undone-ended (v ∷ vs) =
      let first = one_ended v in
      let rest = undone-ended vs in
      λ t. cons_option (first t) (rest t)

  pub undone-with : (v : Version) → v.from ≡ stamp → v.entity.key ≡ k → (vs : List Version)
      → all_undone stamp keys (with_version v vs) ≡ all_undone stamp keys vs
  undone-with v from key vs = by vs where
    gone : taken_back stamp keys v ≡ None
    gone =
        ap (λ b. cond b (before_stamp stamp v) (Some v)) (ap (λ x. list_any (same_key x) keys) key ∙ h) ∙ begins_at stamp v from

    by : (ws : List Version) → all_undone stamp keys (with_version v ws) ≡ all_undone stamp keys ws
    by [] = ap (λ o. cons_option o []) gone
    by (w ∷ ws) = placed (is_lt (key_cmp v.entity.key w.entity.key)) (by ws) where
      placed : (b : Bool) → all_undone stamp keys (with_version v ws) ≡ all_undone stamp keys ws
          → all_undone stamp keys (cond b (v ∷ w ∷ ws) (w ∷ with_version v ws)) ≡ all_undone stamp keys (w ∷ ws)
      placed true i = ap (λ o. cons_option o (all_undone stamp keys (w ∷ ws))) gone
      placed false i = ap (λ us. cons_option (taken_back stamp keys w) us) i

-- key by key
pub undone-more : (stamp : ℕ) (k : KeyParts) (keys : List KeyParts) (vs : List Version)
    → all_undone stamp (k ∷ keys) vs ≡ all_undone stamp keys (undone stamp k vs)
undone-more stamp k keys [] = refl
undone-more stamp k keys (v ∷ vs) = by (same_key v.entity.key k) refl (undone-more stamp k keys vs) where
  back : (o : Option Version) → before_stamp stamp v ≡ o → all_undone stamp (k ∷ keys) vs ≡ all_undone stamp keys (undone stamp k vs)
      → cons_option o (all_undone stamp (k ∷ keys) vs) ≡ all_undone stamp keys (cons_option o (undone stamp k vs))
  back None is i = i
  back (Some w) is i = placed (list_any (same_key w.entity.key) keys) where
    placed : (b : Bool) → w ∷ all_undone stamp (k ∷ keys) vs ≡ cons_option (cond b (before_stamp stamp w) (Some w)) (all_undone stamp keys (undone stamp k vs))
    placed true = rw (once stamp v w is) (ap (λ ws. w ∷ ws) i)
    placed false = ap (λ ws. w ∷ ws) i

  by : (b : Bool) → same_key v.entity.key k ≡ b → all_undone stamp (k ∷ keys) vs ≡ all_undone stamp keys (undone stamp k vs)
      → cons_option (cond (b || list_any (same_key v.entity.key) keys) (before_stamp stamp v) (Some v)) (all_undone stamp (k ∷ keys) vs)
      ≡ all_undone stamp keys (cons_option (cond b (before_stamp stamp v) (Some v)) (undone stamp k vs))
  by true e i = back (before_stamp stamp v) refl i
  by false e i = ap (λ us. cons_option (taken_back stamp keys v) us) i

-- ---- stamps

pub begun-undone : (stamp : ℕ) (k : KeyParts) (vs : List Version) → Each (BeginsBy stamp) vs → Each (BeginsBy stamp) (undone stamp k vs)
begun-undone stamp k [] h = tt
begun-undone stamp k (v ∷ vs) h = by (same_key v.entity.key k) (v.from == stamp) (ends_at stamp v.until) (begun-undone stamp k vs h.1) where
  by : (b c d : Bool) → Each (BeginsBy stamp) (undone stamp k vs)
      → Each (BeginsBy stamp) (cons_option (cond b (if c then None else (if d then Some (until_stamp None v) else Some v)) (Some v)) (undone stamp k vs))
  by true true d i = i
  by true false true i = (h.0, i)
  by true false false i = (h.0, i)
  by false c d i = (h.0, i)

pub begun-given : (stamp : ℕ) (vs : List Version) → Each (IsGiven stamp) vs → Each (BeginsBy stamp) vs
begun-given stamp [] h = tt
begun-given stamp (v ∷ vs) h = (h.0.begins, begun-given stamp vs h.1)

-- ---- a loop over writes

pub undone_next : (stamp : ℕ) (ws : List Write) (i : ℕ) (w : Write) → i < length ws → w ≡ get_or ws i w → (k : KeyParts) → k ≡ key_of w
    → (vs us : List Version) → us ≡ undone stamp k vs → (all : List Version) → all_undone stamp (map key_of (drop i ws)) vs ≡ all
    → all_undone stamp (map key_of (drop (i + 1) ws)) us ≡ all
undone_next stamp ws i w h e k key vs us is all inv =
    let rest = map key_of (drop (i + 1) ws) in
    let here : k ≡ key_of (get_or ws i w) = key ∙ ap key_of e in
    ap (all_undone stamp rest) (is ∙ ap (λ l. undone stamp l vs) here)
    ∙ sym (undone-more stamp (key_of (get_or ws i w)) rest vs)
    ∙ sym (ap (λ us. all_undone stamp (map key_of us) vs) (drop_more ws i w h))
    ∙ inv

pub undone_end : (stamp : ℕ) (ws : List Write) (i : ℕ) → length ws ≤ i → (vs all : List Version)
    → all_undone stamp (map key_of (drop i ws)) vs ≡ all → vs ≡ all
undone_end stamp ws i h vs all inv =
    sym (undone-none stamp vs) ∙ sym (ap (λ us. all_undone stamp (map key_of us) vs) (drop_all i ws h)) ∙ inv
