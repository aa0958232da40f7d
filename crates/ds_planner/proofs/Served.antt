-- Where nothing is missing, and that no candidate is left out.
use Rattle.std.proofs.Common.{◌≡◌, ◌<◌, inl, inr, ℕ, zero, suc, ◌+◌, List, [], ◌∷◌, ◌++◌, map, length, Bool, true, false, ◌&&◌, not, cond}
use Rattle.std.proofs.Common.{refl, sym, ap, ◌∙◌, subst, Option, Some, None, option_map, option_and_then, is_some, arith}
use Rattle.std.specs.Prelude.{bytes_eq, flat_map}
use Rattle.std.specs.List.{list_any, range_with_len, slice_get}
use Rattle.std.proofs.lemmas.Option.{slice_get_within}
use Rattle.ds_base.specs.declared.column.Column.{Column}
use Rattle.ds_base.specs.Columns.{same_column}
use Rattle.ds_indexdef.specs.declared.IndexDef.{IndexDef}
use Rattle.ds_query.specs.declared.branch.Pair.{Pair}
use Rattle.ds_query.specs.declared.branch.Branch.{Branch}
use Rattle.ds_query.specs.declared.refusal.Constraint.{Constraint}
use Rattle.ds_query.specs.declared.refusal.Constraint.TheVariants as constraint
use Rattle.ds_query.specs.Lawful.{ends_in_key, has_pair}
use Rattle.ds_planner.specs.declared.planned.PlannedIndex.{PlannedIndex}
use Rattle.ds_planner.specs.declared.planned.PlannedIndex.TheVariants as index
use Rattle.ds_planner.specs.Indexes.{by_key, defined_columns, in_front_of, is_by_property, are_paired, is_candidate, leads, binds_ancestor}
use Rattle.ds_base.specs.KeyColumn.{is_by_key, is_ascending_key}
use Rattle.ds_planner.specs.Suits.{are_some}
use Rattle.ds_planner.specs.Missing.{two_ways, indexes, candidates, first_unled, constraint_of, Missing, missing_of, suggestion_of}
use Rattle.ds_planner.proofs.Members.{Member, both, or_cases, any_member, member_left, member_right, find_none, none_found, member_filter}
use Rattle.ds_planner.proofs.Members.{member_map, member_flat_map}
use Rattle.ds_planner.proofs.PairLists.{has_pair-member, same_name}
use Rattle.ds_planner.proofs.ColumnEnds.{pairs_by_property}

-- ---- each candidate stands in the list

counted : (n a k : ℕ) → k < n → Member (a + k) (range_with_len a n)
counted zero a k h = absurd (omega arith)
counted (suc n) a zero h = inl (omega arith)
counted (suc n) a (suc k) h = inr (subst (λ m. Member m (range_with_len (a + 1) n)) (omega arith) (counted n (a + 1) k (omega arith)))

module _ (b : Branch) (defs : List IndexDef) (ends : ends_in_key b.columns ≡ true) where
  abbrev composites : List PlannedIndex
  composites = map index.Composite (range_with_len 0 (length defs))

  abbrev paired : List PlannedIndex
  paired = flat_map (λ (p : Pair). two_ways p.property) b.equal

  abbrev of_columns : List PlannedIndex
  of_columns = flat_map (λ (c : Column). two_ways c.name) b.columns

  abbrev keyed : List PlannedIndex
  keyed = index.KindByKey ∷ index.AllByKey ∷ []

  way : (n m : List ℕ) (d : Bool) → n ≡ m → Member (index.Property n d) (two_ways m)
  way n m false e = inl (ap (λ k. index.Property k false) e)
  way n m true e = inr (inl (ap (λ k. index.Property k true) e))

  from_columns : (i : PlannedIndex) → Member i of_columns → Member i (indexes b defs)
  from_columns i m = member_right composites (paired ++ (of_columns ++ keyed)) i (member_right paired (of_columns ++ keyed) i (member_left of_columns keyed i m))

  from_pairs : (i : PlannedIndex) → Member i paired → Member i (indexes b defs)
  from_pairs i m = member_right composites (paired ++ (of_columns ++ keyed)) i (member_left paired (of_columns ++ keyed) i m)

  from_keys : (i : PlannedIndex) → Member i keyed → Member i (indexes b defs)
  from_keys i m = member_right composites (paired ++ (of_columns ++ keyed)) i (member_right paired (of_columns ++ keyed) i (member_right of_columns keyed i m))

  placed : (k : ℕ) (o : Option IndexDef) → slice_get defs k ≡ o → are_paired b.equal (option_and_then (in_front_of b.columns) (defined_columns b o)) ≡ true → Member (index.Composite k) (indexes b defs)
  placed k None e h = absurd (cc h)
  placed k (Some d) e h = member_left composites (paired ++ (of_columns ++ keyed)) (index.Composite k) (member_map index.Composite (range_with_len 0 (length defs)) k (subst (λ m. Member m (range_with_len 0 (length defs))) (omega arith) (counted (length defs) 0 k (slice_get_within defs k d e))))

  ordered : (n : List ℕ) (d : Bool) (columns : List Column) → is_by_property (record { name = n; descending = d }) columns ≡ true → Member (index.Property n d) (flat_map (λ (c : Column). two_ways c.name) columns)
  ordered n d [] h = absurd (cc h)
  ordered n d (x ∷ []) h = absurd (cc h)
  ordered n d (x ∷ y ∷ []) h =
      let same = both (same_column (record { name = n; descending = d }) x) (is_ascending_key y) h in
      member_flat_map (λ (c : Column). two_ways c.name) (x ∷ y ∷ []) x (index.Property n d) (inl refl) (way n x.name d (same_name n x.name (both (bytes_eq n x.name) _ same.0).0))
  ordered n d (x ∷ y ∷ z ∷ columns) h = absurd (cc h)

  named : (n : List ℕ) (d : Bool) (c : Bool) → is_some b.kind ≡ c → are_paired b.equal (option_and_then (in_front_of b.columns) (cond c (Some (record { name = n; descending = d } ∷ by_key)) None)) ≡ true → Member (index.Property n d) (indexes b defs)
  named n d false e h = absurd (cc h)
  named n d true e h =
      let p : Column = record { name = n; descending = d } in
      elim (or_cases (is_by_property p b.columns) (is_by_key b.columns && has_pair b.equal n) (sym (pairs_by_property p b.columns b.equal ends) ∙ h)) [
        | inl first ↦ from_columns (index.Property n d) (ordered n d b.columns first)
        | inr alone ↦
            let r = has_pair-member b.equal n (both (is_by_key b.columns) (has_pair b.equal n) alone).1 in
            from_pairs (index.Property n d) (member_flat_map (λ (q : Pair). two_ways q.property) b.equal r.0 (index.Property n d) r.1.0 (way n r.0.property d r.1.1))
      ]

  listed : (i : PlannedIndex) → is_candidate b defs i ≡ true → Member i (indexes b defs)
  listed index.AllByKey h = from_keys index.AllByKey (inr (inl refl))
  listed index.KindByKey h = from_keys index.KindByKey (inl refl)
  listed (index.Property n d) h = named n d (is_some b.kind) refl h
  listed (index.Composite k) h = placed k (slice_get defs k) refl h

  -- no candidate is left out of the list
  pub candidate_listed : (i : PlannedIndex) → is_candidate b defs i ≡ true → Member i (candidates b defs)
  candidate_listed i h = member_filter (is_candidate b defs) (indexes b defs) i (listed i h) h

  pub candidate_passes : (p : PlannedIndex → Bool) (i : PlannedIndex) → is_candidate b defs i ≡ true → p i ≡ true → list_any p (candidates b defs) ≡ true
  candidate_passes p i h k = any_member p (candidates b defs) i (candidate_listed i h) k

-- ---- nothing is missing

pub are_some-member : {A : Type 0} (xs : List A) (x : A) → Member x xs → are_some xs ≡ true
are_some-member [] x m = absurd m
are_some-member (y ∷ xs) x m = refl

pub member-are_some : {A : Type 0} (xs : List A) → are_some xs ≡ true → (x : A) × Member x xs
member-are_some [] h = absurd (cc h)
member-are_some (x ∷ xs) h = (x, inl refl)

-- a candidate, one that binds the ancestor if there is an ancestor, and one for each pair
pub record AreServed (b : Branch) (defs : List IndexDef) : Type 0 where
  pub some : are_some (candidates b defs) ≡ true
  pub ancestor : is_some b.ancestor ≡ true → list_any (binds_ancestor b defs) (candidates b defs) ≡ true
  pub each : (p : Pair) → Member p b.equal → list_any (λ i. leads b defs i p.property) (candidates b defs) ≡ true

pub nothing_missing : (b : Branch) (defs : List IndexDef) → AreServed b defs → constraint_of b defs ≡ None
nothing_missing b defs served =
    let found = candidates b defs in
    let bound : (is_some b.ancestor && not (list_any (binds_ancestor b defs) found)) ≡ false = at (is_some b.ancestor) served.ancestor in
    let led : first_unled b defs found ≡ None = find_none (λ p. not (list_any (λ i. leads b defs i p.property) found)) b.equal (λ p m. ap not (served.each p m)) in
    λ k. cond (not (served.some k)) (Some constraint.Columns) (cond (bound k) (Some constraint.Ancestor) (option_map constraint.Equal (led k))) where
      at : (c : Bool) → (c ≡ true → list_any (binds_ancestor b defs) (candidates b defs) ≡ true) → (c && not (list_any (binds_ancestor b defs) (candidates b defs))) ≡ false
      at true h = ap not (h refl)
      at false h = refl

no_pair : (o : Option Pair) → option_map constraint.Equal o ≡ None → o ≡ None
no_pair None h = refl
no_pair (Some p) h = absurd (cc h)

not_false : (b : Bool) → not b ≡ false → b ≡ true
not_false true e = refl
not_false false e = absurd (cc e)

pub served : (b : Branch) (defs : List IndexDef) → constraint_of b defs ≡ None → AreServed b defs
served b defs h = at (are_some (candidates b defs)) refl (is_some b.ancestor && not (list_any (binds_ancestor b defs) (candidates b defs))) refl h where
  bound : (c d : Bool) → (c && not d) ≡ false → c ≡ true → d ≡ true
  bound true d e k = not_false d e
  bound false d e k = absurd (cc k)

  at : (c : Bool) → are_some (candidates b defs) ≡ c → (d : Bool) → (is_some b.ancestor && not (list_any (binds_ancestor b defs) (candidates b defs))) ≡ d → cond (not c) (Some constraint.Columns) (cond d (Some constraint.Ancestor) (option_map constraint.Equal (first_unled b defs (candidates b defs)))) ≡ None → AreServed b defs
  at false e d k h = absurd (cc h)
  at true e true k h = absurd (cc h)
  at true e false k h = record {
    some = e;
    ancestor = bound (is_some b.ancestor) (list_any (binds_ancestor b defs) (candidates b defs)) k;
    each = λ p m. not_false (list_any (λ i. leads b defs i p.property) (candidates b defs)) (none_found (λ q. not (list_any (λ i. leads b defs i q.property) (candidates b defs))) b.equal p (no_pair (first_unled b defs (candidates b defs)) h) m);
  }

-- ---- as the contract tells it

unmapped : {A B : Type 0} (f : A → B) (o : Option A) → option_map f o ≡ None → o ≡ None
unmapped f None h = refl
unmapped f (Some x) h = absurd (cc h)

abbrev pub told : Branch → Constraint → Missing
told b c = record { constraint = c; suggestion = suggestion_of b }

pub missing_none : (b : Branch) (defs : List IndexDef) → constraint_of b defs ≡ None → missing_of b defs ≡ None
missing_none b defs h = ap (option_map (told b)) h

pub none_missing : (b : Branch) (defs : List IndexDef) → missing_of b defs ≡ None → constraint_of b defs ≡ None
none_missing b defs h = unmapped (told b) (constraint_of b defs) h
