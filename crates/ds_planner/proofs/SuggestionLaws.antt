-- The suggested definition serves its branch.
use Rattle.std.proofs.Common.{◌≡◌, ◌≤◌, ◌<◌, ◌-◌, inl, inr, ℕ, zero, suc, List, [], ◌∷◌, ◌++◌, length, take, drop, get_or, Bool, true}
use Rattle.std.proofs.Common.{false, ◌||◌, not, cond, refl, sym, ap, ◌∙◌, Option, Some, None, is_some, unwrap_or, option_map}
use Rattle.std.proofs.Common.{option_and_then, arith, length-append, append_assoc}
use Rattle.std.specs.Prelude.{bytes_eq}
use Rattle.std.specs.List.{slice_get}
use Rattle.std.specs.Cmp.Lexicographic.{pointwise}
use Rattle.std.proofs.lemmas.Cmp.{lists_equiv}
use Rattle.std.proofs.Math.Seq.{drop-append_seam, take-append_seam}
use Rattle.ds_base.specs.declared.column.Column.{Column}
use Rattle.ds_base.specs.Columns.{same_column}
use Rattle.ds_base.specs.ColumnLaws.{same_column-equiv}
use Rattle.ds_indexdef.specs.declared.IndexDef.{IndexDef}
use Rattle.ds_query.specs.declared.branch.Pair.{Pair}
use Rattle.ds_query.specs.declared.branch.Branch.{Branch}
use Rattle.ds_base.specs.KeyColumn.{key_name, is_key_name, is_ascending_key, is_by_key}
use Rattle.ds_query.specs.ColumnLists.{has_column, ascending}
use Rattle.ds_query.specs.Lawful.{ends_in_key, names_differ, has_pair, IsLawfulBranch}
use Rattle.ds_planner.specs.declared.planned.PlannedIndex.TheVariants as index
use Rattle.ds_planner.specs.Indexes.{by_key, with_key, is_of_kind, defined_columns, in_front_of, leading, are_paired, names_column, leads}
use Rattle.ds_planner.specs.Indexes.{is_candidate, binds_ancestor}
use Rattle.ds_planner.specs.Missing.{goes_on, equal_columns, without_key, suggestion_of, candidates, constraint_of}
use Rattle.ds_planner.proofs.Members.{Member, both, join, or_true, not_true, refuted, true_false, any_member, each_member, all_members}
use Rattle.ds_planner.proofs.Members.{member_append}
use Rattle.ds_planner.proofs.PairLists.{member-has_pair, same_name, name_itself}
use Rattle.ds_planner.proofs.ColumnEnds.{last_split, ends_in_key-last, without_key-last, in_front_of-last, ascending_key}
use Rattle.ds_planner.proofs.Served.{are_some-member, candidate_listed, candidate_passes, nothing_missing}

-- ---- the equality properties as columns

-- each is on the property of a pair
equal_column : (pairs : List Pair) (c : Column) → Member c (equal_columns pairs) → (p : Pair) × (Member p pairs × (c.name ≡ p.property))
equal_column [] c m = absurd m
equal_column (p ∷ ps) c m = at (goes_on p ps) (equal_column ps c) m where
  at : (g : Bool) → (Member c (equal_columns ps) → (q : Pair) × (Member q ps × (c.name ≡ q.property))) → Member c (cond g (equal_columns ps) (ascending p.property ∷ equal_columns ps)) → (q : Pair) × (Member q (p ∷ ps) × (c.name ≡ q.property))
  at true later m = let r = later m in (r.0, (inr r.1.0, r.1.1))
  at false later (inl e) = (p, (inl refl, ap (λ (d : Column). d.name) e))
  at false later (inr m) = let r = later m in (r.0, (inr r.1.0, r.1.1))

-- the first pair's property is among them
first_column : (ps : List Pair) (p : Pair) → has_column (equal_columns (p ∷ ps)) p.property ≡ true
first_column [] p = ap (λ b. b || false) (name_itself p.property)
first_column (q ∷ qs) p = at (bytes_eq p.property q.property) refl (first_column qs q) where
  at : (g : Bool) → bytes_eq p.property q.property ≡ g → has_column (equal_columns (q ∷ qs)) q.property ≡ true → has_column (cond g (equal_columns (q ∷ qs)) (ascending p.property ∷ equal_columns (q ∷ qs))) p.property ≡ true
  at true e h = ap (has_column (equal_columns (q ∷ qs))) (same_name p.property q.property e) ∙ h
  at false e h = ap (λ b. b || has_column (equal_columns (q ∷ qs)) p.property) (name_itself p.property)

-- and so is each pair's
each_column : (pairs : List Pair) (p : Pair) → Member p pairs → has_column (equal_columns pairs) p.property ≡ true
each_column [] p m = absurd m
each_column (x ∷ xs) p (inl e) = ap (λ (q : Pair). has_column (equal_columns (x ∷ xs)) q.property) e ∙ first_column xs x
each_column (x ∷ xs) p (inr m) = at (goes_on x xs) (each_column xs p m) where
  at : (g : Bool) → has_column (equal_columns xs) p.property ≡ true → has_column (cond g (equal_columns xs) (ascending x.property ∷ equal_columns xs)) p.property ≡ true
  at true h = h
  at false h = ap (λ b. bytes_eq p.property x.property || b) h ∙ or_true (bytes_eq p.property x.property)

-- ---- `__key__` last

column-named : (columns : List Column) (c : Column) → Member c columns → has_column columns c.name ≡ true
column-named columns c m = any_member (λ (d : Column). bytes_eq c.name d.name) columns c m (name_itself c.name)

ends_named : (columns : List Column) → ends_in_key columns ≡ true → (c : Column) × (Member c columns × (is_key_name c.name ≡ true))
ends_named [] h = absurd (cc h)
ends_named (c ∷ []) h = (c, (inl refl, h))
ends_named (c ∷ d ∷ columns) h = let r = ends_named (d ∷ columns) h in (r.0, (inr r.1.0, r.1.1))

-- of columns whose names differ none but the last is `__key__`, where this is
no_key_before : (t : List Column) (x c : Column) → names_differ (t ++ x ∷ []) ≡ true → is_key_name x.name ≡ true → Member c t → is_key_name c.name ≡ false
no_key_before [] x c d k m = absurd m
no_key_before (y ∷ t) x c d k (inr m) = no_key_before t x c (both (not (has_column (t ++ x ∷ []) y.name)) (names_differ (t ++ x ∷ [])) d).1 k m
no_key_before (y ∷ t) x c d k (inl e) = refuted (is_key_name c.name) (λ h.
    let same : x.name ≡ y.name = same_name x.name key_name k ∙ sym (same_name c.name key_name h) ∙ ap (λ (z : Column). z.name) e in
    let there : has_column (t ++ x ∷ []) y.name ≡ true = ap (has_column (t ++ x ∷ [])) (sym same) ∙ last_named t x in
    true_false ⊥ (has_column (t ++ x ∷ []) y.name) there (not_true (has_column (t ++ x ∷ []) y.name) (both (not (has_column (t ++ x ∷ []) y.name)) (names_differ (t ++ x ∷ [])) d).0))
  where
    last_named : (t : List Column) (x : Column) → has_column (t ++ x ∷ []) x.name ≡ true
    last_named t x = column-named (t ++ x ∷ []) x (at t) where
      at : (t : List Column) → Member x (t ++ x ∷ [])
      at [] = inl refl
      at (z ∷ t) = inr (at t)

-- ---- in front of the columns

in_front_of-itself : (front columns : List Column) → in_front_of columns (front ++ columns) ≡ Some front
in_front_of-itself front columns =
    let e : length (front ++ columns) - length columns ≡ length front = omega (arith, length-append front columns) in
    ap (λ m. cond (pointwise same_column (drop m (front ++ columns)) columns) (Some (take m (front ++ columns))) None) e
    ∙ (λ i. cond (pointwise same_column (drop-append_seam front columns i) columns) (Some (take-append_seam front columns i)) None)
    ∙ ap (λ b. cond b (Some front) None) ((lists_equiv same_column-equiv).refl columns)

-- the columns without a final `__key__` ascending, behind others that aren't on `__key__`, are those of an index that ends with them
suggested_front : (front t : List Column) (x : Column) → names_differ (t ++ x ∷ []) ≡ true → is_key_name x.name ≡ true → ((c : Column) → Member c front → is_key_name c.name ≡ false) → in_front_of (t ++ x ∷ []) (with_key (front ++ without_key (t ++ x ∷ []))) ≡ Some front
suggested_front front t x differ key apart = at (is_ascending_key x) refl where
  unended : ends_in_key (front ++ t) ≡ false
  unended = refuted (ends_in_key (front ++ t)) (λ h.
      let r = ends_named (front ++ t) h in
      elim (member_append front t r.0 r.1.0) [
        | inl m ↦ true_false ⊥ (is_key_name (r.0).name) r.1.1 (apart r.0 m)
        | inr m ↦ true_false ⊥ (is_key_name (r.0).name) r.1.1 (no_key_before t x r.0 differ key m)
      ])

  whole : without_key (t ++ x ∷ []) ≡ cond (is_ascending_key x) t (t ++ x ∷ [])
  whole = without_key-last t x

  at : (c : Bool) → is_ascending_key x ≡ c → in_front_of (t ++ x ∷ []) (with_key (front ++ without_key (t ++ x ∷ []))) ≡ Some front
  at true e =
      ap (λ ys. in_front_of (t ++ x ∷ []) (with_key (front ++ ys))) (whole ∙ ap (λ c. cond c t (t ++ x ∷ [])) e)
      ∙ ap (λ c. in_front_of (t ++ x ∷ []) (cond c (front ++ t) ((front ++ t) ++ by_key))) unended
      ∙ in_front_of-last t (front ++ t) x (ascending key_name)
      ∙ ap (λ c. cond c (in_front_of t (front ++ t)) None) (ascending_key x ∙ e)
      ∙ in_front_of-itself front t
  at false e =
      ap (λ ys. in_front_of (t ++ x ∷ []) (with_key (front ++ ys))) (whole ∙ ap (λ c. cond c t (t ++ x ∷ [])) e)
      ∙ ap (λ c. in_front_of (t ++ x ∷ []) (cond c (front ++ (t ++ x ∷ [])) ((front ++ (t ++ x ∷ [])) ++ by_key))) (ap ends_in_key (sym (append_assoc front t (x ∷ []))) ∙ ends_in_key-last (front ++ t) x ∙ key)
      ∙ in_front_of-itself front (t ++ x ∷ [])

-- ---- the index of the suggested definition

some_length : (columns : List Column) → ends_in_key columns ≡ true → 1 ≤ length columns
some_length [] h = absurd (cc h)
some_length (c ∷ columns) h = omega arith

at_last : (columns : List Column) (h : ends_in_key columns ≡ true) → (x : Column) × (x ≡ get_or columns (length columns - 1) x)
at_last [] h = absurd (cc h)
at_last (c ∷ columns) h = (get_or (c ∷ columns) (length (c ∷ columns) - 1) c, get_or-default (c ∷ columns) (length (c ∷ columns) - 1) c (omega arith))
  where
    get_or-default : {A : Type 0} (xs : List A) (k : ℕ) (d : A) → k < length xs → get_or xs k d ≡ get_or xs k (get_or xs k d)
    get_or-default [] k d h = absurd (omega arith)
    get_or-default (x ∷ xs) zero d h = refl
    get_or-default (x ∷ xs) (suc k) d h = get_or-default xs k d (omega arith)

front_of_suggestion : (b : Branch) → IsLawfulBranch b → in_front_of b.columns (with_key (equal_columns b.equal ++ without_key b.columns)) ≡ Some (equal_columns b.equal)
front_of_suggestion b lawful =
    let x = at_last b.columns lawful.key_last in
    let t = take (length b.columns - 1) b.columns in
    let split : b.columns ≡ t ++ (x.0 ∷ []) = last_split b.columns x.0 (some_length b.columns lawful.key_last) x.1 in
    let differ : names_differ (t ++ (x.0 ∷ [])) ≡ true = ap names_differ (sym split) ∙ lawful.names_differ in
    let key : is_key_name (x.0).name ≡ true = sym (ends_in_key-last t x.0) ∙ ap ends_in_key (sym split) ∙ lawful.key_last in
    let apart : (c : Column) → Member c (equal_columns b.equal) → is_key_name c.name ≡ false = λ c m.
    let r = equal_column b.equal c m in
    ap is_key_name r.1.1 ∙ not_true (is_key_name (r.0).property) (each_member (λ (p : Pair). not (is_key_name p.property)) b.equal r.0 lawful.no_key_pair r.1.0) in
    (λ i. in_front_of (split i) (with_key (equal_columns b.equal ++ without_key (split i)))) ∙ suggested_front (equal_columns b.equal) t x.0 differ key apart

usable : (kind : Option (List ℕ)) → is_some kind ≡ true → is_of_kind kind (unwrap_or kind []) ≡ true
usable None h = absurd (cc h)
usable (Some k) h = name_itself k

either : (c : Bool) → (not c || c) ≡ true
either true = refl
either false = refl

module _ (b : Branch) (defs : List IndexDef) (k : ℕ) (lawful : IsLawfulBranch b) (kind : is_some b.kind ≡ true) (there : slice_get defs k ≡ Some (suggestion_of b)) where
  led_by : leading b defs (index.Composite k) ≡ Some (equal_columns b.equal)
  led_by =
      ap (λ o. option_and_then (in_front_of b.columns) (defined_columns b o)) there
      ∙ ap (λ c. option_and_then (in_front_of b.columns) (cond c (Some (with_key (equal_columns b.equal ++ without_key b.columns))) None)) (join (is_of_kind b.kind (unwrap_or b.kind [])) (not (is_some b.ancestor) || is_some b.ancestor) (usable b.kind kind) (either (is_some b.ancestor)))
      ∙ front_of_suggestion b lawful

  suggested_candidate : is_candidate b defs (index.Composite k) ≡ true
  suggested_candidate =
      ap (are_paired b.equal) led_by
      ∙ all_members (λ (c : Column). has_pair b.equal c.name) (equal_columns b.equal) (λ c m. let r = equal_column b.equal c m in ap (has_pair b.equal) r.1.1 ∙ member-has_pair b.equal r.0 r.1.0)

  suggested_leads : (p : Pair) → Member p b.equal → leads b defs (index.Composite k) p.property ≡ true
  suggested_leads p m = ap (λ o. names_column o p.property) led_by ∙ each_column b.equal p m

  suggested_ancestor : is_some b.ancestor ≡ true → binds_ancestor b defs (index.Composite k) ≡ true
  suggested_ancestor e =
      ap (λ c. is_by_key b.columns || c) (ap (λ o. unwrap_or (option_map (λ (d : IndexDef). d.ancestor) o) false) there ∙ e) ∙ or_true (is_by_key b.columns)

  -- where the suggestion stands among the definitions nothing is missing
  pub suggestion_served : constraint_of b defs ≡ None
  suggestion_served = nothing_missing b defs (record {
    some = are_some-member (candidates b defs) (index.Composite k) (candidate_listed b defs lawful.key_last (index.Composite k) suggested_candidate);
    ancestor = λ e. candidate_passes b defs lawful.key_last (binds_ancestor b defs) (index.Composite k) suggested_candidate (suggested_ancestor e);
    each = λ p m. candidate_passes b defs lawful.key_last (λ i. leads b defs i p.property) (index.Composite k) suggested_candidate (suggested_leads p m);
  })
