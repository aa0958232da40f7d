-- A walk over the strings that scans have in common: what is kept of the rows that it has reached.
use Rattle.std.proofs.Common.{◌≡◌, ◌⊎◌, inl, inr, ℕ, List, [], ◌∷◌, ◌++◌, length, map, fold, Bool, true, false, ◌&&◌, ◌||◌}
use Rattle.std.proofs.Common.{not, cond, refl, sym, ap, ◌∙◌, subst, Option, Some, None, append_assoc, append-nil, take}
use Rattle.std.specs.Prelude.{filter, IsTrue}
use Rattle.std.specs.List.{list_any}
use Rattle.std.specs.Ordering.{is_eq, is_gt, is_lt, ordering_reverse}
use Rattle.std.specs.declared.cmp.Ordering.{Ordering}
use Rattle.std.specs.declared.cmp.Ordering.TheVariants.{Less, Equal, Greater}
use Rattle.std.specs.Cmp.Lexicographic.{nat_list_cmp_total, pointwise}
use Rattle.std.proofs.Math.Seq.{take-append_seam}
use Rattle.ds_base.specs.declared.column.Column.{Column}
use Rattle.ds_base.specs.declared.index_value.IndexValue.{IndexValue}
use Rattle.ds_base.specs.KeyOrder.{bytes_cmp, same_key}
use Rattle.ds_base.specs.KeyOrderLaws.{same_key-decides}
use Rattle.ds_base.specs.IndexOrder.{index_value_cmp}
use Rattle.ds_base.specs.IndexOrderLaws.{index_value_cmp-Equal}
use Rattle.ds_base.specs.SortingLaws.{Ascends, NoneBefore, Ascends-from_IsSorted}
use Rattle.ds_bytes.specs.Rows.{RowParts, IsRow}
use Rattle.ds_bytes.specs.RowLaws.{row_bytes-reads_once}
use Rattle.ds_cursor.specs.RowsOfColumns.{directions}
use Rattle.ds_base.specs.KeyColumn.{key_descends}
use Rattle.ds_query.specs.declared.row.Row.{Row}
use Rattle.ds_planner.proofs.Members.{Member, member_contained, map_member, filter_member, member_filter, join}
use Rattle.ds_planner.proofs.Members.{true_false, not_true}
use Rattle.ds_zigzag.specs.Spans.{is_below, is_above}
use Rattle.ds_zigzag.specs.CommonStrings.{IsNextCommon, HasNoNextCommon}
use Rattle.ds_zigzag.proofs.Order.{below_below, below_upto, same_unless_below, not_below_itself}
use Rattle.ds_model.specs.Rows.{place_of}
use Rattle.ds_model.specs.Results.{at_most, first_of_each, same_mark, projected_values}
use Rattle.ds_pages.specs.Places.{IsPlaced, parts_of}
use Rattle.ds_pages.proofs.FirstLaws.{with_item}
use Rattle.ds_branch.specs.Common.{AreCommonRows, IsCommonAfter}
use Rattle.ds_scan.proofs.MemberLists.{all_member}

-- ---- first occurrence

module _ {A : Type 0} (same : A → A → Bool) where
  any_last : (kept : List A) (x y : A) → same x y ≡ true → list_any (same x) (kept ++ y ∷ []) ≡ true
  any_last [] x y e = ap (λ b. b || false) e
  any_last (k ∷ kept) x y e = by (same x k) (any_last kept x y e) where
    by : (b : Bool) → list_any (same x) (kept ++ y ∷ []) ≡ true → (b || list_any (same x) (kept ++ y ∷ [])) ≡ true
    by true h = refl
    by false h = h

  -- the same item once more changes nothing
  pub once_more : (kept : List A) (x : A) → same x x ≡ true → with_item same (with_item same kept x) x ≡ with_item same kept x
  once_more kept x itself = by (list_any (same x) kept) refl where
    by : (b : Bool) → list_any (same x) kept ≡ b
        → with_item same (cond b kept (kept ++ x ∷ [])) x ≡ cond b kept (kept ++ x ∷ [])
    by true e = ap (λ b. cond b kept (kept ++ x ∷ [])) e
    by false e = ap (λ b. cond b (kept ++ x ∷ []) ((kept ++ x ∷ []) ++ x ∷ [])) (any_last kept x x itself)

  pub all_again : (kept ys : List A) (x : A) → same x x ≡ true → ((y : A) → Member y ys → y ≡ x)
      → fold (with_item same) (with_item same kept x) ys ≡ with_item same kept x
  all_again kept [] x itself are = refl
  all_again kept (y ∷ ys) x itself are =
      ap (λ z. fold (with_item same) (with_item same (with_item same kept x) z) ys) (are y (inl refl))
      ∙ ap (λ ks. fold (with_item same) ks ys) (once_more kept x itself)
      ∙ all_again kept ys x itself (λ z m. are z (inr m))

  pub all_one : (kept ys : List A) (x : A) → same x x ≡ true → ((y : A) → Member y ys → y ≡ x) → Member x ys
      → fold (with_item same) kept ys ≡ with_item same kept x
  all_one kept [] x itself are m = absurd m
  all_one kept (y ∷ ys) x itself are m =
      ap (λ z. fold (with_item same) (with_item same kept z) ys) (are y (inl refl)) ∙ all_again kept ys x itself (λ z n. are z (inr n))

  -- what is kept stays in front
  pub kept_in_front : (kept xs : List A) → (more : List A) × (fold (with_item same) kept xs ≡ kept ++ more)
  kept_in_front kept [] = ([], sym (append-nil kept))
  kept_in_front kept (x ∷ xs) = by (list_any (same x) kept) (kept_in_front kept xs) (kept_in_front (kept ++ x ∷ []) xs) where
    by : (b : Bool) → (more : List A) × (fold (with_item same) kept xs ≡ kept ++ more)
        → (more : List A) × (fold (with_item same) (kept ++ x ∷ []) xs ≡ (kept ++ x ∷ []) ++ more)
        → (more : List A) × (fold (with_item same) (cond b kept (kept ++ x ∷ [])) xs ≡ kept ++ more)
    by true old new = old
    by false old new = (x ∷ new.0, new.1 ∙ append_assoc kept (x ∷ []) new.0)

-- ---- filters

filter_none : {A : Type 0} (p : A → Bool) (xs : List A) → ((x : A) → Member x xs → p x ≡ false) → filter p xs ≡ []
filter_none p [] h = refl
filter_none p (x ∷ xs) h = ap (λ b. cond b (x ∷ filter p xs) (filter p xs)) (h x (inl refl)) ∙ filter_none p xs (λ y m. h y (inr m))

filter_all : {A : Type 0} (p : A → Bool) (xs : List A) → ((x : A) → Member x xs → p x ≡ true) → filter p xs ≡ xs
filter_all p [] h = refl
filter_all p (x ∷ xs) h =
    ap (λ b. cond b (x ∷ filter p xs) (filter p xs)) (h x (inl refl)) ∙ ap (λ ys. x ∷ ys) (filter_all p xs (λ y m. h y (inr m)))

not_gt : (x y : List ℕ) → is_gt (bytes_cmp x y) ≡ false → is_below y x ≡ false
not_gt x y e = ap is_lt (nat_list_cmp_total.antisymm y x) ∙ turned (bytes_cmp x y) e where
  turned : (r : Ordering) → is_gt r ≡ false → is_lt (ordering_reverse r) ≡ false
  turned Less e = refl
  turned Equal e = refl
  turned Greater e = absurd (cc e)

-- ---- marks

values_themselves : (vs : List IndexValue) → pointwise (λ v w. is_eq (index_value_cmp v w)) vs vs ≡ true
values_themselves [] = refl
values_themselves (v ∷ vs) = λ i. ap is_eq ((index_value_cmp-Equal v v).1 refl) i && values_themselves vs i

pub mark_itself : (columns : List Column) (names : List (List ℕ)) (x : RowParts) → same_mark columns names x x ≡ true
mark_itself columns names x =
    join (same_key x.key x.key) (pointwise (λ v w. is_eq (index_value_cmp v w)) (projected_values columns names x) (projected_values
    columns names x))
    ((same_key-decides x.key x.key).1 refl) (values_themselves (projected_values columns names x))

-- ---- rows that were reached

pub place_tells : (columns : List Column) (x y : RowParts) → IsRow (directions columns) x → IsRow (directions columns) y
    → place_of columns x ≡ place_of columns y → x ≡ y
place_tells columns x y p q e =
    (row_bytes-reads_once (directions columns) (key_descends columns) x y [] [] p q (ap (λ (bs : List ℕ). bs ++ []) e)).0

above_more : (last : Option (List ℕ)) (x y : List ℕ) → is_above last x ≡ true → is_below y x ≡ false → is_above last y ≡ true
above_more None x y a b = refl
above_more (Some l) x y a b = below_upto l x y a b

module _ (columns : List Column) (names : List (List ℕ)) where
  -- the walk stands at or behind the row's place
  abbrev pub reached : Option (List ℕ) → RowParts → Bool
  reached last r = not (is_above last (place_of columns r))

  -- of the rows that were reached the first of each mark
  abbrev pub kept_at : Option (List ℕ) → List RowParts → List RowParts
  kept_at last sorted = first_of_each (same_mark columns names) (filter (reached last) sorted)

  abbrev Above : RowParts → List RowParts → Type 0
  Above x ys = NoneBefore bytes_cmp (place_of columns x) (map (place_of columns) ys)

  later : (x : RowParts) (ys : List RowParts) → Above x ys → (y : RowParts) → Member y ys
      → is_below (place_of columns y) (place_of columns x) ≡ false
  later x [] h y m = absurd m
  later x (z ∷ ys) h y (inl e) = ap (λ (r : RowParts). is_below (place_of columns r) (place_of columns x)) e
      ∙ not_gt (place_of columns x) (place_of columns z) h.0
  later x (z ∷ ys) h y (inr m) = later x ys h.1 y m

  -- behind a row that wasn't reached none was
  none_reached : (last : Option (List ℕ)) (x : RowParts) (ys : List RowParts) → Above x ys → reached last x ≡ false
      → filter (reached last) (x ∷ ys) ≡ []
  none_reached last x ys up e =
      filter_none (reached last) (x ∷ ys) (λ y m. ap not (above_more last (place_of columns x) (place_of columns y) (was_true (is_above
      last (place_of columns x)) e) (here y m))) where
        was_true : (b : Bool) → not b ≡ false → b ≡ true
        was_true true e = refl
        was_true false e = absurd (cc e)

        here : (y : RowParts) → Member y (x ∷ ys) → is_below (place_of columns y) (place_of columns x) ≡ false
        here y (inl h) = ap (λ (r : RowParts). is_below (place_of columns r) (place_of columns x)) h ∙ not_below_itself (place_of columns x)
        here y (inr m) = later x ys up y m

  -- one place further: the next one that is there
  module _ (last : Option (List ℕ)) (a : List ℕ) (row : RowParts) (lawful : IsRow (directions columns) row) (at_place : place_of columns
      row ≡ a)
      (above : is_above last a ≡ true) where
    was_reached : (x : RowParts) → reached last x ≡ true → reached (Some a) x ≡ true
    was_reached x e = by last above e where
      by : (l : Option (List ℕ)) → is_above l a ≡ true → not (is_above l (place_of columns x)) ≡ true
          → not (is_below a (place_of columns x)) ≡ true
      by None h g = absurd (cc g)
      by (Some l) h g =
          ap not (below_none l (place_of columns x) h (not_true (is_below l (place_of columns x)) g)) where
            below_none : (l p : List ℕ) → is_below l a ≡ true → is_below l p ≡ false → is_below a p ≡ false
            below_none l p h g = by2 (is_below a p) refl where
              by2 : (b : Bool) → is_below a p ≡ b → b ≡ false
              by2 false e = refl
              by2 true e = true_false (true ≡ false) (is_below l p) (below_below l a p h e) g

    same_place : (x : RowParts) → IsRow (directions columns) x → reached (Some a) x ≡ true → is_below (place_of columns x) a ≡ false
        → x ≡ row
    same_place x p r b =
        place_tells columns x row p lawful
        (same_unless_below (place_of columns x) a b (not_true (is_below a (place_of columns x)) r) ∙ sym at_place)

    at_row : reached (Some a) row ≡ true
    at_row = ap not (ap (is_below a) at_place ∙ not_below_itself a)

    not_before : reached last row ≡ false
    not_before = ap not (ap (is_above last) at_place ∙ above)

    pub one_further : (kept xs : List RowParts) → Ascends bytes_cmp (map (place_of columns) xs)
        → ((x : RowParts) → Member x xs → IsRow (directions columns) x)
        → ((x : RowParts) → Member x xs → reached last x ≡ false → is_below (place_of columns x) a ≡ false)
        → Member row xs
        → fold (with_item (same_mark columns names)) kept (filter (reached (Some a)) xs)
        ≡ with_item (same_mark columns names) (fold (with_item (same_mark columns names)) kept (filter (reached last) xs)) row
    one_further kept [] up rows least m = absurd m
    one_further kept (x ∷ xs) up rows least m =
        by (reached last x) refl (λ ks h. one_further ks xs up.1 (λ y n. rows y (inr n)) (λ y n. least y (inr n)) h) where
          w : List RowParts → RowParts → List RowParts
          w = with_item (same_mark columns names)

          in_rest : reached last x ≡ true → (row ≡ x) ⊎ Member row xs → Member row xs
          in_rest e (inl h) = true_false (Member row xs) (reached last row) (ap (reached last) h ∙ e) not_before
          in_rest e (inr n) = n

          by : (b : Bool) → reached last x ≡ b
              → ((ks : List RowParts) → Member row xs → fold w ks (filter (reached (Some a)) xs)
              ≡ w (fold w ks (filter (reached last) xs)) row)
              → fold w kept (filter (reached (Some a)) (x ∷ xs)) ≡ w (fold w kept (filter (reached last) (x ∷ xs))) row
          by true e further =
              ap (λ b. fold w kept (cond b (x ∷ filter (reached (Some a)) xs) (filter (reached (Some a)) xs))) (was_reached x e)
              ∙ further (w kept x) (in_rest e m)
              ∙ ap (λ b. w (fold w kept (cond b (x ∷ filter (reached last) xs) (filter (reached last) xs))) row) (sym e)
          by false e further =
              let all : List RowParts = filter (reached (Some a)) (x ∷ xs) in
              all_one (same_mark columns names) kept all row (mark_itself columns names row)
              (λ y n.
              let f = filter_member (reached (Some a)) (x ∷ xs) y n in
              same_place y (rows y f.0) f.1 (least y f.0 (all_later y f.0)))
              (member_filter (reached (Some a)) (x ∷ xs) row m at_row)
              ∙ ap (λ ys. w (fold w kept ys) row) (sym (none_reached last x xs up.0 e)) where
                all_later : (y : RowParts) → Member y (x ∷ xs) → reached last y ≡ false
                all_later y n = by3 (reached last y) refl where
                  by3 : (b : Bool) → reached last y ≡ b → b ≡ false
                  by3 false g = refl
                  by3 true g = absurd (subst (λ ys. Member y ys) (none_reached last x xs up.0 e) (member_filter (reached last) (x ∷ xs) y
                      n g))

  -- what was kept so far stands in front of all that will be
  pub kept_first : (last : Option (List ℕ)) (kept xs : List RowParts) → Ascends bytes_cmp (map (place_of columns) xs)
      → (more : List RowParts) × (fold (with_item (same_mark columns names)) kept xs
      ≡ fold (with_item (same_mark columns names)) kept (filter (reached last) xs) ++ more)
  kept_first last kept [] up = ([], sym (append-nil kept))
  kept_first last kept (x ∷ xs) up = by (reached last x) refl (λ ks. kept_first last ks xs up.1) where
    w : List RowParts → RowParts → List RowParts
    w = with_item (same_mark columns names)

    by : (b : Bool) → reached last x ≡ b
        → ((ks : List RowParts) → (more : List RowParts) × (fold w ks xs ≡ fold w ks (filter (reached last) xs) ++ more))
        → (more : List RowParts) × (fold w kept (x ∷ xs) ≡ fold w kept (filter (reached last) (x ∷ xs)) ++ more)
    by true e first =
        let r = first (w kept x) in
        (r.0, r.1 ∙ ap (λ b. fold w kept (cond b (x ∷ filter (reached last) xs) (filter (reached last) xs)) ++ r.0) (sym e))
    by false e first =
        let r = kept_in_front (same_mark columns names) kept (x ∷ xs) in
        (r.0, r.1 ∙ ap (λ ys. fold w kept ys ++ r.0) (sym (none_reached last x xs up.0 e)))

  -- ---- a walk

  module _ (after : Option (List ℕ)) (lists : List (List (List ℕ))) (sorted : List RowParts) (are : AreCommonRows columns after lists
      sorted) where
    up : Ascends bytes_cmp (map (place_of columns) sorted)
    up = Ascends-from_IsSorted nat_list_cmp_total (map (place_of columns) sorted) are.ascend

    is_common : (x : RowParts) → Member x sorted → IsCommonAfter columns after lists x
    is_common x m = all_member (IsCommonAfter columns after lists) sorted x are.common m

    -- before the first answer nothing is kept
    pub none_kept : kept_at after sorted ≡ []
    none_kept =
        ap (first_of_each (same_mark columns names))
        (filter_none (reached after) sorted (λ x m. ap not (is_common x m).above))

    -- the row at the next place is kept where none of its mark is
    pub next_kept : (last : Option (List ℕ)) (a : List ℕ) (row : Row) → IsNextCommon last lists a
        → ((x : List ℕ) → IsTrue (is_above last x) → IsTrue (is_above after x)) → IsPlaced columns row → row.place.bytes ≡ a
        → kept_at (Some a) sorted ≡ with_item (same_mark columns names) (kept_at last sorted) (parts_of row)
    next_kept last a row next onward p at_a =
        let place : place_of columns (parts_of row) ≡ a = sym (ap (λ (r : Row). r.place.bytes) p.place) ∙ at_a in
        let there = map_member (place_of columns) sorted a
        (member_contained (map (place_of columns) sorted) a (are.whole a next.common (onward a next.above))) in
        let same : there.0 ≡ parts_of row = place_tells columns there.0 (parts_of row) (is_common there.0 there.1.0).row p.lawful
        (sym there.1.1 ∙ sym place) in
        one_further last a (parts_of row) p.lawful place next.above [] sorted up (λ x m. (is_common x m).row)
        (λ x m e. next.least (place_of columns x) (is_common x m).common (was_true (is_above last (place_of columns x)) e))
        (subst (λ r. Member r sorted) same there.1.0) where
          was_true : (b : Bool) → not b ≡ false → b ≡ true
          was_true true e = refl
          was_true false e = absurd (cc e)

    -- where no string is left all rows were reached
    pub all_kept : (last : Option (List ℕ)) → HasNoNextCommon last lists → kept_at last sorted
        ≡ first_of_each (same_mark columns names) sorted
    all_kept last none =
        ap (first_of_each (same_mark columns names))
        (filter_all (reached last) sorted (λ x m. ap not (none (place_of columns x) (is_common x m).common)))

    -- where as many are kept as are wanted, they are the first
    pub enough_kept : (last : Option (List ℕ)) (most : ℕ) → length (kept_at last sorted) ≡ most
        → kept_at last sorted ≡ at_most (Some most) (first_of_each (same_mark columns names) sorted)
    enough_kept last most long =
        let r = kept_first last [] sorted up in
        sym (ap (take most) r.1 ∙ ap (λ n. take n (kept_at last sorted ++ r.0)) (sym long) ∙ take-append_seam (kept_at last sorted) r.0)
