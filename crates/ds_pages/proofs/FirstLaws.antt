-- Of each mark the first row: one row more, and the same of rows without their places.
use Rattle.std.proofs.Common.{◌≡◌, Bool, true, false, ◌||◌, List, [], ◌∷◌, ◌++◌, map, fold, cond, not, refl, sym, ap, subst, ◌∙◌}
use Rattle.std.specs.Bool.{OnFalse}
use Rattle.std.specs.List.{list_any}
use Rattle.std.specs.BTreeMap.{is_at}
use Rattle.std.specs.BTreeSet.{insert_key}
use Rattle.std.specs.Ordering.{is_eq}
use Rattle.std.proofs.lemmas.Cmp.{alike_right}
use Rattle.std.proofs.lemmas.List.{map_push}
use Rattle.std.proofs.lemmas.List.Folds.{list_any-append}
use Rattle.std.proofs.lemmas.List.Sums.{fold-append}
use Rattle.std.specs.Prelude.{Option, ℕ}
use Rattle.ds_base.specs.SortingLaws.{list_any-insert_key}
use Rattle.ds_query.specs.declared.row.Row.{Row}
use Rattle.ds_pages.specs.Pages.{first_of_each}
use Rattle.ds_pages.specs.declared.marks.Mark.{Mark}
use Rattle.ds_pages.specs.FirstRows.{AreMarks}
use Rattle.ds_pages.specs.Marks.{mark_cmp, mark_cmp-total, mark_of, is_same}

-- ---- one row more

-- what stands after one item more
abbrev pub with_item : {A : Type 0} → (A → A → Bool) → List A → A → List A
with_item same kept x = cond (list_any (same x) kept) kept (kept ++ x ∷ [])

-- the first of each mark of the rows, and the set of their marks
pub record Kept (slots : List (Option ℕ)) (keys : List Mark) (kept done : List Row) : Type 0 where
  pub first : kept ≡ first_of_each (is_same slots) done
  pub marks : (m : Mark) → list_any (is_at (mark_cmp m)) keys ≡ list_any (λ r. is_eq (mark_cmp m (mark_of slots r))) kept

turned : (a b : Bool) → (a || b) ≡ (b || (a || false))
turned true true = refl
turned true false = refl
turned false true = refl
turned false false = refl

module _ (slots : List (Option ℕ)) (keys : List Mark) (kept done : List Row) (k : Kept slots keys kept done) (row : Row) where
  more : first_of_each (is_same slots) (done ++ row ∷ []) ≡ with_item (is_same slots) kept row
  more =
      fold-append (with_item (is_same slots)) [] done (row ∷ [])
      ∙ ap (λ f. with_item (is_same slots) f row) (sym k.first)

  pub kept_new : list_any (is_at (mark_cmp (mark_of slots row))) keys ≡ false
      → Kept slots (insert_key mark_cmp keys (mark_of slots row)) (kept ++ row ∷ []) (done ++ row ∷ [])
  kept_new new = record {
    first = sym (more ∙ ap (λ b. cond b kept (kept ++ row ∷ [])) (sym (k.marks (mark_of slots row)) ∙ new));
    marks = λ m.
        list_any-insert_key mark_cmp (is_at (mark_cmp m)) (λ x y e. ap is_eq (alike_right mark_cmp-total x y m e)) keys (mark_of slots row)
        ∙ ap (λ b. is_eq (mark_cmp m (mark_of slots row)) || b) (k.marks m)
        ∙ turned (is_eq (mark_cmp m (mark_of slots row))) (list_any (λ r. is_eq (mark_cmp m (mark_of slots r))) kept)
        ∙ sym (list_any-append (λ r. is_eq (mark_cmp m (mark_of slots r))) kept (row ∷ []));
  }

  pub kept_old : list_any (is_at (mark_cmp (mark_of slots row))) keys ≡ true → Kept slots keys kept (done ++ row ∷ [])
  kept_old old = record {
    first = sym (more ∙ ap (λ b. cond b kept (kept ++ row ∷ [])) (sym (k.marks (mark_of slots row)) ∙ old));
    marks = k.marks;
  }

-- one mark more among those of the rows
pub marks_more : (slots : List (Option ℕ)) (keys : List Mark) (rows : List Row) (row : Row) (mark : Mark) → mark ≡ mark_of slots row
    → AreMarks slots keys rows → AreMarks slots (insert_key mark_cmp keys mark) (rows ++ row ∷ [])
marks_more slots keys rows row mark is are = λ m.
    list_any-insert_key mark_cmp (is_at (mark_cmp m)) (λ x y e. ap is_eq (alike_right mark_cmp-total x y m e)) keys mark
    ∙ (λ i. is_eq (mark_cmp m (is i)) || are m i)
    ∙ turned (is_eq (mark_cmp m (mark_of slots row))) (list_any (λ r. is_eq (mark_cmp m (mark_of slots r))) rows)
    ∙ sym (list_any-append (λ r. is_eq (mark_cmp m (mark_of slots r))) rows (row ∷ []))

not_false : (b : Bool) → not b ≡ true → b ≡ false
not_false true e = absurd (cc e)
not_false false e = refl

not_true : (b : Bool) → not b ≡ false → b ≡ true
not_true true e = refl
not_true false e = absurd (cc e)

where_false : {P : Type 0} (b : Bool) → OnFalse b P → b ≡ false → P
where_false true h e = absurd (cc e)
where_false false h e = h

-- the same, by what putting the mark into the set has told
module _ (slots : List (Option ℕ)) (keys keys' : List Mark) (kept kept' done : List Row) (k : Kept slots keys kept done) (row : Row)
    (mark : Mark) (added : Bool) (is : mark ≡ mark_of slots row) (says : added ≡ not (list_any (is_at (mark_cmp mark)) keys)) where
  pub kept_pushed : keys' ≡ insert_key mark_cmp keys mark → added ≡ true → kept' ≡ kept ++ row ∷ []
      → Kept slots keys' kept' (done ++ row ∷ [])
  kept_pushed puts new_one pushed =
      let new : list_any (is_at (mark_cmp (mark_of slots row))) keys ≡ false =
      ap (λ m. list_any (is_at (mark_cmp m)) keys) (sym is) ∙ not_false (list_any (is_at (mark_cmp mark)) keys) (sym says ∙ new_one) in
      let there : keys' ≡ insert_key mark_cmp keys (mark_of slots row) = puts ∙ ap (insert_key mark_cmp keys) is in
      subst (λ ks. Kept slots ks kept' (done ++ row ∷ [])) (sym there)
      (subst (λ rs. Kept slots (insert_key mark_cmp keys (mark_of slots row)) rs (done ++ row ∷ [])) (sym pushed)
      (kept_new slots keys kept done k row new))

  pub kept_left : OnFalse added (keys' ≡ keys) → added ≡ false → Kept slots keys' kept (done ++ row ∷ [])
  kept_left left old_one =
      let same : keys' ≡ keys = where_false added left old_one in
      let old : list_any (is_at (mark_cmp (mark_of slots row))) keys ≡ true =
      ap (λ m. list_any (is_at (mark_cmp m)) keys) (sym is) ∙ not_true (list_any (is_at (mark_cmp mark)) keys) (sym says ∙ old_one) in
      subst (λ ks. Kept slots ks kept (done ++ row ∷ [])) (sym same) (kept_old slots keys kept done k row old)

-- ---- through a function that keeps what is the same

module _ {A B : Type 0} (f : A → B) (s : B → B → Bool) (t : A → A → Bool) (alike : (x y : A) → s (f x) (f y) ≡ t x y) where
  any : (x : A) (ys : List A) → list_any (s (f x)) (map f ys) ≡ list_any (t x) ys
  any x [] = refl
  any x (y ∷ ys) = λ i. alike x y i || any x ys i

  pub with_item-map : (kept : List A) (x : A) → with_item s (map f kept) (f x) ≡ map f (with_item t kept x)
  with_item-map kept x = ap (λ b. cond b (map f kept) (map f kept ++ f x ∷ [])) (any x kept) ∙ by (list_any (t x) kept) where
    by : (b : Bool) → cond b (map f kept) (map f kept ++ f x ∷ []) ≡ map f (cond b kept (kept ++ x ∷ []))
    by true = refl
    by false = sym (map_push f kept x)

  each : (kept xs : List A) → fold (with_item s) (map f kept) (map f xs) ≡ map f (fold (with_item t) kept xs)
  each kept [] = refl
  each kept (x ∷ xs) = ap (λ ks. fold (with_item s) ks (map f xs)) (with_item-map kept x) ∙ each (with_item t kept x) xs

  pub first_of_each-map : (xs : List A) → first_of_each s (map f xs) ≡ map f (first_of_each t xs)
  first_of_each-map xs = each [] xs
