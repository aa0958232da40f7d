-- The keys of rows as a set of their bytes: one row more.
use Rattle.std.proofs.Common.{◌≡◌, ℕ, ◌+◌, ◌<◌, ◌≤◌, Bool, true, false, not, ◌||◌, List, [], ◌∷◌, ◌++◌, cond, refl, sym, ap, ◌∙◌}
use Rattle.std.specs.Prelude.{All, nat_eq}
use Rattle.std.specs.Cmp.Lexicographic.{bytes_decides, pointwise}
use Rattle.std.specs.List.{list_any}
use Rattle.std.specs.Ordering.{is_eq, ordering_then}
use Rattle.std.specs.declared.cmp.Ordering.{Ordering}
use Rattle.std.specs.declared.cmp.Ordering.TheVariants.{Less, Equal, Greater}
use Rattle.std.proofs.lemmas.List.Elements.{All-head, All-push, All-tail}
use Rattle.std.proofs.lemmas.List.Folds.{list_any-append}
use Rattle.ds_base.specs.Keys.{KeyParts}
use Rattle.ds_base.specs.KeyColumn.{key_descends}
use Rattle.ds_base.specs.KeyOrder.{key_cmp, same_key}
use Rattle.ds_base.specs.KeyOrderLaws.{same_key-decides}
use Rattle.ds_base.specs.declared.column.Column.{Column}
use Rattle.ds_bytes.specs.Encoding.{key_encoding}
use Rattle.ds_bytes.specs.EncodingLaws.{key_encoding-reads_once}
use Rattle.ds_bytes.specs.Lawful.{IsKeyOfBytes}
use Rattle.ds_query.specs.declared.row.Row.{Row}
use Rattle.ds_pages.specs.Marks.{is_same}
use Rattle.ds_pages.specs.Places.{IsPlaced}
use Rattle.ds_branch.specs.Kept.{AreKeyBytes, AreOfKeys, IsPutByKey, with_row_if}
use Rattle.ds_branch.proofs.Skipping.{passed, read}

either_way : (a b : Bool) → (a ≡ true → b ≡ true) → (b ≡ true → a ≡ true) → a ≡ b
either_way true b to back = sym (to refl)
either_way false true to back = back refl
either_way false false to back = refl

flip : (x y : List ℕ) → pointwise nat_eq x y ≡ pointwise nat_eq y x
flip x y =
    either_way (pointwise nat_eq x y) (pointwise nat_eq y x) (λ e. (bytes_decides y x).1 (sym ((bytes_decides x y).0 e)))
    (λ e. (bytes_decides x y).1 (sym ((bytes_decides y x).0 e)))

turned : (a b : Bool) → cond a true b ≡ (b || (a || false))
turned true true = refl
turned true false = refl
turned false true = refl
turned false false = refl

-- two keys are the same where their bytes are
bytes_tell : (descending : Bool) (x y : KeyParts) → IsKeyOfBytes x → IsKeyOfBytes y
    → pointwise nat_eq (key_encoding descending x) (key_encoding descending y) ≡ same_key x y
bytes_tell descending x y p q =
    either_way (pointwise nat_eq (key_encoding descending x) (key_encoding descending y)) (same_key x y)
    (λ e. (same_key-decides x y).1 (key_encoding-reads_once descending x y [] [] p q
    (ap (λ (bs : List ℕ). bs ++ []) ((bytes_decides (key_encoding descending x) (key_encoding descending y)).0 e))).0)
    (λ e. (bytes_decides (key_encoding descending x) (key_encoding descending y)).1 (ap (key_encoding descending) ((same_key-decides x
    y).0 e)))

same_in : (columns : List Column) (descending : Bool) (key : KeyParts) (rows : List Row) → IsKeyOfBytes key → All (IsPlaced columns) rows
    → list_any (λ (r : Row). pointwise nat_eq (key_encoding descending key) (key_encoding descending r.key)) rows
    ≡ list_any (λ (r : Row). same_key key r.key) rows
same_in columns descending key [] p all = refl
same_in columns descending key (r ∷ rows) p all =
    λ i. bytes_tell descending key r.key p (All-head (IsPlaced columns) r rows all).lawful.key i
    || same_in columns descending key rows p (All-tail (IsPlaced columns) r rows all) i

-- where nothing is projected a mark is a key
pub same_without : (x y : Row) → is_same [] x y ≡ same_key x.key y.key
same_without x y = by (key_cmp x.key y.key) where
  by : (o : Ordering) → is_eq (ordering_then o Equal) ≡ is_eq o
  by Less = refl
  by Equal = refl
  by Greater = refl

pub known_without : (row : Row) (rows : List Row) → list_any (is_same [] row) rows ≡ list_any (λ (r : Row). same_key row.key r.key) rows
known_without row [] = refl
known_without row (r ∷ rows) = λ i. same_without row r i || known_without row rows i

pub placed_if : (columns : List Column) (is_new : Bool) (rows : List Row) (row : Row) → All (IsPlaced columns) rows → IsPlaced columns row
    → All (IsPlaced columns) (with_row_if is_new rows row)
placed_if columns true rows row all p = All-push (IsPlaced columns) rows row all p
placed_if columns false rows row all p = all

module _ (columns : List Column) (skip skipped : ℕ) (kept : List Row) (before after : List (List ℕ)) (rows : List Row) (row : Row)
    (bytes : List ℕ) (added : Bool) (are : AreOfKeys columns skip skipped kept before rows) (placed : IsPlaced columns row)
    (its : bytes ≡ key_encoding (key_descends columns) row.key) (is : added ≡ not (list_any (pointwise nat_eq bytes) before))
    (updates : (other : List ℕ) → list_any (pointwise nat_eq other) after
    ≡ cond (pointwise nat_eq bytes other) true (list_any (pointwise nat_eq other) before)) where
  new_is : added ≡ not (list_any (λ (r : Row). same_key row.key r.key) rows)
  new_is = is ∙ ap not (are.known bytes
      ∙ ap (λ (bs : List ℕ). list_any (λ (r : Row). pointwise nat_eq bs (key_encoding (key_descends columns) r.key)) rows) its
      ∙ same_in columns (key_descends columns) row.key rows placed.lawful.key are.placed)

  one_more : added ≡ true → AreKeyBytes (key_descends columns) after (rows ++ row ∷ [])
  one_more e other =
      updates other
      ∙ (λ i. cond ((flip bytes other ∙ ap (pointwise nat_eq other) its) i) true (are.known other i))
      ∙ turned (pointwise nat_eq other (key_encoding (key_descends columns) row.key))
      (list_any (λ (r : Row). pointwise nat_eq other (key_encoding (key_descends columns) r.key)) rows)
      ∙ sym (list_any-append (λ (r : Row). pointwise nat_eq other (key_encoding (key_descends columns) r.key)) rows (row ∷ []))

  none_more : added ≡ false → AreKeyBytes (key_descends columns) after rows
  none_more e other = updates other ∙ by (pointwise nat_eq bytes other) refl ∙ are.known other where
    was : list_any (pointwise nat_eq bytes) before ≡ true
    was = not_false (list_any (pointwise nat_eq bytes) before) (sym is ∙ e) where
      not_false : (b : Bool) → not b ≡ false → b ≡ true
      not_false true h = refl
      not_false false h = absurd (cc h)

    by : (b : Bool) → pointwise nat_eq bytes other ≡ b
        → cond (pointwise nat_eq bytes other) true (list_any (pointwise nat_eq other) before) ≡ list_any (pointwise nat_eq other) before
    by false h = ap (λ b. cond b true (list_any (pointwise nat_eq other) before)) h
    by true h = ap (λ b. cond b true (list_any (pointwise nat_eq other) before)) h
        ∙ sym (ap (λ (bs : List ℕ). list_any (pointwise nat_eq bs) before) (sym ((bytes_decides bytes other).0 h)) ∙ was)

  -- a row whose key is known is left out
  pub put_known : added ≡ false → IsPutByKey columns skip skipped kept after rows row false
  put_known e = record {
    are = record { behind = are.behind; known = none_more e; placed = are.placed };
    new = sym e ∙ new_is;
  }

  -- one of a new key at the front is counted
  pub put_passed : added ≡ true → skipped < skip → IsPutByKey columns skip (skipped + 1) kept after rows row true
  put_passed e front = record {
    are = record {
      behind = passed skip skipped kept rows row front are.behind;
      known = one_more e;
      placed = All-push (IsPlaced columns) rows row are.placed placed;
    };
    new = sym e ∙ new_is;
  }

  -- and one behind it is kept
  pub put_read : (made : Row) → added ≡ true → skip ≤ skipped → made ≡ row
      → IsPutByKey columns skip skipped (kept ++ made ∷ []) after rows row true
  put_read made e behind same = record {
    are = record {
      behind = read skip skipped kept rows row made behind same are.behind;
      known = one_more e;
      placed = All-push (IsPlaced columns) rows row are.placed placed;
    };
    new = sym e ∙ new_is;
  }
