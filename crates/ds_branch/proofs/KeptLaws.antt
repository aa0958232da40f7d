-- What is kept of rows, and what it tells of them.
use Rattle.std.proofs.Common.{◌≡◌, ℕ, ◌<◌, Bool, true, false, not, ◌||◌, List, [], ◌∷◌, ◌++◌, Option, Some, None, cond, drop, length}
use Rattle.std.proofs.Common.{refl, length-append}
use Rattle.std.proofs.Common.{sym, ap, ◌∙◌, subst, arith}
use Rattle.std.specs.Prelude.{All, nat_lt}
use Rattle.std.proofs.lemmas.Bool.Decides.{nat_tests}
use Rattle.std.specs.List.{list_any}
use Rattle.std.proofs.lemmas.List.Elements.{All-drop}
use Rattle.ds_base.specs.declared.column.Column.{Column}
use Rattle.ds_query.specs.declared.row.Place.{Place}
use Rattle.ds_query.specs.declared.row.Row.{Row}
use Rattle.ds_pages.specs.FirstRows.{with_row}
use Rattle.ds_pages.specs.Marks.{is_same}
use Rattle.ds_pages.specs.Pages.{last_of}
use Rattle.ds_pages.specs.Places.{IsPlaced}
use Rattle.ds_branch.specs.declared.kept.KeptRows.{KeptRows}
use Rattle.ds_branch.specs.Kept.{AreTold, IsBehind, is_known, with_one, with_row_if}

-- a row that isn't left out is put behind the others
pub one_is : (keeps_all : Bool) (slots : List (Option ℕ)) (rows : List Row) (row : Row)
    → with_row_if (not (is_known keeps_all slots rows row)) rows row ≡ with_one keeps_all slots rows row
one_is true slots rows row = refl
one_is false slots rows row = by (list_any (is_same slots row) rows) where
  by : (b : Bool) → cond (not b) (rows ++ row ∷ []) rows ≡ cond b rows (rows ++ row ∷ [])
  by true = refl
  by false = refl

module _ (columns : List Column) (k : KeptRows) (rows : List Row) (told : AreTold columns k rows) where
  pub behind_told : (k.keeps_all || k.by_key) ≡ true → IsBehind k.skip k.skipped k.whole.items rows
  behind_told whole = by k.keeps_all refl where
    by : (b : Bool) → k.keeps_all ≡ b → IsBehind k.skip k.skipped k.whole.items rows
    by true e = told.all e
    by false e = (told.keys e (sym (ap (λ b. b || k.by_key) e) ∙ whole)).behind

  pub marks_told : (k.keeps_all || k.by_key) ≡ false → k.firsts.rows ≡ rows
  marks_told whole = by k.keeps_all refl where
    by : (b : Bool) → k.keeps_all ≡ b → k.firsts.rows ≡ rows
    by true e = absurd (cc (sym (ap (λ b. b || k.by_key) e) ∙ whole))
    by false e = told.marks e (sym (ap (λ b. b || k.by_key) e) ∙ whole)

-- ---- the place of the last row

pub last_stays : (rows after : List Row) (last new : List ℕ) → after ≡ rows → new ≡ last
    → (0 < length rows → last_of None rows ≡ Some (record { bytes = last }))
    → 0 < length after → last_of None after ≡ Some (record { bytes = new })
last_stays rows after last new same same_last h some =
    ap (last_of None) same ∙ h (subst (λ (rs : List Row). 0 < length rs) same some)
    ∙ (λ i. Some (record { bytes = sym same_last i }))

last_pushed : (start : Option Place) (rows : List Row) (row : Row) → last_of start (rows ++ row ∷ []) ≡ Some row.place
last_pushed start [] row = refl
last_pushed start (x ∷ rows) row = last_pushed (Some x.place) rows row

pub last_put : (rows after : List Row) (row : Row) (new : List ℕ) → after ≡ rows ++ row ∷ [] → new ≡ row.place.bytes
    → 0 < length after → last_of None after ≡ Some (record { bytes = new })
last_put rows after row new pushed at_place some =
    ap (last_of None) pushed ∙ last_pushed None rows row ∙ (λ i. Some (record { bytes = sym at_place i }))

pub last_is : (rows : List Row) (count : ℕ) (last : List ℕ) (found : Option Place) → count ≡ length rows → (count ≡ 0 → found ≡ None)
    → (0 < count → found ≡ Some (record { bytes = last }))
    → (0 < length rows → last_of None rows ≡ Some (record { bytes = last })) → found ≡ last_of None rows
last_is [] count last found long none some h = none long
last_is (row ∷ rows) count last found long none some h =
    let more : 0 < length (row ∷ rows) = omega arith in
    some (omega (arith, long, more)) ∙ sym (h more)

pub placed_behind : (columns : List Column) (skip : ℕ) (kept rows : List Row) → kept ≡ drop skip rows → All (IsPlaced columns) rows
    → All (IsPlaced columns) kept
placed_behind columns skip kept rows is all = subst (All (IsPlaced columns)) (sym is) (All-drop (IsPlaced columns) skip rows all)

-- ---- marks

-- a row was put where the rows are longer
pub mark_put : (slots : List (Option ℕ)) (rows after : List Row) (made row : Row) (before long : ℕ) → made ≡ row
    → after ≡ with_row slots rows made → before ≡ length rows → long ≡ length after
    → (after ≡ with_row_if (nat_lt before long) rows row) × (nat_lt before long ≡ not (list_any (is_same slots row) rows))
mark_put slots rows after made row before long same put is_before is_long =
    by (list_any (is_same slots row) rows) refl (put ∙ ap (with_row slots rows) same) where
      by : (b : Bool) → list_any (is_same slots row) rows ≡ b → after ≡ cond (list_any (is_same slots row) rows) rows (rows ++ row ∷ [])
          → (after ≡ with_row_if (nat_lt before long) rows row) × (nat_lt before long ≡ not (list_any (is_same slots row) rows))
      by true e is =
          let all : after ≡ rows = is ∙ ap (λ b. cond b rows (rows ++ row ∷ [])) e in
          let lengths = ap length all in
          let none : nat_lt before long ≡ false = grind (arith, nat_tests) in
          (all ∙ ap (λ b. with_row_if b rows row) (sym none), none ∙ sym (ap not e))
      by false e is =
          let more : after ≡ rows ++ row ∷ [] = is ∙ ap (λ b. cond b rows (rows ++ row ∷ [])) e in
          let lengths = ap length more ∙ length-append rows (row ∷ []) in
          let longer : before < long = omega (arith, lengths, is_before, is_long) in
          let one : nat_lt before long ≡ true = grind (arith, nat_tests) in
          (more ∙ ap (λ b. with_row_if b rows row) (sym one), one ∙ sym (ap not e))
