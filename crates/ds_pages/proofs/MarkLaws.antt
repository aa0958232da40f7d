-- Two rows have one mark where their keys and their projected values are the same.
use Rattle.std.proofs.Common.{◌≡◌, ℕ, ◌+◌, ◌≤◌, Bool, true, false, ◌&&◌, List, [], ◌∷◌, ◌++◌, map, cond, length}
use Rattle.std.proofs.Common.{refl, sym, ap, subst, ◌∙◌, arith}
use Rattle.std.proofs.Common.{append_assoc, append-nil, length-append, Some, None, bytes_eq}
use Rattle.std.specs.Prelude.{slice_get, unwrap_or, suc, zero}
use Rattle.std.specs.Cmp.Lexicographic.{slice_cmp, pointwise}
use Rattle.std.specs.List.{position_from}
use Rattle.std.specs.Ordering.{is_eq, ordering_then}
use Rattle.std.specs.declared.cmp.Ordering.{Ordering}
use Rattle.std.specs.declared.cmp.Ordering.TheVariants.{Less, Equal, Greater}
use Rattle.ds_base.specs.declared.column.Column.{Column}
use Rattle.ds_base.specs.declared.index_value.IndexValue.{IndexValue}
use Rattle.ds_base.specs.declared.index_value.IndexValue.TheVariants.{Null}
use Rattle.ds_base.specs.KeyOrder.{key_cmp}
use Rattle.ds_base.specs.IndexOrder.{index_value_cmp}
use Rattle.ds_bytes.specs.Rows.{RowParts}
use Rattle.ds_pages.specs.Columns.{value_columns}
use Rattle.ds_pages.specs.Columns.{value_named, projected_values}
use Rattle.ds_pages.specs.Pages.{same_mark}
use Rattle.ds_pages.specs.Marks.{value_at, is_same}
use Rattle.ds_pages.specs.Places.{placed}
use Rattle.ds_pages.specs.Slots.{slot_of}

-- ---- values by their place

get_none : (vs : List IndexValue) (n : ℕ) → length vs ≤ n → slice_get vs n ≡ None
get_none [] n far = refl
get_none (v ∷ vs) zero far = absurd (omega arith)
get_none (v ∷ vs) (suc n) far = get_none vs n (omega arith)

get_next : (front : List IndexValue) (v : IndexValue) (vs : List IndexValue) → slice_get (front ++ v ∷ vs) (length front) ≡ Some v
get_next [] v vs = refl
get_next (w ∷ front) v vs = get_next front v vs

beyond : (p : Column → Bool) (cs : List Column) (vs : List IndexValue) (n : ℕ) → length vs ≤ n → value_at vs (position_from p n cs) ≡ Null
beyond p [] vs n far = refl
beyond p (c ∷ cs) vs n far = by (p c) (beyond p cs vs (n + 1) (omega arith)) where
  by : (b : Bool) → value_at vs (position_from p (n + 1) cs) ≡ Null → value_at vs (cond b (Some n) (position_from p (n + 1) cs)) ≡ Null
  by true later = ap (λ o. unwrap_or o Null) (get_none vs n far)
  by false later = later

stands : (name : List ℕ) (cs : List Column) (front vs : List IndexValue)
    → value_at (front ++ vs) (position_from (λ c. bytes_eq name c.name) (length front) cs) ≡ unwrap_or (value_named name cs vs) Null
stands name [] front vs = refl
stands name (c ∷ cs) front [] =
    beyond (λ c. bytes_eq name c.name) (c ∷ cs) (front ++ []) (length front)
    (subst (λ ws. length ws ≤ length front) (sym (append-nil front)) (omega arith))
stands name (c ∷ cs) front (v ∷ vs) = by (bytes_eq name c.name) (stands name cs (front ++ v ∷ []) vs) where
  next : length (front ++ v ∷ []) ≡ length front + 1
  next = length-append front (v ∷ [])

  by : (b : Bool)
      → value_at ((front ++ v ∷ []) ++ vs) (position_from (λ c. bytes_eq name c.name) (length (front ++ v ∷ [])) cs)
      ≡ unwrap_or (value_named name cs vs) Null
      → value_at (front ++ v ∷ vs) (cond b (Some (length front)) (position_from (λ c. bytes_eq name c.name) (length front + 1) cs))
      ≡ unwrap_or (cond b (Some v) (value_named name cs vs)) Null
  by true later = ap (λ o. unwrap_or o Null) (get_next front v vs)
  by false later =
      (λ i. value_at (sym (append_assoc front (v ∷ []) vs) i) (position_from (λ c. bytes_eq name c.name) (sym next i) cs)) ∙ later

projected : (columns : List Column) (names : List (List ℕ)) (x : RowParts)
    → map (value_at x.values) (map (slot_of columns) names) ≡ projected_values columns names x
projected columns [] x = refl
projected columns (name ∷ names) x =
    λ i. stands name (value_columns columns) [] x.values i ∷ projected columns names x i

-- ---- marks

both : (r s : Ordering) → is_eq (ordering_then r s) ≡ (is_eq r && is_eq s)
both Less s = refl
both Equal s = refl
both Greater s = refl

each : (vs ws : List IndexValue) → is_eq (slice_cmp index_value_cmp vs ws) ≡ pointwise (λ v w. is_eq (index_value_cmp v w)) vs ws
each [] [] = refl
each [] (w ∷ ws) = refl
each (v ∷ vs) [] = refl
each (v ∷ vs) (w ∷ ws) =
    both (index_value_cmp v w) (slice_cmp index_value_cmp vs ws) ∙ ap (λ b. is_eq (index_value_cmp v w) && b) (each vs ws)

pub is_same-placed : (columns : List Column) (names : List (List ℕ)) (x y : RowParts)
    → is_same (map (slot_of columns) names) (placed columns x) (placed columns y) ≡ same_mark columns names x y
is_same-placed columns names x y =
    both (key_cmp x.key y.key)
    (slice_cmp index_value_cmp (map (value_at x.values) (map (slot_of columns) names))
    (map (value_at y.values) (map (slot_of columns) names)))
    ∙ ap (λ b. is_eq (key_cmp x.key y.key) && b)
    ((λ i. is_eq (slice_cmp index_value_cmp (projected columns names x i) (projected columns names y i)))
    ∙ each (projected_values columns names x) (projected_values columns names y))
