-- Rows closed or added one after another: what is known of those that are left.
use Rattle.std.proofs.Common.{◌≡◌, ◌≢◌, ℕ, ◌+◌, ◌<◌, List, [], ◌∷◌, length, get_or, drop, Some, None, sym, ap, ◌∙◌, subst}
use Rattle.std.specs.Prelude.{All, IsTrue, IsFalse, slice_get}
use Rattle.std.proofs.lemmas.Option.{slice_get_within, get_or_from_slice_get, slice_get-get_or}
use Rattle.std.proofs.lemmas.List.{drop_more}
use Rattle.std.proofs.lemmas.List.Elements.{All-head, All-tail}
use Rattle.ds_rows.specs.Laws.{IsOnce}
use Rattle.ds_table.specs.Versions.{RowVersion, never, has_alive, added, closed}
use Rattle.ds_table.specs.AliveLaws.{others_added, others_closed}
use Rattle.std.specs.List.{AllByRecursion as Each}
use Rattle.ds_shard.specs.Rows.{all_closed, all_added}

-- the row at a place is the first of those from there on
pub from_place : (rows : List (List ℕ)) (i : ℕ) (row : List ℕ) → slice_get rows i ≡ Some row → drop i rows ≡ row ∷ drop (i + 1) rows
from_place rows i row e =
    let within : i < length rows = slice_get_within rows i row e in
    let here : get_or rows i row ≡ row = get_or_from_slice_get rows i row row e in
    drop_more rows i row within ∙ ap (λ x. x ∷ drop (i + 1) rows) here

pub none_there : (rows : List (List ℕ)) (i : ℕ) → i < length rows → None ≡ slice_get rows i → ⊥
none_there rows i within e = nothing (e ∙ slice_get-get_or rows i [] within) where
  nothing : None ≡ Some (get_or rows i []) → ⊥
  nothing e = cc

module _ (rows : List (List ℕ)) (i : ℕ) (row : List ℕ) (e : Some row ≡ slice_get rows i) where
  is : drop i rows ≡ row ∷ drop (i + 1) rows
  is = from_place rows i row (sym e)

  pub here : (P : List ℕ → Type 0) → Each P (drop i rows) → P row
  here P h = (subst (Each P) is h).0

  pub once_next : IsOnce (drop i rows) → IsOnce (drop (i + 1) rows)
  once_next once = (subst IsOnce is once).1

  module _ (stamp : ℕ) (below : stamp < never) (vs ws : List RowVersion) where
    alive_left : (rest : List (List ℕ)) → All (λ y. row ≢ y) rest → Each (λ r. IsTrue (has_alive r vs)) rest
        → Each (λ r. IsTrue (has_alive r (closed row stamp vs))) rest
    alive_left [] once h = tt
    alive_left (r ∷ rest) once h = (
      others_closed r row stamp vs below (All-head (λ y. row ≢ y) r rest once) ∙ h.0,
      alive_left rest (All-tail (λ y. row ≢ y) r rest once) h.1,
    )

    pub alive_next : ws ≡ closed row stamp vs → IsOnce (drop i rows) → Each (λ r. IsTrue (has_alive r vs)) (drop i rows)
        → Each (λ r. IsTrue (has_alive r ws)) (drop (i + 1) rows)
    alive_next then once h =
        subst (λ us. Each (λ r. IsTrue (has_alive r us)) (drop (i + 1) rows)) (sym then)
        (alive_left (drop (i + 1) rows) (subst IsOnce is once).0 (subst (Each (λ r. IsTrue (has_alive r vs))) is h).1)

    pub closed_next : ws ≡ closed row stamp vs → (all : List RowVersion) → all_closed stamp vs (drop i rows) ≡ all
        → all_closed stamp ws (drop (i + 1) rows) ≡ all
    closed_next then all h = (λ t. all_closed stamp (then t) (drop (i + 1) rows)) ∙ ap (all_closed stamp vs) (sym is) ∙ h

    not_alive_left : (rest : List (List ℕ)) → All (λ y. row ≢ y) rest → Each (λ r. IsFalse (has_alive r vs)) rest
        → Each (λ r. IsFalse (has_alive r (added row stamp vs))) rest
    not_alive_left [] once h = tt
    not_alive_left (r ∷ rest) once h = (
      others_added r row stamp vs (All-head (λ y. row ≢ y) r rest once) ∙ h.0,
      not_alive_left rest (All-tail (λ y. row ≢ y) r rest once) h.1,
    )

    pub not_alive_next : ws ≡ added row stamp vs → IsOnce (drop i rows) → Each (λ r. IsFalse (has_alive r vs)) (drop i rows)
        → Each (λ r. IsFalse (has_alive r ws)) (drop (i + 1) rows)
    not_alive_next then once h =
        subst (λ us. Each (λ r. IsFalse (has_alive r us)) (drop (i + 1) rows)) (sym then)
        (not_alive_left (drop (i + 1) rows) (subst IsOnce is once).0 (subst (Each (λ r. IsFalse (has_alive r vs))) is h).1)

    pub added_next : ws ≡ added row stamp vs → (all : List RowVersion) → all_added stamp vs (drop i rows) ≡ all
        → all_added stamp ws (drop (i + 1) rows) ≡ all
    added_next then all h = (λ t. all_added stamp (then t) (drop (i + 1) rows)) ∙ ap (all_added stamp vs) (sym is) ∙ h
