-- The places of the rows that are kept, each of which can be read back.
use Rattle.std.proofs.Common.{◌≡◌, ℕ, ◌+◌, List, [], ◌∷◌, ◌++◌, map, sym, ap, subst, ◌∙◌}
use Rattle.std.proofs.lemmas.List.{map-append}
use Rattle.std.proofs.lemmas.List.Elements.{All-append, All-cons, All-nil}
use Rattle.ds_base.specs.declared.column.Column.{Column}
use Rattle.ds_bytes.specs.Rows.{RowParts}
use Rattle.ds_cursor.specs.RowsOfColumns.{IsRowOf}
use Rattle.ds_query.specs.declared.row.Row.{Row}
use Rattle.ds_pages.specs.Places.{parts_of, place_of, placed}
use Rattle.ds_branch.specs.Behind.{ArePlaces, IsReadable}

module _ (columns : List Column) where
  -- the places of rows and of more
  pub more_places : (rows more : List RowParts) (places put : List (List ℕ)) → ArePlaces columns rows places → ArePlaces columns more put
      → ArePlaces columns (rows ++ more) (places ++ put)
  more_places rows more places put these those = record {
    are = (λ i. these.are i ++ those.are i) ∙ sym (map-append (place_of columns) rows more);
    readable = All-append (IsReadable columns) rows more these.readable those.readable;
  }

  pub places_stay : (rows after : List Row) (places new : List (List ℕ)) → after ≡ rows → new ≡ places
      → ArePlaces columns (map parts_of rows) places → ArePlaces columns (map parts_of after) new
  places_stay rows after places new same same_places are =
      subst (λ ps. ArePlaces columns (map parts_of after) ps) (sym same_places)
      (subst (λ (rs : List Row). ArePlaces columns (map parts_of rs) places) (sym same) are)

  pub place_put : (place : List ℕ) (r : IsRowOf columns place) (rows after : List Row) (places new : List (List ℕ))
      → after ≡ rows ++ placed columns r.row ∷ [] → new ≡ places ++ place ∷ [] → ArePlaces columns (map parts_of rows) places
      → ArePlaces columns (map parts_of after) new
  place_put place r rows after places new put put_place are =
      places_stay (rows ++ placed columns r.row ∷ []) after (places ++ place ∷ []) new put put_place
      (subst (λ rs. ArePlaces columns rs (places ++ place ∷ [])) (sym (map-append parts_of rows (placed columns r.row ∷ [])))
      (more_places (map parts_of rows) (r.row ∷ []) places (place ∷ []) are (record {
        are = ap (λ p. p ∷ []) r.written;
        readable = All-cons (IsReadable columns) r.row []
            (record { long = r.long; values = r.values; key = r.key }) (All-nil (IsReadable columns));
      })))
