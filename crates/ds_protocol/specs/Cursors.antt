-- The ends of a window as the code has them: in the words of the definitions.
use Rattle.std.specs.Prelude.{◌≡◌, ℕ, List, [], ◌∷◌, Option, Some, None}
use Rattle.ds_query.specs.declared.field.Field.{Field}
use Rattle.ds_query.specs.declared.branch.Branch.{Branch}
use Rattle.ds_query.specs.declared.branch.Window.{Window}
use Rattle.ds_cursor.specs.Cursors.{IsPlaceIn}
use Rattle.ds_reply.specs.declared.reply.Body.{Body}
use Rattle.ds_query.specs.declared.field.Field.TheVariants as field
use Rattle.ds_model.specs.Answers.{place_found, window_of}
use Rattle.ds_model.specs.Asked.{Search}
use Rattle.ds_model.specs.Refusals.{Told, Nothing, BeforeFirst, Behind, Places, PlaceRead, PlacesRead, cursor_refusal, first_refusal}
use Rattle.ds_protocol.specs.declared.preparing.End.{End}
use Rattle.ds_protocol.specs.declared.preparing.End.TheVariants as end

-- an end that isn't refused
abbrev pub told : End → Told
told end.Nothing = Nothing
told end.BeforeFirst = BeforeFirst
told (end.Behind place) = Behind place

-- the end is what the text stands for, and its place is one in rows of the branch's columns
pub record IsEnd (q : Branch) (text : Option (List ℕ)) (e : End) : Type 0 where
  pub read : PlaceRead q text (told e)
  pub place : IsPlaceIn q.columns (place_found (told e))

-- the text is no cursor of the branch, and this is told of it
pub record IsEndRefused (q : Branch) (f : Field) (text : Option (List ℕ)) (b : Body) : Type 0 where
  pub end : Told
  pub read : PlaceRead q text end
  pub refused : cursor_refusal f end ≡ Some b

-- the window between two ends
abbrev pub window_between : End → End → ℕ → Option ℕ → Window
window_between start end.BeforeFirst offset limit =
    record { start = place_found (told start); end = None; offset = 0; limit = Some 0 }
window_between start e offset limit =
    record { start = place_found (told start); end = place_found (told e); offset = offset; limit = limit }

-- the window is that of the texts, none of which is refused
pub record WindowRead (branches : List Branch) (search : Search) (w : Window) : Type 0 where
  pub places : Places
  pub read : PlacesRead branches search places
  pub start : cursor_refusal field.Start places.start ≡ None
  pub end : cursor_refusal field.End places.end ≡ None
  pub window_is : w ≡ window_of search places

-- the start's text is refused with this, or it isn't and the end's is
pub record WindowRefused (branches : List Branch) (search : Search) (b : Body) : Type 0 where
  pub places : Places
  pub read : PlacesRead branches search places
  pub refused : first_refusal (cursor_refusal field.Start places.start ∷ cursor_refusal field.End places.end ∷ []) ≡ Some b
