-- A text is one place of a branch at most, so a search has one refusal, and one window.
use Rattle.std.proofs.Common.{◌≡◌, ℕ, Bool, true, false, List, [], ◌∷◌, refl, ap, sym, ◌∙◌, Option, Some, None}
use Rattle.std.specs.Prelude.{Result, Ok, Err}
use Rattle.ds_base.specs.declared.column.Column.{Column}
use Rattle.ds_indexdef.specs.declared.IndexDef.{IndexDef}
use Rattle.ds_query.specs.declared.branch.Branch.{Branch}
use Rattle.ds_query.specs.declared.field.Field.TheVariants as field
use Rattle.ds_query.specs.declared.row.Place.{Place}
use Rattle.ds_query.specs.Normals.{normal_form}
use Rattle.ds_cursor.specs.declared.cursor.CursorRefused.{CursorRefused}
use Rattle.ds_cursor.specs.declared.cursor.CursorRefused.TheVariants as refused
use Rattle.ds_cursor.specs.Cursors.{CursorParts, OfBranch, PartsAre, PlaceIs, is_of_branch, parts_of, place_bytes}
use Rattle.ds_reply.specs.declared.reply.Body.{Body}
use Rattle.ds_model.specs.Asked.{Search}
use Rattle.ds_model.specs.Refusals.{Told, Nothing, Refused, BeforeFirst, Behind, IfUnrefused, PlaceRead, Places, PlacesRead}
use Rattle.ds_model.specs.Refusals.{ancestor_group_refusal, cursor_refusal, first_refusal, form_refusal, missing_refusal, search_refusal}
use Rattle.ds_model.specs.Sessions.{Session}

-- ---- one text

one_written : (a b : Option Place) → place_bytes a ≡ place_bytes b → a ≡ b
one_written None None is = refl
one_written None (Some b) is = cc
one_written (Some a) None is = cc
one_written (Some a) (Some b) is = let same : a.bytes ≡ b.bytes = cc in λ i. Some (record { bytes = same i })

one_place : (columns : List Column) (bytes : List ℕ) (a b : Result (Option Place) CursorRefused) → PlaceIs columns bytes a
    → PlaceIs columns bytes b → a ≡ b
one_place columns bytes (Ok a) (Ok b) p q = ap (λ o. Ok o) (one_written a b (sym p.written ∙ q.written))
one_place columns bytes (Ok a) (Err refused.BadCursor) p q = absurd (q a p)
one_place columns bytes (Ok a) (Err refused.CursorMismatch) p q = absurd q
one_place columns bytes (Ok a) (Err refused.NoMemory) p q = absurd q
one_place columns bytes (Err refused.BadCursor) (Ok b) p q = absurd (p b q)
one_place columns bytes (Err refused.BadCursor) (Err refused.BadCursor) p q = refl
one_place columns bytes (Err refused.BadCursor) (Err refused.CursorMismatch) p q = absurd q
one_place columns bytes (Err refused.BadCursor) (Err refused.NoMemory) p q = absurd q
one_place columns bytes (Err refused.CursorMismatch) b p q = absurd p
one_place columns bytes (Err refused.NoMemory) b p q = absurd p

one_of_branch : (own : Bool) (columns : List Column) (bytes : List ℕ) (a b : Result (Option Place) CursorRefused)
    → OfBranch own columns bytes a → OfBranch own columns bytes b → a ≡ b
one_of_branch false columns bytes a b p q = p ∙ sym q
one_of_branch true columns bytes a b p q = one_place columns bytes a b p q

one_of_parts : (q : Branch) (parts : Option CursorParts) (a b : Result (Option Place) CursorRefused) → PartsAre q parts a
    → PartsAre q parts b → a ≡ b
one_of_parts q None a b p r = p ∙ sym r
one_of_parts q (Some parts) a b p r = one_of_branch (is_of_branch q parts) q.columns parts.place a b p r

-- what a text is read as
abbrev is_place : Option Place → Result (Option Place) CursorRefused
is_place place = Ok place

abbrev is_none : CursorRefused → Result (Option Place) CursorRefused
is_none why = Err why

same_why : (a b : CursorRefused) → is_none a ≡ is_none b → a ≡ b
same_why a b is = cc

same_place : (a b : Option Place) → is_place a ≡ is_place b → a ≡ b
same_place a b is = cc

none_placed : (a : CursorRefused) (b : Option Place) → is_none a ≡ is_place b → ⊥
none_placed a b is = cc

first_behind : (b : Place) → None ≡ Some b → ⊥
first_behind b is = cc

same_behind : (a b : Place) → Some a ≡ Some b → a ≡ b
same_behind a b is = cc

one_told : (text : Option (List ℕ)) (q : Branch) (a b : Told) → PlaceRead q text a → PlaceRead q text b → a ≡ b
one_told None q Nothing Nothing p r = refl
one_told None q Nothing (Refused why) p r = absurd r
one_told None q Nothing BeforeFirst p r = absurd r
one_told None q Nothing (Behind place) p r = absurd r
one_told None q (Refused why) b p r = absurd p
one_told None q BeforeFirst b p r = absurd p
one_told None q (Behind place) b p r = absurd p
one_told (Some text) q Nothing b p r = absurd p
one_told (Some text) q (Refused why) Nothing p r = absurd r
one_told (Some text) q (Refused why) (Refused also) p r =
    ap Refused (same_why why also (one_of_parts q (parts_of text) (is_none why) (is_none also) p r))
one_told (Some text) q (Refused why) BeforeFirst p r =
    absurd (none_placed why None (one_of_parts q (parts_of text) (is_none why) (is_place None) p r))
one_told (Some text) q (Refused why) (Behind place) p r =
    absurd (none_placed why (Some place) (one_of_parts q (parts_of text) (is_none why) (is_place (Some place)) p r))
one_told (Some text) q BeforeFirst Nothing p r = absurd r
one_told (Some text) q BeforeFirst (Refused why) p r =
    absurd (none_placed why None (one_of_parts q (parts_of text) (is_none why) (is_place None) r p))
one_told (Some text) q BeforeFirst BeforeFirst p r = refl
one_told (Some text) q BeforeFirst (Behind place) p r =
    absurd (first_behind place (same_place None (Some place) (one_of_parts q (parts_of text) (is_place None) (is_place (Some place)) p r)))
one_told (Some text) q (Behind place) Nothing p r = absurd r
one_told (Some text) q (Behind place) (Refused why) p r =
    absurd (none_placed why (Some place) (one_of_parts q (parts_of text) (is_none why) (is_place (Some place)) r p))
one_told (Some text) q (Behind place) BeforeFirst p r =
    absurd (first_behind place (same_place None (Some place) (one_of_parts q (parts_of text) (is_place None) (is_place (Some place)) r p)))
one_told (Some text) q (Behind place) (Behind other) p r =
    ap Behind (same_behind place other (same_place (Some place) (Some other)
    (one_of_parts q (parts_of text) (is_place (Some place)) (is_place (Some other)) p r)))

-- ---- both ends

-- the start is one, and where it isn't refused, so is the end
record AreAlike (a b : Places) : Type 0 where
  pub start : a.start ≡ b.start
  pub end : cursor_refusal field.Start a.start ≡ None → a.end ≡ b.end

pub if_unrefused : (o : Option Body) (F : Type 0) → o ≡ None → IfUnrefused o F → F
if_unrefused None F is fact = fact
if_unrefused (Some b) F is fact = cc

alike : (qs : List Branch) (search : Search) (a b : Places) → PlacesRead qs search a → PlacesRead qs search b → AreAlike a b
alike [] search a b p r = record { start = p.0 ∙ sym r.0; end = λ open_start. p.1 ∙ sym r.1 }
alike (q ∷ []) search a b p r = record {
  start = one_told search.start q a.start b.start p.0 r.0;
  end = λ open_start.
      let same = one_told search.start q a.start b.start p.0 r.0 in
      one_told search.end q a.end b.end (if_unrefused (cursor_refusal field.Start a.start) (PlaceRead q search.end a.end) open_start p.1)
      (if_unrefused (cursor_refusal field.Start b.start) (PlaceRead q search.end b.end)
      (ap (cursor_refusal field.Start) (sym same) ∙ open_start) r.1);
}
alike (q ∷ also ∷ qs) search a b p r = record { start = p.0 ∙ sym r.0; end = λ open_start. p.1 ∙ sym r.1 }

-- ---- one refusal

firsts : (f c d e g m h : Option Body) → (f ≡ None → c ≡ d) → (f ≡ None → c ≡ None → e ≡ g)
    → first_refusal (f ∷ c ∷ e ∷ m ∷ h ∷ []) ≡ first_refusal (f ∷ d ∷ g ∷ m ∷ h ∷ [])
firsts (Some b) c d e g m h start end = refl
firsts None (Some b) d e g m h start end = ap (λ o. first_refusal (None ∷ o ∷ g ∷ m ∷ h ∷ [])) (start refl)
firsts None None d e g m h start end =
    ap (λ o. first_refusal (None ∷ o ∷ e ∷ m ∷ h ∷ [])) (start refl)
    ∙ ap (λ o. first_refusal (None ∷ d ∷ o ∷ m ∷ h ∷ [])) (end refl refl)

module _ (definitions : List IndexDef) (s : Session) (search : Search) where
  -- the texts were read as this
  abbrev pub Read : Places → Type 0
  Read places = IfUnrefused (form_refusal s search.query) (PlacesRead (normal_form search.query).branches search places)

  -- whatever the texts were read as, the refusal is the same
  pub one_refusal : (a b : Places) → Read a → Read b → search_refusal definitions s search a ≡ search_refusal definitions s search b
  one_refusal a b p r =
      firsts (form_refusal s search.query) (cursor_refusal field.Start a.start) (cursor_refusal field.Start b.start)
      (cursor_refusal field.End a.end) (cursor_refusal field.End b.end)
      (missing_refusal definitions (normal_form search.query).branches) (ancestor_group_refusal s.transaction search.query.ancestor)
      (λ formed. ap (cursor_refusal field.Start) (both formed).start)
      (λ formed open_start. ap (cursor_refusal field.End) ((both formed).end open_start))
    where
      both : form_refusal s search.query ≡ None → AreAlike a b
      both formed =
          alike (normal_form search.query).branches search a b
          (if_unrefused (form_refusal s search.query) (PlacesRead (normal_form search.query).branches search a) formed p)
          (if_unrefused (form_refusal s search.query) (PlacesRead (normal_form search.query).branches search b) formed r)

  started : (f c e m h : Option Body) → first_refusal (f ∷ c ∷ e ∷ m ∷ h ∷ []) ≡ None → c ≡ None
  started None None e m h is = refl
  started None (Some b) e m h is = cc
  started (Some b) c e m h is = cc

  -- where nothing is refused, they were read as one
  pub one_window : (a b : Places) → form_refusal s search.query ≡ None → search_refusal definitions s search a ≡ None → Read a → Read b
      → a ≡ b
  one_window a b formed unrefused p r =
      let both : AreAlike a b =
      alike (normal_form search.query).branches search a b
      (if_unrefused (form_refusal s search.query) (PlacesRead (normal_form search.query).branches search a) formed p)
      (if_unrefused (form_refusal s search.query) (PlacesRead (normal_form search.query).branches search b) formed r) in
      let start : a.start ≡ b.start = both.start in
      let end : a.end ≡ b.end =
      both.end (started (form_refusal s search.query) (cursor_refusal field.Start a.start) (cursor_refusal field.End a.end)
      (missing_refusal definitions (normal_form search.query).branches) (ancestor_group_refusal s.transaction search.query.ancestor)
      unrefused) in
      λ i. record { start = start i; end = end i }
