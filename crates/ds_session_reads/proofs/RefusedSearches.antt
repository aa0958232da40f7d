-- A search that is refused tells of no commit and of no id, and its refusal is an answer to its request.
use Rattle.std.proofs.Common.{◌≡◌, ◌⊎◌, inl, inr, ℕ, Bool, true, false, List, [], ◌∷◌, cond, refl, ap, sym, ◌∙◌, subst, Option, Some, None}
use Rattle.std.specs.Prelude.{IfSome, Err, Ok, Result, is_some, nat_le, length}
use Rattle.ds_base.specs.Keys.{KeyParts, root_of}
use Rattle.ds_base.specs.Limits.{most_groups}
use Rattle.ds_indexdef.specs.declared.IndexDef.{IndexDef}
use Rattle.ds_log.specs.Touches.{touch_place}
use Rattle.ds_query.specs.declared.branch.Branch.{Branch}
use Rattle.ds_query.specs.declared.branch.Normal.{Normal}
use Rattle.ds_query.specs.declared.branch.Window.{Window}
use Rattle.ds_query.specs.declared.field.Field.{Field}
use Rattle.ds_query.specs.declared.field.Field.TheVariants as field
use Rattle.ds_query.specs.declared.refusal.QueryRefused.{QueryRefused}
use Rattle.ds_query.specs.declared.refusal.QueryRefused.TheVariants as query
use Rattle.ds_query.specs.Normals.{normal_of, normal_form}
use Rattle.ds_cursor.specs.declared.cursor.CursorRefused.TheVariants as cursor
use Rattle.ds_planner.specs.Missing.{Missing, missing_of}
use Rattle.ds_request.specs.declared.call.Request.{Request}
use Rattle.ds_reply.specs.declared.reply.Body.{Body}
use Rattle.ds_reply.specs.declared.reply.Body.TheVariants as body
use Rattle.ds_model.specs.Answers.{RequestAnswers, SearchAnswers, UnlessRefused}
use Rattle.ds_model.specs.Asked
use Rattle.ds_model.specs.Groups.{group_refusal, has_none, new_group_refusal, unless_touched}
use Rattle.ds_model.specs.Refusals.{IfUnrefused, Told, Refused, Places, PlacesRead, ancestor_group_refusal, ancestor_refusal}
use Rattle.ds_model.specs.Refusals.{cursor_refusal, first_refusal, form_refusal, missing_body, missing_refusal, normal_refusal}
use Rattle.ds_model.specs.Refusals.{search_refusal}
use Rattle.ds_model.specs.Sessions.{Session, Transaction}
use Rattle.ds_protocol.specs.declared.searching.Search.{Search}
use Rattle.ds_protocol.specs.Preparing.{IsReady, IsRefused}
use Rattle.ds_protocol.specs.Refused.{IsRefusal, is_quiet}
use Rattle.ds_protocol.specs.Searches.{IsSearchOf, search_parts}
use Rattle.ds_session_state.specs.Refusing.{IsRefusedWith}

-- ---- refusals of searches are quiet

abbrev IsQuietIf : Option Body → Type 0
IsQuietIf o = IfSome o (λ b. is_quiet b ≡ true)

first_quiet : (o : Option Body) (os : List (Option Body)) → IsQuietIf o → IsQuietIf (first_refusal os) → IsQuietIf (first_refusal (o ∷ os))
first_quiet None os quiet rest = rest
first_quiet (Some b) os quiet rest = quiet

normal_quiet : (r : Result Normal QueryRefused) → IsQuietIf (normal_refusal r)
normal_quiet (Err (query.Bad reason)) = refl
normal_quiet (Err (query.TooManySubqueries count)) = refl
normal_quiet (Err _) = tt
normal_quiet (Ok n) = tt

ancestor_quiet : (t : Option Transaction) (a : Option KeyParts) → IsQuietIf (ancestor_refusal t a)
ancestor_quiet (Some t) None = refl
ancestor_quiet (Some t) (Some a) = tt
ancestor_quiet None a = tt

cursor_quiet : (f : Field) (t : Told) → IsQuietIf (cursor_refusal f t)
cursor_quiet f (Refused cursor.BadCursor) = refl
cursor_quiet f (Refused cursor.CursorMismatch) = refl
cursor_quiet f _ = tt

missing_quiet : (definitions : List IndexDef) (qs : List Branch) → IsQuietIf (missing_refusal definitions qs)
missing_quiet definitions [] = tt
missing_quiet definitions (q ∷ qs) =
    first_quiet (missing_body (missing_of q definitions)) (missing_refusal definitions qs ∷ []) (by (missing_of q definitions))
    (first_quiet (missing_refusal definitions qs) [] (missing_quiet definitions qs) tt) where
      by : (o : Option Missing) → IsQuietIf (missing_body o)
      by None = tt
      by (Some m) = refl

new_quiet : (several full none : Bool) (g : Option KeyParts)
    → IsQuietIf (cond several (cond full (Some body.TooManyGroups) None) (cond none None (Some (body.SecondGroup g))))
new_quiet true true none g = refl
new_quiet true false none g = tt
new_quiet false full true g = tt
new_quiet false full false g = refl

group_quiet : (t : Option Transaction) (a : Option KeyParts) → IsQuietIf (ancestor_group_refusal t a)
group_quiet t None = tt
group_quiet None (Some a) = tt
group_quiet (Some t) (Some a) = by (touch_place (root_of a) t.touched) where
  by : (o : Option ℕ) → IsQuietIf (unless_touched o (new_group_refusal t (Some (root_of a))))
  by (Some p) = tt
  by None = new_quiet t.several_groups (nat_le most_groups (length t.touched)) (has_none t.touched) (Some (root_of a))

search_quiet : (definitions : List IndexDef) (s : Session) (search : Asked.Search) (places : Places)
    → IsQuietIf (search_refusal definitions s search places)
search_quiet definitions s search places =
    first_quiet (form_refusal s search.query) _
    (first_quiet (normal_refusal (normal_of search.query)) (ancestor_refusal s.transaction search.query.ancestor ∷ [])
    (normal_quiet (normal_of search.query))
    (first_quiet (ancestor_refusal s.transaction search.query.ancestor) [] (ancestor_quiet s.transaction search.query.ancestor) tt))
    (first_quiet (cursor_refusal field.Start places.start) _ (cursor_quiet field.Start places.start)
    (first_quiet (cursor_refusal field.End places.end) _ (cursor_quiet field.End places.end)
    (first_quiet (missing_refusal definitions (normal_form search.query).branches) _
    (missing_quiet definitions (normal_form search.query).branches)
    (first_quiet (ancestor_group_refusal s.transaction search.query.ancestor) []
    (group_quiet s.transaction search.query.ancestor) tt))))

-- ---- and answers

module _ (definitions : List IndexDef) (shards : ℕ) (r : Request) (s : Session) (search : Search) (b : Body)
    (is : IsSearchOf r.call search) where
  places_refused : (places : Places)
      → IfUnrefused (form_refusal s search.query) (PlacesRead (normal_form search.query).branches (search_parts search) places)
      → search_refusal definitions s (search_parts search) places ≡ Some b → IsRefusedWith definitions shards s (Ok r) b
  places_refused places read told = record {
    quiet = subst IsQuietIf told (search_quiet definitions s (search_parts search) places);
    answers = λ w same. inr (subst (λ o. RequestAnswers w r.client s r.call o b s) (sym is.exact) (record {
      places = places;
      read = read;
      answered = subst (λ o. UnlessRefused o s b s (SearchAnswers w s r.call (search_parts search) places b s))
          (sym (ap (λ ds. search_refusal ds s (search_parts search) places) same ∙ told)) (refl, refl);
    }));
  }

  memory_refused : b ≡ body.NoMemory → IsRefusedWith definitions shards s (Ok r) b
  memory_refused none = record { quiet = ap is_quiet none; answers = λ w same. inl none }

  -- before its group is looked at
  pub search_refused : (inside : Bool) → is_some s.transaction ≡ inside
      → (b ≡ body.NoMemory) ⊎ IsRefused definitions inside (search_parts search) b → IsRefusedWith definitions shards s (Ok r) b
  search_refused inside i (inl none) = memory_refused none
  search_refused inside i (inr refused) = places_refused refused.places (refused.read s i) (refused.told s i)

  -- by its group
  pub group_refused : (inside : Bool) (ancestor : KeyParts) (n : Normal) (w : Window) → is_some s.transaction ≡ inside
      → search.query.ancestor ≡ Some ancestor → IsReady definitions inside (search_parts search) n w
      → IsRefusal (group_refusal s.transaction (Some (root_of ancestor))) (Some b) → IsRefusedWith definitions shards s (Ok r) b
  group_refused inside ancestor n w i under ready (inl told) =
      places_refused ready.places
      (subst (λ o. IfUnrefused o (PlacesRead (normal_form search.query).branches (search_parts search) ready.places))
      (sym (ready.formed s i)) ready.read)
      (ready.unrefused s i ∙ ap (ancestor_group_refusal s.transaction) under ∙ sym told)
  group_refused inside ancestor n w i under ready (inr none) = let same : b ≡ body.NoMemory = cc in memory_refused same
