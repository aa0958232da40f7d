-- Windows between ends, and what texts that are no cursors refuse.
use Rattle.ds_protocol.proofs.Words.{◌≡◌, inl, inr, ℕ, arith, length, List, [], ◌∷◌, Some, refl, Branch, Body, Search, Nothing}
use Rattle.std.proofs.Common.{◌⊎◌, Err}
use Rattle.ds_base.specs.Memory.{UnlessNoMemory}
use Rattle.ds_query.specs.declared.field.Field.{Field}
use Rattle.ds_cursor.specs.declared.cursor.CursorRefused.{CursorRefused}
use Rattle.ds_cursor.specs.Cursors.{CursorIs, cursor_fault}
use Rattle.ds_model.specs.Refusals.{Refused, PlaceRead, cursor_refusal}
use Rattle.ds_protocol.specs.declared.preparing.End.{End}
use Rattle.ds_protocol.specs.Cursors.{told, IsEndRefused, WindowRead, WindowRefused, window_between}
use Rattle.ds_query.specs.declared.field.Field.TheVariants as field
use Rattle.ds_cursor.specs.declared.cursor.CursorRefused.TheVariants as cursor
use Rattle.ds_reply.specs.declared.reply.Body.TheVariants as body
use Rattle.ds_protocol.specs.declared.preparing.End.TheVariants as end

-- ---- one end

-- a text that is no cursor of the branch is refused
pub text_refused : (q : Branch) (f : Field) (text : List ℕ) (why : CursorRefused) (b : Body)
    → UnlessNoMemory cursor_fault (CursorIs q text) (Err why) → (b ≡ body.NoMemory) ⊎ (cursor_refusal f (Refused why) ≡ Some b)
    → (b ≡ body.NoMemory) ⊎ IsEndRefused q f (Some text) b
text_refused q f text why b read (inl none) = inl none
text_refused q f text cursor.NoMemory b read (inr is) = cc
text_refused q f text cursor.BadCursor b read (inr is) = inr (record { end = Refused cursor.BadCursor; read = read; refused = is })
text_refused q f text cursor.CursorMismatch b read (inr is) =
    inr (record { end = Refused cursor.CursorMismatch; read = read; refused = is })

-- ---- the window of one branch

module _ (q : Branch) (search : Search) where
  pub window_read : (start e : End) → PlaceRead q search.start (told start) → PlaceRead q search.end (told e)
      → WindowRead (q ∷ []) search (window_between start e search.offset search.limit)
  window_read start e from to = record {
    places = record { start = told start; end = told e };
    read = (from, grind arith);
    start = grind arith;
    end = grind arith;
    window_is = grind arith;
  }

  pub start_refused : (b : Body) → IsEndRefused q field.Start search.start b → WindowRefused (q ∷ []) search b
  start_refused b r = record {
    places = record { start = r.end; end = Nothing };
    read = (r.read, rw r.refused tt);
    refused = rw r.refused;
  }

  pub end_refused : (start : End) (b : Body) → PlaceRead q search.start (told start) → IsEndRefused q field.End search.end b
      → WindowRefused (q ∷ []) search b
  end_refused start b from r = record {
    places = record { start = told start; end = r.end };
    read = (from, grind (arith, r.read));
    refused = grind (arith, r.refused);
  }

-- ---- several branches, or none

pub window_unread : (branches : List Branch) (search : Search) → (length branches ≡ 1 → ⊥)
    → WindowRead branches search (window_between end.Nothing end.Nothing search.offset search.limit)
window_unread branches search several = record {
  places = record { start = Nothing; end = Nothing };
  read = grind arith;
  start = refl;
  end = refl;
  window_is = refl;
}
