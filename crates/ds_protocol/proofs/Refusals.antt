-- The refusal of a search's form, and what a query without one has.
use Rattle.ds_protocol.proofs.Words.{◌≡◌, ℕ, Bool, false, List, Option, Some, None, Ok, arith, IndexDef, Normal, Window, Body, Search}
use Rattle.ds_protocol.proofs.Words.{Nothing, Session, IsInside, IsRefused}
use Rattle.std.specs.Prelude.{◌&&◌}
use Rattle.ds_query.specs.declared.query.Query.{Query}
use Rattle.ds_query.specs.Lawful.{IsPlaceless, SuitsSeveral}
use Rattle.ds_query.specs.Normals.{normal_of, normal_form}
use Rattle.ds_query.specs.Reasons.{reason_of}
use Rattle.ds_model.specs.Asked.{has_cursors}
use Rattle.ds_model.specs.Refusals.{form_refusal}

-- ---- a query with a normal form

no_reason : (q : Query) (n : Normal) → normal_of q ≡ Ok n → reason_of q ≡ None
no_reason q n e = grind arith

normal_is : (q : Query) (n : Normal) → reason_of q ≡ None → normal_of q ≡ Ok n → n ≡ normal_form q
normal_is q n none e = grind arith

cursorless : (q : Query) → reason_of q ≡ None → ((normal_form q).several && q.cursors) ≡ false
cursorless q none = grind arith

-- it has that normal form, and no cursors where it has `!=` or `in`
pub normal_read : (q : Query) (n : Normal) → normal_of q ≡ Ok n → (n ≡ normal_form q) × ((n.several && q.cursors) ≡ false)
normal_read q n e =
    let none = no_reason q n e in
    let is = normal_is q n none e in
    (is, rw is (cursorless q none))

-- a window has no places where there may be no cursors
pub suits_several : (several : Bool) (start e : Option (List ℕ)) (cursor : Bool) (w : Window)
    → (several && has_cursors start e cursor) ≡ false → (start ≡ None → e ≡ None → IsPlaceless w) → SuitsSeveral several w
suits_several several start e cursor w off placeless = grind arith

-- ---- a query without one

pub refused_form : (definitions : List IndexDef) (inside : Bool) (search : Search) (b : Body)
    → ((s : Session) → IsInside inside s → form_refusal s search.query ≡ Some b) → IsRefused definitions inside search b
refused_form definitions inside search b form = record {
  places = record { start = Nothing; end = Nothing };
  read = λ s i. rw (form s i) tt;
  told = λ s i. rw (form s i);
}
