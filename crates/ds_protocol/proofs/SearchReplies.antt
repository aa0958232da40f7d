-- From what is promised of a search that is prepared, refused or finished to the replies of the model: laws for servers.
use Rattle.ds_protocol.proofs.Words.{arith, ◌≡◌, Bool, List, ℕ, Option, Some, None, Ok, refl, Normal, Window, Body, Session, IsInside}
use Rattle.ds_protocol.proofs.Words.{IsRefused, search_parts}
use Rattle.ds_entity.specs.declared.results.Item.{Item}
use Rattle.ds_entity.specs.declared.results.Seen.{Seen}
use Rattle.ds_query.specs.declared.query.Select.{Select}
use Rattle.ds_request.specs.declared.call.Call.{Call}
use Rattle.ds_model.specs.Answers.{FoundOver, SearchAnswers, SearchRefusedOrAnswered}
use Rattle.ds_model.specs.Asked.{search_of}
use Rattle.ds_model.specs.Refusals.{Places, ancestor_group_refusal}
use Rattle.ds_model.specs.Worlds.{World}
use Rattle.ds_protocol.specs.declared.searching.Search.{Search}
use Rattle.ds_protocol.specs.Finishing.{found}
use Rattle.ds_protocol.specs.Preparing.{IsReady}
use Rattle.ds_protocol.specs.Searches.{IsSearchOf, is_statement}
use Rattle.ds_model.specs.Asked

-- a query's reply is a query's, and a statement's a statement's
search_answers : (w : World) (s : Session) (c : Call) (search : Asked.Search) (places : Places) (selected : Select) (results : List Item)
    (seen : Seen) (told : Option (List ℕ)) (after : Session) → search_of c ≡ Some (Ok search)
    → FoundOver w s search places search.query.ancestor selected results seen told after
    → SearchAnswers w s c search places (found (is_statement c) selected results seen told) after
search_answers w s c search places selected results seen told after is over = grind arith

-- ---- the whole reply

module _ (w : World) (s : Session) (c : Call) where
  -- a prepared search whose group isn't refused is answered
  pub search_found : (r : Search) (inside : Bool) (n : Normal) (window : Window)
      (ready : IsReady w.definitions inside (search_parts r) n window) (selected : Select) (results : List Item) (seen : Seen)
      (told : Option (List ℕ)) (after : Session) → IsSearchOf c r → IsInside inside s
      → ancestor_group_refusal s.transaction r.query.ancestor ≡ None
      → FoundOver w s (search_parts r) ready.places r.query.ancestor selected results seen told after
      → SearchRefusedOrAnswered w s c (search_parts r) (found r.statement selected results seen told) after
  search_found r inside n window ready selected results seen told after is i group over = record {
    places = ready.places;
    read = grind (arith, ready.read);
    answered = rw (ready.unrefused s i, group, is.written) (search_answers w s c (search_parts r) ready.places selected results seen told
        after is.exact over);
  }

  -- a prepared search is refused for its group
  pub search_group_refused : (search : Asked.Search) (inside : Bool) (n : Normal) (window : Window) (b : Body)
      → IsReady w.definitions inside search n window → IsInside inside s
      → ancestor_group_refusal s.transaction search.query.ancestor ≡ Some b → SearchRefusedOrAnswered w s c search b s
  search_group_refused search inside n window b ready i group = record {
    places = ready.places;
    read = grind (arith, ready.read);
    answered = rw (ready.unrefused s i, group) (refl, refl);
  }

  -- a search is refused before its group is looked at
  pub search_refused : (search : Asked.Search) (inside : Bool) (b : Body) → IsRefused w.definitions inside search b → IsInside inside s
      → SearchRefusedOrAnswered w s c search b s
  search_refused search inside b r i = record {
    places = r.places;
    read = r.read s i;
    answered = rw (r.told s i) (refl, refl);
  }
