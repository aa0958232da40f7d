-- A search that is refused is told no number of a step.
use Rattle.ds_machine.proofs.Words.{◌≡◌, ◌⊎◌, inl, inr, Bool, true, List, [], ◌∷◌, ap, arith, Option, IfSome, Result, KeyParts, IndexDef}
use Rattle.ds_machine.proofs.Words.{Normal, Body, ancestor_group_refusal, first_refusal, Session, Transaction, IsInside, IsRefused}
use Rattle.ds_machine.proofs.Words.{printed_next_in, is_quiet, tells_no_step, Told, Places, ancestor_refusal, cursor_refusal, form_refusal}
use Rattle.ds_machine.proofs.Words.{missing_refusal, normal_refusal, search_refusal}
use Rattle.ds_query.specs.declared.branch.Branch.{Branch}
use Rattle.ds_query.specs.declared.field.Field.{Field}
use Rattle.ds_query.specs.declared.refusal.QueryRefused.{QueryRefused}
use Rattle.ds_query.specs.Normals.{normal_of, normal_form}
use Rattle.ds_query.specs.declared.field.Field.TheVariants as field
use Rattle.ds_reply.specs.declared.reply.Body.TheVariants as body
use Rattle.ds_model.specs.Asked

abbrev IsBare : Option Body → Type 0
IsBare o = IfSome o (λ b. tells_no_step b ≡ true)

first-bare : (o : Option Body) (os : List (Option Body)) → IsBare o → IsBare (first_refusal os) → IsBare (first_refusal (o ∷ os))
first-bare o os bare rest = grind arith

normal-bare : (r : Result Normal QueryRefused) → IsBare (normal_refusal r)
normal-bare r = grind arith

cursor-bare : (f : Field) (t : Told) → IsBare (cursor_refusal f t)
cursor-bare f t = grind arith

missing-bare : (definitions : List IndexDef) (qs : List Branch) → IsBare (missing_refusal definitions qs)
missing-bare definitions [] = tt
missing-bare definitions (q ∷ qs) = grind (arith, missing-bare definitions qs)

ancestor-bare : (t : Option Transaction) (a : Option KeyParts) → IsBare (ancestor_refusal t a)
ancestor-bare t a = grind arith

group-bare : (t : Option Transaction) (a : Option KeyParts) → IsBare (ancestor_group_refusal t a)
group-bare t a = grind arith

search-bare : (definitions : List IndexDef) (s : Session) (search : Asked.Search) (places : Places)
    → IsBare (search_refusal definitions s search places)
search-bare definitions s search places =
    first-bare (form_refusal s search.query) _
    (first-bare (normal_refusal (normal_of search.query)) _ (normal-bare (normal_of search.query))
    (first-bare (ancestor_refusal s.transaction search.query.ancestor) [] (ancestor-bare s.transaction search.query.ancestor) tt))
    (first-bare (cursor_refusal field.Start places.start) _ (cursor-bare field.Start places.start)
    (first-bare (cursor_refusal field.End places.end) _ (cursor-bare field.End places.end)
    (first-bare (missing_refusal definitions (normal_form search.query).branches) _
    (missing-bare definitions (normal_form search.query).branches)
    (first-bare (ancestor_group_refusal s.transaction search.query.ancestor) []
    (group-bare s.transaction search.query.ancestor) tt))))

-- a search that is refused by its form, its cursors or for want of an index
pub form-bare : (definitions : List IndexDef) (s : Session) (inside : Bool) (search : Asked.Search) (b : Body) → IsInside inside s
    → (b ≡ body.NoMemory) ⊎ IsRefused definitions inside search b → tells_no_step b ≡ true
form-bare definitions s inside search b is (inl memory) = ap tells_no_step memory
form-bare definitions s inside search b is (inr refused) =
    rw (refused.told s is) at (search-bare definitions s search refused.places)

-- what tells no number of a step and prints no id counter is quiet
pub quiet-is : (b : Body) → tells_no_step b ≡ true → printed_next_in b ≡ [] → is_quiet b ≡ true
quiet-is b none prints = grind arith
