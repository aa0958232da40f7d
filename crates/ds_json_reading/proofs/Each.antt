-- Reading an array item by item.
use Rattle.std.proofs.Common.{◌≡◌, List, [], ◌∷◌, ◌++◌, Result, Ok, Err, refl, sym, ap, ◌∙◌, append_assoc}
use Rattle.std.proofs.lemmas.List.{append-nil}
use Rattle.serde_json.specs.Data.{Data, Items}
use Rattle.serde_json.specs.View.{view, items_view}
use Rattle.serde_json.specs.declared.value.Value.{Value}
use Rattle.ds_json_reading.specs.Reading.{and_then, read_as, each_of}

-- what the whole array reads as, once the items before `ds` were read
abbrev pub each_after : {A E : Type 0} → (Data → Result A E) → List A → Items → Result (List A) E
each_after form done ds = read_as (λ xs. done ++ xs) (each_of form ds)

each_after-start_of : {A E : Type 0} (r : Result (List A) E) → r ≡ read_as (λ xs. [] ++ xs) r
each_after-start_of (Ok xs) = refl
each_after-start_of (Err e) = refl

pub each_after-start : {A E : Type 0} (form : Data → Result A E) (ds : Items) → each_of form ds ≡ each_after form [] ds
each_after-start form ds = each_after-start_of (each_of form ds)

next_of : {A E : Type 0} (done : List A) (x : A) (r : Result (List A) E) → read_as (λ xs. done ++ xs) (read_as (λ xs. x ∷ xs) r) ≡ read_as (λ xs. (done ++ x ∷ []) ++ xs) r
next_of done x (Ok xs) = ap Ok (sym (append_assoc done (x ∷ []) xs))
next_of done x (Err e) = refl

-- the same for the values of an array, the first of which is read
pub item_read : {A E : Type 0} (form : Data → Result A E) (all : Result (List A) E) (done : List A) (vs : List Value) (v : Value) (rest : List Value) (x : A) → all ≡ each_after form done (items_view vs) → vs ≡ v ∷ rest → form (view v) ≡ Ok x → all ≡ each_after form (done ++ x ∷ []) (items_view rest)
item_read form all done vs v rest x before here h =
    before ∙ ap (λ ws. each_after form done (items_view ws)) here ∙ ap (λ r. read_as (λ xs. done ++ xs) (and_then r (λ y. read_as (λ xs. y ∷ xs) (each_of form (items_view rest))))) h
    ∙ next_of done x (each_of form (items_view rest))

pub item_refused : {A E : Type 0} (form : Data → Result A E) (all : Result (List A) E) (done : List A) (vs : List Value) (v : Value) (rest : List Value) (e : E) → all ≡ each_after form done (items_view vs) → vs ≡ v ∷ rest → form (view v) ≡ Err e → all ≡ Err e
item_refused form all done vs v rest e before here h =
    before ∙ ap (λ ws. each_after form done (items_view ws)) here ∙ ap (λ r. read_as (λ xs. done ++ xs) (and_then r (λ y. read_as (λ xs. y ∷ xs) (each_of form (items_view rest))))) h

pub items_end : {A E : Type 0} (form : Data → Result A E) (all : Result (List A) E) (done : List A) (vs : List Value) → all ≡ each_after form done (items_view vs) → vs ≡ [] → all ≡ Ok done
items_end form all done vs before none = before ∙ ap (λ ws. each_after form done (items_view ws)) none ∙ ap Ok (append-nil done)
