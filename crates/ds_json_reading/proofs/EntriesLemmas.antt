-- Reading an object member by member, and the order of a put's names.
use Rattle.std.proofs.Common.{◌≡◌, ℕ, List, [], ◌∷◌, ◌++◌, Option, Result, Ok, Err, Global, String, string_bytes, refl, sym, ap, ◌∙◌}
use Rattle.std.proofs.Common.{append_assoc}
use Rattle.std.specs.Option.{option_to_list}
use Rattle.std.proofs.lemmas.List.{append-nil}
use Rattle.serde_json.specs.Data.{Data, Members}
use Rattle.serde_json.specs.View.{view, members_view}
use Rattle.serde_json.specs.declared.value.Value.{Value as Json}
use Rattle.serde_json.proofs.Views.{Entry}
use Rattle.ds_json_reading.specs.Reading.{and_then, read_as, each_member_of}

-- what the whole object reads as, once the members before `ms` were read
abbrev pub entries_after : {A E : Type 0} → (List ℕ → Data → Result (Option A) E) → List A → Members → Result (List A) E
entries_after form done ms = read_as (λ xs. done ++ xs) (each_member_of form ms)

entries_after-start_of : {A E : Type 0} (r : Result (List A) E) → r ≡ read_as (λ xs. [] ++ xs) r
entries_after-start_of (Ok xs) = refl
entries_after-start_of (Err e) = refl

pub entries_after-start : {A E : Type 0} (form : List ℕ → Data → Result (Option A) E) (ms : Members) → each_member_of form ms ≡ entries_after form [] ms
entries_after-start form ms = entries_after-start_of (each_member_of form ms)

next_of : {A E : Type 0} (done ys : List A) (r : Result (List A) E) → read_as (λ xs. done ++ xs) (read_as (λ xs. ys ++ xs) r) ≡ read_as (λ xs. (done ++ ys) ++ xs) r
next_of done ys (Ok xs) = ap Ok (sym (append_assoc done ys xs))
next_of done ys (Err e) = refl

-- the entries of a map, the first of which is read, is refused, or isn't there
pub entry_read : {A E : Type 0} (form : List ℕ → Data → Result (Option A) E) (all : Result (List A) E) (done : List A) (es : List Entry) (name : String Global) (value : Json) (rest : List Entry) (one : Option A)
    → all ≡ entries_after form done (members_view es) → es ≡ (name, value) ∷ rest → form (string_bytes name) (view value) ≡ Ok one → all ≡ entries_after form (done ++ option_to_list one) (members_view rest)
entry_read form all done es name value rest one before here h =
    before ∙ ap (λ fs. entries_after form done (members_view fs)) here
    ∙ ap (λ r. read_as (λ xs. done ++ xs) (and_then r (λ x. read_as (λ xs. option_to_list x ++ xs) (each_member_of form (members_view rest))))) h
    ∙ next_of done (option_to_list one) (each_member_of form (members_view rest))

pub entry_refused : {A E : Type 0} (form : List ℕ → Data → Result (Option A) E) (all : Result (List A) E) (done : List A) (es : List Entry) (name : String Global) (value : Json) (rest : List Entry) (e : E)
    → all ≡ entries_after form done (members_view es) → es ≡ (name, value) ∷ rest → form (string_bytes name) (view value) ≡ Err e → all ≡ Err e
entry_refused form all done es name value rest e before here h =
    before ∙ ap (λ fs. entries_after form done (members_view fs)) here
    ∙ ap (λ r. read_as (λ xs. done ++ xs) (and_then r (λ x. read_as (λ xs. option_to_list x ++ xs) (each_member_of form (members_view rest))))) h

pub entries_end : {A E : Type 0} (form : List ℕ → Data → Result (Option A) E) (all : Result (List A) E) (done : List A) (es : List Entry) → all ≡ entries_after form done (members_view es) → es ≡ [] → all ≡ Ok done
entries_end form all done es before none = before ∙ ap (λ fs. entries_after form done (members_view fs)) none ∙ ap Ok (append-nil done)
