-- A member that is put among others leaves those of other names.
use Rattle.std.proofs.Common.{◌≡◌, ℕ, List, ◌∷◌, Bool, true, false, not, Option, Some, Result, Ok, Err, refl, sym, ap, ◌∙◌}
use Rattle.std.specs.Str.{bytes_eq}
use Rattle.std.specs.List.{list_any}
use Rattle.std.proofs.lemmas.Bool.{or_parts, and_parts, not-true}
use Rattle.std.proofs.lemmas.Slice.Eq.{bytes_eq-Decides}
use Rattle.serde_json.specs.Data.{Data, null, boolean, number, string, array, object, Members, put}
use Rattle.serde_json.proofs.Views.{get_member-put, get_member-put_other}
use Rattle.ds_json_reading.specs.declared.refusal.Refusal.{Refusal}
use Rattle.ds_json_reading.specs.Reading.{read_as, member_of, unless_null, optional}
use Rattle.ds_line_reading.specs.Tables.{is_among, are_apart}

-- another name's member stays
pub member_kept : (called name : List ℕ) (d : Data) (ms : Members) → bytes_eq name called ≡ false
    → member_of called (put name d ms) ≡ member_of called ms
member_kept called name d ms other =
    ap unless_null (get_member-put_other called name d ms
    (λ same. let is : bytes_eq name called ≡ true = (bytes_eq-Decides name called).1 (sym same) in cc))

pub slot_kept : {A : Type 0} (form : Data → Result A Refusal) (called : List ℕ) (found : Option A) (name : List ℕ) (d : Data)
    (ms : Members) → bytes_eq name called ≡ false → optional form (member_of called ms) ≡ Ok found
    → optional form (member_of called (put name d ms)) ≡ Ok found
slot_kept form called found name d ms other h = ap (optional form) (member_kept called name d ms other) ∙ h

-- a name that is none of several isn't the first, and none of the others
pub first_other : (first : List ℕ) (names : List (List ℕ)) (name : List ℕ) → is_among (first ∷ names) name ≡ false
    → bytes_eq name first ≡ false
first_other first names name h = (or_parts (bytes_eq name first) (is_among names name) h).0

pub rest_other : (first : List ℕ) (names : List (List ℕ)) (name : List ℕ) → is_among (first ∷ names) name ≡ false
    → is_among names name ≡ false
rest_other first names name h = (or_parts (bytes_eq name first) (is_among names name) h).1

not_null : {A : Type 0} (form : Data → Result A Refusal) (d : Data) (x : A) → (form null ≡ Ok x → ⊥) → form d ≡ Ok x
    → unless_null (Some d) ≡ Some d
not_null form null x never is = absurd (never is)
not_null form (boolean b) x never is = refl
not_null form (number n) x never is = refl
not_null form (string s) x never is = refl
not_null form (array ds) x never is = refl
not_null form (object ms) x never is = refl

-- the member of this name is the one that was put there last
pub slot_filled : {A : Type 0} (form : Data → Result A Refusal) (called name : List ℕ) (d : Data) (x : A) (found : Option A)
    (ms : Members) → bytes_eq name called ≡ true → (form null ≡ Ok x → ⊥) → form d ≡ Ok x → found ≡ Some x
    → optional form (member_of called (put name d ms)) ≡ Ok found
slot_filled form called name d x found ms named never is met =
    ap (λ n. optional form (member_of n (put name d ms))) (sym ((bytes_eq-Decides name called).0 named))
    ∙ (ap (λ e. optional form (unless_null e)) (get_member-put name d ms)
    ∙ (ap (optional form) (not_null form d x never is)
    ∙ (ap (read_as Some) is ∙ ap Ok (sym met))))

-- a first name is none of the others
pub apart_first : (called : List ℕ) (names : List (List ℕ)) (name : List ℕ) → are_apart (called ∷ names) ≡ true
    → bytes_eq name called ≡ true → is_among names name ≡ false
apart_first called names name apart named =
    ap (is_among names) ((bytes_eq-Decides name called).0 named)
    ∙ not-true (is_among names called) (and_parts (not (is_among names called)) (are_apart names) apart).0

-- what is refused isn't read
pub refused : {A E : Type 0} (e : E) (x : A) → Err e ≡ Ok x → ⊥
refused e x h = cc
