-- Members that are read one after another from one object.
use Rattle.std.proofs.Common.{◌≡◌, List, [], ◌∷◌, Bool, true, false, not, Result, Ok, refl, sym, ◌∙◌}
use Rattle.std.specs.List.{list_any}
use Rattle.std.specs.Str.{bytes_eq}
use Rattle.std.proofs.lemmas.Bool.{or_parts, and_parts}
use Rattle.serde_json.specs.Data.{Members}
use Rattle.ds_query.specs.declared.field.Field.{Field}
use Rattle.ds_json_reading.specs.Reading.{Reads, and_then}
use Rattle.ds_query.specs.Fields.{field_name}
use Rattle.ds_request.specs.Members.{is_apart, AgreeOn}
use Rattle.ds_json_reading.specs.Reading.{AgreeBut}

-- where a member of another name is taken out, the others are still what was asked
pub agree_after : (f : Field) (fs : List Field) (asked old new : Members) → list_any (λ g. bytes_eq (field_name f) (field_name g)) fs ≡ false
    → AgreeOn fs asked old → AgreeBut (field_name f) new old → AgreeOn fs asked new
agree_after f [] asked old new apart agree others = tt
agree_after f (g ∷ gs) asked old new apart agree others =
    let parts = or_parts (bytes_eq (field_name f) (field_name g)) (list_any (λ h. bytes_eq (field_name f) (field_name h)) gs) apart in
    (agree.0 ∙ sym (others (field_name g) parts.0), agree_after f gs asked old new parts.1 agree.1 others)

not_true : (b : Bool) → not b ≡ true → b ≡ false
not_true true h = cc
not_true false h = refl

-- the first name is none of the others, and these are apart
pub apart_parts : (f : Field) (fs : List Field) → is_apart (f ∷ fs) ≡ true → (list_any (λ g. bytes_eq (field_name f) (field_name g)) fs ≡ false) × (is_apart fs ≡ true)
apart_parts f fs h =
    let parts = and_parts (not (list_any (λ g. bytes_eq (field_name f) (field_name g)) fs)) (is_apart fs) h in
    (not_true _ parts.0, parts.1)

-- the first is read, and then the others are
pub then_read : {A B E : Type 0} (no_memory : E) (first : Result A E) (rest : A → Result B E) (x : A) (answer : Result B E) → first ≡ Ok x → Reads no_memory (rest x) answer → Reads no_memory (and_then first rest) answer
then_read no_memory first rest x answer is h = rw is h
