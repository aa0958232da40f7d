-- Lines of a common form.
use Rattle.std.proofs.Common.{◌≡◌, ℕ, List, [], ◌∷◌, Bool, true, false, cond, not, ◌||◌, ◌<◌, length, Option, Some, None, option_and_then, Result, Ok, Err}
use Rattle.std.proofs.Common.{IfSome, refl, sym, ap, subst, ◌∙◌, codes}
use Rattle.std.specs.Str.{IsUtf8}
use Rattle.std.proofs.lemmas.Str.{is_utf8-from_IsUtf8}
use Rattle.json.specs.Token.{Token}
use Rattle.json.specs.Json as json
use Rattle.json.specs.Json.{value}
use Rattle.json.specs.Lex.{tokens}
use Rattle.serde_json.specs.Data.{Data, object, Members}
use Rattle.serde_json.specs.Read.{of_json, read, max_depth}
use Rattle.ds_base.specs.declared.value.Value.{Value}
use Rattle.ds_base.specs.Keys.{KeyParts, is_name, is_reserved, is_writable}
use Rattle.ds_entity.specs.declared.entity.Property.{Property}
use Rattle.ds_json_values.specs.Outcomes.{Gives}
use Rattle.ds_json_reading.specs.declared.refusal.Refusal.{Refusal}
use Rattle.ds_json_reading.specs.declared.refusal.Refusal.TheVariants as refusal
use Rattle.ds_json_reading.specs.Reading.{and_then, read_as, member_of, required, optional, defaulted}
use Rattle.ds_request.specs.declared.call.Call.{Call}
use Rattle.ds_request.specs.declared.call.Request.{Request}
use Rattle.ds_request.specs.declared.operation.Operation.{Operation}
use Rattle.ds_json_reading.specs.Keys.{key_of, writable_key_of, entity_key_of}
use Rattle.ds_json_reading.specs.Values.{property_values_of}
use Rattle.ds_line_reading.specs.Parts.{IsRead}
use Rattle.ds_request.specs.Entities.{PutParts, property_with, property_of, properties_of, entity_of}
use Rattle.ds_member_reading.specs.Forms.{client_of}
use Rattle.ds_member_reading.proofs.MemberLaws.{required_is, defaulted_is}
use Rattle.ds_request.specs.Lawful.{IsLawfulCall}
use Rattle.ds_request.specs.Requests.{operation_of, call_of, object_request_of, data_request_of, line_data, request_of}

-- the data of bytes that are a text
pub text_data : (line text : List ℕ) → text ≡ line → IsUtf8 line → read text ≡ line_data line
text_data line text same is = ap read same ∙ sym (ap (λ b. cond b (read line) None) (is_utf8-from_IsUtf8 line is))

-- a request of a text is that of the line
pub text_request : (line text : List ℕ) (found : Option Request) → text ≡ line → IsUtf8 line → IfSome found (λ r. (data_request_of (read text) ≡ Ok r) × IsLawfulCall r.call)
    → IfSome found (λ r. (request_of line ≡ Ok r) × IsLawfulCall r.call)
text_request line text found same is h = subst (λ d. IfSome found (λ r. (data_request_of d ≡ Ok r) × IsLawfulCall r.call)) (text_data line text same is) h

-- an object behind which nothing stands is the text's value
pub whole_text : (text : List ℕ) (ms : Members) (left : List Token) → Gives of_json (value max_depth (tokens text)) (Some (object ms)) left → left ≡ [] → read text ≡ Some (object ms)
whole_text text ms left g over =
    ap (λ found. option_and_then of_json (option_and_then (λ p. json.if_last p.0 p.1) found)) (g.1 ∙ ap (λ ts. Some (g.0, ts)) over) ∙ g.2

pub object_request : (text : List ℕ) (ms : Members) (found : Option Request) → read text ≡ Some (object ms) → IfSome found (λ r. (object_request_of ms ≡ Ok r) × IsLawfulCall r.call)
    → IfSome found (λ r. (data_request_of (read text) ≡ Ok r) × IsLawfulCall r.call)
object_request text ms found is h = subst (λ d. IfSome found (λ r. (data_request_of d ≡ Ok r) × IsLawfulCall r.call)) (sym is) h

-- ---- the request

pub request_made : (ms : Members) (client : ℕ) (o : Operation) (c : Call) → defaulted 0 client_of (member_of (codes "client") ms) ≡ Ok client → required operation_of (member_of (codes "op") ms) ≡ Ok o
    → call_of client ms o ≡ Ok c → object_request_of ms ≡ Ok (record { client = client; call = c })
request_made ms client o c whose what is = rw (whose, what, is) refl

-- ---- keys and entities

pub writable_required : (d : Option Data) (k : KeyParts) → required key_of d ≡ Ok k → is_writable k ≡ true → required writable_key_of d ≡ Ok k
writable_required None k is writable = absurd cc
writable_required (Some d) k is writable = ap (λ r. and_then r (λ v. cond (is_writable v) (Ok v) (Err refusal.Key))) is ∙ ap (λ b. cond b (Ok k) (Err refusal.Key)) writable

pub entity_made : (ms : Members) (k : KeyParts) (ps : List Property) → optional entity_key_of (member_of (codes "key") ms) ≡ Ok (Some (k, false))
    → optional properties_of (member_of (codes "properties") ms) ≡ Ok (Some ps) → entity_of (object ms) ≡ Ok (record { key = k; incomplete = false; properties = ps })
entity_made ms k ps key properties =
    let made : KeyParts × Bool → List Property → PutParts = λ v qs. record { key = v.0; incomplete = v.1; properties = qs } in
    ap (λ r. and_then r (λ v. read_as (made v) (defaulted [] properties_of (member_of (codes "properties") ms)))) (required_is entity_key_of (member_of (codes "key") ms) (k, false) key)
    ∙ ap (read_as (made (k, false))) (defaulted_is properties_of [] (member_of (codes "properties") ms) (Some ps) properties)

-- ---- what may not be read

-- the value of this data, by a form
pub read_if : {A : Type 0} (depth : ℕ) (form : Data → Result A Refusal) (old new : List Token) (d : Data) (found : Option A) → Gives of_json (value depth old) (Some d) new → length new < length old
    → IfSome found (λ x. form d ≡ Ok x) → IfSome found (λ x. IsRead depth form old x new)
read_if depth form old new d None g shorter h = tt
read_if depth form old new d (Some x) g shorter h = (d, g, h, shorter)

named_so : (name : List ℕ) (indexed : Bool) (vs : List Value) (p : Property) → property_with name (indexed, vs) ≡ Some p → p.name ≡ name
named_so name indexed [] p h = absurd cc
named_so name indexed (v ∷ vs) p h =
    let made : Property = record { name = name; indexed = indexed; values = v ∷ vs } in
    let same : made ≡ p = cc in
    ap (λ (q : Property). q.name) (sym same)

pub property_if : (depth : ℕ) (old new : List Token) (name : List ℕ) (indexed : Bool) (vs : List Value) (found : Option Property) → is_name name ≡ true → is_reserved name ≡ false
    → IsRead depth property_values_of old (indexed, vs) new → IfSome found (λ p. property_with name (indexed, vs) ≡ Some p)
    → IfSome found (λ p. (p.name ≡ name) × IsRead depth (property_of name) old (Some p) new)
property_if depth old new name indexed vs None short free one h = tt
property_if depth old new name indexed vs (Some p) short free one h = (
  named_so name indexed vs p h,
  (
    one.0,
    one.1,
    ap (λ b. cond (not b || is_reserved name) (Err refusal.Value) (read_as (property_with name) (property_values_of one.0))) short
        ∙ (ap (λ b. cond b (Err refusal.Value) (read_as (property_with name) (property_values_of one.0))) free
        ∙ (ap (read_as (property_with name)) one.2 ∙ ap Ok h)),
    one.3,
  ),
)
