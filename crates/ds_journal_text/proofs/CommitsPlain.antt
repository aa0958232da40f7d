-- The data of a commit are plain: so its line tells them.
use Rattle.std.proofs.Common.{◌≡◌, ℕ, suc, ◌^◌, ◌<◌, ◌≤◌, pos, negsuc, List, [], ◌∷◌, Bool, true, false, cond, refl}
use Rattle.std.proofs.Common.{arith}
use Rattle.std.specs.Prelude.{codes, All, IsTrue, IsUtf8, FitsSigned}
use Rattle.std.specs.Int.{w64}
use Rattle.std.specs.List.{list_any}
use Rattle.std.specs.Ordering.{nat_cmp, is_lt}
use Rattle.std.specs.declared.cmp.Ordering.{Ordering}
use Rattle.std.specs.declared.cmp.Ordering.TheVariants.{Less, Equal, Greater}
use Rattle.std.specs.Cmp.Lexicographic.{slice_cmp}
use Rattle.std.proofs.lemmas.Bool.{and_parts, or_parts, ltb-false}
use Rattle.std.proofs.lemmas.Cmp.{nat_list_cmp_total}
use Rattle.std.proofs.lemmas.List.Elements.{All-head, All-tail}
use Rattle.std.proofs.lemmas.Str.{IsUtf8-from_ascii}
use Rattle.base64.specs.Engines.{standard}
use Rattle.base64.specs.GeneralPurpose.{encode_of}
use Rattle.base64.proofs.EngineFacts.{IsAscii-encode_of}
use Rattle.json.proofs.Printed.Utf8.{IsUtf8-are_ascii}
use Rattle.serde_json.specs.Data.{Data, unsigned, number, string}
use Rattle.ds_entity.specs.Entities.{EntityParts, names_ascend, is_faulty_property}
use Rattle.ds_base.specs.Values.{is_faulty_value}
use Rattle.ds_base.specs.KeyOrder.{bytes_cmp}
use Rattle.ds_base.specs.Keys.{KeyParts}
use Rattle.ds_base.specs.Limits.{greatest_rating}
use Rattle.ds_entity.specs.declared.entity.Property.{Property}
use Rattle.ds_base.specs.declared.key.Ident.{Ident}
use Rattle.ds_base.specs.declared.key.Ident.TheVariants.{Id, Name}
use Rattle.ds_base.specs.declared.key.Elem.{Elem}
use Rattle.ds_base.specs.declared.value.Value.{Value}
use Rattle.ds_base.specs.declared.value.Value.TheVariants as value
use Rattle.ds_bytes.specs.Lawful.{IsLawfulIdent, IsLawfulElem, IsLawfulKey}
use Rattle.ds_log.specs.declared.Commit.{Commit}
use Rattle.ds_log.specs.declared.Touch.{Touch}
use Rattle.ds_log.specs.declared.Write.{Write}
use Rattle.ds_log.specs.declared.Write.TheVariants.{Put, Delete}
use Rattle.ds_json_printing.specs.Printing.{ident_data, elem_items, keyed_items, key_data, integer, base64_data, value_data, value_items}
use Rattle.ds_json_printing.specs.Printing.{values_data, tagged}
use Rattle.ds_reply.specs.EntityPrinting.{property_members, entity_data}
use Rattle.ds_journal_text.specs.Lawful.{IsLawfulValue, IsLawfulProperty, IsLawfulEntity, IsLawfulWrite, IsLawfulTouch, IsLawfulCommit}
use Rattle.ds_journal_text.specs.Texts.{touch_items, write_data, write_items, commit_data}
use Rattle.ds_journal_text.proofs.PlainData.{IsPlain, ArePlain, MembersArePlain, AllBehind, Ascend}
use Rattle.ds_journal_text.proofs.EntitiesBack.{sound, none_faulty}

pub one_member : (name : List ℕ) (d : Data) (k : ℕ) → IsUtf8 name → IsPlain d k → IsPlain (tagged name d) (suc k)
one_member name d k utf8 h = ((utf8, h, tt), (tt, tt))

-- ---- keys

ident_plain : (i : Ident) (j : ℕ) → IsLawfulIdent i → IsPlain (ident_data i) j
ident_plain (Id n) j h = h
ident_plain (Name s) j h = h.utf8

elems_plain : (es : List Elem) (j : ℕ) → All IsLawfulElem es → ArePlain (elem_items es) (suc j)
elems_plain [] j h = tt
elems_plain (e ∷ es) j h =
    let first = All-head IsLawfulElem e es h in
    ((first.kind.utf8, (ident_plain e.ident j first.ident, tt)), elems_plain es j (All-tail IsLawfulElem e es h))

keyed_plain : (namespace : List ℕ) (es : List Elem) (j : ℕ) → IsUtf8 namespace → All IsLawfulElem es → ArePlain (keyed_items namespace es) (suc j)
keyed_plain [] es j utf8 h = elems_plain es j h
keyed_plain (b ∷ bs) es j utf8 h = (utf8, elems_plain es j h)

pub key_plain : (k : KeyParts) (j : ℕ) → IsLawfulKey k → IsPlain (key_data k) (suc (suc j))
key_plain k j h = keyed_plain k.namespace k.elems j h.namespace.utf8 h.elems

-- ---- values

pub integer_plain : (z : _) (j : ℕ) → FitsSigned w64 z → IsPlain (integer z) j
integer_plain (pos n) j h = omega (arith, h.sfits)
integer_plain (negsuc n) j h = omega (arith, h.sfits)

pub base64_plain : (bs : List ℕ) (j : ℕ) → IsPlain (base64_data bs) j
base64_plain bs j = IsUtf8-from_ascii (encode_of standard bs) (IsAscii-encode_of standard bs)

value_plain : (v : Value) (indexed : Bool) (j : ℕ) → IsLawfulValue v → is_faulty_value indexed v ≡ false → IsPlain (value_data v) (suc (suc (suc j)))
value_plain value.Null indexed j h sound = tt
value_plain (value.Int n) indexed j h sound = integer_plain n (suc (suc (suc j))) h
value_plain (value.Date n) indexed j h sound = one_member (codes "date") (integer n) (suc (suc j)) (IsUtf8-are_ascii (codes "date") refl) (integer_plain n (suc (suc j)) h)
value_plain (value.Rating n) indexed j h sound =
    let small : n ≤ greatest_rating = ltb-false greatest_rating n sound in
    let fits : n < 2 ^ 64 = omega arith in
    one_member (codes "rating") (number (unsigned n)) (suc (suc j)) (IsUtf8-are_ascii (codes "rating") refl) fits
value_plain (value.Bool b) indexed j h sound = tt
value_plain (value.Bytes s) indexed j h sound = one_member (codes "bytes") (base64_data s) (suc (suc j)) (IsUtf8-are_ascii (codes "bytes") refl) (base64_plain s (suc (suc j)))
value_plain (value.Str s) indexed j h sound = h.utf8
value_plain (value.Text s) indexed j h sound = one_member (codes "text") (string s) (suc (suc j)) (IsUtf8-are_ascii (codes "text") refl) h.utf8
value_plain (value.Blob s) indexed j h sound = one_member (codes "blob") (base64_data s) (suc (suc j)) (IsUtf8-are_ascii (codes "blob") refl) (base64_plain s (suc (suc j)))
value_plain (value.Key k) indexed j h sound = one_member (codes "key") (key_data k) (suc (suc j)) (IsUtf8-are_ascii (codes "key") refl) (key_plain k j h)

value_items_plain : (vs : List Value) (indexed : Bool) (j : ℕ) → All IsLawfulValue vs → list_any (is_faulty_value indexed) vs ≡ false → ArePlain (value_items vs) (suc (suc (suc j)))
value_items_plain [] indexed j h sound = tt
value_items_plain (v ∷ vs) indexed j h sound =
    let p = or_parts _ _ sound in
    (value_plain v indexed j (All-head IsLawfulValue v vs h) p.0, value_items_plain vs indexed j (All-tail IsLawfulValue v vs h) p.1)

values_plain : (vs : List Value) (indexed : Bool) (j : ℕ) → All IsLawfulValue vs → list_any (is_faulty_value indexed) vs ≡ false → IsPlain (values_data vs) (suc (suc (suc (suc j))))
values_plain [] indexed j h sound = tt
values_plain (v ∷ []) indexed j h sound = value_plain v indexed (suc j) (All-head IsLawfulValue v [] h) (or_parts _ _ sound).0
values_plain (v ∷ w ∷ vs) indexed j h sound = value_items_plain (v ∷ w ∷ vs) indexed j h sound

-- ---- entities

shown_plain : (indexed : Bool) (vs : List Value) (j : ℕ) → All IsLawfulValue vs → list_any (is_faulty_value indexed) vs ≡ false
    → IsPlain (cond indexed (values_data vs) (tagged (codes "unindexed") (values_data vs))) (suc (suc (suc (suc (suc j)))))
shown_plain true vs j h sound = values_plain vs true (suc j) h sound
shown_plain false vs j h sound =
    one_member (codes "unindexed") (values_data vs) (suc (suc (suc (suc j)))) (IsUtf8-are_ascii (codes "unindexed") refl) (values_plain vs false j h sound)

properties_plain : (ps : List Property) (j : ℕ) → All IsLawfulProperty ps → list_any is_faulty_property ps ≡ false → MembersArePlain (property_members ps) (suc (suc (suc (suc (suc j)))))
properties_plain [] j h sound = tt
properties_plain (p ∷ ps) j h sound =
    let parts = or_parts _ _ sound in
    let first = All-head IsLawfulProperty p ps h in
    (first.name.utf8, shown_plain p.indexed p.values j first.values (or_parts _ _ parts.0).1, properties_plain ps j (All-tail IsLawfulProperty p ps h) parts.1)

less : (o : Ordering) → is_lt o ≡ true → o ≡ Less
less Less h = refl
less Equal h = cc
less Greater h = cc

behind_all : (k : List ℕ) (q : Property) (qs : List Property) → slice_cmp nat_cmp k q.name ≡ Less → IsTrue (names_ascend (q ∷ qs)) → AllBehind k (property_members (q ∷ qs))
behind_all k q [] first up = (first, tt)
behind_all k q (r ∷ rs) first up =
    let p = and_parts _ _ up in
    (first, behind_all k r rs (nat_list_cmp_total.trans k q.name r.name first (less (bytes_cmp q.name r.name) p.0)) p.1)

names_up : (ps : List Property) → IsTrue (names_ascend ps) → Ascend (property_members ps)
names_up [] up = tt
names_up (p ∷ []) up = (tt, tt)
names_up (p ∷ q ∷ qs) up =
    let parts = and_parts _ _ up in
    (behind_all p.name q qs (less (bytes_cmp p.name q.name) parts.0) parts.1, names_up (q ∷ qs) parts.1)

pub entity_plain : (e : EntityParts) (j : ℕ) → IsLawfulEntity e → IsPlain (entity_data e) (suc (suc (suc (suc (suc (suc (suc j)))))))
entity_plain e j h =
    let s = sound e.key e.properties h.rules.not_refused in
    let properties = properties_plain e.properties j h.properties (none_faulty is_faulty_property e.properties s.faultless) in (
      (
        IsUtf8-are_ascii (codes "key") refl,
        key_plain e.key (suc (suc (suc (suc j)))) h.key,
        (IsUtf8-are_ascii (codes "properties") refl, (properties, names_up e.properties h.rules.ascending), tt),
      ),
      ((refl, tt), (tt, tt)),
    )

-- ---- commits

touches_plain : (ts : List Touch) (j : ℕ) → All IsLawfulTouch ts → ArePlain (touch_items ts) (suc (suc (suc j)))
touches_plain [] j h = tt
touches_plain (t ∷ ts) j h =
    let first = All-head IsLawfulTouch t ts h in
    ((key_plain t.group j first.group, (first.place, tt)), touches_plain ts j (All-tail IsLawfulTouch t ts h))

write_plain : (w : Write) (j : ℕ) → IsLawfulWrite w → IsPlain (write_data w) (suc (suc (suc (suc (suc (suc (suc (suc j))))))))
write_plain (Put e) j h = one_member (codes "put") (entity_data e) (suc (suc (suc (suc (suc (suc (suc j))))))) (IsUtf8-are_ascii (codes "put") refl) (entity_plain e j h)
write_plain (Delete k) j h =
    one_member (codes "delete") (key_data k) (suc (suc (suc (suc (suc (suc (suc j))))))) (IsUtf8-are_ascii (codes "delete") refl) (key_plain k (suc (suc (suc (suc (suc j))))) h)

writes_plain : (ws : List Write) (j : ℕ) → All IsLawfulWrite ws → ArePlain (write_items ws) (suc (suc (suc (suc (suc (suc (suc (suc j))))))))
writes_plain [] j h = tt
writes_plain (w ∷ ws) j h = (write_plain w j (All-head IsLawfulWrite w ws h), writes_plain ws j (All-tail IsLawfulWrite w ws h))

pub commit_plain : (n : ℕ) (c : Commit) (j : ℕ) → n < 2 ^ 64 → IsLawfulCommit c → IsPlain (commit_data n c) (suc (suc (suc (suc (suc (suc (suc (suc (suc (suc j))))))))))
commit_plain n c j fits h =
    let client : c.client < 2 ^ 64 = omega (arith, h.client) in (
      (
        IsUtf8-are_ascii (codes "client") refl,
        client,
        (
          IsUtf8-are_ascii (codes "commit") refl,
          fits,
          (
            IsUtf8-are_ascii (codes "touched") refl,
            touches_plain c.touched (suc (suc (suc (suc (suc j))))) h.touched,
            (IsUtf8-are_ascii (codes "writes") refl, writes_plain c.writes j h.writes, tt),
          ),
        ),
      ),
      ((refl, (refl, (refl, tt))), ((refl, (refl, tt)), ((refl, tt), (tt, tt)))),
    )
