-- The results of a query are plain JSON where its items are lawful.
use Rattle.std.proofs.Common.{◌≡◌, ℕ, suc, List, [], ◌∷◌, Bool, true, false, cond, Option, Some, None, refl}
use Rattle.std.specs.Prelude.{All, IfSome, IsUtf8, codes}
use Rattle.std.specs.Str.{is_utf8}
use Rattle.std.proofs.lemmas.List.Elements.{All-head, All-tail}
use Rattle.std.proofs.lemmas.Str.{IsUtf8-from_is_utf8}
use Rattle.json.proofs.Printed.Utf8.{IsUtf8-are_ascii}
use Rattle.serde_json.specs.Data.{Members, no_members, string}
use Rattle.ds_entity.specs.Entities.{EntityParts}
use Rattle.ds_base.specs.declared.index_value.IndexValue.{IndexValue}
use Rattle.ds_base.specs.declared.index_value.IndexValue.TheVariants as index
use Rattle.ds_entity.specs.declared.results.Item.{Item}
use Rattle.ds_bytes.specs.Lawful.{IsLawfulValue}
use Rattle.ds_query.specs.declared.query.Select.{Select}
use Rattle.ds_query.specs.declared.query.Select.TheVariants as select
use Rattle.ds_json_printing.specs.Objects.{put_each}
use Rattle.ds_json_printing.specs.Printing.{base64_data, index_value_data, key_data, tagged}
use Rattle.ds_reply.specs.EntityPrinting.{optional_entity_data}
use Rattle.ds_reply.specs.Results.{projected, result_data, result_items}
use Rattle.ds_journal_text.specs.Lawful.{IsLawfulEntity}
use Rattle.ds_journal_text.proofs.CommitsPlain.{base64_plain, entity_plain, integer_plain, key_plain, one_member}
use Rattle.ds_journal_text.proofs.PlainData.{ArePlain, Ascend, IsPlain, MembersArePlain}
use Rattle.ds_reply_lines.specs.LawfulResults.{HasTexts, IsLawfulItem}
use Rattle.ds_reply_lines.proofs.Puts.{put_ascends, put_plain}

bytes_plain : (s : List ℕ) (j : ℕ) (b : Bool) → is_utf8 s ≡ b → IsPlain (cond b (string s) (tagged (codes "bytes") (base64_data s))) (suc j)
bytes_plain s j true is = IsUtf8-from_is_utf8 s is
bytes_plain s j false is = one_member (codes "bytes") (base64_data s) j (IsUtf8-are_ascii (codes "bytes") refl) (base64_plain s j)

pub index_value_plain : (v : IndexValue) (j : ℕ) → IsLawfulValue v → IsPlain (index_value_data v) (suc (suc (suc j)))
index_value_plain index.Null j h = tt
index_value_plain (index.Num n) j h = integer_plain n (suc (suc (suc j))) h
index_value_plain (index.Bool b) j h = tt
index_value_plain (index.Bytes s) j h = bytes_plain s (suc (suc j)) (is_utf8 s) refl
index_value_plain (index.Key k) j h = one_member (codes "key") (key_data k) (suc (suc j)) (IsUtf8-are_ascii (codes "key") refl) (key_plain k j h)

projected_plain : (names : List (List ℕ)) (vs : List IndexValue) (ms : Members) (j : ℕ) → All IsUtf8 names → All IsLawfulValue vs
    → MembersArePlain ms (suc (suc (suc j))) → MembersArePlain (put_each (projected names vs) ms) (suc (suc (suc j)))
projected_plain [] vs ms j utf8 lawful plain = plain
projected_plain (n ∷ ns) [] ms j utf8 lawful plain = plain
projected_plain (n ∷ ns) (v ∷ vs) ms j utf8 lawful plain =
    projected_plain ns vs _ j (All-tail IsUtf8 n ns utf8) (All-tail IsLawfulValue v vs lawful)
    (put_plain n (index_value_data v) ms (suc (suc (suc j))) (All-head IsUtf8 n ns utf8) (index_value_plain v j (All-head IsLawfulValue v vs lawful)) plain)

projected_up : (names : List (List ℕ)) (vs : List IndexValue) (ms : Members) → Ascend ms → Ascend (put_each (projected names vs) ms)
projected_up [] vs ms up = up
projected_up (n ∷ ns) [] ms up = up
projected_up (n ∷ ns) (v ∷ vs) ms up = projected_up ns vs _ (put_ascends n (index_value_data v) ms up)

optional_plain : (o : Option EntityParts) (j : ℕ) → IfSome o IsLawfulEntity → IsPlain (optional_entity_data o) (suc (suc (suc (suc (suc (suc (suc j)))))))
optional_plain None j h = tt
optional_plain (Some e) j h = entity_plain e j h

result_plain : (s : Select) (it : Item) (j : ℕ) → HasTexts s → IsLawfulItem it → IsPlain (result_data s it) (suc (suc (suc (suc (suc (suc (suc j)))))))
result_plain select.Entities it j utf8 h = optional_plain it.entity j h.entity
result_plain select.Keys it j utf8 h = key_plain it.key (suc (suc (suc (suc (suc j))))) h.key
result_plain (select.Projection names) it j utf8 h = (
  (
    IsUtf8-are_ascii (codes "key") refl,
    key_plain it.key (suc (suc (suc (suc j)))) h.key,
    (
      IsUtf8-are_ascii (codes "properties") refl,
      (projected_plain names it.projected no_members (suc (suc j)) utf8 h.projected tt, projected_up names it.projected no_members tt),
      tt,
    ),
  ),
  ((refl, tt), (tt, tt)),
)

pub results_plain : (s : Select) (its : List Item) (j : ℕ) → HasTexts s → All IsLawfulItem its → ArePlain (result_items s its) (suc (suc (suc (suc (suc (suc (suc j)))))))
results_plain s [] j utf8 all = tt
results_plain s (it ∷ its) j utf8 all =
    (result_plain s it j utf8 (All-head IsLawfulItem it its all), results_plain s its j utf8 (All-tail IsLawfulItem it its all))
