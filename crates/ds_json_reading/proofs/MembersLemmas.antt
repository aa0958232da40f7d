-- What a map of members has at a name, as the members that it stands for.
use Rattle.std.proofs.Common.{◌≡◌, ℕ, List, false, cond, Option, None, Some, option_map, String, BTreeMap, Global, Bor, string_bytes}
use Rattle.std.proofs.Common.{string_cmp, nat_cmp, refl, sym, ap, ◌∙◌}
use Rattle.std.specs.Cmp.Lexicographic.{slice_cmp}
use Rattle.std.specs.Option.{option_copied}
use Rattle.std.specs.BTreeMap.{UpdatesBy, get_by_text}
use Rattle.std.proofs.lemmas.Map.Text.{btree_map_updates_text}
use Rattle.serde_json.specs.declared.value.Value.{Value}
use Rattle.serde_json.specs.View.{view, members_view}
use Rattle.serde_json.proofs.Views.{view-lookup}
use Rattle.std.specs.Str.{bytes_eq}
use Rattle.ds_json_reading.specs.Reading.{member_of, unless_null}

-- what a look-up finds is the member, unless it is null
pub member_found : (m : BTreeMap (String Global) Value) (name : List ℕ) (found : Option Value) → found ≡ get_by_text m name
    → unless_null (option_map view found) ≡ member_of name (members_view m.entries)
member_found m name found is = ap unless_null (ap (option_map view) is ∙ view-lookup name m.entries)

-- what an option of a reference stands for
pub seen_behind : (o : Option (Bor Value)) → option_map (λ v. view v.now) o ≡ option_map view (option_copied o)
seen_behind None = refl
seen_behind (Some v) = refl

-- where one name is taken out, every other name's member stays
pub other_stays : (m n : BTreeMap (String Global) Value) (name other : List ℕ) → UpdatesBy string_cmp (λ k. slice_cmp nat_cmp name (string_bytes k)) m n None
    → bytes_eq name other ≡ false → member_of other (members_view n.entries) ≡ member_of other (members_view m.entries)
other_stays m n name other updates apart =
    let kept : get_by_text n other ≡ get_by_text m other = btree_map_updates_text name m n None updates other ∙ ap (λ b. cond b None (get_by_text m other)) apart in
    sym (member_found n other _ refl) ∙ ap (λ f. unless_null (option_map view f)) kept ∙ member_found m other _ refl
