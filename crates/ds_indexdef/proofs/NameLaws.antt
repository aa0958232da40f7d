-- The set of the names of an entry's columns follows what is done to the columns.
use Rattle.std.proofs.Common.{◌≡◌, ℕ, Bool, true, false, not, ◌&&◌, ◌||◌, List, [], ◌∷◌, ◌++◌, refl, sym, ap, subst, ◌∙◌}
use Rattle.std.specs.Prelude.{bytes_eq}
use Rattle.std.specs.List.{list_any}
use Rattle.std.specs.Cmp.Lexicographic.{slice_cmp}
use Rattle.std.specs.Ordering.{nat_cmp}
use Rattle.std.specs.BTreeMap.{is_at}
use Rattle.std.specs.BTreeSet.{insert_key}
use Rattle.std.proofs.lemmas.Bool.Decides.{same_from_decides}
use Rattle.std.proofs.lemmas.Map.Text.{is_eq-slice_cmp}
use Rattle.std.proofs.lemmas.Slice.Eq.{bytes_eq-Decides}
use Rattle.ds_base.specs.KeyOrderLaws.{bytes_cmp-same}
use Rattle.ds_base.specs.SortingLaws.{list_any-insert_key}
use Rattle.ds_base.specs.declared.column.Column.{Column}
use Rattle.ds_base.specs.KeyColumn.{key_name}
use Rattle.ds_indexdef.specs.Names.{has_name, have, AreNamesOf}
use Rattle.ds_indexdef.specs.Reading.{may_follow, turned_columns}

same_other_way : (x y : List ℕ) → bytes_eq x y ≡ bytes_eq y x
same_other_way x y =
    let back = bytes_eq-Decides y x in
    same_from_decides (bytes_eq x y) (bytes_eq y x) (bytes_eq-Decides x y) ((λ e. sym (back.0 e)), (λ e. back.1 (sym e)))

turned_or : (a b : Bool) → a || b ≡ b || a
turned_or true true = refl
turned_or true false = refl
turned_or false true = refl
turned_or false false = refl

moved : (a b c : Bool) → a || (b || c) ≡ b || (a || c)
moved true true c = refl
moved true false c = refl
moved false b c = refl

swapped : (a b : Bool) → not a && not b ≡ not b && not a
swapped true true = refl
swapped true false = refl
swapped false true = refl
swapped false false = refl

pub contains-name : (names : List (List ℕ)) (name : List ℕ) → list_any (is_at (slice_cmp nat_cmp name)) names ≡ has_name names name
contains-name [] name = refl
contains-name (n ∷ ns) name = λ i. is_eq-slice_cmp name n i || contains-name ns name i

regrouped : (a b x y : Bool) → (not a && not b) && (not x && not y) ≡ not (b || y) && not (a || x)
regrouped false false false false = refl
regrouped false false false true = refl
regrouped false false true false = refl
regrouped false false true true = refl
regrouped false true false y = refl
regrouped false true true y = refl
regrouped true false x false = refl
regrouped true false x true = refl
regrouped true true x y = refl

pub follow-have : (cs : List Column) (name : List ℕ) → may_follow cs name ≡ not (have cs key_name) && not (have cs name)
follow-have [] name = refl
follow-have (c ∷ cs) name =
    ap (λ r. (not (bytes_eq c.name name) && not (bytes_eq c.name key_name)) && r) (follow-have cs name ∙ swapped (have cs key_name) (have cs name))
    ∙ regrouped (bytes_eq c.name name) (bytes_eq c.name key_name) (have cs name) (have cs key_name)
    ∙ ap (λ b. not (b || have cs key_name) && not (bytes_eq c.name name || have cs name)) (same_other_way c.name key_name)
    ∙ ap (λ b. not (bytes_eq key_name c.name || have cs key_name) && not (b || have cs name)) (same_other_way c.name name)

pub takes-is : (cs : List Column) (names : List (List ℕ)) (key : Bool) (name : List ℕ) → AreNamesOf cs names key → not key && not (has_name names name) ≡ may_follow cs name
takes-is cs names key name k = ap (λ b. not b && not (has_name names name)) k.flag ∙ ap (λ b. not (have cs key_name) && not b) (k.same name) ∙ sym (follow-have cs name)

have-push : (cs : List Column) (c : Column) (name : List ℕ) → have (cs ++ c ∷ []) name ≡ bytes_eq name c.name || have cs name
have-push [] c name = refl
have-push (x ∷ xs) c name = ap (λ r. bytes_eq name x.name || r) (have-push xs c name) ∙ moved (bytes_eq name x.name) (bytes_eq name c.name) (have xs name)

have-turned : (cs : List Column) (d : Bool) (name : List ℕ) → have (turned_columns cs d) name ≡ have cs name
have-turned [] d name = refl
have-turned (c ∷ []) d name = refl
have-turned (c ∷ x ∷ more) d name = ap (λ r. bytes_eq name c.name || r) (have-turned (x ∷ more) d name)

pub names-none : AreNamesOf [] [] false
names-none = record { same = λ name. refl; flag = refl }

pub names-push : (cs : List Column) (names : List (List ℕ)) (key : Bool) (c : Column) → AreNamesOf cs names key
    → AreNamesOf (cs ++ c ∷ []) (insert_key (slice_cmp nat_cmp) names c.name) (key || bytes_eq c.name key_name)
names-push cs names key c k = record {
  same = λ name. list_any-insert_key (slice_cmp nat_cmp) (bytes_eq name) (λ x y e. ap (bytes_eq name) (bytes_cmp-same x y e)) names c.name
      ∙ ap (λ r. bytes_eq name c.name || r) (k.same name) ∙ sym (have-push cs c name);
  flag = ap (λ b. b || bytes_eq c.name key_name) k.flag ∙ ap (λ b. have cs key_name || b) (same_other_way c.name key_name) ∙ turned_or (have cs key_name) (bytes_eq key_name c.name)
      ∙ sym (have-push cs c key_name);
}

pub names-turned : (cs : List Column) (names : List (List ℕ)) (key d : Bool) → AreNamesOf cs names key → AreNamesOf (turned_columns cs d) names key
names-turned cs names key d k = record { same = λ name. k.same name ∙ sym (have-turned cs d name); flag = k.flag ∙ sym (have-turned cs d key_name) }

-- the same of what stands for them
pub names-pushed : (cs more : List Column) (names others : List (List ℕ)) (key flag : Bool) (name copy : List ℕ) → AreNamesOf cs names key
    → more ≡ cs ++ record { name = name; descending = false } ∷ [] → copy ≡ name → others ≡ insert_key (slice_cmp nat_cmp) names copy → flag ≡ (key || bytes_eq name key_name)
    → AreNamesOf more others flag
names-pushed cs more names others key flag name copy k m e o f =
    subst (λ x. AreNamesOf x others flag) (sym m) (subst (λ x. AreNamesOf (cs ++ record { name = name; descending = false } ∷ []) x flag)
    (sym (o ∙ ap (insert_key (slice_cmp nat_cmp) names) e)) (subst (λ x. AreNamesOf (cs ++ record { name = name; descending = false } ∷ []) (insert_key (slice_cmp nat_cmp) names name) x)
    (sym f) (names-push cs names key (record { name = name; descending = false }) k)))
