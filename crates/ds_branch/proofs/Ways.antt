-- Ways to take one value of each list, and the values that are taken.
use Rattle.std.proofs.Common.{◌≡◌, inl, inr, ℕ, List, [], ◌∷◌, ◌++◌, length, map, Bool, refl, sym, ap, ◌∙◌, subst, arith}
use Rattle.std.proofs.Common.{append_assoc}
use Rattle.std.specs.Prelude.{All}
use Rattle.std.proofs.lemmas.List.Elements.{All-head, All-tail}
use Rattle.ds_base.specs.declared.index_value.IndexValue.{IndexValue}
use Rattle.ds_bytes.specs.Encoding.{encoding}
use Rattle.ds_bytes.specs.EncodingLaws.{encoding-reads_once}
use Rattle.ds_bytes.specs.Lawful.{IsValueOfBytes}
use Rattle.ds_bytes.specs.Rows.{columns_bytes}
use Rattle.ds_planner.proofs.Members.{Member, member_map, map_member, member_flat_map}
use Rattle.ds_rows.specs.IndexedValues.{each_way}
use Rattle.ds_scan.proofs.MemberLists.{flat_map_member}

-- ---- ways

-- one value of each list
abbrev pub AreTaken : List (List IndexValue) → List IndexValue → Type 0
AreTaken [] [] = Unit {0}
AreTaken [] (v ∷ vs) = ⊥
AreTaken (values ∷ more) [] = ⊥
AreTaken (values ∷ more) (v ∷ vs) = Member v values × AreTaken more vs

pub way_taken : (lists : List (List IndexValue)) (way : List IndexValue) → Member way (each_way lists) → AreTaken lists way
way_taken [] way (inl e) = subst (AreTaken []) (sym e) tt
way_taken [] way (inr m) = absurd m
way_taken (values ∷ more) way m =
    let f : IndexValue → List (List IndexValue) = λ (v : IndexValue). map (λ (vs : List IndexValue). v ∷ vs) (each_way more) in
    let first = flat_map_member f values way m in
    let rest = map_member (λ (vs : List IndexValue). first.0 ∷ vs) (each_way more) way first.1.1 in
    subst (AreTaken (values ∷ more)) (sym rest.1.1) (first.1.0, way_taken more rest.0 rest.1.0)

pub taken_way : (lists : List (List IndexValue)) (way : List IndexValue) → AreTaken lists way → Member way (each_way lists)
taken_way [] [] t = inl refl
taken_way [] (v ∷ vs) t = absurd t
taken_way (values ∷ more) [] t = absurd t
taken_way (values ∷ more) (v ∷ vs) t =
    let f : IndexValue → List (List IndexValue) = λ (w : IndexValue). map (λ (ws : List IndexValue). w ∷ ws) (each_way more) in
    member_flat_map f values v (v ∷ vs) t.0 (member_map (λ (ws : List IndexValue). v ∷ ws) (each_way more) vs (taken_way more vs t.1))

-- ---- two lists of lists

-- a way through both is a way through the first and then one through the second
pub record AreSplit (xs ys : List (List IndexValue)) (way : List IndexValue) : Type 0 where
  pub front : List IndexValue
  pub back : List IndexValue
  pub is : way ≡ front ++ back
  pub firsts : AreTaken xs front
  pub lasts : AreTaken ys back

pub split_taken : (xs ys : List (List IndexValue)) (way : List IndexValue) → AreTaken (xs ++ ys) way → AreSplit xs ys way
split_taken [] ys way t = record { front = []; back = way; is = refl; firsts = tt; lasts = t }
split_taken (values ∷ xs) ys [] t = absurd t
split_taken (values ∷ xs) ys (v ∷ vs) t =
    let r = split_taken xs ys vs t.1 in
    record { front = v ∷ r.front; back = r.back; is = ap (λ ws. v ∷ ws) r.is; firsts = (t.0, r.firsts); lasts = r.lasts }

pub join_taken : (xs ys : List (List IndexValue)) (vs ws : List IndexValue) → AreTaken xs vs → AreTaken ys ws → AreTaken (xs
    ++ ys) (vs ++ ws)
join_taken [] ys [] ws s t = t
join_taken [] ys (v ∷ vs) ws s t = absurd s
join_taken (values ∷ xs) ys [] ws s t = absurd s
join_taken (values ∷ xs) ys (v ∷ vs) ws s t = (s.0, join_taken xs ys vs ws s.1 t)

pub taken_long : (xs : List (List IndexValue)) (vs : List IndexValue) → AreTaken xs vs → length vs ≡ length xs
taken_long [] [] t = refl
taken_long [] (v ∷ vs) t = absurd t
taken_long (values ∷ xs) [] t = absurd t
taken_long (values ∷ xs) (v ∷ vs) t = omega (arith, taken_long xs vs t.1)

-- ---- the bytes of values

pub bytes_join : (ds es : List Bool) (vs ws : List IndexValue) → length vs ≡ length ds
    → columns_bytes (ds ++ es) (vs ++ ws) ≡ columns_bytes ds vs ++ columns_bytes es ws
bytes_join [] es [] ws long = refl
bytes_join [] es (v ∷ vs) ws long = absurd (omega arith)
bytes_join (d ∷ ds) es [] ws long = absurd (omega arith)
bytes_join (d ∷ ds) es (v ∷ vs) ws long =
    ap (λ (bs : List ℕ). encoding d v ++ bs) (bytes_join ds es vs ws (omega arith))
    ∙ sym (append_assoc (encoding d v) (columns_bytes ds vs) (columns_bytes es ws))

-- values in front of anything are read in one way
pub values_once : (ds : List Bool) (vs ws : List IndexValue) (a b : List ℕ) → length vs ≡ length ds → length ws ≡ length ds
    → All IsValueOfBytes vs → All IsValueOfBytes ws
    → columns_bytes ds vs ++ a ≡ columns_bytes ds ws ++ b → (vs ≡ ws) × (a ≡ b)
values_once [] [] [] a b m n p q e = (refl, e)
values_once [] [] (w ∷ ws) a b m n p q e = absurd (omega arith)
values_once [] (v ∷ vs) ws a b m n p q e = absurd (omega arith)
values_once (d ∷ ds) [] ws a b m n p q e = absurd (omega arith)
values_once (d ∷ ds) (v ∷ vs) [] a b m n p q e = absurd (omega arith)
values_once (d ∷ ds) (v ∷ vs) (w ∷ ws) a b m n p q e =
    let first = encoding-reads_once d v w (columns_bytes ds vs ++ a) (columns_bytes ds ws ++ b) (All-head IsValueOfBytes v vs p)
    (All-head IsValueOfBytes w ws q)
    (sym (append_assoc (encoding d v) (columns_bytes ds vs) a) ∙ e ∙ append_assoc (encoding d w) (columns_bytes ds ws) b) in
    let rest = values_once ds vs ws a b (omega arith) (omega arith) (All-tail IsValueOfBytes v vs p)
    (All-tail IsValueOfBytes w ws q) first.1 in
    (λ i. first.0 i ∷ rest.0 i, rest.1)
