-- The members of a projection, written at places or in turn.
use Rattle.std.proofs.Common.{◌≡◌, ℕ, zero, suc, ◌+◌, ◌-◌, ◌<◌, ◌≤◌, min, List, [], ◌∷◌, ◌++◌, Bool, true, length, take, drop, get_or, map}
use Rattle.std.proofs.Common.{refl, sym, ap, ◌∙◌, subst, arith, append_assoc, inl, inr}
use Rattle.std.specs.declared.cmp.Ordering.TheVariants.{Less, Greater}
use Rattle.std.proofs.Math.ListN.{get_or-map}
use Rattle.std.proofs.lemmas.Bool.{cases_lt}
use Rattle.std.proofs.lemmas.List.{drop_more, drop_all, take_more, take_all, get_or-take, length-take-le, length-map}
use Rattle.json.specs.Print.{quoted}
use Rattle.serde_json.specs.Data.{Data, null, Members, no_members, member, put}
use Rattle.serde_json.specs.Written.{compact_text, comma_if, members_text}
use Rattle.ds_base.specs.declared.index_value.IndexValue.{IndexValue}
use Rattle.ds_json_printing.specs.Objects.{Named, named, put_each, by_name}
use Rattle.ds_json_printing.specs.Printing.{index_value_data}
use Rattle.ds_reply.specs.Results.{projected}
use Rattle.ds_reply.specs.MemberNames.{name_text}
use Rattle.ds_reply.specs.Shown.{member_named}
use Rattle.ds_reply.specs.declared.member.Member.{Member}
use Rattle.ds_reply.specs.Orders.{members_at, member_text, IsBefore, NamesAscend, OrdersByName}
use Rattle.ds_reply.proofs.OrderLemmas.{at_place, behind, IsBefore-trans, by_name-more}

-- ---- members written one by one

pub member-before : (m : Named) (rest : List ℕ) → member_text m ++ rest ≡ quoted m.name ++ 58 ∷ (compact_text m.shown ++ rest)
member-before m rest = append_assoc (quoted m.name) (58 ∷ compact_text m.shown) rest

pub members_at-more : (ms : List Named) (later : Bool) (ps : List ℕ) (i : ℕ) → i < length ps
    → comma_if later ++ (member_text (at_place ms (get_or ps i 0)) ++ members_text true (members_at ms (drop (i + 1) ps))) ≡ members_text later (members_at ms (drop i ps))
members_at-more ms later ps i lt =
    let m : Named = at_place ms (get_or ps i 0) in
    rw (drop_more ps i 0 lt) (ap (λ (l : List ℕ). comma_if later ++ l) (member-before m (members_text true (members_at ms (drop (i + 1) ps)))))

-- members in the order in which they are given
abbrev pub in_turn : List Named → Members
in_turn [] = no_members
in_turn (m ∷ ms) = member m.name m.shown (in_turn ms)

pub in_turn-more : (ms : List Named) (later : Bool) (i : ℕ) → i < length ms
    → comma_if later ++ (member_text (at_place ms i) ++ members_text true (in_turn (drop (i + 1) ms))) ≡ members_text later (in_turn (drop i ms))
in_turn-more ms later i lt =
    rw (drop_more ms i (named [] null) lt) (ap (λ (l : List ℕ). comma_if later ++ l) (member-before (at_place ms i) (members_text true (in_turn (drop (i + 1) ms)))))

-- ---- the members of a projection

pub projected-length : (ns : List (List ℕ)) (vs : List IndexValue) → length (projected ns vs) ≡ min (length ns) (length vs)
projected-length [] vs = omega arith
projected-length (n ∷ ns) [] = omega arith
projected-length (n ∷ ns) (v ∷ vs) = omega (arith, projected-length ns vs)

pub projected-names : (ns : List (List ℕ)) (vs : List IndexValue) → length ns ≤ length vs → map (λ (m : Named). m.name) (projected ns vs) ≡ ns
projected-names [] vs le = refl
projected-names (n ∷ ns) [] le = absurd (omega arith)
projected-names (n ∷ ns) (v ∷ vs) le = ap (λ (l : List (List ℕ)). n ∷ l) (projected-names ns vs (omega arith))

pub projected-at : (ns : List (List ℕ)) (vs : List IndexValue) (p : ℕ) (n : List ℕ) (v : IndexValue) → p < length ns → p < length vs
    → at_place (projected ns vs) p ≡ named (get_or ns p n) (index_value_data (get_or vs p v))
projected-at [] vs p n v a b = absurd (omega arith)
projected-at (m ∷ ns) [] p n v a b = absurd (omega arith)
projected-at (m ∷ ns) (w ∷ vs) zero n v a b = refl
projected-at (m ∷ ns) (w ∷ vs) (suc p) n v a b = projected-at ns vs p n v (omega arith) (omega arith)

named-first : (ns : List (List ℕ)) (vs : List IndexValue) (p : ℕ) → p < length (projected ns vs) → (at_place (projected ns vs) p).name ≡ get_or ns p []
named-first [] vs p lt = absurd (omega arith)
named-first (m ∷ ns) [] p lt = absurd (omega arith)
named-first (m ∷ ns) (w ∷ vs) zero lt = refl
named-first (m ∷ ns) (w ∷ vs) (suc p) lt = named-first ns vs p (omega arith)

-- the places of the names give the values of the projection
pub projected-ordered : (ns : List (List ℕ)) (vs : List IndexValue) (ps : List ℕ) → OrdersByName ns (length ns) ps → length ns ≤ length vs
    → members_at (projected ns vs) ps ≡ by_name (projected ns vs)
projected-ordered ns vs ps ordered le =
    let all : take (length ns) (projected ns vs) ≡ projected ns vs = take_all (length ns) (projected ns vs) (omega (arith, projected-length ns vs)) in
    ordered.written (projected ns vs) (projected-names ns vs le) ∙ ap by_name all

-- ---- names that ascend

pub ascend-pairs : (ns : List (List ℕ)) → NamesAscend ns → (i k : ℕ) → k < i → i < length ns → IsBefore (get_or ns k []) (get_or ns i [])
ascend-pairs ns h zero k lt within = absurd (omega arith)
ascend-pairs ns h (suc i) k lt within =
    let e : suc i - 1 ≡ i = omega arith in
    let last : IsBefore (get_or ns i []) (get_or ns (suc i) []) = rw e at (h (suc i) within (omega arith)) in
    elim (cases_lt k i) [
      | inl less ↦ IsBefore-trans (get_or ns k []) (get_or ns i []) (get_or ns (suc i) []) (ascend-pairs ns h i k less (omega arith)) last
      | inr ge ↦ same k i (suc i) (omega arith) last
    ] where
      same : (k i j : ℕ) → i ≡ k → IsBefore (get_or ns i []) (get_or ns j []) → IsBefore (get_or ns k []) (get_or ns j [])
      same k i j e b = subst (λ (x : ℕ). IsBefore (get_or ns x []) (get_or ns j [])) e b

put-last : (done : List Named) (m : Named) → ((k : ℕ) → k < length done → IsBefore (at_place done k).name m.name)
    → put m.name m.shown (in_turn done) ≡ in_turn (done ++ m ∷ [])
put-last [] m h = refl
put-last (l ∷ done) m h =
    let greater = behind m.name l.name (h 0 (omega arith)) in
    rw greater (ap (λ (r : Members). member l.name l.shown r) (put-last done m (λ k lt. h (suc k) (omega arith))))

in_turn-front : (ms : List Named) → ((i k : ℕ) → k < i → i < length ms → IsBefore (at_place ms k).name (at_place ms i).name)
    → (i : ℕ) → i ≤ length ms → by_name (take i ms) ≡ in_turn (take i ms)
in_turn-front ms h zero le = refl
in_turn-front ms h (suc i) le =
    let lt : i < length ms = omega arith in
    let e : suc i ≡ i + 1 = omega arith in
    let before : (k : ℕ) → k < length (take i ms) → IsBefore (at_place (take i ms) k).name (at_place ms i).name =
    λ k within. earlier k (omega (arith, length-take-le i ms (omega arith))) in
    let more : by_name (take (i + 1) ms) ≡ in_turn (take (i + 1) ms) =
    by_name-more ms i lt
    ∙ ap (λ (r : Members). put (at_place ms i).name (at_place ms i).shown r) (in_turn-front ms h i (omega arith))
    ∙ put-last (take i ms) (at_place ms i) before
    ∙ ap in_turn (sym (take_more ms i (named [] null) lt)) in
    subst (λ (n : ℕ). by_name (take n ms) ≡ in_turn (take n ms)) (sym e) more where
      earlier : (k : ℕ) → k < i → IsBefore (at_place (take i ms) k).name (at_place ms i).name
      earlier k less = rw (get_or-take i ms k (named [] null) less) (h i k less (omega arith))

pub projected-in_turn : (ns : List (List ℕ)) (vs : List IndexValue) → NamesAscend ns → by_name (projected ns vs) ≡ in_turn (projected ns vs)
projected-in_turn ns vs h =
    let ms : List Named = projected ns vs in
    let all : take (length ms) ms ≡ ms = take_all (length ms) ms (omega arith) in
    rw all at (in_turn-front ms pairs (length ms) (omega arith)) where
      pairs : (i k : ℕ) → k < i → i < length (projected ns vs) → IsBefore (at_place (projected ns vs) k).name (at_place (projected ns vs) i).name
      pairs i k less within = rw (named-first ns vs k (omega arith), named-first ns vs i within) (ascend-pairs ns h i k less (omega (arith, projected-length ns vs)))

-- nothing is left behind the last
pub in_turn-end : (ns : List (List ℕ)) (vs : List IndexValue) (i : ℕ) → min (length ns) (length vs) ≤ i → in_turn (drop i (projected ns vs)) ≡ no_members
in_turn-end ns vs i le =
    let none : drop i (projected ns vs) ≡ [] = drop_all i (projected ns vs) (omega (arith, projected-length ns vs)) in
    ap in_turn none

-- a value of a projection under its name, where both were read
pub projected-read : (ns : List (List ℕ)) (vs : List IndexValue) (p : ℕ) (n : List ℕ) (v : IndexValue) → p < length ns → p < length vs → n ≡ get_or ns p n → v ≡ get_or vs p v
    → named n (index_value_data v) ≡ at_place (projected ns vs) p
projected-read ns vs p n v a b is was =
    ap (λ (x : List ℕ). named x (index_value_data v)) is ∙ ap (λ (x : IndexValue). named (get_or ns p n) (index_value_data x)) was ∙ sym (projected-at ns vs p n v a b)

-- two names that were read, one behind the other
pub ascend-more : (ns : List (List ℕ)) (k : ℕ) (m n : List ℕ) → ((j : ℕ) → j < k → 0 < j → IsBefore (get_or ns (j - 1) []) (get_or ns j []))
    → m ≡ get_or ns (k - 1) [] → n ≡ get_or ns k [] → IsBefore m n → (j : ℕ) → j < k + 1 → 0 < j → IsBefore (get_or ns (j - 1) []) (get_or ns j [])
ascend-more ns k m n old e f h j lt pos = elim (cases_lt j k) [
  | inl less ↦ old j less pos
  | inr ge ↦ last (omega arith)
] where
  last : k ≡ j → IsBefore (get_or ns (j - 1) []) (get_or ns j [])
  last same = subst (λ (x : ℕ). IsBefore (get_or ns (x - 1) []) (get_or ns x [])) same (rw (sym e, sym f) h)

-- ---- the members of an object

named-names : (ms : List Member) → map (λ (n : Named). n.name) (map member_named ms) ≡ map (λ (m : Member). name_text m.name) ms
named-names [] = refl
named-names (m ∷ ms) = ap (λ (l : List (List ℕ)). name_text m.name ∷ l) (named-names ms)

pub object-ordered : (ms : List Member) (ps : List ℕ) → OrdersByName (map (λ (m : Member). name_text m.name) ms) (length ms) ps
    → members_at (map member_named ms) ps ≡ by_name (map member_named ms)
object-ordered ms ps ordered =
    let all : take (length ms) (map member_named ms) ≡ map member_named ms = take_all (length ms) (map member_named ms) (omega (arith, length-map ms member_named)) in
    ordered.written (map member_named ms) (named-names ms) ∙ ap by_name all
