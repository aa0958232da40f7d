-- The places where an attempt may run, after an instance is put or an attempt is dropped.
use Rattle.std.proofs.Common.{◌≡◌, ◌⊎◌, inl, inr, List, [], ◌∷◌, ◌++◌, false, cond, not, ◌&&◌, is_eq, is_some}
use Rattle.std.proofs.Common.{Option, Some, None, unwrap_or, Ordering, Less, Equal, Greater, refl, sym, ap, subst}
use Rattle.std.specs.BTreeMap.{is_at}
use Rattle.std.specs.List.{AllByRecursion}
use Rattle.std.specs.List.Sorted.{IsStrictlySortedBy}
use Rattle.std.specs.Map.{keys_of, lookup, set_value}
use Rattle.std.specs.Ordering.{match_ordering}
use Rattle.ds_paxos.specs.declared.instance.Attempt.{Attempt}
use Rattle.ds_paxos.specs.declared.instance.Instance.{Instance}
use Rattle.ds_paxos.specs.declared.message.Place.{Place}
use Rattle.ds_paxos.specs.Members.{blank, idle, instance_in, place_order, restarted, with_instance, AreListed, IsOneOf}
use Rattle.ds_paxos.proofs.Places.{place_exact, place_same}

abbrev Kept : Type 0
Kept = List (Place × Instance)

abbrev IsListed : List Place → Place → Instance → Type 0
IsListed ps p s = (s.attempt ≡ None) ⊎ IsOneOf p ps

one_more : (q p : Place) (ps : List Place) → IsOneOf q ps → IsOneOf q (ps ++ p ∷ [])
one_more q p [] m = absurd m
one_more q p (r ∷ rs) (inl e) = inl e
one_more q p (r ∷ rs) (inr m) = inr (one_more q p rs m)

last_one : (p : Place) (ps : List Place) → IsOneOf p (ps ++ p ∷ [])
last_one p [] = inl refl
last_one p (r ∷ rs) = inr (last_one p rs)

one_cases : (q p : Place) (ps : List Place) → IsOneOf q (ps ++ p ∷ []) → (q ≡ p) ⊎ IsOneOf q ps
one_cases q p [] (inl e) = inl e
one_cases q p [] (inr m) = absurd m
one_cases q p (r ∷ rs) (inl e) = inr (inl e)
one_cases q p (r ∷ rs) (inr m) = elim (one_cases q p rs m) [ inl e ↦ inl e | inr l ↦ inr (inr l) ]

-- ---- an instance is put

put_listed : (es : Kept) (ps : List Place) (p : Place) (s : Instance) → AreListed ps es → IsListed ps p s → AreListed ps (with_instance es p s)
put_listed [] ps p s all own = (own, tt)
put_listed (e ∷ es) ps p s all own = by (put_listed es ps p s all.1 own) (place_order p e.0) refl
  where
    by : AreListed ps (with_instance es p s) → (o : Ordering) → place_order p e.0 ≡ o
        → AreListed ps (match_ordering o ((p, s) ∷ e ∷ es) ((e.0, s) ∷ es) (e ∷ with_instance es p s))
    by rest Less h = (own, all)
    by rest Equal h = (subst (λ (q : Place). IsListed ps q s) (place_exact p e.0 h) own, all.1)
    by rest Greater h = (all.0, rest)

widened : (es : Kept) (ps : List Place) (p : Place) → AreListed ps es → AreListed (ps ++ p ∷ []) es
widened [] ps p all = tt
widened (e ∷ es) ps p all =
    (elim all.0 [ inl none ↦ inl none | inr m ↦ inr (one_more e.0 p ps m) ], widened es ps p all.1)

pub begun_listed : (es : Kept) (ps : List Place) (p : Place) (s : Instance) → AreListed ps es → AreListed (ps ++ p ∷ []) (with_instance es p s)
begun_listed es ps p s all = put_listed es (ps ++ p ∷ []) p s (widened es ps p all) (inr (last_one p ps))

found_listed : (es : Kept) (ps : List Place) (p : Place) → AreListed ps es → IsListed ps p (instance_in es p)
found_listed [] ps p all = inl refl
found_listed (e ∷ es) ps p all = by (found_listed es ps p all.1) (place_order p e.0) refl
  where
    by : IsListed ps p (instance_in es p) → (o : Ordering) → place_order p e.0 ≡ o
        → IsListed ps p (unwrap_or (cond (is_eq o) (Some e.1) (lookup (is_at (place_order p)) es)) blank)
    by rest Less h = rest
    by rest Equal h = subst (λ (q : Place). IsListed ps q e.1) (sym (place_exact p e.0 h)) all.0
    by rest Greater h = rest

-- where no attempt begins
pub kept_listed : (es : Kept) (ps : List Place) (p : Place) (s : Instance) → AreListed ps es
    → (is_some s.attempt && not (is_some (instance_in es p).attempt)) ≡ false → AreListed ps (with_instance es p s)
kept_listed es ps p s all h = put_listed es ps p s all (by s.attempt (instance_in es p).attempt h (found_listed es ps p all))
  where
    by : (a b : Option Attempt) → (is_some a && not (is_some b)) ≡ false → (b ≡ None) ⊎ IsOneOf p ps → (a ≡ None) ⊎ IsOneOf p ps
    by None b h was = inl refl
    by (Some a) None h was = absurd (cc h)
    by (Some a) (Some b) h was = elim was [ inl none ↦ absurd (cc none) | inr m ↦ inr m ]

-- ---- an attempt is dropped

-- at another place
other_listed : (ps : List Place) (p q : Place) (s : Instance) → (place_order p q ≡ Equal → ⊥) → IsListed (ps ++ p ∷ []) q s → IsListed ps q s
other_listed ps p q s other (inl none) = inl none
other_listed ps p q s other (inr m) = elim (one_cases q p ps m) [
  | inl same ↦ absurd (other (subst (λ (r : Place). place_order p r ≡ Equal) (sym same) (place_same p)))
  | inr l ↦ inr l
]

behind_listed : (es : Kept) (ps : List Place) (p : Place) → AllByRecursion (λ q. place_order p q ≡ Less) (keys_of es)
    → AreListed (ps ++ p ∷ []) es → AreListed ps es
behind_listed [] ps p less all = tt
behind_listed (e ∷ es) ps p less all = (other_listed ps p e.0 e.1 (λ h. cc (h, less.0)) all.0, behind_listed es ps p less.1 all.1)

pub absent_listed : (es : Kept) (ps : List Place) (p : Place) → None ≡ lookup (is_at (place_order p)) es
    → AreListed (ps ++ p ∷ []) es → AreListed ps es
absent_listed [] ps p none all = tt
absent_listed (e ∷ es) ps p none all = by (absent_listed es ps p) (place_order p e.0) refl none
  where
    by : (None ≡ lookup (is_at (place_order p)) es → AreListed (ps ++ p ∷ []) es → AreListed ps es) → (o : Ordering) → place_order p e.0 ≡ o
        → None ≡ cond (is_eq o) (Some e.1) (lookup (is_at (place_order p)) es) → AreListed ps (e ∷ es)
    by rest Less h n = (other_listed ps p e.0 e.1 (λ k. cc (h, k)) all.0, rest n all.1)
    by rest Equal h n = absurd (cc n)
    by rest Greater h n = (other_listed ps p e.0 e.1 (λ k. cc (h, k)) all.0, rest n all.1)

pub stopped_listed : (es : Kept) (ps : List Place) (p : Place) (s : Instance) → IsStrictlySortedBy place_order (keys_of es)
    → AreListed (ps ++ p ∷ []) es → AreListed ps (set_value (is_at (place_order p)) es (idle s))
unfolding IsStrictlySortedBy
stopped_listed [] ps p s sorted all = tt
stopped_listed (e ∷ es) ps p s sorted all = by (stopped_listed es ps p s sorted.1 all.1) (place_order p e.0) refl
  where
    by : AreListed ps (set_value (is_at (place_order p)) es (idle s)) → (o : Ordering) → place_order p e.0 ≡ o
        → AreListed ps (cond (is_eq o) ((e.0, idle s) ∷ es) (e ∷ set_value (is_at (place_order p)) es (idle s)))
    by rest Less h = (other_listed ps p e.0 e.1 (λ k. cc (h, k)) all.0, rest)
    by rest Equal h = (
      inl refl,
      behind_listed es ps p
          (subst (λ (q : Place). AllByRecursion (λ r. place_order q r ≡ Less) (keys_of es)) (sym (place_exact p e.0 h)) sorted.0) all.1,
    )
    by rest Greater h = (other_listed ps p e.0 e.1 (λ k. cc (h, k)) all.0, rest)

-- a restart leaves what it left before
pub stopped_restarted : (es : Kept) (p : Place) (s : Instance) → Some s ≡ lookup (is_at (place_order p)) es
    → restarted (set_value (is_at (place_order p)) es (idle s)) ≡ restarted es
stopped_restarted [] p s found = refl
stopped_restarted (e ∷ es) p s found = by (stopped_restarted es p s) (place_order p e.0) found
  where
    by : (Some s ≡ lookup (is_at (place_order p)) es → restarted (set_value (is_at (place_order p)) es (idle s)) ≡ restarted es) → (o : Ordering)
        → Some s ≡ cond (is_eq o) (Some e.1) (lookup (is_at (place_order p)) es)
        → restarted (cond (is_eq o) ((e.0, idle s) ∷ es) (e ∷ set_value (is_at (place_order p)) es (idle s))) ≡ restarted (e ∷ es)
    by rest Less f = ap (λ (l : Kept). (e.0, idle e.1) ∷ l) (rest f)
    by rest Equal f = ap (λ (o : Option Instance). (e.0, idle (unwrap_or o blank)) ∷ restarted es) f
    by rest Greater f = ap (λ (l : Kept). (e.0, idle e.1) ∷ l) (rest f)

-- where no attempt runs, a restart changes nothing
pub none_runs : (es : Kept) → AreListed [] es → restarted es ≡ es
none_runs [] all = refl
none_runs (e ∷ es) all = elim all.0 [
  | inl none ↦ λ i. (e.0, record e.1 { attempt = sym none i }) ∷ none_runs es all.1 i
  | inr m ↦ absurd m
]
