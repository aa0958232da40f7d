-- Lists of pairs: which are among them, which properties they have, and which are chosen for a scan.
use Rattle.std.proofs.Common.{◌≡◌, ◌⊎◌, inl, inr, ℕ, List, [], ◌∷◌, ◌++◌, Bool, true, false, ◌&&◌, ◌||◌, not, cond, fold, refl, sym, ap}
use Rattle.std.proofs.Common.{◌∙◌, subst, append_assoc}
use Rattle.std.specs.Prelude.{bytes_eq}
use Rattle.std.specs.List.{AllByRecursion}
use Rattle.std.specs.List.Sorted.{IsStrictlySortedBy}
use Rattle.std.specs.Ordering.{eq_by_cmp, is_eq}
use Rattle.std.specs.Cmp.{eq_by_cmp_equiv}
use Rattle.std.specs.declared.cmp.Ordering.{Ordering}
use Rattle.std.specs.declared.cmp.Ordering.TheVariants.{Less, Equal, Greater}
use Rattle.std.specs.Cmp.Lexicographic.{nat_list_eq_equiv}
use Rattle.std.proofs.lemmas.List.{append-nil}
use Rattle.std.proofs.lemmas.Slice.Eq.{bytes_eq-Decides}
use Rattle.ds_query.specs.declared.branch.Pair.{Pair}
use Rattle.ds_query.specs.Branching.{pair_cmp}
use Rattle.ds_query.specs.PairOrderLaws.{pair_cmp-total, pair_cmp-Equal}
use Rattle.ds_query.specs.Lawful.{has_pair}
use Rattle.ds_planner.specs.Suits.{chooses, properties_differ}
use Rattle.ds_planner.proofs.Members.{Member, both, join, or_true, not_true, refuted, true_false, some_member, any_member, member_left}
use Rattle.ds_planner.proofs.Members.{member_right, member_append}

-- ---- pairs and names

compares_equal : (o : Ordering) → is_eq o ≡ true → o ≡ Equal
compares_equal Less e = absurd (cc e)
compares_equal Equal e = refl
compares_equal Greater e = absurd (cc e)

pub same_pair : (p q : Pair) → eq_by_cmp pair_cmp p q ≡ true → p ≡ q
same_pair p q e = (pair_cmp-Equal p q).0 (compares_equal (pair_cmp p q) e)

pub chooses-member : (pairs : List Pair) (p : Pair) → chooses pairs p ≡ true → Member p pairs
chooses-member pairs p h =
    let r = some_member (eq_by_cmp pair_cmp p) pairs h in subst (λ q. Member q pairs) (sym (same_pair p r.0 r.1.1)) r.1.0

pub member-chooses : (pairs : List Pair) (p : Pair) → Member p pairs → chooses pairs p ≡ true
member-chooses pairs p m = any_member (eq_by_cmp pair_cmp p) pairs p m ((eq_by_cmp_equiv pair_cmp-total).refl p)

pub same_name : (m n : List ℕ) → bytes_eq m n ≡ true → m ≡ n
same_name m n = (bytes_eq-Decides m n).0

pub name_itself : (n : List ℕ) → bytes_eq n n ≡ true
name_itself n = nat_list_eq_equiv.refl n

pub has_pair-member : (pairs : List Pair) (n : List ℕ) → has_pair pairs n ≡ true → (p : Pair) × (Member p pairs × (n ≡ p.property))
has_pair-member pairs n h =
    let r = some_member (λ (p : Pair). bytes_eq n p.property) pairs h in (r.0, (r.1.0, same_name n r.0.property r.1.1))

pub member-has_pair : (pairs : List Pair) (p : Pair) → Member p pairs → has_pair pairs p.property ≡ true
member-has_pair pairs p m = any_member (λ (q : Pair). bytes_eq p.property q.property) pairs p m (name_itself p.property)

pub has_pair-left : (xs ys : List Pair) (n : List ℕ) → has_pair xs n ≡ true → has_pair (xs ++ ys) n ≡ true
has_pair-left xs ys n h =
    let r = has_pair-member xs n h in
    ap (has_pair (xs ++ ys)) r.1.1 ∙ member-has_pair (xs ++ ys) r.0 (member_left xs ys r.0 r.1.0)

-- ---- properties that differ

-- of pairs whose properties differ, one on the property of another one is that one
pub one_each : (xs : List Pair) (p q : Pair) → properties_differ xs ≡ true → Member p xs → Member q xs → p.property ≡ q.property → p ≡ q
one_each [] p q d m k e = absurd m
one_each (x ∷ xs) p q d (inl a) (inl b) e = a ∙ sym b
one_each (x ∷ xs) p q d (inl a) (inr k) e =
    true_false (p ≡ q) (has_pair xs x.property) (ap (has_pair xs) (sym (ap (λ (y : Pair). y.property) a) ∙ e) ∙ member-has_pair xs q k) (not_true (has_pair xs x.property) (both (not (has_pair xs x.property)) (properties_differ xs) d).0)
one_each (x ∷ xs) p q d (inr m) (inl b) e =
    true_false (p ≡ q) (has_pair xs x.property) (ap (has_pair xs) (sym (ap (λ (y : Pair). y.property) b) ∙ sym e) ∙ member-has_pair xs p m) (not_true (has_pair xs x.property) (both (not (has_pair xs x.property)) (properties_differ xs) d).0)
one_each (x ∷ xs) p q d (inr m) (inr k) e = one_each xs p q (both (not (has_pair xs x.property)) (properties_differ xs) d).1 m k e

pub differ_more : (xs : List Pair) (q : Pair) → properties_differ xs ≡ true → has_pair xs q.property ≡ false → properties_differ (xs ++ q ∷ []) ≡ true
differ_more [] q d h = refl
differ_more (x ∷ xs) q d h =
    let parts = both (not (has_pair xs x.property)) (properties_differ xs) d in
    let apart : has_pair (xs ++ q ∷ []) x.property ≡ false = refuted (has_pair (xs ++ q ∷ []) x.property) (λ e.
    let r = has_pair-member (xs ++ q ∷ []) x.property e in
    elim (member_append xs (q ∷ []) r.0 r.1.0) [
      | inl m ↦ true_false ⊥ (has_pair xs x.property) (ap (has_pair xs) r.1.1 ∙ member-has_pair xs r.0 m) (not_true (has_pair xs x.property) parts.0)
      | inr m ↦ elim m [
        | inl same ↦ true_false ⊥ (has_pair (x ∷ xs) q.property) (ap (has_pair (x ∷ xs)) (sym (ap (λ (y : Pair). y.property) same) ∙ sym r.1.1) ∙ member-has_pair (x ∷ xs) x (inl refl)) h
        | inr none ↦ none
      ]
    ]) in
    let rest : has_pair xs q.property ≡ false = refuted (has_pair xs q.property) (λ e. true_false ⊥ (has_pair (x ∷ xs) q.property) (ap (λ b. bytes_eq q.property x.property || b) e ∙ or_true (bytes_eq q.property x.property)) h) in
    join (not (has_pair (xs ++ q ∷ []) x.property)) (properties_differ (xs ++ q ∷ [])) (ap not apart) (differ_more xs q parts.1 rest)

below_each : (x y : Pair) (xs : List Pair) → AllByRecursion (λ z. pair_cmp x z ≡ Less) xs → Member y xs → pair_cmp x y ≡ Less
below_each x y [] all m = absurd m
below_each x y (z ∷ xs) all (inl e) = ap (pair_cmp x) e ∙ all.0
below_each x y (z ∷ xs) all (inr m) = below_each x y xs all.1 m

-- pairs that ascend, all of them among pairs whose properties differ
pub differ_among : (others xs : List Pair) → IsStrictlySortedBy pair_cmp xs → properties_differ others ≡ true → ((p : Pair) → Member p xs → Member p others) → properties_differ xs ≡ true
unfolding IsStrictlySortedBy
differ_among others [] sorted d among = refl
differ_among others (x ∷ xs) sorted d among =
    let apart : has_pair xs x.property ≡ false = refuted (has_pair xs x.property) (λ e.
    let r = has_pair-member xs x.property e in
    let same : x ≡ r.0 = one_each others x r.0 d (among x (inl refl)) (among r.0 (inr r.1.0)) r.1.1 in
    let less : pair_cmp x r.0 ≡ Less = below_each x r.0 xs sorted.0 r.1.0 in
    let equal : pair_cmp x r.0 ≡ Equal = (pair_cmp-Equal x r.0).1 same in
    cc (sym less ∙ equal)) in
    join (not (has_pair xs x.property)) (properties_differ xs) (ap not apart) (differ_among others xs sorted.1 d (λ p m. among p (inr m)))

-- ---- choosing

pub record IsChosen (lead : List ℕ → Bool) (agree : Pair → Bool) (qs : List Pair) (p : Pair) : Type 0 where
  pub here : Member p qs
  pub leads : lead p.property ≡ true
  pub agrees : agree p ≡ true

module _ (lead : List ℕ → Bool) (agree : Pair → Bool) where
  -- one more pair, on a property that leads and has none before, if it agrees
  abbrev pub chosen_with : List Pair → Pair → List Pair
  chosen_with chosen q = cond (lead q.property && (not (has_pair chosen q.property) && agree q)) (chosen ++ q ∷ []) chosen

  abbrev pub all_chosen : List Pair → List Pair → List Pair
  all_chosen = fold chosen_with

  kept : (qs acc : List Pair) (p : Pair) → Member p acc → Member p (all_chosen acc qs)
  kept [] acc p m = m
  kept (q ∷ qs) acc p m = at (lead q.property && (not (has_pair acc q.property) && agree q)) (kept qs (acc ++ q ∷ []) p (member_left acc (q ∷ []) p m)) (kept qs acc p m) where
    at : (b : Bool) → Member p (all_chosen (acc ++ q ∷ []) qs) → Member p (all_chosen acc qs) → Member p (all_chosen (cond b (acc ++ q ∷ []) acc) qs)
    at true into out = into
    at false into out = out

  has_kept : (qs acc : List Pair) (n : List ℕ) → has_pair acc n ≡ true → has_pair (all_chosen acc qs) n ≡ true
  has_kept qs acc n h =
      let r = has_pair-member acc n h in
      ap (has_pair (all_chosen acc qs)) r.1.1 ∙ member-has_pair (all_chosen acc qs) r.0 (kept qs acc r.0 r.1.0)

  -- what is chosen was there before, or is one of the pairs, leads and agrees
  from : (qs acc : List Pair) (p : Pair) → Member p (all_chosen acc qs) → Member p acc ⊎ IsChosen lead agree qs p
  from [] acc p m = inl m
  from (q ∷ qs) acc p m = at (lead q.property && (not (has_pair acc q.property) && agree q)) refl (from qs (acc ++ q ∷ []) p) (from qs acc p) m where
    later : Member p acc ⊎ IsChosen lead agree qs p → Member p acc ⊎ IsChosen lead agree (q ∷ qs) p
    later (inl k) = inl k
    later (inr k) = inr (record { here = inr k.here; leads = k.leads; agrees = k.agrees })

    now : (lead q.property && (not (has_pair acc q.property) && agree q)) ≡ true → Member p (acc ++ q ∷ []) ⊎ IsChosen lead agree qs p → Member p acc ⊎ IsChosen lead agree (q ∷ qs) p
    now e (inr k) = inr (record { here = inr k.here; leads = k.leads; agrees = k.agrees })
    now e (inl k) = elim (member_append acc (q ∷ []) p k) [
      | inl before ↦ inl before
      | inr last ↦ elim last [
        | inl same ↦
            let first = both (lead q.property) (not (has_pair acc q.property) && agree q) e in
            inr (record {
              here = inl same;
              leads = ap (λ (y : Pair). lead y.property) same ∙ first.0;
              agrees = ap agree same ∙ (both (not (has_pair acc q.property)) (agree q) first.1).1;
            })
        | inr none ↦ absurd none
      ]
    ]

    at : (b : Bool) → (lead q.property && (not (has_pair acc q.property) && agree q)) ≡ b → (Member p (all_chosen (acc ++ q ∷ []) qs) → Member p (acc ++ q ∷ []) ⊎ IsChosen lead agree qs p) → (Member p (all_chosen acc qs) → Member p acc ⊎ IsChosen lead agree qs p) → Member p (all_chosen (cond b (acc ++ q ∷ []) acc) qs) → Member p acc ⊎ IsChosen lead agree (q ∷ qs) p
    at true e into out m = now e (into m)
    at false e into out m = later (out m)

  differ_kept : (qs acc : List Pair) → properties_differ acc ≡ true → properties_differ (all_chosen acc qs) ≡ true
  differ_kept [] acc d = d
  differ_kept (q ∷ qs) acc d = at (lead q.property && (not (has_pair acc q.property) && agree q)) refl (differ_kept qs (acc ++ q ∷ [])) (differ_kept qs acc d) where
    at : (b : Bool) → (lead q.property && (not (has_pair acc q.property) && agree q)) ≡ b → (properties_differ (acc ++ q ∷ []) ≡ true → properties_differ (all_chosen (acc ++ q ∷ []) qs) ≡ true) → properties_differ (all_chosen acc qs) ≡ true → properties_differ (all_chosen (cond b (acc ++ q ∷ []) acc) qs) ≡ true
    at true e into out =
        let rest = (both (lead q.property) (not (has_pair acc q.property) && agree q) e).1 in
        into (differ_more acc q d (not_true (has_pair acc q.property) (both (not (has_pair acc q.property)) (agree q) rest).0))
    at false e into out = out

  -- a pair that leads and agrees has its property among the chosen
  reached : (qs acc : List Pair) (p : Pair) → Member p qs → lead p.property ≡ true → agree p ≡ true → has_pair (all_chosen acc qs) p.property ≡ true
  reached [] acc p m l a = absurd m
  reached (q ∷ qs) acc p (inr m) l a = at (lead q.property && (not (has_pair acc q.property) && agree q)) (reached qs (acc ++ q ∷ []) p m l a) (reached qs acc p m l a) where
    at : (b : Bool) → has_pair (all_chosen (acc ++ q ∷ []) qs) p.property ≡ true → has_pair (all_chosen acc qs) p.property ≡ true → has_pair (all_chosen (cond b (acc ++ q ∷ []) acc) qs) p.property ≡ true
    at true into out = into
    at false into out = out
  reached (q ∷ qs) acc p (inl e) l a = at (has_pair acc q.property) refl where
    leads-q : lead q.property ≡ true
    leads-q = ap (λ (y : Pair). lead y.property) (sym e) ∙ l

    agrees-q : agree q ≡ true
    agrees-q = ap agree (sym e) ∙ a

    named : (xs : List Pair) → has_pair xs q.property ≡ true → has_pair xs p.property ≡ true
    named xs h = ap (λ (y : Pair). has_pair xs y.property) e ∙ h

    at : (b : Bool) → has_pair acc q.property ≡ b → has_pair (all_chosen (cond (lead q.property && (not (has_pair acc q.property) && agree q)) (acc ++ q ∷ []) acc) qs) p.property ≡ true
    at true h =
        let out : (lead q.property && (not (has_pair acc q.property) && agree q)) ≡ false = λ i. leads-q i && (not (h i) && agree q) in
        ap (λ b. has_pair (all_chosen (cond b (acc ++ q ∷ []) acc) qs) p.property) out ∙ named (all_chosen acc qs) (has_kept qs acc q.property h)
    at false h =
        let into : (lead q.property && (not (has_pair acc q.property) && agree q)) ≡ true = λ i. leads-q i && (not (h i) && agrees-q i) in
        ap (λ b. has_pair (all_chosen (cond b (acc ++ q ∷ []) acc) qs) p.property) into
        ∙ named (all_chosen (acc ++ q ∷ []) qs) (has_kept qs (acc ++ q ∷ []) q.property (member-has_pair (acc ++ q ∷ []) q (member_right acc (q ∷ []) q (inl refl))))

  -- what holds of all that is chosen from nothing
  pub chosen_from : (qs : List Pair) (p : Pair) → Member p (all_chosen [] qs) → IsChosen lead agree qs p
  chosen_from qs p m = elim (from qs [] p m) [ inl none ↦ absurd none | inr k ↦ k ]

  pub chosen_differ : (qs : List Pair) → properties_differ (all_chosen [] qs) ≡ true
  chosen_differ qs = differ_kept qs [] refl

  pub chosen_reach : (qs : List Pair) (p : Pair) → Member p qs → lead p.property ≡ true → agree p ≡ true → has_pair (all_chosen [] qs) p.property ≡ true
  chosen_reach qs = reached qs []

-- ---- chosen pairs ascend

fewer_below : (x : Pair) (acc : List Pair) (q : Pair) (qs : List Pair) → AllByRecursion (λ z. pair_cmp x z ≡ Less) (acc ++ q ∷ qs) → AllByRecursion (λ z. pair_cmp x z ≡ Less) (acc ++ qs)
fewer_below x [] q qs h = h.1
fewer_below x (y ∷ acc) q qs h = (h.0, fewer_below x acc q qs h.1)

-- pairs that ascend still do without one of them
without : (acc : List Pair) (q : Pair) (qs : List Pair) → IsStrictlySortedBy pair_cmp (acc ++ q ∷ qs) → IsStrictlySortedBy pair_cmp (acc ++ qs)
unfolding IsStrictlySortedBy
without [] q qs h = h.1
without (x ∷ acc) q qs h = (fewer_below x acc q qs h.0, without acc q qs h.1)

module _ (lead : List ℕ → Bool) (agree : Pair → Bool) where
  pub chosen_ascend : (qs acc : List Pair) → IsStrictlySortedBy pair_cmp (acc ++ qs) → IsStrictlySortedBy pair_cmp (all_chosen lead agree acc qs)
  chosen_ascend [] acc h = subst (IsStrictlySortedBy pair_cmp) (append-nil acc) h
  chosen_ascend (q ∷ qs) acc h = at (lead q.property && (not (has_pair acc q.property) && agree q)) (chosen_ascend qs (acc ++ q ∷ []) (subst (IsStrictlySortedBy pair_cmp) (sym (append_assoc acc (q ∷ []) qs)) h)) (chosen_ascend qs acc (without acc q qs h)) where
    at : (b : Bool) → IsStrictlySortedBy pair_cmp (all_chosen lead agree (acc ++ q ∷ []) qs) → IsStrictlySortedBy pair_cmp (all_chosen lead agree acc qs) → IsStrictlySortedBy pair_cmp (all_chosen lead agree (cond b (acc ++ q ∷ []) acc) qs)
    at true into out = into
    at false into out = out
