-- What a member keeps at each place, after one is put or all are made idle.
use Rattle.std.proofs.Common.{◌≡◌, ◌≢◌, ◌⊎◌, inl, inr, ℕ, arith, List, [], ◌∷◌, Bool, true, false, cond, nat_cmp, is_eq}
use Rattle.std.proofs.Common.{Option, Some, None, unwrap_or, Ordering, Less, Equal, Greater, refl, sym, ap, ◌∙◌}
use Rattle.std.proofs.lemmas.Bool.Decides.{eqb_tells, nat_tests}
use Rattle.std.proofs.lemmas.Map.Lookups.{exact_unsigned}
use Rattle.std.specs.BTreeMap.{is_at}
use Rattle.std.specs.Map.{lookup}
use Rattle.std.specs.Ordering.{match_ordering, ordering_then}
use Rattle.ds_paxos.specs.declared.instance.Instance.{Instance}
use Rattle.ds_paxos.specs.declared.message.Place.{Place}
use Rattle.ds_paxos.specs.Members.{blank, idle, instance_in, place_order, restarted, with_instance}

-- ---- places

pub tells_place : (p q : Place) → (p ≡ q) ⊎ (p ≢ q)
tells_place p q = elim (eqb_tells p.log q.log) [
  | inl log ↦ elim (eqb_tells p.position q.position) [
    | inl position ↦ inl (both log.1 position.1)
    | inr other ↦ inr (λ e. other.1 (ap (λ (r : Place). r.position) e))
  ]
  | inr other ↦ inr (λ e. other.1 (ap (λ (r : Place). r.log) e))
]
  where
    both : p.log ≡ q.log → p.position ≡ q.position → p ≡ q
    both e f = λ i. record { log = e i; position = f i }

pub place_same : (p : Place) → place_order p p ≡ Equal
place_same p = rw (number p.log, number p.position) refl
  where
    number : (k : ℕ) → nat_cmp k k ≡ Equal
    number k = grind (arith, nat_tests)

pub place_exact : (p q : Place) → place_order p q ≡ Equal → p ≡ q
place_exact p q e = by (nat_cmp p.log q.log) refl e
  where
    by : (o : Ordering) → nat_cmp p.log q.log ≡ o → ordering_then o (nat_cmp p.position q.position) ≡ Equal → p ≡ q
    by Less h e = absurd (cc e)
    by Equal h e = λ i. record { log = exact_unsigned p.log q.log h i; position = exact_unsigned p.position q.position e i }
    by Greater h e = absurd (cc e)

equal : (o : Ordering) → is_eq o ≡ true → o ≡ Equal
equal Less e = absurd (cc e)
equal Equal e = refl
equal Greater e = absurd (cc e)

unequal : (b : Bool) → (b ≡ true → ⊥) → b ≡ false
unequal true none = absurd (none refl)
unequal false none = refl

apart : (p q : Place) → p ≢ q → is_at (place_order p) q ≡ false
apart p q other = unequal _ (λ e. other (place_exact p q (equal (place_order p q) e)))

-- ---- an instance is put

put_here : (es : List (Place × Instance)) (p : Place) (s : Instance) → lookup (is_at (place_order p)) (with_instance es p s) ≡ Some s
put_here [] p s = ap (λ (o : Ordering). cond (is_eq o) (Some s) None) (place_same p)
put_here (e ∷ es) p s = by (put_here es p s) (place_order p e.0) refl
  where
    by : lookup (is_at (place_order p)) (with_instance es p s) ≡ Some s → (o : Ordering) → place_order p e.0 ≡ o
        → lookup (is_at (place_order p)) (match_ordering o ((p, s) ∷ e ∷ es) ((e.0, s) ∷ es) (e ∷ with_instance es p s)) ≡ Some s
    by rest Less h = ap (λ (o : Ordering). cond (is_eq o) (Some s) (lookup (is_at (place_order p)) (e ∷ es))) (place_same p)
    by rest Equal h = ap (λ (o : Ordering). cond (is_eq o) (Some s) (lookup (is_at (place_order p)) es)) h
    by rest Greater h = ap (λ (o : Ordering). cond (is_eq o) (Some e.1) (lookup (is_at (place_order p)) (with_instance es p s))) h ∙ rest

put_elsewhere : (es : List (Place × Instance)) (p q : Place) (s : Instance) → p ≢ q
    → lookup (is_at (place_order p)) (with_instance es q s) ≡ lookup (is_at (place_order p)) es
put_elsewhere [] p q s other = ap (λ (b : Bool). cond b (Some s) None) (apart p q other)
put_elsewhere (e ∷ es) p q s other = by (put_elsewhere es p q s other) (place_order q e.0) refl
  where
    by : lookup (is_at (place_order p)) (with_instance es q s) ≡ lookup (is_at (place_order p)) es → (o : Ordering) → place_order q e.0 ≡ o
        → lookup (is_at (place_order p)) (match_ordering o ((q, s) ∷ e ∷ es) ((e.0, s) ∷ es) (e ∷ with_instance es q s)) ≡ lookup (is_at (place_order p)) (e ∷ es)
    by rest Less h = ap (λ (b : Bool). cond b (Some s) (lookup (is_at (place_order p)) (e ∷ es))) (apart p q other)
    by rest Equal h =
        let miss : is_at (place_order p) e.0 ≡ false = apart p e.0 (λ same. other (same ∙ sym (place_exact q e.0 h))) in
        ap (λ (b : Bool). cond b (Some s) (lookup (is_at (place_order p)) es)) miss ∙ sym (ap (λ (b : Bool). cond b (Some e.1) (lookup (is_at (place_order p)) es)) miss)
    by rest Greater h = ap (λ (r : Option Instance). cond (is_at (place_order p) e.0) (Some e.1) r) rest

pub with_here : (es : List (Place × Instance)) (p : Place) (s : Instance) → instance_in (with_instance es p s) p ≡ s
with_here es p s = ap (λ (o : Option Instance). unwrap_or o blank) (put_here es p s)

pub with_elsewhere : (es : List (Place × Instance)) (p q : Place) (s : Instance) → p ≢ q → instance_in (with_instance es q s) p ≡ instance_in es p
with_elsewhere es p q s other = ap (λ (o : Option Instance). unwrap_or o blank) (put_elsewhere es p q s other)

-- ---- a restart

pub restarted_here : (es : List (Place × Instance)) (p : Place) → instance_in (restarted es) p ≡ idle (instance_in es p)
restarted_here [] p = refl
restarted_here (e ∷ es) p = by (restarted_here es p) (is_at (place_order p) e.0)
  where
    by : instance_in (restarted es) p ≡ idle (instance_in es p) → (b : Bool) → unwrap_or (cond b (Some (idle e.1)) (lookup (is_at (place_order p)) (restarted es))) blank
        ≡ idle (unwrap_or (cond b (Some e.1) (lookup (is_at (place_order p)) es)) blank)
    by rest true = refl
    by rest false = rest
